use Rattle.job_runner.proofs.Answering.{answers_so}
use Rattle.job_runner.proofs.running.run_job.Goals as goal

pub returns : goal.returns
returns g c =
    let told = g.S.Shop.told in
    answers_so c.args.job.now c.in_ok-whole.whole c.bounded.result (told c.args.shop.now)
    (told c.do_job.new.shop) c.in_ok-whole.ensures c.bounded.ensures
