use Rattle.job_runner.specs.Calls.{bad_path}
use Rattle.job_runner.proofs.Answering.{cancels, gives_up, refuses, runs}
use Rattle.job_runner.proofs.executor.ExecutorService.answer.Goals as goal

pub returns-in-Cancels : goal.returns-in-Cancels
returns-in-Cancels g c =
    cancels c.fate_of.result c.args.message.now c.args.behind.now (g.S.Shop.told c.args.shop.now)
    c.fate_of.ensures c.in-Cancels.is

pub returns-in-GivenUp : goal.returns-in-GivenUp
returns-in-GivenUp g c =
    gives_up c.fate_of.result c.args.message.now c.args.behind.now c.given_up.result c.framed.result
    (g.S.Shop.told c.args.shop.now) c.fate_of.ensures c.in-GivenUp.is c.given_up.ensures
    c.framed.ensures

pub returns-in_ok-refused-in-BadPath : goal.returns-in_ok-refused-in-BadPath
unfolding bad_path
returns-in_ok-refused-in-BadPath g c =
    refuses c.fate_of.result c.args.message.now c.args.behind.now c.in_ok-refused-in-BadPath.field-0
    c.framed-in-BadPath.result (g.S.Shop.told c.args.shop.now) c.fate_of.ensures c.in-BadPath.is
    c.in_ok-refused-in-BadPath.ensures c.framed-in-BadPath.ensures

pub returns-in_ok-run_job-in-Runs : goal.returns-in_ok-run_job-in-Runs
returns-in_ok-run_job-in-Runs g c =
    runs c.fate_of.result c.args.message.now c.args.behind.now c.in_ok-run_job-in-Runs.field-0
    c.framed-in-Runs.result (g.S.Shop.told c.args.shop.now) (g.S.Shop.told c.run_job.new.shop)
    c.fate_of.ensures c.in-Runs.is c.in_ok-run_job-in-Runs.ensures c.framed-in-Runs.ensures
