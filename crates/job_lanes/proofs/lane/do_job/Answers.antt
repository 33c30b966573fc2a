use Rattle.std.proofs.Common.{sym, ◌∙◌}
use Rattle.job_runner.specs.Calls.{bad_path}
use Rattle.job_lanes.proofs.Doing.{refuses_or_not, refused_or_not}
use Rattle.job_lanes.proofs.lane.do_job.Goals as goal

pub returns-then-has_bad_path-clause-done : goal.returns-then-has_bad_path-clause-done
unfolding bad_path
returns-then-has_bad_path-clause-done g c =
    refuses_or_not c.args.job.now c.refused.result (g.S.Shop.told c.args.shop.now)
    (sym c.has_bad_path.ensures ∙ c.if-has_bad_path.true) c.refused.ensures

pub returns-then-has_bad_path-clause-broken : goal.returns-then-has_bad_path-clause-broken
returns-then-has_bad_path-clause-broken g c =
    refused_or_not c.args.job.now c.refused.result (g.S.Shop.told c.args.shop.now)
    (sym c.has_bad_path.ensures ∙ c.if-has_bad_path.true)
