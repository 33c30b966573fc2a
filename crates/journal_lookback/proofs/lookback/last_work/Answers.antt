use Rattle.std.proofs.Common.{◌∙◌}
use Rattle.journal_lookback.proofs.LookedBack.{last_work_find}
use Rattle.journal_lookback.proofs.lookback.last_work.Goals as goal

pub returns : goal.returns
returns c = c.newest_work.ensures ∙ last_work_find c.args.front.now c.args.lane
