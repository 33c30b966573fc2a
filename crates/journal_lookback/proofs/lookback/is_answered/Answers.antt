use Rattle.std.proofs.Common.{◌∙◌}
use Rattle.journal_lookback.proofs.LookedBack.{answered_any}
use Rattle.journal_lookback.proofs.lookback.is_answered.Goals as goal

pub returns : goal.returns
returns c = c.has_consumed.ensures ∙ answered_any c.args.front.now c.args.attempt
