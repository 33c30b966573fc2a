use Rattle.std.proofs.Common.{is_some, ap, ◌∙◌, reverse}
use Rattle.journal_lookback.proofs.Judged.{dropped_end}
use Rattle.journal_lookback.proofs.outcomes.is_dropped.Goals as goal

pub returns : goal.returns
returns c = c.is_some.ensures ∙ ap is_some c.end.ensures ∙ dropped_end c.args.plan.now (reverse c.args.entries.now) c.args.action c.args.branch
