use Rattle.std.proofs.Common.{◌∙◌, reverse}
use Rattle.journal_ends.proofs.Replayed.{ended_by}
use Rattle.journal_ends.proofs.replay.ended_at.Goals as goal

pub returns-then-at-lines : goal.returns-then-at-lines
returns-then-at-lines c = c.cause_of.ensures ∙ ended_by c.args.lines.now (reverse c.args.before.now) c.args.line c.in-Some.number _ c.requires c.in-Some.is c.if-at-lines.true
