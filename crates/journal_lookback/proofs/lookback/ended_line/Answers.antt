use Rattle.std.proofs.Common.{sym, ◌∙◌}
use Rattle.journal_lookback.proofs.LookedBack.{ended_line_some, ended_line_not}
use Rattle.journal_lookback.proofs.lookback.ended_line.Goals as goal

pub returns-then-not-has_end : goal.returns-then-not-has_end
returns-then-not-has_end c = sym (ended_line_not c.args.front.now c.in_ok-line.line c.args.line c.in_ok-line.was (sym c.has_end.ensures ∙ c.if-not-has_end.true))

pub returns : goal.returns
returns c = c.line_cause.ensures ∙ sym (ended_line_some c.args.front.now c.in_ok-line.line c.args.line c.in_ok-line.was (sym c.has_end.ensures ∙ c.if-not-has_end.false))
