use Rattle.std.proofs.Common.{sym, ◌∙◌}
use Rattle.journal_lookback.proofs.LookedBack.{cause_found, cause_none}
use Rattle.journal_lookback.proofs.lookback.line_cause.Goals as goal

pub returns-then-is_some : goal.returns-then-is_some
returns-then-is_some c =
    cause_found c.args.front.now c.args.line c.loop-i.i c.index-front-i.result c.break_in-cause.result c.loop-i-test.true c.index-front-i.is c.loop-i.invariant
    c.break_in-cause.ensures (sym c.is_some.ensures ∙ c.if-is_some.true)

pub returns : goal.returns
returns c = cause_none c.args.front.now c.args.line c.loop-i.i c.loop-i-test.false c.loop-i.invariant
