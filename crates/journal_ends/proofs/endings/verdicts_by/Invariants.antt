use Rattle.std.proofs.Common.{◌≡◌, ◌++◌, reverse, drop}
use Rattle.journal_ends.specs.Endings.{verdicts_from}
use Rattle.journal_ends.proofs.endings.verdicts_by.Given as goal

abbrev pub invariant-loop-a : goal.invariant-loop-a
invariant-loop-a l = l.verdicts.items ++ verdicts_from l.plan (reverse l.entries) l.a (drop l.a l.plan.actions) ≡ verdicts_from l.plan (reverse l.entries) 0 l.plan.actions
