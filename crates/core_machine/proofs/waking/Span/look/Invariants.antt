use Rattle.std.specs.Prelude.{◌+◌}
use Rattle.core_machine.specs.Marks.{Marks}
use Rattle.core_machine.proofs.waking.Span.look.Given as goal

abbrev pub invariant-loop-k : goal.invariant-loop-k
invariant-loop-k g l = Marks l.with_news l.k (λ k. g.C.Rules.news l.core (l.first + k))
