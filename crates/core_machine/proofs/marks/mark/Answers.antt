use Rattle.std.proofs.Common.{◌+◌, ℕ, bit_or, subst, sym, ◌∙◌}
use Rattle.std.proofs.lemmas.Nat.{one_shl}
use Rattle.core_machine.specs.Marks.{Marks}
use Rattle.core_machine.proofs.Marking.{marks_on, marks_off}
use Rattle.core_machine.proofs.marks.mark.Goals as goal

pub returns-then-is : goal.returns-then-is
returns-then-is c = λ f m holds.
    subst (λ (b : ℕ). Marks (bit_or c.args.lanes b) (c.args.lane + 1) f)
    (sym (one_shl c.args.lane 128 c.requires))
    (marks_on c.args.lanes c.args.lane f m (holds ∙ c.if-is.true))

pub returns-else-is : goal.returns-else-is
returns-else-is c = λ f m fails. marks_off c.args.lanes c.args.lane f m (fails ∙ c.if-is.false)
