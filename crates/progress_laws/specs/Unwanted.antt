-- Pending requests that nobody wants any more.
use Rattle.std.specs.Prelude.{◌≡◌, ℕ, true, false, ◌⊎◌, List}
use Rattle.run_plan.specs.declared.plan.Plan.{Plan}
use Rattle.run_plan.specs.Groups.{is_single}
use Rattle.exec_journal.specs.Entry.{Entry}
use Rattle.exec_journal.specs.Rules.{is_unwanted}
use Rattle.exec_journal.specs.Seated.{line_kind, may_be_asked}
use Rattle.exec_journal.specs.Words.{has_cancel, pending}
use Rattle.journal_laws.specs.Invariant.{EachRequest}

-- the line can't be asked to cancel a request, and isn't killed for one, since it may have others
pub record CantBeAsked (p : Plan) (j : List Entry) (l : ℕ) : Type 0 where
  pub unasked : may_be_asked p j l ≡ false
  pub shared : is_single (line_kind p j l) ≡ false

-- each pending request of the line that isn't wanted has a Cancel, where the line can be asked
abbrev pub UnwantedAreAsked : Plan → List Entry → ℕ → Type 0
UnwantedAreAsked p j l = EachRequest
    (λ r. is_unwanted p j r ≡ true → (has_cancel j r ≡ true) ⊎ CantBeAsked p j l) (pending j l)
