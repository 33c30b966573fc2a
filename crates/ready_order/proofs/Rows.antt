-- A few states, and the least action that is queued in some of the groups.
use Rattle.std.proofs.Common.{◌≡◌, ℕ, ◌==◌, Bool, true, false, List, [], ◌∷◌, Option, Some, None, refl}
use Rattle.run_plan.specs.declared.plan.Branch.TheVariants.{Local, Remote}
use Rattle.exec_journal.specs.declared.ends.Standing.TheVariants.{Open}
use Rattle.ready_order.specs.declared.ActionState.{ActionState}
use Rattle.ready_order.specs.Queue.{least_among}

-- an action whose branches are run by these groups
abbrev run : List ℕ → Option ℕ → Option ℕ → ActionState
run producers local remote = record {
  producers = producers;
  local = record { group = local; free = true };
  remote = record { group = remote; free = true };
  granted = false;
  own = Open;
}

-- the first is queued in group 0 alone, the second in groups 1 and 2, and the third isn't ready
abbrev states : List ActionState
states = run [] (Some 0) None ∷ run [] (Some 1) (Some 2) ∷ run (0 ∷ []) (Some 3) None ∷ []

abbrev any : ℕ → Bool
any g = true

abbrev none : ℕ → Bool
none g = false

in_any : least_among states any ≡ Some (0, Local)
in_any = refl

-- the group of the lesser action isn't in the set
in_one : least_among states (λ g. g == 1) ≡ Some (1, Local)
in_one = refl

by_remote : least_among states (λ g. g == 2) ≡ Some (1, Remote)
by_remote = refl

in_none : least_among states none ≡ None
in_none = refl

unready : least_among states (λ g. g == 3) ≡ None
unready = refl
