-- What a Take asks and leaves.
use Rattle.std.specs.Prelude.{◌≡◌, ℕ, [], ◌∷◌, ◌++◌, Option, Some, None}
use Rattle.seat_desk.specs.History.{entry}
use Rattle.exec_journal.specs.declared.call.Call.TheVariants as call
use Rattle.exec_journal.specs.declared.reply.Reply.TheVariants as reply
use Rattle.core_contract.specs.Moves.{History}
use Rattle.core_contract.specs.Laws.{hearing_of, Hears}
use Rattle.core_machine.specs.declared.shelf.Good.{Good}
use Rattle.core_machine.specs.declared.shelf.Good.TheVariants as good
use Rattle.tap_lane.specs.declared.calls.Took.{Took}
use Rattle.tap_lane.specs.declared.calls.Took.TheVariants as took

-- the tap in a good
abbrev pub tap_good : {K T P : Type 0} → Option (Good K T P) → Option T
tap_good (Some (good.Tap t)) = Some t
tap_good _ = None

-- what the lane's own entries are after its Take, by what it was answered
abbrev pub HasTaken : {T : Type 0} → (ℕ → T → Type 0) → ℕ → History → Took T → History → Type 0
HasTaken IsTapOf lane own (took.Line l t) own' =
    IsTapOf l t × (own' ≡ own ++ entry lane call.Take (reply.Line l) ∷ [])
    × (hearing_of own' ≡ Hears l)
HasTaken IsTapOf lane own took.Stop own' = own' ≡ own ++ entry lane call.Take reply.Stop ∷ []
