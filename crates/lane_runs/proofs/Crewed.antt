-- How many lanes there are, and room that is enough.
use Rattle.std.specs.Global.{Vec}
use Rattle.lane_runs.specs.declared.blank.Blank.{Blank}
use Rattle.lane_runs.specs.Blanks.{HasRoom, IsBlankFor}
use Rattle.std.proofs.Common.{◌≡◌, ℕ, ◌+◌, ◌*◌, ◌≤◌, List, [], ◌∷◌, length, ap, arith}
use Rattle.lane_threads.specs.declared.pair.Either.{Either}
use Rattle.lane_threads.specs.declared.pair.Either.TheVariants.{First, Second}
use Rattle.remote_messages.specs.declared.work.WorkAction.{WorkAction}
use Rattle.run_plan.specs.declared.plan.Speech.{Speech}
use Rattle.run_values.specs.declared.settings.Settings.{Settings}
use Rattle.lane_runs.specs.declared.proxies.ProxyStart.{ProxyStart}
use Rattle.tap_lane.specs.declared.seat.TapStart.{TapStart}
use Rattle.lane_runs.specs.Seats.{AreSeats}

pub two_each : {B : Type 0} (settings : Settings) (actions : List WorkAction) (w : ℕ) (bs : List B) (ss : List Speech)
    (lanes : List (Either (ProxyStart B) TapStart)) → AreSeats settings actions w bs ss lanes
    → length lanes ≡ 2 * length ss
two_each settings actions w [] [] lanes are = ap length are
two_each settings actions w (b ∷ bs) (s ∷ ss) (First x ∷ Second y ∷ lanes) are =
    let rest = two_each settings actions (w + 1) bs ss lanes are.2 in omega (arith, rest)
two_each settings actions w (b ∷ bs) (s ∷ ss) [] are = absurd are
two_each settings actions w (b ∷ bs) (s ∷ ss) (First x ∷ []) are = absurd are
two_each settings actions w (b ∷ bs) (s ∷ ss) (First x ∷ First y ∷ lanes) are = absurd are
two_each settings actions w (b ∷ bs) (s ∷ ss) (Second x ∷ lanes) are = absurd are
two_each settings actions w [] (s ∷ ss) lanes are = absurd are
two_each settings actions w (b ∷ bs) [] lanes are = absurd are

pub room_suits : {X : Type 0} (n n' : ℕ) (v : Vec X) → HasRoom n v → n' ≤ n → HasRoom n' v
room_suits n n' v has less = record {
  empty = has.empty;
  room = let room = has.room in omega (arith, room, less);
}

-- room for more is room enough
pub blank_suits : {B D T K P : Type 0} (b n a b' n' a' : ℕ) (blank : Blank B D T K P)
    → IsBlankFor b n a blank → b' ≤ b → n' ≤ n → a' ≤ a → IsBlankFor b' n' a' blank
blank_suits b n a b' n' a' blank has fewer_berths fewer_lines fewer_places = record {
  berths_fit = room_suits b b' blank.berths has.berths_fit fewer_berths;
  lines_fit = room_suits n n' blank.lines has.lines_fit fewer_lines;
  unsaid_fit = room_suits b b' blank.unsaid has.unsaid_fit fewer_berths;
  places_fit = room_suits a a' blank.places has.places_fit fewer_places;
}
