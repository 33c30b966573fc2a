-- The lanes at a slot, from their numbers to their ends.
use Rattle.std.proofs.Common.{◌≡◌, ℕ, suc, ◌+◌, ◌*◌, ◌%◌, ◌<◌, refl, List, [], ◌∷◌, ◌++◌, length, length-append, sym, ◌∙◌, ap, subst, arith}
use Rattle.seat_desk.specs.declared.machine.Machine.{Ghosts}
use Rattle.plain_values.specs.declared.entry.Entry.{Entry}
use Rattle.seat_desk.specs.declared.desk.Pass.{Pass}
use Rattle.seat_desk.specs.declared.desk.Desk.{Desk}
use Rattle.seat_desk.specs.Passes.{IsPassOf, IsSamePass, mine}
use Rattle.desk_machines.specs.declared.nothing.Nothing.{Nothing}
use Rattle.lane_threads.specs.Lanes.{IsFresh}
use Rattle.lane_threads.specs.LaneJobs.{MayRunInOrder, EachLane}
use Rattle.desk_machines.specs.declared.slot.Ask.{Ask}
use Rattle.desk_machines.specs.declared.slot.Answer.{Answer}
use Rattle.desk_machines.specs.declared.slot.Slot.{Slot}
use Rattle.desk_machines.specs.declared.exchanging.SlotLane.{SlotLane}
use Rattle.desk_machines.specs.declared.exchanging.SlotEnd.{SlotEnd}
use Rattle.desk_machines.specs.declared.exchanging.SlotLane.TheVariants.{Fills, Empties}
use Rattle.desk_machines.specs.declared.exchanging.SlotEnd.TheVariants.{Filled, Emptied}
use Rattle.desk_machines.specs.Ends.{HasNumber, IsNumbered, NumberedFrom, HasEndedSo, IsCount, AreCounts, HasMade}

pub one_numbered : (most k n : ℕ) (lanes : List SlotLane) (lane : SlotLane) → n ≡ k + length lanes → NumberedFrom most k lanes → IsNumbered most n lane → NumberedFrom most k (lanes ++ lane ∷ [])
one_numbered most k n [] lane e x y = (subst (λ (m : ℕ). IsNumbered most m lane) (let f : n ≡ k = omega (arith, e) in f) y, tt)
one_numbered most k n (l ∷ ls) lane e x y = (x.0, one_numbered most (k + 1) n ls lane (omega (arith, e)) x.1 y)

has_number : (most k : ℕ) (lane : SlotLane) → IsNumbered most k lane → HasNumber k lane
has_number most k (Fills lane) x = x.0
has_number most k (Empties lane) x = x.0

is_count : {X : Type 0} (most k : ℕ) (lane : SlotLane) (mine : List X) (end : SlotEnd) → IsNumbered most k lane → HasEndedSo lane mine end → IsCount most k mine end
is_count most k (Fills lane) mine (Filled made) x h = (x.2, subst (λ (n : ℕ). HasMade n mine made) x.1 h)
is_count most k (Empties lane) mine (Emptied made) x h = (x.2, subst (λ (n : ℕ). HasMade n mine made) x.1 h)
is_count most k (Fills lane) mine (Emptied made) x h = absurd h
is_count most k (Empties lane) mine (Filled made) x h = absurd h

module _ (g : Ghosts Slot Ask Answer Nothing Nothing) where
  abbrev pub MayFill : SlotLane → Desk Slot Ask Answer Nothing Nothing → ℕ → Pass Slot Ask Answer Nothing Nothing g → Type 0
  MayFill lane desk bells pass = IsPassOf desk pass × IsFresh pass × (pass.lane < bells) × HasNumber pass.lane lane

  abbrev pub HasFilled : SlotLane → Pass Slot Ask Answer Nothing Nothing g → SlotEnd → Pass Slot Ask Answer Nothing Nothing g → Type 0
  HasFilled lane pass end after = IsSamePass pass after × HasEndedSo lane (mine after) end

  pub all_may : (q : Nothing) (most k : ℕ) (lanes : List SlotLane) → NumberedFrom most k lanes → MayRunInOrder MayFill q k lanes
  all_may q most k [] x = tt
  all_may q most k (l ∷ ls) x =
      ((λ desk bells pass of fresh number bell by. (of, fresh, subst (λ (n : ℕ). n < bells) (sym number) bell, subst (λ (n : ℕ). HasNumber n l) (sym number) (has_number most k l x.0))), all_may q most (k + 1) ls x.1)

  pub all_end : (q : Nothing) (most : ℕ) (h : List (Entry Ask Answer)) (k : ℕ) (lanes : List SlotLane) (ends : List SlotEnd) → NumberedFrom most k lanes → EachLane HasFilled q h k lanes ends
      → AreCounts most k h ends × (length ends ≡ length lanes)
  all_end q most h k [] [] n x = (tt, refl)
  all_end q most h k (l ∷ ls) (e ∷ es) n x =
      let more = all_end q most h (k + 1) ls es n.1 x.1 in
      ((subst (λ (cs : List (Entry Ask Answer)). IsCount most k cs e) x.0.made (is_count most k l (mine x.0.after) e n.0 x.0.ran.1), more.0), ap suc more.1)
  all_end q most h k [] (e ∷ es) n x = absurd x
  all_end q most h k (l ∷ ls) [] n x = absurd x

pub two_numbered : (most n : ℕ) (lanes lanes1 lanes2 : List SlotLane) (a b : SlotLane) → NumberedFrom most 0 lanes × (length lanes ≡ 2 * n) → lanes1 ≡ lanes ++ a ∷ [] → lanes2 ≡ lanes1 ++ b ∷ []
    → IsNumbered most (2 * n) a → IsNumbered most (2 * n + 1) b → NumberedFrom most 0 lanes2 × (length lanes2 ≡ 2 * (n + 1))
two_numbered most n lanes lanes1 lanes2 a b was e f x y =
    let len1 : length lanes1 ≡ 2 * n + 1 = ap length e ∙ (length-append lanes (a ∷ []) ∙ ap (λ (k : ℕ). k + 1) was.1) in
    let len2 : length lanes2 ≡ (2 * n + 1) + 1 = ap length f ∙ (length-append lanes1 (b ∷ []) ∙ ap (λ (k : ℕ). k + 1) len1) in
    let one : NumberedFrom most 0 lanes1 = subst (λ (ls : List SlotLane). NumberedFrom most 0 ls) (sym e) (one_numbered most 0 (2 * n) lanes a (omega (arith, was.1)) was.0 x) in
    (subst (λ (ls : List SlotLane). NumberedFrom most 0 ls) (sym f) (one_numbered most 0 (2 * n + 1) lanes1 b (omega (arith, len1)) one y), omega (arith, len2))

-- the numbers of a pair
pub even : (n : ℕ) → (2 * n) % 2 ≡ 0
even n = omega arith

pub odd : (n : ℕ) → (2 * n + 1) % 2 ≡ 1
odd n = omega arith
