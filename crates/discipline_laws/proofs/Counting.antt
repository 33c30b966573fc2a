-- An entry changes what its own lane owes, and what no other does.
use Rattle.std.proofs.Common.{◌≡◌, ℕ, zero, suc, ◌+◌, ◌*◌, ◌<◌, ◌≤◌, ◌==◌, Bool, true, false, cond, List, ◌∷◌, refl, ap, sym, subst, ◌∙◌, arith, inl, inr}
use Rattle.std.proofs.lemmas.Bool.{ne_eqb, cases_lt}
use Rattle.exec_journal.specs.declared.call.Call.{Call}
use Rattle.exec_journal.specs.Entry.{Entry}
use Rattle.exec_journal.specs.declared.reply.Reply.{Reply}
use Rattle.exec_journal.specs.Entries.{is_kept}
use Rattle.exec_journal.specs.Legal.{after}
use Rattle.exec_journal.specs.Words.{last_work}
use Rattle.std.specs.Prelude.{◌&&◌, not}
use Rattle.journal_laws.specs.Paid.{count, lane_owes, lanes_owe, may_halt, owes_files, seats_owe}
use Rattle.discipline_laws.proofs.Going.{elsewhere}

other_lane : (e : Entry) (j : List Entry) (lane : ℕ) → (e.lane == lane) ≡ false
    → lane_owes (e ∷ j) lane ≡ lane_owes j lane
unfolding lane_owes
other_lane e j lane other =
    let same = elsewhere e j lane other in
    (λ i. count (not (same.stops i) && not (same.halts i)) + count (owes_files (same.works i)))

lanes_before : (e : Entry) (j : List Entry) (n : ℕ) → n ≤ e.lane
    → lanes_owe (e ∷ j) n ≡ lanes_owe j n
unfolding lanes_owe
lanes_before e j zero h = refl
lanes_before e j (suc n) h =
    let apart : (e.lane == n) ≡ false = ne_eqb e.lane n (λ same. omega (arith, same, h)) in
    omega (arith, lanes_before e j n (omega (arith, h)), other_lane e j n apart)

lanes_with : (e : Entry) (j : List Entry) (n : ℕ) → e.lane < n
    → lanes_owe (e ∷ j) n + lane_owes j e.lane ≡ lanes_owe j n + lane_owes (e ∷ j) e.lane
unfolding lanes_owe
lanes_with e j zero h = absurd (omega (arith, h))
lanes_with e j (suc n) h = elim (cases_lt e.lane n) [
  | inl low ↦ (let apart : (e.lane == n) ≡ false =
      ne_eqb e.lane n (λ same. omega (arith, same, low)) in
      omega (arith, lanes_with e j n low, other_lane e j n apart))
  | inr high ↦ (let same : e.lane ≡ n = omega (arith, high, h) in
      omega (arith, lanes_before e j n high, ap (lane_owes j) same, ap (lane_owes (e ∷ j)) same))
]

-- what one lane owes is a part of it
lane_among : (j : List Entry) (lane n : ℕ) → lane < n → lane_owes j lane ≤ lanes_owe j n
unfolding lanes_owe
lane_among j lane zero h = absurd (omega (arith, h))
lane_among j lane (suc n) h = elim (cases_lt lane n) [
  | inl low ↦ (let among = lane_among j lane n low in omega (arith, among))
  | inr high ↦ (let same : lane ≡ n = omega (arith, high, h) in
      let own = ap (lane_owes j) same in omega (arith, own))
]

count_most : (b : Bool) → count b ≤ 1
count_most true = omega arith
count_most false = omega arith

lane_most : (j : List Entry) (lane : ℕ) → lane_owes j lane ≤ 2
unfolding lane_owes
lane_most j lane = omega (
  arith,
  count_most (may_halt j lane),
  count_most (owes_files (last_work j lane)),
)

lanes_most : (j : List Entry) (n : ℕ) → lanes_owe j n ≤ 2 * n
unfolding lanes_owe
lanes_most j zero = omega arith
lanes_most j (suc n) = omega (arith, lanes_most j n, lane_most j n)

pub owes_most : (seats : ℕ) (j : List Entry) → seats_owe seats j ≤ 4 * seats
owes_most seats j = let most = lanes_most j (2 * seats) in omega (arith, most)

-- before and after a call, where the lane is one of the plan
pub record Counted (seats : ℕ) (j k : List Entry) (lane : ℕ) : Type 0 where
  pub among : lane_owes j lane ≤ seats_owe seats j
  pub goes : seats_owe seats k + lane_owes j lane ≡ seats_owe seats j + lane_owes k lane

counted_by : (seats : ℕ) (j : List Entry) (lane : ℕ) (c : Call) (x : Reply) (b : Bool)
    → is_kept x ≡ b → lane < 2 * seats → Counted seats j (after j lane c x) lane
counted_by seats j lane c x true is lt = subst (λ (k : List Entry). Counted seats j k lane)
    (ap (λ (b : Bool). cond b (record { lane = lane; call = c; reply = x } ∷ j) j) (sym is))
    (record {
      among = lane_among j lane (2 * seats) lt;
      goes = lanes_with (record { lane = lane; call = c; reply = x }) j (2 * seats) lt;
    })
counted_by seats j lane c x false is lt = subst (λ (k : List Entry). Counted seats j k lane)
    (ap (λ (b : Bool). cond b (record { lane = lane; call = c; reply = x } ∷ j) j) (sym is))
    (record { among = lane_among j lane (2 * seats) lt; goes = refl })

pub counted : (seats : ℕ) (j : List Entry) (lane : ℕ) (c : Call) (x : Reply)
    → lane < 2 * seats → Counted seats j (after j lane c x) lane
counted seats j lane c x lt = counted_by seats j lane c x (is_kept x) refl lt

-- where it isn't
pub uncounted : (seats : ℕ) (j : List Entry) (lane : ℕ) (c : Call) (x : Reply)
    → 2 * seats ≤ lane → seats_owe seats (after j lane c x) ≡ seats_owe seats j
uncounted seats j lane c x le = by (is_kept x) refl
  where
    by : (b : Bool) → is_kept x ≡ b → seats_owe seats (after j lane c x) ≡ seats_owe seats j
    by true is = ap (λ (b : Bool). seats_owe seats (cond b (record {
      lane = lane;
      call = c;
      reply = x;
    } ∷ j) j)) is ∙ lanes_before (record { lane = lane; call = c; reply = x }) j (2 * seats) le
    by false is = ap (λ (b : Bool). seats_owe seats (cond b (record {
      lane = lane;
      call = c;
      reply = x;
    } ∷ j) j)) is
