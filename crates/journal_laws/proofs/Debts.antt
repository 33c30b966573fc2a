-- Paid calls are answered Noted, stay paid for, and are counted.
use Rattle.std.proofs.Common.{◌≡◌, ℕ, zero, suc, ◌+◌, ◌*◌, ◌<◌, ◌≤◌, ◌==◌, nat_lt, Bool, true, false, ◌&&◌, ◌||◌, not, List, [], ◌∷◌, Option, Some, None, inl, inr, refl, ap, arith}
use Rattle.std.proofs.lemmas.Bool.{eq-eqb, ne_eqb, and_parts, ltb-true, cases_lt}
use Rattle.run_plan.specs.declared.plan.Branch.{Branch}
use Rattle.run_plan.specs.declared.plan.Plan.{Plan}
use Rattle.run_plan.specs.Groups.{berths}
use Rattle.exec_journal.specs.Entry.{Entry}
use Rattle.exec_journal.specs.declared.call.Call.{Call}
use Rattle.exec_journal.specs.declared.call.Call.TheVariants as call
use Rattle.exec_journal.specs.declared.call.Found.TheVariants as found
use Rattle.exec_journal.specs.declared.reply.Reply.{Reply}
use Rattle.exec_journal.specs.declared.reply.Reply.TheVariants as reply
use Rattle.exec_journal.specs.Entries.{is_kept, is_halt, is_stop}
use Rattle.exec_journal.specs.Words.{last_work, stopped, has_halted}
use Rattle.exec_journal.specs.Lawful.{plain_reply}
use Rattle.exec_journal.specs.Scripts.{owes_commit, is_commit_of}
use Rattle.exec_journal.specs.Legal.{after}
use Rattle.journal_laws.specs.Paid.{seat_paid, wins_files, owes_files, count, lane_owes, lanes_owe, seats_owe}

-- ---- the reply

pub paid_noted : (p : Plan) (m : ℕ) (j : List Entry) (lane : ℕ) (c : Call) → seat_paid m j lane c ≡ true → plain_reply p j lane c ≡ reply.Noted
paid_noted p m j lane call.Halt h = refl
paid_noted p m j lane (call.Committed a b how) h = refl
paid_noted p m j lane _ h = let e : false ≡ true = (and_parts (nat_lt lane (2 * m)) _ h).1 in absurd (cc)

-- ---- entries of other lanes

record SameLane (e : Entry) (j : List Entry) (lane : ℕ) : Type 0 where
  pub stops : stopped (e ∷ j) lane ≡ stopped j lane
  pub halts : has_halted (e ∷ j) lane ≡ has_halted j lane
  pub works : last_work (e ∷ j) lane ≡ last_work j lane

same_lane : (e : Entry) (j : List Entry) (lane : ℕ) → (e.lane == lane) ≡ false → SameLane e j lane
unfolding stopped has_halted last_work
same_lane e j lane h = record { stops = rw h refl; halts = rw h refl; works = rw h refl }

pub paid_stays : (m : ℕ) (e : Entry) (j : List Entry) (lane : ℕ) (c : Call) → (e.lane == lane) ≡ false → seat_paid m (e ∷ j) lane c ≡ seat_paid m j lane c
paid_stays m e j lane call.Halt h = let s = same_lane e j lane h in rw (s.stops, s.halts) refl
paid_stays m e j lane (call.Committed a b how) h = let s = same_lane e j lane h in rw s.works refl
paid_stays m e j lane _ h = refl

other_lane : (e : Entry) (j : List Entry) (lane : ℕ) → (e.lane == lane) ≡ false → lane_owes (e ∷ j) lane ≡ lane_owes j lane
unfolding lane_owes
other_lane e j lane h = let s = same_lane e j lane h in rw (s.stops, s.halts, s.works) refl

-- ---- the sum over the lanes

lanes_before : (e : Entry) (j : List Entry) (n : ℕ) → n ≤ e.lane → lanes_owe (e ∷ j) n ≡ lanes_owe j n
unfolding lanes_owe
lanes_before e j zero h = refl
lanes_before e j (suc n) h =
    let apart : (e.lane == n) ≡ false = ne_eqb e.lane n (λ same. omega (arith, same, h)) in
    omega (arith, lanes_before e j n (omega (arith, h)), other_lane e j n apart)

lanes_with : (e : Entry) (j : List Entry) (n : ℕ) → e.lane < n → lanes_owe (e ∷ j) n + lane_owes j e.lane ≡ lanes_owe j n + lane_owes (e ∷ j) e.lane
unfolding lanes_owe
lanes_with e j zero h = absurd (omega (arith, h))
lanes_with e j (suc n) h = elim (cases_lt e.lane n) [
  | inl low ↦ (let apart : (e.lane == n) ≡ false = ne_eqb e.lane n (λ same. omega (arith, same, low)) in
      omega (arith, lanes_with e j n low, other_lane e j n apart))
  | inr high ↦ (let same : e.lane ≡ n = omega (arith, high, h) in
      omega (arith, lanes_before e j n high, ap (lane_owes j) same, ap (lane_owes (e ∷ j)) same))
]

-- at first each lane owes its Halt
lanes_first : (n : ℕ) → lanes_owe [] n ≡ n
unfolding lanes_owe lane_owes stopped has_halted last_work
lanes_first zero = refl
lanes_first (suc n) = omega (arith, lanes_first n)

pub owes_first : (m : ℕ) → seats_owe m [] ≡ 2 * m
owes_first m = lanes_first (2 * m)

-- ---- an entry raises it by one at most

count_most : (b : Bool) → count b ≤ 1
count_most true = omega arith
count_most false = omega arith

halts_less : (x s y h : Bool) → count (not (x || s) && not (y || h)) ≤ count (not s && not h)
halts_less true s y h = omega arith
halts_less false true y h = omega arith
halts_less false false true h = omega arith
halts_less false false false h = omega arith

lane_more : (e : Entry) (j : List Entry) (lane : ℕ) → lane_owes (e ∷ j) lane ≤ lane_owes j lane + 1
unfolding lane_owes stopped has_halted
lane_more e j lane =
    omega (arith, halts_less ((e.lane == lane) && is_stop e.reply) (stopped j lane) ((e.lane == lane) && is_halt e.call) (has_halted j lane), count_most (owes_files (last_work (e ∷ j) lane)))

entry_more : (e : Entry) (j : List Entry) (n : ℕ) → lanes_owe (e ∷ j) n ≤ lanes_owe j n + 1
entry_more e j n = elim (cases_lt e.lane n) [
  | inl low ↦ omega (arith, lanes_with e j n low, lane_more e j e.lane)
  | inr high ↦ omega (arith, lanes_before e j n high)
]

kept_more : (m : ℕ) (j : List Entry) (lane : ℕ) (c : Call) (x : Reply) (b : Bool) → is_kept x ≡ b → seats_owe m (after j lane c x) ≤ seats_owe m j + 1
kept_more m j lane c x true is = rw is (entry_more (record { lane = lane; call = c; reply = x }) j (2 * m))
kept_more m j lane c x false is = rw is (omega arith)

pub owes_more : (m : ℕ) (j : List Entry) (lane : ℕ) (c : Call) (x : Reply) → seats_owe m (after j lane c x) ≤ seats_owe m j + 1
owes_more m j lane c x = kept_more m j lane c x (is_kept x) refl

-- ---- a paid call lowers it by one

noted : ℕ → Call → Entry
noted lane c = record { lane = lane; call = c; reply = reply.Noted }

halt_pays : (s h : Bool) (n : ℕ) → (not s && not h) ≡ true → count (not (false || s) && not (true || h)) + n + 1 ≡ count (not s && not h) + n
halt_pays false false n is = omega arith
halt_pays true h n is = absurd (cc)
halt_pays false true n is = absurd (cc)

pub wins_by : (a : ℕ) (b : Branch) (c : Call) (x : Reply) → is_commit_of a b c x ≡ true → wins_files c x ≡ true
wins_by a b (call.Claim c d t (found.Files f)) reply.Granted h = refl
wins_by a b _ _ h = absurd (cc)

owes_by : (a : ℕ) (b : Branch) (o : Option Entry) → owes_commit a b o ≡ true → owes_files o ≡ true
owes_by a b (Some e) h = wins_by a b e.call e.reply h
owes_by a b None h = absurd (cc)

lane_less : (m : ℕ) (j : List Entry) (lane : ℕ) (c : Call) → seat_paid m j lane c ≡ true → lane_owes (noted lane c ∷ j) lane + 1 ≡ lane_owes j lane
unfolding lane_owes stopped has_halted last_work noted
lane_less m j lane call.Halt h =
    rw (eq-eqb lane lane refl) (halt_pays (stopped j lane) (has_halted j lane) (count (owes_files (last_work j lane))) (and_parts (nat_lt lane (2 * m)) _ h).1)
lane_less m j lane (call.Committed a b how) h =
    let won = ap count (owes_by a b (last_work j lane) (and_parts (nat_lt lane (2 * m)) _ h).1) in
    rw (eq-eqb lane lane refl) (omega (arith, won))
lane_less m j lane _ h = let e : false ≡ true = (and_parts (nat_lt lane (2 * m)) _ h).1 in absurd (cc)

in_plan : (m : ℕ) (j : List Entry) (lane : ℕ) (c : Call) → seat_paid m j lane c ≡ true → lane < 2 * m
in_plan m j lane call.Halt h = ltb-true lane (2 * m) (and_parts (nat_lt lane (2 * m)) _ h).0
in_plan m j lane _ h = ltb-true lane (2 * m) (and_parts (nat_lt lane (2 * m)) _ h).0

pub owes_less : (m : ℕ) (j : List Entry) (lane : ℕ) (c : Call) → seat_paid m j lane c ≡ true → seats_owe m (after j lane c reply.Noted) + 1 ≡ seats_owe m j
unfolding noted
owes_less m j lane c h = omega (arith, lanes_with (noted lane c) j (2 * m) (in_plan m j lane c h), lane_less m j lane c h)
