-- Entries of other lanes leave a lane's script, and what is paid for it.
use Rattle.std.proofs.Common.{◌≡◌, ℕ, ◌*◌, ◌/◌, ◌%◌, ◌==◌, ◌<◌, nat_lt, Bool, true, false, cond, ◌&&◌, ◌||◌, not, List, [], ◌∷◌, ◌++◌, refl, ap, ◌∙◌, arith, ltb-true}
use Rattle.std.specs.List.{fold}
use Rattle.std.proofs.lemmas.Grind.{fold-append}
use Rattle.std.proofs.Math.Nat.{div-add-mod}
use Rattle.seat_desk.specs.History.{calls_by}
use Rattle.run_plan.specs.declared.plan.Plan.{Plan}
use Rattle.run_plan.specs.declared.plan.Kind.{Kind}
use Rattle.exec_journal.specs.declared.call.Call.{Call}
use Rattle.exec_journal.specs.Entry.{Entry}
use Rattle.exec_journal.specs.Entries.{is_stop, is_halt, is_look}
use Rattle.exec_journal.specs.Words.{last_work, stopped, has_halted}
use Rattle.exec_journal.specs.Scripts.{is_owed_commit, allowed, seat_script}
use Rattle.core_contract.specs.Moves.{Past, History}
use Rattle.core_contract.specs.Ruled.{journal_of}
use Rattle.discipline_laws.proofs.Going.{then, flip}

-- what a lane's script hangs on is the same by both journals
record SameLane (k j : List Entry) (lane : ℕ) : Type 0 where
  stops : stopped k lane ≡ stopped j lane
  halts : has_halted k lane ≡ has_halted j lane
  works : last_work k lane ≡ last_work j lane

one_more : (e : Past) (j : List Entry) (lane : ℕ) → (e.lane == lane) ≡ false
    → SameLane (e ∷ j) j lane
one_more e j lane other = let t = then e j lane in record {
  stops = t.stops ∙ ap (λ (b : Bool). (b && is_stop e.reply) || stopped j lane) other;
  halts = t.halts ∙ ap (λ (b : Bool). (b && is_halt e.call) || has_halted j lane) other;
  works = t.other (ap (λ (b : Bool). b && (not (is_look e.call) && not (is_halt e.call))) other);
}

then_more : (e : Past) (es : History) (j : List Entry) (lane : ℕ) (b : Bool)
    → (lane == e.lane) ≡ b
    → ((k : List Entry) → calls_by lane es ≡ []
    → SameLane (fold (λ j e. e ∷ j) k es) k lane)
    → cond b (e ∷ calls_by lane es) (calls_by lane es) ≡ []
    → SameLane (fold (λ j e. e ∷ j) (e ∷ j) es) j lane
then_more e es j lane true own rest none_own = absurd (cc)
then_more e es j lane false other rest none_own =
    let first = one_more e j lane (flip lane e.lane false other) in
    let later = rest (e ∷ j) none_own in record {
      stops = later.stops ∙ first.stops;
      halts = later.halts ∙ first.halts;
      works = later.works ∙ first.works;
    }

all_more : (es : History) (j : List Entry) (lane : ℕ) → calls_by lane es ≡ []
    → SameLane (fold (λ j e. e ∷ j) j es) j lane
all_more [] j lane none_own = record { stops = refl; halts = refl; works = refl }
all_more (e ∷ es) j lane none_own = then_more e es j lane (lane == e.lane) refl
    (λ k h. all_more es k lane h) none_own

-- what is in a lane's script stays there
pub script_stays : (n : ℕ) (kinds : ℕ → Kind) (p : Plan) (h more : History) (lane : ℕ) (c : Call) → calls_by lane more ≡ []
    → seat_script n kinds p (journal_of (h ++ more)) lane c ≡ seat_script n kinds p (journal_of h) lane c
script_stays n kinds p h more lane c none_own =
    let same = all_more more (journal_of h) lane none_own in
    ap (λ (j : List Entry). seat_script n kinds p j lane c) (fold-append (λ j e. e ∷ j) [] h more)
    ∙ (λ i. nat_lt lane (2 * n) && (not (same.stops i)
    && cond (same.halts i) (is_owed_commit c (same.works i))
    (allowed p (kinds (lane / 2)) (lane % 2 == 0) (same.works i) c)))

first_part : (a b : Bool) → (a && b) ≡ true → a ≡ true
first_part true b h = refl
first_part false b h = absurd (cc)

-- and is a call of a lane of the plan
pub lane_is_known : (n : ℕ) (kinds : ℕ → Kind) (p : Plan) (j : List Entry) (lane : ℕ) (c : Call) → seat_script n kinds p j lane c ≡ true
    → lane / 2 < n
lane_is_known n kinds p j lane c h =
    let whole = div-add-mod lane 2 in
    let within : lane < 2 * n =
    ltb-true lane (2 * n) (first_part (nat_lt lane (2 * n)) _ h) in
    omega (arith, whole, within)
