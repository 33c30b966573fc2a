-- What a bench remembers of who has news, after one more call.
use Rattle.std.proofs.Common.{◌≡◌, ℕ, ◌*◌, ◌/◌, ◌%◌, ◌+◌, ◌-◌, ◌<◌, ◌≤◌, ◌==◌, nat_lt, Bool, true, false, cond, ◌&&◌, not, [], ◌∷◌, ◌++◌, ◌⊎◌, inl, inr, refl, ap, sym, subst, ◌∙◌, arith}
use Rattle.std.specs.Int.{bit_at}
use Rattle.std.specs.Int.RustNames.{bit_or}
use Rattle.std.proofs.lemmas.Bool.{and_parts, cases_eq, cases_lt, lt-ltb, ltb-true, le-ltb, ne_eqb, eq-eqb}
use Rattle.std.proofs.lemmas.List.{same_from_push}
use Rattle.std.proofs.lemmas.Nat.Bits.{bit_at_or}
use Rattle.exec_journal.specs.declared.call.Call.{Call}
use Rattle.exec_journal.specs.declared.reply.Reply.{Reply}
use Rattle.exec_journal.specs.Entries.{is_kept}
use Rattle.exec_journal.proofs.Ruled.{by_bool}
use Rattle.seat_desk.specs.History.{entry, after}
use Rattle.core_contract.specs.Discipline.{Discipline}
use Rattle.core_contract.specs.Laws.{InScript}
use Rattle.core_contract.specs.Moves.{Past, History}
use Rattle.core_contract.specs.News.{question, Names, IsQuiet, HasNews, SaysNews, NamesNews}
use Rattle.core_contract.specs.Ruled.{answer_after}
use Rattle.core_machine.specs.declared.waking.Span.{Span}
use Rattle.core_machine.specs.declared.waking.Waking.{Waking}
use Rattle.core_machine.specs.Marks.{bit_for}
use Rattle.core_machine.specs.Waking.{Looks, LooksRound, Wakes, hint_of, is_stirred, lanes_of}

and_false : (b : Bool) → bit_for (b && false) ≡ 0
and_false true = refl
and_false false = refl

is_on : (b : Bool) → bit_for b ≡ 1 → b ≡ true
is_on true e = refl
is_on false e = absurd (let no : 0 ≡ 1 = e in cc)

differs : (b : Bool) → not b ≡ true → b ≡ true → ⊥
differs true e f = let no : false ≡ true = e in cc
differs false e f = let no : false ≡ true = f in cc

pub no_last : (before : History) (e : Past) → [] ≡ before ++ e ∷ [] → ⊥
no_last [] e is = cc
no_last (y ∷ ys) e is = cc

-- ---- bits of either of two numbers

bit_small : (n i : ℕ) → bit_at n i < 2
bit_small n i = omega arith

in_first : (a b i : ℕ) → bit_at a i ≡ 1 → bit_at (bit_or a b) i ≡ 1
in_first a b i is = let o = bit_at_or a b i in let s = bit_small b i in omega (arith, o, is, s)

in_second : (a b i : ℕ) → bit_at b i ≡ 1 → bit_at (bit_or a b) i ≡ 1
in_second a b i is = let o = bit_at_or a b i in let s = bit_small a i in omega (arith, o, is, s)

in_either : (a b i : ℕ) → bit_at (bit_or a b) i ≡ 1 → (bit_at a i ≡ 1) ⊎ (bit_at b i ≡ 1)
in_either a b i is = elim (cases_eq (bit_at a i) 1) [
  | inl on ↦ inl on
  | inr off ↦ (let o = bit_at_or a b i in let s = bit_small a i in let t = bit_small b i in
      inr (omega (arith, o, is, s, t, off)))
]

from_zero : (l : ℕ) → 0 + l ≡ l
from_zero l = omega arith

-- ---- the lanes of some berths

few_lanes : (berths : ℕ) → lanes_of berths ≤ 128
few_lanes berths = elim (cases_lt berths 64) [
  | inl few ↦ (let most : lanes_of berths ≡ 2 * berths =
      ap (λ b. cond b (2 * berths) 128) (lt-ltb berths 64 few) in omega (arith, few, most))
  | inr many ↦ (let most : lanes_of berths ≡ 128 =
      ap (λ b. cond b (2 * berths) 128) (le-ltb berths 64 many) in omega (arith, most))
]

near_lane : (berths lane : ℕ) → lane < 128 → lane / 2 < berths
    → nat_lt lane (lanes_of berths) ≡ true
near_lane berths lane low within = elim (cases_lt berths 64) [
  | inl few ↦ (let most : lanes_of berths ≡ 2 * berths =
      ap (λ b. cond b (2 * berths) 128) (lt-ltb berths 64 few) in
      lt-ltb lane (lanes_of berths) (omega (arith, within, most)))
  | inr many ↦ (let most : lanes_of berths ≡ 128 =
      ap (λ b. cond b (2 * berths) 128) (le-ltb berths 64 many) in
      lt-ltb lane (lanes_of berths) (omega (arith, low, most)))
]

far_lane : (berths k : ℕ) → berths ≤ 128 → (128 + k) / 2 < berths
    → nat_lt k (lanes_of (berths - 64)) ≡ true
far_lane berths k few within =
    near_lane (berths - 64) k (omega (arith, few, within)) (omega (arith, within))

-- ---- one span

-- as many lanes from the first on, after a kept call of this lane
module _ (news : ℕ → Bool) (first count caller : ℕ) (old new : Span)
    (looks : Looks news first count caller old new) where
  quiet_in : (k : ℕ) → news (first + k) ≡ false → bit_at new.with_news k ≡ 0
  quiet_in k silent = looks.with_news k
      ∙ (ap (λ b. bit_for (nat_lt k count && b)) silent ∙ and_false (nat_lt k count))

  -- a lane that has news now and had none is marked, unless it is the caller's own
  marked_in : (k : ℕ) → nat_lt k count ≡ true → news (first + k) ≡ true
      → (first + k ≡ caller → ⊥) → bit_at old.with_news k ≡ 0 → bit_at new.stirred k ≡ 1
  marked_in k below has other none =
      looks.stirred k
      ∙ (ap (λ b. bit_for (b && is_stirred news first old.with_news caller k)) below
      ∙ (ap (λ b. bit_for (b && (not (first + k == caller) && (bit_at old.with_news k == 0)))) has
      ∙ (ap (λ b. bit_for (not b && (bit_at old.with_news k == 0)))
      (ne_eqb (first + k) caller other)
      ∙ ap bit_for (eq-eqb (bit_at old.with_news k) 0 none))))

  -- and a marked lane is one of them, another than the caller's, that has news
  pub record IsMarked (k : ℕ) : Type 0 where
    pub below : k < count
    pub has : news (first + k) ≡ true
    pub other : first + k ≡ caller → ⊥

  is_marked : (k : ℕ) → bit_at new.stirred k ≡ 1 → IsMarked k
  is_marked k marked =
      let all = and_parts (nat_lt k count) (is_stirred news first old.with_news caller k)
      (is_on (nat_lt k count && is_stirred news first old.with_news caller k)
      (sym (looks.stirred k) ∙ marked)) in
      let parts = and_parts (news (first + k))
      (not (first + k == caller) && (bit_at old.with_news k == 0)) all.1 in
      let apart = and_parts (not (first + k == caller)) (bit_at old.with_news k == 0) parts.1 in
      record {
        below = ltb-true k count all.0;
        has = parts.0;
        other = λ same. differs (first + k == caller) apart.0 (eq-eqb (first + k) caller same);
      }

-- ---- all lanes

module _ (q : Discipline) (news : ℕ → Bool)
    (known : (h : History) (lane : ℕ) (c : Call) → InScript (answer_after q) h lane c
    → lane / 2 < q.seats) (few : q.seats ≤ 128)
    (h : History) (caller : ℕ) (c : Call) (x : Reply) (old new : Waking)
    (looks : LooksRound news q.seats caller x old new) (was : Wakes q h old)
    (says : (l : ℕ)
    → SaysNews q (after (λ e. is_kept e.reply) h (entry caller c x)) l (news l)) where
  abbrev later : History
  later = after (λ e. is_kept e.reply) h (entry caller c x)

  quiet_silent : (l : ℕ) → IsQuiet q later l → news l ≡ false
  quiet_silent l quiet = by_bool (news l) (λ b. b ≡ false)
      (λ on. absurd (((says l).so on).1 quiet)) (λ _. refl)

  within : (l : ℕ) → HasNews q later l → l / 2 < q.seats
  within l has = known later l (question q.ticks l) has.0

  module _ (kept : is_kept x ≡ true) where
    near : Looks news 0 (lanes_of q.seats) caller old.near new.near
    near = looks.near kept

    far : Looks news 128 (lanes_of (q.seats - 64)) caller old.far new.far
    far = looks.far kept

    longer : later ≡ h ++ entry caller c x ∷ []
    longer = ap (λ b. cond b (h ++ entry caller c x ∷ []) h) kept

    near_quiet : (l : ℕ) → l < 128 → IsQuiet q later l → bit_at new.near.with_news l ≡ 0
    near_quiet l low quiet = quiet_in news 0 (lanes_of q.seats) caller old.near new.near near l
        (ap news (from_zero l) ∙ quiet_silent l quiet)

    far_quiet : (k : ℕ) → IsQuiet q later (128 + k) → bit_at new.far.with_news k ≡ 0
    far_quiet k quiet = quiet_in news 128 (lanes_of (q.seats - 64)) caller old.far new.far far k
        (quiet_silent (128 + k) quiet)

    near_marked : (l : ℕ) → l < 128 → (l ≡ caller → ⊥) → IsQuiet q h l → HasNews q later l
        → Names (hint_of new) l
    near_marked l low other quiet has =
        let bit = marked_in news 0 (lanes_of q.seats) caller old.near new.near near l
        (near_lane q.seats l low (within l has)) (ap news (from_zero l) ∙ (says l).said has)
        (λ e. other (sym (from_zero l) ∙ e)) (was.near l low quiet) in
        let same : l ≡ l % 128 = omega (arith, low) in
        subst (λ (i : ℕ). bit_at (hint_of new) i ≡ 1) same
        (in_first new.near.stirred new.far.stirred l bit)

    far_marked : (k : ℕ) → (128 + k ≡ caller → ⊥) → IsQuiet q h (128 + k)
        → HasNews q later (128 + k) → Names (hint_of new) (128 + k)
    far_marked k other quiet has =
        let there = within (128 + k) has in
        let bit = marked_in news 128 (lanes_of (q.seats - 64)) caller old.far new.far far k
        (far_lane q.seats k few there) ((says (128 + k)).said has) other (was.far k quiet) in
        let same : k ≡ (128 + k) % 128 = omega (arith, few, there) in
        subst (λ (i : ℕ). bit_at (hint_of new) i ≡ 1) same
        (in_second new.near.stirred new.far.stirred k bit)

    -- a lane that has news now and had none is named, unless it is the caller's own
    all : (l : ℕ) → (l ≡ caller → ⊥) → IsQuiet q h l
        → HasNews q (h ++ entry caller c x ∷ []) l → Names (hint_of new) l
    all l other quiet has =
        let here = subst (λ (g : History). HasNews q g l) (sym longer) has in
        elim (cases_lt l 128) [
          | inl low ↦ near_marked l low other quiet here
          | inr high ↦ (let is : 128 + (l - 128) ≡ l = omega (arith, high) in
              subst (λ (y : ℕ). Names (hint_of new) y) is
              (far_marked (l - 128) (λ e. other (sym is ∙ e))
              (subst (IsQuiet q h) (sym is) quiet) (subst (HasNews q later) (sym is) here)))
        ]

    -- another lane than the caller's that has news, and this number modulo 128
    abbrev Other : ℕ → Type 0
    Other bit = (l : ℕ) × (l % 128 ≡ bit) × (l ≡ caller → ⊥)
        × HasNews q (h ++ entry caller c x ∷ []) l

    has_news : (l : ℕ) → news l ≡ true → HasNews q (h ++ entry caller c x ∷ []) l
    has_news l on = subst (λ (g : History). HasNews q g l) longer ((says l).so on)

    near_only : (bit : ℕ) → bit_at new.near.stirred bit ≡ 1 → Other bit
    near_only bit on =
        let m = is_marked news 0 (lanes_of q.seats) caller old.near new.near near bit on in
        let most = few_lanes q.seats in let low = m.below in (
          bit,
          omega (arith, most, low),
          (λ e. m.other (from_zero bit ∙ e)),
          has_news bit (ap news (sym (from_zero bit)) ∙ m.has),
        )

    far_only : (bit : ℕ) → bit_at new.far.stirred bit ≡ 1 → Other bit
    far_only bit on =
        let m = is_marked news 128 (lanes_of (q.seats - 64)) caller old.far new.far far bit on in
        let most = few_lanes (q.seats - 64) in let low = m.below in
        (128 + bit, omega (arith, most, low), m.other, has_news (128 + bit) m.has)

    only : (bit : ℕ) → bit_at (hint_of new) bit ≡ 1 → Other bit
    only bit on = elim (in_either new.near.stirred new.far.stirred bit on) [
      | inl a ↦ near_only bit a
      | inr b ↦ far_only bit b
    ]

    named : NamesNews q h (entry caller c x) (hint_of new)
    named = record {
      all = all;
      only = only;
    }

    stirred_kept : (before : History) (e : Past) → later ≡ before ++ e ∷ []
        → NamesNews q before e (hint_of new)
    stirred_kept before e is =
        let ends = same_from_push h before (entry caller c x) e (sym longer ∙ is) in
        subst (λ (z : Past). NamesNews q before z (hint_of new)) ends.1
        (subst (λ (g : History). NamesNews q g (entry caller c x) (hint_of new)) ends.0 named)

  module _ (dropped : is_kept x ≡ false) where
    same_history : later ≡ h
    same_history = ap (λ b. cond b (h ++ entry caller c x ∷ []) h) dropped

    stays : Wakes q later new
    stays = subst (λ (g : History). Wakes q g new) (sym same_history)
        (subst (λ (w : Waking). Wakes q h w) (sym (looks.same dropped)) was)

  pub wakes_next : Wakes q later new
  wakes_next = by_bool (is_kept x) (λ _. Wakes q later new)
      (λ kept. record {
        near = near_quiet kept;
        far = far_quiet kept;
        stirred = stirred_kept kept;
      }) stays
