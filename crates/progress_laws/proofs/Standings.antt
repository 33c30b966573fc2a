-- The standings of actions: the least action that isn't settled, and the inputs of an action whose
-- producers are all settled.
use Rattle.std.proofs.Common.{◌≡◌, ℕ, zero, suc, ◌+◌, ◌<◌, nat_lt, Bool, true, false, ◌&&◌, ◌||◌, List, [], ◌∷◌, ◌++◌, length, Option, Some, refl, sym, ap, subst, ◌∙◌, arith}
use Rattle.std.specs.Prelude.{slice_get}
use Rattle.std.specs.List.{list_any, list_all}
use Rattle.std.proofs.lemmas.Bool.{ltb-true, and_parts, and_from}
use Rattle.run_plan.specs.declared.plan.Maker.{Maker}
use Rattle.run_plan.specs.declared.plan.Plan.{Plan}
use Rattle.run_plan.specs.declared.plan.PlanAction.{PlanAction}
use Rattle.run_plan.specs.Sound.{Sound, are_sound_from, is_sound_action, is_earlier, has_branches}
use Rattle.exec_journal.specs.declared.ends.Standing.{Standing}
use Rattle.exec_journal.specs.declared.ends.Standing.TheVariants.{Open, Succeeded, Unsuccessful}
use Rattle.exec_journal.specs.Entry.{Entry}
use Rattle.exec_journal.specs.Settled.{is_settled, is_success, is_unsuccessful, standing_after, standings, standings_from, settled, all_settled}
use Rattle.exec_journal.proofs.Ruled.{by_bool}
use Rattle.journal_laws.proofs.Firm as f

-- ---- the standing of an action, after those of the actions before it

get_append : (xs : List Standing) (y : Standing) (i : ℕ) (s : Standing) → slice_get xs i ≡ Some s
    → slice_get (xs ++ y ∷ []) i ≡ Some s
get_append [] y i s h = absurd (cc)
get_append (x ∷ xs) y zero s h = h
get_append (x ∷ xs) y (suc i) s h = get_append xs y i s h

get_last : (xs : List Standing) (y : Standing) → slice_get (xs ++ y ∷ []) (length xs) ≡ Some y
get_last [] y = refl
get_last (x ∷ xs) y = get_last xs y

abbrev pub Begins : List Standing → List Standing → Type 0
Begins xs ys = (i : ℕ) (s : Standing) → slice_get xs i ≡ Some s → slice_get ys i ≡ Some s

from_begins : (p : Plan) (j : List Entry) (earlier : List Standing) (xs : List PlanAction)
    → Begins earlier (standings_from p j earlier xs)
from_begins p j earlier [] i s h = h
from_begins p j earlier (x ∷ xs) i s h =
    from_begins p j (earlier ++ standing_after p j (length earlier) x earlier ∷ []) xs i s
    (get_append earlier _ i s h)

pub record StandsAfter (p : Plan) (j : List Entry) (a : ℕ) (x : PlanAction)
    (whole : List Standing) : Type 0 where
  pub front : List Standing
  pub size : length front ≡ a
  pub begin : Begins front whole
  pub is : slice_get whole a ≡ Some (standing_after p j a x front)

at_from : (p : Plan) (j : List Entry) (rest : List PlanAction) (xs : List Standing) (i a : ℕ)
    (x : PlanAction) → length xs + i ≡ a → slice_get rest i ≡ Some x
    → StandsAfter p j a x (standings_from p j xs rest)
at_from p j [] xs i a x n h = absurd (cc)
at_from p j (y ∷ rest) xs zero a x n h =
    let e : y ≡ x = cc in
    let here : length xs ≡ a = omega arith in
    let s = standing_after p j (length xs) y xs in
    let ext = from_begins p j (xs ++ s ∷ []) rest in
    let own : slice_get (standings_from p j (xs ++ s ∷ []) rest) (length xs) ≡ Some s =
    ext (length xs) s (get_last xs s) in
    record {
      front = xs;
      size = here;
      begin = λ m z k1. ext m z (get_append xs s m z k1);
      is =
          subst (λ (w : PlanAction). slice_get (standings_from p j (xs ++ s ∷ []) rest) a ≡ Some
          (standing_after p j a w xs)) e (subst (λ (m : ℕ). slice_get
          (standings_from p j (xs ++ s ∷ []) rest) m ≡ Some (standing_after p j m y xs)) here
          own);
    }
at_from p j (y ∷ rest) xs (suc i) a x n h =
    at_from p j rest (xs ++ standing_after p j (length xs) y xs ∷ []) i a x
    (let m = f.length_more xs (standing_after p j (length xs) y xs) in omega (arith, m)) h

pub stands_after : (p : Plan) (j : List Entry) (a : ℕ) (x : PlanAction)
    → slice_get p.actions a ≡ Some x → StandsAfter p j a x (standings p j)
unfolding standings
stands_after p j a x h = at_from p j p.actions [] a a x (omega arith) h

-- ---- the least action that isn't settled

record FirstOff (test : Standing → Bool) (xs : List Standing) : Type 0 where
  place : ℕ
  value : Standing
  there : slice_get xs place ≡ Some value
  off : test value ≡ false
  before : (m : ℕ) → m < place → (z : Standing) × (slice_get xs m ≡ Some z) × (test z ≡ true)

first_off : (test : Standing → Bool) (xs : List Standing) → list_all test xs ≡ false
    → FirstOff test xs
first_off test [] h = absurd (cc)
first_off test (x ∷ xs) h =
    by_bool (test x) (λ b. test x ≡ b → (b && list_all test xs) ≡ false → FirstOff test (x ∷ xs))
    (λ _ on n. more on (first_off test xs n))
    (λ _ off n. record {
      place = 0;
      value = x;
      there = refl;
      off = off;
      before = λ m lt. absurd
          (omega (arith, lt));
    }) refl h
  where
    more : test x ≡ true → FirstOff test xs → FirstOff test (x ∷ xs)
    more on r =
        record {
          place = suc r.place;
          value = r.value;
          there = r.there;
          off = r.off;
          before =
              earlier;
        }
      where
        earlier : (m : ℕ) → m < suc r.place → (z : Standing) × (slice_get (x ∷ xs) m ≡ Some z)
            × (test z ≡ true)
        earlier zero lt = (x, refl, on)
        earlier (suc m) lt = r.before m (omega (arith, lt))

standings_length : (p : Plan) (j : List Entry) (rest : List PlanAction) (xs : List Standing)
    → length (standings_from p j xs rest) ≡ length xs + length rest
standings_length p j [] xs = omega arith
standings_length p j (x ∷ rest) xs =
    let n = f.length_more xs (standing_after p j (length xs) x xs) in
    let m = standings_length p j rest (xs ++ standing_after p j (length xs) x xs ∷ []) in omega
    (arith, n, m)

same_place : {X Y : Type 0} (xs : List X) (ys : List Y) (i : ℕ) (x : X) → length xs ≡ length ys
    → slice_get xs i ≡ Some x → (y : Y) × (slice_get ys i ≡ Some y)
same_place [] ys i x n h = absurd (cc)
same_place (x ∷ xs) [] i z n h = absurd (omega arith)
same_place (x ∷ xs) (y ∷ ys) zero z n h = (y, refl)
same_place (x ∷ xs) (y ∷ ys) (suc i) z n h = same_place xs ys i z (omega arith) h

-- not settled, and all actions before it are
pub record IsNextOpen (p : Plan) (j : List Entry) : Type 0 where
  pub number : ℕ
  pub action : PlanAction
  pub place : slice_get p.actions number ≡ Some action
  pub unsettled : settled p j number ≡ false
  pub before : (m : ℕ) → m < number → (z : Standing) × (slice_get (standings p j) m ≡ Some z)
      × (is_settled z ≡ true)

pub next_open : (p : Plan) (j : List Entry) → all_settled p j ≡ false → IsNextOpen p j
unfolding all_settled settled standings
next_open p j h =
    let r = first_off is_settled (standings p j) h in
    let x = same_place (standings p j) p.actions r.place r.value
    (let n = standings_length p j p.actions [] in omega (arith, n)) r.there in
    record {
      number = r.place;
      action = x.0;
      place = x.1;
      unsettled = rw r.there r.off;
      before =
          r.before;
    }

-- ---- its inputs are made

sound_at : (p : Plan) (n : ℕ) (xs : List PlanAction) (i : ℕ) (x : PlanAction)
    → are_sound_from p n xs ≡ true → slice_get xs i ≡ Some x → is_sound_action p (n + i) x ≡ true
sound_at p n [] i x h k1 = absurd (cc)
sound_at p n (y ∷ ys) zero x h k1 =
    let same : y ≡ x = cc in
    let z : n ≡ n + 0 = omega arith in
    subst (λ (w : PlanAction). is_sound_action p (n + 0) w ≡ true) same
    (subst (λ m. is_sound_action p m y ≡ true) z (and_parts (is_sound_action p n y) _ h).0)
sound_at p n (y ∷ ys) (suc i) x h k1 =
    let z : suc n + i ≡ n + suc i = omega arith in
    subst (λ m. is_sound_action p m x ≡ true) z (sound_at p (suc n) ys i x
    (and_parts (is_sound_action p n y) _ h).1 k1)

pub makers_earlier : (p : Plan) (a : ℕ) (x : PlanAction) → Sound p → slice_get p.actions a ≡ Some x
    → list_all (is_earlier p.actions a) x.makers ≡ true
makers_earlier p a x sound at =
    let whole = sound_at p 0 p.actions a x sound.each_action at in
    let z : 0 + a ≡ a = omega arith in
    subst (λ n. list_all (is_earlier p.actions n) x.makers ≡ true) z
    (and_parts (has_branches (length p.groups) x) _
    (and_parts _ (has_branches (length p.groups) x && _) whole).1).1

in_front : (xs : List Standing) (i : ℕ) → i < length xs → (s : Standing) × (slice_get xs i ≡ Some s)
in_front [] i lt = absurd (omega (arith, lt))
in_front (x ∷ xs) zero lt = (x, refl)
in_front (x ∷ xs) (suc i) lt = in_front xs i (omega (arith, lt))

settled_by : (z : Standing) → is_settled z ≡ true → is_unsuccessful (Some z) ≡ false
    → is_success (Some z) ≡ true
settled_by Open a b = absurd (cc)
settled_by Succeeded a b = refl
settled_by Unsuccessful a b = absurd (cc)

pub all_made : (whole front : List Standing) (actions : List PlanAction) (a : ℕ) → length front ≡ a
    → Begins front whole → ((m : ℕ) → m < a → (z : Standing) × (slice_get whole m ≡ Some z)
    × (is_settled z ≡ true))
    → (ms : List Maker) → list_all (is_earlier actions a) ms ≡ true
    → list_any (λ m. is_unsuccessful (slice_get front m.action)) ms ≡ false
    → list_all (λ m. is_success (slice_get whole m.action)) ms ≡ true
all_made whole front actions a size begin before [] h k1 = refl
all_made whole front actions a size begin before (m ∷ ms) h k1 =
    let parts = and_parts (is_earlier actions a m) _ h in
    let low : m.action < a = ltb-true m.action a (and_parts (nat_lt m.action a) _ parts.0).0 in
    let s = in_front front m.action (omega (arith, low, size)) in
    let z = before m.action low in
    let there = begin m.action s.0 s.1 in
    let both : Some s.0 ≡ Some z.0 = sym there ∙ z.1 in
    let same : s.0 ≡ z.0 = cc in
    let here : is_unsuccessful (slice_get front m.action) ≡ false =
    none_left (is_unsuccessful (slice_get front m.action)) _ k1 in
    let fine : is_unsuccessful (Some z.0) ≡ false = subst
    (λ (o : Option Standing). is_unsuccessful o ≡ false) (s.1 ∙ ap Some same) here in
    and_from _ _ (subst (λ (o : Option Standing). is_success o ≡ true) (sym z.1)
    (settled_by z.0 z.2 fine))
    (all_made whole front actions a size begin before ms parts.1
    (none_right (is_unsuccessful (slice_get front m.action)) _ k1))
  where
    none_left : (x y : Bool) → (x || y) ≡ false → x ≡ false
    none_left false y n = refl
    none_left true y n = absurd (cc)

    none_right : (x y : Bool) → (x || y) ≡ false → y ≡ false
    none_right false y n = n
    none_right true y n = absurd (cc)
