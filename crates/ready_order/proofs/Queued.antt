-- What is queued by the table is queued by the journal for which it stands.
use Rattle.std.proofs.Common.{◌≡◌, ℕ, zero, suc, ◌+◌, ◌-◌, ◌<◌, ◌≤◌, nat_lt, Bool, true, false, ◌&&◌, ◌||◌, not, cond, List, [], ◌∷◌, ◌++◌, length, map, get_or, Option, Some, None, option_map, unwrap_or, ◌⊎◌, inl, inr, refl, ap, sym, subst, ◌∙◌, arith, length-append}
use Rattle.std.specs.Prelude.{slice_get}
use Rattle.std.specs.List.{list_any, list_all}
use Rattle.std.proofs.lemmas.Bool.{and_parts, ltb-true, ltb-false}
use Rattle.std.proofs.lemmas.Option.{slice_get_past, slice_get_cases}
use Rattle.run_plan.specs.declared.plan.Branch.{Branch}
use Rattle.run_plan.specs.declared.plan.Branch.TheVariants.{Local, Remote}
use Rattle.run_plan.specs.declared.plan.Maker.{Maker}
use Rattle.run_plan.specs.declared.plan.Plan.{Plan}
use Rattle.run_plan.specs.declared.plan.PlanAction.{PlanAction}
use Rattle.exec_journal.specs.declared.attempt.Attempt.{Attempt}
use Rattle.exec_journal.specs.declared.ends.Standing.{Standing}
use Rattle.exec_journal.specs.declared.ends.Standing.TheVariants.{Open, Succeeded, Unsuccessful}
use Rattle.exec_journal.specs.Entry.{Entry}
use Rattle.list_lemmas.specs.Options.{or_else}
use Rattle.exec_journal.specs.Words.{grant_of, granted}
use Rattle.exec_journal.specs.Entries.{attempt_of}
use Rattle.exec_journal.specs.Attempts.{attempt, dropped}
use Rattle.exec_journal.specs.Settled.{by_grant, all_dropped, is_starved, is_success, is_unsuccessful, is_settled, standing_after, standings_from, standings, settled, ready, wanted, is_under_way, uses, queued, queued_in, earliest_from, earliest}
use Rattle.exec_journal.proofs.Ruled.{by_bool}
use Rattle.ready_order.specs.declared.ActionState.{ActionState}
use Rattle.ready_order.specs.Queue.{producers_of, has_success, is_queued, IsFirst, IsEarliest}
use Rattle.ready_order.specs.Stands.{Stands, is_free, own_in, state_in, branch_of}

-- ---- an item of a list with more behind it

get_before : {X : Type 0} (xs ys : List X) (m : ℕ) → m < length xs → slice_get (xs ++ ys) m ≡ slice_get xs m
get_before [] ys m lt = absurd (omega arith)
get_before (x ∷ xs) ys zero lt = refl
get_before (x ∷ xs) ys (suc m) lt = get_before xs ys m (omega arith)

pub get_behind : {X : Type 0} (xs : List X) (y : X) → slice_get (xs ++ y ∷ []) (length xs) ≡ Some y
get_behind [] y = refl
get_behind (x ∷ xs) y = get_behind xs y

-- ---- the standing of each action, and what it has by itself

-- the standing that an action gets after some others, none of which is without success if it has success at last
record StandsAt (p : Plan) (j : List Entry) (whole : List Standing) (a : ℕ) (x : PlanAction) : Type 0 where
  pub before : List Standing
  pub is : slice_get whole a ≡ Some (standing_after p j a x before)
  pub front : (m : ℕ) → is_success (slice_get whole m) ≡ true → is_unsuccessful (slice_get before m) ≡ false

not_without : (o : Option Standing) → is_success o ≡ true → is_unsuccessful o ≡ false
not_without (Some Succeeded) h = refl
not_without (Some Open) h = refl
not_without (Some Unsuccessful) h = absurd (cc)
not_without None h = refl

module _ (p : Plan) (j : List Entry) where
  pub standings_front : (xs : List PlanAction) (earlier : List Standing) (m : ℕ) → m < length earlier → slice_get (standings_from p j earlier xs) m ≡ slice_get earlier m
  standings_front [] earlier m lt = refl
  standings_front (x ∷ xs) earlier m lt =
      let s = standing_after p j (length earlier) x earlier in
      standings_front xs (earlier ++ s ∷ []) m (omega (arith, length-append earlier (s ∷ []))) ∙ get_before earlier (s ∷ []) m lt

  pub standings_length : (xs : List PlanAction) (earlier : List Standing) → length (standings_from p j earlier xs) ≡ length earlier + length xs
  standings_length [] earlier = omega arith
  standings_length (x ∷ xs) earlier =
      let s = standing_after p j (length earlier) x earlier in
      omega (arith, standings_length xs (earlier ++ s ∷ []), length-append earlier (s ∷ []))

  standing_at : (xs : List PlanAction) (earlier : List Standing) (i a : ℕ) (x : PlanAction) → length earlier + i ≡ a → slice_get xs i ≡ Some x → StandsAt p j (standings_from p j earlier xs) a x
  standing_at [] earlier i a x e h = absurd (cc)
  standing_at (y ∷ xs) earlier zero a x e h =
      let here : length earlier ≡ a = omega arith in
      let same : y ≡ x = cc in
      let s = standing_after p j (length earlier) y earlier in
      record {
        before = earlier;
        is = subst (λ n. slice_get (standings_from p j (earlier ++ s ∷ []) xs) n ≡ Some (standing_after p j n x earlier)) here
            (standings_front xs (earlier ++ s ∷ []) (length earlier) (omega (arith, length-append earlier (s ∷ [])))
            ∙ get_behind earlier s ∙ ap (λ z. Some (standing_after p j (length earlier) z earlier)) same);
        front = λ m k. by_bool (nat_lt m (length earlier)) (λ _. is_unsuccessful (slice_get earlier m) ≡ false)
            (λ lt. not_without (slice_get earlier m) (ap is_success (sym (standings_front (y ∷ xs) earlier m (ltb-true m (length earlier) lt))) ∙ k))
            (λ past. ap is_unsuccessful (slice_get_past earlier m (ltb-false m (length earlier) past)));
      }
  standing_at (y ∷ xs) earlier (suc i) a x e h =
      let s = standing_after p j (length earlier) y earlier in
      standing_at xs (earlier ++ s ∷ []) i a x (omega (arith, length-append earlier (s ∷ []))) h

  own_success : (o : Option Standing) (d s : Bool) → is_success (Some (unwrap_or o (cond (d || s) Unsuccessful Open))) ≡ is_success (Some (unwrap_or o (cond d Unsuccessful Open)))
  own_success (Some v) d s = refl
  own_success None true s = refl
  own_success None false true = refl
  own_success None false false = refl

  -- an action has success exactly where it has it by itself
  success_at : (a : ℕ) (o : Option PlanAction) → slice_get p.actions a ≡ o → is_success (slice_get (standings p j) a) ≡ is_success (option_map (own_in p j a) o)
  unfolding standings own_in
  success_at a (Some x) h =
      let at = standing_at p.actions [] a a x (omega arith) h in
      ap is_success at.is ∙ own_success (by_grant j (grant_of j a)) (all_dropped p j a x) (is_starved x at.before)
  success_at a None h = ap is_success (slice_get_past (standings_from p j [] p.actions) a (past_end (slice_get_cases p.actions a).1))
    where
      past_end : ((x : PlanAction) × (a < length p.actions) × (slice_get p.actions a ≡ Some x) × (get_or p.actions a x ≡ x)) ⊎ ((length p.actions ≤ a) × (slice_get p.actions a ≡ None)) → length (standings_from p j [] p.actions) ≤ a
      past_end (inl w) = let is = w.2 in absurd (cc)
      past_end (inr w) = let le = w.0 in omega (arith, standings_length p.actions [])

  -- where its producers have success, none of them settles it
  unstarved : (whole before : List Standing) (ms : List Maker) → ((m : ℕ) → is_success (slice_get whole m) ≡ true → is_unsuccessful (slice_get before m) ≡ false)
      → list_all (λ m. is_success (slice_get whole m.action)) ms ≡ true → list_any (λ m. is_unsuccessful (slice_get before m.action)) ms ≡ false
  unstarved whole before [] front h = refl
  unstarved whole before (m ∷ ms) front h =
      let parts = and_parts (is_success (slice_get whole m.action)) _ h in
      rw (front m.action parts.0) (unstarved whole before ms front parts.1)

  or_none : (d : Bool) → (d || false) ≡ d
  or_none true = refl
  or_none false = refl

  pub settled_at : (a : ℕ) (x : PlanAction) → slice_get p.actions a ≡ Some x → ready p j x ≡ true → settled p j a ≡ is_settled (own_in p j a x)
  unfolding standings settled ready own_in
  settled_at a x h fed =
      let at = standing_at p.actions [] a a x (omega arith) h in
      let none = unstarved (standings_from p j [] p.actions) at.before x.makers at.front fed in
      ap (λ o. unwrap_or (option_map is_settled o) false) at.is
      ∙ ap (λ b. is_settled (unwrap_or (by_grant j (grant_of j a)) (cond (all_dropped p j a x || b) Unsuccessful Open))) none
      ∙ ap (λ b. is_settled (unwrap_or (by_grant j (grant_of j a)) (cond b Unsuccessful Open))) (or_none (all_dropped p j a x))

-- ---- the table's queued branches

and_none : (b : Bool) → (b && false) ≡ false
and_none true = refl
and_none false = refl

-- fed, under way, dropped, granted, settled by itself, settled
both_ways : (f u d g o s : Bool) → (f ≡ true → s ≡ o) → ((not u && not d) && ((not g && not o) && f)) ≡ ((not s && (not g && not d)) && (f && not u))
both_ways false u d g o s h =
    rw (and_none (not g && not o), and_none (not u && not d), and_none (not s && (not g && not d))) refl
both_ways true u d g o s h = rw (h refl) (by u d g o)
  where
    by : (u d g o : Bool) → ((not u && not d) && ((not g && not o) && true)) ≡ ((not o && (not g && not d)) && (true && not u))
    by true true true true = refl
    by true true true false = refl
    by true true false true = refl
    by true true false false = refl
    by true false true true = refl
    by true false true false = refl
    by true false false true = refl
    by true false false false = refl
    by false true true true = refl
    by false true true false = refl
    by false true false true = refl
    by false true false false = refl
    by false false true true = refl
    by false false true false = refl
    by false false false true = refl
    by false false false false = refl

module _ (p : Plan) (states : List ActionState) (j : List Entry) (s : Stands p states j) where
  own_map : (a : ℕ) (o : Option PlanAction) → option_map (λ x. x.own) (option_map (state_in p j a) o) ≡ option_map (own_in p j a) o
  own_map a None = refl
  own_map a (Some x) = refl

  success_is : (a : ℕ) → has_success states a ≡ is_success (slice_get (standings p j) a)
  success_is a =
      ap (λ o. is_success (option_map (λ x. x.own) o)) (s.each a) ∙ ap is_success (own_map a (slice_get p.actions a)) ∙ sym (success_at p j a (slice_get p.actions a) refl)

  all_success : (ms : List Maker) → list_all (has_success states) (map (λ m. m.action) ms) ≡ list_all (λ m. is_success (slice_get (standings p j) m.action)) ms
  all_success [] = refl
  all_success (m ∷ ms) = rw (success_is m.action, all_success ms) refl

  pub ready_is : (x : PlanAction) → list_all (has_success states) (producers_of x) ≡ ready p j x
  unfolding ready
  ready_is x = all_success x.makers

  pub queued_is : (g a : ℕ) (b : Branch) (x : PlanAction) → slice_get p.actions a ≡ Some x → is_queued states g a b ≡ (uses x b g && queued p j a b x)
  unfolding queued wanted is_free
  queued_is g a Local x h =
      let here : slice_get states a ≡ Some (state_in p j a x) = s.each a ∙ ap (option_map (state_in p j a)) h in
      rw (here, ready_is x)
      (ap (λ r. uses x Local g && r) (both_ways (ready p j x) (is_under_way j a Local) (dropped p j a Local) (granted j a) (is_settled (own_in p j a x)) (settled p j a) (settled_at p j a x h)))
  queued_is g a Remote x h =
      let here : slice_get states a ≡ Some (state_in p j a x) = s.each a ∙ ap (option_map (state_in p j a)) h in
      rw (here, ready_is x)
      (ap (λ r. uses x Remote g && r) (both_ways (ready p j x) (is_under_way j a Remote) (dropped p j a Remote) (granted j a) (is_settled (own_in p j a x)) (settled p j a) (settled_at p j a x h)))

  none_queued : (g a : ℕ) (b : Branch) → slice_get p.actions a ≡ None → is_queued states g a b ≡ false
  none_queued g a b h =
      let here : slice_get states a ≡ None = s.each a ∙ ap (option_map (state_in p j a)) h in rw here refl

-- ---- the first of them

-- what a test of branches picks of an action
pick : (ℕ → Branch → Bool) → ℕ → Option (ℕ × Branch)
pick q a = cond (q a Local) (Some (a, Local)) (cond (q a Remote) (Some (a, Remote)) None)

record FirstFrom (q : ℕ → Branch → Bool) (n a : ℕ) (b : Branch) : Type 0 where
  pub within : n ≤ a
  pub hit : q a b ≡ true
  pub least : (c : ℕ) (d : Branch) → n ≤ c → c < a → q c d ≡ false
  pub local_first : b ≡ Remote → q a Local ≡ false

EarliestFrom : (ℕ → Branch → Bool) → ℕ → Option (ℕ × Branch) → Type 0
EarliestFrom q n None = (c : ℕ) (d : Branch) → n ≤ c → q c d ≡ false
EarliestFrom q n (Some x) = FirstFrom q n x.0 x.1

branch_or : (o r : Option Attempt) → branch_of (or_else o r) ≡ or_else (branch_of o) (branch_of r)
branch_or None r = refl
branch_or (Some t) r = refl

-- none at n, so that it is the first from there on
skip : (q : ℕ → Branch → Bool) (n : ℕ) (r : Option (ℕ × Branch)) → ((d : Branch) → q n d ≡ false) → EarliestFrom q (n + 1) r → EarliestFrom q n r
unfolding EarliestFrom
skip q n None none h = λ c d le.
    by_bool (nat_lt n c) (λ _. q c d ≡ false) (λ lt. let l = ltb-true n c lt in h c d (omega arith))
    (λ past. let l = ltb-false n c past in subst (λ m. q m d ≡ false) (omega arith) (none d))
skip q n (Some x) none h = record {
  within = let w = h.within in omega arith;
  hit = h.hit;
  least = λ c d le lt.
      by_bool (nat_lt n c) (λ _. q c d ≡ false) (λ k. let l = ltb-true n c k in h.least c d (omega arith) lt)
      (λ past. let l = ltb-false n c past in subst (λ m. q m d ≡ false) (omega arith) (none d));
  local_first = h.local_first;
}

picked : (q : ℕ → Branch → Bool) (n : ℕ) (r : Option (ℕ × Branch)) → EarliestFrom q (n + 1) r → EarliestFrom q n (or_else (pick q n) r)
unfolding EarliestFrom pick
picked q n r h =
    by_bool (q n Local) (λ v. EarliestFrom q n (or_else (cond v (Some (n, Local)) (cond (q n Remote) (Some (n, Remote)) None)) r))
    (λ local. record { within = omega arith; hit = local; least = λ c d le lt. absurd (omega arith); local_first = λ e. absurd (cc) })
    (λ no_local. by_bool (q n Remote) (λ v. EarliestFrom q n (or_else (cond v (Some (n, Remote)) None) r))
    (λ remote. record { within = omega arith; hit = remote; least = λ c d le lt. absurd (omega arith); local_first = λ e. no_local })
    (λ no_remote. skip q n r (λ d. elim d as (λ b. q n b ≡ false) [ Local ↦ no_local | Remote ↦ no_remote ]) h))

module _ (p : Plan) (j : List Entry) (g : ℕ) where
  pick_is : (q : ℕ → Branch → Bool) (a : ℕ) (x : PlanAction) → ((b : Branch) → q a b ≡ (uses x b g && queued p j a b x)) → branch_of (queued_in p j g a x) ≡ pick q a
  unfolding pick
  pick_is q a x same = rw (same Local, same Remote) (by (uses x Local g && queued p j a Local x) (uses x Remote g && queued p j a Remote x) (attempt j a Local + 1) (attempt j a Remote + 1))
    where
      by : (l r : Bool) (m n : ℕ) → branch_of (cond l (Some (attempt_of a Local m)) (cond r (Some (attempt_of a Remote n)) None)) ≡ cond l (Some (a, Local)) (cond r (Some (a, Remote)) None)
      by true r m n = refl
      by false true m n = refl
      by false false m n = refl

  walk : (q : ℕ → Branch → Bool) (n : ℕ) (xs : List PlanAction) → ((i : ℕ) (x : PlanAction) → slice_get xs i ≡ Some x → branch_of (queued_in p j g (n + i) x) ≡ pick q (n + i))
      → ((i : ℕ) (d : Branch) → slice_get xs i ≡ None → q (n + i) d ≡ false) → EarliestFrom q n (branch_of (earliest_from p j g n xs))
  unfolding EarliestFrom
  walk q n [] at past = λ c d le. subst (λ m. q m d ≡ false) (omega arith) (past (c - n) d refl)
  walk q n (x ∷ xs) at past =
      let here : branch_of (queued_in p j g n x) ≡ pick q n = subst (λ m. branch_of (queued_in p j g m x) ≡ pick q m) (omega arith) (at 0 x refl) in
      let rest = earliest_from p j g (n + 1) xs in
      subst (EarliestFrom q n) (sym (branch_or (queued_in p j g n x) rest ∙ ap (λ o. or_else o (branch_of rest)) here))
      (picked q n (branch_of rest) (walk q (n + 1) xs
      (λ i y h. subst (λ m. branch_of (queued_in p j g m y) ≡ pick q m) (omega arith) (at (suc i) y h))
      (λ i d h. subst (λ m. q m d ≡ false) (omega arith) (past (suc i) d h))))

module _ (states : List ActionState) (g : ℕ) where
  from_start : (r : Option (ℕ × Branch)) → EarliestFrom (is_queued states g) 0 r → IsEarliest states g r
  unfolding EarliestFrom
  from_start None h = λ c d. h c d (omega arith)
  from_start (Some x) h = record { queued = h.hit; least = λ c d lt. h.least c d (omega arith) lt; local_first = h.local_first }

  one_branch : (a : ℕ) (b d : Branch) → IsFirst states g a b → IsFirst states g a d → b ≡ d
  one_branch a Local Local h k = refl
  one_branch a Remote Remote h k = refl
  one_branch a Local Remote h k = absurd (let yes = h.queued in let no = k.local_first refl in cc)
  one_branch a Remote Local h k = absurd (let yes = k.queued in let no = h.local_first refl in cc)

  one_first : (a c : ℕ) (b d : Branch) → IsFirst states g a b → IsFirst states g c d → (a ≡ c) × (b ≡ d)
  one_first a c b d h k =
      by_bool (nat_lt a c) (λ _. (a ≡ c) × (b ≡ d)) (λ lt. absurd (let yes = h.queued in let no = k.least a b (ltb-true a c lt) in cc))
      (λ low. by_bool (nat_lt c a) (λ _. (a ≡ c) × (b ≡ d)) (λ lt. absurd (let yes = k.queued in let no = h.least c d (ltb-true c a lt) in cc))
      (λ high.
      let below = ltb-false a c low in
      let above = ltb-false c a high in
      let same : c ≡ a = omega arith in
      (sym same, one_branch a b d h (subst (λ m. IsFirst states g m d) same k))))

  -- there is one answer at most
  pub one_earliest : (r r' : Option (ℕ × Branch)) → IsEarliest states g r → IsEarliest states g r' → r ≡ r'
  one_earliest None None h k = refl
  one_earliest None (Some y) h k = absurd (let no = h y.0 y.1 in let yes = k.queued in cc)
  one_earliest (Some x) None h k = absurd (let no = k x.0 x.1 in let yes = h.queued in cc)
  one_earliest (Some x) (Some y) h k = let same = one_first x.0 y.0 x.1 y.1 h k in λ i. Some (same.0 i, same.1 i)

pub earliest_is : (p : Plan) (states : List ActionState) (j : List Entry) (g : ℕ) (r : Option (ℕ × Branch)) → Stands p states j → IsEarliest states g r → r ≡ branch_of (earliest p j g)
unfolding earliest
earliest_is p states j g r s h =
    one_earliest states g r (branch_of (earliest_from p j g 0 p.actions)) h
    (from_start states g (branch_of (earliest_from p j g 0 p.actions))
    (walk p j g (is_queued states g) 0 p.actions
    (λ i x k. subst (λ m. branch_of (queued_in p j g m x) ≡ pick (is_queued states g) m) (omega arith) (pick_is p j g (is_queued states g) i x (λ b. queued_is p states j s g i b x k)))
    (λ i d k. subst (λ m. is_queued states g m d ≡ false) (omega arith) (none_queued p states j s g i d k))))
