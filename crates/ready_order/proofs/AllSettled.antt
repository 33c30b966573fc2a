-- All actions are settled exactly where none waits: where each that isn't settled by itself has a
-- producer without success.
use Rattle.std.proofs.Common.{◌≡◌, ℕ, zero, suc, ◌+◌, ◌^◌, ◌<◌, ◌≤◌, nat_lt, Bool, true, false, ◌&&◌, ◌||◌, not, cond, List, [], ◌∷◌, ◌++◌, length, get_or, Option, Some, None, option_map, unwrap_or, ◌⊎◌, inl, inr, refl, ap, sym, subst, ◌∙◌, arith, length-append}
use Rattle.std.specs.Prelude.{slice_get}
use Rattle.std.specs.List.{list_any, list_all}
use Rattle.std.proofs.lemmas.Bool.{and_parts, ltb-true}
use Rattle.std.proofs.lemmas.Option.{slice_get_within, slice_get_cases}
use Rattle.run_plan.specs.declared.plan.Maker.{Maker}
use Rattle.run_plan.specs.declared.plan.Plan.{Plan}
use Rattle.run_plan.specs.declared.plan.PlanAction.{PlanAction}
use Rattle.exec_journal.specs.declared.attempt.Attempt.{Attempt}
use Rattle.exec_journal.specs.declared.call.Found.{Found}
use Rattle.exec_journal.specs.declared.call.Found.TheVariants as found
use Rattle.exec_journal.specs.declared.call.CommitEnd.{CommitEnd}
use Rattle.exec_journal.specs.declared.call.CommitEnd.TheVariants as commit
use Rattle.exec_journal.specs.declared.ends.Standing.{Standing}
use Rattle.exec_journal.specs.declared.ends.Standing.TheVariants.{Open, Succeeded, Unsuccessful}
use Rattle.exec_journal.specs.Entry.{Entry}
use Rattle.exec_journal.specs.Settled.{by_commit, by_grant, all_dropped, is_starved, is_success, is_unsuccessful, is_settled, standing_after, standings_from, standings, settled, all_settled, ready}
use Rattle.run_plan.specs.Sound.{Sound, are_sound_from, is_sound_action, is_earlier, has_branches}
use Rattle.exec_journal.specs.Words.{grant_of, commit_of}
use Rattle.exec_journal.proofs.Ruled.{by_bool}
use Rattle.ready_order.specs.declared.ActionState.{ActionState}
use Rattle.ready_order.specs.Queue.{waits, none_waits}
use Rattle.ready_order.specs.Stands as queues
use Rattle.ready_order.specs.Stands.{own_in, state_in}
use Rattle.ready_order.proofs.Queued.{standings_front, standings_length, settled_at, ready_is, get_behind}

-- ---- lists

all_at : {X : Type 0} (q : X → Bool) (xs : List X) (i : ℕ) (x : X) → list_all q xs ≡ true
    → slice_get xs i ≡ Some x → q x ≡ true
all_at q [] i x h k = absurd (cc)
all_at q (y ∷ ys) zero x h k = let same : y ≡ x = cc in
    subst (λ z. q z ≡ true) same (and_parts (q y) _ h).0
all_at q (y ∷ ys) (suc i) x h k = all_at q ys i x (and_parts (q y) _ h).1 k

all_from : {X : Type 0} (q : X → Bool) (xs : List X)
    → ((i : ℕ) (x : X) → slice_get xs i ≡ Some x → q x ≡ true) → list_all q xs ≡ true
all_from q [] h = refl
all_from q (x ∷ xs) h = rw (h 0 x refl) (all_from q xs (λ i y k. h (suc i) y k))

some_fails : (e q v : Maker → Bool) → ((m : Maker) → e m ≡ true → q m ≡ false → v m ≡ true)
    → (ms : List Maker) → list_all e ms ≡ true → list_all q ms ≡ false → list_any v ms ≡ true
some_fails e q v g [] h k = absurd (cc)
some_fails e q v g (m ∷ ms) h k =
    let parts = and_parts (e m) _ h in
    by_bool (q m) (λ b. q m ≡ b → (b && list_all q ms) ≡ false → (v m || list_any v ms) ≡ true)
    (λ yes is rest. ap (λ b. v m || b) (some_fails e q v g ms parts.1 rest) ∙ or_true (v m))
    (λ no is rest. ap (λ b. b || list_any v ms) (g m parts.0 is)) refl k
  where
    or_true : (b : Bool) → (b || true) ≡ true
    or_true true = refl
    or_true false = refl

bool_eq : (a b : Bool) → (a ≡ true → b ≡ true) → (b ≡ true → a ≡ true) → a ≡ b
bool_eq true b f g = sym (f refl)
bool_eq false true f g = g refl
bool_eq false false f g = refl

pub sound_at : (p : Plan) (n : ℕ) (xs : List PlanAction) (i : ℕ) (x : PlanAction)
    → are_sound_from p n xs ≡ true → slice_get xs i ≡ Some x → is_sound_action p (n + i) x ≡ true
sound_at p n [] i x h k = absurd (cc)
sound_at p n (y ∷ ys) zero x h k =
    let same : y ≡ x = cc in
    let z : n ≡ n + 0 = omega arith in
    subst (λ (w : PlanAction). is_sound_action p (n + 0) w ≡ true) same
    (subst (λ m. is_sound_action p m y ≡ true) z (and_parts (is_sound_action p n y) _ h).0)
sound_at p n (y ∷ ys) (suc i) x h k = let z : suc n + i ≡ n + suc i = omega arith in
    subst (λ m. is_sound_action p m x ≡ true) z (sound_at p (suc n) ys i x
    (and_parts (is_sound_action p n y) _ h).1 k)

-- ---- standings

record Placed (p : Plan) (j : List Entry) (whole : List Standing) (a : ℕ)
    (x : PlanAction) : Type 0 where
  before : List Standing
  is : slice_get whole a ≡ Some (standing_after p j a x before)
  same : (m : ℕ) → m < a → slice_get before m ≡ slice_get whole m

module _ (p : Plan) (j : List Entry) where
  placed_at : (xs : List PlanAction) (earlier : List Standing) (i a : ℕ) (x : PlanAction)
      → length earlier + i ≡ a → slice_get xs i ≡ Some x
      → Placed p j (standings_from p j earlier xs) a x
  placed_at [] earlier i a x e h = absurd (cc)
  placed_at (y ∷ xs) earlier zero a x e h =
      let here : length earlier ≡ a = omega arith in
      let same : y ≡ x = cc in
      let s = standing_after p j (length earlier) y earlier in
      record {
        before = earlier;
        is = subst (λ n. slice_get (standings_from p j (earlier ++ s ∷ []) xs) n ≡ Some
            (standing_after p j n x earlier)) here
            (standings_front p j xs (earlier ++ s ∷ []) (length earlier)
            (omega (arith, length-append earlier (s ∷ [])))
            ∙ get_behind earlier s ∙ ap (λ z. Some (standing_after p j (length earlier) z earlier))
            same);
        same = λ m lt. sym (standings_front p j (y ∷ xs) earlier m (omega arith));
      }
  placed_at (y ∷ xs) earlier (suc i) a x e h =
      let s = standing_after p j (length earlier) y earlier in
      placed_at xs (earlier ++ s ∷ []) i a x (omega (arith, length-append earlier (s ∷ []))) h

  placed : (a : ℕ) (x : PlanAction) → slice_get p.actions a ≡ Some x
      → Placed p j (standings p j) a x
  unfolding standings
  placed a x h = placed_at p.actions [] a a x (omega arith) h

  known : length (standings p j) ≡ length p.actions
  unfolding standings
  known = omega (arith, standings_length p j p.actions [])

  -- a grant settles
  commit_settles : (o : Option CommitEnd) (v : Standing) → by_commit o ≡ Some v
      → is_settled v ≡ true
  commit_settles (Some commit.Done) v h = let same : Succeeded ≡ v = cc in
      subst (λ z. is_settled z ≡ true) same refl
  commit_settles (Some (commit.PlaceFault k)) v h = let same : Unsuccessful ≡ v = cc in
      subst (λ z. is_settled z ≡ true) same refl
  commit_settles None v h = absurd (cc)

  grant_settles : (o : Option (Attempt × Found)) (v : Standing) → by_grant j o ≡ Some v
      → is_settled v ≡ true
  grant_settles (Some (t, found.Exit n)) v h = let same : Unsuccessful ≡ v = cc in
      subst (λ z. is_settled z ≡ true) same refl
  grant_settles (Some (t, found.Files fs)) v h = commit_settles (commit_of j t.action t.branch) v h
  grant_settles (Some (t, found.Missing k)) v h = absurd (cc)
  grant_settles (Some (t, found.RoomFault)) v h = absurd (cc)
  grant_settles (Some (t, found.Refused)) v h = absurd (cc)
  grant_settles None v h = absurd (cc)

  -- settled by itself, or starved
  settles : (o : Option Standing) (d t : Bool) → ((v : Standing) → o ≡ Some v → is_settled v ≡ true)
      → (is_settled (unwrap_or o (cond d Unsuccessful Open)) ≡ true) ⊎ (t ≡ true)
      → is_settled (unwrap_or o (cond (d || t) Unsuccessful Open)) ≡ true
  settles (Some v) d t g h = g v refl
  settles None true t g h = refl
  settles None false true g h = refl
  settles None false false g (inl h) = absurd (cc)
  settles None false false g (inr h) = absurd (cc)

  without_of : (o : Option Standing) (v : Standing) → o ≡ Some v → is_settled v ≡ true
      → is_success o ≡ false → is_unsuccessful o ≡ true
  without_of (Some Succeeded) v e h k = absurd (cc)
  without_of (Some Unsuccessful) v e h k = refl
  without_of (Some Open) v e h k = let same : Open ≡ v = cc in
      absurd (let x = subst (λ z. is_settled z ≡ true) same in let y = ap is_settled same ∙ h in cc)
  without_of None v e h k = absurd (cc)

  module _ (states : List ActionState) (st : queues.Stands p states j) (sound : Sound p) where
    state_at : (a : ℕ) (x : PlanAction) → slice_get p.actions a ≡ Some x
        → slice_get states a ≡ Some (state_in p j a x)
    state_at a x h = st.each a ∙ ap (option_map (state_in p j a)) h

    waits_is : (a : ℕ) (x : PlanAction) → waits states (state_in p j a x) ≡
        (not (is_settled (own_in p j a x)) && ready p j x)
    waits_is a x = ap (λ b. not (is_settled (own_in p j a x)) && b) (ready_is p states j st x)

    action_at : (a : ℕ) → a < length p.actions → (x : PlanAction) × (slice_get p.actions a ≡ Some x)
    action_at a lt = by (slice_get_cases p.actions a).1
      where
        by : ((x : PlanAction) × (a < length p.actions) × (slice_get p.actions a ≡ Some x)
            × (get_or p.actions a x ≡ x)) ⊎ ((length p.actions ≤ a)
            × (slice_get p.actions a ≡ None)) → (x : PlanAction) × (slice_get p.actions a ≡ Some x)
        by (inl w) = (w.0, w.2)
        by (inr w) = let le = w.0 in absurd (omega arith)

    -- ---- where none waits, each is settled

    module _ (none : none_waits states ≡ true) where
      no_wait : (a : ℕ) (x : PlanAction) → slice_get p.actions a ≡ Some x
          → (not (is_settled (own_in p j a x)) && ready p j x) ≡ false
      no_wait a x h = let w = all_at (λ y. not (waits states y)) states a (state_in p j a x) none
          (state_at a x h) in sym (waits_is a x) ∙ off (waits states (state_in p j a x)) w
        where
          off : (b : Bool) → not b ≡ true → b ≡ false
          off true h = absurd (cc)
          off false h = refl

      settled_before : (n a : ℕ) → a < n → a < length p.actions → (v : Standing)
          → slice_get (standings p j) a ≡ Some v → is_settled v ≡ true
      unfolding own_in ready
      settled_before zero a lt within v h = absurd (omega arith)
      settled_before (suc n) a lt within v h =
          let act = action_at a within in
          let x = act.0 in
          let at = placed a x act.1 in
          let earlier = (and_parts (has_branches (length p.groups) x) _
          (and_parts (nat_lt (length x.outputs) (2 ^ 32)) _ (subst
          (λ m. is_sound_action p m x ≡ true) (zero_plus a) (sound_at p 0 p.actions a x
          sound.each_action act.1))).1).1 in
          let starves : list_all (λ m. is_success (slice_get (standings p j) m.action)) x.makers
          ≡ false → is_starved x at.before ≡ true =
          some_fails (is_earlier p.actions a) (λ m. is_success (slice_get (standings p j) m.action))
          (λ m. is_unsuccessful (slice_get at.before m.action))
          (λ m ear fails.
          let lower = ltb-true m.action a (and_parts (nat_lt m.action a) _ ear).0 in
          let prod = standing_of m.action (omega arith) in
          ap is_unsuccessful (at.same m.action lower) ∙ without_of
          (slice_get (standings p j) m.action) prod.0 prod.1
          (settled_before n m.action (omega arith) (omega arith) prod.0 prod.1) fails)
          x.makers earlier in
          let here = settles (by_grant j (grant_of j a)) (all_dropped p j a x)
          (is_starved x at.before) (λ u k. grant_settles (grant_of j a) u k)
          (either (is_settled (own_in p j a x)) (ready p j x) refl refl
          (no_wait a x act.1) starves) in
          let same : standing_after p j a x at.before ≡ v = some_same
          (standing_after p j a x at.before) v (sym at.is ∙ h) in
          subst (λ z. is_settled z ≡ true) same here
        where
          zero_plus : (m : ℕ) → 0 + m ≡ m
          zero_plus m = omega arith

          some_same : (u w : Standing) → Some u ≡ Some w → u ≡ w
          some_same u w e = cc

          standing_of : (m : ℕ) → m < length p.actions → (u : Standing)
              × (slice_get (standings p j) m ≡ Some u)
          standing_of m lt2 = let ac = action_at m lt2 in let pl = placed m ac.0 ac.1 in (_, pl.is)

          either : (o f : Bool) → is_settled (own_in p j a (action_at a within).0) ≡ o
              → ready p j (action_at a within).0 ≡ f → (not o && f) ≡ false
              → (f ≡ false → is_starved (action_at a within).0 (placed a (action_at a within).0
              (action_at a within).1).before ≡ true)
              → (is_settled (own_in p j a (action_at a within).0) ≡ true)
              ⊎ (is_starved (action_at a within).0 (placed a (action_at a within).0
              (action_at a within).1).before ≡ true)
          either true f e g h k = inl e
          either false true e g h k = absurd (cc)
          either false false e g h k = inr (k refl)

      all_are : all_settled p j ≡ true
      unfolding all_settled
      all_are = all_from is_settled (standings p j) (λ a v h. let lt =
          slice_get_within (standings p j) a v h in let len = known in
          settled_before (suc a) a (omega arith) (omega arith) v h)

    -- ---- and the other way round

    module _ (all : all_settled p j ≡ true) where
      settled_all : (a : ℕ) (x : PlanAction) → slice_get p.actions a ≡ Some x → settled p j a ≡ true
      unfolding all_settled settled
      settled_all a x h = let pl = placed a x h in ap (λ o. unwrap_or
          (option_map is_settled o) false) pl.is ∙ all_at is_settled (standings p j) a _ all pl.is

      quiet_at : (a : ℕ) (x : PlanAction) → slice_get p.actions a ≡ Some x
          → not (waits states (state_in p j a x)) ≡ true
      quiet_at a x h = ap not (waits_is a x) ∙ by (is_settled (own_in p j a x))
          (ready p j x) refl refl
        where
          by : (o f : Bool) → is_settled (own_in p j a x) ≡ o → ready p j x ≡ f
              → not (not o && f) ≡ true
          by true f e g = refl
          by false false e g = refl
          by false true e g = absurd (let s = settled_at p j a x h g in let t = settled_all a x h in
              cc)

      none_do : none_waits states ≡ true
      none_do = all_from (λ y. not (waits states y)) states
          (λ a y h. state_quiet a y h (slice_get p.actions a) refl)
        where
          state_quiet : (a : ℕ) (y : ActionState) → slice_get states a ≡ Some y
              → (o : Option PlanAction) → slice_get p.actions a ≡ o → not (waits states y) ≡ true
          state_quiet a y h (Some x) e = let same : state_in p j a x ≡ y =
              (let k = sym (state_at a x e) ∙ h in cc) in subst (λ z. not (waits states z) ≡ true)
              same (quiet_at a x e)
          state_quiet a y h None e = absurd (let k = st.each a
              ∙ ap (option_map (state_in p j a)) e in cc)

pub over_is : (p : Plan) (states : List ActionState) (j : List Entry) → queues.Stands p states j
    → Sound p → none_waits states ≡ all_settled p j
over_is p states j st sound = bool_eq (none_waits states) (all_settled p j)
    (λ h. all_are p j states st sound h) (λ h. none_do p j states st sound h)
