-- How the table's states follow an entry with which attempts end.
use Rattle.std.proofs.Common.{◌≡◌, ℕ, ◌<◌, ◌==◌, nat_lt, Bool, true, false, ◌&&◌, ◌||◌, not, cond, List, [], ◌∷◌, Option, Some, None, is_some, option_map, unwrap_or, inl, inr, refl, ap, sym, subst, ◌∙◌, arith}
use Rattle.std.specs.Prelude.{slice_get}
use Rattle.std.specs.List.{list_any}
use Rattle.std.proofs.lemmas.Bool.{eqb-true, eq-eqb, lt-ltb, le-ltb, ltb-true, ltb-false, and_parts, and_from, and_right, or_cases, or_left, or_right}
use Rattle.run_plan.specs.declared.plan.Branch.{Branch}
use Rattle.run_plan.specs.declared.plan.Branch.TheVariants.{Local, Remote}
use Rattle.run_plan.specs.declared.plan.Plan.{Plan}
use Rattle.run_plan.specs.declared.plan.PlanAction.{PlanAction}
use Rattle.exec_journal.specs.declared.attempt.Attempt.{Attempt}
use Rattle.exec_journal.specs.declared.ends.Standing.{Standing}
use Rattle.exec_journal.specs.declared.ends.Standing.TheVariants.{Open, Unsuccessful}
use Rattle.exec_journal.specs.Entry.{Entry}
use Rattle.exec_journal.specs.declared.call.Found.{Found}
use Rattle.list_lemmas.specs.Options.{or_else}
use Rattle.exec_journal.specs.Entries.{attempt_of, same_branch, same_attempt, is_branch_of}
use Rattle.exec_journal.specs.Words.{grant_of, granted}
use Rattle.exec_journal.specs.Attempts.{attempt, over, end_of, ended, dropped}
use Rattle.exec_journal.specs.Settled.{by_grant, unused_or_dropped, all_dropped, is_under_way}
use Rattle.exec_journal.proofs.Begins.{same_branch_eq, same_branch_refl, same_attempt_eq, same_attempt_refl}
use Rattle.exec_journal.proofs.Quiet.{ended_stays}
use Rattle.exec_journal.proofs.Ruled.{by_bool}
use Rattle.ready_order.specs.declared.ActionState.{ActionState}
use Rattle.ready_order.specs.Queue.{state_with, with_again, settled_state, with_settled}
use Rattle.ready_order.specs.Stands.{Stands, is_free, own_in, state_in}
use Rattle.ready_order.specs.Entries.{is_among, EndsThese, has_none_left, with_end, with_ends}
use Rattle.ready_order.proofs.Followed.{or_none, made, made_same, AreStates, states_changed, map_same, stands_by, granted_same, grant_same, all_dropped_same, own_same}

-- ---- some attempt among these

-- one that passes a test
any_among : (test : Attempt → Bool) (ts : List Attempt) → list_any test ts ≡ true → (t : Attempt) × (is_among ts t ≡ true) × (test t ≡ true)
any_among test [] h = absurd (cc)
any_among test (t ∷ ts) h =
    elim (or_cases (test t) (list_any test ts) h) [
      | inl here ↦ (t, or_left (same_attempt t t) (is_among ts t) (same_attempt_refl t), here)
      | inr later ↦ (let found = any_among test ts later in (found.0, or_right (same_attempt found.0 t) (is_among ts found.0) found.1, found.2))
    ]

among_any : (test : Attempt → Bool) (ts : List Attempt) (t : Attempt) → is_among ts t ≡ true → test t ≡ true → list_any test ts ≡ true
among_any test [] t h pass = absurd (cc)
among_any test (s ∷ ts) t h pass =
    elim (or_cases (same_attempt t s) (is_among ts t) h) [
      | inl here ↦ or_left (test s) (list_any test ts) (subst (λ u. test u ≡ true) (same_attempt_eq t s here) pass)
      | inr later ↦ or_right (test s) (list_any test ts) (among_any test ts t later pass)
    ]

branch_is : (a : ℕ) (b : Branch) (t : Attempt) → is_branch_of a b t ≡ true → t ≡ attempt_of a b t.number
branch_is a b t h =
    let parts = and_parts (t.action == a) _ h in
    let act = eqb-true t.action a parts.0 in
    let bra = same_branch_eq t.branch b parts.1 in
    λ i. record { action = act i; branch = bra i; number = t.number }

is_branch : (a : ℕ) (b : Branch) (n : ℕ) → is_branch_of a b (attempt_of a b n) ≡ true
is_branch a b n = and_from (a == a) (same_branch b b) (eq-eqb a a refl) (same_branch_refl b)

-- ---- what the calls make of a state

-- one of these attempts frees the branch
frees : Plan → ℕ → Branch → List Attempt → Bool
frees p a b ts = list_any (λ t. is_branch_of a b t && nat_lt t.number p.limit) ts

-- one of these was the last of its branch
spends : Plan → ℕ → List Attempt → Bool
spends p a ts = list_any (λ t. (t.action == a) && not (nat_lt t.number p.limit)) ts

end_state : Plan → List Entry → Attempt → ℕ → PlanAction → ActionState → ActionState
end_state p k t a x s = cond (t.action == a) (cond (nat_lt t.number p.limit) (state_with t.branch true s) (cond (all_dropped p k a x) (settled_state false s) s)) s

end_states : Plan → List Entry → List Attempt → ℕ → PlanAction → ActionState → ActionState
end_states p k [] a x s = s
end_states p k (t ∷ ts) a x s = end_states p k ts a x (end_state p k t a x s)

module _ (p : Plan) (k : List Entry) where
  left_is : (t : Attempt) (a : ℕ) (x : PlanAction) → slice_get p.actions a ≡ Some x → (t.action == a) ≡ true → has_none_left p k t.action ≡ all_dropped p k a x
  left_is t a x h same =
      let e : t.action ≡ a = eqb-true t.action a same in
      subst (λ c. has_none_left p k c ≡ all_dropped p k a x) (sym e) (ap (λ o. unwrap_or (option_map (all_dropped p k a) o) false) h)

  by_left : (hit : Bool) (left d : Bool) (s : ActionState) → (hit ≡ true → left ≡ d) → cond left (cond hit (settled_state false s) s) s ≡ cond hit (cond d (settled_state false s) s) s
  by_left true left d s same = rw (same refl) refl
  by_left false true d s same = refl
  by_left false false d s same = refl

  one_end : (w : ℕ → PlanAction → ActionState) (states : List ActionState) (t : Attempt) → AreStates p w states → AreStates p (λ a x. end_state p k t a x (w a x)) (with_end p k states t)
  unfolding end_state
  one_end w states t h =
      by_bool (nat_lt t.number p.limit)
      (λ v. AreStates p (λ a x. cond (t.action == a) (cond v (state_with t.branch true (w a x)) (cond (all_dropped p k a x) (settled_state false (w a x)) (w a x))) (w a x))
      (cond v (with_again states t.action t.branch) (cond (has_none_left p k t.action) (with_settled states t.action false) states)))
      (λ below. states_changed p w states t.action (state_with t.branch true) h)
      (λ last a. settled_end (has_none_left p k t.action) a
      ∙ map_same (λ x. cond (t.action == a) (cond (all_dropped p k a x) (settled_state false (w a x)) (w a x)) (w a x)) (λ x. cond (has_none_left p k t.action) (cond (t.action == a) (settled_state false (w a x)) (w a x)) (w a x))
      (slice_get p.actions a) (λ x at. by_left (t.action == a) (has_none_left p k t.action) (all_dropped p k a x) (w a x) (left_is t a x at)))
    where
      settled_end : (left : Bool) → AreStates p (λ a x. cond left (cond (t.action == a) (settled_state false (w a x)) (w a x)) (w a x)) (cond left (with_settled states t.action false) states)
      settled_end true = states_changed p w states t.action (settled_state false) h
      settled_end false = h

  all_ends : (ts : List Attempt) (w : ℕ → PlanAction → ActionState) (states : List ActionState) → AreStates p w states → AreStates p (λ a x. end_states p k ts a x (w a x)) (with_ends p k states ts)
  unfolding end_states
  all_ends [] w states h = h
  all_ends (t ∷ ts) w states h = all_ends ts (λ a x. end_state p k t a x (w a x)) (with_end p k states t) (one_end w states t h)

  one_made : (hit below : Bool) (b : Branch) (d : Bool) (x : PlanAction) (l r g : Bool) (o : Standing)
      → cond hit (cond below (state_with b true (made x l r g o)) (cond d (settled_state false (made x l r g o)) (made x l r g o))) (made x l r g o)
      ≡ made x (((hit && same_branch b Local) && below) || l) (((hit && same_branch b Remote) && below) || r) g (cond ((hit && not below) && d) Unsuccessful o)
  one_made true true Local d x l r g o = refl
  one_made true true Remote d x l r g o = refl
  one_made true false Local true x l r g o = refl
  one_made true false Local false x l r g o = refl
  one_made true false Remote true x l r g o = refl
  one_made true false Remote false x l r g o = refl
  one_made false below b d x l r g o = refl

  or_twice : (one rest l : Bool) → (rest || (one || l)) ≡ ((one || rest) || l)
  or_twice true true l = refl
  or_twice true false l = refl
  or_twice false true l = refl
  or_twice false false l = refl

  settle_twice : (one rest d : Bool) (o : Standing) → cond (rest && d) Unsuccessful (cond (one && d) Unsuccessful o) ≡ cond ((one || rest) && d) Unsuccessful o
  settle_twice true true true o = refl
  settle_twice true true false o = refl
  settle_twice true false true o = refl
  settle_twice true false false o = refl
  settle_twice false true true o = refl
  settle_twice false true false o = refl
  settle_twice false false d o = refl

  all_made : (ts : List Attempt) (a : ℕ) (x : PlanAction) (l r g : Bool) (o : Standing)
      → end_states p k ts a x (made x l r g o) ≡ made x (frees p a Local ts || l) (frees p a Remote ts || r) g (cond (spends p a ts && all_dropped p k a x) Unsuccessful o)
  unfolding end_states end_state frees spends
  all_made [] a x l r g o = refl
  all_made (t ∷ ts) a x l r g o =
      let below = nat_lt t.number p.limit in
      let d = all_dropped p k a x in
      ap (end_states p k ts a x) (one_made (t.action == a) below t.branch d x l r g o)
      ∙ all_made ts a x (((t.action == a) && same_branch t.branch Local && below) || l) (((t.action == a) && same_branch t.branch Remote && below) || r) g (cond (((t.action == a) && not below) && d) Unsuccessful o)
      ∙ made_same x _ _ _ _ g g _ _ (or_twice (is_branch_of a Local t && below) (frees p a Local ts) l) (or_twice (is_branch_of a Remote t && below) (frees p a Remote ts) r) refl
      (settle_twice ((t.action == a) && not below) (spends p a ts) d o)

-- ---- they are the journal's

or_nothing : (x y : Bool) → y ≡ false → (x || y) ≡ x
or_nothing true y h = refl
or_nothing false y h = h

module _ (p : Plan) (j : List Entry) (e : Entry) (ts : List Attempt) (h : EndsThese p j e ts) where
  latest_is : (a : ℕ) (b : Branch) (t : Attempt) → is_among ts t ≡ true → is_branch_of a b t ≡ true → t ≡ attempt_of a b (attempt j a b)
  latest_is a b t among is =
      let parts = and_parts (t.action == a) _ is in
      branch_is a b t is
      ∙ ap (attempt_of a b) ((h.under_way t among).latest ∙ ap (λ c. attempt j c t.branch) (eqb-true t.action a parts.0) ∙ ap (attempt j a) (same_branch_eq t.branch b parts.1))

  -- the attempt with the limit's number ends only where it is the latest
  limit_apart : (a : ℕ) (b : Branch) → is_among ts (attempt_of a b (attempt j a b)) ≡ false → is_among ts (attempt_of a b p.limit) ≡ false
  limit_apart a b none =
      by_bool (is_among ts (attempt_of a b p.limit)) (λ v. v ≡ false)
      (λ at. absurd (let on = subst (λ t. is_among ts t ≡ true) (latest_is a b (attempt_of a b p.limit) at (is_branch a b p.limit)) at in cc))
      (λ off. refl)

  dropped_kept : (a : ℕ) (b : Branch) → is_among ts (attempt_of a b p.limit) ≡ false → dropped p j a b ≡ dropped p (e ∷ j) a b
  unfolding dropped
  dropped_kept a b none = sym (h.these (attempt_of a b p.limit) ∙ or_nothing (ended j (attempt_of a b p.limit)) _ none)

  limit_later : (a : ℕ) (b : Branch) → attempt j a b < p.limit → is_among ts (attempt_of a b p.limit) ≡ false
  limit_later a b below =
      by_bool (is_among ts (attempt_of a b p.limit)) (λ v. v ≡ false)
      (λ on. absurd (let same : p.limit ≡ attempt j a b = ap (λ t. t.number) (latest_is a b (attempt_of a b p.limit) on (is_branch a b p.limit)) in omega arith))
      (λ off. refl)

  free_now : (a : ℕ) (b : Branch) → frees p a b ts ≡ true → is_free p (e ∷ j) a b ≡ true
  unfolding frees is_free dropped
  free_now a b freed =
      let one = any_among (λ t. is_branch_of a b t && nat_lt t.number p.limit) ts freed in
      let parts = and_parts (is_branch_of a b one.0) _ one.2 in
      let n = attempt j a b in
      let is : one.0 ≡ attempt_of a b n = latest_is a b one.0 one.1 parts.0 in
      let below : n < p.limit = ltb-true n p.limit (subst (λ t. nat_lt t.number p.limit ≡ true) is parts.1) in
      let over_now : ended (e ∷ j) (attempt_of a b n) ≡ true = h.these (attempt_of a b n) ∙ or_right (ended j (attempt_of a b n)) _ (subst (λ t. is_among ts t ≡ true) is one.1) in
      let not_last : ended (e ∷ j) (attempt_of a b p.limit) ≡ false =
      h.these (attempt_of a b p.limit) ∙ or_nothing (ended j (attempt_of a b p.limit)) _ (limit_later a b below) ∙ h.begun (attempt_of a b p.limit) below in
      rw (h.none_begins a b, over_now, not_last, and_right (nat_lt 0 n) false refl) refl

  -- its latest attempt ends as the last
  spent_before : (a : ℕ) (b : Branch) → is_among ts (attempt_of a b (attempt j a b)) ≡ true → is_free p j a b ≡ false
  unfolding is_free
  spent_before a b on =
      let w = h.under_way (attempt_of a b (attempt j a b)) on in
      let first = w.begun in
      let some : nat_lt 0 (attempt j a b) ≡ true = lt-ltb 0 (attempt j a b) (omega arith) in
      rw (some, w.going) refl

  spent_after : (a : ℕ) (b : Branch) → frees p a b ts ≡ false → is_among ts (attempt_of a b (attempt j a b)) ≡ true → is_free p (e ∷ j) a b ≡ false
  unfolding frees is_free dropped
  spent_after a b unfreed on =
      let n = attempt j a b in
      let not_below : nat_lt n p.limit ≡ false =
      by_bool (nat_lt n p.limit) (λ v. v ≡ false)
      (λ below. absurd (let freed = among_any (λ t. is_branch_of a b t && nat_lt t.number p.limit) ts (attempt_of a b n) on (and_from (is_branch_of a b (attempt_of a b n)) _ (is_branch a b n) below) in cc))
      (λ at. refl) in
      let low = ltb-false n p.limit not_below in
      let high = (h.under_way (attempt_of a b n) on).limited in
      let same : n ≡ p.limit = omega arith in
      let last : ended (e ∷ j) (attempt_of a b p.limit) ≡ true =
      h.these (attempt_of a b p.limit) ∙ or_right (ended j (attempt_of a b p.limit)) _ (subst (λ m. is_among ts (attempt_of a b m) ≡ true) same on) in
      rw last (and_right (not (is_under_way (e ∷ j) a b)) false refl)

  going_on : (a : ℕ) (b : Branch) → is_among ts (attempt_of a b (attempt j a b)) ≡ false → is_free p j a b ≡ is_free p (e ∷ j) a b
  unfolding is_free
  going_on a b off =
      let t = attempt_of a b (attempt j a b) in
      let same : ended (e ∷ j) t ≡ ended j t = h.these t ∙ or_nothing (ended j t) _ off in
      rw (h.none_begins a b, same, dropped_kept a b (limit_apart a b off)) refl

  free_kept : (a : ℕ) (b : Branch) → frees p a b ts ≡ false → is_free p j a b ≡ is_free p (e ∷ j) a b
  free_kept a b unfreed =
      by_bool (is_among ts (attempt_of a b (attempt j a b))) (λ v. is_free p j a b ≡ is_free p (e ∷ j) a b) (λ on. spent_before a b on ∙ sym (spent_after a b unfreed on)) (going_on a b)

  free_after : (a : ℕ) (b : Branch) → (frees p a b ts || is_free p j a b) ≡ is_free p (e ∷ j) a b
  free_after a b =
      by_bool (frees p a b ts) (λ v. (v || is_free p j a b) ≡ is_free p (e ∷ j) a b) (λ freed. sym (free_now a b freed)) (free_kept a b)

  -- an attempt ended, so that its action has no grant
  ungranted : (t : Attempt) → ended (e ∷ j) t ≡ true → ended j t ≡ false → granted (e ∷ j) t.action ≡ false
  unfolding ended end_of
  ungranted t now before =
      by_bool (granted (e ∷ j) t.action) (λ v. v ≡ false)
      (λ won. absurd (let same : is_some (or_else (end_of j t) (cond (granted (e ∷ j) t.action) None (over (e ∷ j) t))) ≡ is_some (end_of j t) = rw won (ap is_some (or_none (end_of j t))) in let both = sym now ∙ same ∙ before in cc))
      (λ lost. refl)

  no_grant : (a : ℕ) → granted (e ∷ j) a ≡ false → by_grant (e ∷ j) (grant_of (e ∷ j) a) ≡ None
  unfolding granted
  no_grant a h = by (grant_of (e ∷ j) a) h
    where
      by : (o : Option (Attempt × Found)) → is_some o ≡ false → by_grant (e ∷ j) o ≡ None
      by None h = refl
      by (Some x) h = absurd (cc)

  unused_stays : (a : ℕ) (b : Branch) (o : Option ℕ) → unused_or_dropped p j a b o ≡ true → unused_or_dropped p (e ∷ j) a b o ≡ true
  unfolding dropped
  unused_stays a b None h = refl
  unused_stays a b (Some g) h = ended_stays e j (attempt_of a b p.limit) h

  all_stays : (a : ℕ) (x : PlanAction) → all_dropped p j a x ≡ true → all_dropped p (e ∷ j) a x ≡ true
  all_stays a x all =
      let parts = and_parts (unused_or_dropped p j a Local x.local) _ all in
      and_from (unused_or_dropped p (e ∷ j) a Local x.local) _ (unused_stays a Local x.local parts.0) (unused_stays a Remote x.remote parts.1)

  drop_more : (now before : Bool) → (before ≡ true → now ≡ true) → cond now Unsuccessful (cond before Unsuccessful Open) ≡ cond now Unsuccessful Open
  drop_more true before h = refl
  drop_more false true h = absurd (let both = h refl in cc)
  drop_more false false h = refl

  own_spent : (a : ℕ) (x : PlanAction) → spends p a ts ≡ true → cond (all_dropped p (e ∷ j) a x) Unsuccessful (own_in p j a x) ≡ own_in p (e ∷ j) a x
  unfolding spends own_in
  own_spent a x spent =
      let one = any_among (λ t. (t.action == a) && not (nat_lt t.number p.limit)) ts spent in
      let parts = and_parts (one.0.action == a) _ one.2 in
      let over_now : ended (e ∷ j) one.0 ≡ true = h.these one.0 ∙ or_right (ended j one.0) _ one.1 in
      let open_now = ungranted one.0 over_now (h.under_way one.0 one.1).going in
      let none = no_grant a (subst (λ c. granted (e ∷ j) c ≡ false) (eqb-true one.0.action a parts.0) open_now) in
      rw (grant_same j (e ∷ j) a (h.grant a) h.commit, none) (drop_more (all_dropped p (e ∷ j) a x) (all_dropped p j a x) (all_stays a x))

  unspent_limit : (a : ℕ) (b : Branch) → spends p a ts ≡ false → is_among ts (attempt_of a b p.limit) ≡ false
  unfolding spends
  unspent_limit a b unspent =
      by_bool (is_among ts (attempt_of a b p.limit)) (λ v. v ≡ false)
      (λ on. absurd (let last : nat_lt p.limit p.limit ≡ false = le-ltb p.limit p.limit (omega arith) in
      let spent = among_any (λ t. (t.action == a) && not (nat_lt t.number p.limit)) ts (attempt_of a b p.limit) on (and_from (a == a) _ (eq-eqb a a refl) (ap not last)) in
      cc))
      (λ off. refl)

  own_after : (a : ℕ) (x : PlanAction) → cond (spends p a ts && all_dropped p (e ∷ j) a x) Unsuccessful (own_in p j a x) ≡ own_in p (e ∷ j) a x
  own_after a x =
      by_bool (spends p a ts) (λ v. cond (v && all_dropped p (e ∷ j) a x) Unsuccessful (own_in p j a x) ≡ own_in p (e ∷ j) a x) (own_spent a x)
      (λ unspent. own_same p j (e ∷ j) a x (grant_same j (e ∷ j) a (h.grant a) h.commit) (all_dropped_same p j (e ∷ j) a x (λ b. dropped_kept a b (unspent_limit a b unspent))))

  pub ends : (states : List ActionState) → Stands p states j → Stands p (with_ends p (e ∷ j) states ts) (e ∷ j)
  ends states s =
      stands_by p (λ a x. end_states p (e ∷ j) ts a x (state_in p j a x)) (with_ends p (e ∷ j) states ts) (e ∷ j) (all_ends p (e ∷ j) ts (state_in p j) states s.each)
      (λ a x. all_made p (e ∷ j) ts a x (is_free p j a Local) (is_free p j a Remote) (granted j a) (own_in p j a x)
      ∙ made_same x _ _ _ _ _ _ _ _ (free_after a Local) (free_after a Remote) (granted_same j (e ∷ j) a (h.grant a)) (own_after a x))
