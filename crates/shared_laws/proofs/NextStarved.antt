-- What is launched for a starved group by the tables is what the rule launches.
use Rattle.std.proofs.Common.{◌≡◌, ℕ, suc, ◌+◌, ◌==◌, true, false, ◌&&◌, List, [], ◌∷◌, Option, Some, None, option_map, unwrap_or, refl, ap, sym, subst, ◌∙◌, arith}
use Rattle.std.specs.Prelude.{slice_get}
use Rattle.std.proofs.lemmas.Bool.{and_parts, eq-eqb}
use Rattle.run_plan.specs.declared.plan.Branch.{Branch}
use Rattle.run_plan.specs.declared.plan.Branch.TheVariants.{Local, Remote}
use Rattle.run_plan.specs.declared.plan.PlanAction.{PlanAction}
use Rattle.run_plan.specs.Groups.{group_of}
use Rattle.list_lemmas.specs.Options.{or_else}
use Rattle.exec_journal.specs.declared.attempt.Attempt.{Attempt}
use Rattle.exec_journal.specs.Attempts.{attempt}
use Rattle.exec_journal.specs.Entry.{Entry}
use Rattle.exec_journal.specs.Entries.{attempt_of}
use Rattle.exec_journal.specs.Rules.{when}
use Rattle.exec_journal.specs.Settled.{queued}
use Rattle.exec_journal.proofs.Ruled.{by_bool}
use Rattle.ready_order.specs.declared.ActionState.{ActionState}
use Rattle.ready_order.specs.Queue.{may_begin, seat_of}
use Rattle.ready_order.specs.Stands.{state_in}
use Rattle.ready_order.proofs.Queued.{queued_is}
use Rattle.core_state.specs.declared.state.State.{State}
use Rattle.core_laws.specs.Stands.{Stands}
use Rattle.earliest_first.specs.Choices.{next_of}
use Rattle.earliest_first.proofs.Queued.{number_next}
use Rattle.placed_rules.specs.declared.pools.SharedPlan.{SharedPlan}
use Rattle.placed_rules.specs.declared.pools.SharedPool.{SharedPool}
use Rattle.placed_rules.specs.Pools.{has_group, seats}
use Rattle.placed_rules.specs.Shared as rule
use Rattle.shared_laws.specs.Berths as told
use Rattle.shared_laws.proofs.GroupLines.{HeldAt}
use Rattle.shared_laws.proofs.StarvedGroups.{starved_is_told}

map_or : {X Y : Type 0} (f : X → Y) (o r : Option X)
    → option_map f (or_else o r) ≡ or_else (option_map f o) (option_map f r)
map_or f None r = refl
map_or f (Some x) r = refl

or_assoc : {X : Type 0} (o r s : Option X)
    → or_else o (or_else r s) ≡ or_else (or_else o r) s
or_assoc None r s = refl
or_assoc (Some x) r s = refl

module _ (q : SharedPlan) (s : State) (j : List Entry) (st : Stands q.plan (seats q) s j)
    (at : HeldAt s j) (pool : SharedPool) where
  -- ---- one branch of an action

  module _ (a : ℕ) (x : PlanAction) (place : slice_get q.plan.actions a ≡ Some x) where
    abbrev state : ActionState
    state = state_in q.plan j a x

    begins : (b : Branch) (g : ℕ) → group_of x b ≡ Some g
        → may_begin s.ready g state (seat_of b state) ≡ queued q.plan j a b x
    begins b g runs =
        ap (λ (o : Option ActionState). unwrap_or
        (option_map (λ y. may_begin s.ready g y (seat_of b y)) o) false)
        (sym (st.ready.each a ∙ ap (option_map (state_in q.plan j a)) place))
        ∙ queued_is q.plan s.ready j st.ready g a b x place
        ∙ ap (λ (o : Option ℕ). unwrap_or (option_map (λ k. k == g) o) false
        && queued q.plan j a b x) runs
        ∙ ap (λ c. c && queued q.plan j a b x) (eq-eqb g g refl)

    tested : (b : Branch) (g : ℕ) → group_of x b ≡ Some g
        → told.starved_group q s pool state (seat_of b state) g ≡ rule.starved_by q None j pool a b x g
    tested b g runs = λ i. has_group pool g
        && (begins b g runs i && starved_is_told q s j st at pool g i)

    numbered : (b : Branch) (g : ℕ) → group_of x b ≡ Some g → queued q.plan j a b x ≡ true
        → next_of s (a, b) ≡ attempt_of a b (attempt j a b + 1)
    numbered b g runs waits =
        number_next q.plan j s.attempts g (attempt_of a b (attempt j a b + 1)) st.attempts (record {
          action = x;
          place = place;
          group = ap (λ (o : Option ℕ). unwrap_or (option_map (λ k. k == g) o) false) runs
              ∙ eq-eqb g g refl;
          waiting = waits;
          number = refl;
        })

    launched : (b : Branch) (g : ℕ) → group_of x b ≡ Some g
        → option_map (next_of s) (when (rule.starved_by q None j pool a b x g) (a, b))
        ≡ when (rule.starved_by q None j pool a b x g) (attempt_of a b (attempt j a b + 1))
    launched b g runs =
        by_bool (rule.starved_by q None j pool a b x g) (λ c. option_map (next_of s) (when c (a, b))
        ≡ when c (attempt_of a b (attempt j a b + 1)))
        (λ yes. let parts = and_parts (has_group pool g) _ yes in
        let waits = and_parts (queued q.plan j a b x) _ parts.1 in
        ap Some (numbered b g runs waits.0))
        (λ _. refl)

    branch_by : (b : Branch) (o : Option ℕ) → group_of x b ≡ o
        → option_map (next_of s) (when (unwrap_or
        (option_map (told.starved_group q s pool state (seat_of b state)) o) false) (a, b))
        ≡ rule.starved_branch q None j pool a b x o
    branch_by b None h = refl
    branch_by b (Some g) h =
        ap (λ c. option_map (next_of s) (when c (a, b))) (tested b g h) ∙ launched b g h

    local_is : option_map (next_of s) (when (told.starved_branch q s pool state state.local)
        (a, Local)) ≡ rule.starved_branch q None j pool a Local x x.local
    local_is = branch_by Local x.local refl

    remote_is : option_map (next_of s) (when (told.starved_branch q s pool state state.remote)
        (a, Remote)) ≡ rule.starved_branch q None j pool a Remote x x.remote
    remote_is = branch_by Remote x.remote refl

    -- one action, and those behind it
    action_is : (r : Option (ℕ × Branch)) (t : Option Attempt) → option_map (next_of s) r ≡ t
        → option_map (next_of s)
        (or_else (when (told.starved_branch q s pool state state.local) (a, Local))
        (or_else (when (told.starved_branch q s pool state state.remote) (a, Remote)) r))
        ≡ or_else (rule.starved_in q None j pool a x) t
    action_is r t rest =
        let first = when (told.starved_branch q s pool state state.local) (a, Local) in
        let second = when (told.starved_branch q s pool state state.remote) (a, Remote) in
        map_or (next_of s) first (or_else second r)
        ∙ ap (or_else (option_map (next_of s) first)) (map_or (next_of s) second r)
        ∙ or_assoc (option_map (next_of s) first) (option_map (next_of s) second)
        (option_map (next_of s) r)
        ∙ (λ i. or_else (or_else (local_is i) (remote_is i)) (rest i))

  -- ---- action by action

  walk : (a : ℕ) (ys : List ActionState) (xs : List PlanAction)
      → ((i : ℕ) → slice_get xs i ≡ slice_get q.plan.actions (a + i))
      → ((i : ℕ) → slice_get ys i ≡ option_map (state_in q.plan j (a + i)) (slice_get xs i))
      → option_map (next_of s) (told.starved_from q s pool a ys)
      ≡ rule.starved_from q None j pool a xs
  walk a [] [] there same = refl
  walk a [] (x ∷ xs) there same = absurd (let e = same 0 in cc)
  walk a (y ∷ ys) [] there same = absurd (let e = same 0 in cc)
  walk a (y ∷ ys) (x ∷ xs) there same =
      let n : a + 0 ≡ a = omega arith in
      let here : y ≡ state_in q.plan j a x = (let e = same 0 in
      let f : Some y ≡ Some (state_in q.plan j a x) =
      subst (λ m. Some y ≡ Some (state_in q.plan j m x)) n e in cc) in
      let place : slice_get q.plan.actions a ≡ Some x =
      subst (λ m. slice_get q.plan.actions m ≡ Some x) n (sym (there 0)) in
      let further : (i : ℕ) → a + suc i ≡ a + 1 + i = λ i. omega arith in
      let rest = walk (a + 1) ys xs
      (λ i. there (suc i) ∙ ap (slice_get q.plan.actions) (further i))
      (λ i. same (suc i)
      ∙ ap (λ m. option_map (state_in q.plan j m) (slice_get xs i)) (further i)) in
      ap (λ z. option_map (next_of s)
      (or_else (when (told.starved_branch q s pool z z.local) (a, Local))
      (or_else (when (told.starved_branch q s pool z z.remote) (a, Remote))
      (told.starved_from q s pool (a + 1) ys)))) here
      ∙ action_is a x place (told.starved_from q s pool (a + 1) ys)
      (rule.starved_from q None j pool (a + 1) xs) rest

  pub next_is_told : told.next_starved q s pool ≡ rule.next_starved q None j pool
  unfolding rule.next_starved
  next_is_told =
      let same : (i : ℕ) → i ≡ 0 + i = λ i. omega arith in
      walk 0 s.ready q.plan.actions
      (λ i. ap (slice_get q.plan.actions) (same i))
      (λ i. st.ready.each i
      ∙ ap (λ m. option_map (state_in q.plan j m) (slice_get q.plan.actions i)) (same i))
