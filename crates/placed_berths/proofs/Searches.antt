-- What is found by a search is of an action that is there; and of an action that isn't marked nothing
-- is found in a pool of workers.
use Rattle.std.proofs.Common.{◌≡◌, ℕ, ◌+◌, ◌<◌, ◌==◌, Bool, true, false, ◌&&◌, cond, length, Option, Some, None, is_some, option_map, unwrap_or, refl, ap, sym, subst, ◌∙◌, arith}
use Rattle.std.specs.List.{list_any}
use Rattle.std.specs.Prelude.{option_and_then, slice_get}
use Rattle.std.proofs.lemmas.Bool.{and_parts, eqb-true}
use Rattle.run_plan.specs.declared.plan.Branch.{Branch}
use Rattle.run_plan.specs.declared.plan.Group.{Group}
use Rattle.run_plan.specs.declared.plan.Kind.TheVariants as kind
use Rattle.run_plan.specs.declared.plan.Plan.{Plan}
use Rattle.run_plan.specs.declared.plan.PlanAction.{PlanAction}
use Rattle.run_plan.specs.Groups.{is_remote}
use Rattle.exec_journal.specs.Seated.{kind_in}
use Rattle.exec_journal.proofs.Ruled.{by_bool}
use Rattle.list_lemmas.specs.Options.{or_else}
use Rattle.ready_order.specs.Queue.{IsEarliest, earliest_in}
use Rattle.ready_order.proofs.Earliest.{queued_within, search_is}
use Rattle.core_state.specs.declared.state.State.{State}
use Rattle.placed_rules.specs.declared.pools.SharedPlan.{SharedPlan}
use Rattle.placed_rules.specs.declared.pools.SharedPool.{SharedPool}
use Rattle.placed_rules.specs.Pools.{has_group}
use Rattle.shared_laws.proofs.Members.{any_member, member_any}
use Rattle.placed_berths.specs.Counts.{Facts, is_marked}
use Rattle.placed_berths.specs.Due.{ReadsDelay, ReadsDue, branch_at, due_in, runs_executors}
use Rattle.placed_berths.specs.Pooled.{first_starved, is_starved, lacking_at, lacking_in, lacking_of, lacks_line}
use Rattle.placed_berths.specs.Walked.{first_found}
use Rattle.placed_berths.proofs.Searched.{found_within, some_is}

-- ---- what is found is there

pub due_within : (d : Option Facts) (s : State) → ReadsDue d s
    → length s.attempts.ended ≡ length s.ready → (g : ℕ) (y : ℕ × Branch)
    → due_in d s g ≡ Some y → y.0 < length s.attempts.ended
due_within None s reads same g y h =
    let first = subst (IsEarliest s.ready g) h (search_is s.ready g) in
    let within = queued_within s.ready g y.0 y.1 first.queued in omega (arith, within, same)
due_within (Some f) s reads same g y h =
    let found = first_found (branch_at f s g) 0 (length s.plan.actions) y h in
    let high = found.high in let ended = reads.ended in omega (arith, high, ended)

pub starved_within : (q : SharedPlan) (d : Option Facts) (s : State) → ReadsDue d s
    → length s.attempts.ended ≡ length s.ready → (pool : SharedPool) (y : ℕ × Branch)
    → first_starved q d s pool ≡ Some y → y.0 < length s.attempts.ended
starved_within q None s reads same pool y h =
    let within = found_within q s pool 0 s.ready y h in omega (arith, within, same)
starved_within q (Some f) s reads same pool y h =
    let found = first_found (lacking_at q f s pool) 0 (length s.plan.actions) y h in
    let high = found.high in let ended = reads.ended in omega (arith, high, ended)

-- ---- where no branch waits, one is found exactly where a group of the pool is starved

pub none_waits : (q : SharedPlan) (s : State) (pool : SharedPool) (d : Option Facts) → d ≡ None
    → is_some (first_starved q d s pool) ≡ list_any (is_starved q d s pool) pool.groups
none_waits q s pool None is = some_is q s pool
none_waits q s pool (Some f) is = absurd (cc)

-- ---- a pool of workers

module _ (p : Plan) (pool : SharedPool)
    (workers : list_any (λ g. is_remote (kind_in p (Some g))) pool.groups ≡ false) where
  runs_by : (o : Option Group) → unwrap_or (option_map (λ x. is_remote x.kind) o) false
      ≡ is_remote (unwrap_or (option_map (λ x. x.kind) o) kind.Single)
  runs_by None = refl
  runs_by (Some x) = refl

  pub none_runs : (g : ℕ) → has_group pool g ≡ true → runs_executors p g ≡ false
  none_runs g has =
      by_bool (runs_executors p g) (λ b. runs_executors p g ≡ b → b ≡ false)
      (λ yes _. absurd (let found = any_member (λ k. k == g) pool.groups has in
      let same = eqb-true found.0 g found.2 in
      let on = sym (runs_by (slice_get p.groups g)) ∙ yes in
      let some = member_any (λ k. is_remote (kind_in p (Some k))) found.0 pool.groups found.1
      (ap (λ k. is_remote (kind_in p (Some k))) same ∙ on) in
      let clash = sym some ∙ workers in cc))
      (λ _ _. refl) refl

module _ (q : SharedPlan) (f : Facts) (s : State) (pool : SharedPool) (reads : ReadsDelay f s)
    (workers : list_any (λ g. is_remote (kind_in s.plan (Some g))) pool.groups ≡ false) (a : ℕ)
    (un : is_marked f a ≡ false) where
  none_in : (g : ℕ) → lacking_in q f s pool a g ≡ None
  none_in g =
      by_bool (has_group pool g) (λ b. has_group pool g ≡ b
      → cond (b && lacks_line q s pool g) (branch_at f s g a) None ≡ None)
      (λ yes _. either (lacks_line q s pool g)
      (reads.unmarked g a (none_runs s.plan pool workers g yes) un)) (λ _ _. refl) refl
    where
      either : (b : Bool) → branch_at f s g a ≡ None → cond b (branch_at f s g a) None ≡ None
      either true none = none
      either false none = refl

  none_on : (o : Option ℕ) → option_and_then (lacking_in q f s pool a) o ≡ None
  none_on None = refl
  none_on (Some g) = none_in g

  pub none_lacks : lacking_at q f s pool a ≡ None
  none_lacks = by (slice_get s.plan.actions a)
    where
      by : (o : Option PlanAction) → option_and_then (lacking_of q f s pool a) o ≡ None
      by None = refl
      by (Some x) = λ i. or_else (none_on x.local i) (none_on x.remote i)
