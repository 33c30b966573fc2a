-- A group that is starved: it has a branch that is next in its pool.
use Rattle.std.proofs.Common.{◌≡◌, ℕ, zero, suc, ◌+◌, Bool, true, false, List, [], ◌∷◌, Option, Some, None, is_some, refl, sym, subst, arith}
use Rattle.std.specs.Prelude.{slice_get}
use Rattle.std.proofs.lemmas.Bool.{and_from}
use Rattle.exec_journal.specs.Entry.{Entry}
use Rattle.run_plan.specs.declared.plan.Branch.{Branch}
use Rattle.run_plan.specs.declared.plan.Branch.TheVariants.{Local, Remote}
use Rattle.run_plan.specs.declared.plan.PlanAction.{PlanAction}
use Rattle.run_plan.specs.Groups.{group_of}
use Rattle.exec_journal.specs.declared.attempt.Attempt.{Attempt}
use Rattle.exec_journal.specs.Rules as r
use Rattle.exec_journal.specs.Rules.{gathered}
use Rattle.exec_journal.specs.Attempts.{attempt}
use Rattle.exec_journal.specs.Entries.{attempt_of}
use Rattle.exec_journal.specs.Settled.{queued}
use Rattle.placed_rules.specs.declared.pools.SharedPlan.{SharedPlan}
use Rattle.placed_rules.specs.declared.pools.SharedPool.{SharedPool}
use Rattle.placed_rules.specs.Pools.{has_group}
use Rattle.placed_rules.specs.Needs as ne
use Rattle.placed_rules.specs.Shared as sh
use Rattle.placed_rules.specs.Shared.{shared_rule, kind_here, group_here, pool_orders, evicts, shared_launches}
use Rattle.progress_laws.proofs.Options.{some_left, some_right}

-- ---- what is next in a starved group

branch_some : (s : SharedPlan) (j : List Entry) (pool : SharedPool) (g a : ℕ) (b : Branch)
    (x : PlanAction) (o : Option ℕ) → has_group pool g ≡ true → ne.is_starved s None j pool g ≡ true
    → o ≡ Some g → queued s.plan j a b x ≡ true → is_some
    (sh.starved_branch s None j pool a b x o) ≡ true
branch_some s j pool g a b x o member starved runs on =
    subst (λ (z : Option ℕ). is_some (sh.starved_branch s None j pool a b x z) ≡ true) (sym runs)
    (whenever (sh.starved_by s None j pool a b x g) (attempt_of a b (attempt j a b + 1))
    (and_from (has_group pool g) _ member (and_from (queued s.plan j a b x)
    (ne.is_starved s None j pool g) on starved)))
  where
    whenever : (c : Bool) (t : Attempt) → c ≡ true → is_some (r.when c t) ≡ true
    whenever true t h = refl
    whenever false t h = absurd (cc)

pub starved_some : (s : SharedPlan) (j : List Entry) (pool : SharedPool) (g a : ℕ) (b : Branch)
    (x : PlanAction) → has_group pool g ≡ true → ne.is_starved s None j pool g ≡ true
    → group_of x b ≡ Some g → queued s.plan j a b x ≡ true
    → is_some (sh.starved_in s None j pool a x) ≡ true
starved_some s j pool g a Local x member starved runs on =
    some_left (sh.starved_branch s None j pool a Local x x.local) _
    (branch_some s j pool g a Local x x.local member starved runs on)
starved_some s j pool g a Remote x member starved runs on =
    some_right (sh.starved_branch s None j pool a Local x x.local) _
    (branch_some s j pool g a Remote x x.remote member starved runs on)

starved_from : (s : SharedPlan) (j : List Entry) (pool : SharedPool) (x : PlanAction)
    (xs : List PlanAction) (m i a : ℕ) → m + i ≡ a → slice_get xs i ≡ Some x
    → is_some (sh.starved_in s None j pool a x) ≡ true → is_some (sh.starved_from s None j pool m xs) ≡ true
starved_from s j pool x [] m i a is h on = absurd (cc)
starved_from s j pool x (y ∷ ys) m zero a is h on =
    let same : y ≡ x = cc in
    let here : m ≡ a = omega (arith, is) in
    some_left (sh.starved_in s None j pool m y) _ (subst (λ (z : PlanAction). is_some
    (sh.starved_in s None j pool m z) ≡ true) (sym same)
    (subst (λ n. is_some (sh.starved_in s None j pool n x) ≡ true) (sym here) on))
starved_from s j pool x (y ∷ ys) m (suc i) a is h on =
    some_right (sh.starved_in s None j pool m y) _ (starved_from s j pool x ys (m + 1) i a
    (omega (arith, is)) h on)

pub next_starved_some : (s : SharedPlan) (j : List Entry) (pool : SharedPool) (a : ℕ)
    (x : PlanAction) → slice_get s.plan.actions a ≡ Some x
    → is_some (sh.starved_in s None j pool a x) ≡ true → is_some (sh.next_starved s None j pool) ≡ true
unfolding sh.next_starved
next_starved_some s j pool a x at on =
    starved_from s j pool x s.plan.actions 0 a a (omega arith) at on
