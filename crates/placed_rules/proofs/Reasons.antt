-- What the rule of shared berths launches and evicts.
use Rattle.std.proofs.Common.{◌≡◌, ℕ, suc, ◌+◌, ◌==◌, true, ◌&&◌, List, [], ◌∷◌, length, Option, Some, None, is_none, inl, inr, refl, subst, arith}
use Rattle.std.specs.Prelude.{slice_get}
use Rattle.std.proofs.lemmas.Bool.{eqb-true, eq-eqb, and_parts}
use Rattle.run_plan.specs.declared.plan.Branch.{Branch}
use Rattle.run_plan.specs.declared.plan.Branch.TheVariants.{Local, Remote}
use Rattle.run_plan.specs.declared.plan.PlanAction.{PlanAction}
use Rattle.run_plan.specs.Groups.{group_of}
use Rattle.exec_journal.specs.declared.attempt.Attempt.{Attempt}
use Rattle.exec_journal.specs.Entry.{Entry}
use Rattle.exec_journal.specs.Entries.{attempt_of}
use Rattle.exec_journal.specs.Words.{live, pending}
use Rattle.exec_journal.specs.Attempts.{attempt}
use Rattle.exec_journal.specs.Settled.{bound, queued}
use Rattle.exec_journal.specs.Lawful.{IsNextOf}
use Rattle.exec_journal.proofs.Reasons as u
use Rattle.journal_laws.proofs.Carried as k
use Rattle.placed_rules.specs.declared.pools.SharedPlan.{SharedPlan}
use Rattle.placed_rules.specs.declared.pools.SharedPool.{SharedPool}
use Rattle.placed_rules.specs.Pools as po
use Rattle.placed_rules.specs.Due as du
use Rattle.placed_rules.specs.Needs as ne
use Rattle.placed_rules.specs.Shared as sh
use Rattle.placed_rules.proofs.Nexts.{due_queued}

-- ---- a line that is evicted

pub record IsEvicted (s : SharedPlan) (j : List Entry) (l : ℕ) : Type 0 where
  pub up : live j l ≡ true
  pub empty : pending j l ≡ []
  pub free : bound s.plan j l ≡ None

none_is : {X : Type 0} (o : Option X) → is_none o ≡ true → o ≡ None
none_is None h = refl
none_is (Some x) h = absurd (cc)

nil_is : {X : Type 0} (xs : List X) → (length xs == 0) ≡ true → xs ≡ []
nil_is [] h = refl
nil_is (x ∷ xs) h = absurd (let e = eqb-true (suc (length xs)) 0 h in omega arith)

pub evicted_is : (s : SharedPlan) (ticks : Option ℕ) (j : List Entry) (w : ℕ) (pool : SharedPool) (l : ℕ)
    → ne.may_evict s ticks j w pool l ≡ true → IsEvicted s j l
unfolding ne.may_evict
evicted_is s ticks j w pool l h =
    let goes = (and_parts (ne.may_go s ticks j l) _ (and_parts (ne.may_go s ticks j l && _) _ h).0).0 in
    let idle = (and_parts (ne.is_idle s.plan j l) _ goes).0 in
    let up = and_parts (live j l) _ idle in
    let empty = and_parts (length (pending j l) == 0) _ up.1 in
    let free = and_parts (is_none (bound s.plan j l)) _ empty.1 in
    record {
      up = up.0;
      empty = nil_is (pending j l) empty.0;
      free = none_is (bound s.plan j l) free.0;
    }

-- ---- what is launched: the next of a branch in a starved group of the pool

pub record IsStarvedNext (s : SharedPlan) (ticks : Option ℕ) (j : List Entry) (pool : SharedPool) (t : Attempt)
    : Type 0 where
  pub group : ℕ
  pub member : po.has_group pool group ≡ true
  pub starved : ne.is_starved s ticks j pool group ≡ true
  pub next : IsNextOf s.plan j group t

record StarvedAmong (s : SharedPlan) (ticks : Option ℕ) (j : List Entry) (pool : SharedPool)
    (a : ℕ)
    (xs : List PlanAction) (t : Attempt) : Type 0 where
  pub index : ℕ
  pub action : PlanAction
  pub place : slice_get xs index ≡ Some action
  pub named : t.action ≡ a + index
  pub group : ℕ
  pub runs : group_of action t.branch ≡ Some group
  pub waiting : queued s.plan j t.action t.branch action ≡ true
  pub number : t.number ≡ attempt j t.action t.branch + 1
  pub member : po.has_group pool group ≡ true
  pub starved : ne.is_starved s ticks j pool group ≡ true

module _ (s : SharedPlan) (ticks : Option ℕ) (j : List Entry) (pool : SharedPool) where
  branch_among : (a : ℕ) (b : Branch) (x : PlanAction) (xs : List PlanAction) (o : Option ℕ)
      (t : Attempt) → group_of x b ≡ o → sh.starved_branch s ticks j pool a b x o ≡ Some t
      → StarvedAmong s ticks j pool a (x ∷ xs) t
  branch_among a b x xs None t is h = absurd (cc)
  branch_among a b x xs (Some g) t is h =
      let next = attempt_of a b (attempt j a b + 1) in
      let c = u.when_some (sh.starved_by s ticks j pool a b x g) next t h in
      let member = and_parts (po.has_group pool g) _ c.0 in
      let wait = and_parts (du.is_due s.plan ticks j a b x) _ member.1 in
      subst (StarvedAmong s ticks j pool a (x ∷ xs)) c.1
      (record {
        index = 0;
        action = x;
        place = refl;
        named = omega arith;
        group = g;
        runs = is;
        waiting = due_queued s.plan ticks j a b x wait.0;
        number = refl;
        member = member.0;
        starved = wait.1;
      })

  further : (a : ℕ) (x : PlanAction) (xs : List PlanAction) (t : Attempt)
      → StarvedAmong s ticks j pool (a + 1) xs t → StarvedAmong s ticks j pool a (x ∷ xs) t
  further a x xs t n =
      let e = n.named in
      record {
        index = suc n.index;
        action = n.action;
        place = n.place;
        named = omega arith;
        group = n.group;
        runs = n.runs;
        waiting = n.waiting;
        number = n.number;
        member = n.member;
        starved = n.starved;
      }

  among : (a : ℕ) (xs : List PlanAction) (t : Attempt) → sh.starved_from s ticks j pool a xs ≡ Some t
      → StarvedAmong s ticks j pool a xs t
  among a [] t h = absurd (cc)
  among a (x ∷ xs) t h = elim (k.or_some (sh.starved_in s ticks j pool a x) _ t h) [
    | inl here ↦ elim (k.or_some (sh.starved_branch s ticks j pool a Local x x.local) _ t here) [
      | inl near ↦ branch_among a Local x xs x.local t refl near
      | inr far ↦ branch_among a Remote x xs x.remote t refl far
    ]
    | inr later ↦ further a x xs t (among (a + 1) xs t later)
  ]

  pub starved_next : (t : Attempt) → sh.next_starved s ticks j pool ≡ Some t
      → IsStarvedNext s ticks j pool t
  unfolding sh.next_starved
  starved_next t h =
      let n = among 0 s.plan.actions t h in
      let e : n.index ≡ t.action = (let named = n.named in omega arith) in
      record {
        group = n.group;
        member = n.member;
        starved = n.starved;
        next = record {
          action = n.action;
          place = subst (λ i. slice_get s.plan.actions i ≡ Some n.action) e n.place;
          group = rw n.runs (eq-eqb n.group n.group refl);
          waiting = n.waiting;
          number = n.number;
        };
      }
