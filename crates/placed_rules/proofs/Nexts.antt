-- What is due in a group is queued there.
use Rattle.std.proofs.Common.{◌≡◌, ℕ, suc, ◌+◌, true, ◌&&◌, cond, List, [], ◌∷◌, Option, Some, None, inl, inr, refl, subst, arith}
use Rattle.std.specs.Prelude.{slice_get}
use Rattle.std.proofs.lemmas.Bool.{and_parts}
use Rattle.run_plan.specs.declared.plan.Branch.{Branch}
use Rattle.run_plan.specs.declared.plan.Branch.TheVariants.{Local, Remote}
use Rattle.run_plan.specs.declared.plan.Plan.{Plan}
use Rattle.run_plan.specs.declared.plan.PlanAction.{PlanAction}
use Rattle.exec_journal.specs.declared.attempt.Attempt.{Attempt}
use Rattle.exec_journal.specs.Entry.{Entry}
use Rattle.exec_journal.specs.Entries.{attempt_of}
use Rattle.exec_journal.specs.Attempts.{attempt}
use Rattle.exec_journal.specs.Settled.{queued, uses}
use Rattle.exec_journal.specs.Lawful.{IsNextOf}
use Rattle.exec_journal.proofs.Begins.{earliest_next}
use Rattle.exec_journal.proofs.Ruled.{by_bool}
use Rattle.journal_laws.proofs.Carried as k
use Rattle.journal_laws.proofs.Berths.{Nexts}
use Rattle.placed_rules.specs.Due as de

record NextAmong (p : Plan) (j : List Entry) (g a : ℕ) (xs : List PlanAction) (t : Attempt)
    : Type 0 where
  pub index : ℕ
  pub action : PlanAction
  pub place : slice_get xs index ≡ Some action
  pub named : t.action ≡ a + index
  pub group : uses action t.branch g ≡ true
  pub waiting : queued p j t.action t.branch action ≡ true
  pub number : t.number ≡ attempt j t.action t.branch + 1

abbrev next_of : List Entry → ℕ → Branch → Attempt
next_of j a b = attempt_of a b (attempt j a b + 1)

module _ (p : Plan) (n : ℕ) (j : List Entry) (g : ℕ) where
  next_here : (a : ℕ) (b : Branch) (x : PlanAction) (xs : List PlanAction) (t : Attempt)
      → uses x b g ≡ true → queued p j a b x ≡ true → next_of j a b ≡ t
      → NextAmong p j g a (x ∷ xs) t
  next_here a b x xs t in_group wait e =
      subst (NextAmong p j g a (x ∷ xs)) e
      (record {
        index = 0;
        action = x;
        place = refl;
        named = omega arith;
        group = in_group;
        waiting = wait;
        number = refl;
      })

  remote_next : (a : ℕ) (x : PlanAction) (xs : List PlanAction) (t : Attempt)
      → cond (uses x Remote g && queued p j a Remote x) (Some (next_of j a Remote)) None ≡ Some t
      → NextAmong p j g a (x ∷ xs) t
  remote_next a x xs t h =
      by_bool (uses x Remote g && queued p j a Remote x)
      (λ b. cond b (Some (next_of j a Remote)) None ≡ Some t → NextAmong p j g a (x ∷ xs) t)
      (λ yes i. let parts = and_parts (uses x Remote g) _ yes in
      next_here a Remote x xs t parts.0 parts.1 (cc)) (λ _ i. absurd (cc)) h

  delayed_next : (a : ℕ) (x : PlanAction) (xs : List PlanAction) (t : Attempt)
      → de.delayed_in p n j g a x ≡ Some t → NextAmong p j g a (x ∷ xs) t
  delayed_next a x xs t h =
      by_bool (uses x Local g && (queued p j a Local x && de.has_waited p n j a x))
      (λ b. cond b (Some (next_of j a Local))
      (cond (uses x Remote g && queued p j a Remote x) (Some (next_of j a Remote)) None) ≡ Some t
      → NextAmong p j g a (x ∷ xs) t)
      (λ yes m. let parts = and_parts (uses x Local g) _ yes in
      next_here a Local x xs t parts.0 (and_parts (queued p j a Local x) _ parts.1).0 (cc))
      (λ _ m. remote_next a x xs t m) h

  further : (a : ℕ) (x : PlanAction) (xs : List PlanAction) (t : Attempt)
      → NextAmong p j g (a + 1) xs t → NextAmong p j g a (x ∷ xs) t
  further a x xs t m =
      let e = m.named in
      record {
        index = suc m.index;
        action = m.action;
        place = m.place;
        named = omega arith;
        group = m.group;
        waiting = m.waiting;
        number = m.number;
      }

  among : (a : ℕ) (xs : List PlanAction) (t : Attempt) → de.delayed_from p n j g a xs ≡ Some t
      → NextAmong p j g a xs t
  among a [] t h = absurd (cc)
  among a (x ∷ xs) t h = elim (k.or_some (de.delayed_in p n j g a x) _ t h) [
    | inl here ↦ delayed_next a x xs t here
    | inr later ↦ further a x xs t (among (a + 1) xs t later)
  ]

  next_is : (t : Attempt) → de.delayed_earliest p n j g ≡ Some t → IsNextOf p j g t
  unfolding de.delayed_earliest
  next_is t h =
      let m = among 0 p.actions t h in
      let e : m.index ≡ t.action = (let named = m.named in omega arith) in
      record {
        action = m.action;
        place = subst (λ i. slice_get p.actions i ≡ Some m.action) e m.place;
        group = m.group;
        waiting = m.waiting;
        number = m.number;
      }

pub nexts : (p : Plan) (n : ℕ) (j : List Entry) → Nexts p j (de.delayed_earliest p n j)
nexts p n j = record { is = λ g t h. next_is p n j g t h }

-- so is what is next with Ticks or without

pub due_nexts : (p : Plan) (ticks : Option ℕ) (j : List Entry)
    → Nexts p j (λ g. de.next_due p ticks j g)
due_nexts p None j = record { is = λ g t h. earliest_next p j g t h }
due_nexts p (Some n) j = record { is = λ g t h. next_is p n j g t h }

pub due_queued : (p : Plan) (ticks : Option ℕ) (j : List Entry) (a : ℕ) (b : Branch)
    (x : PlanAction) → de.is_due p ticks j a b x ≡ true → queued p j a b x ≡ true
due_queued p None j a b x h = h
due_queued p (Some n) j a Local x h = (and_parts (queued p j a Local x) _ h).0
due_queued p (Some n) j a Remote x h = h
