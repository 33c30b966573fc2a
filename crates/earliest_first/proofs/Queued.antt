-- The table's earliest queued branch, with its next attempt, is the journal's.
use Rattle.std.proofs.Common.{◌≡◌, ℕ, ◌+◌, ◌-◌, nat_lt, Bool, true, false, ◌&&◌, not, cond, List, Option, Some, None, option_map, refl, ap, sym, ◌∙◌, arith}
use Rattle.std.proofs.lemmas.Bool.{ltb-false}
use Rattle.std.proofs.lemmas.Option.{slice_get_within}
use Rattle.run_plan.specs.declared.plan.Branch.{Branch}
use Rattle.run_plan.specs.declared.plan.Plan.{Plan}
use Rattle.exec_journal.specs.declared.attempt.Attempt.{Attempt}
use Rattle.exec_journal.specs.Entry.{Entry}
use Rattle.exec_journal.specs.Entries.{attempt_of}
use Rattle.exec_journal.specs.Attempts.{attempt, ended}
use Rattle.exec_journal.specs.Lawful.{IsNextOf}
use Rattle.exec_journal.specs.Settled.{earliest}
use Rattle.exec_journal.proofs.Begins.{earliest_next, queued_is}
use Rattle.exec_journal.proofs.Ruled.{by_bool}
use Rattle.ready_order.specs.declared.ActionState.{ActionState}
use Rattle.ready_order.specs.Stands as queues
use Rattle.ready_order.proofs.Queued.{earliest_is}
use Rattle.retry_rules.specs.Counts.{ended_of, count_of}
use Rattle.retry_rules.specs.Counts as counts
use Rattle.retry_rules.specs.Stands.{ended_count, ended_in}
use Rattle.retry_rules.specs.Stands as tallies
use Rattle.retry_rules.proofs.Told.{ended_at}
use Rattle.ready_order.proofs.Earliest.{search_is}
use Rattle.ready_order.specs.Queue.{earliest_in}

module _ (p : Plan) (j : List Entry) where
  count_is : (n : ℕ) (over : Bool) → (nat_lt 0 n && not over) ≡ false → cond over n (n - 1) ≡ n
  count_is n true h = refl
  count_is n false h =
      by_bool (nat_lt 0 n) (λ b. (b && true) ≡ false → n - 1 ≡ n) (λ yes k. absurd (cc))
      (λ no k. let le = ltb-false 0 n no in omega arith) h

  pub number_next : (f : counts.Facts) (g : ℕ) (t : Attempt) → tallies.Stands p f j
      → IsNextOf p j g t → attempt_of t.action t.branch (ended_of f t.action t.branch + 1) ≡ t
  unfolding ended_count
  number_next f g t st n =
      let q = queued_is p j t.action t.branch n.action n.waiting in
      let lt = slice_get_within p.actions t.action n.action n.place in
      let e = ended_at p j f t.action t.branch st lt ∙ count_is (attempt j t.action t.branch)
      (ended j (attempt_of t.action t.branch (attempt j t.action t.branch))) q.idle in
      ap (attempt_of t.action t.branch) (ap (λ m. m + 1) e ∙ sym n.number)

  by_some : (f : counts.Facts) (g : ℕ) (o : Option Attempt) → tallies.Stands p f j
      → earliest p j g ≡ o → option_map (λ (x : ℕ × Branch). attempt_of x.0 x.1
      (ended_of f x.0 x.1 + 1)) (queues.branch_of o) ≡ o
  by_some f g None st h = refl
  by_some f g (Some t) st h = ap Some (number_next f g t st (earliest_next p j g t h))

  pub earliest_of_is : (states : List ActionState) (f : counts.Facts) (g : ℕ)
      → queues.Stands p states j → tallies.Stands p f j
      → option_map (λ (x : ℕ × Branch). attempt_of x.0 x.1 (ended_of f x.0 x.1 + 1))
      (earliest_in states g) ≡ earliest p j g
  earliest_of_is states f g st tl =
      let found = earliest_is p states j g (earliest_in states g) st (search_is states g) in
      ap (option_map (λ (x : ℕ × Branch). attempt_of x.0 x.1 (ended_of f x.0 x.1 + 1))) found
      ∙ by_some f g (earliest p j g) tl refl
