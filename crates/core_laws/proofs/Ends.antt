-- What the end of an attempt makes of the counts and of the order of actions.
use Rattle.std.proofs.Common.{◌≡◌, ℕ, ◌+◌, ◌-◌, ◌<◌, ◌≤◌, ◌==◌, nat_lt, nat_le, Bool, true, false, ◌&&◌, ◌||◌, not, cond, List, [], ◌∷◌, length, Option, Some, None, is_some, option_map, unwrap_or, refl, ap, sym, subst, ◌∙◌, arith}
use Rattle.std.specs.Prelude.{option_and_then}
use Rattle.std.proofs.lemmas.Bool.{and_parts, eqb-true, ltb-false}
use Rattle.std.proofs.lemmas.Option.{slice_get_within}
use Rattle.run_plan.specs.declared.plan.Branch.{Branch}
use Rattle.run_plan.specs.declared.plan.Branch.TheVariants.{Local, Remote}
use Rattle.run_plan.specs.declared.plan.Plan.{Plan}
use Rattle.run_plan.specs.declared.plan.PlanAction.{PlanAction}
use Rattle.exec_journal.specs.declared.attempt.Attempt.{Attempt}
use Rattle.exec_journal.specs.declared.call.Found.{Found}
use Rattle.exec_journal.specs.Entry.{Entry}
use Rattle.exec_journal.specs.Entries.{attempt_of, same_attempt, is_branch_of}
use Rattle.exec_journal.specs.Facts.{AttemptsInOrder, begun}
use Rattle.exec_journal.specs.Words.{granted, grant_of}
use Rattle.exec_journal.specs.Attempts.{attempt, ended, dropped}
use Rattle.run_plan.specs.Groups.{group_of}
use Rattle.exec_journal.specs.Settled.{all_dropped, unused_or_dropped}
use Rattle.exec_journal.proofs.Begins.{same_branch_eq, same_attempt_eq, same_attempt_refl, is_branch_refl}
use Rattle.exec_journal.proofs.Ruled.{by_bool}
use Rattle.race_core.specs.declared.Won.{Won}
use Rattle.race_core.specs.Rows.{winner_of}
use Rattle.race_core.specs.Stands as races
use Rattle.race_core.proofs.Kept.{winner_is}
use Rattle.retry_rules.specs.Counts as counts
use Rattle.retry_rules.specs.Stands as tallies
use Rattle.retry_rules.specs.Stands.{ended_count}
use Rattle.retry_rules.specs.Entries as tally-entries
use Rattle.retry_rules.proofs.Counted.{ends_counted, others_count}
use Rattle.ready_order.specs.declared.ActionState.{ActionState}
use Rattle.ready_order.specs.Queue as queue
use Rattle.ready_order.specs.Stands as queues
use Rattle.ready_order.specs.Entries as queue-entries
use Rattle.ready_order.proofs.Followed.{others}
use Rattle.ready_order.proofs.Ended as queue-ends
use Rattle.core_laws.specs.Ends.{EndsOne}
use Rattle.core_state.specs.Machine.{ends_yet, counts_after, states_after, states_ended, states_spent, other_branch, uses_branch}
use Rattle.retry_rules.proofs.Told.{count_says, ended_at}

or_false : (b : Bool) → (b || false) ≡ b
or_false true = refl
or_false false = refl

or_true : (b : Bool) → (b || true) ≡ true
or_true true = refl
or_true false = refl

or_same : (b : Bool) → b ≡ true → (b || true) ≡ b
or_same true k = refl
or_same false k = absurd (cc)

-- ---- one attempt ends

module _ (p : Plan) (j : List Entry) (e : Entry) (t : Attempt) (order : AttemptsInOrder p j)
    (after_order : AttemptsInOrder p (e ∷ j))
    (unbegun : (u : Attempt) → begun j u ≡ false → ended j u ≡ false) (after_unbegun : (u : Attempt)
    → begun (e ∷ j) u ≡ false → ended (e ∷ j) u ≡ false)
    (one : EndsOne p j e t) (race : List Won) (won : races.Stands p race j) (f : counts.Facts)
    (tl : tallies.Stands p f j) (states : List ActionState) (st : queues.Stands p states j)
    (limit : 1 ≤ p.limit) where
  known : t.action < length p.actions
  known = slice_get_within p.actions t.action one.action one.place

  some_map : {X Y : Type 0} (g : X → Y) (o : Option X) → is_some (option_map g o) ≡ is_some o
  some_map g None = refl
  some_map g (Some x) = refl

  won_is : is_some (winner_of race t.action) ≡ granted j t.action
  unfolding granted
  won_is = ap is_some (winner_is p race j t.action won known)
      ∙ some_map (λ (x : Attempt × Found). x.0.branch) (grant_of j t.action)

  yet_is : ends_yet race f t ≡ not (granted j t.action || ended j t)
  yet_is = λ i. not (won_is i || count_says p j order unbegun f t tl known one.least i)

  -- where it doesn't end now
  no_more : (granted j t.action || ended j t) ≡ true → (u : Attempt) → ended (e ∷ j) u ≡ ended j u
  no_more h u = one.this u ∙ by (granted j t.action) (ended j t) (same_attempt u t) refl refl h
    where
      same_end : same_attempt u t ≡ true → ended j u ≡ ended j t
      same_end k = ap (ended j) (same_attempt_eq u t k)

      by : (g x s : Bool) → ended j t ≡ x → same_attempt u t ≡ s → (g || x) ≡ true
          → (ended j u || (s && not g)) ≡ ended j u
      by true x true a b k = or_false (ended j u)
      by true x false a b k = or_false (ended j u)
      by false true true a b k = or_same (ended j u) (same_end b ∙ a)
      by false true false a b k = or_false (ended j u)
      by false false s a b k = absurd (cc)

  module _ (now : (granted j t.action || ended j t) ≡ false) where
    or_off : (a b : Bool) → (a || b) ≡ false → (a ≡ false) × (b ≡ false)
    or_off false false h = (refl, refl)
    or_off true b h = absurd (cc)
    or_off false true h = absurd (cc)

    ungranted : granted j t.action ≡ false
    ungranted = (or_off (granted j t.action) (ended j t) now).0

    going : ended j t ≡ false
    going = (or_off (granted j t.action) (ended j t) now).1

    latest : t.number ≡ attempt j t.action t.branch
    latest = one.latest going ungranted

    ends_too : (u : Attempt) → ended (e ∷ j) u ≡ (ended j u || same_attempt u t)
    ends_too u = one.this u ∙ ap (λ g. ended j u || (same_attempt u t && not g)) ungranted
        ∙ ap (λ b. ended j u || b) (and_true (same_attempt u t))
      where
        and_true : (b : Bool) → (b && true) ≡ b
        and_true true = refl
        and_true false = refl

    -- the latest of a branch is t exactly where the branch is its own
    its : (a : ℕ) (b : Branch) → is_branch_of a b t ≡ true → attempt_of a b (attempt j a b) ≡ t
    its a b h =
        let parts = and_parts (t.action == a) _ h in
        let action = eqb-true t.action a parts.0 in
        let branch = same_branch_eq t.branch b parts.1 in
        (λ i. attempt_of (sym action i) (sym branch i) (attempt j (sym action i) (sym branch i)))
        ∙ ap (attempt_of t.action t.branch) (sym latest)

    of_branch : (a : ℕ) (b : Branch) (n : ℕ) → same_attempt (attempt_of a b n) t ≡ true
        → is_branch_of a b t ≡ true
    of_branch a b n h = subst (λ (u : Attempt). is_branch_of a b u ≡ true)
        (same_attempt_eq (attempt_of a b n) t h) (is_branch_refl (attempt_of a b n))

    last_same : (a : ℕ) (b : Branch) → same_attempt (attempt_of a b (attempt j a b)) t
        ≡ is_branch_of a b t
    last_same a b =
        by_bool (is_branch_of a b t) (λ x. is_branch_of a b t ≡ x
        → same_attempt (attempt_of a b (attempt j a b)) t ≡ x)
        (λ yes h. ap (λ u. same_attempt u t) (its a b h) ∙ same_attempt_refl t)
        (λ no h. by_bool (same_attempt (attempt_of a b (attempt j a b)) t)
        (λ y. same_attempt (attempt_of a b (attempt j a b)) t ≡ y → y ≡ false)
        (λ yes k. absurd (let o = of_branch a b (attempt j a b) k in cc)) (λ _ k. refl) refl) refl

    now_is : (a : ℕ) (b : Branch) → tally-entries.ends_now j e a b ≡ is_branch_of a b t
    now_is a b =
        ap (λ x. x && not (ended j (attempt_of a b (attempt j a b))))
        (ends_too (attempt_of a b (attempt j a b)) ∙ ap (λ x. ended j
        (attempt_of a b (attempt j a b)) || x) (last_same a b))
        ∙ by (is_branch_of a b t) refl
      where
        off : (x : Bool) → ((x || false) && not x) ≡ false
        off true = refl
        off false = refl

        by : (y : Bool) → is_branch_of a b t ≡ y → ((ended j (attempt_of a b (attempt j a b)) || y)
            && not (ended j (attempt_of a b (attempt j a b)))) ≡ y
        by true h = ap (λ x. (x || true) && not x) (ap (ended j) (its a b h) ∙ going)
        by false h = off (ended j (attempt_of a b (attempt j a b)))

    times_is : (y : Bool) → length (cond y (t ∷ []) []) ≡ cond y 1 0
    times_is true = refl
    times_is false = refl

    these : tally-entries.EndsThese j e (t ∷ [])
    these = record {
      none_begins = one.none_begins;
      these = λ a b. times_is (is_branch_of a b t) ∙ ap (λ y. cond y 1 0) (sym (now_is a b));
      begun = λ a b h. subst (λ n. 1 ≤ n) (sym (ap (λ (u : Attempt). u.number)
          (its a b (sym (now_is a b) ∙ h)))) one.least;
    }

    counted_on : tallies.Stands p (counts.with_end f t.action t.branch) (e ∷ j)
    counted_on = ends_counted p f j e (t ∷ []) tl these

    or_none : (x : Bool) → (x || false) ≡ x
    or_none true = refl
    or_none false = refl

    among_is : (u : Attempt) → queue-entries.is_among (t ∷ []) u ≡ true
        → queue-entries.IsUnderWay p j u
    among_is u h = subst (queue-entries.IsUnderWay p j)
        (sym (same_attempt_eq u t (sym (or_none (same_attempt u t)) ∙ h)))
        (record { begun = one.least; latest = latest; limited = one.most; going = going })

    past_goes : (u : Attempt) → attempt j u.action u.branch < u.number → ended j u ≡ false
    past_goes u lt = by (begun j u) refl
      where
        by : (x : Bool) → begun j u ≡ x → ended j u ≡ false
        by true h = absurd (let o = (order.numbered u h).1 in omega arith)
        by false h = unbegun u h

    queue_these : queue-entries.EndsThese p j e (t ∷ [])
    queue_these = record {
      these = λ u. ends_too u ∙ ap (λ x. ended j u || x) (sym (or_none (same_attempt u t)));
      under_way = among_is;
      none_begins = one.none_begins;
      grant = one.grant;
      commit = one.commit;
      begun = past_goes;
    }

    count_is : counts.ended_of f t.action t.branch + 1 ≡ t.number
    unfolding ended_count
    count_is =
        let at : ended j (attempt_of t.action t.branch (attempt j t.action t.branch)) ≡ false =
        ap (λ n. ended j (attempt_of t.action t.branch n)) (sym latest) ∙ going in
        let c = ended_at p j f t.action t.branch tl known ∙ ap
        (λ x. cond x (attempt j t.action t.branch) (attempt j t.action t.branch - 1)) at in
        let l = one.least in
        let m = latest in
        omega arith

    abbrev x : PlanAction
    x = one.action

    other_is : (o : Branch) → (not (uses_branch p t.action o)
        || nat_le p.limit (counts.ended_of (counts.with_end f t.action t.branch) t.action o))
        ≡ unused_or_dropped p (e ∷ j) t.action o (group_of x o)
    unfolding dropped
    other_is o = ap (λ (q : Option PlanAction). not (is_some
        (option_and_then (λ y. group_of y o) q)) || nat_le p.limit
        (counts.ended_of (counts.with_end f t.action t.branch) t.action o)) one.place
        ∙ by (group_of x o)
      where
        by : (q : Option ℕ) → (not (is_some q) || nat_le p.limit
            (counts.ended_of (counts.with_end f t.action t.branch) t.action o))
            ≡ unused_or_dropped p (e ∷ j) t.action o q
        by None = refl
        by (Some g) = count_says p (e ∷ j) after_order after_unbegun
            (counts.with_end f t.action t.branch) (attempt_of t.action o p.limit) counted_on known
            limit

    own_dropped : t.number ≡ p.limit → unused_or_dropped p (e ∷ j) t.action t.branch
        (group_of x t.branch) ≡ true
    unfolding dropped
    own_dropped h = by (group_of x t.branch) one.used
      where
        by : (q : Option ℕ) → is_some q ≡ true → unused_or_dropped p (e ∷ j) t.action t.branch q
            ≡ true
        by None k = refl
        by (Some g) k = ap (λ n. ended (e ∷ j) (attempt_of t.action t.branch n)) (sym h)
            ∙ ends_too t ∙ ap (λ y. ended j t || y) (same_attempt_refl t) ∙ or_true (ended j t)

    both_are : (b : Branch) → unused_or_dropped p (e ∷ j) t.action b (group_of x b) ≡ true
        → all_dropped p (e ∷ j) t.action x ≡ unused_or_dropped p (e ∷ j) t.action (other_branch b)
        (group_of x (other_branch b))
    both_are Local h = ap (λ y. y && unused_or_dropped p (e ∷ j) t.action Remote x.remote) h
    both_are Remote h = ap (λ y. unused_or_dropped p (e ∷ j) t.action Local x.local && y) h
        ∙ and_true (unused_or_dropped p (e ∷ j) t.action Local x.local)
      where
        and_true : (y : Bool) → (y && true) ≡ y
        and_true true = refl
        and_true false = refl

    none_left : t.number ≡ p.limit → (not (uses_branch p t.action (other_branch t.branch))
        || nat_le p.limit (counts.ended_of (counts.with_end f t.action t.branch) t.action
        (other_branch t.branch))) ≡ queue-entries.has_none_left p (e ∷ j) t.action
    none_left h = other_is (other_branch t.branch) ∙ sym (both_are t.branch (own_dropped h))
        ∙ sym (ap (λ (q : Option PlanAction). unwrap_or (option_map
        (all_dropped p (e ∷ j) t.action) q) false) one.place)

    spent_is : states_ended p f states t ≡ queue-entries.with_ends p (e ∷ j) states (t ∷ [])
    spent_is =
        (λ i. cond (nat_lt (count_is i) (tl.limit i)) (queue.with_again states t.action t.branch)
        (states_spent p (counts.with_end f t.action t.branch) states t.action t.branch))
        ∙ by_bool (nat_lt t.number p.limit)
        (λ y. nat_lt t.number p.limit ≡ y → cond y (queue.with_again states t.action t.branch)
        (states_spent p (counts.with_end f t.action t.branch) states t.action t.branch)
        ≡ cond y (queue.with_again states t.action t.branch)
        (cond (queue-entries.has_none_left p (e ∷ j) t.action)
        (queue.with_settled states t.action false) states))
        (λ _ h. refl)
        (λ _ h. let ge = ltb-false t.number p.limit h in let most = one.most in
        let same : t.number ≡ p.limit = omega arith in
        ap (λ y. cond y (queue.with_settled states t.action false) states) (none_left same)) refl

    followed_on : queues.Stands p (states_ended p f states t) (e ∷ j)
    followed_on = subst (λ xs. queues.Stands p xs (e ∷ j)) (sym spent_is)
        (queue-ends.ends p j e (t ∷ []) queue_these states st)

  pub counts_kept : tallies.Stands p (counts_after race f t) (e ∷ j)
  counts_kept = subst (λ b. tallies.Stands p (cond b (counts.with_end f t.action t.branch) f)
      (e ∷ j)) (sym yet_is)
      (by_bool (granted j t.action || ended j t) (λ b. tallies.Stands p
      (cond (not b) (counts.with_end f t.action t.branch) f) (e ∷ j))
      (λ h. others_count p f j e tl one.none_begins (no_more h)) (λ h. counted_on h))

  pub states_kept : queues.Stands p (states_after p race f states t) (e ∷ j)
  states_kept = subst (λ b. queues.Stands p (cond b (states_ended p f states t) states) (e ∷ j))
      (sym yet_is)
      (by_bool (granted j t.action || ended j t) (λ b. queues.Stands p
      (cond (not b) (states_ended p f states t) states) (e ∷ j))
      (λ h. others p states j (e ∷ j) st (record {
        actions =
            record { grant = one.grant; commit = one.commit; ended_too = no_more h };
        none_begins = one.none_begins;
      })) (λ h. followed_on h))
