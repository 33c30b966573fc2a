-- The lines to which the branches of an action are bound are among the last lines of the berths.
use Rattle.std.proofs.Common.{◌≡◌, ℕ, zero, suc, ◌<◌, ◌==◌, nat_lt, Bool, true, false, ◌&&◌, ◌||◌, cond, List, [], ◌∷◌, Option, Some, None, refl, sym, subst, ◌∙◌, arith}
use Rattle.std.specs.List.{filter}
use Rattle.std.proofs.lemmas.Bool.{eqb-true, eq-eqb, ltb-true, ltb-false, or_left, or_right}
use Rattle.run_plan.specs.declared.plan.Plan.{Plan}
use Rattle.run_plan.specs.Groups.{berths}
use Rattle.exec_journal.specs.Facts.{IsOfBerth}
use Rattle.exec_journal.specs.declared.attempt.Attempt.{Attempt}
use Rattle.exec_journal.specs.Entry.{Entry}
use Rattle.list_lemmas.specs.Options.{and_more}
use Rattle.exec_journal.specs.Words.{last_line}
use Rattle.exec_journal.specs.Settled.{bound}
use Rattle.exec_journal.specs.Lawful.{Lawful}
use Rattle.exec_journal.proofs.Ruled.{by_bool}
use Rattle.call_laws.proofs.Calls as ca
use Rattle.worker_pool.specs.Entries as wp
use Rattle.table_laws.specs.Asked.{last_lines, is_of_action, lines_bound_for}

-- of those that pass a test it is one, where it is one of all and passes
among_filter : (l : ℕ) (f : ℕ → Bool) (ls : List ℕ)
    → wp.is_among l (filter f ls) ≡ (wp.is_among l ls && f l)
among_filter l f [] = refl
among_filter l f (x ∷ xs) =
    by_bool (f x) (λ b. f x ≡ b → wp.is_among l (cond b (x ∷ filter f xs) (filter f xs)) ≡
    (((x == l) || wp.is_among l xs) && f l))
    (λ _ on. passes on (among_filter l f xs) (x == l) refl)
    (λ _ off. fails off (among_filter l f xs) (x == l) refl) refl
  where
    passes : f x ≡ true → wp.is_among l (filter f xs) ≡ (wp.is_among l xs && f l) → (b : Bool)
        → (x == l) ≡ b
        → (b || wp.is_among l (filter f xs)) ≡ ((b || wp.is_among l xs) && f l)
    passes on rest true same = sym (subst (λ i. f i ≡ true) (eqb-true x l same) on)
    passes on rest false same = rest

    and_none : (b : Bool) → (b && false) ≡ false
    and_none true = refl
    and_none false = refl

    fails : f x ≡ false → wp.is_among l (filter f xs) ≡ (wp.is_among l xs && f l) → (b : Bool)
        → (x == l) ≡ b
        → wp.is_among l (filter f xs) ≡ ((b || wp.is_among l xs) && f l)
    fails off rest true same = let none : f l ≡ false =
        subst (λ i. f i ≡ false) (eqb-true x l same) off in
        rest ∙ rw none (and_none (wp.is_among l xs))
    fails off rest false same = rest

among_last : (j : List Entry) (n w l : ℕ) → w < n → last_line j w ≡ Some l
    → wp.is_among l (last_lines j n) ≡ true
among_last j zero w l lt at = absurd (omega arith)
among_last j (suc n) w l lt at =
    by_bool (w == n) (λ b. (w == n) ≡ b → wp.is_among l (and_more (last_line j n) (last_lines j n))
    ≡ true)
    (λ _ same. let here : last_line j n ≡ Some l = subst
    (λ i. last_line j i ≡ Some l) (eqb-true w n same) at in
    rw here (or_left (l == l) _ (eq-eqb l l refl)))
    (λ _ apart. more (last_line j n) (among_last j n w l (below apart) at)) refl
  where
    below : (w == n) ≡ false → w < n
    below apart = by_bool (nat_lt w n) (λ b. nat_lt w n ≡ b → w < n) (λ _ on. ltb-true w n on)
        (λ _ off. absurd (let le = ltb-false w n off in let same : w ≡ n = omega arith in
        let both : true ≡ false = sym (eq-eqb w n same) ∙ apart in cc)) refl

    more : (o : Option ℕ) → wp.is_among l (last_lines j n) ≡ true
        → wp.is_among l (and_more o (last_lines j n)) ≡ true
    more None h = h
    more (Some k) h = or_right (k == l) _ h

pub are_of_action : (p : Plan) (j : List Entry) (a : ℕ) → Lawful p j
    → ((l w : ℕ) → IsOfBerth j l w → w < berths p) → wp.AreOfAction p j a (lines_bound_for p j a)
are_of_action p j a legal within = record { each = λ l t at. one l t at }
  where
    one : (l : ℕ) (t : Attempt) → bound p j l ≡ Some t
        → wp.is_among l (lines_bound_for p j a) ≡ (a == t.action)
    one l t at =
        let seat = ca.bound_seat p j l t legal at in
        among_filter l (λ k. is_of_action a (bound p j k)) (last_lines j (berths p))
        ∙ rw (among_last j (berths p) seat.berth l (within l seat.berth seat.own) seat.last, at) refl
