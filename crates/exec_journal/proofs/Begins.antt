-- Attempts of a legal journal run without a gap, and each is launched at most once and sent at most once.
use Rattle.std.proofs.Common.{◌≡◌, ℕ, suc, ◌+◌, ◌/◌, ◌<◌, ◌≤◌, ◌==◌, nat_lt, Bool, true, false, ◌&&◌, not, cond, List, [], ◌∷◌, Option, Some, None, option_map, ◌⊎◌, inl, inr, refl, ap, sym, subst, ◌∙◌, arith}
use Rattle.std.specs.Prelude.{slice_get}
use Rattle.std.proofs.lemmas.Bool.{ltb-true, ltb-false, eqb-true, eq-eqb, and_parts, and_from, or_cases, or_right}
use Rattle.run_plan.specs.declared.plan.Branch.{Branch}
use Rattle.run_plan.specs.declared.plan.Branch.TheVariants.{Local, Remote}
use Rattle.run_plan.specs.declared.plan.Plan.{Plan}
use Rattle.run_plan.specs.declared.plan.PlanAction.{PlanAction}
use Rattle.exec_journal.specs.declared.attempt.Attempt.{Attempt}
use Rattle.exec_journal.specs.Entry.{Entry}
use Rattle.exec_journal.specs.declared.call.Call.{Call}
use Rattle.exec_journal.specs.declared.reply.Reply.{Reply}
use Rattle.exec_journal.specs.declared.reply.Reply.TheVariants as reply
use Rattle.exec_journal.specs.History.{ever}
use Rattle.list_lemmas.specs.Options.{or_else}
use Rattle.exec_journal.specs.Entries.{Request, attempt_of, same_branch, same_attempt, is_branch_of, is_for, launch_in, send_in}
use Rattle.exec_journal.specs.Words.{launch_of, launch_at, launch_on, was_sent, granted}
use Rattle.exec_journal.specs.Attempts.{attempt, begun_in, number_if, ended, dropped}
use Rattle.exec_journal.specs.Settled.{settled, ready, wanted, still_bound, if_bound, bound, is_under_way, uses, queued, queued_in, earliest_from, earliest, free_places}
use Rattle.run_plan.specs.Groups.{kind_of}
use Rattle.exec_journal.specs.Rules as r
use Rattle.exec_journal.specs.Lawful.{IsNextOf, NextOn, FromBound, FromQueue, LawfulEntry, Lawful}
use Rattle.exec_journal.specs.Facts.{begun, AttemptsInOrder, BeginsNext, ContinuesOn, Begins, BeginInOrder}
use Rattle.exec_journal.proofs.Histories.{latest_from, some_later}
use Rattle.exec_journal.proofs.Reasons as u
use Rattle.exec_journal.proofs.Ruled.{by_bool, not_true}
use Rattle.exec_journal.proofs.Quiet.{ended_stays}

-- ---- equal attempts

pub same_branch_eq : (b c : Branch) → same_branch b c ≡ true → b ≡ c
same_branch_eq Local Local h = refl
same_branch_eq Remote Remote h = refl
same_branch_eq Local Remote h = absurd (cc)
same_branch_eq Remote Local h = absurd (cc)

pub same_branch_refl : (b : Branch) → same_branch b b ≡ true
same_branch_refl Local = refl
same_branch_refl Remote = refl

pub same_attempt_eq : (s t : Attempt) → same_attempt s t ≡ true → s ≡ t
same_attempt_eq s t h =
    let rest = and_parts (s.action == t.action) _ h in
    let more = and_parts (same_branch s.branch t.branch) _ rest.1 in
    let a = eqb-true s.action t.action rest.0 in
    let b = same_branch_eq s.branch t.branch more.0 in
    let n = eqb-true s.number t.number more.1 in
    λ i. record { action = a i; branch = b i; number = n i }

pub same_attempt_refl : (t : Attempt) → same_attempt t t ≡ true
same_attempt_refl t = and_from _ _ (eq-eqb t.action t.action refl) (and_from _ _ (same_branch_refl t.branch) (eq-eqb t.number t.number refl))

pub is_for_eq : (t : Attempt) (o : Option Attempt) → is_for t o ≡ true → o ≡ Some t
is_for_eq t (Some s) h = ap Some (same_attempt_eq s t h)
is_for_eq t None h = absurd (cc)

-- ---- the branch that is queued first

record NextAmong (p : Plan) (j : List Entry) (g a : ℕ) (xs : List PlanAction) (t : Attempt) : Type 0 where
  pub index : ℕ
  pub action : PlanAction
  pub place : slice_get xs index ≡ Some action
  pub named : t.action ≡ a + index
  pub group : uses action t.branch g ≡ true
  pub waiting : queued p j t.action t.branch action ≡ true
  pub number : t.number ≡ attempt j t.action t.branch + 1

module _ (p : Plan) (j : List Entry) (g : ℕ) where
  next_here : (a : ℕ) (b : Branch) (x : PlanAction) (xs : List PlanAction) (t : Attempt) → (uses x b g && queued p j a b x) ≡ true → attempt_of a b (attempt j a b + 1) ≡ t → NextAmong p j g a (x ∷ xs) t
  next_here a b x xs t h e =
      let parts = and_parts (uses x b g) _ h in
      subst (NextAmong p j g a (x ∷ xs)) e (record { index = 0; action = x; place = refl; named = omega arith; group = parts.0; waiting = parts.1; number = refl })

  queued_in_next : (a : ℕ) (x : PlanAction) (xs : List PlanAction) (t : Attempt) → queued_in p j g a x ≡ Some t → NextAmong p j g a (x ∷ xs) t
  queued_in_next a x xs t h =
      by_bool (uses x Local g && queued p j a Local x)
      (λ b. cond b (Some (attempt_of a Local (attempt j a Local + 1))) (cond (uses x Remote g && queued p j a Remote x) (Some (attempt_of a Remote (attempt j a Remote + 1))) None) ≡ Some t → NextAmong p j g a (x ∷ xs) t)
      (λ yes k. next_here a Local x xs t yes (cc))
      (λ _ k. by_bool (uses x Remote g && queued p j a Remote x)
      (λ b. cond b (Some (attempt_of a Remote (attempt j a Remote + 1))) None ≡ Some t → NextAmong p j g a (x ∷ xs) t)
      (λ yes k. next_here a Remote x xs t yes (cc)) (λ _ k. absurd (cc)) k) h

  further : (a : ℕ) (x : PlanAction) (xs : List PlanAction) (t : Attempt) → NextAmong p j g (a + 1) xs t → NextAmong p j g a (x ∷ xs) t
  further a x xs t n = let e = n.named in record { index = suc n.index; action = n.action; place = n.place; named = omega arith; group = n.group; waiting = n.waiting; number = n.number }

  earliest_among : (a : ℕ) (xs : List PlanAction) (t : Attempt) → earliest_from p j g a xs ≡ Some t → NextAmong p j g a xs t
  earliest_among a [] t h = absurd (cc)
  earliest_among a (x ∷ xs) t h =
      first_or (queued_in p j g a x) (earliest_from p j g (a + 1) xs) (λ k. queued_in_next a x xs t k) (λ k. further a x xs t (earliest_among (a + 1) xs t k)) h
    where
      first_or : (o q : Option Attempt) → (o ≡ Some t → NextAmong p j g a (x ∷ xs) t) → (q ≡ Some t → NextAmong p j g a (x ∷ xs) t) → or_else o q ≡ Some t → NextAmong p j g a (x ∷ xs) t
      first_or (Some s) q f k h = f h
      first_or None q f k h = k h

  pub earliest_next : (t : Attempt) → earliest p j g ≡ Some t → IsNextOf p j g t
  unfolding earliest
  earliest_next t h =
      let n = earliest_among 0 p.actions t h in
      let e : n.index ≡ t.action = (let named = n.named in omega arith) in
      record { action = n.action; place = subst (λ i. slice_get p.actions i ≡ Some n.action) e n.place; group = n.group; waiting = n.waiting; number = n.number }

-- ---- what a queued or a bound branch is

pub record IsWanted (p : Plan) (j : List Entry) (a : ℕ) (b : Branch) : Type 0 where
  pub unsettled : settled p j a ≡ false
  pub ungranted : granted j a ≡ false
  pub undropped : dropped p j a b ≡ false

pub wanted_is : (p : Plan) (j : List Entry) (a : ℕ) (b : Branch) → wanted p j a b ≡ true → IsWanted p j a b
unfolding wanted
wanted_is p j a b h =
    let parts = and_parts (not (settled p j a)) _ h in let more = and_parts (not (granted j a)) _ parts.1 in
    record { unsettled = not_true _ parts.0; ungranted = not_true _ more.0; undropped = not_true _ more.1 }

pub record IsQueued (p : Plan) (j : List Entry) (a : ℕ) (b : Branch) (x : PlanAction) : Type 0 where
  pub wish : wanted p j a b ≡ true
  pub inputs : ready p j x ≡ true
  pub idle : is_under_way j a b ≡ false

pub queued_is : (p : Plan) (j : List Entry) (a : ℕ) (b : Branch) (x : PlanAction) → queued p j a b x ≡ true → IsQueued p j a b x
unfolding queued
queued_is p j a b x h =
    let parts = and_parts (wanted p j a b) _ h in let more = and_parts (ready p j x) _ parts.1 in
    record { wish = parts.0; inputs = more.0; idle = not_true _ more.1 }

not_false : (b : Bool) → not b ≡ false → b ≡ true
not_false true h = refl
not_false false h = absurd (cc)

-- no attempt yet, or the latest has ended
idle_is : (n : ℕ) (over : Bool) → (nat_lt 0 n && not over) ≡ false → (n ≡ 0) ⊎ (over ≡ true)
idle_is n over h =
    by_bool (nat_lt 0 n) (λ b. (b && not over) ≡ false → (n ≡ 0) ⊎ (over ≡ true)) (λ _ k. inr (not_false over k))
    (λ none k. let le = ltb-false 0 n none in inl (omega arith)) h

pub record IsBound (p : Plan) (j : List Entry) (l : ℕ) (t : Attempt) : Type 0 where
  pub lane : ℕ
  pub launched : launch_of j l ≡ Some (lane, t)
  pub wish : wanted p j t.action t.branch ≡ true
  pub unsent : was_sent j t ≡ false
  pub going : ended j t ≡ false

bound_by : (p : Plan) (j : List Entry) (l : ℕ) (t : Attempt) (o : Option (ℕ × Attempt)) → launch_of j l ≡ o → if_bound p j o ≡ Some t → IsBound p j l t
bound_by p j l t None is h = absurd (cc)
bound_by p j l t (Some (lane, s)) is h =
    by_bool (still_bound p j s) (λ b. cond b (Some s) None ≡ Some t → IsBound p j l t)
    (λ yes k. let e : s ≡ t = cc in
    let parts = and_parts (wanted p j s.action s.branch) _ yes in let more = and_parts (not (was_sent j s)) _ parts.1 in
    subst (IsBound p j l) e (record { lane = lane; launched = is; wish = parts.0; unsent = not_true _ more.0; going = not_true _ more.1 }))
    (λ _ k. absurd (cc)) h

pub bound_is : (p : Plan) (j : List Entry) (l : ℕ) (t : Attempt) → bound p j l ≡ Some t → IsBound p j l t
unfolding bound
bound_is p j l t h = bound_by p j l t (launch_of j l) refl h

-- an attempt that was launched was begun
launch_begins : (x : Reply) (l lane : ℕ) (y : ℕ × Attempt) → launch_on l lane (launch_in x) ≡ Some y → begun_in x ≡ Some y.1
launch_begins (reply.Launch k a b t) l lane y h =
    by_bool (k == l) (λ c. cond c (Some (lane, attempt_of a b t)) None ≡ Some y → Some (attempt_of a b t) ≡ Some y.1)
    (λ _ g. let e : (lane, attempt_of a b t) ≡ y = cc in ap (λ (z : ℕ × Attempt). Some z.1) e) (λ _ g. absurd (cc)) h
launch_begins _ l lane y h = absurd (cc)

pub launched_begun : (j : List Entry) (l lane : ℕ) (t : Attempt) → launch_of j l ≡ Some (lane, t) → begun j t ≡ true
unfolding launch_of begun
launched_begun j l lane t h =
    some_later (λ _ e. launch_at l e ≡ Some (lane, t)) (λ k. ever (λ _ e. is_for t (begun_in e.reply)) k ≡ true)
    (λ k e g. let b = launch_begins e.reply l e.lane (lane, t) g in rw (ap (is_for t) b ∙ same_attempt_refl t) refl)
    (λ k e g. or_right (is_for t (begun_in e.reply)) _ g) j (latest_from (λ _ e. launch_at l e) j (lane, t) h)

-- ---- what a reply begins

-- the next attempt of a branch that isn't dropped
record Starts (p : Plan) (j : List Entry) (t : Attempt) : Type 0 where
  pub begins : BeginsNext j t
  pub undropped : dropped p j t.action t.branch ≡ false

abbrev Opens : Plan → List Entry → Option (ℕ × Attempt) → Option Request → Type 0
Opens p j (Some x) _ = Starts p j x.1
Opens p j None (Some q) = Starts p j q.attempt ⊎ ContinuesOn j q.line q.attempt
Opens p j None None = Unit {0}

next_starts : (p : Plan) (j : List Entry) (g : ℕ) (t : Attempt) → AttemptsInOrder p j → IsNextOf p j g t → Starts p j t
next_starts p j g t order n =
    let q = queued_is p j t.action t.branch n.action n.waiting in
    record {
      begins = record { next = n.number; after = idle_is (attempt j t.action t.branch) _ q.idle; unbegun = fresh_number (begun j t) refl };
      undropped = (wanted_is p j t.action t.branch q.wish).undropped;
    }
  where
    number : t.number ≡ attempt j t.action t.branch + 1
    number = n.number

    fresh_number : (b : Bool) → begun j t ≡ b → begun j t ≡ false
    fresh_number false is = is
    fresh_number true is = let old = order.numbered t is in let new = number in absurd (omega arith)

bound_continues : (p : Plan) (j : List Entry) (l : ℕ) (t : Attempt) → AttemptsInOrder p j → bound p j l ≡ Some t → ContinuesOn j l t
bound_continues p j l t order h =
    let b = bound_is p j l t h in
    let range = order.numbered t (launched_begun j l b.lane t b.launched) in
    record { launched = (b.lane, b.launched); unsent = b.unsent; going = b.going; latest = latest_of range (nat_lt t.number (attempt j t.action t.branch)) refl }
  where
    going : ended j t ≡ false
    going = (bound_is p j l t h).going

    latest_of : (1 ≤ t.number) × (t.number ≤ attempt j t.action t.branch) → (b : Bool) → nat_lt t.number (attempt j t.action t.branch) ≡ b → t.number ≡ attempt j t.action t.branch
    latest_of range true below = absurd (let e : true ≡ false = sym (order.older t range.0 (ltb-true t.number (attempt j t.action t.branch) below)) ∙ going in cc)
    latest_of range false above = let le = ltb-false t.number (attempt j t.action t.branch) above in let up = range.1 in omega arith

next_or_bound : (p : Plan) (j : List Entry) (l : ℕ) (t : Attempt) → AttemptsInOrder p j → NextOn p j l t → Starts p j t ⊎ ContinuesOn j l t
next_or_bound p j l t order (FromBound h) = inr (bound_continues p j l t order h)
next_or_bound p j l t order (FromQueue none room next) = inl (next_starts p j _ t order next)

ruled_opens : (p : Plan) (j : List Entry) (lane : ℕ) (c : Call) (x : Reply) → AttemptsInOrder p j → u.Ruled p j lane c x → Opens p j (launch_in x) (send_in x)
ruled_opens p j lane c x order (u.Launches g t vacant next none) = next_starts p j g t order next
ruled_opens p j lane c x order (u.Sends l t here alive next none) = next_or_bound p j l t order next
ruled_opens p j lane c x order (u.Gathers l n a b t e v next over) = tt
ruled_opens p j lane c x order _ = tt

-- ---- the step

-- what the entry begins is the next attempt, or the latest again
abbrev Advances : Plan → List Entry → Attempt → Type 0
Advances p j s = Starts p j s ⊎ ((begun j s ≡ true) × (s.number ≡ attempt j s.action s.branch))

opens_advances : (p : Plan) (j : List Entry) (x : Reply) (s : Attempt) → begun_in x ≡ Some s → Opens p j (launch_in x) (send_in x) → Advances p j s
opens_advances p j x s h opens = by (launch_in x) (send_in x) h opens
  where
    by : (o : Option (ℕ × Attempt)) (q : Option Request) → or_else (option_map (λ y. y.1) o) (option_map (λ y. y.attempt) q) ≡ Some s → Opens p j o q → Advances p j s
    by (Some y) q h starts = let e : y.1 ≡ s = cc in inl (subst (Starts p j) e starts)
    by None (Some y) h (inl starts) = let e : y.attempt ≡ s = cc in inl (subst (Starts p j) e starts)
    by None (Some y) h (inr on) = let e : y.attempt ≡ s = cc in inr (subst (λ (t : Attempt). (begun j t ≡ true) × (t.number ≡ attempt j t.action t.branch)) e (launched_begun j y.line on.launched.0 y.attempt on.launched.1, on.latest))
    by None None h opens = absurd (cc)

pub is_branch_refl : (t : Attempt) → is_branch_of t.action t.branch t ≡ true
is_branch_refl t = and_from _ _ (eq-eqb t.action t.action refl) (same_branch_refl t.branch)

pub attempt_begun : (e : Entry) (j : List Entry) (a : ℕ) (b : Branch) (s : Attempt) → begun_in e.reply ≡ Some s → is_branch_of a b s ≡ true → attempt (e ∷ j) a b ≡ s.number
unfolding attempt
attempt_begun e j a b s h same = rw (h, same) refl

pub attempt_other : (e : Entry) (j : List Entry) (a : ℕ) (b : Branch) → number_if a b (begun_in e.reply) ≡ None → attempt (e ∷ j) a b ≡ attempt j a b
unfolding attempt
attempt_other e j a b h = rw h refl

pub begun_more : (e : Entry) (j : List Entry) (t : Attempt) → begun (e ∷ j) t ≡ true → (is_for t (begun_in e.reply) ≡ true) ⊎ (begun j t ≡ true)
unfolding begun
begun_more e j t h = or_cases (is_for t (begun_in e.reply)) _ h

module _ (p : Plan) (e : Entry) (j : List Entry) (order : AttemptsInOrder p j) where
  quiet_order : begun_in e.reply ≡ None → AttemptsInOrder p (e ∷ j)
  quiet_order none = record {
    numbered = λ t h. rw (attempt_other e j t.action t.branch (none_if t.action t.branch)) (order.numbered t (old t (begun_more e j t h)));
    older = λ t low high. ended_stays e j t (order.older t low (subst (λ n. t.number < n) (attempt_other e j t.action t.branch (none_if t.action t.branch)) high));
    limited = λ a b least. rw (attempt_other e j a b (none_if a b)) (order.limited a b least);
  }
    where
      none_if : (a : ℕ) (b : Branch) → number_if a b (begun_in e.reply) ≡ None
      none_if a b = ap (number_if a b) none

      old : (t : Attempt) → (is_for t (begun_in e.reply) ≡ true) ⊎ (begun j t ≡ true) → begun j t ≡ true
      old t (inl h) = absurd (let k : is_for t None ≡ true = subst (λ (o : Option Attempt). is_for t o ≡ true) none h in cc)
      old t (inr h) = h

  module _ (s : Attempt) (begins : begun_in e.reply ≡ Some s) (new : Advances p j s) where
    number_of : (a : ℕ) (b : Branch) → number_if a b (begun_in e.reply) ≡ cond (is_branch_of a b s) (Some s.number) None
    number_of a b = ap (number_if a b) begins

    -- of another branch nothing changes
    other : (a : ℕ) (b : Branch) → is_branch_of a b s ≡ false → attempt (e ∷ j) a b ≡ attempt j a b
    other a b h = attempt_other e j a b (number_of a b ∙ ap (λ c. cond c (Some s.number) None) h)

    mine : (a : ℕ) (b : Branch) → is_branch_of a b s ≡ true → attempt (e ∷ j) a b ≡ s.number
    mine a b h = attempt_begun e j a b s begins h

    same_parts : (a : ℕ) (b : Branch) → is_branch_of a b s ≡ true → (s.action ≡ a) × (s.branch ≡ b)
    same_parts a b h = let parts = and_parts (s.action == a) _ h in (eqb-true s.action a parts.0, same_branch_eq s.branch b parts.1)

    bounds : Advances p j s → (1 ≤ s.number) × (attempt j s.action s.branch ≤ s.number) × (s.number ≤ attempt j s.action s.branch + 1)
    bounds (inl starts) = let n = starts.begins.next in (omega arith, omega arith, omega arith)
    bounds (inr again) = let n = again.1 in let range = order.numbered s again.0 in (range.0, omega arith, omega arith)

    grows : (a : ℕ) (b : Branch) → attempt j a b ≤ attempt (e ∷ j) a b
    grows a b =
        by_bool (is_branch_of a b s) (λ _. attempt j a b ≤ attempt (e ∷ j) a b)
        (λ h. let parts = same_parts a b h in
        rw (mine a b h) (subst (λ n. attempt j n b ≤ s.number) parts.0 (subst (λ (d : Branch). attempt j s.action d ≤ s.number) parts.1 (bounds new).1)))
        (λ h. rw (other a b h) (omega arith))

    numbered : (t : Attempt) → begun (e ∷ j) t ≡ true → (1 ≤ t.number) × (t.number ≤ attempt (e ∷ j) t.action t.branch)
    numbered t h = by (begun_more e j t h)
      where
        by : (is_for t (begun_in e.reply) ≡ true) ⊎ (begun j t ≡ true) → (1 ≤ t.number) × (t.number ≤ attempt (e ∷ j) t.action t.branch)
        by (inl is) =
            let same : s ≡ t = same_attempt_eq s t (subst (λ (o : Option Attempt). is_for t o ≡ true) begins is) in
            subst (λ (v : Attempt). (1 ≤ v.number) × (v.number ≤ attempt (e ∷ j) v.action v.branch)) same ((bounds new).0, rw (mine s.action s.branch (is_branch_refl s)) (omega arith))
        by (inr old) = let range = order.numbered t old in let g = grows t.action t.branch in (range.0, omega arith)

    -- all but the latest attempt so far have ended, and so has that, where another begins
    ended_before : Advances p j s → (n : ℕ) → 1 ≤ n → n < s.number → ended j (attempt_of s.action s.branch n) ≡ true
    ended_before (inr again) n low high = order.older (attempt_of s.action s.branch n) low (let m = again.1 in omega arith)
    ended_before (inl starts) n low high =
        by_bool (nat_lt n (attempt j s.action s.branch)) (λ _. ended j (attempt_of s.action s.branch n) ≡ true)
        (λ below. order.older (attempt_of s.action s.branch n) low (ltb-true n (attempt j s.action s.branch) below))
        (λ above. let le = ltb-false n (attempt j s.action s.branch) above in let m = starts.begins.next in
        let at : attempt j s.action s.branch ≡ n = omega arith in
        last starts.begins.after at)
      where
        last : (attempt j s.action s.branch ≡ 0) ⊎ (ended j (attempt_of s.action s.branch (attempt j s.action s.branch)) ≡ true) → attempt j s.action s.branch ≡ n → ended j (attempt_of s.action s.branch n) ≡ true
        last (inl zero_yet) at = absurd (omega arith)
        last (inr over) at = subst (λ k. ended j (attempt_of s.action s.branch k) ≡ true) at over

    older : (t : Attempt) → 1 ≤ t.number → t.number < attempt (e ∷ j) t.action t.branch → ended (e ∷ j) t ≡ true
    older t low high =
        ended_stays e j t (by_bool (is_branch_of t.action t.branch s) (λ _. ended j t ≡ true)
        (λ h. let parts = same_parts t.action t.branch h in
        let below : t.number < s.number = subst (λ n. t.number < n) (mine t.action t.branch h) high in
        subst (λ (d : Branch). ended j (attempt_of t.action d t.number) ≡ true) parts.1 (subst (λ a. ended j (attempt_of a s.branch t.number) ≡ true) parts.0 (ended_before new t.number low below)))
        (λ h. order.older t low (subst (λ n. t.number < n) (other t.action t.branch h) high)))

    within : Advances p j s → 1 ≤ p.limit → s.number ≤ p.limit
    unfolding dropped
    within (inr again) least = let m = again.1 in let old = order.limited s.action s.branch least in omega arith
    within (inl starts) least =
        by_bool (nat_lt (attempt j s.action s.branch) p.limit) (λ _. s.number ≤ p.limit)
        (λ below. let lt = ltb-true (attempt j s.action s.branch) p.limit below in let m = starts.begins.next in omega arith)
        (λ above. let le = ltb-false (attempt j s.action s.branch) p.limit above in let old = order.limited s.action s.branch least in
        let at : attempt j s.action s.branch ≡ p.limit = omega arith in absurd (spent starts.begins.after at))
      where
        spent : (attempt j s.action s.branch ≡ 0) ⊎ (ended j (attempt_of s.action s.branch (attempt j s.action s.branch)) ≡ true) → attempt j s.action s.branch ≡ p.limit → ⊥
        spent (inl zero_yet) at = omega arith
        spent (inr over) at = (let none = starts.undropped in let d : ended j (attempt_of s.action s.branch p.limit) ≡ true = subst (λ k. ended j (attempt_of s.action s.branch k) ≡ true) at over in
            let both : true ≡ false = sym d ∙ none in absurd (cc))

    limited : (a : ℕ) (b : Branch) → 1 ≤ p.limit → attempt (e ∷ j) a b ≤ p.limit
    limited a b least =
        by_bool (is_branch_of a b s) (λ _. attempt (e ∷ j) a b ≤ p.limit)
        (λ h. rw (mine a b h) (within new least)) (λ h. rw (other a b h) (order.limited a b least))

    new_order : AttemptsInOrder p (e ∷ j)
    new_order = record { numbered = numbered; older = older; limited = limited }

  step_order : Opens p j (launch_in e.reply) (send_in e.reply) → AttemptsInOrder p (e ∷ j)
  step_order opens = by (begun_in e.reply) refl
    where
      by : (o : Option Attempt) → begun_in e.reply ≡ o → AttemptsInOrder p (e ∷ j)
      by None h = quiet_order h
      by (Some s) h = new_order s h (opens_advances p j e.reply s h opens)

entry_opens : (p : Plan) (e : Entry) (j : List Entry) → AttemptsInOrder p j → LawfulEntry p j e → Opens p j (launch_in e.reply) (send_in e.reply)
entry_opens p e j order entry = ruled_opens p j e.lane e.call e.reply order (u.ruled p j e entry)

pub attempts_in_order : (p : Plan) (j : List Entry) → Lawful p j → AttemptsInOrder p j
unfolding begun attempt
attempts_in_order p [] legal = record { numbered = λ t h. absurd (cc); older = λ t low high. absurd (omega arith); limited = λ a b least. omega arith }
attempts_in_order p (e ∷ j) legal =
    let order = attempts_in_order p j legal.0 in step_order p e j order (entry_opens p e j order legal.1)

opens_begins : (p : Plan) (j : List Entry) (o : Option (ℕ × Attempt)) (q : Option Request) → Opens p j o q → Begins j o q
opens_begins p j (Some x) q starts = starts.begins
opens_begins p j None (Some q) (inl starts) = inl starts.begins
opens_begins p j None (Some q) (inr on) = inr on
opens_begins p j None None opens = tt

pub begin_in_order : (p : Plan) (j : List Entry) → Lawful p j → BeginInOrder j
begin_in_order p [] legal = tt
begin_in_order p (e ∷ j) legal =
    (begin_in_order p j legal.0, opens_begins p j (launch_in e.reply) (send_in e.reply) (entry_opens p e j (attempts_in_order p j legal.0) legal.1))
