-- Where a lane is told to stop and none has halted, all actions are settled and every attempt that ended is accounted for.
use Rattle.std.proofs.Common.{◌≡◌, ℕ, zero, suc, ◌+◌, ◌<◌, ◌≤◌, ◌==◌, Bool, true, false, ◌&&◌, not, List, [], ◌∷◌, Option, Some, None, option_map, ◌⊎◌, inl, inr, refl, ap, subst, ◌∙◌, arith}
use Rattle.std.specs.Prelude.{slice_get}
use Rattle.std.specs.List.{list_all}
use Rattle.std.proofs.lemmas.Bool.{eqb-true, eq-eqb, lt-ltb, cases_lt, and_parts, and_from, or_cases, or_left, or_right}
use Rattle.run_plan.specs.declared.plan.Branch.{Branch}
use Rattle.run_plan.specs.declared.plan.Plan.{Plan}
use Rattle.run_plan.specs.declared.plan.PlanAction.{PlanAction}
use Rattle.exec_journal.specs.declared.attempt.Attempt.{Attempt}
use Rattle.exec_journal.specs.Entry.{Entry}
use Rattle.exec_journal.specs.declared.ends.Standing.{Standing}
use Rattle.exec_journal.specs.declared.call.Call.{Call}
use Rattle.exec_journal.specs.declared.call.Found.{Found}
use Rattle.exec_journal.specs.declared.reply.Reply.{Reply}
use Rattle.exec_journal.specs.declared.reply.Reply.TheVariants as reply
use Rattle.list_lemmas.specs.Options.{or_else}
use Rattle.exec_journal.specs.Entries.{Request, attempt_of, same_branch, is_branch_of, is_for, launch_in, send_in}
use Rattle.exec_journal.specs.Words.{halted, grant_of}
use Rattle.exec_journal.specs.Attempts.{attempt, begun_in, number_if, ended, dropped}
use Rattle.exec_journal.specs.Settled.{is_settled, standing_after, standings, settled, all_settled}
use Rattle.exec_journal.specs.Rules as r
use Rattle.exec_journal.specs.Rules.{is_other}
use Rattle.exec_journal.specs.Accounted.{is_followed, is_attempt_accounted, Accounted}
use Rattle.run_plan.specs.Sound.{Sound}
use Rattle.exec_journal.specs.Lawful.{Lawful, Told}
use Rattle.exec_journal.specs.Facts.{begun, BeginsNext, Begins}
use Rattle.journal_laws.specs.Invariant.{HasInputs}
use Rattle.exec_journal.proofs.Reasons as u
use Rattle.exec_journal.proofs.Ruled.{by_bool, not_true}
use Rattle.exec_journal.proofs.Begins.{same_attempt_refl, same_branch_eq, begin_in_order, attempts_in_order, attempt_begun, attempt_other, is_for_eq, launched_begun}
use Rattle.journal_laws.proofs.Claims as c
use Rattle.journal_laws.proofs.Claims.{clash, false_by}
use Rattle.journal_laws.proofs.Granted as g
use Rattle.journal_laws.proofs.Firm as f
use Rattle.journal_laws.proofs.Races as ra

-- ---- attempts run without a gap

-- what the entry begins is the next attempt, or one that was begun
pub data BeginsIt (j : List Entry) (s : Attempt) : Type 0 where
  New : BeginsNext j s → BeginsIt j s
  Again : begun j s ≡ true → s.number ≡ attempt j s.action s.branch → BeginsIt j s

pub begins_it : (j : List Entry) (x : Reply) (s : Attempt) → Begins j (launch_in x) (send_in x) → begun_in x ≡ Some s → BeginsIt j s
begins_it j x s begins h = by (launch_in x) (send_in x) begins h
  where
    by : (o : Option (ℕ × Attempt)) (q : Option Request) → Begins j o q → or_else (option_map (λ y. y.1) o) (option_map (λ y. y.attempt) q) ≡ Some s → BeginsIt j s
    by (Some y) q next h = let e : y.1 ≡ s = cc in New (subst (BeginsNext j) e next)
    by None (Some y) (inl next) h = let e : y.attempt ≡ s = cc in New (subst (BeginsNext j) e next)
    by None (Some y) (inr on) h =
        let e : y.attempt ≡ s = cc in
        subst (BeginsIt j) e (Again (launched_begun j y.line on.launched.0 y.attempt on.launched.1) on.latest)
    by None None begins h = absurd (cc)

pub begun_here : (e : Entry) (j : List Entry) (s : Attempt) → begun_in e.reply ≡ Some s → begun (e ∷ j) s ≡ true
unfolding begun
begun_here e j s h = or_left (is_for s (begun_in e.reply)) _ (rw h (same_attempt_refl s))

pub no_number : (e : Entry) (a : ℕ) (b : Branch) (o : Option Attempt) → begun_in e.reply ≡ o → ((s : Attempt) → o ≡ Some s → is_branch_of a b s ≡ false) → number_if a b (begun_in e.reply) ≡ None
no_number e a b None is h = rw is refl
no_number e a b (Some s) is h = rw (is, h s refl) refl

pub branch_parts : (a : ℕ) (b : Branch) (s : Attempt) → is_branch_of a b s ≡ true → (s.action ≡ a) × (s.branch ≡ b)
branch_parts a b s h = let parts = and_parts (s.action == a) _ h in (eqb-true s.action a parts.0, same_branch_eq s.branch b parts.1)

pub no_gap : (p : Plan) (j : List Entry) (a : ℕ) (b : Branch) (n : ℕ) → Lawful p j → 1 ≤ n → n ≤ attempt j a b → begun j (attempt_of a b n) ≡ true
unfolding attempt
no_gap p [] a b n legal low high = absurd (omega arith)
no_gap p (e ∷ j) a b n legal low high = by (begun_in e.reply) refl (λ le. no_gap p j a b n legal.0 low le)
  where
    old : n ≤ attempt j a b → (n ≤ attempt j a b → begun j (attempt_of a b n) ≡ true) → begun (e ∷ j) (attempt_of a b n) ≡ true
    old le ih = c.begun_later e j (attempt_of a b n) (ih le)

    at : (s : Attempt) → s.action ≡ a → s.branch ≡ b → s.number ≡ n → begun_in e.reply ≡ Some s → begun (e ∷ j) (attempt_of a b n) ≡ true
    at s x y z is =
        let same : s ≡ attempt_of a b n = (λ i. record { action = x i; branch = y i; number = z i }) in
        subst (λ (w : Attempt). begun (e ∷ j) w ≡ true) same (begun_here e j s is)

    mine : (s : Attempt) → begun_in e.reply ≡ Some s → is_branch_of a b s ≡ true → BeginsIt j s → (n ≤ attempt j a b → begun j (attempt_of a b n) ≡ true) → begun (e ∷ j) (attempt_of a b n) ≡ true
    mine s is same (New next) ih =
        let parts = branch_parts a b s same in
        let top : attempt (e ∷ j) a b ≡ s.number = attempt_begun e j a b s is same in
        let up : n ≤ s.number = subst (λ m. n ≤ m) top high in
        let before : s.number ≡ attempt j a b + 1 = subst (λ (d : Branch). s.number ≡ attempt j a d + 1) parts.1 (subst (λ m. s.number ≡ attempt j m s.branch + 1) parts.0 next.next) in
        elim (cases_lt n s.number) [ inl lt ↦ old (omega arith) ih | inr ge ↦ at s parts.0 parts.1 (omega arith) is ]
    mine s is same (Again start latest) ih =
        let parts = branch_parts a b s same in
        let top : attempt (e ∷ j) a b ≡ s.number = attempt_begun e j a b s is same in
        let up : n ≤ s.number = subst (λ m. n ≤ m) top high in
        let before : s.number ≡ attempt j a b = subst (λ (d : Branch). s.number ≡ attempt j a d) parts.1 (subst (λ m. s.number ≡ attempt j m s.branch) parts.0 latest) in
        old (omega arith) ih

    by : (o : Option Attempt) → begun_in e.reply ≡ o → (n ≤ attempt j a b → begun j (attempt_of a b n) ≡ true) → begun (e ∷ j) (attempt_of a b n) ≡ true
    by None is ih =
        let same : attempt (e ∷ j) a b ≡ attempt j a b = attempt_other e j a b (no_number e a b None is (λ s h. absurd (cc))) in
        old (subst (λ m. n ≤ m) same high) ih
    by (Some s) is ih =
        by_bool (is_branch_of a b s) (λ z. is_branch_of a b s ≡ z → begun (e ∷ j) (attempt_of a b n) ≡ true)
        (λ _ same. mine s is same (begins_it j e.reply s (begin_in_order p (e ∷ j) legal).1 is) ih)
        (λ _ off. let same : attempt (e ∷ j) a b ≡ attempt j a b = attempt_other e j a b (no_number e a b (Some s) is (λ x h. (let w : s ≡ x = cc in subst (λ (y : Attempt). is_branch_of a b y ≡ false) w off))) in
        old (subst (λ m. n ≤ m) same high) ih) refl

-- ---- an attempt is followed by the next

abbrev pub next_of : Attempt → Attempt
next_of t = attempt_of t.action t.branch (t.number + 1)

followed_later : (e : Entry) (j : List Entry) (t : Attempt) → is_followed j t ≡ true → is_followed (e ∷ j) t ≡ true
unfolding is_followed
followed_later e j t h = or_right _ _ h

followed_here : (e : Entry) (j : List Entry) (t : Attempt) → begun_in e.reply ≡ Some (next_of t) → ended j t ≡ true → is_followed (e ∷ j) t ≡ true
unfolding is_followed
followed_here e j t h over = or_left (is_for (next_of t) (begun_in e.reply) && ended j t) _ (rw h (and_from _ _ (same_attempt_refl (next_of t)) over))

pub followed : (p : Plan) (j : List Entry) (t : Attempt) → Lawful p j → 1 ≤ t.number → begun j (next_of t) ≡ true → is_followed j t ≡ true
unfolding begun
followed p [] t legal low h = absurd (cc)
followed p (e ∷ j) t legal low h = by (or_cases (is_for (next_of t) (begun_in e.reply)) (begun j (next_of t)) h) (λ y. followed p j t legal.0 low y)
  where
    now : begun_in e.reply ≡ Some (next_of t) → BeginsIt j (next_of t) → (begun j (next_of t) ≡ true → is_followed j t ≡ true) → is_followed (e ∷ j) t ≡ true
    now is (Again start latest) ih = followed_later e j t (ih start)
    now is (New next) ih =
        let n = next.next in
        let top : attempt j t.action t.branch ≡ t.number = omega arith in
        elim next.after [
          | inl none ↦ absurd (omega arith)
          | inr over ↦ followed_here e j t is (subst (λ m. ended j (attempt_of t.action t.branch m) ≡ true) top over)
        ]

    by : (is_for (next_of t) (begun_in e.reply) ≡ true) ⊎ (begun j (next_of t) ≡ true) → (begun j (next_of t) ≡ true → is_followed j t ≡ true) → is_followed (e ∷ j) t ≡ true
    by (inl here) ih = (let is = is_for_eq (next_of t) (begun_in e.reply) here in now is (begins_it j e.reply (next_of t) (begin_in_order p (e ∷ j) legal).1 is) ih)
    by (inr before) ih = followed_later e j t (ih before)

-- ---- Stop

pub stop_is : (p : Plan) (j : List Entry) (lane : ℕ) (d : Call) (x : Reply) → u.Ruled p j lane d x → x ≡ reply.Stop → r.is_over p j ≡ true
stop_is p j lane d x (u.Stops over gone) h = over
stop_is p j lane d x (u.TakeStops over) h = over
stop_is p j lane d x (u.Ticks over) h = over
stop_is p j lane d x (u.KillsBroken l y here run broken over) h = absurd (cc)
stop_is p j lane d x (u.Notes e n) h = absurd (cc)
stop_is p j lane d x _ h = absurd (cc)

-- where it is answered and no lane has halted, all actions are settled
pub stop_settles : (p : Plan) (j : List Entry) (lane : ℕ) (d : Call) → Told p j lane d reply.Stop → halted j ≡ false → all_settled p j ≡ true
stop_settles p j lane d h none = elim (or_cases (all_settled p j) (halted j) (stop_is p j lane d reply.Stop (u.told_ruled p j lane d reply.Stop h) refl)) [
  | inl all ↦ all
  | inr halt ↦ absurd (clash (halted j) halt none)
]

list_all_at : (test : Standing → Bool) (xs : List Standing) (i : ℕ) (s : Standing) → list_all test xs ≡ true → slice_get xs i ≡ Some s → test s ≡ true
list_all_at test [] i s h at = absurd (cc)
list_all_at test (x ∷ xs) zero s h at = let e : x ≡ s = cc in subst (λ z. test z ≡ true) e (and_parts (test x) _ h).0
list_all_at test (x ∷ xs) (suc i) s h at = list_all_at test xs i s (and_parts (test x) _ h).1 at

pub each_settled : (p : Plan) (j : List Entry) (a : ℕ) (x : PlanAction) → all_settled p j ≡ true → slice_get p.actions a ≡ Some x → settled p j a ≡ true
unfolding all_settled settled
each_settled p j a x all at =
    let s = f.stands_at p j a x at in
    let yes = list_all_at is_settled (standings p j) a (standing_after p j a x s.front) all s.is in
    rw s.is yes

-- ---- each attempt that ended is accounted for

module _ (p : Plan) (j : List Entry) (t : Attempt) (sound : Sound p) (legal : Lawful p j) (all : all_settled p j ≡ true) (over : ended j t ≡ true) where
  start : begun j t ≡ true
  start = c.ended_begun p j t legal over

  range : (1 ≤ t.number) × (t.number ≤ attempt j t.action t.branch)
  range = (attempts_in_order p j legal).numbered t start

  -- it is its branch's latest, below the limit: then the other branch was granted
  by_other : attempt j t.action t.branch ≡ t.number → t.number < p.limit → is_other t.branch (grant_of j t.action) ≡ true
  unfolding dropped
  by_other top low = by (grant_of j t.action) refl
    where
      has : HasInputs p j t
      has = f.going_ready_at p j t legal start

      undropped : dropped p j t.action t.branch ≡ false
      undropped = false_by _ (λ gone.
          let spent = attempt_of t.action t.branch p.limit in
          let last = ((attempts_in_order p j legal).numbered spent (c.ended_begun p j spent legal gone)).1 in
          absurd (omega (arith, top)))

      open_yet : grant_of j t.action ≡ None → settled p j t.action ≡ false
      open_yet none = f.open_unsettled p j t.action has.action legal has.place none (f.has_branch_left p j t.action t.branch has.action has.group has.runs undropped) has.inputs

      by : (o : Option (Attempt × Found)) → grant_of j t.action ≡ o → is_other t.branch o ≡ true
      by None none = absurd (clash (settled p j t.action) (each_settled p j t.action has.action all has.place) (open_yet none))
      by (Some x) is =
          let w = g.winner p j t.action x legal is in
          by_bool (same_branch x.0.branch t.branch) (λ z. same_branch x.0.branch t.branch ≡ z → not z ≡ true)
          (λ _ same.
          let b = same_branch_eq x.0.branch t.branch same in
          let n : x.0.number ≡ t.number = w.under_way.latest ∙ ap (λ m. attempt j m x.0.branch) w.of_action ∙ ap (λ (d : Branch). attempt j t.action d) b ∙ top in
          let is_t : x.0 ≡ t = (λ i. record { action = w.of_action i; branch = b i; number = n i }) in
          absurd (clash (ended j t) over (subst (λ (y : Attempt). ended j y ≡ false) is_t w.under_way.going)))
          (λ _ _. refl) refl

  pub attempt_accounted : is_attempt_accounted p j t ≡ true
  unfolding dropped
  attempt_accounted =
      let most = (attempts_in_order p j legal).limited t.action t.branch sound.least in
      let r = range in
      elim (cases_lt t.number p.limit) [
        | inl low ↦ elim (cases_lt t.number (attempt j t.action t.branch)) [
          | inl more ↦ or_left _ _ (and_from _ _ (lt-ltb t.number p.limit low)
              (followed p j t legal r.0 (no_gap p j t.action t.branch (t.number + 1) legal (omega arith) (omega arith))))
          | inr last ↦ or_right _ _ (or_right _ _ (by_other (omega arith) low))
        ]
        | inr high ↦ or_right _ _ (or_left _ _ (let same : t.number ≡ p.limit = omega arith in
            and_from _ _ (eq-eqb t.number p.limit same) (subst (λ n. ended j (attempt_of t.action t.branch n) ≡ true) same over)))
      ]

-- where all actions are settled, nothing is lost
pub settled_accounted : (p : Plan) (j : List Entry) → Sound p → Lawful p j → all_settled p j ≡ true → Accounted p j
settled_accounted p j sound legal all = record {
  requests = ra.requests_accounted p j legal;
  attempts = λ t over. attempt_accounted p j t sound legal all over;
}

-- at Stop, where no lane has halted
pub accounted : (p : Plan) (j : List Entry) (lane : ℕ) (d : Call) → Sound p → Lawful p j → Told p j lane d reply.Stop → halted j ≡ false → Accounted p j
accounted p j lane d sound legal h none = settled_accounted p j sound legal (stop_settles p j lane d h none)
