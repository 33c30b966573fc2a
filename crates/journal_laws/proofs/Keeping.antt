-- Each order of a legal journal keeps what is said of it where it is given.
use Rattle.std.proofs.Common.{unwrap_or, ◌≡◌, ℕ, zero, suc, ◌+◌, ◌/◌, ◌≤◌, ◌==◌, nat_lt, nat_le, Bool, true, false, ◌&&◌, ◌||◌, not, cond, List, [], ◌∷◌, length, Option, Some, None, inl, inr, refl, sym, ap, subst, ◌∙◌, pos, arith}
use Rattle.std.specs.Prelude.{slice_get}
use Rattle.std.specs.List.{list_any, filter}
use Rattle.std.specs.Ordering.{int_eq}
use Rattle.std.proofs.lemmas.Bool.{eqb-true, eq-eqb, le-leb, lt-ltb, ltb-true, and_parts, and_from, or_left, or_right, or_from}
use Rattle.std.proofs.lemmas.Bool.Decides.{Decides-int_eq}
use Rattle.run_plan.specs.declared.plan.Branch.{Branch}
use Rattle.run_plan.specs.declared.plan.Branch.TheVariants.{Local, Remote}
use Rattle.run_plan.specs.declared.plan.Kind.{Kind}
use Rattle.run_plan.specs.declared.plan.Kind.TheVariants as kind
use Rattle.run_plan.specs.declared.plan.Plan.{Plan}
use Rattle.run_plan.specs.declared.plan.PlanAction.{PlanAction}
use Rattle.exec_journal.specs.declared.attempt.Attempt.{Attempt}
use Rattle.exec_journal.specs.Entry.{Entry}
use Rattle.exec_journal.specs.declared.ends.Cause.{Cause}
use Rattle.exec_journal.specs.declared.ends.Cause.TheVariants as cause
use Rattle.exec_journal.specs.declared.call.Call.{Call}
use Rattle.exec_journal.specs.declared.reply.Reply.{Reply}
use Rattle.exec_journal.specs.declared.reply.Why.TheVariants as why
use Rattle.list_lemmas.specs.Options.{or_else}
use Rattle.exec_journal.specs.Entries.{Request, attempt_of, launch_in}
use Rattle.exec_journal.specs.Words.{last_line, launch_of, sends, sent_on, pending, is_pending, has_cancel, line_cause, why_of}
use Rattle.exec_journal.specs.Attempts.{attempt, ended}
use Rattle.exec_journal.specs.Settled.{ready, bound, free_places, is_under_way}
use Rattle.run_plan.specs.Groups.{group_of, is_single, capacity}
use Rattle.exec_journal.specs.Rules as r
use Rattle.exec_journal.specs.Rules.{is_unwanted}
use Rattle.exec_journal.specs.Paired as pr
use Rattle.exec_journal.specs.Kept as kp
use Rattle.exec_journal.specs.Kept.{OneLive, OrdersKept}
use Rattle.run_plan.specs.Sound.{Sound, are_different, is_sound_action, are_sound_from, has_branches}
use Rattle.exec_journal.specs.Lawful.{Lawful, IsNextOf, NextOn, FromBound, FromQueue, NoneBefore}
use Rattle.exec_journal.specs.Seated.{group_for, group_on, line_group, line_kind, may_be_asked}
use Rattle.exec_journal.specs.Facts.{IsOfBerth, OfBerth}
use Rattle.journal_laws.specs.Invariant.{IsGoing, NumberedAs, EachRequest}
use Rattle.exec_journal.proofs.Histories.{AllOf, all_oldest, all_filter}
use Rattle.exec_journal.proofs.Reasons as u
use Rattle.exec_journal.proofs.Ruled.{by_bool, not_true}
use Rattle.exec_journal.proofs.Lines.{last_line_own, lines_named, pending_line}
use Rattle.exec_journal.proofs.Begins.{begin_in_order, bound_is, queued_is}
use Rattle.journal_laws.proofs.Carried as k
use Rattle.journal_laws.proofs.Over as v
use Rattle.journal_laws.proofs.Claims.{clash, false_by}
use Rattle.journal_laws.proofs.Granted as g
use Rattle.journal_laws.proofs.Firm as f
use Rattle.journal_laws.proofs.Requests as q
use Rattle.journal_laws.proofs.Vacant as va

-- ---- an attempt runs in the group of its line's berth

pub record RunsIn (p : Plan) (t : Attempt) (n : ℕ) : Type 0 where
  pub action : PlanAction
  pub place : slice_get p.actions t.action ≡ Some action
  pub runs : group_of action t.branch ≡ Some n

pub queue_runs : (p : Plan) (j : List Entry) (n : ℕ) (t : Attempt) → IsNextOf p j n t → RunsIn p t n
queue_runs p j n t e = record { action = e.action; place = e.place; runs = f.uses_is e.action t.branch n e.group }

pub RunsSome : Plan → Attempt → Type 0
RunsSome p t = (n : ℕ) × RunsIn p t n

launch_runs : (p : Plan) (j : List Entry) (lane : ℕ) (d : Call) (x : Reply) (y : ℕ × Attempt) → u.Ruled p j lane d x → launch_in x ≡ Some y → RunsSome p y.1
unfolding RunsSome
launch_runs p j lane d x y (u.Launches gr t vacant next none) h =
    let s : t ≡ y.1 = cc in subst (λ (z : Attempt). RunsSome p z) s (gr, queue_runs p j gr t next)
launch_runs p j lane d x y (u.KillsBroken l z here run broken over) h = absurd (cc)
launch_runs p j lane d x y _ h = absurd (cc)

pub runs_some : (p : Plan) (j : List Entry) (l m : ℕ) (t : Attempt) → Lawful p j → launch_of j l ≡ Some (m, t) → RunsSome p t
unfolding launch_of
runs_some p [] l m t legal h = absurd (cc)
runs_some p (e ∷ j) l m t legal h = by (q.launch_cases p e j l m t h) (λ y. runs_some p j l m t legal.0 y)
  where
    by : q.Launches p e j l m t → (launch_of j l ≡ Some (m, t) → RunsSome p t) → RunsSome p t
    by (q.Now is lane) ih = launch_runs p j e.lane e.call e.reply (l, t) (v.entry_ruled p e j legal) is
    by (q.Before at) ih = ih at

pub group_runs : (p : Plan) (t : Attempt) (n : ℕ) → RunsIn p t n → group_for p t ≡ Some n
group_runs p t n runs = rw runs.place runs.runs

pub line_group_is : (p : Plan) (j : List Entry) (l m : ℕ) (t : Attempt) (n : ℕ) → launch_of j l ≡ Some (m, t) → RunsIn p t n → line_group p j l ≡ n
line_group_is p j l m t n at runs = ap (λ (o : Option ℕ). unwrap_or o 0) (q.group_is p j l m t at ∙ group_runs p t n runs)

pub launched_runs : (p : Plan) (j : List Entry) (l m : ℕ) (t : Attempt) → Lawful p j → launch_of j l ≡ Some (m, t) → RunsIn p t (line_group p j l)
unfolding RunsSome
launched_runs p j l m t legal at =
    let some = runs_some p j l m t legal at in subst (RunsIn p t) (sym (line_group_is p j l m t some.0 at some.1)) some.1

-- so does what is sent there
pub next_runs : (p : Plan) (j : List Entry) (l : ℕ) (t : Attempt) → Lawful p j → NextOn p j l t → RunsIn p t (line_group p j l)
next_runs p j l t legal (FromBound h) = let b = bound_is p j l t h in launched_runs p j l b.lane t legal b.launched
next_runs p j l t legal (FromQueue none room next) = queue_runs p j (line_group p j l) t next

-- in the line's own group
pub group_there : (p : Plan) (j : List Entry) (l m : ℕ) (s t : Attempt) → Lawful p j → launch_of j l ≡ Some (m, s) → NextOn p j l t → group_for p t ≡ group_on p j l
unfolding RunsSome
group_there p j l m s t legal at next =
    let some = runs_some p j l m s legal at in
    let there = q.group_is p j l m s at ∙ group_runs p s some.0 some.1 in
    group_runs p t (line_group p j l) (next_runs p j l t legal next) ∙ ap Some (line_group_is p j l m s some.0 at some.1) ∙ sym there

pub sends_run : (p : Plan) (j : List Entry) (l m : ℕ) (t : Attempt) (n : ℕ) → Lawful p j → launch_of j l ≡ Some (m, t) → RunsIn p t n → AllOf (λ x. RunsIn p x.attempt n) (sends j l)
unfolding launch_of
sends_run p [] l m t n legal h runs = absurd (cc)
sends_run p (e ∷ j) l m t n legal h runs = by (q.launch_cases p e j l m t h) (λ y. sends_run p j l m t n legal.0 y runs)
  where
    more : (o : Option Request) → sent_on l e.reply ≡ o → launch_of j l ≡ Some (m, t) → AllOf (λ x. RunsIn p x.attempt n) (sends j l) → AllOf (λ x. RunsIn p x.attempt n) (sends (e ∷ j) l)
    more None is at old = subst (AllOf (λ x. RunsIn p x.attempt n)) (sym (q.sends_same e j l is)) old
    more (Some x) is at old =
        let s = q.sent_on_is l e.reply x is in
        let to = q.sends_to p j e.lane l e.call e.reply x (v.entry_ruled p e j legal) s.0 s.1 in
        let new = subst (RunsIn p x.attempt) (line_group_is p j l m t n at runs) (next_runs p j l x.attempt legal.0 to.next) in
        subst (AllOf (λ y. RunsIn p y.attempt n)) (sym (q.sends_grow e j l x is)) (new, old)

    by : q.Launches p e j l m t → (launch_of j l ≡ Some (m, t) → AllOf (λ x. RunsIn p x.attempt n) (sends j l)) → AllOf (λ x. RunsIn p x.attempt n) (sends (e ∷ j) l)
    by (q.Now is lane) ih = subst (AllOf (λ x. RunsIn p x.attempt n)) (sym (q.new_line_unsent p e j l t legal is)) tt
    by (q.Before at) ih = more (sent_on l e.reply) refl at (ih at)

-- ---- in a sound plan an action has one branch in a group

sound_at : (p : Plan) (a i : ℕ) (xs : List PlanAction) (x : PlanAction) → are_sound_from p a xs ≡ true → slice_get xs i ≡ Some x → are_different x.local x.remote ≡ true
sound_at p a i [] x h at = absurd (cc)
sound_at p a zero (y ∷ ys) x h at =
    let e : y ≡ x = cc in
    let one = (and_parts (is_sound_action p a y) _ h).0 in
    let has = (and_parts (has_branches (length p.groups) y) _ (and_parts _ (has_branches (length p.groups) y && _) one).1).0 in
    subst (λ (z : PlanAction). are_different z.local z.remote ≡ true) e (and_parts _ (are_different y.local y.remote) (and_parts _ _ has).1).1
sound_at p a (suc i) (y ∷ ys) x h at = sound_at p (suc a) i ys x (and_parts (is_sound_action p a y) _ h).1 at

different : (n : ℕ) (o s : Option ℕ) → o ≡ Some n → s ≡ Some n → are_different o s ≡ true → ⊥
different n (Some a) (Some b) h y d = (let e : a ≡ n = cc in let g : b ≡ n = cc in clash (a == b) (eq-eqb a b (e ∙ sym g)) (not_true _ d))
different n None s h y d = cc
different n (Some a) None h y d = cc

same_side : (x : PlanAction) (b c : Branch) (n : ℕ) → are_different x.local x.remote ≡ true → group_of x b ≡ Some n → group_of x c ≡ Some n → b ≡ c
same_side x Local Local n d h y = refl
same_side x Remote Remote n d h y = refl
same_side x Local Remote n d h y = absurd (different n x.local x.remote h y d)
same_side x Remote Local n d h y = absurd (different n x.local x.remote y h d)

pub one_branch : (p : Plan) (s t : Attempt) (n : ℕ) → Sound p → RunsIn p s n → RunsIn p t n → s.action ≡ t.action → s.branch ≡ t.branch
one_branch p s t n sound a b same =
    let both : Some a.action ≡ Some b.action = sym a.place ∙ ap (slice_get p.actions) same ∙ b.place in
    let x : a.action ≡ b.action = cc in
    same_side b.action s.branch t.branch n (sound_at p 0 t.action p.actions b.action sound.each_action b.place) (subst (λ (z : PlanAction). group_of z s.branch ≡ Some n) x a.runs) b.runs

-- ---- no other request of the action on the line

none_any : (test : Request → Bool) (xs : List Request) → AllOf (λ x. test x ≡ false) xs → list_any test xs ≡ false
none_any test [] all = refl
none_any test (x ∷ xs) all = or_from _ _ all.0 (none_any test xs all.1)

pub filter_passes : (P : Request → Type 0) (test : Request → Bool) (xs : List Request) → AllOf P xs → AllOf (λ x. P x × (test x ≡ true)) (filter test xs)
filter_passes P test [] all = tt
filter_passes P test (x ∷ xs) all =
    by_bool (test x) (λ b. test x ≡ b → AllOf (λ y. P y × (test y ≡ true)) (cond b (x ∷ filter test xs) (filter test xs)))
    (λ _ is. ((all.0, is), filter_passes P test xs all.1)) (λ _ _. filter_passes P test xs all.1) refl

-- what is known of a pending request of the line
pub record IsWaiting (p : Plan) (j : List Entry) (l n : ℕ) (x : Request) : Type 0 where
  pub under_way : IsGoing j x.attempt
  pub runs : RunsIn p x.attempt n
  pub line : x.line ≡ l

pub all_waiting : (p : Plan) (j : List Entry) (l m : ℕ) (t : Attempt) → Lawful p j → launch_of j l ≡ Some (m, t) → AllOf (IsWaiting p j l (line_group p j l)) (pending j l)
unfolding pending
all_waiting p j l m t legal at =
    k.all_map _ (IsWaiting p j l (line_group p j l))
    (λ x h. record { under_way = q.pending_going p j l x legal h.0.0 h.1; runs = h.0.1; line = h.0.0.line }) _
    (filter_passes (λ x. k.IsSentOn j l x × RunsIn p x.attempt (line_group p j l)) (is_pending j) (sends j l)
    (k.all_both (k.IsSentOn j l) (λ x. RunsIn p x.attempt (line_group p j l)) (sends j l) (k.sends_on j l (begin_in_order p j legal)) (sends_run p j l m t (line_group p j l) legal at (launched_runs p j l m t legal at))))

-- a queued branch has no attempt under way
queued_not_going : (p : Plan) (j : List Entry) (n : ℕ) (s t : Attempt) → IsNextOf p j n t → IsGoing j s → s.action ≡ t.action → s.branch ≡ t.branch → ⊥
queued_not_going p j n s t e is a b =
    let idle = (queued_is p j t.action t.branch e.action e.waiting).idle in
    let number : s.number ≡ attempt j t.action t.branch = is.latest ∙ ap (λ x. attempt j x s.branch) a ∙ ap (λ (x : Branch). attempt j t.action x) b in
    let least = is.least in
    let low : nat_lt 0 (attempt j t.action t.branch) ≡ true = lt-ltb 0 (attempt j t.action t.branch) (omega arith) in
    let same : s ≡ attempt_of t.action t.branch (attempt j t.action t.branch) = (λ i. record { action = a i; branch = b i; number = number i }) in
    let open_yet : ended j (attempt_of t.action t.branch (attempt j t.action t.branch)) ≡ false = subst (λ (x : Attempt). ended j x ≡ false) same is.going in
    clash (is_under_way j t.action t.branch) (rw (low, open_yet) refl) idle

alone : (p : Plan) (j : List Entry) (l m : ℕ) (s t : Attempt) → Sound p → Lawful p j → launch_of j l ≡ Some (m, s) → RunsIn p t (line_group p j l) → NextOn p j l t → kp.is_alone j l t.action ≡ true
unfolding pending
alone p j l m s t sound legal at runs (FromBound h) = rw (q.bound_unsent p j l t legal h) refl
alone p j l m s t sound legal at runs (FromQueue none room h) =
    rw (none_any (λ x. x.attempt.action == t.action) (pending j l)
    (k.all_map (IsWaiting p j l (line_group p j l)) (λ x. (x.attempt.action == t.action) ≡ false)
    (λ x is. false_by _ (λ on. let a = eqb-true x.attempt.action t.action on in
    queued_not_going p j (line_group p j l) x.attempt t h is.under_way a (one_branch p x.attempt t (line_group p j l) sound is.runs runs a))) _
    (all_waiting p j l m s legal at))) refl

-- ---- room for one more

pending_more : (e : Entry) (j : List Entry) (xs : List Request) → length (filter (is_pending (e ∷ j)) xs) ≤ length (filter (is_pending j) xs)
pending_more e j [] = omega arith
pending_more e j (x ∷ xs) =
    by_bool (is_pending (e ∷ j) x) (λ b. is_pending (e ∷ j) x ≡ b → length (cond b (x ∷ filter (is_pending (e ∷ j)) xs) (filter (is_pending (e ∷ j)) xs)) ≤ length (filter (is_pending j) (x ∷ xs)))
    (λ _ on. rw (q.pending_before e j x on) (let n = pending_more e j xs in omega arith))
    (λ _ off. by_bool (is_pending j x) (λ b. length (filter (is_pending (e ∷ j)) xs) ≤ length (cond b (x ∷ filter (is_pending j) xs) (filter (is_pending j) xs)))
    (λ _. let n = pending_more e j xs in omega arith) (λ _. pending_more e j xs)) refl

one_capacity : (n : Kind) → 1 ≤ capacity n
one_capacity kind.Single = omega arith
one_capacity kind.Multi = omega arith
one_capacity kind.Boxed = omega arith
one_capacity kind.Remote = omega arith

pub room_before : (p : Plan) (j : List Entry) (l : ℕ) (t : Attempt) → Lawful p j → NextOn p j l t → length (pending j l) + 1 ≤ capacity (line_kind p j l)
unfolding pending free_places
room_before p j l t legal (FromBound h) = rw (q.bound_unsent p j l t legal h) (let n = one_capacity (line_kind p j l) in omega arith)
room_before p j l t legal (FromQueue none room h) = let lt = ltb-true 0 _ room in omega (arith, lt)

room_after : (p : Plan) (e : Entry) (j : List Entry) (l : ℕ) (x : Request) (t : Attempt) → Lawful p j → sent_on l e.reply ≡ Some x → NextOn p j l t → nat_le (length (pending (e ∷ j) l)) (capacity (line_kind p j l)) ≡ true
unfolding pending
room_after p e j l x t legal h next =
    le-leb _ _ (rw (q.sends_grow e j l x h) (by_bool (is_pending (e ∷ j) x)
    (λ b. length (cond b (x ∷ filter (is_pending (e ∷ j)) (sends j l)) (filter (is_pending (e ∷ j)) (sends j l))) ≤ capacity (line_kind p j l))
    (λ _. let n = pending_more e j (sends j l) in let m = room_before p j l t legal next in omega arith)
    (λ _. let n = pending_more e j (sends j l) in let m = room_before p j l t legal next in omega arith)))

-- ---- a Send

ready_at : (p : Plan) (j : List Entry) (a : ℕ) (x : PlanAction) → slice_get p.actions a ≡ Some x → ready p j x ≡ true → kp.is_ready p j a ≡ true
ready_at p j a x at h = rw at h

send_kept_so : (p : Plan) (e : Entry) (j : List Entry) (l : ℕ) (x : Request) → Sound p → Lawful p j → sent_on l e.reply ≡ Some x → q.SendsTo p j e.lane l x
    → kp.send_kept p j e l x.number x.attempt.action x.attempt.branch ≡ true
send_kept_so p e j l x sound legal sent to =
    let w = e.lane / 2 in
    let own : IsOfBerth j l w = subst (λ (o : Option ℕ). OfBerth j o w) to.here (last_line_own w j (lines_named p j legal)) in
    let facts = q.line_facts p j l w legal own in
    let has = f.next_ready p j l x.attempt (f.are_ready p j legal) to.next in
    let wish = g.next_wanted p j l x.attempt to.next in
    and_from _ _ (and_from _ _ to.up (and_from _ _ (ready_at p j x.attempt.action has.action has.place has.inputs) wish))
    (and_from _ _
    (by_bool (is_single (line_kind p j l)) (λ b. is_single (line_kind p j l) ≡ b → (cond b (kp.is_room_free j w) (pr.is_new_number j l x.number && kp.is_alone j l x.attempt.action)) ≡ true)
    (λ _ one. va.room_free p j w legal (λ y h here. last_closed y h here one))
    (λ _ many. and_from _ _ (q.new_number j l x.number (subst (λ b. NumberedAs b (sends j l)) many facts.numbers) (to.number ∙ ap (λ b. cond b (pos 0) (pos (length (sends j l) + 1))) many))
    (alone p j l own.owner.0 own.owner.1 x.attempt sound legal own.owner.2 (next_runs p j l x.attempt legal to.next) to.next)) refl)
    (and_from _ _ (rw to.none.no_gather refl) (room_after p e j l x x.attempt legal sent to.next)))
  where
    last_closed : (y : Request) → va.IsBerthRequest j (e.lane / 2) y → last_line j (e.lane / 2) ≡ Some y.line → is_single (line_kind p j l) ≡ true → is_pending j y ≡ false
    last_closed y h here one =
        let both : Some l ≡ Some y.line = sym to.here ∙ here in
        let same : l ≡ y.line = cc in
        va.among_closed j y h.among (subst (λ n. EachRequest (λ z. is_pending j z ≡ false) (sends j n)) same (q.none_pending p j e.lane l x legal one to))

-- ---- a Launch, a Kill, a Cancel

launch_kept_so : (p : Plan) (j : List Entry) (w : ℕ) → Lawful p j → r.is_vacant j (last_line j w) ≡ true → NoneBefore p j w → kp.launch_kept j w ≡ true
launch_kept_so p j w legal vacant none = and_from _ _ vacant (and_from _ _ (va.vacant_room p j w legal vacant) (rw none.no_gather refl))

same_reason : (c : Cause) → kp.is_cause_of_kill (why_of c) (why_of c) ≡ true
same_reason cause.Breach = refl
same_reason cause.Feed = refl
same_reason _ = refl

kill_broken_so : (p : Plan) (j : List Entry) (l : ℕ) (c : Cause) → line_cause j l ≡ Some c → kp.kill_kept p j l (why_of c) ≡ true
kill_broken_so p j l cause.Breach h = rw h refl
kill_broken_so p j l cause.Feed h = rw h refl
kill_broken_so p j l _ h = rw h refl

oldest_passes : (test : Request → Bool) (xs : List Request) (x : Request) → r.oldest (filter test xs) ≡ Some x → test x ≡ true
oldest_passes test xs x h = all_oldest (λ y. test y ≡ true) (filter test xs) x (k.all_map (λ y. Unit {0} × (test y ≡ true)) (λ y. test y ≡ true) (λ y z. z.1) _ (filter_passes (λ _. Unit {0}) test xs (every xs))) h
  where
    every : (ys : List Request) → AllOf (λ _. Unit {0}) ys
    every [] = tt
    every (y ∷ ys) = (tt, every ys)

pub any_of_oldest : (test hit : Request → Bool) (xs : List Request) (x : Request) → r.oldest (filter test xs) ≡ Some x → hit x ≡ true → list_any hit xs ≡ true
any_of_oldest test hit [] x h y = absurd (cc)
any_of_oldest test hit (z ∷ xs) x h y =
    by_bool (test z) (λ b. r.oldest (cond b (z ∷ filter test xs) (filter test xs)) ≡ Some x → (hit z || list_any hit xs) ≡ true)
    (λ _ m. elim (k.or_some (r.oldest (filter test xs)) (Some z) x m) [
      | inl later ↦ or_right (hit z) _ (any_of_oldest test hit xs x later y)
      | inr here ↦ (let e : z ≡ x = cc in or_left (hit z) _ (subst (λ w. hit w ≡ true) (sym e) y))
    ])
    (λ _ m. or_right (hit z) _ (any_of_oldest test hit xs x m y)) h

cancel_kept_so : (p : Plan) (j : List Entry) (l : ℕ) (x : Request) → may_be_asked p j l ≡ true
    → r.oldest (filter (λ y. is_unwanted p j y && not (has_cancel j y)) (pending j l)) ≡ Some x → kp.cancel_kept p j x.line x.number ≡ true
cancel_kept_so p j l x may which =
    let test = λ (y : Request). is_unwanted p j y && not (has_cancel j y) in
    let on : x.line ≡ l = all_oldest (λ (y : Request). y.line ≡ l) _ x (all_filter (λ (y : Request). y.line ≡ l) test (pending j l) (pending_line j l)) which in
    let same_number = (Decides-int_eq x.number x.number).1 refl in
    and_from _ _ (subst (λ n. may_be_asked p j n ≡ true) (sym on) may) (subst (λ n. list_any (λ y. int_eq y.number x.number && (is_unwanted p j y && not (has_cancel j y))) (pending j n) ≡ true) (sym on)
    (any_of_oldest test (λ y. int_eq y.number x.number && (is_unwanted p j y && not (has_cancel j y))) (pending j l) x which (and_from _ _ same_number (oldest_passes test (pending j l) x which))))

-- ---- Kept

order_of_reply : (p : Plan) (e : Entry) (j : List Entry) → Sound p → Lawful p j → (lane : ℕ) (d : Call) (x : Reply) → e.lane ≡ lane → e.reply ≡ x → u.Ruled p j lane d x → kp.order_kept p j e x ≡ true
order_of_reply p e j sound legal lane d x il ir (u.Launches gr t vacant next none) = subst (λ n. kp.launch_kept j (n / 2) ≡ true) (sym il) (launch_kept_so p j (lane / 2) legal vacant none)
order_of_reply p e j sound legal lane d x il ir (u.Sends l t here alive next none) =
    let request : Request = record { line = l; number = r.number_of j (line_kind p j l) l; attempt = t } in
    let sent : sent_on l e.reply ≡ Some request = rw (ir, eq-eqb l l refl) refl in
    send_kept_so p e j l request sound legal sent
    (subst (λ n. q.SendsTo p j n l request) (sym il) (record { here = here; up = alive; next = next; none = none; number = refl; line = refl }))
order_of_reply p e j sound legal lane d x il ir (u.Quits l here run over) = over
order_of_reply p e j sound legal lane d x il ir (u.KillsBroken l y here run broken over) = kill_broken_so p j l y broken
order_of_reply p e j sound legal lane d x il ir (u.KillsUnwanted l here run one none unwanted over) = and_from _ _ one (and_from _ _ (rw none refl) unwanted)
order_of_reply p e j sound legal lane d x il ir (u.Evicts l here alive empty free none) = and_from _ _ alive (rw (empty, free) refl)
order_of_reply p e j sound legal lane d x il ir (u.Cancels l y here alive may which none) = cancel_kept_so p j l y may which
order_of_reply p e j sound legal lane d x il ir _ = refl

-- each scheduling discipline keeps its orders
pub orders_kept : (p : Plan) (j : List Entry) → Sound p → Lawful p j → OrdersKept p j
orders_kept p [] sound legal = tt
orders_kept p (e ∷ j) sound legal = (
  orders_kept p j sound legal.0,
  order_of_reply p e j sound legal.0 e.lane e.call e.reply refl refl (v.entry_ruled p e j legal),
  λ w. va.one_live p (e ∷ j) w legal,
)
