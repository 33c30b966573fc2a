-- The last line of each berth: which lines a lane's calls name, and what is so of them.
use Rattle.std.proofs.Common.{◌≡◌, ℕ, ◌/◌, ◌%◌, ◌<◌, ◌≤◌, ◌==◌, nat_lt, true, false, ◌&&◌, not, cond, List, [], ◌∷◌, Option, Some, None, option_map, ◌⊎◌, inl, inr, refl, sym, ap, subst, ◌∙◌, arith}
use Rattle.std.proofs.lemmas.Bool.{eqb-true, eq-eqb, ltb-true, ltb-false, and_parts, and_from, or_cases, or_left, or_right}
use Rattle.run_plan.specs.declared.plan.Kind.TheVariants as kind
use Rattle.run_plan.specs.declared.plan.Kind.{Kind}
use Rattle.run_plan.specs.declared.plan.Plan.{Plan}
use Rattle.exec_journal.specs.Lawful as lw
use Rattle.exec_journal.specs.declared.attempt.Attempt.{Attempt}
use Rattle.exec_journal.specs.Entry.{Entry}
use Rattle.exec_journal.specs.declared.call.Call.{Call}
use Rattle.exec_journal.specs.declared.call.Call.TheVariants as call
use Rattle.exec_journal.specs.declared.call.HowEnded.{HowEnded}
use Rattle.exec_journal.specs.declared.call.Started.{Started}
use Rattle.exec_journal.specs.declared.call.HowEnded.TheVariants as end
use Rattle.exec_journal.specs.declared.reply.Reply.{Reply}
use Rattle.exec_journal.specs.declared.reply.Reply.TheVariants as reply
use Rattle.list_lemmas.specs.Options.{or_else}
use Rattle.exec_journal.specs.History.{each, latest}
use Rattle.exec_journal.specs.Entries.{Request, is_done, fails, launch_in}
use Rattle.exec_journal.specs.Words.{last_work, last_line, line_at, lines_of, line_count, launch_of, started, failed, has_ended, live, pending, granted, answered, wrote, says_feed_fault}
use Rattle.exec_journal.specs.Attempts.{ended}
use Rattle.run_plan.specs.Groups.{kind_of}
use Rattle.exec_journal.specs.Settled.{bound}
use Rattle.exec_journal.specs.Scripts as sc
use Rattle.exec_journal.specs.Lawful.{Lawful}
use Rattle.exec_journal.specs.Facts.{call_line, reply_line, IsOfBerth, OfBerth}
use Rattle.exec_journal.proofs.Histories.{AllOf, all_filter, all_oldest}
use Rattle.exec_journal.proofs.Ruled as ru
use Rattle.exec_journal.proofs.Reasons as u
use Rattle.exec_journal.proofs.Ruled.{by_bool}
use Rattle.exec_journal.proofs.Lines.{pending_line, lines_named, of_berth_more, script_own}
use Rattle.journal_laws.proofs.Fresh.{fresh}
use Rattle.exec_journal.proofs.Begins.{same_attempt_refl, IsBound, bound_is, wanted_is}
use Rattle.exec_journal.proofs.Quiet as qu
use Rattle.journal_laws.proofs.Owed as o
use Rattle.journal_laws.proofs.Owed.{is_work}
use Rattle.journal_laws.proofs.Carried as k
use Rattle.journal_laws.proofs.Over as v
use Rattle.journal_laws.proofs.Claims as c
use Rattle.journal_laws.proofs.Claims.{clash, false_by}
use Rattle.journal_laws.proofs.Firm.{granted_stays}
use Rattle.journal_laws.proofs.Requests as q
use Rattle.journal_laws.proofs.Vacant as va
use Rattle.journal_laws.proofs.Exactly as ex
use Rattle.journal_laws.proofs.Offered as of
use Rattle.journal_laws.proofs.Lanes as la
use Rattle.journal_laws.proofs.Taps as ta
use Rattle.journal_laws.proofs.Given as gi
use Rattle.call_laws.proofs.Owing as ow

-- ---- the lines of a berth

-- each was launched by its lane
pub lines_own : (p : Plan) (j : List Entry) (w : ℕ) → Lawful p j
    → AllOf (λ l. IsOfBerth j l w) (lines_of j w)
unfolding lines_of
lines_own p [] w legal = tt
lines_own p (e ∷ j) w legal =
    k.all_more (λ l. IsOfBerth (e ∷ j) l w) (line_at w e) (each (λ _ d. line_at w d) j)
    (λ l h. new l h)
    (k.all_map (λ l. IsOfBerth j l w) (λ l. IsOfBerth (e ∷ j) l w)
    (λ l h. of_berth_more e j l w (lines_named p (e ∷ j) legal).1.numbered h) _
    (lines_own p j w legal.0))
  where
    names : (x : Reply) (l : ℕ) → option_map (λ y. y.0) (launch_in x) ≡ Some l
        → reply_line x ≡ Some l
    names (reply.Launch m a b t) l h = h
    names _ l h = absurd (cc)

    new : (l : ℕ) → line_at w e ≡ Some l → IsOfBerth (e ∷ j) l w
    new l h =
        by_bool (e.lane / 2 == w) (λ b. (e.lane / 2 == w) ≡ b
        → cond b (option_map (λ x. x.0) (launch_in e.reply)) None ≡ Some l
        → IsOfBerth (e ∷ j) l w)
        (λ _ same m. subst (IsOfBerth (e ∷ j) l) (eqb-true (e.lane / 2) w same)
        (subst (λ (x : Option ℕ). OfBerth (e ∷ j) x (e.lane / 2)) (names e.reply l m)
        (lines_named p (e ∷ j) legal).1.replied))
        (λ _ _ m. absurd (cc)) refl h

-- a live one is its last
pub live_is_last : (p : Plan) (j : List Entry) (l w : ℕ) → Lawful p j → IsOfBerth j l w
    → live j l ≡ true → last_line j w ≡ Some l
live_is_last p j l w legal own up = elim (va.last_or_done p j l own.owner.0 own.owner.1 legal
    own.owner.2) [
      | inl last ↦ subst (λ n. last_line j n ≡ Some l) own.owner.3 last
      | inr done ↦ absurd (clash (live j l) up (va.done_not_live p j l legal done))
    ]

-- so among the lines of a berth
pub live_last : (p : Plan) (j : List Entry) (w l : ℕ) → Lawful p j → last_line j w ≡ Some l
    → AllOf (λ i. live j i ≡ true → i ≡ l) (lines_of j w)
live_last p j w l legal here = k.all_map (λ i. IsOfBerth j i w)
    (λ i. live j i ≡ true → i ≡ l) one (lines_of j w) (lines_own p j w legal)
  where
    one : (i : ℕ) → IsOfBerth j i w → live j i ≡ true → i ≡ l
    one i own up = let both : Some i ≡ Some l = sym (live_is_last p j i w legal own up) ∙ here in cc

-- ---- where a lane may Ask

-- its berth's last line failed to launch exactly where it wasn't started
pub launched_yet : (p : Plan) (j : List Entry) (lane l : ℕ) → Lawful p j
    → lw.in_script p j lane call.Ask ≡ true → last_line j (lane / 2) ≡ Some l
    → failed j l ≡ not (started j l)
launched_yet p j lane l legal asks here =
    by_bool (started j l) (λ b. started j l ≡ b → failed j l ≡ not b)
    (λ _ up. c.started_unfailed p j l legal up)
    (λ _ down. elim (or_cases (started j l) (failed j l)
    (ow.asking_reported p j lane l legal asks (la.here_own p j (lane / 2) l legal here))) [
      | inl up ↦ absurd (clash (started j l) up down)
      | inr fault ↦ fault
    ]) refl

-- ---- the last line, entry by entry

pub last_same : (e : Entry) (j : List Entry) (w : ℕ) → launch_in e.reply ≡ None
    → last_line (e ∷ j) w ≡ last_line j w
unfolding last_line
last_same e j w h =
    by_bool (e.lane / 2 == w) (λ b. or_else (cond b (option_map
    (λ x. x.0) (launch_in e.reply)) None) (latest (λ _ d. line_at w d) j) ≡ latest
    (λ _ d. line_at w d) j)
    (λ _. rw h refl) (λ _. refl)

pub last_other : (e : Entry) (j : List Entry) (w : ℕ) → (e.lane / 2 == w) ≡ false
    → last_line (e ∷ j) w ≡ last_line j w
unfolding last_line
last_other e j w h = rw h refl

pub last_new : (e : Entry) (j : List Entry) (l : ℕ) (t : Attempt) → launch_in e.reply ≡ Some (l, t)
    → last_line (e ∷ j) (e.lane / 2) ≡ Some l
unfolding last_line
last_new e j l t h = rw (h, eq-eqb (e.lane / 2) (e.lane / 2) refl) refl

-- ---- the line that a lane's newest order names is its berth's last

-- of a Launch, a Send, a Cancel and a Kill
abbrev pub order_line : Reply → Option ℕ
order_line (reply.Launch l a b t) = Some l
order_line (reply.Send l n a b t) = Some l
order_line (reply.Cancel l n) = Some l
order_line (reply.Kill l y) = Some l
order_line _ = None

line_order : (x : Reply) (l : ℕ) → order_line x ≡ Some l → la.is_order x ≡ true
line_order (reply.Launch m a b t) l h = refl
line_order (reply.Send m n a b t) l h = refl
line_order (reply.Cancel m n) l h = refl
line_order (reply.Kill m y) l h = refl
line_order _ l h = absurd (cc)

data NamesLine (j : List Entry) (w l : ℕ) (x : Reply) : Type 0 where
  New : (t : Attempt) → launch_in x ≡ Some (l, t) → NamesLine j w l x
  Last : launch_in x ≡ None → last_line j w ≡ Some l → NamesLine j w l x

same_last : (j : List Entry) (w m l : ℕ) → last_line j w ≡ Some m → Some m ≡ Some l
    → last_line j w ≡ Some l
same_last j w m l here h = here ∙ h

order_names : (p : Plan) (j : List Entry) (lane l : ℕ) (d : Call) (x : Reply) → u.Ruled p j lane d x
    → order_line x ≡ Some l → NamesLine j (lane / 2) l x
order_names p j lane l d x (u.Quits m here run over) h = Last refl (same_last j _ m l here h)
order_names p j lane l d x (u.KillsBroken m y here run broken over) h =
    Last refl (same_last j _ m l here h)
order_names p j lane l d x (u.KillsUnwanted m here run one none unwanted over) h =
    Last refl (same_last j _ m l here h)
order_names p j lane l d x (u.Cancels m y here up may which none) h =
    let line : y.line ≡ m = all_oldest (λ (z : Request). z.line ≡ m) _ y
    (all_filter (λ (z : Request). z.line ≡ m) _ (pending j m) (pending_line j m)) which in
    Last refl (same_last j _ m l here (ap Some (sym line) ∙ h))
order_names p j lane l d x (u.Sends m t here up next none) h = Last refl (same_last j _ m l here h)
order_names p j lane l d x (u.Launches gr t vacant next none) h =
    (let n : line_count j ≡ l = cc in New t (ap (λ i. Some (i, t)) n))
order_names p j lane l d x (u.Evicts m here alive empty free none) h =
    Last refl (same_last j _ m l here h)
order_names p j lane l d x (u.Notes z n) h = absurd (cc)
order_names p j lane l d x _ h = absurd (cc)

last_now : (p : Plan) (e : Entry) (j : List Entry) (l : ℕ) → Lawful p (e ∷ j)
    → order_line e.reply ≡ Some l → last_line (e ∷ j) (e.lane / 2) ≡ Some l
last_now p e j l legal h = by (order_names p j e.lane l e.call e.reply
    (v.entry_ruled p e j legal) h)
  where
    by : NamesLine j (e.lane / 2) l e.reply → last_line (e ∷ j) (e.lane / 2) ≡ Some l
    by (New t is) = last_new e j l t is
    by (Last none here) = last_same e j (e.lane / 2) none ∙ here

launch_is_order : (x : Reply) (y : ℕ × Attempt) → launch_in x ≡ Some y → la.is_order x ≡ true
launch_is_order (reply.Launch l a b t) y h = refl
launch_is_order _ y h = absurd (cc)

pub order_last : (p : Plan) (j : List Entry) (lane l : ℕ) (d : Entry) → Lawful p j
    → last_work j lane ≡ Some d → order_line d.reply ≡ Some l → last_line j (lane / 2) ≡ Some l
unfolding last_work
order_last p [] lane l d legal h is = absurd (cc)
order_last p (e ∷ j) lane l d legal h is = by (o.newest_cases e j lane d h)
    (λ m. order_last p j lane l d legal.0 m is)
  where
    kept : (y : Option (ℕ × Attempt)) → launch_in e.reply ≡ y
        → ((e.lane == lane) && is_work e.call) ≡ false → last_work j lane ≡ Some d
        → last_line j (lane / 2) ≡ Some l → last_line (e ∷ j) (lane / 2) ≡ Some l
    kept None none off at here = last_same e j (lane / 2) none ∙ here
    kept (Some y) new off at here =
        by_bool (e.lane / 2 == lane / 2) (λ b. (e.lane / 2 == lane / 2) ≡ b
        → last_line (e ∷ j) (lane / 2) ≡ Some l)
        (λ _ same. let ask = la.order_asked p e j legal (launch_is_order e.reply y new) in
        let mine = la.one_proxy e.lane lane (la.asks_even p e j legal ask).0
        (la.newest_even p j lane d legal.0 at (line_order d.reply l is))
        (eqb-true (e.lane / 2) (lane / 2) same) in
        let own : ((e.lane == lane) && is_work e.call) ≡ true =
        and_from _ _ (eq-eqb e.lane lane mine) (rw ask refl) in
        absurd (clash _ own off))
        (λ _ apart. last_other e j (lane / 2) apart ∙ here) refl

    by : ((e ≡ d) × (e.lane ≡ lane) × (is_work e.call ≡ true))
        ⊎ ((((e.lane == lane) && is_work e.call) ≡ false) × (last_work j lane ≡ Some d))
        → (last_work j lane ≡ Some d → last_line j (lane / 2) ≡ Some l)
        → last_line (e ∷ j) (lane / 2) ≡ Some l
    by (inl own) ih = subst (λ n. last_line (e ∷ j) (n / 2) ≡ Some l) own.1
        (last_now p e j l legal (subst (λ (x : Entry). order_line x.reply ≡ Some l) (sym own.0) is))
    by (inr before) ih = kept (launch_in e.reply) refl before.0 before.1 (ih before.1)

-- ---- the line that a call names is the last of its lane's berth

-- a line that a tap lane may report on was started, and hasn't Ended
pub record IsHeard (j : List Entry) (l : ℕ) : Type 0 where
  pub up : started j l ≡ true
  pub running : has_ended j l ≡ false

pub heard : (p : Plan) (j : List Entry) (lane l : ℕ) (how : HowEnded) → Lawful p j
    → lw.in_script p j lane (call.Ended l how) ≡ true → IsHeard j l
unfolding has_ended started
heard p j lane l how legal may =
    let e : Entry = record { lane = lane; call = call.Ended l how; reply = reply.Noted } in
    let next : Lawful p (e ∷ j) = (legal, record { scripted = may; told = refl; kept = refl }) in
    record {
      up = gi.ended_started p (e ∷ j) l next (or_left (l == l) _ (eq-eqb l l refl));
      running = ta.reported_running p e j l next (eq-eqb l l refl);
    }

heard_last : (p : Plan) (j : List Entry) (l w : ℕ) → Lawful p j → IsOfBerth j l w → IsHeard j l
    → last_line j w ≡ Some l
heard_last p j l w legal own h = elim (va.last_or_done p j l own.owner.0 own.owner.1 legal
    own.owner.2) [
      | inl last ↦ subst (λ n. last_line j n ≡ Some l) own.owner.3 last
      | inr done ↦ elim (or_cases (failed j l) _ done) [
        | inl fault ↦ absurd (clash (failed j l) fault (c.started_unfailed p j l legal h.up))
        | inr over ↦ absurd (clash (has_ended j l) (and_parts (has_ended j l) _ over).0 h.running)
      ]
    ]

owed_line : (p : Plan) (n : Kind) (d : Call) (x : Reply) (l : ℕ) → sc.is_owed p n d x ≡ true
    → call_line d ≡ Some l → order_line x ≡ Some l
owed_line p n (call.Launched i how) (reply.Launch m a b t) l h is = ap Some (eqb-true m i h) ∙ is
owed_line p n (call.Wrote i z how) (reply.Send m o a b t) l h is =
    ap Some (eqb-true m i (and_parts (m == i) _ h).0) ∙ is
owed_line p n (call.Wrote i z how) (reply.Cancel m o) l h is =
    ap Some (eqb-true m i (and_parts (m == i) _ h).0) ∙ is
owed_line p n (call.Killed i) (reply.Kill m y) l h is = ap Some (eqb-true m i h) ∙ is
owed_line p n (call.Launched i how) _ l h is = absurd (cc)
owed_line p n (call.Wrote i z how) _ l h is = absurd (cc)
owed_line p n (call.Killed i) _ l h is = absurd (cc)
owed_line p n (call.Claim a b t f) x l h is = absurd (cc)
owed_line p n (call.Look w) x l h is = absurd (cc)
owed_line p n _ x l h is = absurd (cc)

owed_last : (p : Plan) (j : List Entry) (lane l : ℕ) (d : Call) → Lawful p j → call_line d ≡ Some l
    → (z : Option Entry) → last_work j lane ≡ z → sc.is_owed_commit d z ≡ false
    → sc.is_owed_after p kind.Single d z ≡ true → last_line j (lane / 2) ≡ Some l
owed_last p j lane l d legal is None at none h = absurd (cc)
owed_last p j lane l d legal is (Some e) at none h =
    order_last p j lane l e legal at (owed_line p kind.Single d e.reply l
    (ow.either _ _ (λ y. clash _ y none) h) is)

owed_names : (p : Plan) (j : List Entry) (lane l : ℕ) (d : Call) → Lawful p j → call_line d ≡ Some l
    → ((z : Option Entry) → sc.is_owed_commit d z ≡ false)
    → ((lane % 2 == 0) && sc.is_owed_after p kind.Single d (last_work j lane)) ≡ true
    → last_line j (lane / 2) ≡ Some l
owed_names p j lane l d legal is none h = owed_last p j lane l d legal is (last_work j lane) refl
    (none (last_work j lane)) (and_parts (lane % 2 == 0) _ h).1

no_tick : (d : Call) {l : ℕ} → call_line d ≡ Some l → o.is_tick d ≡ false
no_tick call.Tick is = absurd (cc)
no_tick _ is = refl

pub names_last : (p : Plan) (j : List Entry) (lane l : ℕ) (d : Call) → Lawful p j
    → lw.in_script p j lane d ≡ true → call_line d ≡ Some l → last_line j (lane / 2) ≡ Some l
names_last p j lane l d legal may is = by d is may
    (script_own p j lane d may (lines_named p j legal)) (o.scripted p j lane d (no_tick d is) may)
  where
    by : (d : Call) → call_line d ≡ Some l → lw.in_script p j lane d ≡ true
        → OfBerth j (call_line d) (lane / 2)
        → (sc.is_owed_commit d (last_work j lane) ≡ true) ⊎
        (sc.allowed p kind.Single (lane % 2 == 0) (last_work j lane) d ≡ true)
        → last_line j (lane / 2) ≡ Some l
    by (call.Launched i how) is may own (inr h) = owed_names p j lane l
        (call.Launched i how) legal is (λ _. refl) h
    by (call.Wrote i n how) is may own (inr h) = owed_names p j lane l (call.Wrote i n how) legal is
        (λ _. refl) h
    by (call.Killed i) is may own (inr h) = owed_names p j lane l (call.Killed i) legal is
        (λ _. refl) h
    by (call.Answer i x) is may own h = heard_last p j i (lane / 2) legal own
        (heard p j lane i end.End legal may) ∙ is
    by (call.Ended i how) is may own h = heard_last p j i (lane / 2) legal own
        (heard p j lane i how legal may) ∙ is
    by (call.Launched i how) is may own (inl h) = absurd (cc)
    by (call.Wrote i n how) is may own (inl h) = absurd (cc)
    by (call.Killed i) is may own (inl h) = absurd (cc)
    by _ is may own h = absurd (cc)

-- ---- what is bound

-- where a line failed to launch, its attempt has ended, unless its action has a grant
pub failed_ends : (p : Plan) (j : List Entry) (l m : ℕ) (s : Attempt) → Lawful p j
    → launch_of j l ≡ Some (m, s) → failed j l ≡ true → (ended j s ≡ true)
    ⊎ (granted j s.action ≡ true)
unfolding failed
failed_ends p [] l m s legal at h = absurd (cc)
failed_ends p (e ∷ j) l m s legal at h = by (or_cases (fails l e.call) (failed j l) h)
    (q.launch_cases p e j l m s at) (λ a y. failed_ends p j l m s legal.0 a y)
  where
    undone : (how : Started) → (not (is_done how) && (l == l)) ≡ true → is_done how ≡ false
    undone how y = ru.not_true (is_done how) (and_parts (not (is_done how)) _ y).0

    ends_now : launch_of j l ≡ Some (m, s) → fails l e.call ≡ true
        → (ended (e ∷ j) s ≡ true) ⊎ (granted (e ∷ j) s.action ≡ true)
    ends_now before y =
        let x = c.fails_is l e.call y in
        let fault = undone x.0 (subst (λ (d : Call). fails l d ≡ true) x.1 y) in
        let exact = ex.launched_ends p e j l m x.0 s legal x.1 fault before s in
        by_bool (granted j s.action) (λ b. granted j s.action ≡ b
        → (ended (e ∷ j) s ≡ true) ⊎ (granted (e ∷ j) s.action ≡ true))
        (λ _ won. inr (granted_stays e j s.action won))
        (λ _ free. inl (exact ∙ or_right (ended j s) _ (and_from _ _ (same_attempt_refl s)
        (rw free refl)))) refl

    new_call : launch_in e.reply ≡ Some (l, s) → fails l e.call ≡ true → ⊥
    new_call is y = (let ask = c.launch_asks p j e.lane e.call e.reply (l, s)
        (v.entry_ruled p e j legal) is in clash (fails l e.call) y (rw ask refl))

    new_line : launch_in e.reply ≡ Some (l, s) → failed j l ≡ true → ⊥
    new_line is y = clash (failed j l) y (fresh p j l legal.0
        (subst (λ n. line_count j ≤ n) (sym (c.next_line p e j (l, s) legal is))
        (omega arith))).fail

    by : (fails l e.call ≡ true) ⊎ (failed j l ≡ true) → q.Launches p e j l m s
        → (launch_of j l ≡ Some (m, s) → failed j l ≡ true
        → (ended j s ≡ true) ⊎ (granted j s.action ≡ true))
        → (ended (e ∷ j) s ≡ true) ⊎ (granted (e ∷ j) s.action ≡ true)
    by (inl y) (q.Now is lane) ih = absurd (new_call is y)
    by (inr y) (q.Now is lane) ih = absurd (new_line is y)
    by (inl y) (q.Before before) ih = ends_now before y
    by (inr y) (q.Before before) ih = elim (ih before y) [
      | inl over ↦ inl
          (qu.ended_stays e j s over)
      | inr won ↦ inr (granted_stays e j s.action won)
    ]

below_count : (p : Plan) (j : List Entry) (l m : ℕ) (t : Attempt) → Lawful p j
    → launch_of j l ≡ Some (m, t) → l < line_count j
below_count p j l m t legal at =
    by_bool (nat_lt l (line_count j)) (λ b. nat_lt l (line_count j) ≡ b → l < line_count j)
    (λ _ on. ltb-true l (line_count j) on)
    (λ _ off. absurd (let le = ltb-false l (line_count j) off in
    let none = (fresh p j l legal le).launch in let both : None ≡ Some (m, t) = sym none ∙ at in
    cc)) refl

-- a line with a bound branch is its berth's last
pub bound_last : (p : Plan) (j : List Entry) (l w : ℕ) (t : Attempt) → Lawful p j → IsOfBerth j l w
    → bound p j l ≡ Some t → last_line j w ≡ Some l
bound_last p j l w t legal own at = by (va.last_or_done p j l own.owner.0 own.owner.1 legal
    own.owner.2)
  where
    is : IsBound p j l t
    is = bound_is p j l t at

    free : granted j t.action ≡ false
    free = (wanted_is p j t.action t.branch is.wish).ungranted

    over : has_ended j l ≡ true → ended j t ≡ true
    over h =
        let carried = of.bound_carried p j legal in
        v.over_ended j t free (v.IsLost l (carried.carrier l t at)
        (and_from _ _ h (or_left (not (answered j t)) (says_feed_fault (wrote j t))
        (rw (carried.unanswered l t at) refl))))

    by : (last_line j (own.owner.0 / 2) ≡ Some l) ⊎ (va.is_done_line j l ≡ true)
        → last_line j w ≡ Some l
    by (inl last) = subst (λ n. last_line j n ≡ Some l) own.owner.3 last
    by (inr done) = elim (or_cases (failed j l) _ done) [
      | inl fault ↦ elim (failed_ends p j l is.lane t legal is.launched fault) [
        | inl y ↦ absurd (clash (ended j t) y is.going)
        | inr y ↦ absurd (clash (granted j t.action) y free)
      ]
      | inr y ↦ absurd (clash (ended j t) (over (and_parts (has_ended j l) _ y).0) is.going)
    ]

pub bound_is_last : (p : Plan) (j : List Entry) (l m : ℕ) (t : Attempt) → Lawful p j
    → bound p j l ≡ Some t → launch_of j l ≡ Some (m, t) → last_line j (m / 2) ≡ Some l
bound_is_last p j l m t legal h at = bound_last p j l (m / 2) t legal
    (record { below = below_count p j l m t legal at; owner = (m, t, at, refl) }) h
