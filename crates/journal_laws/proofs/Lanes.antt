-- Orders are given to proxy lanes alone; a lane that owes the Killed of a line makes nothing else, so a line is ordered to be killed once.
use Rattle.std.proofs.Common.{◌≡◌, ℕ, ◌/◌, ◌%◌, ◌==◌, Bool, true, false, ◌&&◌, ◌||◌, not, List, [], ◌∷◌, Option, Some, None, ◌⊎◌, inl, inr, refl, sym, ap, subst, ◌∙◌, ℤ, arith}
use Rattle.std.specs.List.{filter, find}
use Rattle.std.specs.Ordering.{int_eq}
use Rattle.std.proofs.lemmas.Bool.{eqb-true, eq-eqb, and_parts, and_from, or_cases, or_left, or_right}
use Rattle.run_plan.specs.declared.plan.Kind.TheVariants as kind
use Rattle.run_plan.specs.declared.plan.Plan.{Plan}
use Rattle.run_plan.specs.declared.plan.Kind.{Kind}
use Rattle.exec_journal.specs.declared.attempt.Attempt.{Attempt}
use Rattle.exec_journal.specs.Entry.{Entry}
use Rattle.exec_journal.specs.declared.call.Call.{Call}
use Rattle.exec_journal.specs.declared.call.Call.TheVariants as call
use Rattle.exec_journal.specs.declared.call.Written.{Written}
use Rattle.exec_journal.specs.declared.call.Found.TheVariants as found
use Rattle.exec_journal.specs.declared.call.Wanted.{Wanted}
use Rattle.exec_journal.specs.declared.call.Wanted.TheVariants as look
use Rattle.run_plan.specs.declared.plan.Branch.{Branch}
use Rattle.exec_journal.specs.declared.reply.Why.{Why}
use Rattle.exec_journal.specs.declared.reply.Reply.{Reply}
use Rattle.exec_journal.specs.declared.reply.Reply.TheVariants as reply
use Rattle.exec_journal.specs.Entries.{Request, attempt_of, same_attempt, send_in, orders_kill, kills, send_of_entry}
use Rattle.exec_journal.specs.Words.{last_work, last_line, sends, sent_on, pending, is_pending, kill_ordered, was_killed, order_of, live, started, broke}
use Rattle.run_plan.specs.Groups.{is_single}
use Rattle.exec_journal.specs.Seated.{line_kind}
use Rattle.exec_journal.specs.Rules as r
use Rattle.exec_journal.specs.Lawful as lw
use Rattle.exec_journal.specs.Scripts as sc
use Rattle.exec_journal.specs.Lawful.{Lawful}
use Rattle.exec_journal.specs.Facts.{reply_line, IsOfBerth, OfBerth}
use Rattle.journal_laws.specs.Invariant.{NumberedAs, EachRequest}
use Rattle.journal_laws.specs.Steps.{KnownByNumber, KillsOnce}
use Rattle.exec_journal.proofs.Reasons as u
use Rattle.exec_journal.proofs.Ruled.{by_bool, not_true}
use Rattle.exec_journal.proofs.Lines.{last_line_own, last_work_own, WorkOwn, lines_named}
use Rattle.exec_journal.proofs.Begins.{begin_in_order, same_attempt_refl}
use Rattle.journal_laws.proofs.Owed as o
use Rattle.journal_laws.proofs.Owed.{is_work, is_kill, is_send}
use Rattle.journal_laws.proofs.Carried as k
use Rattle.journal_laws.proofs.Over as v
use Rattle.journal_laws.proofs.Claims as c
use Rattle.journal_laws.proofs.Claims.{clash, false_by}
use Rattle.journal_laws.proofs.Requests as q
use Rattle.journal_laws.proofs.Offered as of

-- ---- an Ask is made by a proxy lane

pub asks_even : (p : Plan) (e : Entry) (j : List Entry) → Lawful p (e ∷ j) → e.call ≡ call.Ask → ((e.lane % 2 == 0) ≡ true) × (sc.may_ask (last_work j e.lane) ≡ true)
asks_even p e j legal is = elim (o.scripted p j e.lane call.Ask refl (subst (λ (d : Call). lw.in_script p j e.lane d ≡ true) is legal.1.scripted)) [
  | inl owes ↦ absurd (cc)
  | inr may ↦ and_parts (e.lane % 2 == 0) _ may
]

-- a reply that is only given to an Ask
abbrev pub is_order : Reply → Bool
is_order (reply.Launch l a b t) = true
is_order (reply.Send l n a b t) = true
is_order (reply.Cancel l n) = true
is_order (reply.Gather l n a b t e v) = true
is_order (reply.Kill l y) = true
is_order _ = false

orders_ask : (p : Plan) (j : List Entry) (lane : ℕ) (d : Call) (x : Reply) → u.Ruled p j lane d x → is_order x ≡ true → d ≡ call.Ask
orders_ask p j lane d x (u.Quits l here run over) h = refl
orders_ask p j lane d x (u.KillsBroken l y here run broken over) h = refl
orders_ask p j lane d x (u.KillsUnwanted l here run one none unwanted over) h = refl
orders_ask p j lane d x (u.Gathers l n a b t e v next over) h = refl
orders_ask p j lane d x (u.Cancels l y here alive may which none) h = refl
orders_ask p j lane d x (u.Sends l t here alive next none) h = refl
orders_ask p j lane d x (u.Evicts l here alive empty free none) h = refl
orders_ask p j lane d x (u.Launches gr t vacant next none) h = refl
orders_ask p j lane d x _ h = absurd (cc)

pub order_asked : (p : Plan) (e : Entry) (j : List Entry) → Lawful p (e ∷ j) → is_order e.reply ≡ true → e.call ≡ call.Ask
order_asked p e j legal h = orders_ask p j e.lane e.call e.reply (v.entry_ruled p e j legal) h

-- the lane of an order is a proxy lane
pub newest_even : (p : Plan) (j : List Entry) (lane : ℕ) (d : Entry) → Lawful p j → last_work j lane ≡ Some d → is_order d.reply ≡ true → (lane % 2 == 0) ≡ true
unfolding last_work
newest_even p [] lane d legal h y = absurd (cc)
newest_even p (e ∷ j) lane d legal h y = by (o.newest_cases e j lane d h) (λ m. newest_even p j lane d legal.0 m y)
  where
    by : ((e ≡ d) × (e.lane ≡ lane) × (is_work e.call ≡ true)) ⊎ ((((e.lane == lane) && is_work e.call) ≡ false) × (last_work j lane ≡ Some d)) → (last_work j lane ≡ Some d → (lane % 2 == 0) ≡ true) → (lane % 2 == 0) ≡ true
    by (inl here) ih =
        let mine : is_order e.reply ≡ true = subst (λ (x : Entry). is_order x.reply ≡ true) (sym here.0) y in
        subst (λ n. (n % 2 == 0) ≡ true) here.1 (asks_even p e j legal (order_asked p e j legal mine)).0
    by (inr before) ih = ih before.1

pub one_proxy : (m n : ℕ) → (m % 2 == 0) ≡ true → (n % 2 == 0) ≡ true → m / 2 ≡ n / 2 → m ≡ n
one_proxy m n a b same = let x = eqb-true (m % 2) 0 a in let y = eqb-true (n % 2) 0 b in omega arith

-- the line that a lane's newest order names is its own
pub newest_own_line : (p : Plan) (j : List Entry) (lane l : ℕ) (d : Entry) → Lawful p j → last_work j lane ≡ Some d → reply_line d.reply ≡ Some l → IsOfBerth j l (lane / 2)
newest_own_line p j lane l d legal h is =
    let own : WorkOwn j (Some d) (lane / 2) = subst (λ (x : Option Entry). WorkOwn j x (lane / 2)) h (last_work_own lane j (lines_named p j legal)) in
    subst (λ (x : Option ℕ). OfBerth j x (lane / 2)) is own.1

pub berths_same : (j : List Entry) (l w z : ℕ) → IsOfBerth j l w → IsOfBerth j l z → w ≡ z
berths_same j l w z a b =
    let both : Some (a.owner.0, a.owner.1) ≡ Some (b.owner.0, b.owner.1) = sym a.owner.2 ∙ b.owner.2 in
    let pair : (a.owner.0, a.owner.1) ≡ (b.owner.0, b.owner.1) = cc in
    let n : a.owner.0 ≡ b.owner.0 = ap (λ (x : ℕ × Attempt). x.0) pair in
    sym a.owner.3 ∙ ap (λ x. x / 2) n ∙ b.owner.3

pub here_own : (p : Plan) (j : List Entry) (w l : ℕ) → Lawful p j → last_line j w ≡ Some l → IsOfBerth j l w
here_own p j w l legal h = subst (λ (x : Option ℕ). OfBerth j x w) h (last_line_own w j (lines_named p j legal))

-- ---- Killed answers Kill at once

kill_line : (l : ℕ) (x : Reply) → orders_kill l x ≡ true → (reply_line x ≡ Some l) × (is_order x ≡ true)
kill_line l (reply.Kill m y) h = (ap Some (eqb-true m l h), refl)
kill_line l _ h = absurd (cc)

commit_grants : (a : ℕ) (b : Branch) (c : Call) (x : Reply) → sc.is_commit_of a b c x ≡ true → x ≡ reply.Granted
commit_grants a b (call.Claim m n t (found.Files f)) reply.Granted h = refl
commit_grants a b _ _ h = absurd (cc)

no_look : (p : Plan) (w : Wanted) (m : ℕ) (y : Why) → sc.may_look p w (reply.Kill m y) ≡ false
no_look p (look.Made a b) m y = refl
no_look p (look.Answered a b t) m y = refl

-- a proxy lane that was ordered to kill a line makes its Killed next
after_kill : (p : Plan) (n : Kind) (l : ℕ) (d : Call) (m : ℕ) (y : Why) (lane : ℕ) (c : Call) → (m == l) ≡ true
    → sc.allowed p n true (Some (record { lane = lane; call = c; reply = reply.Kill m y })) d ≡ true → is_work d ≡ true → kills l d ≡ true
after_kill p n l (call.Killed i) m y lane c at h w = elim (or_cases (m == i) false h) [ inl a ↦ eq-eqb i l (sym (eqb-true m i a) ∙ eqb-true m l at) | inr b ↦ absurd (cc) ]
after_kill p n l (call.Committed a b how) m y lane c at h w = absurd (let e = commit_grants a b c (reply.Kill m y) h in cc)
after_kill p n l (call.Look x) m y lane c at h w = absurd (cc)
after_kill p n l call.Ask m y lane c at h w = absurd (cc)
after_kill p n l call.Take m y lane c at h w = absurd (cc)
after_kill p n l (call.Answer i a) m y lane c at h w = absurd (cc)
after_kill p n l (call.Ended i how) m y lane c at h w = absurd (cc)
after_kill p n l call.Halt m y lane c at h w = absurd (cc)
after_kill p n l call.Tick m y lane c at h w = absurd (cc)
after_kill p n l (call.Launched i how) m y lane c at h w = absurd (cc)
after_kill p n l (call.Wrote i o how) m y lane c at h w = absurd (cc)
after_kill p n l (call.Claim a b t f) m y lane c at h w = absurd (cc)

kill_entry : (p : Plan) (n : Kind) (l : ℕ) (d : Call) (e : Entry) → orders_kill l e.reply ≡ true → sc.allowed p n true (Some e) d ≡ true → is_work d ≡ true → kills l d ≡ true
kill_entry p n l d e h may w = by e.reply refl h
  where
    by : (x : Reply) → e.reply ≡ x → orders_kill l x ≡ true → kills l d ≡ true
    by (reply.Kill m y) is at = after_kill p n l d m y e.lane e.call at (subst (λ (x : Reply). sc.allowed p n true (Some (record { lane = e.lane; call = e.call; reply = x })) d ≡ true) is may) w
    by _ is at = absurd (cc)

no_commit_of_kill : (l : ℕ) (d : Call) (e : Entry) → orders_kill l e.reply ≡ true → sc.is_owed_commit d (Some e) ≡ true → ⊥
no_commit_of_kill l (call.Committed a b how) e h g = (let x = commit_grants a b e.call e.reply g in let n : orders_kill l reply.Granted ≡ true = subst (λ (y : Reply). orders_kill l y ≡ true) x h in cc)
no_commit_of_kill l call.Ask e h g = cc
no_commit_of_kill l call.Take e h g = cc
no_commit_of_kill l call.Halt e h g = cc
no_commit_of_kill l call.Tick e h g = cc
no_commit_of_kill l (call.Look x) e h g = cc
no_commit_of_kill l (call.Launched i how) e h g = cc
no_commit_of_kill l (call.Wrote i n how) e h g = cc
no_commit_of_kill l (call.Claim a b t f) e h g = cc
no_commit_of_kill l (call.Killed i) e h g = cc
no_commit_of_kill l (call.Answer i a) e h g = cc
no_commit_of_kill l (call.Ended i how) e h g = cc

-- after a Kill a lane may not ask
kill_asks : (l : ℕ) (e : Entry) → orders_kill l e.reply ≡ true → sc.may_ask (Some e) ≡ true → ⊥
kill_asks l e h ask = by e.reply h ask
  where
    by : (x : Reply) → orders_kill l x ≡ true → sc.may_ask_after e.call x ≡ true → ⊥
    by (reply.Kill m y) a b = cc
    by _ a b = cc

-- the lane's next work after a Kill
pub kills_next : (p : Plan) (e : Entry) (j : List Entry) (l : ℕ) (d : Entry) → Lawful p (e ∷ j) → last_work j e.lane ≡ Some d → is_kill l d ≡ true → is_work e.call ≡ true → kills l e.call ≡ true
kills_next p e j l d legal at h w =
    let even = newest_even p j e.lane d legal.0 at (kill_line l d.reply h).1 in
    elim (o.scripts p j e.lane e.call legal.1.scripted) [
      | o.Owes owes ↦ absurd (no_commit_of_kill l e.call d h (subst (λ (x : Option Entry). sc.is_owed_commit e.call x ≡ true) at owes))
      | o.Ticks is proxy ask ↦ absurd (kill_asks l d h (subst (λ (x : Option Entry). sc.may_ask x ≡ true) at ask))
      | o.May may ↦ kill_entry p kind.Single l e.call d h (subst (λ b. sc.allowed p kind.Single b (Some d) e.call ≡ true) even (subst (λ (x : Option Entry). sc.allowed p kind.Single (e.lane % 2 == 0) x e.call ≡ true) at may)) w
    ]

-- a line that was ordered to be killed was killed, or its lane still owes that
pub data KillIs (j : List Entry) (l : ℕ) : Type 0 where
  Made : was_killed j l ≡ true → KillIs j l
  Owes : (lane : ℕ) (d : Entry) → last_work j lane ≡ Some d → is_kill l d ≡ true → KillIs j l

killed_later : (e : Entry) (j : List Entry) (l : ℕ) → was_killed j l ≡ true → was_killed (e ∷ j) l ≡ true
unfolding was_killed
killed_later e j l h = or_right (kills l e.call) _ h

killed_here : (e : Entry) (j : List Entry) (l : ℕ) → kills l e.call ≡ true → was_killed (e ∷ j) l ≡ true
unfolding was_killed
killed_here e j l h = or_left (kills l e.call) _ h

pub kill_is : (p : Plan) (j : List Entry) (l : ℕ) → Lawful p j → kill_ordered j l ≡ true → KillIs j l
unfolding kill_ordered
kill_is p [] l legal h = absurd (cc)
kill_is p (e ∷ j) l legal h = by (or_cases (is_kill l e) (kill_ordered j l) h) (λ y. kill_is p j l legal.0 y)
  where
    more : KillIs j l → KillIs (e ∷ j) l
    more (Made y) = Made (killed_later e j l y)
    more (Owes lane d at y) =
        by_bool ((e.lane == lane) && is_work e.call) (λ b. ((e.lane == lane) && is_work e.call) ≡ b → KillIs (e ∷ j) l)
        (λ _ own. let parts = and_parts (e.lane == lane) _ own in
        Made (killed_here e j l (kills_next p e j l d legal (subst (λ n. last_work j n ≡ Some d) (sym (eqb-true e.lane lane parts.0)) at) y parts.1)))
        (λ _ off. Owes lane d (o.newest_other e j lane off ∙ at) y) refl

    by : (is_kill l e ≡ true) ⊎ (kill_ordered j l ≡ true) → (kill_ordered j l ≡ true → KillIs j l) → KillIs (e ∷ j) l
    by (inl here) ih =
        let ask = order_asked p e j legal (kill_line l e.reply here).1 in
        Owes e.lane e (o.newest_own e j (rw ask refl)) here
    by (inr before) ih = more (ih before)

-- a lane that asks owes no Killed: so a line of its berth that was ordered to be killed was killed
pub asked_killed : (p : Plan) (e : Entry) (j : List Entry) (l : ℕ) → Lawful p (e ∷ j) → e.call ≡ call.Ask → IsOfBerth j l (e.lane / 2) → kill_ordered j l ≡ true → was_killed j l ≡ true
asked_killed p e j l legal ask own h = by (kill_is p j l legal.0 h)
  where
    by : KillIs j l → was_killed j l ≡ true
    by (Made y) = y
    by (Owes lane d at y) =
        let line = kill_line l d.reply y in
        let theirs = newest_own_line p j lane l d legal.0 at line.0 in
        let even = newest_even p j lane d legal.0 at line.1 in
        let may = asks_even p e j legal ask in
        let same = one_proxy lane e.lane even may.0 (berths_same j l (lane / 2) (e.lane / 2) theirs own) in
        let mine : last_work j e.lane ≡ Some d = subst (λ n. last_work j n ≡ Some d) same at in
        let works : is_work e.call ≡ true = rw ask refl in
        let next : kills l e.call ≡ true = kills_next p e j l d legal mine y works in
        let none : kills l e.call ≡ false = rw ask refl in
        absurd (clash (kills l e.call) next none)

runs_unkilled : (j : List Entry) (l : ℕ) → r.runs j l ≡ true → was_killed j l ≡ false
runs_unkilled j l h = not_true _ (and_parts (started j l) _ h).1

live_runs : (j : List Entry) (l : ℕ) → live j l ≡ true → r.runs j l ≡ true
unfolding live
live_runs j l h =
    let up = and_parts (started j l) _ h in and_from _ _ up.0 (and_parts (not (broke j l)) _ up.1).1

kill_runs : (p : Plan) (j : List Entry) (lane l : ℕ) (d : Call) (x : Reply) → u.Ruled p j lane d x → orders_kill l x ≡ true → (last_line j (lane / 2) ≡ Some l) × (r.runs j l ≡ true)
kill_runs p j lane l d x (u.Quits i here run over) h = let n = eqb-true i l h in (subst (λ m. last_line j (lane / 2) ≡ Some m) n here, subst (λ m. r.runs j m ≡ true) n run)
kill_runs p j lane l d x (u.KillsBroken i y here run broken over) h = let n = eqb-true i l h in (subst (λ m. last_line j (lane / 2) ≡ Some m) n here, subst (λ m. r.runs j m ≡ true) n run)
kill_runs p j lane l d x (u.KillsUnwanted i here run one none unwanted over) h = let n = eqb-true i l h in (subst (λ m. last_line j (lane / 2) ≡ Some m) n here, subst (λ m. r.runs j m ≡ true) n run)
kill_runs p j lane l d x (u.Evicts i here alive empty free none) h = let n = eqb-true i l h in (subst (λ m. last_line j (lane / 2) ≡ Some m) n here, subst (λ m. r.runs j m ≡ true) n (live_runs j i alive))
kill_runs p j lane l d x _ h = absurd (cc)

-- a line is ordered to be killed once, while it runs
pub kills_once : (p : Plan) (e : Entry) (j : List Entry) (l : ℕ) → Lawful p (e ∷ j) → orders_kill l e.reply ≡ true → KillsOnce j e l
kills_once p e j l legal h =
    let k = kill_runs p j e.lane l e.call e.reply (v.entry_ruled p e j legal) h in
    let ask = order_asked p e j legal (kill_line l e.reply h).1 in
    record {
      here = k.0;
      running = k.1;
      first = false_by _ (λ old. clash (was_killed j l) (asked_killed p e j l legal ask (here_own p j (e.lane / 2) l legal.0 k.0) old) (runs_unkilled j l k.1));
    }

-- nothing is sent to a line that was ordered to be killed
pub sends_unordered : (p : Plan) (e : Entry) (j : List Entry) (x : Request) → Lawful p (e ∷ j) → send_in e.reply ≡ Some x → kill_ordered j x.line ≡ false
unfolding live
sends_unordered p e j x legal h =
    let to = q.sends_to p j e.lane x.line e.call e.reply x (v.entry_ruled p e j legal) h refl in
    let ask = c.asks p j e.lane e.call e.reply x (v.entry_ruled p e j legal) h in
    let alive : was_killed j x.line ≡ false = not_true _ (and_parts (not (broke j x.line)) _ (and_parts (started j x.line) _ to.up).1).1 in
    false_by _ (λ old. clash (was_killed j x.line) (asked_killed p e j x.line legal ask (here_own p j (e.lane / 2) x.line legal.0 to.here) old) alive)

-- ---- the request that a Wrote is about

send_line : (x : Reply) (y : Request) → send_in x ≡ Some y → (reply_line x ≡ Some y.line) × (is_order x ≡ true)
send_line (reply.Send l n a b t) y h = let e : record { line = l; number = n; attempt = attempt_of a b t } ≡ y = cc in (ap (λ (z : Request). Some z.line) e, refl)
send_line _ y h = absurd (cc)

-- it is the last that was sent on its line
pub newest_head : (p : Plan) (j : List Entry) (lane : ℕ) (d : Entry) (x : Request) → Lawful p j → last_work j lane ≡ Some d → send_in d.reply ≡ Some x → r.head (sends j x.line) ≡ Some x
unfolding last_work
newest_head p [] lane d x legal h y = absurd (cc)
newest_head p (e ∷ j) lane d x legal h y = by (o.newest_cases e j lane d h) (λ m. newest_head p j lane d x legal.0 m y)
  where
    send_own : (z : Reply) → send_in z ≡ Some x → sent_on x.line z ≡ Some x
    send_own (reply.Send l n a b t) g = (let e : record { line = l; number = n; attempt = attempt_of a b t } ≡ x = cc in subst (λ (w : Request). sent_on w.line (reply.Send l n a b t) ≡ Some w) e (rw (eq-eqb l l refl) refl))
    send_own _ g = absurd (cc)

    quiet : (z : Option Request) → sent_on x.line e.reply ≡ z → last_work j lane ≡ Some d → (((e.lane == lane) && is_work e.call) ≡ false) → r.head (sends j x.line) ≡ Some x → r.head (sends (e ∷ j) x.line) ≡ Some x
    quiet None is at off ih = ap r.head (q.sends_same e j x.line is) ∙ ih
    quiet (Some w) is at off ih =
        let s = q.sent_on_is x.line e.reply w is in
        let ruled = v.entry_ruled p e j legal in
        let to = q.sends_to p j e.lane x.line e.call e.reply w ruled s.0 s.1 in
        let line = send_line d.reply x y in
        let theirs = newest_own_line p j lane x.line d legal.0 at line.0 in
        let even = newest_even p j lane d legal.0 at line.1 in
        let ask = c.asks p j e.lane e.call e.reply w ruled s.0 in
        let may = asks_even p e j legal ask in
        let same = one_proxy lane e.lane even may.0 (berths_same j x.line (lane / 2) (e.lane / 2) theirs (here_own p j (e.lane / 2) x.line legal.0 to.here)) in
        let own : ((e.lane == lane) && is_work e.call) ≡ true = and_from _ _ (eq-eqb e.lane lane (sym same)) (rw ask refl) in
        absurd (clash ((e.lane == lane) && is_work e.call) own off)

    by : ((e ≡ d) × (e.lane ≡ lane) × (is_work e.call ≡ true)) ⊎ ((((e.lane == lane) && is_work e.call) ≡ false) × (last_work j lane ≡ Some d))
        → (last_work j lane ≡ Some d → r.head (sends j x.line) ≡ Some x) → r.head (sends (e ∷ j) x.line) ≡ Some x
    by (inl here) ih =
        let mine : send_in e.reply ≡ Some x = subst (λ (w : Entry). send_in w.reply ≡ Some x) (sym here.0) y in
        ap r.head (q.sends_grow e j x.line x (send_own e.reply mine))
    by (inr before) ih = quiet (sent_on x.line e.reply) refl before.1 before.0 (ih before.1)

-- a Wrote after a Send names its line and number
pub record WritesRequest (j : List Entry) (lane l : ℕ) (n : ℤ) (x : Request) : Type 0 where
  pub order : Entry
  pub newest : last_work j lane ≡ Some order
  pub sends_it : send_in order.reply ≡ Some x
  pub line : x.line ≡ l
  pub number : int_eq x.number n ≡ true

wrote_names : (p : Plan) (i : Kind) (l : ℕ) (n : ℤ) (how : Written) (e : Entry) (x : Request) → send_in e.reply ≡ Some x → sc.is_owed_after p i (call.Wrote l n how) (Some e) ≡ true → (x.line ≡ l) × (int_eq x.number n ≡ true)
wrote_names p i l n how e x h g = by e.reply h g
  where
    by : (z : Reply) → send_in z ≡ Some x → (sc.is_owed p i (call.Wrote l n how) z || false) ≡ true → (x.line ≡ l) × (int_eq x.number n ≡ true)
    by (reply.Send m w a b t) y k =
        let s : record { line = m; number = w; attempt = attempt_of a b t } ≡ x = cc in
        elim (or_cases ((m == l) && int_eq w n) false k) [
          | inl yes_so ↦ (let parts = and_parts (m == l) _ yes_so in subst (λ (v : Request). (v.line ≡ l) × (int_eq v.number n ≡ true)) s (eqb-true m l parts.0, parts.1))
          | inr none ↦ absurd (cc)
        ]
    by _ y k = absurd (cc)

pub writes_request : (p : Plan) (e : Entry) (j : List Entry) (l : ℕ) (n : ℤ) (how : Written) (x : Request) → Lawful p (e ∷ j) → e.call ≡ call.Wrote l n how → order_of j e.lane ≡ Some x → WritesRequest j e.lane l n x
writes_request p e j l n how x legal is h = by (last_work j e.lane) refl h (o.scripted p j e.lane (call.Wrote l n how) refl (subst (λ (d : Call). lw.in_script p j e.lane d ≡ true) is legal.1.scripted))
  where
    by : (z : Option Entry) → last_work j e.lane ≡ z → send_of_entry z ≡ Some x
        → (sc.is_owed_commit (call.Wrote l n how) (last_work j e.lane) ≡ true) ⊎ (sc.allowed p kind.Single (e.lane % 2 == 0) (last_work j e.lane) (call.Wrote l n how) ≡ true) → WritesRequest j e.lane l n x
    by None at g s = absurd (cc)
    by (Some d) at g (inl a) = absurd (cc)
    by (Some d) at g (inr b) =
        let owed = (and_parts (e.lane % 2 == 0) _ b).1 in
        let named = wrote_names p kind.Single l n how d x g (subst (λ (z : Option Entry). sc.is_owed_after p kind.Single (call.Wrote l n how) z ≡ true) at owed) in
        record { order = d; newest = at; sends_it = g; line = named.0; number = named.1 }

find_head : (test : Request → Bool) (qs : List Request) (x : Request) → r.head qs ≡ Some x → test x ≡ true → find test qs ≡ Some x
find_head test [] x h y = absurd (cc)
find_head test (w ∷ qs) x h y = let e : w ≡ x = cc in rw (subst (λ z. test z ≡ true) (sym e) y) h

-- so its request is known by them
pub known_by_write : (p : Plan) (e : Entry) (j : List Entry) (l : ℕ) (n : ℤ) (how : Written) (x : Request) → Lawful p (e ∷ j) → e.call ≡ call.Wrote l n how → order_of j e.lane ≡ Some x → KnownByNumber j l n x.attempt
unfolding pending
known_by_write p e j l n how x legal is h =
    let it = writes_request p e j l n how x legal is h in
    let head : r.head (sends j l) ≡ Some x = subst (λ m. r.head (sends j m) ≡ Some x) it.line (newest_head p j e.lane it.order x legal.0 it.newest it.sends_it) in
    let line = send_line it.order.reply x it.sends_it in
    let own : IsOfBerth j l (e.lane / 2) = subst (λ m. IsOfBerth j m (e.lane / 2)) it.line (newest_own_line p j e.lane x.line it.order legal.0 it.newest line.0) in
    let facts = q.line_facts p j l (e.lane / 2) legal.0 own in
    let on = of.all_head_of (k.IsSentOn j l) (sends j l) x (k.sends_on j l (begin_in_order p j legal.0)) head in
    record {
      here = by_bool (is_single (line_kind p j l)) (λ b. is_single (line_kind p j l) ≡ b → EachRequest (λ w. same_attempt x.attempt w.attempt ≡ int_eq w.number n) (filter (is_pending j) (sends j l)))
          (λ _ one. of.only_head (is_pending j) (sends j l) x _ (facts.closed one) head (same_attempt_refl x.attempt ∙ sym it.number))
          (λ _ many. of.each_filter _ (is_pending j) (sends j l) (of.by_number (sends j l) n x (subst (λ b. NumberedAs b (sends j l)) many facts.numbers) (of.distinct p j l legal.0) (find_head (λ y. int_eq y.number n) (sends j l) x head it.number)))
          refl;
      elsewhere = of.other_lines p j l x.attempt legal.0 on.carrier;
    }
