-- Which one attempt ends with a fault: of a Launched, of a Wrote, of a Claim that is refused, and
-- of a FeedFault after its line has Ended.
use Rattle.std.proofs.Common.{◌≡◌, ℕ, ◌/◌, ◌%◌, ◌≤◌, ◌==◌, Bool, true, false, ◌&&◌, ◌||◌, not, cond, List, [], ◌∷◌, Option, Some, None, is_some, option_map, inl, inr, refl, sym, ap, subst, ◌∙◌, ℤ, arith}
use Rattle.std.proofs.lemmas.Bool.{eqb-true, eq-eqb, and_parts}
use Rattle.std.specs.Ordering.{int_eq}
use Rattle.run_plan.specs.declared.plan.Kind.TheVariants as kind
use Rattle.run_plan.specs.declared.plan.Branch.{Branch}
use Rattle.run_plan.specs.declared.plan.Plan.{Plan}
use Rattle.exec_journal.specs.Lawful as lw
use Rattle.exec_journal.specs.declared.attempt.Attempt.{Attempt}
use Rattle.exec_journal.specs.Entry.{Entry}
use Rattle.exec_journal.specs.declared.call.Call.{Call}
use Rattle.exec_journal.specs.declared.call.Call.TheVariants as call
use Rattle.exec_journal.specs.declared.call.CommitEnd.{CommitEnd}
use Rattle.exec_journal.specs.declared.call.Found.{Found}
use Rattle.exec_journal.specs.declared.call.Started.{Started}
use Rattle.exec_journal.specs.declared.call.Started.TheVariants as start
use Rattle.exec_journal.specs.declared.call.Written.{Written}
use Rattle.exec_journal.specs.declared.call.Written.TheVariants as write
use Rattle.exec_journal.specs.declared.reply.Reply.{Reply}
use Rattle.exec_journal.specs.declared.reply.Reply.TheVariants as reply
use Rattle.exec_journal.specs.History.{ever}
use Rattle.exec_journal.specs.Entries.{Request, attempt_of, same_attempt, is_done, is_unwritten, launch_in, send_in, committed_in, granted_in, refused_in, send_of_entry}
use Rattle.exec_journal.specs.Words.{last_work, order_of, launch_of, sends, has_ended, was_sent, granted}
use Rattle.exec_journal.specs.Attempts.{begun_in, line_of, fault_at, start_cause, ended}
use Rattle.exec_journal.specs.Settled.{bound}
use Rattle.run_plan.specs.Groups.{kind_of}
use Rattle.exec_journal.specs.Rules as r
use Rattle.exec_journal.specs.Scripts as sc
use Rattle.exec_journal.specs.Lawful.{Lawful}
use Rattle.exec_journal.specs.Facts.{begun, reply_line}
use Rattle.exec_journal.proofs.Ruled.{by_bool}
use Rattle.exec_journal.proofs.Begins.{begin_in_order, attempts_in_order, same_attempt_refl, same_attempt_eq, launched_begun, bound_is}
use Rattle.journal_laws.proofs.Owed as o
use Rattle.journal_laws.proofs.Owed.{is_send}
use Rattle.journal_laws.proofs.Carried as k
use Rattle.journal_laws.proofs.Over as v
use Rattle.journal_laws.proofs.Requests as q
use Rattle.journal_laws.proofs.Claims as c
use Rattle.journal_laws.proofs.Claims.{clash, false_by}
use Rattle.journal_laws.proofs.Granted as g
use Rattle.journal_laws.proofs.Firm as f
use Rattle.journal_laws.proofs.Known as kn
use Rattle.journal_laws.proofs.Endings as en
use Rattle.journal_laws.proofs.Exactly as ex
use Rattle.journal_laws.proofs.Offered as of
use Rattle.journal_laws.proofs.Lanes as la
use Rattle.call_laws.specs.Moments.{IsBegun, EndsJust}

-- ---- what was begun

pub begun_is : (p : Plan) (j : List Entry) (t : Attempt) → Lawful p j → 1 ≤ p.limit
    → begun j t ≡ true → IsBegun p j t
begun_is p j t legal least h =
    let order = attempts_in_order p j legal in
    let number = order.numbered t h in
    let limit = order.limited t.action t.branch least in
    let has = f.going_ready_at p j t legal h in
    record {
      latest = λ going. (g.going_is p j t legal h going).latest;
      least = number.0;
      most = (let a = number.1 in omega arith);
      action = has.action;
      place = has.place;
      used = rw has.runs refl;
    }

-- ---- either way round

pub same_sym : (s t : Attempt) → same_attempt s t ≡ same_attempt t s
same_sym s t =
    by_bool (same_attempt s t) (λ b. same_attempt s t ≡ b → b ≡ same_attempt t s)
    (λ _ on. sym (subst (λ (x : Attempt). same_attempt x s ≡ true) (same_attempt_eq s t on)
    (same_attempt_refl s)))
    (λ _ off. sym (false_by _ (λ on. clash _ (subst (λ (x : Attempt). same_attempt x t ≡ true)
    (same_attempt_eq t s on) (same_attempt_refl t)) off))) refl

-- the entry is answered Noted, or refuses: it begins, grants and commits nothing
ends_just : (p : Plan) (e : Entry) (j : List Entry) (t : Attempt) → Lawful p (e ∷ j) → 1 ≤ p.limit
    → begun j t ≡ true → begun_in e.reply ≡ None → granted_in e.call e.reply ≡ None
    → ((a : ℕ) (b : Branch) (how : CommitEnd) → committed_in a b e.call ≡ Some how → ⊥)
    → ((u : Attempt) → ended (e ∷ j) u ≡ (ended j u ||
    (same_attempt t u && not (granted j t.action)))) → EndsJust p j e t
ends_just p e j t legal least h quiet free uncommitted this = record {
  this = λ u. this u ∙ ap (λ b. ended j u || (b && not (granted j t.action))) (same_sym t u);
  none_begins = λ a b. kn.none_begins e j a b quiet;
  grant = λ a. en.grants_same e j a free;
  commit = λ a b. en.commits_same e j a b (uncommitted a b);
  begun = begun_is p j t legal.0 least h;
}

-- ---- a Launched with a fault

launched_noted : (p : Plan) (e : Entry) (j : List Entry) (l : ℕ) (how : Started) → Lawful p (e ∷ j)
    → e.call ≡ call.Launched l how → e.reply ≡ reply.Noted
launched_noted p e j l how legal is = subst (λ (d : Call). lw.Told p j e.lane d e.reply) is legal.1.told

pub launched_just : (p : Plan) (e : Entry) (j : List Entry) (l m : ℕ) (how : Started) (t : Attempt)
    → Lawful p (e ∷ j) → 1 ≤ p.limit → e.call ≡ call.Launched l how → is_done how ≡ false
    → launch_of j l ≡ Some (m, t) → EndsJust p j e t
launched_just p e j l m how t legal least is fault at =
    let noted = launched_noted p e j l how legal is in
    ends_just p e j t legal least (launched_begun j l m t at) (rw noted refl) (rw is refl)
    (λ a b z h. uncommitted a b z (subst (λ (d : Call). committed_in a b d ≡ Some z) is h))
    (λ u. ex.launched_ends p e j l m how t legal is fault at u)
  where
    uncommitted : (a : ℕ) (b : Branch) (z : CommitEnd)
        → committed_in a b (call.Launched l how) ≡ Some z → ⊥
    uncommitted a b z h = cc

-- a line is launched by a proxy lane
pub launch_even : (p : Plan) (j : List Entry) (l m : ℕ) (t : Attempt) → Lawful p j
    → launch_of j l ≡ Some (m, t) → (m % 2 == 0) ≡ true
unfolding launch_of
launch_even p [] l m t legal h = absurd (cc)
launch_even p (e ∷ j) l m t legal h = by (q.launch_cases p e j l m t h)
    (λ y. launch_even p j l m t legal.0 y)
  where
    by : q.Launches p e j l m t → (launch_of j l ≡ Some (m, t) → (m % 2 == 0) ≡ true)
        → (m % 2 == 0) ≡ true
    by (q.Now is lane) ih = subst (λ n. (n % 2 == 0) ≡ true) lane
        (la.asks_even p e j legal (c.launch_asks p j e.lane e.call e.reply (l, t)
        (v.entry_ruled p e j legal) is)).0
    by (q.Before at) ih = ih at

launch_line : (l : ℕ) (t : Attempt) (x : Reply) → launch_in x ≡ Some (l, t)
    → (reply_line x ≡ Some l) × (la.is_order x ≡ true)
launch_line l t (reply.Launch i a b z) h = (
  ap (λ (y : Option (ℕ × Attempt)). option_map
      (λ w. w.0) y) h,
  refl,
)
launch_line l t _ h = absurd (cc)

launch_pair : (j : List Entry) (l n m : ℕ) (s t : Attempt) → launch_of j l ≡ Some (n, s)
    → launch_of j l ≡ Some (m, t) → n ≡ m
launch_pair j l n m s t a b =
    let both : Some (n, s) ≡ Some (m, t) = sym a ∙ b in
    let pair : (n, s) ≡ (m, t) = cc in
    ap (λ (x : ℕ × Attempt). x.0) pair

-- the attempt that the Launch of a lane's newest work ordered is that of the line
pub newest_launched : (p : Plan) (j : List Entry) (lane l : ℕ) (t : Attempt) (d : Entry) → Lawful p j
    → last_work j lane ≡ Some d → launch_in d.reply ≡ Some (l, t) → launch_of j l ≡ Some (lane, t)
newest_launched p j lane l t d legal newest is =
    let on = c.newest_launch p j lane l t d legal newest is in
    let x = launch_line l t d.reply is in
    let own = la.newest_own_line p j lane l d legal newest x.0 in
    let one = launch_pair j l on.lane own.owner.0 t own.owner.1 on.is own.owner.2 in
    let same = la.one_proxy on.lane lane (launch_even p j l on.lane t legal on.is)
    (la.newest_even p j lane d legal newest x.1) (ap (λ i. i / 2) one ∙ own.owner.3) in
    subst (λ i. launch_of j l ≡ Some (i, t)) same on.is

pub record IsLaunchOrder (j : List Entry) (lane l : ℕ) : Type 0 where
  pub order : Entry
  pub attempt : Attempt
  pub newest : last_work j lane ≡ Some order
  pub launch : launch_in order.reply ≡ Some (l, attempt)
  pub launched : launch_of j l ≡ Some (lane, attempt)

-- a Launched answers that
pub launched_order : (p : Plan) (j : List Entry) (lane l : ℕ) (how : Started) → Lawful p j
    → lw.in_script p j lane (call.Launched l how) ≡ true → IsLaunchOrder j lane l
launched_order p j lane l how legal may =
    let answer = o.launched_answers p j lane l how may in
    let launch = c.launches_line_is l answer.order.reply answer.fits in
    record {
      order = answer.order;
      attempt = launch.0;
      newest = answer.newest;
      launch = launch.1;
      launched = newest_launched p j lane l launch.0 answer.order legal answer.newest launch.1;
    }

pub launch_fault : (e : Entry) (j : List Entry) (l : ℕ) (how : Started) (d : Entry) (s t : Attempt)
    → e.call ≡ call.Launched l how → last_work j e.lane ≡ Some d → launch_in d.reply ≡ Some (l, s)
    → fault_at t j e ≡ cond (same_attempt s t) (start_cause how) None
launch_fault e j l how d s t is newest launch = rw (is, newest, launch) refl

-- of what is bound, it names a fault of what is bound to its own line
pub are_faulted : (p : Plan) (e : Entry) (j : List Entry) (l : ℕ) (how : Started) → Lawful p (e ∷ j)
    → e.call ≡ call.Launched l how → is_done how ≡ false
    → (m : ℕ) (t : Attempt) → bound p j m ≡ Some t → (l == m) ≡ is_some (fault_at t j e)
are_faulted p e j l how legal is fault = λ m t at. by m t at
  where
    order : IsLaunchOrder j e.lane l
    order = launched_order p j e.lane l how legal.0 (subst
        (λ (d : Call). lw.in_script p j e.lane d ≡ true) is legal.1.scripted)

    causes : (z : Started) → is_done z ≡ false → is_some (start_cause z) ≡ true
    causes start.Done h = absurd (cc)
    causes start.RoomFault h = refl
    causes start.LaunchFault h = refl

    either : (b : Bool) → is_some (cond b (start_cause how) None) ≡ b
    either true = causes how fault
    either false = refl

    fault_is : (t : Attempt) → fault_at t j e ≡ cond (same_attempt order.attempt t)
        (start_cause how) None
    fault_is t = launch_fault e j l how order.order order.attempt t is order.newest order.launch

    by : (m : ℕ) (t : Attempt) → bound p j m ≡ Some t → (l == m) ≡ is_some (fault_at t j e)
    by m t at =
        let b = bound_is p j m t at in
        sides m t b.lane b.launched ∙ sym (ap is_some (fault_is t)
        ∙ either (same_attempt order.attempt t))
      where
        sides : (m : ℕ) (t : Attempt) (n : ℕ) → launch_of j m ≡ Some (n, t)
            → (l == m) ≡ same_attempt order.attempt t
        sides m t n on =
            by_bool (l == m) (λ b. (l == m) ≡ b → b ≡ same_attempt order.attempt t)
            (λ _ same. let here : launch_of j l ≡ Some (n, t) =
            subst (λ i. launch_of j i ≡ Some (n, t)) (sym (eqb-true l m same)) on in
            let both : Some (e.lane, order.attempt) ≡ Some (n, t) = sym order.launched ∙ here in
            let pair : (e.lane, order.attempt) ≡ (n, t) = cc in
            sym (subst (λ (x : Attempt). same_attempt order.attempt x ≡ true)
            (ap (λ (x : ℕ × Attempt). x.1) pair) (same_attempt_refl order.attempt)))
            (λ _ apart. sym (false_by _ (λ same.
            let are = k.are_carried j (begin_in_order p j legal.0) in
            let there : line_of j t ≡ Some l = subst (λ (x : Attempt). line_of j x ≡ Some l)
            (same_attempt_eq order.attempt t same) (are.launched l e.lane order.attempt
            order.launched) in
            let both : Some l ≡ Some m = sym there ∙ are.launched m n t on in
            let one : l ≡ m = cc in
            clash (l == m) (eq-eqb l m one) apart))) refl

-- ---- a Wrote that says its request wasn't written

written_noted : (p : Plan) (e : Entry) (j : List Entry) (l : ℕ) (n : ℤ) (how : Written)
    → Lawful p (e ∷ j) → e.call ≡ call.Wrote l n how → e.reply ≡ reply.Noted
written_noted p e j l n how legal is = subst (λ (d : Call). lw.Told p j e.lane d e.reply) is legal.1.told

order_sent : (j : List Entry) (lane : ℕ) (x : Request) → order_of j lane ≡ Some x
    → was_sent j x.attempt ≡ true
unfolding was_sent
order_sent j lane x h = by (last_work j lane) refl h
  where
    by : (z : Option Entry) → last_work j lane ≡ z → send_of_entry z ≡ Some x
        → ever (λ _ e. is_send x.attempt e) j ≡ true
    by None at g = absurd (cc)
    by (Some d) at g = o.newest_ever (is_send x.attempt) j lane d at
        (rw g (same_attempt_refl x.attempt))

wrote_just : (p : Plan) (e : Entry) (j : List Entry) (l : ℕ) (n : ℤ) (how : Written) (x : Request)
    → Lawful p (e ∷ j) → 1 ≤ p.limit → e.call ≡ call.Wrote l n how → order_of j e.lane ≡ Some x
    → ((u : Attempt) → ended (e ∷ j) u ≡ (ended j u ||
    (same_attempt x.attempt u && not (granted j x.attempt.action)))) → EndsJust p j e x.attempt
wrote_just p e j l n how x legal least is order this =
    let noted = written_noted p e j l n how legal is in
    ends_just p e j x.attempt legal least (k.sent_begun j x.attempt (order_sent j e.lane x order))
    (rw noted refl) (rw is refl) (λ a b z h. uncommitted a b z
    (subst (λ (d : Call). committed_in a b d ≡ Some z) is h)) this
  where
    uncommitted : (a : ℕ) (b : Branch) (z : CommitEnd)
        → committed_in a b (call.Wrote l n how) ≡ Some z → ⊥
    uncommitted a b z h = cc

pub unwritten_just : (p : Plan) (e : Entry) (j : List Entry) (l : ℕ) (n : ℤ) (how : Written)
    (x : Request) → Lawful p (e ∷ j) → 1 ≤ p.limit → e.call ≡ call.Wrote l n how
    → is_unwritten how ≡ true → order_of j e.lane ≡ Some x → EndsJust p j e x.attempt
unwritten_just p e j l n how x legal least is un order =
    wrote_just p e j l n how x legal least is order (λ u.
    ex.unwritten_ends p e j l n how x legal is un order u)

pub order_carrier : (p : Plan) (j : List Entry) (lane : ℕ) (x : Request) → Lawful p j
    → order_of j lane ≡ Some x → line_of j x.attempt ≡ Some x.line
order_carrier p j lane x legal h = by (last_work j lane) refl h
  where
    by : (z : Option Entry) → last_work j lane ≡ z → send_of_entry z ≡ Some x
        → line_of j x.attempt ≡ Some x.line
    by None at g = absurd (cc)
    by (Some d) at g = (of.all_head_of (k.IsSentOn j x.line) (sends j x.line) x
        (k.sends_on j x.line (begin_in_order p j legal)) (la.newest_head p j lane d x legal at
        g)).carrier

-- a FeedFault after its line has Ended
pub fed_just : (p : Plan) (e : Entry) (j : List Entry) (l : ℕ) (n : ℤ) (x : Request)
    → Lawful p (e ∷ j) → 1 ≤ p.limit → e.call ≡ call.Wrote l n write.FeedFault
    → order_of j e.lane ≡ Some x → has_ended j x.line ≡ true → EndsJust p j e x.attempt
fed_just p e j l n x legal least is order over =
    wrote_just p e j l n write.FeedFault x legal least is order (λ u.
    ex.feed_ends p e j l n x legal is order (order_carrier p j e.lane x legal.0 order) u
    ∙ ap (λ b. ended j u || (same_attempt x.attempt u && (b && not (granted j x.attempt.action))))
    over)

-- one before that ends none, nor does a Wrote with Done or of a Cancel
pub fed_ends_none : (p : Plan) (e : Entry) (j : List Entry) (l : ℕ) (n : ℤ) (x : Request)
    → Lawful p (e ∷ j) → e.call ≡ call.Wrote l n write.FeedFault → order_of j e.lane ≡ Some x
    → has_ended j x.line ≡ false → (u : Attempt) → ended (e ∷ j) u ≡ ended j u
fed_ends_none p e j l n x legal is order running u =
    ex.feed_ends p e j l n x legal is order (order_carrier p j e.lane x legal.0 order) u
    ∙ ap (λ b. ended j u || (same_attempt x.attempt u && (b && not (granted j x.attempt.action))))
    running
    ∙ none (ended j u) (same_attempt x.attempt u)
  where
    none : (a b : Bool) → (a || (b && false)) ≡ a
    none true b = refl
    none false true = refl
    none false false = refl

-- a faulty Wrote answers a Send
pub unwritten_order : (p : Plan) (j : List Entry) (lane l : ℕ) (n : ℤ) (how : Written)
    → lw.in_script p j lane (call.Wrote l n how) ≡ true → is_unwritten how ≡ true
    → (x : Request) × (order_of j lane ≡ Some x) × (x.line ≡ l) × (int_eq x.number n ≡ true)
unwritten_order p j lane l n how may un = elim (o.scripted p j lane (call.Wrote l n how) refl may) [
  | inl owes ↦ absurd (cc)
  | inr h ↦ by (last_work j lane) refl (and_parts (lane % 2 == 0) _ h).1
]
  where
    whole : (w : Written) → is_unwritten w ≡ true → sc.is_whole_or_fault w ≡ true → ⊥
    whole write.RoomFault a b = cc
    whole write.TooLarge a b = cc
    whole write.Done a b = cc
    whole write.FeedFault a b = cc

    of_reply : (d : Entry) (y : Reply) → last_work j lane ≡ Some d → d.reply ≡ y
        → (sc.is_owed p kind.Single (call.Wrote l n how) y || false) ≡ true
        → (x : Request) × (order_of j lane ≡ Some x) × (x.line ≡ l) × (int_eq x.number n ≡ true)
    of_reply d (reply.Send m i a b t) at is g =
        let parts = and_parts (m == l) _ (first _ g) in (
          record { line = m; number = i; attempt = attempt_of a b t },
          ap send_of_entry at
              ∙ ap send_in is,
          eqb-true m l parts.0,
          parts.1,
        )
      where
        first : (b : Bool) → (b || false) ≡ true → b ≡ true
        first true h = refl
        first false h = absurd (cc)
    of_reply d (reply.Cancel m i) at is g = absurd (whole how un
        (and_parts (int_eq i n) _ (and_parts (m == l) _ (first _ g)).1).1)
      where
        first : (b : Bool) → (b || false) ≡ true → b ≡ true
        first true h = refl
        first false h = absurd (cc)
    of_reply d _ at is g = absurd (cc)

    by : (z : Option Entry) → last_work j lane ≡ z → sc.is_owed_after p kind.Single
        (call.Wrote l n how) z ≡ true → (x : Request) × (order_of j lane ≡ Some x) × (x.line ≡ l)
        × (int_eq x.number n ≡ true)
    by None at g = absurd (cc)
    by (Some d) at g = of_reply d d.reply at refl g

-- ---- a Claim that is refused

refused_quiet : (d : Call) (x : Reply) (y : Attempt × Found) → refused_in d x ≡ Some y
    → begun_in x ≡ None
refused_quiet (call.Claim a b t f) reply.AgainLater y h = refl
refused_quiet (call.Claim a b t f) reply.Dropped y h = refl
refused_quiet (call.Claim a b t f) _ y h = absurd (cc)
refused_quiet _ _ y h = absurd (cc)

refused_commits_none : (d : Call) (x : Reply) (y : Attempt × Found) → refused_in d x ≡ Some y
    → (a : ℕ) (b : Branch) (how : CommitEnd) → committed_in a b d ≡ Some how → ⊥
refused_commits_none (call.Claim m n t f) x y h a b how k = cc
refused_commits_none _ x y h a b how k = absurd (cc)

pub refused_just : (p : Plan) (e : Entry) (j : List Entry) (y : Attempt × Found) → Lawful p (e ∷ j)
    → 1 ≤ p.limit → refused_in e.call e.reply ≡ Some y → EndsJust p j e y.0
refused_just p e j y legal least h =
    let going = (g.claimable p e j y.0 legal (ex.refused_claims e.call e.reply y h)).under_way in
    ends_just p e j y.0 legal least going.begun_yet (refused_quiet e.call e.reply y h)
    (ex.refused_grants_none e.call e.reply y h) (refused_commits_none e.call e.reply y h)
    (λ u. ex.refused_ends p e j y legal h u ∙ ap (λ b. ended j u || b)
    (open_too (same_attempt y.0 u)))
  where
    open_too : (b : Bool) → b ≡ (b && not (granted j y.0.action))
    open_too true = rw (ex.refused_free p e j y legal h) refl
    open_too false = refl
