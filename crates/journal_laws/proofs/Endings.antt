-- Which attempts end with an entry.
use Rattle.std.proofs.Common.{◌≡◌, ℕ, true, false, not, cond, List, ◌∷◌, Option, Some, None, is_some, ◌⊎◌, inl, inr, refl, sym, ap, subst, ◌∙◌, arith}
use Rattle.std.proofs.lemmas.Bool.{eqb-true, eq-eqb, and_parts, and_from, or_cases, or_left, or_right}
use Rattle.run_plan.specs.declared.plan.Branch.{Branch}
use Rattle.run_plan.specs.declared.plan.Plan.{Plan}
use Rattle.exec_journal.specs.Lawful as lw
use Rattle.exec_journal.specs.declared.attempt.Attempt.{Attempt}
use Rattle.exec_journal.specs.Entry.{Entry}
use Rattle.exec_journal.specs.declared.ends.Cause.{Cause}
use Rattle.exec_journal.specs.declared.call.Call.{Call}
use Rattle.exec_journal.specs.declared.call.Call.TheVariants as call
use Rattle.exec_journal.specs.declared.call.HowEnded.{HowEnded}
use Rattle.exec_journal.specs.declared.call.CommitEnd.{CommitEnd}
use Rattle.exec_journal.specs.declared.call.Written.{Written}
use Rattle.exec_journal.specs.declared.call.Written.TheVariants as write
use Rattle.exec_journal.specs.declared.reply.Reply.{Reply}
use Rattle.exec_journal.specs.declared.reply.Reply.TheVariants as reply
use Rattle.list_lemmas.specs.Options.{unless_before}
use Rattle.exec_journal.specs.Entries.{Request, attempt_of, same_attempt, launch_in, send_in, consumed_in, ends, granted_in, committed_in}
use Rattle.exec_journal.specs.Words.{answered, wrote, wrote_at, says_feed_fault, has_ended, live, granted, grant_of, commit_of}
use Rattle.exec_journal.specs.Attempts.{begun_in, line_of, carrier_in, fault_of, fault_at, over, ended}
use Rattle.exec_journal.specs.Rules as r
use Rattle.exec_journal.specs.Lawful.{Lawful}
use Rattle.exec_journal.specs.Facts.{SameActions}
use Rattle.journal_laws.specs.Invariant.{IsGoing, is_quiet_call, EndsWith, ByFault, ByEnd, ByFeed}
use Rattle.exec_journal.proofs.Ruled.{by_bool, not_true}
use Rattle.exec_journal.proofs.Begins.{begin_in_order, begun_more, is_for_eq}
use Rattle.journal_laws.proofs.Fresh.{fresh}
use Rattle.exec_journal.proofs.Quiet.{ended_stays}
use Rattle.journal_laws.proofs.Carried as k
use Rattle.journal_laws.proofs.Over as v
use Rattle.journal_laws.proofs.Claims as c
use Rattle.journal_laws.proofs.Claims.{clash, false_by}
use Rattle.journal_laws.proofs.Granted as g
use Rattle.journal_laws.proofs.Firm as f
use Rattle.journal_laws.proofs.Requests as q

-- ---- the words that an entry changes

fault_new_at : (e : Entry) (j : List Entry) (t : Attempt) (x : Cause) → fault_of (e ∷ j) t ≡ Some x → (fault_of j t ≡ Some x) ⊎ (fault_at t j e ≡ Some x)
unfolding fault_of
fault_new_at e j t x h = by (fault_at t j e) (fault_of j t) h
  where
    by : (n o : Option Cause) → unless_before n o ≡ Some x → (o ≡ Some x) ⊎ (n ≡ Some x)
    by None o y = inl y
    by (Some d) (Some z) y = inl y
    by (Some d) None y = inr y

pub ends_is : (l : ℕ) (d : Call) → ends l d ≡ true → (how : HowEnded) × (d ≡ call.Ended l how)
ends_is l (call.Ended m how) h = (how, ap (λ n. call.Ended n how) (eqb-true m l h))
ends_is l _ h = absurd (cc)

ended_line_new : (e : Entry) (j : List Entry) (l : ℕ) → has_ended (e ∷ j) l ≡ true → (ends l e.call ≡ true) ⊎ (has_ended j l ≡ true)
unfolding has_ended
ended_line_new e j l h = or_cases (ends l e.call) _ h

answered_before : (e : Entry) (j : List Entry) (t : Attempt) → answered (e ∷ j) t ≡ false → answered j t ≡ false
answered_before e j t h = false_by _ (λ y. clash _ (c.answered_later e j t y) h)

feed_new : (e : Entry) (j : List Entry) (t : Attempt) → says_feed_fault (wrote (e ∷ j) t) ≡ true → (says_feed_fault (wrote j t) ≡ true) ⊎ (wrote_at t j e ≡ Some write.FeedFault)
unfolding wrote
feed_new e j t h = by (wrote_at t j e) (wrote j t) h
  where
    by : (n o : Option Written) → says_feed_fault (unless_before n o) ≡ true → (says_feed_fault o ≡ true) ⊎ (n ≡ Some write.FeedFault)
    by None o y = inl y
    by (Some d) (Some z) y = inl y
    by (Some d) None y = inr (v.feed_is (Some d) y)

pub granted_before : (e : Entry) (j : List Entry) (a : ℕ) → granted (e ∷ j) a ≡ false → granted j a ≡ false
granted_before e j a h = false_by _ (λ y. clash _ (f.granted_stays e j a y) h)

-- ---- a line that is begun with an entry has not Ended

data CarriesOn (x : Reply) (l : ℕ) : Type 0 where
  Launching : (s : Attempt) → launch_in x ≡ Some (l, s) → CarriesOn x l
  Sending : (y : Request) → send_in x ≡ Some y → y.line ≡ l → CarriesOn x l

launch_carrier : (t : Attempt) (x : Reply) (l : ℕ) → carrier_in t x ≡ Some l → CarriesOn x l
launch_carrier t (reply.Launch m a b n) l h =
    by_bool (same_attempt (attempt_of a b n) t) (λ z. cond z (Some m) None ≡ Some l → CarriesOn (reply.Launch m a b n) l)
    (λ _ e. let i : m ≡ l = cc in Launching (attempt_of a b n) (ap (λ w. Some (w, attempt_of a b n)) i)) (λ _ e. absurd (cc)) h
launch_carrier t (reply.Send m o a b n) l h =
    by_bool (same_attempt (attempt_of a b n) t) (λ z. cond z (Some m) None ≡ Some l → CarriesOn (reply.Send m o a b n) l)
    (λ _ e. let i : m ≡ l = cc in Sending (record { line = m; number = o; attempt = attempt_of a b n }) refl i) (λ _ e. absurd (cc)) h
launch_carrier t _ l h = absurd (cc)

begun_on_running : (p : Plan) (e : Entry) (j : List Entry) (t : Attempt) (l : ℕ) → Lawful p (e ∷ j) → carrier_in t e.reply ≡ Some l → (has_ended j l ≡ false) × (ends l e.call ≡ false)
begun_on_running p e j t l legal h = by (launch_carrier t e.reply l h)
  where
    by : CarriesOn e.reply l → (has_ended j l ≡ false) × (ends l e.call ≡ false)
    by (Launching s is) =
        let line = c.next_line p e j (l, s) legal is in
        let ask = c.launch_asks p j e.lane e.call e.reply (l, s) (v.entry_ruled p e j legal) is in
        ((fresh p j l legal.0 (let n = line in omega arith)).end, rw ask refl)
    by (Sending y is on) =
        let ruled = v.entry_ruled p e j legal in
        let up = c.sends_live p j e.lane e.call e.reply y ruled is in
        let ask = c.asks p j e.lane e.call e.reply y ruled is in
        (q.live_running j l (subst (λ n. live j n ≡ true) on up), rw ask refl)

line_new : (e : Entry) (j : List Entry) (t : Attempt) (l : ℕ) → line_of (e ∷ j) t ≡ Some l → (carrier_in t e.reply ≡ Some l) ⊎ (line_of j t ≡ Some l)
unfolding line_of
line_new e j t l h = k.or_some (carrier_in t e.reply) (line_of j t) l h

-- ---- how an attempt ends

pub ends_with : (p : Plan) (e : Entry) (j : List Entry) (t : Attempt) → Lawful p (e ∷ j) → ended (e ∷ j) t ≡ true → ended j t ≡ false → EndsWith j e t × (granted (e ∷ j) t.action ≡ false)
ends_with p e j t legal now before = elim (v.ended_new e j t now) [
  | inl old ↦ absurd (clash _ old before)
  | inr new ↦ (let x = v.some_is (over (e ∷ j) t) new.1 in (by (granted_before e j t.action new.0) (v.over_is (e ∷ j) t x.0 x.1), new.0))
]
  where
    still : granted j t.action ≡ false → v.Ends j t → EndsWith j e t
    still free old = absurd (clash _ (v.over_ended j t free old) before)

    left_before : (l : ℕ) → granted j t.action ≡ false → line_of j t ≡ Some l → has_ended j l ≡ true → (not (answered (e ∷ j) t) ≡ true) ⊎ (says_feed_fault (wrote (e ∷ j) t) ≡ true) → EndsWith j e t
    left_before l free at gone (inl un) = still free (v.IsLost l at (and_from _ _ gone (or_left (not (answered j t)) _ (rw (answered_before e j t (not_true _ un)) refl))))
    left_before l free at gone (inr fed) = elim (feed_new e j t fed) [
      | inl old ↦ still free (v.IsLost l at (and_from _ _ gone (or_right (not (answered j t)) _ old)))
      | inr new ↦ ByFeed l new at gone
    ]

    left_now : (l : ℕ) → ends l e.call ≡ true → line_of j t ≡ Some l → (not (answered (e ∷ j) t) ≡ true) ⊎ (says_feed_fault (wrote (e ∷ j) t) ≡ true) → EndsWith j e t
    left_now l here at (inl un) = (let x = ends_is l e.call here in ByEnd l x.0 x.1 at (or_left (not (answered j t)) _ (rw (answered_before e j t (not_true _ un)) refl)))
    left_now l here at (inr fed) = elim (feed_new e j t fed) [
      | inl old ↦ (let x = ends_is l e.call here in ByEnd l x.0 x.1 at (or_right (not (answered j t)) _ old))
      | inr new ↦ (let it = c.wrote_at_is j e t write.FeedFault new in
          let calm : ends l e.call ≡ false = rw it.is refl in absurd (clash _ here calm))
    ]

    by : granted j t.action ≡ false → v.Ends (e ∷ j) t → EndsWith j e t
    by free (v.Faulted x is) = elim (fault_new_at e j t x is) [ inl old ↦ still free (v.Faulted x old) | inr new ↦ ByFault x new ]
    by free (v.IsLost l at lost) =
        let parts = and_parts (has_ended (e ∷ j) l) _ lost in
        let left = or_cases (not (answered (e ∷ j) t)) _ parts.1 in
        elim (line_new e j t l at) [
          | inl here ↦ (let run = begun_on_running p e j t l legal here in absurd (elim (ended_line_new e j l parts.0) [ inl a ↦ clash _ a run.1 | inr b ↦ clash _ b run.0 ]))
          | inr was ↦ elim (ended_line_new e j l parts.0) [ inl a ↦ left_now l a was left | inr b ↦ left_before l free was b left ]
        ]

-- no attempt ends with another call than Launched, Wrote, Claim and Ended
quiet_faults : (j : List Entry) (e : Entry) (t : Attempt) (d : Call) → e.call ≡ d → is_quiet_call d ≡ true → fault_at t j e ≡ None
quiet_faults j e t call.Ask is h = rw is refl
quiet_faults j e t (call.Look w) is h = rw is refl
quiet_faults j e t (call.Committed a b how) is h = rw is refl
quiet_faults j e t (call.Killed l) is h = rw is refl
quiet_faults j e t call.Take is h = rw is refl
quiet_faults j e t (call.Answer l x) is h = rw is refl
quiet_faults j e t call.Halt is h = rw is refl
quiet_faults j e t call.Tick is h = rw is refl
quiet_faults j e t (call.Launched l how) is h = absurd (cc)
quiet_faults j e t (call.Wrote l n how) is h = absurd (cc)
quiet_faults j e t (call.Claim a b n x) is h = absurd (cc)
quiet_faults j e t (call.Ended l how) is h = absurd (cc)

quiet_not : (e : Entry) (d : Call) → e.call ≡ d → is_quiet_call d ≡ false → is_quiet_call e.call ≡ true → ⊥
quiet_not e d is h y = clash (is_quiet_call e.call) y (ap is_quiet_call is ∙ h)

quiet_end : (j : List Entry) (e : Entry) (t : Attempt) → is_quiet_call e.call ≡ true → EndsWith j e t → ⊥
quiet_end j e t h (ByFault x is) = (let none = quiet_faults j e t e.call refl h in let both : None ≡ Some x = sym none ∙ is in cc)
quiet_end j e t h (ByEnd l how is at left) = quiet_not e (call.Ended l how) is refl h
quiet_end j e t h (ByFeed l is at over) = (let it = c.wrote_at_is j e t write.FeedFault is in quiet_not e (call.Wrote it.line it.number write.FeedFault) it.is refl h)

pub quiet_ends_none : (p : Plan) (e : Entry) (j : List Entry) (t : Attempt) → Lawful p (e ∷ j) → is_quiet_call e.call ≡ true → ended (e ∷ j) t ≡ ended j t
quiet_ends_none p e j t legal h =
    by_bool (ended j t) (λ b. ended j t ≡ b → ended (e ∷ j) t ≡ b)
    (λ _ old. ended_stays e j t old)
    (λ _ going. false_by _ (λ now. quiet_end j e t h (ends_with p e j t legal now going).0)) refl

-- an attempt that ends was under way
pub ending_was_going : (p : Plan) (e : Entry) (j : List Entry) (t : Attempt) → Lawful p (e ∷ j) → ended (e ∷ j) t ≡ true → ended j t ≡ false → begun_in e.reply ≡ None → IsGoing j t
ending_was_going p e j t legal now before none =
    g.going_is p j t legal.0 (elim (begun_more e j t (c.ended_begun p (e ∷ j) t legal now)) [
      | inl here ↦ (let is = is_for_eq t (begun_in e.reply) here in let both : None ≡ Some t = sym none ∙ is in absurd (cc))
      | inr old ↦ old
    ]) before

-- and so it ends, unless its action has a grant
fault_here : (e : Entry) (j : List Entry) (t : Attempt) (x : Cause) → fault_at t j e ≡ Some x → is_some (fault_of (e ∷ j) t) ≡ true
unfolding fault_of
fault_here e j t x h = k.some_new_cause (fault_at t j e) (fault_of j t) (rw h refl)

ended_here : (e : Entry) (j : List Entry) (l : ℕ) (how : HowEnded) → e.call ≡ call.Ended l how → has_ended (e ∷ j) l ≡ true
unfolding has_ended
ended_here e j l how h = or_left (ends l e.call) _ (rw h (eq-eqb l l refl))

pub ends_so : (p : Plan) (e : Entry) (j : List Entry) (t : Attempt) → Lawful p (e ∷ j) → EndsWith j e t → granted (e ∷ j) t.action ≡ false → ended (e ∷ j) t ≡ true
ends_so p e j t legal (ByFault x is) free = (let y = v.some_is (fault_of (e ∷ j) t) (fault_here e j t x is) in v.over_ended (e ∷ j) t free (v.Faulted y.0 y.1))
ends_so p e j t legal (ByEnd l how is at left) free =
    let quiet : consumed_in e.reply ≡ None = ended_consumes_none p e j l how legal is in
    let same : answered (e ∷ j) t ≡ answered j t = v.answered_same e j t (rw quiet refl) in
    v.over_ended (e ∷ j) t free (v.IsLost l (k.line_stays e j t l (begin_in_order p (e ∷ j) legal) at)
    (and_from _ _ (ended_here e j l how is) (elim (or_cases (not (answered j t)) _ left) [
      | inl un ↦ or_left _ _ (ap not same ∙ un)
      | inr fed ↦ or_right (not (answered (e ∷ j) t)) _ (v.feed_stays e j t fed)
    ])))
  where
    ended_consumes_none : (p : Plan) (e : Entry) (j : List Entry) (l : ℕ) (how : HowEnded) → Lawful p (e ∷ j) → e.call ≡ call.Ended l how → consumed_in e.reply ≡ None
    ended_consumes_none p e j l how legal is = ap consumed_in (subst (λ (d : Call). lw.Told p j e.lane d e.reply) is legal.1.told)
ends_so p e j t legal (ByFeed l is at over) free =
    let it = c.wrote_at_is j e t write.FeedFault is in
    let none = c.owed_unwritten p j t legal.0 e.lane it.order it.newest it.fits in
    v.over_ended (e ∷ j) t free (v.IsLost l (k.line_stays e j t l (begin_in_order p (e ∷ j) legal) at)
    (and_from _ _ (v.ended_line_stays e j l over) (or_right (not (answered (e ∷ j) t)) _ (rw (g.wrote_here e j t write.FeedFault none is) refl))))

-- ---- grants and commits

pub grants_same : (e : Entry) (j : List Entry) (a : ℕ) → granted_in e.call e.reply ≡ None → grant_of (e ∷ j) a ≡ grant_of j a
unfolding grant_of
grants_same e j a h = rw h refl

pub commits_same : (e : Entry) (j : List Entry) (a : ℕ) (b : Branch) → ((how : CommitEnd) → committed_in a b e.call ≡ Some how → ⊥) → commit_of (e ∷ j) a b ≡ commit_of j a b
unfolding commit_of
commits_same e j a b h = by (committed_in a b e.call) refl
  where
    by : (n : Option CommitEnd) → committed_in a b e.call ≡ n → unless_before n (commit_of j a b) ≡ commit_of j a b
    by None is = refl
    by (Some how) is = absurd (h how is)

-- an Ask ends, grants and commits nothing
asked_commits : (a : ℕ) (b : Branch) (how : CommitEnd) → committed_in a b call.Ask ≡ Some how → ⊥
asked_commits a b how h = cc

pub ask_changes_none : (p : Plan) (e : Entry) (j : List Entry) → Lawful p (e ∷ j) → e.call ≡ call.Ask → SameActions j (e ∷ j)
ask_changes_none p e j legal is = record {
  grant = λ a. grants_same e j a (rw is refl);
  commit = λ a b. commits_same e j a b (λ how h. asked_commits a b how (subst (λ (d : Call). committed_in a b d ≡ Some how) is h));
  ended_too = λ t. quiet_ends_none p e j t legal (rw is refl);
}
