-- An attempt that was sent is under way until its Wrote says that it wasn't written, it is claimed, or its line ends without it. So an action is granted once.
use Rattle.std.proofs.Common.{◌≡◌, ℕ, ◌/◌, ◌≤◌, ◌==◌, nat_lt, Bool, true, false, not, cond, List, [], ◌∷◌, Option, Some, None, ◌⊎◌, inl, inr, refl, sym, ap, subst, ◌∙◌, arith}
use Rattle.std.proofs.lemmas.Bool.{eqb-true, eq-eqb, ltb-true, ltb-false, and_parts, and_from, or_cases, or_left, or_right}
use Rattle.run_plan.specs.declared.plan.Branch.{Branch}
use Rattle.run_plan.specs.declared.plan.Plan.{Plan}
use Rattle.exec_journal.specs.Seated.{line_kind}
use Rattle.exec_journal.specs.declared.attempt.Attempt.{Attempt}
use Rattle.exec_journal.specs.Entry.{Entry}
use Rattle.exec_journal.specs.declared.ends.Cause.{Cause}
use Rattle.exec_journal.specs.declared.call.Call.{Call}
use Rattle.exec_journal.specs.declared.call.Call.TheVariants as call
use Rattle.exec_journal.specs.declared.call.Found.{Found}
use Rattle.exec_journal.specs.declared.call.Written.{Written}
use Rattle.exec_journal.specs.declared.call.Written.TheVariants as write
use Rattle.exec_journal.specs.declared.reply.Reply.{Reply}
use Rattle.exec_journal.specs.declared.reply.Reply.TheVariants as reply
use Rattle.list_lemmas.specs.Options.{or_else, unless_before}
use Rattle.exec_journal.specs.Entries.{Request, attempt_of, same_attempt, same_branch, send_in, granted_in}
use Rattle.exec_journal.specs.Words.{started, was_sent, answered, wrote, wrote_at, says_done, says_unwritten, says_feed_fault, has_ended, granted, grant_of, of_action}
use Rattle.exec_journal.specs.Attempts.{attempt, line_of, fault_of, fault_at, ended}
use Rattle.exec_journal.specs.Settled.{wanted, bound, earliest, free_places}
use Rattle.run_plan.specs.Groups.{kind_of}
use Rattle.exec_journal.specs.Rules as r
use Rattle.exec_journal.specs.Rules.{gathered}
use Rattle.exec_journal.specs.Lawful.{Lawful, NextOn, FromBound, FromQueue}
use Rattle.exec_journal.specs.Facts.{begun, BeginsNext, ContinuesOn}
use Rattle.journal_laws.specs.Invariant.{claims_it, claimed, IsGoing, IsClaimable, IsWinner}
use Rattle.exec_journal.proofs.Reasons as u
use Rattle.exec_journal.proofs.Ruled.{by_bool, not_true}
use Rattle.exec_journal.proofs.Begins.{same_branch_eq, same_attempt_refl, begin_in_order, attempts_in_order, bound_is, queued_is, wanted_is}
use Rattle.journal_laws.proofs.Owed.{is_send}
use Rattle.journal_laws.proofs.Carried as k
use Rattle.journal_laws.proofs.Over as v
use Rattle.journal_laws.proofs.Claims as c
use Rattle.journal_laws.proofs.Claims.{clash, false_by}

-- ---- a Send is of a wanted branch

pub next_wanted : (p : Plan) (j : List Entry) (l : ℕ) (t : Attempt) → NextOn p j l t → wanted p j t.action t.branch ≡ true
next_wanted p j l t (FromBound h) = (bound_is p j l t h).wish
next_wanted p j l t (FromQueue none room e) = (queued_is p j t.action t.branch e.action e.waiting).wish

pub sends_wanted : (p : Plan) (j : List Entry) (lane : ℕ) (d : Call) (x : Reply) (q : Request) → u.Ruled p j lane d x → send_in x ≡ Some q → wanted p j q.attempt.action q.attempt.branch ≡ true
sends_wanted p j lane d x q (u.Sends l t here alive next none) h =
    let e : record { line = l; number = r.number_of j (line_kind p j l) l; attempt = attempt_of t.action t.branch t.number } ≡ q = cc in
    subst (λ (y : Request). wanted p j y.attempt.action y.attempt.branch ≡ true) e (next_wanted p j l t next)
sends_wanted p j lane d x q (u.KillsBroken l y here run broken over) h = absurd (cc)
sends_wanted p j lane d x q _ h = absurd (cc)

-- ---- what a Send finds: an attempt that isn't over

sent_unfaulted : (p : Plan) (e : Entry) (j : List Entry) (t : Attempt) (f : Cause) → Lawful p (e ∷ j) → is_send t e ≡ true → fault_of j t ≡ Some f → ⊥
sent_unfaulted p e j t f legal h is =
    let it = k.send_of j e.reply t (begin_in_order p (e ∷ j) legal).1 h in
    let wish = sends_wanted p j e.lane e.call e.reply it.request (v.entry_ruled p e j legal) it.is in
    let free : granted j t.action ≡ false = (wanted_is p j t.action t.branch (subst (λ (x : Attempt). wanted p j x.action x.branch ≡ true) it.of wish)).ungranted in
    by it.request.line it.begins free
  where
    by : (m : ℕ) → BeginsNext j t ⊎ ContinuesOn j m t → granted j t.action ≡ false → ⊥
    by m (inl next) free = clash (begun j t) (c.fault_begun p j t f legal.0 is) next.unbegun
    by m (inr on) free = clash (ended j t) (v.over_ended j t free (v.Faulted f is)) on.going

ask_faults_none : (j : List Entry) (e : Entry) (t : Attempt) → e.call ≡ call.Ask → fault_at t j e ≡ None
ask_faults_none j e t h = rw h refl

claimed_later : (e : Entry) (j : List Entry) (t : Attempt) → claimed j t ≡ true → claimed (e ∷ j) t ≡ true
unfolding claimed
claimed_later e j t h = or_right (claims_it t e.call) _ h

claimed_here : (e : Entry) (j : List Entry) (t : Attempt) → claims_it t e.call ≡ true → claimed (e ∷ j) t ≡ true
unfolding claimed
claimed_here e j t h = or_left (claims_it t e.call) _ h

pub unwritten_stays : (e : Entry) (j : List Entry) (t : Attempt) → says_unwritten (wrote j t) ≡ true → says_unwritten (wrote (e ∷ j) t) ≡ true
unwritten_stays e j t h = by (wrote j t) refl h
  where
    by : (q : Option Written) → wrote j t ≡ q → says_unwritten q ≡ true → says_unwritten (wrote (e ∷ j) t) ≡ true
    by (Some y) is g = rw (v.wrote_stays e j t y is) g
    by None is g = absurd (cc)

pub wrote_here : (e : Entry) (j : List Entry) (t : Attempt) (y : Written) → wrote j t ≡ None → wrote_at t j e ≡ Some y → wrote (e ∷ j) t ≡ Some y
unfolding wrote
wrote_here e j t y h g = rw (g, h) refl

-- a fault of an attempt that was sent: it wasn't written, or was claimed
pub sent_faults : (p : Plan) (j : List Entry) (t : Attempt) (f : Cause) → Lawful p j → was_sent j t ≡ true → fault_of j t ≡ Some f → (says_unwritten (wrote j t) ≡ true) ⊎ (claimed j t ≡ true)
unfolding was_sent
sent_faults p [] t f legal h g = absurd (cc)
sent_faults p (e ∷ j) t f legal h g = by (or_cases (is_send t e) (was_sent j t) h) (c.fault_new e j t f g) (λ a b. sent_faults p j t f legal.0 a b)
  where
    old : (says_unwritten (wrote j t) ≡ true) ⊎ (claimed j t ≡ true) → (says_unwritten (wrote (e ∷ j) t) ≡ true) ⊎ (claimed (e ∷ j) t ≡ true)
    old (inl a) = inl (unwritten_stays e j t a)
    old (inr b) = inr (claimed_later e j t b)

    new : was_sent j t ≡ true → c.FaultsAt j e t → (says_unwritten (wrote (e ∷ j) t) ≡ true) ⊎ (claimed (e ∷ j) t ≡ true)
    new sent (c.AtLaunched d l at is) =
        absurd (clash (was_sent j t) sent (c.owed_unstarted p j l t legal.0 e.lane d at (rw is (and_from _ _ (eq-eqb l l refl) (same_attempt_refl t)))).unsent)
    new sent (c.AtWrote y at un) =
        let it = c.wrote_at_is j e t y at in
        let none = c.owed_unwritten p j t legal.0 e.lane it.order it.newest it.fits in
        inl (rw (wrote_here e j t y none at) un)
    new sent (c.AtClaim is) = inr (claimed_here e j t is)

    asked : is_send t e ≡ true → e.call ≡ call.Ask
    asked a = let it = k.send_of j e.reply t (begin_in_order p (e ∷ j) legal).1 a in c.asks p j e.lane e.call e.reply it.request (v.entry_ruled p e j legal) it.is

    at_send : is_send t e ≡ true → c.FaultsAt j e t → ⊥
    at_send a (c.AtLaunched d l at is) =
        let it = k.send_of j e.reply t (begin_in_order p (e ∷ j) legal).1 a in
        let un = c.owed_unstarted p j l t legal.0 e.lane d at (rw is (and_from _ _ (eq-eqb l l refl) (same_attempt_refl t))) in
        let live = c.sends_live p j e.lane e.call e.reply it.request (v.entry_ruled p e j legal) it.is in
        by_line it.request.line l it.begins un (c.live_started j it.request.line live)
      where
        by_line : (m l : ℕ) → BeginsNext j t ⊎ ContinuesOn j m t → c.IsUnstarted j l t → started j m ≡ true → ⊥
        by_line m l (inl next) un up = clash (begun j t) (k.carried_begun j t l ((k.are_carried j (begin_in_order p j legal.0)).launched l un.on.lane t un.on.is)) next.unbegun
        by_line m l (inr on) un up =
            let carried = (k.are_carried j (begin_in_order p j legal.0)).launched l un.on.lane t un.on.is in
            let at = (k.are_carried j (begin_in_order p j legal.0)).launched m on.launched.0 t on.launched.1 in
            let both : Some m ≡ Some l = sym at ∙ carried in
            let same : m ≡ l = cc in
            clash (started j l) (subst (λ n. started j n ≡ true) same up) un.unstarted
    at_send a (c.AtWrote y at un) = (let none = c.ask_writes_none j e t (asked a) in let both : None ≡ Some y = sym none ∙ at in cc)
    at_send a (c.AtClaim is) = (let no_claim : claims_it t e.call ≡ false = rw (asked a) refl in clash (claims_it t e.call) is no_claim)

    by : (is_send t e ≡ true) ⊎ (was_sent j t ≡ true) → (fault_of j t ≡ Some f) ⊎ c.FaultsAt j e t
        → (was_sent j t ≡ true → fault_of j t ≡ Some f → (says_unwritten (wrote j t) ≡ true) ⊎ (claimed j t ≡ true))
        → (says_unwritten (wrote (e ∷ j) t) ≡ true) ⊎ (claimed (e ∷ j) t ≡ true)
    by (inl a) (inl b) ih = absurd (sent_unfaulted p e j t f legal a b)
    by (inl a) (inr b) ih = absurd (at_send a b)
    by (inr a) (inl b) ih = old (ih a b)
    by (inr a) (inr b) ih = new a b

-- an attempt that was sent has not ended, where nothing ends it
pub still_going : (p : Plan) (j : List Entry) (t : Attempt) → Lawful p j → was_sent j t ≡ true → says_unwritten (wrote j t) ≡ false → claimed j t ≡ false
    → ((l : ℕ) → line_of j t ≡ Some l → v.is_lost j t l ≡ false) → ended j t ≡ false
still_going p j t legal sent written unclaimed kept = false_by _ (λ over. by (v.ended_is p j t legal over))
  where
    by : v.Ends j t → ⊥
    by (v.Faulted f is) = elim (sent_faults p j t f legal sent is) [ inl a ↦ clash _ a written | inr b ↦ clash _ b unclaimed ]
    by (v.IsLost l at lost) = clash _ lost (kept l at)

-- ---- an attempt that was begun and hasn't ended is its branch's latest

pub going_is : (p : Plan) (j : List Entry) (t : Attempt) → Lawful p j → begun j t ≡ true → ended j t ≡ false → IsGoing j t
going_is p j t legal start going =
    let order = attempts_in_order p j legal in
    let range = order.numbered t start in
    record { begun_yet = start; going = going; least = range.0; latest = latest_of range (nat_lt t.number (attempt j t.action t.branch)) refl }
  where
    latest_of : (1 ≤ t.number) × (t.number ≤ attempt j t.action t.branch) → (b : Bool) → nat_lt t.number (attempt j t.action t.branch) ≡ b → t.number ≡ attempt j t.action t.branch
    latest_of range true below = absurd (clash _ ((attempts_in_order p j legal).older t range.0 (ltb-true t.number (attempt j t.action t.branch) below)) going)
    latest_of range false above = let le = ltb-false t.number (attempt j t.action t.branch) above in let up = range.1 in omega arith

-- two attempts of one branch under way are one
pub same_going : (j : List Entry) (s t : Attempt) → IsGoing j s → IsGoing j t → s.action ≡ t.action → s.branch ≡ t.branch → s ≡ t
same_going j s t a b same_action same_branch_of =
    let n : s.number ≡ t.number = a.latest ∙ ap (λ x. attempt j x s.branch) same_action ∙ ap (λ (x : Branch). attempt j t.action x) same_branch_of ∙ sym b.latest in
    λ i. record { action = same_action i; branch = same_branch_of i; number = n i }

-- ---- a Claim

unlost : (j : List Entry) (t : Attempt) → answered j t ≡ true → says_done (wrote j t) ≡ true → (l : ℕ) → line_of j t ≡ Some l → v.is_lost j t l ≡ false
unlost j t consumed written l at = false_by _ (λ lost.
    by (wrote j t) written (or_cases (not (answered j t)) _ (and_parts (has_ended j l) _ lost).1))
  where
    by : (q : Option Written) → says_done q ≡ true → (not (answered j t) ≡ true) ⊎ (says_feed_fault q ≡ true) → ⊥
    by q done (inl un) = clash _ consumed (not_true _ un)
    by (Some write.Done) done (inr fed) = cc
    by (Some write.FeedFault) done (inr fed) = cc
    by (Some write.RoomFault) done (inr fed) = cc
    by (Some write.TooLarge) done (inr fed) = cc
    by None done (inr fed) = cc

pub done_written : (q : Option Written) → says_done q ≡ true → says_unwritten q ≡ false
done_written (Some write.Done) h = refl
done_written (Some write.FeedFault) h = absurd (cc)
done_written (Some write.RoomFault) h = absurd (cc)
done_written (Some write.TooLarge) h = absurd (cc)
done_written None h = absurd (cc)

pub claimable : (p : Plan) (e : Entry) (j : List Entry) (t : Attempt) → Lawful p (e ∷ j) → claims_it t e.call ≡ true → IsClaimable j t
claimable p e j t legal h =
    let owed = c.claim_owed p e j t legal h in
    let ordered = c.gathered_newest j t e.lane owed.order owed.newest owed.fits in
    let match = c.gathered_is p j t legal.0 ordered in
    let sent = c.answered_sent p j t legal.0 match.consumed in
    let none = c.owed_unclaimed p j t legal.0 e.lane owed.order owed.newest owed.fits in
    let going = still_going p j t legal.0 sent (done_written (wrote j t) match.written) none (unlost j t match.consumed match.written) in
    record { under_way = going_is p j t legal.0 (k.sent_begun j t sent) going; ordered = ordered; unclaimed = none; consumed = match.consumed; written = match.written }

-- ---- the grant of an action

of_action_is : (a : ℕ) (q : Option (Attempt × Found)) (x : Attempt × Found) → of_action a q ≡ Some x → (q ≡ Some x) × (x.0.action ≡ a)
of_action_is a None x h = absurd (cc)
of_action_is a (Some y) x h =
    by_bool (y.0.action == a) (λ b. (y.0.action == a) ≡ b → cond b (Some y) None ≡ Some x → (Some y ≡ Some x) × (x.0.action ≡ a))
    (λ _ same g. let e : y ≡ x = cc in (g, subst (λ (z : Attempt × Found). z.0.action ≡ a) e (eqb-true y.0.action a same)))
    (λ _ _ g. absurd (cc)) refl h

pub granted_claims : (d : Call) (x : Reply) (y : Attempt × Found) → granted_in d x ≡ Some y → claims_it y.0 d ≡ true
granted_claims (call.Claim a b t f) reply.Granted y h =
    let e : (attempt_of a b t, f) ≡ y = cc in subst (λ (z : Attempt × Found). same_attempt (attempt_of a b t) z.0 ≡ true) e (same_attempt_refl (attempt_of a b t))
granted_claims (call.Claim a b t f) _ y h = absurd (cc)
granted_claims _ _ y h = absurd (cc)

pub grant_same : (e : Entry) (j : List Entry) (a : ℕ) (x : Attempt × Found) → grant_of j a ≡ Some x → grant_of (e ∷ j) a ≡ Some x
unfolding grant_of
grant_same e j a x h = by (of_action a (granted_in e.call e.reply)) (grant_of j a) h
  where
    by : (n q : Option (Attempt × Found)) → q ≡ Some x → unless_before n q ≡ Some x
    by None q g = g
    by (Some y) (Some z) g = g
    by (Some y) None g = absurd (cc)

pub grant_cases : (e : Entry) (j : List Entry) (a : ℕ) (x : Attempt × Found) → grant_of (e ∷ j) a ≡ Some x → (grant_of j a ≡ Some x) ⊎ ((granted_in e.call e.reply ≡ Some x) × (x.0.action ≡ a))
unfolding grant_of
grant_cases e j a x h = by (of_action a (granted_in e.call e.reply)) (grant_of j a) refl refl h
  where
    by : (n q : Option (Attempt × Found)) → of_action a (granted_in e.call e.reply) ≡ n → grant_of j a ≡ q → unless_before n q ≡ Some x
        → (grant_of j a ≡ Some x) ⊎ ((granted_in e.call e.reply ≡ Some x) × (x.0.action ≡ a))
    by None q is io g = inl (io ∙ g)
    by (Some y) (Some z) is io g = inl (io ∙ g)
    by (Some y) None is io g = inr (of_action_is a (granted_in e.call e.reply) x (is ∙ g))

pub is_granted : (j : List Entry) (a : ℕ) (x : Attempt × Found) → grant_of j a ≡ Some x → granted j a ≡ true
unfolding granted
is_granted j a x h = rw h refl

pub granted_is : (j : List Entry) (a : ℕ) → granted j a ≡ true → (x : Attempt × Found) × (grant_of j a ≡ Some x)
unfolding granted
granted_is j a h = v.some_is (grant_of j a) h

-- an attempt whose action has a grant does not end
pub granted_unended : (e : Entry) (j : List Entry) (t : Attempt) → granted (e ∷ j) t.action ≡ true → ended j t ≡ false → ended (e ∷ j) t ≡ false
granted_unended e j t won going = false_by _ (λ over. elim (v.ended_new e j t over) [ inl old ↦ clash _ old going | inr new ↦ clash _ won new.0 ])

attempt_later : (p : Plan) (e : Entry) (j : List Entry) (t : Attempt) → Lawful p (e ∷ j) → IsGoing j t → ended (e ∷ j) t ≡ false → IsGoing (e ∷ j) t
attempt_later p e j t legal is going = going_is p (e ∷ j) t legal (c.begun_later e j t is.begun_yet) going

pub winner : (p : Plan) (j : List Entry) (a : ℕ) (x : Attempt × Found) → Lawful p j → grant_of j a ≡ Some x → IsWinner j a x.0
unfolding grant_of
winner p [] a x legal h = absurd (cc)
winner p (e ∷ j) a x legal h = by (grant_cases e j a x h) (λ g. winner p j a x legal.0 g)
  where
    at : x.0.action ≡ a → granted (e ∷ j) x.0.action ≡ true
    at same = subst (λ n. granted (e ∷ j) n ≡ true) (sym same) (is_granted (e ∷ j) a x h)

    by : (grant_of j a ≡ Some x) ⊎ ((granted_in e.call e.reply ≡ Some x) × (x.0.action ≡ a)) → (grant_of j a ≡ Some x → IsWinner j a x.0) → IsWinner (e ∷ j) a x.0
    by (inl old) f =
        let w = f old in
        record {
          under_way = attempt_later p e j x.0 legal w.under_way (granted_unended e j x.0 (at w.of_action) w.under_way.going);
          of_action = w.of_action;
          claimed_yet = claimed_later e j x.0 w.claimed_yet;
        }
    by (inr new) f =
        let claims = granted_claims e.call e.reply x new.0 in
        let one = claimable p e j x.0 legal claims in
        record {
          under_way = attempt_later p e j x.0 legal one.under_way (granted_unended e j x.0 (at new.1) one.under_way.going);
          of_action = new.1;
          claimed_yet = claimed_here e j x.0 claims;
        }

-- ---- a grant comes where there is none

pub never_twice : (p : Plan) (e : Entry) (j : List Entry) (t : Attempt) → Lawful p (e ∷ j) → claims_it t e.call ≡ true → (x : Attempt × Found) → grant_of j t.action ≡ Some x → same_branch x.0.branch t.branch ≡ false
never_twice p e j t legal h x g = false_by _ (λ same.
    let one = claimable p e j t legal h in
    let w = winner p j t.action x legal.0 g in
    let is : x.0 ≡ t = same_going j x.0 t w.under_way one.under_way w.of_action (same_branch_eq x.0.branch t.branch same) in
    clash (claimed j t) (subst (λ (y : Attempt). claimed j y ≡ true) is w.claimed_yet) one.unclaimed)

grants_free : (p : Plan) (j : List Entry) (lane a : ℕ) (b : Branch) (t : ℕ) (f : Found) (d : Call) (x : Reply) → u.Ruled p j lane d x → d ≡ call.Claim a b t f → x ≡ reply.Granted → r.is_other b (grant_of j a) ≡ false
grants_free p j lane a b t f d x (u.Grants c e n g free may) h k =
    let same : attempt_of c e n ≡ attempt_of a b t = cc in
    subst (λ (y : Attempt). r.is_other y.branch (grant_of j y.action) ≡ false) same free
grants_free p j lane a b t f d x (u.KillsBroken l y here run broken over) h k = absurd (cc)
grants_free p j lane a b t f d x _ h k = absurd (cc)

pub grant_is_first : (p : Plan) (e : Entry) (j : List Entry) (y : Attempt × Found) → Lawful p (e ∷ j) → granted_in e.call e.reply ≡ Some y → granted j y.0.action ≡ false
grant_is_first p e j y legal h = false_by _ (λ old.
    let x = granted_is j y.0.action old in
    let apart = never_twice p e j y.0 legal (granted_claims e.call e.reply y h) x.0 x.1 in
    let free = of_call e.call e.reply refl refl h in
    let other : r.is_other y.0.branch (grant_of j y.0.action) ≡ true = rw (x.1, apart) refl in
    clash _ other free)
  where
    of_call : (d : Call) (z : Reply) → e.call ≡ d → e.reply ≡ z → granted_in d z ≡ Some y → r.is_other y.0.branch (grant_of j y.0.action) ≡ false
    of_call (call.Claim a b t f) reply.Granted ic ir g =
        let is : (attempt_of a b t, f) ≡ y = cc in
        subst (λ (v : Attempt × Found). r.is_other v.0.branch (grant_of j v.0.action) ≡ false) is
        (grants_free p j e.lane a b t f e.call e.reply (v.entry_ruled p e j legal) ic ir)
    of_call (call.Claim a b t f) _ ic ir g = absurd (cc)
    of_call _ _ ic ir g = absurd (cc)
