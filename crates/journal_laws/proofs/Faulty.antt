-- What a Launched and a Wrote are about is under way, but a request that was left unanswered on a line that has Ended; and what is pending.
use Rattle.std.proofs.Common.{◌≡◌, ℕ, Bool, true, false, ◌&&◌, List, [], ◌∷◌, Option, Some, None, ◌⊎◌, inl, inr, refl, sym, subst, ◌∙◌, ℤ}
use Rattle.std.specs.List.{filter}
use Rattle.std.proofs.lemmas.Bool.{eq-eqb, and_from}
use Rattle.run_plan.specs.declared.plan.Plan.{Plan}
use Rattle.exec_journal.specs.declared.attempt.Attempt.{Attempt}
use Rattle.exec_journal.specs.Entry.{Entry}
use Rattle.exec_journal.specs.declared.ends.Cause.{Cause}
use Rattle.exec_journal.specs.declared.call.Call.{Call}
use Rattle.exec_journal.specs.declared.call.Call.TheVariants as call
use Rattle.exec_journal.specs.declared.call.HowEnded.{HowEnded}
use Rattle.exec_journal.specs.declared.call.Started.{Started}
use Rattle.exec_journal.specs.declared.call.Written.{Written}
use Rattle.exec_journal.specs.declared.call.Written.TheVariants as write
use Rattle.exec_journal.specs.declared.reply.Reply.{Reply}
use Rattle.exec_journal.specs.History.{AtEach}
use Rattle.exec_journal.specs.Entries.{Request, launch_in}
use Rattle.exec_journal.specs.Words.{last_work, launch_of, sends, pending, is_pending, was_sent, answered, wrote, says_unwritten, says_done, says_feed_fault, has_ended, started, granted, order_of}
use Rattle.exec_journal.specs.Attempts.{line_of, fault_by, fault_at, ended}
use Rattle.exec_journal.specs.Lawful.{Lawful}
use Rattle.journal_laws.specs.Invariant.{claimed, EachRequest, IsGoing, EndsWith, ByFault, ByEnd, ByFeed}
use Rattle.exec_journal.proofs.Begins.{same_attempt_refl, begin_in_order}
use Rattle.journal_laws.proofs.Owed as o
use Rattle.journal_laws.proofs.Owed.{Keeps, Leaves, is_work}
use Rattle.journal_laws.proofs.Carried as k
use Rattle.journal_laws.proofs.Over as v
use Rattle.journal_laws.proofs.Claims as c
use Rattle.journal_laws.proofs.Claims.{clash, false_by, is_launch_it}
use Rattle.journal_laws.proofs.Granted as g
use Rattle.journal_laws.proofs.Endings as en
use Rattle.journal_laws.proofs.Exactly as ex
use Rattle.journal_laws.proofs.Requests as q
use Rattle.journal_laws.proofs.Keeping as ke
use Rattle.journal_laws.proofs.Offered as of
use Rattle.journal_laws.proofs.Lanes as la
use Rattle.journal_laws.proofs.Places as pl
use Rattle.journal_laws.proofs.Given as gi

-- ---- a Launched

fault_works : (t : Attempt) (w : Option Entry) (d : Call) (x : Reply) (f : Cause) → fault_by t w d x ≡ Some f → is_work d ≡ true
fault_works t w (call.Launched l how) x f h = refl
fault_works t w (call.Wrote l n how) x f h = refl
fault_works t w (call.Claim a b n y) x f h = refl
fault_works t w _ x f h = absurd (cc)

-- while its Launch is its lane's newest work, the attempt hasn't ended
record IsUntouched (j : List Entry) (l : ℕ) (s : Attempt) : Type 0 where
  pub unstarted : c.IsUnstarted j l s
  pub going : ended j s ≡ false

carried : (p : Plan) (j : List Entry) (l m : ℕ) (s : Attempt) → Lawful p j → launch_of j l ≡ Some (m, s) → line_of j s ≡ Some l
carried p j l m s legal at = (k.are_carried j (begin_in_order p j legal)).launched l m s at

ends_there : (e : Entry) (j : List Entry) (l : ℕ) (how : HowEnded) → e.call ≡ call.Ended l how → has_ended (e ∷ j) l ≡ true
unfolding has_ended
ends_there e j l how is = rw (is, eq-eqb l l refl) refl

not_ended : (p : Plan) (l : ℕ) (s : Attempt) (e : Entry) (j : List Entry) → Lawful p (e ∷ j) → c.IsUnstarted j l s → ended j s ≡ false → Leaves (is_launch_it l s) j e → ended (e ∷ j) s ≡ false
not_ended p l s e j legal un going leaves = false_by _ (λ now. by (en.ends_with p e j s legal now going).0)
  where
    on_line : line_of j s ≡ Some l
    on_line = carried p j l un.on.lane s legal.0 un.on.is

    of_write : (y : Written) → c.WritesIt j e s y → ⊥
    of_write y it = clash (was_sent j s) (c.sent_newest j s e.lane it.order it.newest it.fits) un.unsent

    of_fault : (f : Cause) → fault_at s j e ≡ Some f → c.FaultsAt j e s → ⊥
    of_fault f is (c.AtLaunched d m newest launch) =
        let on = c.newest_launch p j e.lane m s d legal.0 newest launch in
        let both : Some m ≡ Some l = sym (carried p j m on.lane s legal.0 on.is) ∙ on_line in
        let same : m ≡ l = cc in
        let fit : is_launch_it l s d ≡ true = rw launch (and_from _ _ (eq-eqb m l same) (same_attempt_refl s)) in
        leaves d newest fit (fault_works s (last_work j e.lane) e.call e.reply f is)
    of_fault f is (c.AtWrote y at un_written) = of_write y (c.wrote_at_is j e s y at)
    of_fault f is (c.AtClaim h) = clash (was_sent j s) (c.claim_sent p e j s legal h) un.unsent

    by : EndsWith j e s → ⊥
    by (ByFault f is) = of_fault f is (c.fault_cases j e s f is)
    by (ByEnd m how is at left) =
        let both : Some m ≡ Some l = sym at ∙ on_line in
        let same : m ≡ l = cc in
        let is_here : e.call ≡ call.Ended l how = is ∙ (λ i. call.Ended (same i) how) in
        let up = gi.ended_started p (e ∷ j) l legal (ends_there e j l how is_here) in
        let was : started (e ∷ j) l ≡ started j l = c.started_same e j l (rw is_here refl) in
        clash (started j l) (sym was ∙ up) un.unstarted
    by (ByFeed m at there over) = of_write write.FeedFault (c.wrote_at_is j e s write.FeedFault at)

untouched_keeps : (p : Plan) (l : ℕ) (s : Attempt) (j : List Entry) → Lawful p j → AtEach (Keeps (is_launch_it l s) (λ i. IsUntouched i l s)) j
untouched_keeps p l s [] legal = tt
untouched_keeps p l s (e ∷ j) legal = (
  untouched_keeps p l s j legal.0,
  record {
    begin = λ h. record { unstarted = (old.begin h); going = begins h };
    stay = λ was leaves. record { unstarted = old.stay was.unstarted leaves; going = not_ended p l s e j legal was.unstarted was.going leaves };
  },
)
  where
    old : Keeps (is_launch_it l s) (λ i. c.IsUnstarted i l s) j e
    old = (c.launch_owed_keeps p l s (e ∷ j) legal).1

    begins : is_launch_it l s e ≡ true → ended (e ∷ j) s ≡ false
    begins h =
        let is = c.launches_is l s (launch_in e.reply) h in
        let b = of.begins_one p e j s legal (c.launch_begins e.reply (l, s) is) (c.launch_next p e j (l, s) legal is).unbegun in
        b.same.ended_too s ∙ b.going

-- the attempt of a Launched is under way
pub launched_going : (p : Plan) (e : Entry) (j : List Entry) (l m : ℕ) (how : Started) (s : Attempt) → Lawful p (e ∷ j) → e.call ≡ call.Launched l how → launch_of j l ≡ Some (m, s) → IsGoing j s
launched_going p e j l m how s legal is at =
    let order = ex.launch_order p e j l m how s legal is at in
    let fit : is_launch_it l s order.entry ≡ true = rw order.launch (and_from _ _ (eq-eqb l l refl) (same_attempt_refl s)) in
    let now = o.while_owed (is_launch_it l s) (λ i. IsUntouched i l s) j (c.launched_once p l s j legal.0) (untouched_keeps p l s j legal.0) e.lane order.entry order.newest fit in
    g.going_is p j s legal.0 (k.carried_begun j s l (carried p j l m s legal.0 at)) now.going

-- ---- a Wrote

none_says : (o : Option Written) → o ≡ None → (says_unwritten o ≡ false) × (says_done o ≡ false) × (says_feed_fault o ≡ false)
none_says None h = (refl, refl, refl)
none_says (Some y) h = absurd (cc)

module _ (p : Plan) (e : Entry) (j : List Entry) (l : ℕ) (n : ℤ) (how : Written) (x : Request) (legal : Lawful p (e ∷ j)) (is : e.call ≡ call.Wrote l n how) (order : order_of j e.lane ≡ Some x) where
  pub order_on : k.IsSentOn j x.line x
  order_on =
      let w = la.writes_request p e j l n how x legal is order in
      of.all_head_of (k.IsSentOn j x.line) (sends j x.line) x (k.sends_on j x.line (begin_in_order p j legal.0)) (la.newest_head p j e.lane w.order x legal.0 w.newest w.sends_it)

  nothing : (says_unwritten (wrote j x.attempt) ≡ false) × (says_done (wrote j x.attempt) ≡ false) × (says_feed_fault (wrote j x.attempt) ≡ false)
  nothing = none_says (wrote j x.attempt) (pl.first_write p j e.lane x legal.0 order)

  unclaimed : claimed j x.attempt ≡ false
  unclaimed = false_by _ (λ y. clash _ (c.gathered_is p j x.attempt legal.0 (c.claimed_gathered p j x.attempt legal.0 y)).written nothing.1)

  unlost : (has_ended j x.line ≡ false) ⊎ (answered j x.attempt ≡ true) → (m : ℕ) → line_of j x.attempt ≡ Some m → v.is_lost j x.attempt m ≡ false
  unlost (inl running) m at =
      let both : Some m ≡ Some x.line = sym at ∙ order_on.carrier in
      let same : m ≡ x.line = cc in
      let up : has_ended j m ≡ false = subst (λ i. has_ended j i ≡ false) (sym same) running in
      rw up refl
  unlost (inr done) m at = rw (done, nothing.2) (neither (has_ended j m))
    where
      neither : (b : Bool) → (b && false) ≡ false
      neither true = refl
      neither false = refl

  -- the attempt of a Wrote is under way, where its line hasn't Ended or it was answered
  pub written_going : (has_ended j x.line ≡ false) ⊎ (answered j x.attempt ≡ true) → IsGoing j x.attempt
  written_going h =
      g.going_is p j x.attempt legal.0 (k.sent_begun j x.attempt order_on.sent)
      (g.still_going p j x.attempt legal.0 order_on.sent nothing.0 unclaimed (λ m at. unlost h m at))

  -- else it has ended before, where its action has no grant
  pub written_over : has_ended j x.line ≡ true → answered j x.attempt ≡ false → granted j x.attempt.action ≡ false → ended j x.attempt ≡ true
  written_over over un free = v.over_ended j x.attempt free (v.IsLost x.line order_on.carrier (and_from _ _ over (rw un refl)))

-- ---- what is pending

pub pendings_going : (p : Plan) (j : List Entry) (l : ℕ) → Lawful p j → EachRequest (λ y. IsGoing j y.attempt) (pending j l)
unfolding pending
pendings_going p j l legal =
    of.each_of (λ y. IsGoing j y.attempt) (filter (is_pending j) (sends j l))
    (k.all_map (λ y. k.IsSentOn j l y × (is_pending j y ≡ true)) (λ y. IsGoing j y.attempt) (λ y h. q.pending_going p j l y legal h.0 h.1) _
    (ke.filter_passes (k.IsSentOn j l) (is_pending j) (sends j l) (k.sends_on j l (begin_in_order p j legal))))
