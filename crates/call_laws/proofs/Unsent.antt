-- A branch that was launched and not sent is bound to its line until that Ends, unless its action
-- is granted.
use Rattle.std.proofs.Common.{◌≡◌, ℕ, true, false, cond, List, [], ◌∷◌, Option, Some, None, option_map, ◌⊎◌, inl, inr, refl, sym, subst, ◌∙◌, ℤ}
use Rattle.std.proofs.lemmas.Bool.{eq-eqb, and_parts, or_right}
use Rattle.run_plan.specs.declared.plan.Plan.{Plan}
use Rattle.exec_journal.specs.Lawful as lw
use Rattle.exec_journal.specs.declared.attempt.Attempt.{Attempt}
use Rattle.exec_journal.specs.Entry.{Entry}
use Rattle.exec_journal.specs.declared.ends.Cause.{Cause}
use Rattle.exec_journal.specs.declared.call.Call.{Call}
use Rattle.exec_journal.specs.declared.call.Call.TheVariants as call
use Rattle.exec_journal.specs.declared.call.Found.{Found}
use Rattle.exec_journal.specs.declared.call.HowEnded.{HowEnded}
use Rattle.exec_journal.specs.declared.call.Started.{Started}
use Rattle.exec_journal.specs.declared.call.Started.TheVariants as start
use Rattle.exec_journal.specs.declared.call.Written.{Written}
use Rattle.list_lemmas.specs.Options.{unless_before}
use Rattle.exec_journal.specs.Entries.{same_attempt, is_for, is_done, refused_in, send_of_entry}
use Rattle.exec_journal.specs.Words.{last_work, failed, has_ended, was_sent, granted}
use Rattle.exec_journal.specs.Attempts.{line_of, fault_of, fault_at, fault_by, start_cause, unwritten_cause, found_cause, refused_cause, ended}
use Rattle.exec_journal.specs.Settled.{wanted, bound}
use Rattle.exec_journal.specs.Scripts as sc
use Rattle.exec_journal.specs.Lawful.{Lawful}
use Rattle.exec_journal.proofs.Ruled.{by_bool}
use Rattle.exec_journal.proofs.Begins.{begin_in_order, same_attempt_eq, launched_begun}
use Rattle.journal_laws.proofs.Carried as k
use Rattle.journal_laws.proofs.Over as v
use Rattle.journal_laws.proofs.Claims as c
use Rattle.journal_laws.proofs.Claims.{clash, false_by}
use Rattle.journal_laws.proofs.Granted as g
use Rattle.journal_laws.proofs.Firm as f
use Rattle.journal_laws.proofs.Exactly as ex
use Rattle.journal_laws.proofs.Cleaned as cl
use Rattle.call_laws.proofs.LastLines as ll
use Rattle.call_laws.proofs.Ended as ed
use Rattle.call_laws.proofs.LineEnds as le

-- ---- what wasn't sent has no fault but that of its Launched

-- the attempt's line failed to launch
record HasFailed (j : List Entry) (t : Attempt) : Type 0 where
  pub line : ℕ
  pub carrier : line_of j t ≡ Some line
  pub fault : failed j line ≡ true

failed_later : (p : Plan) (e : Entry) (j : List Entry) (t : Attempt) → Lawful p (e ∷ j)
    → HasFailed j t → HasFailed (e ∷ j) t
unfolding failed
failed_later p e j t legal h = record {
  line = h.line;
  carrier = k.line_stays e j t h.line (begin_in_order p (e ∷ j) legal) h.carrier;
  fault = or_right _ _ h.fault;
}

failed_here : (e : Entry) (j : List Entry) (l : ℕ) (how : Started) → e.call ≡ call.Launched l how
    → is_done how ≡ false → failed (e ∷ j) l ≡ true
unfolding failed
failed_here e j l how is fault = rw (is, fault, eq-eqb l l refl) refl

faulty : (how : Started) (x : Cause) → start_cause how ≡ Some x → is_done how ≡ false
faulty start.Done x h = absurd (cc)
faulty start.RoomFault x h = refl
faulty start.LaunchFault x h = refl

fault_new_at : (e : Entry) (j : List Entry) (t : Attempt) (x : Cause) → fault_of (e ∷ j) t ≡ Some x
    → (fault_of j t ≡ Some x) ⊎ (fault_at t j e ≡ Some x)
unfolding fault_of
fault_new_at e j t x h = by (fault_at t j e) (fault_of j t) h
  where
    by : (n o : Option Cause) → unless_before n o ≡ Some x → (o ≡ Some x) ⊎ (n ≡ Some x)
    by None o g = inl g
    by (Some y) None g = inr g
    by (Some y) (Some z) g = inl g

module _ (p : Plan) (e : Entry) (j : List Entry) (t : Attempt) (x : Cause) (legal : Lawful p (e ∷ j))
    (unsent : was_sent j t ≡ false) where
  at_launched : (l : ℕ) (how : Started) → e.call ≡ call.Launched l how → fault_at t j e ≡ Some x
      → HasFailed (e ∷ j) t
  at_launched l how is h =
      let order = ed.launched_order p j e.lane l how legal.0
      (subst (λ (d : Call). lw.in_script p j e.lane d ≡ true) is legal.1.scripted) in
      by_bool (same_attempt order.attempt t) (λ b. same_attempt order.attempt t ≡ b
      → cond b (start_cause how) None ≡ Some x → HasFailed (e ∷ j) t)
      (λ _ same g.
      let are = k.are_carried j (begin_in_order p j legal.0) in
      let there : line_of j t ≡ Some l = subst (λ (a : Attempt). line_of j a ≡ Some l)
      (same_attempt_eq order.attempt t same) (are.launched l e.lane order.attempt
      order.launched) in
      record {
        line = l;
        carrier = k.line_stays e j t l (begin_in_order p (e ∷ j) legal) there;
        fault = failed_here e j l how is (faulty how x g);
      })
      (λ _ _ g. absurd (cc)) refl (sym (ed.launch_fault e j l how order.order order.attempt t is
      order.newest order.launch) ∙ h)

  at_wrote : (l : ℕ) (n : ℤ) (how : Written) (w : Option Entry) → last_work j e.lane ≡ w
      → fault_by t w (call.Wrote l n how) e.reply ≡ Some x → HasFailed (e ∷ j) t
  at_wrote l n how None at h = absurd (cc)
  at_wrote l n how (Some d) at h =
      by_bool (is_for t (option_map (λ r. r.attempt) (send_of_entry (Some d))))
      (λ b. is_for t (option_map (λ r. r.attempt) (send_of_entry (Some d))) ≡ b
      → cond b (unwritten_cause how) None ≡ Some x → HasFailed (e ∷ j) t)
      (λ _ fits g. absurd (clash (was_sent j t) (c.sent_newest j t e.lane d at fits) unsent))
      (λ _ _ g. absurd (cc)) refl h

  at_claim : (y : Option (Attempt × Found)) → refused_in e.call e.reply ≡ y
      → refused_cause t y ≡ Some x → HasFailed (e ∷ j) t
  at_claim None is h = absurd (cc)
  at_claim (Some y) is h =
      by_bool (same_attempt y.0 t) (λ b. same_attempt y.0 t ≡ b
      → cond b (found_cause y.1) None ≡ Some x → HasFailed (e ∷ j) t)
      (λ _ same g.
      let sent = c.claim_sent p e j y.0 legal (ex.refused_claims e.call e.reply y is) in
      absurd (clash (was_sent j t) (subst (λ (a : Attempt). was_sent j a ≡ true)
      (same_attempt_eq y.0 t same) sent) unsent))
      (λ _ _ g. absurd (cc)) refl h

  at_entry : (d : Call) → e.call ≡ d → fault_by t (last_work j e.lane) d e.reply ≡ Some x
      → HasFailed (e ∷ j) t
  at_entry (call.Launched l how) is h = at_launched l how is (rw is h)
  at_entry (call.Wrote l n how) is h = at_wrote l n how (last_work j e.lane) refl h
  at_entry (call.Claim a b n y) is h = at_claim (refused_in e.call e.reply) refl (rw is h)
  at_entry _ is h = absurd (cc)

unsent_fault : (p : Plan) (j : List Entry) (t : Attempt) (x : Cause) → Lawful p j
    → fault_of j t ≡ Some x → was_sent j t ≡ false → HasFailed j t
unfolding fault_of
unsent_fault p [] t x legal h unsent = absurd (cc)
unsent_fault p (e ∷ j) t x legal h unsent = by (fault_new_at e j t x h)
    (λ y. unsent_fault p j t x legal.0 y before)
  where
    before : was_sent j t ≡ false
    before = false_by _ (λ y. clash _ (k.sent_later e j t y) unsent)

    by : (fault_of j t ≡ Some x) ⊎ (fault_at t j e ≡ Some x)
        → (fault_of j t ≡ Some x → HasFailed j t) → HasFailed (e ∷ j) t
    by (inl old) ih = failed_later p e j t legal (ih old)
    by (inr now) ih = at_entry p e j t x legal before e.call refl now

-- ---- so it is bound where its line Ends

pub unsent_bound : (p : Plan) (e : Entry) (j : List Entry) (l : ℕ) (how : HowEnded) (t : Attempt)
    → Lawful p (e ∷ j) → e.call ≡ call.Ended l how → line_of j t ≡ Some l → was_sent j t ≡ false
    → granted j t.action ≡ false
    → bound p j l ≡ Some t
unsent_bound p e j l how t legal is at unsent free = by (cl.on_line p j t l legal.0 at)
  where
    heard : ll.IsHeard j l
    heard = ll.heard p j e.lane l how legal.0 (subst (λ (d : Call). lw.in_script p j e.lane d ≡ true)
        is legal.1.scripted)

    of_ends : v.Ends j t → ⊥
    of_ends (v.Faulted x fault) =
        let was = unsent_fault p j t x legal.0 fault unsent in
        let both : Some was.line ≡ Some l = sym was.carrier ∙ at in
        let same : was.line ≡ l = cc in
        clash (failed j l) (subst (λ i. failed j i ≡ true) same was.fault)
        (c.started_unfailed p j l legal.0 heard.up)
    of_ends (v.IsLost m on lost) =
        let both : Some m ≡ Some l = sym on ∙ at in
        let same : m ≡ l = cc in
        clash (has_ended j l) (subst (λ i. has_ended j i ≡ true) same
        (and_parts (has_ended j m) _ lost).0) heard.running

    going : ended j t ≡ false
    going = false_by _ (λ over. of_ends (v.ended_is p j t legal.0 over))

    by : cl.OnLine j t l → bound p j l ≡ Some t
    by (cl.Sent sent) = absurd (clash (was_sent j t) sent unsent)
    by (cl.Launched m launched) =
        let is_going = g.going_is p j t legal.0 (launched_begun j l m t launched) going in
        let wish : wanted p j t.action t.branch ≡ true = f.going_wanted p j t legal.0 is_going
        ∙ rw free refl in
        le.bound_to p j l m t launched wish unsent going
