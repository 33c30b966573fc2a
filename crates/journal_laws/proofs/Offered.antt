-- What the tables and the core ask of each kind of entry is so in every legal journal.
use Rattle.std.proofs.Common.{◌≡◌, ℕ, ◌+◌, ◌*◌, ◌-◌, ◌/◌, ◌<◌, ◌==◌, nat_lt, Bool, true, false, ◌&&◌, not, cond, List, [], ◌∷◌, length, Option, Some, None, option_and_then, unwrap_or, ◌⊎◌, inl, inr, refl, sym, ap, subst, ◌∙◌, ℤ, pos, arith}
use Rattle.std.specs.Prelude.{slice_get, sum_by}
use Rattle.std.specs.List.{filter, find}
use Rattle.std.specs.Ordering.{int_eq}
use Rattle.std.proofs.lemmas.Bool.{eqb-true, eq-eqb, ltb-true, ltb-false, and_parts, or_left, or_right}
use Rattle.std.proofs.lemmas.Bool.Decides.{Decides-int_eq}
use Rattle.std.proofs.lemmas.Option.{slice_get_within}
use Rattle.std.proofs.lemmas.List.Sums.{sum_by-cons}
use Rattle.run_plan.specs.declared.plan.Branch.{Branch}
use Rattle.run_plan.specs.declared.plan.Group.{Group}
use Rattle.run_plan.specs.declared.plan.Plan.{Plan}
use Rattle.exec_journal.specs.Seated.{line_kind}
use Rattle.exec_journal.specs.declared.attempt.Attempt.{Attempt}
use Rattle.exec_journal.specs.Entry.{Entry}
use Rattle.exec_journal.specs.declared.call.Answer.{Answer}
use Rattle.exec_journal.specs.declared.call.Call.{Call}
use Rattle.exec_journal.specs.declared.call.Call.TheVariants as call
use Rattle.exec_journal.specs.declared.call.CommitEnd.{CommitEnd}
use Rattle.exec_journal.specs.declared.call.Found.{Found}
use Rattle.exec_journal.specs.declared.call.Found.TheVariants as found
use Rattle.exec_journal.specs.declared.reply.Reply.{Reply}
use Rattle.exec_journal.specs.declared.reply.Reply.TheVariants as reply
use Rattle.list_lemmas.specs.Options.{unless_before, and_more}
use Rattle.exec_journal.specs.Entries.{Request, attempt_of, same_attempt, same_branch, send_in, consumed_in, granted_in, committed_in}
use Rattle.exec_journal.specs.Words.{last_work, sends, sent_on, pending, is_pending, was_sent, answered, has_ended, granted, grant_of, commit_of}
use Rattle.exec_journal.specs.Attempts.{begun_in, line_of}
use Rattle.exec_journal.specs.Settled.{wanted}
use Rattle.run_plan.specs.Groups.{group_from, berth_group, berths, group_of, kind_of, is_single}
use Rattle.exec_journal.specs.Rules as r
use Rattle.exec_journal.specs.Rules.{is_unwanted}
use Rattle.exec_journal.specs.Race.{commits, committed}
use Rattle.exec_journal.specs.Lawful as lw
use Rattle.exec_journal.specs.Scripts as sc
use Rattle.exec_journal.specs.Lawful.{Lawful}
use Rattle.exec_journal.specs.Facts.{begun, call_line, IsOfBerth, OfBerth, BeginsNext, ContinuesOn}
use Rattle.journal_laws.specs.Invariant.{IsGoing, NumberedAs, older, EachRequest}
use Rattle.journal_laws.specs.Steps.{BeginsOne, IsUngranted, IsGrantedFiles, WantedFollows, BoundIsCarried, IsFreshSend, KnownByNumber, IsPastAttempt, WantedUnlessGranted}
use Rattle.exec_journal.proofs.Histories.{AllOf, all_filter, all_head, all_find}
use Rattle.exec_journal.proofs.Reasons as u
use Rattle.exec_journal.proofs.Ruled.{by_bool, not_true}
use Rattle.exec_journal.proofs.Lines.{last_line_own, lines_named}
use Rattle.exec_journal.proofs.Begins.{same_attempt_eq, same_attempt_refl, begin_in_order, attempts_in_order, bound_is, wanted_is}
use Rattle.journal_laws.proofs.Owed as o
use Rattle.journal_laws.proofs.Owed.{is_send}
use Rattle.journal_laws.proofs.Carried as k
use Rattle.journal_laws.proofs.Over as v
use Rattle.journal_laws.proofs.Claims as c
use Rattle.journal_laws.proofs.Claims.{clash, false_by}
use Rattle.journal_laws.proofs.Granted as g
use Rattle.journal_laws.proofs.Races as ra
use Rattle.journal_laws.proofs.Firm as f
use Rattle.journal_laws.proofs.Requests as q
use Rattle.journal_laws.proofs.Keeping as ke
use Rattle.journal_laws.proofs.Endings as en
use Rattle.journal_laws.proofs.Stops as st
use Rattle.exec_journal.proofs.Begins as bg

-- ---- an attempt begins

begins_ask : (p : Plan) (j : List Entry) (lane : ℕ) (d : Call) (x : Reply) (t : Attempt) → u.Ruled p j lane d x → begun_in x ≡ Some t → d ≡ call.Ask
begins_ask p j lane d x t (u.Sends l s here alive next none) h = refl
begins_ask p j lane d x t (u.Launches gr s vacant next none) h = refl
begins_ask p j lane d x t (u.KillsBroken l y here run broken over) h = absurd (cc)
begins_ask p j lane d x t _ h = absurd (cc)

pub begins_one : (p : Plan) (e : Entry) (j : List Entry) (t : Attempt) → Lawful p (e ∷ j) → begun_in e.reply ≡ Some t → begun j t ≡ false → BeginsOne j e t
begins_one p e j t legal h new = record {
  begins = h;
  next = next_of (st.begins_it j e.reply t (begin_in_order p (e ∷ j) legal).1 h);
  going = false_by _ (λ over. clash (begun j t) (c.ended_begun p j t legal.0 over) new);
  same = en.ask_changes_none p e j legal (begins_ask p j e.lane e.call e.reply t (v.entry_ruled p e j legal) h);
}
  where
    next_of : st.BeginsIt j t → BeginsNext j t
    next_of (st.New next) = next
    next_of (st.Again start latest) = absurd (clash (begun j t) start new)

-- ---- grants and commits

commits_of : (e : Entry) (j : List Entry) (a : ℕ) (b : Branch) (how : CommitEnd) → commit_of (e ∷ j) a b ≡ Some how → (commits a e.call ≡ true) ⊎ (commit_of j a b ≡ Some how)
unfolding commit_of
commits_of e j a b how h = by (committed_in a b e.call) refl (commit_of j a b) h
  where
    new : (d : Call) (y : CommitEnd) → committed_in a b d ≡ Some y → commits a d ≡ true
    new (call.Committed x z w) y g = by_bool ((x == a) && same_branch z b) (λ t. ((x == a) && same_branch z b) ≡ t → cond t (Some w) None ≡ Some y → (x == a) ≡ true) (λ _ is _. (and_parts (x == a) _ is).0) (λ _ _ m. absurd (cc)) refl g
    new _ y g = absurd (cc)

    by : (n : Option CommitEnd) → committed_in a b e.call ≡ n → (z : Option CommitEnd) → unless_before n z ≡ Some how → (commits a e.call ≡ true) ⊎ (z ≡ Some how)
    by None is z g = inr g
    by (Some y) is (Some w) g = inr g
    by (Some y) is None g = inl (new e.call y is)

commit_committed : (j : List Entry) (a : ℕ) (b : Branch) (how : CommitEnd) → commit_of j a b ≡ Some how → committed j a ≡ true
unfolding commit_of committed
commit_committed [] a b how h = absurd (cc)
commit_committed (e ∷ j) a b how h = elim (commits_of e j a b how h) [
  | inl now ↦ or_left (commits a e.call) _ now
  | inr before ↦ or_right (commits a e.call) _ (commit_committed j a b how before)
]

uncommitted_is : (j : List Entry) (a : ℕ) (b : Branch) → committed j a ≡ false → commit_of j a b ≡ None
uncommitted_is j a b h = by (commit_of j a b) refl
  where
    by : (z : Option CommitEnd) → commit_of j a b ≡ z → z ≡ None
    by None is = refl
    by (Some how) is = absurd (clash (committed j a) (commit_committed j a b how is) h)

pub is_ungranted : (p : Plan) (e : Entry) (j : List Entry) (y : Attempt × Found) → Lawful p (e ∷ j) → granted_in e.call e.reply ≡ Some y → IsUngranted j y.0.action
is_ungranted p e j y legal h =
    let free = g.grant_is_first p e j y legal h in
    record {
      ungranted = f.ungranted_is j y.0.action free;
      uncommitted = λ b. uncommitted_is j y.0.action b (false_by _ (λ old. clash (granted j y.0.action) (ra.committed_granted p j y.0.action legal.0 old) free));
    }

grant_new : (e : Entry) (j : List Entry) (y : Attempt × Found) → granted_in e.call e.reply ≡ Some y → grant_of j y.0.action ≡ None → grant_of (e ∷ j) y.0.action ≡ Some y
unfolding grant_of
grant_new e j y h none = rw (h, eq-eqb y.0.action y.0.action refl, none) refl

-- the grant that a lane answers with a Committed is the action's
newest_grant : (p : Plan) (j : List Entry) (lane : ℕ) (d : Entry) (y : Attempt × Found) → Lawful p j → last_work j lane ≡ Some d → granted_in d.call d.reply ≡ Some y → grant_of j y.0.action ≡ Some y
unfolding last_work
newest_grant p [] lane d y legal h is = absurd (cc)
newest_grant p (e ∷ j) lane d y legal h is = by (o.newest_cases e j lane d h) (λ m. newest_grant p j lane d y legal.0 m is)
  where
    by : ((e ≡ d) × (e.lane ≡ lane) × (o.is_work e.call ≡ true)) ⊎ ((((e.lane == lane) && o.is_work e.call) ≡ false) × (last_work j lane ≡ Some d))
        → (last_work j lane ≡ Some d → grant_of j y.0.action ≡ Some y) → grant_of (e ∷ j) y.0.action ≡ Some y
    by (inl here) ih =
        let mine : granted_in e.call e.reply ≡ Some y = subst (λ (x : Entry). granted_in x.call x.reply ≡ Some y) (sym here.0) is in
        grant_new e j y mine (f.ungranted_is j y.0.action (g.grant_is_first p e j y legal mine))
    by (inr before) ih = g.grant_same e j y.0.action y (ih before.1)

files_of : (a : ℕ) (b : Branch) (d : Call) (x : Reply) → sc.is_commit_of a b d x ≡ true → (n : ℕ) × (fs : List (List ℕ)) × (granted_in d x ≡ Some (attempt_of a b n, found.Files fs))
files_of a b (call.Claim m n t (found.Files fs)) reply.Granted h =
    let parts = and_parts (m == a) _ h in
    let i = eqb-true m a parts.0 in let w = bg.same_branch_eq n b parts.1 in
    (t, fs, (λ z. Some (attempt_of (i z) (w z) t, found.Files fs)))
files_of a b _ _ h = absurd (cc)

pub is_granted_files : (p : Plan) (e : Entry) (j : List Entry) (a : ℕ) (b : Branch) (how : CommitEnd) → Lawful p (e ∷ j) → e.call ≡ call.Committed a b how → IsGrantedFiles j a b
is_granted_files p e j a b how legal is =
    let answer = o.commit_answers p j e.lane a b how (subst (λ (x : Call). lw.in_script p j e.lane x ≡ true) is legal.1.scripted) in
    let won = files_of a b answer.order.call answer.order.reply answer.fits in
    record {
      number = won.0;
      files = won.1;
      winner = newest_grant p j e.lane answer.order (attempt_of a b won.0, found.Files won.1) legal.0 answer.newest won.2;
      uncommitted = uncommitted_is j a b (ra.owed_uncommitted p j a legal.0 e.lane answer.order answer.newest (ra.commit_of_action a b answer.order.call answer.order.reply answer.fits));
    }

-- ---- wanted and bound

pub wanted_follows : (p : Plan) (e : Entry) (j : List Entry) → Lawful p (e ∷ j) → WantedFollows p j e
wanted_follows p e j legal = record {
  unwanted = λ a b h. false_by _ (λ y. clash (wanted p j a b) (f.wanted_before p e j a b legal y) h);
  bound_yet = λ l t h free going. (let b = bound_is p j l t h in
      let start = c.begun_later e j t (bg.launched_begun j l b.lane t b.launched) in
      let is = g.going_is p (e ∷ j) t legal start going in
      f.going_wanted p (e ∷ j) t legal is ∙ rw free refl);
}

pub bound_carried : (p : Plan) (j : List Entry) → Lawful p j → BoundIsCarried p j
bound_carried p j legal = record {
  carrier = λ l t h. (let b = bound_is p j l t h in (k.are_carried j (begin_in_order p j legal)).launched l b.lane t b.launched);
  unanswered = λ l t h. (let b = bound_is p j l t h in false_by _ (λ y. clash (was_sent j t) (c.answered_sent p j t legal y) b.unsent));
}

-- ---- a Send

carried_on : (j : List Entry) (t : Attempt) (l : ℕ) → k.AreCarried j → BeginsNext j t ⊎ ContinuesOn j l t → (m : ℕ) → line_of j t ≡ Some m → m ≡ l
carried_on j t l are (inl next) m at = absurd (clash (begun j t) (k.carried_begun j t m at) next.unbegun)
carried_on j t l are (inr on) m at =
    let here = are.launched l on.launched.0 t on.launched.1 in
    let both : Some m ≡ Some l = sym at ∙ here in cc

pub fresh_send : (p : Plan) (e : Entry) (j : List Entry) (x : Request) → Lawful p (e ∷ j) → send_in e.reply ≡ Some x → IsFreshSend p j x.attempt x.line
fresh_send p e j x legal h =
    let ruled = v.entry_ruled p e j legal in
    let to = q.sends_to p j e.lane x.line e.call e.reply x ruled h refl in
    let sends : is_send x.attempt e ≡ true = rw h (same_attempt_refl x.attempt) in
    let it = k.send_of j e.reply x.attempt (begin_in_order p (e ∷ j) legal).1 sends in
    let both : Some it.request ≡ Some x = sym it.is ∙ h in
    let same : it.request ≡ x = cc in
    let begins : BeginsNext j x.attempt ⊎ ContinuesOn j x.line x.attempt = subst (λ (y : Request). BeginsNext j x.attempt ⊎ ContinuesOn j y.line x.attempt) same it.begins in
    let are = k.are_carried j (begin_in_order p j legal.0) in
    let unsent = k.unsent_by j x.line x.attempt begins in
    let own : IsOfBerth j x.line (e.lane / 2) = subst (λ (o : Option ℕ). OfBerth j o (e.lane / 2)) to.here (last_line_own (e.lane / 2) j (lines_named p j legal.0)) in
    record {
      group = ke.group_there p j x.line own.owner.0 own.owner.1 x.attempt legal.0 own.owner.2 to.next;
      unended = q.live_running j x.line to.up;
      unsent = unsent;
      unanswered = false_by _ (λ y. clash (was_sent j x.attempt) (c.answered_sent p j x.attempt legal.0 y) unsent);
      unwritten = c.unsent_unwritten j x.attempt unsent;
      carrier = carried_on j x.attempt x.line are begins;
      launched = λ n m at. carried_on j x.attempt x.line are begins m (are.launched m n x.attempt at);
    }

-- ---- pending requests and grants

pub each_of : (P : Request → Type 0) (xs : List Request) → AllOf P xs → EachRequest P xs
each_of P [] all = tt
each_of P (x ∷ xs) all = (all.0, each_of P xs all.1)

launched_sends : (p : Plan) (j : List Entry) (l : ℕ) (x : Request) → Lawful p j → k.IsSentOn j l x → is_pending j x ≡ true → IsGoing j x.attempt
launched_sends p j l x legal on h = q.pending_going p j l x legal on h

pub wanted_unless_granted : (p : Plan) (j : List Entry) (l : ℕ) → Lawful p j → WantedUnlessGranted p j l
unfolding pending
wanted_unless_granted p j l legal = record {
  within = each_of _ _ (k.all_map _ (λ x. x.attempt.action < length p.actions) (λ x h. (let is = q.pending_going p j l x legal h.0 h.1 in
      let has = f.going_ready_at p j x.attempt legal is.begun_yet in slice_get_within p.actions x.attempt.action has.action has.place)) _
      (ke.filter_passes (k.IsSentOn j l) (is_pending j) (sends j l) (k.sends_on j l (begin_in_order p j legal))));
  grants = each_of _ _ (k.all_map _ (λ x. is_unwanted p j x ≡ granted j x.attempt.action) (λ x h. (let is = q.pending_going p j l x legal h.0 h.1 in
      ap not (f.going_wanted p j x.attempt legal is) ∙ twice (granted j x.attempt.action))) _
      (ke.filter_passes (k.IsSentOn j l) (is_pending j) (sends j l) (k.sends_on j l (begin_in_order p j legal))));
}
  where
    twice : (b : Bool) → not (not b) ≡ b
    twice true = refl
    twice false = refl

-- ---- a request is known by its line and its number

-- no two requests of the list have one attempt
pub AreDistinct : List Request → Type 0
AreDistinct [] = Unit {0}
AreDistinct (y ∷ ys) = AllOf (λ x. same_attempt y.attempt x.attempt ≡ false) ys × AreDistinct ys

apart_sent : (j : List Entry) (l : ℕ) (t : Attempt) (x : Request) → was_sent j t ≡ false → k.IsSentOn j l x → same_attempt t x.attempt ≡ false
apart_sent j l t x un on = false_by _ (λ same. clash (was_sent j t) (subst (λ (w : Attempt). was_sent j w ≡ true) (sym (same_attempt_eq t x.attempt same)) on.sent) un)

pub distinct : (p : Plan) (j : List Entry) (l : ℕ) → Lawful p j → AreDistinct (sends j l)
unfolding AreDistinct sends
distinct p [] l legal = tt
distinct p (e ∷ j) l legal = by (sent_on l e.reply) refl (distinct p j l legal.0)
  where
    by : (z : Option Request) → sent_on l e.reply ≡ z → AreDistinct (sends j l) → AreDistinct (and_more z (sends j l))
    by None is all = all
    by (Some x) is all =
        let s = q.sent_on_is l e.reply x is in
        let new = fresh_send p e j x legal s.0 in
        (k.all_map (k.IsSentOn j l) (λ y. same_attempt x.attempt y.attempt ≡ false) (λ y on. apart_sent j l x.attempt y new.unsent on) _ (k.sends_on j l (begin_in_order p j legal.0)), all)

same_attempt_sym : (s t : Attempt) → same_attempt s t ≡ false → same_attempt t s ≡ false
same_attempt_sym s t h = false_by _ (λ y. clash (same_attempt s t) (subst (λ (w : Attempt). same_attempt w t ≡ true) (same_attempt_eq t s y) (same_attempt_refl t)) h)

lower : (qs : List Request) (n : ℕ) (z : ℤ) → NumberedAs false qs → length qs < n → z ≡ pos n → AllOf (λ x. int_eq x.number z ≡ false) qs
lower [] n z all lt is = tt
lower (x ∷ qs) n z all lt is = (
  false_by _ (λ same. let e = (Decides-int_eq x.number z).0 same in let m : pos (length qs + 1) ≡ pos n = sym all.0 ∙ e ∙ is in let i : length qs + 1 ≡ n = cc in absurd (omega arith)),
  lower qs n z all.1 (omega arith) is,
)

pub by_number : (qs : List Request) (z : ℤ) (x : Request) → NumberedAs false qs → AreDistinct qs → find (λ y. int_eq y.number z) qs ≡ Some x → AllOf (λ y. same_attempt x.attempt y.attempt ≡ int_eq y.number z) qs
unfolding AreDistinct
by_number [] z x numbers apart h = tt
by_number (y ∷ qs) z x numbers apart h =
    by_bool (int_eq y.number z) (λ b. int_eq y.number z ≡ b → cond b (Some y) (find (λ w. int_eq w.number z) qs) ≡ Some x → AllOf (λ w. same_attempt x.attempt w.attempt ≡ int_eq w.number z) (y ∷ qs))
    (λ _ same m.
    let e : y ≡ x = cc in
    let n : z ≡ pos (length qs + 1) = sym ((Decides-int_eq y.number z).0 same) ∙ numbers.0 in
    subst (λ (v : Request). AllOf (λ w. same_attempt v.attempt w.attempt ≡ int_eq w.number z) (y ∷ qs)) e (
      same_attempt_refl y.attempt ∙ sym same,
      k.all_map _ (λ w. same_attempt y.attempt w.attempt ≡ int_eq w.number z) (λ w h. h.0 ∙ sym h.1) _
          (k.all_both (λ w. same_attempt y.attempt w.attempt ≡ false) (λ w. int_eq w.number z ≡ false) qs apart.0 (lower qs (length qs + 1) z numbers.1 (omega arith) n)),
    ))
    (λ _ off m.
    let other = all_find (λ w. same_attempt y.attempt w.attempt ≡ false) (λ w. int_eq w.number z) qs x apart.0 m in
    (same_attempt_sym y.attempt x.attempt other ∙ sym off, by_number qs z x numbers.1 apart.1 m)) refl h

-- on a Single line it is the only one that is pending
pub only_head : (test : Request → Bool) (qs : List Request) (x : Request) (P : Request → Type 0) → EachRequest (λ y. test y ≡ false) (older qs) → r.head qs ≡ Some x → P x → EachRequest P (filter test qs)
only_head test [] x P closed h y = tt
only_head test (w ∷ qs) x P closed h y =
    let e : w ≡ x = cc in
    by_bool (test w) (λ b. EachRequest P (cond b (w ∷ filter test qs) (filter test qs)))
    (λ _. (subst P (sym e) y, none qs closed)) (λ _. none qs closed)
  where
    none : (ys : List Request) → EachRequest (λ z. test z ≡ false) ys → EachRequest P (filter test ys)
    none [] all = tt
    none (z ∷ ys) all = subst (λ b. EachRequest P (cond b (z ∷ filter test ys) (filter test ys))) (sym all.0) (none ys all.1)

pub each_filter : (P : Request → Type 0) (test : Request → Bool) (xs : List Request) → AllOf P xs → EachRequest P (filter test xs)
each_filter P test xs all = each_of P (filter test xs) (all_filter P test xs all)

pub other_lines : (p : Plan) (j : List Entry) (l : ℕ) (s : Attempt) → Lawful p j → line_of j s ≡ Some l → (m : ℕ) → (l == m) ≡ false → EachRequest (λ y. same_attempt s y.attempt ≡ false) (pending j m)
unfolding pending
other_lines p j l s legal at m apart =
    each_filter _ (is_pending j) (sends j m) (k.all_map (k.IsSentOn j m) (λ y. same_attempt s y.attempt ≡ false) (λ y on. false_by _ (λ same.
    let there : line_of j s ≡ Some m = subst (λ (w : Attempt). line_of j w ≡ Some m) (sym (same_attempt_eq s y.attempt same)) on.carrier in
    let both : Some l ≡ Some m = sym at ∙ there in
    let e : l ≡ m = cc in
    clash (l == m) (eq-eqb l m e) apart)) _ (k.sends_on j m (begin_in_order p j legal)))

pub all_head_of : (P : Request → Type 0) (xs : List Request) (x : Request) → AllOf P xs → r.head xs ≡ Some x → P x
all_head_of P xs x all h = all_head P xs x all h

-- of an answer that is consumed
pub known_by_answer : (p : Plan) (e : Entry) (j : List Entry) (l : ℕ) (x : Answer) (s : Attempt) → Lawful p (e ∷ j) → e.call ≡ call.Answer l x → consumed_in e.reply ≡ Some s → KnownByNumber j l x.number s
unfolding pending
known_by_answer p e j l x s legal ic is =
    let one = v.consumes p j e.lane e.call e.reply s (v.entry_ruled p e j legal) is in
    let same_call : call.Answer one.line one.answer ≡ call.Answer l x = sym one.is ∙ ic in
    let l_is : one.line ≡ l = cc in
    let x_is : one.answer ≡ x = cc in
    let asked : u.IsRequest p j l x one.request = subst (λ (y : Answer). u.IsRequest p j l y one.request) x_is (subst (λ n. u.IsRequest p j n one.answer one.request) l_is one.asked) in
    let named = (lines_named p (e ∷ j) legal).1.called in
    let own : IsOfBerth j l (e.lane / 2) = subst (λ (d : Call). OfBerth j (call_line d) (e.lane / 2)) ic named in
    subst (KnownByNumber j l x.number) one.of (of_asked one.request asked own)
  where
    of_asked : (y : Request) → u.IsRequest p j l x y → IsOfBerth j l (e.lane / 2) → KnownByNumber j l x.number y.attempt
    of_asked y asked own =
        let facts = q.line_facts p j l (e.lane / 2) legal.0 own in
        let on = v.of_request p j l x y (k.IsSentOn j l) asked (k.sends_on j l (begin_in_order p j legal.0)) in
        record {
          here = by_bool (is_single (line_kind p j l)) (λ b. is_single (line_kind p j l) ≡ b → EachRequest (λ w. same_attempt y.attempt w.attempt ≡ int_eq w.number x.number) (filter (is_pending j) (sends j l)))
              (λ _ one. only_head (is_pending j) (sends j l) y _ (facts.closed one) (q.first_head (is_pending j) (sends j l) y (facts.closed one) (asked.single one).1)
              (same_attempt_refl y.attempt ∙ sym (q.number_same p j e.lane l x y legal.0 own asked true one)))
              (λ _ many. each_filter _ (is_pending j) (sends j l) (by_number (sends j l) x.number y (subst (λ b. NumberedAs b (sends j l)) many facts.numbers) (distinct p j l legal.0) (asked.multi many)))
              refl;
          elsewhere = other_lines p j l y.attempt legal.0 on.carrier;
        }

-- ---- an attempt whose request was answered or whose line has Ended

pub past_answered : (j : List Entry) (s : Attempt) → answered j s ≡ true → IsPastAttempt j s
unfolding pending
past_answered j s h m = none (sends j m)
  where
    none : (xs : List Request) → EachRequest (λ y. same_attempt s y.attempt ≡ false) (filter (is_pending j) xs)
    none [] = tt
    none (y ∷ ys) =
        by_bool (is_pending j y) (λ b. is_pending j y ≡ b → EachRequest (λ w. same_attempt s w.attempt ≡ false) (cond b (y ∷ filter (is_pending j) ys) (filter (is_pending j) ys)))
        (λ _ on. (false_by _ (λ same. clash (answered j y.attempt) (subst (λ (w : Attempt). answered j w ≡ true) (same_attempt_eq s y.attempt same) h) (q.pending_is j y on).unanswered), none ys))
        (λ _ _. none ys) refl

pub past_ended : (p : Plan) (j : List Entry) (s : Attempt) (l : ℕ) → Lawful p j → line_of j s ≡ Some l → has_ended j l ≡ true → IsPastAttempt j s
unfolding pending
past_ended p j s l legal at over m =
    each_of _ _ (k.all_map _ (λ y. same_attempt s y.attempt ≡ false) (λ y h. false_by _ (λ same.
    let there : line_of j s ≡ Some m = subst (λ (w : Attempt). line_of j w ≡ Some m) (sym (same_attempt_eq s y.attempt same)) h.0.carrier in
    let both : Some l ≡ Some m = sym at ∙ there in
    let e : l ≡ m = cc in
    clash (has_ended j y.line) (subst (λ n. has_ended j n ≡ true) (e ∙ sym h.0.line) over) (q.pending_is j y h.1).running)) _
    (ke.filter_passes (k.IsSentOn j m) (is_pending j) (sends j m) (k.sends_on j m (begin_in_order p j legal))))
