-- What is so where a lane makes a call of its script: of grants, of the actions that are named, and
-- of the request of an answer.
use Rattle.std.proofs.Common.{◌≡◌, ℕ, ◌/◌, ◌<◌, ◌==◌, nat_lt, true, false, ◌&&◌, not, cond, List, [], ◌∷◌, length, Option, Some, None, is_some, refl, sym, ap, subst, ◌∙◌}
use Rattle.std.proofs.lemmas.Bool.{and_parts, or_parts}
use Rattle.std.proofs.lemmas.Option.{slice_get_within}
use Rattle.run_plan.specs.declared.plan.Branch.{Branch}
use Rattle.run_plan.specs.declared.plan.Plan.{Plan}
use Rattle.exec_journal.specs.Lawful as lw
use Rattle.exec_journal.specs.declared.attempt.Attempt.{Attempt}
use Rattle.exec_journal.specs.Entry.{Entry}
use Rattle.exec_journal.specs.declared.call.Answer.{Answer}
use Rattle.exec_journal.specs.declared.call.Call.{Call}
use Rattle.exec_journal.specs.declared.call.Call.TheVariants as call
use Rattle.exec_journal.specs.declared.call.CommitEnd.{CommitEnd}
use Rattle.exec_journal.specs.declared.call.Found.{Found}
use Rattle.exec_journal.specs.declared.call.Found.TheVariants as found
use Rattle.exec_journal.specs.declared.call.Written.{Written}
use Rattle.exec_journal.specs.declared.call.Written.TheVariants as write
use Rattle.exec_journal.specs.declared.reply.Reply.{Reply}
use Rattle.exec_journal.specs.declared.reply.Reply.TheVariants as reply
use Rattle.list_lemmas.specs.Options.{unless_before}
use Rattle.exec_journal.specs.Entries.{Request, attempt_of, same_branch, is_kept, launch_in, send_in, gather_in, consumed_in, matched_in, committed_in}
use Rattle.exec_journal.specs.Words.{wrote, granted, grant_of, commit_of}
use Rattle.exec_journal.specs.Settled.{bound}
use Rattle.exec_journal.specs.Rules as r
use Rattle.exec_journal.specs.Rules.{gathered}
use Rattle.exec_journal.specs.Scripts as sc
use Rattle.exec_journal.specs.Lawful.{Lawful}
use Rattle.exec_journal.specs.Facts.{begun}
use Rattle.exec_journal.specs.Race.{committed, commits}
use Rattle.journal_laws.specs.Steps.{IsUngranted}
use Rattle.call_laws.specs.Moments.{is_clean, IsClean, IsSeated}
use Rattle.exec_journal.proofs.Reasons as u
use Rattle.exec_journal.proofs.Ruled.{by_bool}
use Rattle.exec_journal.proofs.Begins.{begin_in_order, same_attempt_refl, bound_is}
use Rattle.journal_laws.proofs.Carried as k
use Rattle.journal_laws.proofs.Over as v
use Rattle.journal_laws.proofs.Claims as c
use Rattle.journal_laws.proofs.Claims.{clash, false_by}
use Rattle.journal_laws.proofs.Granted as g
use Rattle.journal_laws.proofs.Races as ra
use Rattle.journal_laws.proofs.Firm as f
use Rattle.journal_laws.proofs.Requests as q
use Rattle.journal_laws.proofs.Offered as of
use Rattle.journal_laws.proofs.Stops as st
use Rattle.call_laws.specs.Matches.{is_faulty, is_spent}
use Rattle.call_laws.proofs.Requested as re
use Rattle.call_laws.proofs.LastLines as ll

-- ---- the entry of a call

abbrev pub next_entry : Plan → List Entry → ℕ → Call → Entry
next_entry p j lane d = record { lane = lane; call = d; reply = lw.plain_reply p j lane d }

-- with it the journal is legal, where its reply is kept
pub next_legal : (p : Plan) (j : List Entry) (lane : ℕ) (d : Call) → Lawful p j
    → lw.in_script p j lane d ≡ true → lw.Told p j lane d (lw.plain_reply p j lane d)
    → is_kept (lw.plain_reply p j lane d) ≡ true
    → Lawful p (next_entry p j lane d ∷ j)
next_legal p j lane d legal may told kept = (
  legal,
  record {
    scripted = may;
    told = told;
    kept = kept;
  },
)

found_kept : (p : Plan) (t : ℕ) (x : Found) → is_kept (r.by_found p t x) ≡ true
found_kept p t (found.Files b) = refl
found_kept p t (found.Exit n) = refl
found_kept p t _ = by_bool (nat_lt t p.limit) (λ b. is_kept (cond b reply.AgainLater reply.Dropped)
    ≡ true) (λ _. refl) (λ _. refl)

claim_kept : (p : Plan) (j : List Entry) (a : ℕ) (b : Branch) (t : ℕ) (x : Found)
    → is_kept (r.claim_reply p j a b t x) ≡ true
claim_kept p j a b t x = by_bool (r.is_other b (grant_of j a))
    (λ z. is_kept (cond z reply.Lost (r.by_found p t x)) ≡ true) (λ _. refl) (λ _. found_kept p t x)

pub claim_legal : (p : Plan) (j : List Entry) (lane a : ℕ) (b : Branch) (t : ℕ) (x : Found)
    → Lawful p j → lw.in_script p j lane (call.Claim a b t x) ≡ true
    → Lawful p (next_entry p j lane (call.Claim a b t x) ∷ j)
claim_legal p j lane a b t x legal may = next_legal p j lane (call.Claim a b t x) legal may
    refl (claim_kept p j a b t x)

-- ---- a Claim whose other branch has no grant finds neither grant nor Committed of its action

commits_it : (a : ℕ) (b : Branch) (how : CommitEnd) (d : Call) → committed_in a b d ≡ Some how
    → commits a d ≡ true
commits_it a b how (call.Committed m n w) h =
    by_bool ((m == a) && same_branch n b) (λ z. ((m == a) && same_branch n b) ≡ z
    → cond z (Some w) None ≡ Some how → (m == a) ≡ true) (λ _ on _. (and_parts (m == a) _ on).0)
    (λ _ _ y. absurd (cc)) refl h
commits_it a b how _ h = absurd (cc)

uncommitted_of : (j : List Entry) (a : ℕ) (b : Branch) → committed j a ≡ false
    → commit_of j a b ≡ None
unfolding commit_of committed
uncommitted_of [] a b h = refl
uncommitted_of (e ∷ j) a b h = by (committed_in a b e.call) refl
    (uncommitted_of j a b (or_parts (commits a e.call) _ h).1)
  where
    by : (z : Option CommitEnd) → committed_in a b e.call ≡ z → commit_of j a b ≡ None
        → unless_before z (commit_of j a b) ≡ None
    by None is ih = ih
    by (Some how) is ih = absurd (clash (commits a e.call) (commits_it a b how e.call is)
        (or_parts (commits a e.call) _ h).0)

pub grants_open : (p : Plan) (j : List Entry) (lane a : ℕ) (b : Branch) (t : ℕ) (x : Found)
    → Lawful p j → lw.in_script p j lane (call.Claim a b t x) ≡ true
    → r.is_other b (grant_of j a) ≡ false → IsUngranted j a
unfolding granted
grants_open p j lane a b t x legal may free = record {
  ungranted = none;
  uncommitted = λ m. uncommitted_of j a m (false_by _
      (λ old. clash (granted j a) (ra.committed_granted p j a legal old) (ap is_some none)));
}
  where
    next : Lawful p (next_entry p j lane (call.Claim a b t x) ∷ j)
    next = claim_legal p j lane a b t x legal may

    by : (y : Option (Attempt × Found)) → grant_of j a ≡ y → r.is_other b y ≡ false → y ≡ None
    by None is h = refl
    by (Some y) is h = absurd (clash (not (same_branch y.0.branch b))
        (ap not (g.never_twice p (next_entry p j lane (call.Claim a b t x)) j
        (attempt_of a b t) next (same_attempt_refl (attempt_of a b t)) y is)) h)

    none : grant_of j a ≡ None
    none = by (grant_of j a) refl free

-- ---- the actions that are named

pub begun_within : (p : Plan) (j : List Entry) (t : Attempt) → Lawful p j → begun j t ≡ true
    → t.action < length p.actions
begun_within p j t legal h = let has = f.going_ready_at p j t legal h in
    slice_get_within p.actions t.action has.action has.place

-- the attempt that an order or a Claim names was begun
pub launch_within : (p : Plan) (e : Entry) (j : List Entry) (l : ℕ) (t : Attempt) → Lawful p (e ∷ j)
    → launch_in e.reply ≡ Some (l, t) → t.action < length p.actions
launch_within p e j l t legal h = begun_within p (e ∷ j) t legal
    (st.begun_here e j t (c.launch_begins e.reply (l, t) h))

pub send_within : (p : Plan) (e : Entry) (j : List Entry) (x : Request) → Lawful p (e ∷ j)
    → send_in e.reply ≡ Some x → x.attempt.action < length p.actions
send_within p e j x legal h = begun_within p (e ∷ j) x.attempt legal
    (k.sent_begun (e ∷ j) x.attempt (q.sent_now e j x h))

pub gather_within : (p : Plan) (e : Entry) (j : List Entry) (t : Attempt) → Lawful p (e ∷ j)
    → gather_in e.reply ≡ Some t → t.action < length p.actions
gather_within p e j t legal h =
    let is = c.gather_is p j e.lane e.call e.reply t (v.entry_ruled p e j legal) h in
    begun_within p j t legal.0 (k.sent_begun j t (c.answered_sent p j t legal.0 is.consumed))

pub claim_within : (p : Plan) (j : List Entry) (lane a : ℕ) (b : Branch) (t : ℕ) (x : Found)
    → Lawful p j → lw.in_script p j lane (call.Claim a b t x) ≡ true → a < length p.actions
claim_within p j lane a b t x legal may =
    let next = claim_legal p j lane a b t x legal may in
    begun_within p j (attempt_of a b t) legal (g.claimable p
    (next_entry p j lane (call.Claim a b t x)) j (attempt_of a b t) next
    (same_attempt_refl (attempt_of a b t))).under_way.begun_yet

pub commit_within : (p : Plan) (j : List Entry) (lane a : ℕ) (b : Branch) (how : CommitEnd)
    → Lawful p j → lw.in_script p j lane (call.Committed a b how) ≡ true → a < length p.actions
commit_within p j lane a b how legal may =
    let is = of.is_granted_files p (next_entry p j lane (call.Committed a b how)) j a b how
    (next_legal p j lane (call.Committed a b how) legal may refl refl) refl in
    begun_within p j (attempt_of a b is.number) legal (g.winner p j a
    (attempt_of a b is.number, found.Files is.files) legal is.winner).under_way.begun_yet

-- ---- what is bound stands on the last line of a berth of the plan

pub bound_seat : (p : Plan) (j : List Entry) (l : ℕ) (t : Attempt) → Lawful p j
    → bound p j l ≡ Some t → IsSeated p j l
bound_seat p j l t legal h =
    let b = bound_is p j l t h in
    record {
      berth = b.lane / 2;
      own = record { below = q.launched_below p j l b.lane t legal b.launched; owner = (b.lane, t, b.launched, refl) };
      last = ll.bound_is_last p j l b.lane t legal h b.launched;
    }

-- ---- the request of an answer

pub consumed_request : (p : Plan) (e : Entry) (j : List Entry) (l : ℕ) (x : Answer) (s : Attempt)
    → Lawful p (e ∷ j) → e.call ≡ call.Answer l x → consumed_in e.reply ≡ Some s
    → (y : Request) × (y.attempt ≡ s) × u.IsRequest p j l x y
consumed_request p e j l x s legal ic is =
    let one = v.consumes p j e.lane e.call e.reply s (v.entry_ruled p e j legal) is in
    let same_call : call.Answer one.line one.answer ≡ call.Answer l x = sym one.is ∙ ic in
    let l_is : one.line ≡ l = cc in
    let x_is : one.answer ≡ x = cc in (
      one.request,
      one.of,
      subst (λ (y : Answer). u.IsRequest p j l y one.request) x_is
          (subst (λ n. u.IsRequest p j n one.answer one.request) l_is one.asked),
    )

matched_consumed : (x : Reply) (t : Attempt) → matched_in x ≡ Some t → consumed_in x ≡ Some t
matched_consumed (reply.Matched a b n) t h = h
matched_consumed _ t h = absurd (cc)

matched_free : (p : Plan) (j : List Entry) (lane : ℕ) (d : Call) (x : Reply) (t : Attempt)
    → u.Ruled p j lane d x → matched_in x ≡ Some t → granted j t.action ≡ false
matched_free p j lane d x t (u.IsMatched l a y asked free) h =
    (let e : y.attempt ≡ t = cc in subst (λ (z : Attempt). granted j z.action ≡ false) e free)
matched_free p j lane d x t (u.KillsBroken l y here run broken over) h = absurd (cc)
matched_free p j lane d x t (u.Notes z n) h = absurd (cc)
matched_free p j lane d x t _ h = absurd (cc)

clean_unfaulty : (w : Option Written) → is_clean w ≡ true → is_faulty w ≡ false
clean_unfaulty None h = refl
clean_unfaulty (Some write.Done) h = refl
clean_unfaulty (Some _) h = absurd (cc)

-- a match waits for its Gather when it comes
pub match_unspent : (p : Plan) (e : Entry) (j : List Entry) (l : ℕ) (x : Answer) (t : Attempt)
    → Lawful p (e ∷ j) → e.call ≡ call.Answer l x → matched_in e.reply ≡ Some t
    → is_spent j t ≡ false
match_unspent p e j l x t legal ic is =
    let y = consumed_request p e j l x t legal ic (matched_consumed e.reply t is) in
    let on = v.of_request p j l x y.0 (k.IsSentOn j l) y.2
    (k.sends_on j l (begin_in_order p j legal.0)) in
    let clean = re.clean_request p j l y.0 legal.0 y.2.unbroken on y.2.is_open in
    let free = matched_free p j e.lane e.call e.reply t (v.entry_ruled p e j legal) is in
    let mine = subst (IsClean j) y.1 clean in
    rw (mine.ungathered, clean_unfaulty (wrote j t) mine.write, free) refl
