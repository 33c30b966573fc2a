-- Entries that may end an attempt, and don't: a Claim that is granted or lost, a Wrote with Done or
-- of a Cancel, and a FeedFault before its line has Ended.
use Rattle.std.proofs.Common.{◌≡◌, ℕ, ◌/◌, Bool, true, false, cond, List, [], ◌∷◌, Option, Some, None, option_map, ◌⊎◌, inl, inr, refl, sym, ap, subst, ◌∙◌, ℤ}
use Rattle.std.specs.List.{find, list_any}
use Rattle.std.proofs.lemmas.Bool.{or_cases}
use Rattle.run_plan.specs.declared.plan.Branch.{Branch}
use Rattle.run_plan.specs.declared.plan.Plan.{Plan}
use Rattle.exec_journal.specs.Seated.{line_group}
use Rattle.exec_journal.specs.Lawful as lw
use Rattle.exec_journal.specs.declared.attempt.Attempt.{Attempt}
use Rattle.exec_journal.specs.Entry.{Entry}
use Rattle.exec_journal.specs.declared.call.Call.{Call}
use Rattle.exec_journal.specs.declared.call.Call.TheVariants as call
use Rattle.exec_journal.specs.declared.call.CommitEnd.{CommitEnd}
use Rattle.exec_journal.specs.declared.call.Found.{Found}
use Rattle.exec_journal.specs.declared.call.Started.TheVariants as start
use Rattle.exec_journal.specs.declared.call.Written.{Written}
use Rattle.exec_journal.specs.declared.call.Written.TheVariants as write
use Rattle.exec_journal.specs.declared.reply.Reply.{Reply}
use Rattle.exec_journal.specs.declared.reply.Reply.TheVariants as reply
use Rattle.exec_journal.specs.Entries.{Request, same_attempt, is_for, committed_in, refused_in, launch_of_entry}
use Rattle.exec_journal.specs.Words.{last_work, order_of, launch_of, sends, pending, is_pending, wrote, wrote_at, says_feed_fault, has_ended}
use Rattle.exec_journal.specs.Attempts.{fault_at, fault_by, start_cause, ended}
use Rattle.exec_journal.specs.Settled.{bound}
use Rattle.exec_journal.specs.Rules as r
use Rattle.exec_journal.specs.Lawful.{Lawful}
use Rattle.run_plan.specs.Sound.{Sound}
use Rattle.exec_journal.specs.Facts.{SameActions}
use Rattle.journal_laws.specs.Invariant.{EndsWith, ByFault, ByEnd, ByFeed}
use Rattle.call_laws.specs.Moments.{fed_on, stands_on}
use Rattle.exec_journal.proofs.Histories.{AllOf, all_filter, all_find}
use Rattle.exec_journal.proofs.Reasons as u
use Rattle.exec_journal.proofs.Ruled.{by_bool}
use Rattle.exec_journal.proofs.Begins.{same_attempt_refl, same_attempt_eq, is_for_eq, bound_is}
use Rattle.exec_journal.proofs.Quiet.{ended_stays}
use Rattle.journal_laws.proofs.Claims as c
use Rattle.journal_laws.proofs.Claims.{clash, false_by}
use Rattle.journal_laws.proofs.Granted as g
use Rattle.journal_laws.proofs.Requests as q
use Rattle.journal_laws.proofs.Keeping as ke
use Rattle.journal_laws.proofs.Endings as en
use Rattle.journal_laws.proofs.Exactly as ex
use Rattle.journal_laws.proofs.Places as pl
use Rattle.journal_laws.proofs.Lanes as la
use Rattle.call_laws.proofs.Ended as ed
use Rattle.call_laws.proofs.LineEnds as le

-- ---- a Claim that isn't refused

pub claimed_ends_none : (p : Plan) (e : Entry) (j : List Entry) (a : ℕ) (b : Branch) (n : ℕ)
    (x : Found) → Lawful p (e ∷ j) → e.call ≡ call.Claim a b n x → refused_in e.call e.reply ≡ None
    → (t : Attempt) → ended (e ∷ j) t ≡ ended j t
claimed_ends_none p e j a b n x legal is none t =
    by_bool (ended j t) (λ z. ended j t ≡ z → ended (e ∷ j) t ≡ z) (λ _ old. ended_stays e j t old)
    (λ _ going. false_by _ (λ now. by (en.ends_with p e j t legal now going).0)) refl
  where
    fault_is : (d : Call) (y : Reply) → e.call ≡ d → e.reply ≡ y → d ≡ call.Claim a b n x
        → refused_in d y ≡ None → fault_at t j e ≡ None
    fault_is (call.Claim i w m f) y ic ir dc nothing = rw (ic, ir, nothing) refl
    fault_is _ y ic ir dc nothing = absurd (cc)

    by : EndsWith j e t → ⊥
    by (ByFault z h) = (let off = fault_is e.call e.reply refl refl is none in
        let both : None ≡ Some z = sym off ∙ h in cc)
    by (ByEnd l how h at left) = (let both : call.Claim a b n x ≡ call.Ended l how = sym is ∙ h in
        cc)
    by (ByFeed l h at over) = (let it = c.wrote_at_is j e t write.FeedFault h in
        let both : call.Claim a b n x ≡ call.Wrote it.line it.number write.FeedFault = sym is
        ∙ it.is in cc)

-- one that is lost changes nothing of actions
pub lost_same : (p : Plan) (e : Entry) (j : List Entry) (a : ℕ) (b : Branch) (n : ℕ) (x : Found)
    → Lawful p (e ∷ j) → e.call ≡ call.Claim a b n x → e.reply ≡ reply.Lost → SameActions j (e ∷ j)
lost_same p e j a b n x legal is lost = record {
  grant = λ i. en.grants_same e j i (rw (is, lost) refl);
  commit = λ i w. en.commits_same e j i w (λ how h. no_commit i w how
      (subst (λ (d : Call). committed_in i w d ≡ Some how) is h));
  ended_too = λ t. claimed_ends_none p e j a b n x legal is (rw (is, lost) refl) t;
}
  where
    no_commit : (i : ℕ) (w : Branch) (how : CommitEnd)
        → committed_in i w (call.Claim a b n x) ≡ Some how → ⊥
    no_commit i w how h = cc

-- ---- a Launched with Done

pub started_same : (p : Plan) (e : Entry) (j : List Entry) (l : ℕ) → Lawful p (e ∷ j)
    → e.call ≡ call.Launched l start.Done → SameActions j (e ∷ j)
started_same p e j l legal is = record {
  grant = λ i. en.grants_same e j i (rw is refl);
  commit = λ i w. en.commits_same e j i w (λ how h. no_commit i w how
      (subst (λ (d : Call). committed_in i w d ≡ Some how) is h));
  ended_too = λ t. same t;
}
  where
    no_commit : (i : ℕ) (w : Branch) (how : CommitEnd)
        → committed_in i w (call.Launched l start.Done) ≡ Some how → ⊥
    no_commit i w how h = cc

    cases : (b : Bool) → cond b (start_cause start.Done) None ≡ None
    cases true = refl
    cases false = refl

    unfaulted : (t : Attempt) → fault_at t j e ≡ None
    unfaulted t = ap (λ (d : Call). fault_by t (last_work j e.lane) d e.reply) is
        ∙ cases (is_for t (launch_of_entry (last_work j e.lane)))

    of_case : (t : Attempt) → EndsWith j e t → ⊥
    of_case t (ByFault z h) = (let off = unfaulted t in let both : None ≡ Some z = sym off ∙ h in
        cc)
    of_case t (ByEnd k how h at left) = (let both : call.Launched l start.Done ≡ call.Ended k how =
        sym is ∙ h in cc)
    of_case t (ByFeed k h at over) = (let it = c.wrote_at_is j e t write.FeedFault h in
        let both : call.Launched l start.Done ≡ call.Wrote it.line it.number write.FeedFault =
        sym is ∙ it.is in cc)

    same : (t : Attempt) → ended (e ∷ j) t ≡ ended j t
    same t =
        by_bool (ended j t) (λ z. ended j t ≡ z → ended (e ∷ j) t ≡ z)
        (λ _ old. ended_stays e j t old)
        (λ _ going. false_by _ (λ now. of_case t (en.ends_with p e j t legal now going).0)) refl

-- ---- a Wrote that ends nothing

wrote_same : (e : Entry) (j : List Entry) (l : ℕ) (n : ℤ) (how : Written)
    → e.call ≡ call.Wrote l n how → ((t : Attempt) → ended (e ∷ j) t ≡ ended j t)
    → SameActions j (e ∷ j)
wrote_same e j l n how is same = record {
  grant = λ i. en.grants_same e j i (rw is refl);
  commit = λ i w. en.commits_same e j i w (λ z h. no_commit i w z
      (subst (λ (d : Call). committed_in i w d ≡ Some z) is h));
  ended_too = same;
}
  where
    no_commit : (i : ℕ) (w : Branch) (z : CommitEnd) → committed_in i w (call.Wrote l n how)
        ≡ Some z → ⊥
    no_commit i w z h = cc

-- with Done, or of a Cancel
pub written_same : (p : Plan) (e : Entry) (j : List Entry) (l : ℕ) (n : ℤ) (how : Written)
    → Lawful p (e ∷ j) → e.call ≡ call.Wrote l n how → (how ≡ write.Done)
    ⊎ (order_of j e.lane ≡ None) → SameActions j (e ∷ j)
written_same p e j l n how legal is quiet = wrote_same e j l n how is
    (λ t. ex.written_ends_none p e j l n how legal is quiet t)

-- a FeedFault before its line has Ended
pub fed_same : (p : Plan) (e : Entry) (j : List Entry) (l : ℕ) (n : ℤ) (x : Request)
    → Lawful p (e ∷ j) → e.call ≡ call.Wrote l n write.FeedFault → order_of j e.lane ≡ Some x
    → has_ended j x.line ≡ false → SameActions j (e ∷ j)
fed_same p e j l n x legal is order running = wrote_same e j l n write.FeedFault is
    (λ t. ed.fed_ends_none p e j l n x legal is order running t)

-- ---- the feed fault of a line

-- its request is the last of the line, and from then on it is the one whose feed failed
pub fed_now : (p : Plan) (e : Entry) (j : List Entry) (l : ℕ) (n : ℤ) (x : Request)
    → Lawful p (e ∷ j) → e.call ≡ call.Wrote l n write.FeedFault → order_of j e.lane ≡ Some x
    → fed_on (e ∷ j) l ≡ Some x.attempt
fed_now p e j l n x legal is order =
    let it = la.writes_request p e j l n write.FeedFault x legal is order in
    let head : r.head (sends j l) ≡ Some x = subst (λ i. r.head (sends j i) ≡ Some x) it.line
    (la.newest_head p j e.lane it.order x legal.0 it.newest it.sends_it) in
    let noted : e.reply ≡ reply.Noted = subst (λ (d : Call). lw.Told p j e.lane d e.reply) is legal.1.told in
    let same : sends (e ∷ j) l ≡ sends j l = q.sends_same e j l (rw noted refl) in
    let at : wrote_at x.attempt j e ≡ Some write.FeedFault = wrote_is in
    let fed : wrote (e ∷ j) x.attempt ≡ Some write.FeedFault =
    g.wrote_here e j x.attempt write.FeedFault (pl.first_write p j e.lane x legal.0 order) at in
    ap (λ xs. option_map (λ y. y.attempt) (find (λ y. says_feed_fault (wrote (e ∷ j) y.attempt))
    xs)) same ∙ found (sends j l) head (ap says_feed_fault fed)
  where
    wrote_is : wrote_at x.attempt j e ≡ Some write.FeedFault
    wrote_is = rw (is, order, same_attempt_refl x.attempt) refl

    found : (xs : List Request) → r.head xs ≡ Some x → says_feed_fault (wrote (e ∷ j) x.attempt)
        ≡ true → option_map (λ y. y.attempt) (find (λ y. says_feed_fault (wrote (e ∷ j) y.attempt))
        xs) ≡ Some x.attempt
    found [] h fed = absurd (cc)
    found (y ∷ ys) h fed = (let same : y ≡ x = cc in rw
        (subst (λ (z : Request). says_feed_fault (wrote (e ∷ j) z.attempt) ≡ true) (sym same) fed)
        (ap (λ (z : Request). Some z.attempt) same))

-- ---- on one line at most one attempt of an action stands that hasn't ended

module _ (p : Plan) (j : List Entry) (l m : ℕ) (s : Attempt) (sound : Sound p) (legal : Lawful p j)
    (launched : launch_of j l ≡ Some (m, s)) where
  runs_any : (t : Attempt) (xs : List Request) → AllOf
      (λ x. ke.RunsIn p x.attempt (line_group p j l)) xs
      → list_any (λ x. same_attempt x.attempt t) xs ≡ true → ke.RunsIn p t (line_group p j l)
  runs_any t [] all h = absurd (cc)
  runs_any t (x ∷ xs) all h = elim (or_cases (same_attempt x.attempt t) _ h) [
    | inl here ↦ subst (λ (a : Attempt). ke.RunsIn p a (line_group p j l))
        (same_attempt_eq x.attempt t here) all.0
    | inr later ↦ runs_any t xs all.1 later
  ]

  runs_fed : (t : Attempt) (o : Option Request) → find
      (λ x. says_feed_fault (wrote j x.attempt)) (sends j l) ≡ o
      → is_for t (option_map (λ x. x.attempt) o) ≡ true → ke.RunsIn p t (line_group p j l)
  runs_fed t None is h = absurd (cc)
  runs_fed t (Some x) is h =
      subst (λ (a : Attempt). ke.RunsIn p a (line_group p j l)) (same_attempt_eq x.attempt t h)
      (all_find (λ y. ke.RunsIn p y.attempt (line_group p j l))
      (λ y. says_feed_fault (wrote j y.attempt)) (sends j l) x
      (ke.sends_run p j l m s (line_group p j l) legal launched (ke.launched_runs p j l m s legal launched)) is)

  -- it is of the line's group
  pub standing_runs : (t : Attempt) → stands_on p j l t ≡ true
      → ke.RunsIn p t (line_group p j l)
  unfolding pending
  standing_runs t h = elim (or_cases (list_any (λ x. same_attempt x.attempt t) (pending j l)) _ h) [
    | inl waiting ↦ runs_any t (pending j l) (all_filter
        (λ x. ke.RunsIn p x.attempt (line_group p j l)) (is_pending j) (sends j l)
        (ke.sends_run p j l m s (line_group p j l) legal launched (ke.launched_runs p j l m s legal launched))) waiting
    | inr other ↦ elim (or_cases (is_for t (fed_on j l)) _ other) [
      | inl fed ↦ runs_fed t (find (λ x. says_feed_fault (wrote j x.attempt)) (sends j l)) refl fed
      | inr held ↦ (let b = bound_is p j l t (is_for_eq t (bound p j l) held) in
          let both : Some (b.lane, t) ≡ Some (m, s) = sym b.launched ∙ launched in
          let pair : (b.lane, t) ≡ (m, s) = cc in
          subst (λ (a : Attempt). ke.RunsIn p a (line_group p j l))
          (sym (ap (λ (x : ℕ × Attempt). x.1) pair)) (ke.launched_runs p j l m s legal
          launched))
    ]
  ]

  pub standing_one : (t v : Attempt) → stands_on p j l t ≡ true → stands_on p j l v ≡ true
      → ended j t ≡ false → ended j v ≡ false → t.action ≡ v.action → t ≡ v
  standing_one t v a b going_t going_v same =
      g.same_going j t v (g.going_is p j t legal (le.standing_begun p j l t legal a) going_t)
      (g.going_is p j v legal (le.standing_begun p j l v legal b) going_v) same
      (ke.one_branch p t v (line_group p j l) sound (standing_runs t a)
      (standing_runs v b) same)
