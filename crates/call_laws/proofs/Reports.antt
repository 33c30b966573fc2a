-- What a report answers, and what bounds the lines and the requests of a journal.
use Rattle.std.proofs.Common.{◌≡◌, ℕ, ◌*◌, ◌<◌, ◌≤◌, true, false, List, [], ◌∷◌, length, Option, Some, None, option_map, refl, sym, ap, subst, ◌∙◌, arith}
use Rattle.std.specs.List.{find}
use Rattle.run_plan.specs.declared.plan.Plan.{Plan}
use Rattle.exec_journal.specs.Seated.{group_on, line_group}
use Rattle.run_plan.specs.Sound.{Sound}
use Rattle.exec_journal.specs.Lawful as lw
use Rattle.exec_journal.specs.declared.attempt.Attempt.{Attempt}
use Rattle.exec_journal.specs.Entry.{Entry}
use Rattle.exec_journal.specs.declared.call.Call.TheVariants as call
use Rattle.exec_journal.specs.declared.call.Started.{Started}
use Rattle.exec_journal.specs.Attempts.{ended}
use Rattle.exec_journal.specs.Entries.{Request, launch_in, launch_of_entry, send_of_entry}
use Rattle.exec_journal.specs.Facts.{IsOfBerth, begun}
use Rattle.exec_journal.specs.Lawful.{Lawful}
use Rattle.exec_journal.specs.Rules as r
use Rattle.exec_journal.specs.Scripts as sc
use Rattle.exec_journal.specs.Words.{last_work, last_line, launch_of, line_count, order_of, sends, was_sent, answered, wrote, says_feed_fault}
use Rattle.exec_journal.proofs.Histories.{AllOf}
use Rattle.exec_journal.proofs.Reasons as u
use Rattle.journal_laws.specs.Invariant.{older}
use Rattle.journal_laws.proofs.Requests as q
use Rattle.journal_laws.proofs.Carried as k
use Rattle.journal_laws.proofs.Claims as c
use Rattle.journal_laws.proofs.Claims.{clash, false_by}
use Rattle.journal_laws.proofs.Counted as co
use Rattle.journal_laws.proofs.Keeping as ke
use Rattle.journal_laws.proofs.Lanes as la
use Rattle.journal_laws.proofs.Offered as of
use Rattle.journal_laws.proofs.Places as pl
use Rattle.call_laws.specs.Moments.{BranchOf, fed_on}
use Rattle.call_laws.proofs.Ended as ed
use Rattle.call_laws.proofs.Requested as re

-- ---- bounds

pub few_lines : (p : Plan) (j : List Entry) → Sound p → Lawful p j
    → line_count j ≤ 2 * length p.actions * p.limit
few_lines p j sound legal = let a = co.lines_made p j legal in
    let b = co.made_most p j legal sound.least in omega arith

pub few_sends : (p : Plan) (j : List Entry) (l : ℕ) → Sound p → Lawful p j
    → length (sends j l) ≤ 2 * length p.actions * p.limit
few_sends p j l sound legal = let a = co.line_sends j l in
    let b = co.sends_made p j legal sound.least in let m = co.sent_most p j in omega arith

-- ---- what comes first

pub unbegun_goes : (p : Plan) (j : List Entry) (t : Attempt) → Lawful p j → begun j t ≡ false
    → ended j t ≡ false
unbegun_goes p j t legal h = false_by _ (λ y. clash _ (c.ended_begun p j t legal y) h)

pub unsent_unanswered : (p : Plan) (j : List Entry) (t : Attempt) → Lawful p j → was_sent j t ≡ false
    → answered j t ≡ false
unsent_unanswered p j t legal h = false_by _ (λ y. clash _ (c.answered_sent p j t legal y) h)

-- ---- the requests of a berth's line are of its group

pub grouped : (p : Plan) (j : List Entry) (l w : ℕ) → Lawful p j → IsOfBerth j l w
    → AllOf (λ x. BranchOf p x.attempt (group_on p j l)) (sends j l)
grouped p j l w legal own =
    let at = own.owner.2 in
    let n = line_group p j l in
    let there = q.group_is p j l own.owner.0 own.owner.1 at in
    let runs = ke.launched_runs p j l own.owner.0 own.owner.1 legal at in
    let is : group_on p j l ≡ Some n = there ∙ ke.group_runs p own.owner.1 n runs in
    k.all_map (λ (x : Request). ke.RunsIn p x.attempt n)
    (λ x. BranchOf p x.attempt (group_on p j l)) (λ x h. ke.group_runs p x.attempt n h ∙ sym is)
    (sends j l) (ke.sends_run p j l own.owner.0 own.owner.1 n legal at runs)

-- ---- a Launched answers the lane's newest order, its line's Launch

pub launches : (p : Plan) (j : List Entry) (lane l m : ℕ) (how : Started) (t : Attempt) → Lawful p j
    → lw.in_script p j lane (call.Launched l how) ≡ true → launch_of j l ≡ Some (m, t)
    → launch_of_entry (last_work j lane) ≡ Some t
launches p j lane l m how t legal may at =
    let x = ed.launched_order p j lane l how legal may in
    let both : Some (lane, x.attempt) ≡ Some (m, t) = sym x.launched ∙ at in
    let pair : (lane, x.attempt) ≡ (m, t) = cc in
    of_order x.order x.attempt x.newest x.launch (ap (λ (y : ℕ × Attempt). y.1) pair)
  where
    of_order : (d : Entry) (s : Attempt) → last_work j lane ≡ Some d
        → launch_in d.reply ≡ Some (l, s) → s ≡ t → launch_of_entry (last_work j lane) ≡ Some t
    of_order d s newest is same = rw (newest, is) (ap Some same)

-- ---- while a Wrote is owed, no feed of the line has failed

none_fed : (j : List Entry) (xs : List Request) (x : Request) → r.head xs ≡ Some x
    → wrote j x.attempt ≡ None → AllOf (λ y. says_feed_fault (wrote j y.attempt) ≡ false) (older xs)
    → find (λ y. says_feed_fault (wrote j y.attempt)) xs ≡ None
none_fed j [] x h none all = refl
none_fed j (y ∷ ys) x h none all =
    let same : y ≡ x = cc in
    rw (subst (λ (z : Request). wrote j z.attempt ≡ None) (sym same) none) (rest ys all)
  where
    rest : (zs : List Request) → AllOf (λ z. says_feed_fault (wrote j z.attempt) ≡ false) zs
        → find (λ z. says_feed_fault (wrote j z.attempt)) zs ≡ None
    rest [] every = refl
    rest (z ∷ zs) every = rw every.0 (rest zs every.1)

pub unfed : (p : Plan) (j : List Entry) (lane : ℕ) (x : Request) → Lawful p j
    → order_of j lane ≡ Some x → fed_on j x.line ≡ None
unfed p j lane x legal order = by (last_work j lane) refl order
  where
    by : (z : Option Entry) → last_work j lane ≡ z → send_of_entry z ≡ Some x
        → fed_on j x.line ≡ None
    by None at h = absurd (cc)
    by (Some d) at h =
        ap (option_map (λ (y : Request). y.attempt))
        (none_fed j (sends j x.line) x (la.newest_head p j lane d x legal at h)
        (pl.first_write p j lane x legal order) (re.fed_last p j x.line legal))
