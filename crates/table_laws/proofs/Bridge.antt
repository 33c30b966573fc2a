-- The records that the tables' laws ask for, from a legal journal.
use Rattle.std.proofs.Common.{◌≡◌, ℕ, ◌≤◌, ◌==◌, Bool, true, false, ◌&&◌, ◌||◌, not, List, [], ◌∷◌, Some, None, ◌⊎◌, refl, sym, ap, subst, ◌∙◌, ℤ, inr, length, cond}
use Rattle.run_plan.specs.declared.plan.Branch.{Branch}
use Rattle.run_plan.specs.declared.plan.Plan.{Plan}
use Rattle.exec_journal.specs.Seated.{group_on}
use Rattle.exec_journal.specs.Lawful as lw
use Rattle.exec_journal.specs.declared.attempt.Attempt.{Attempt}
use Rattle.exec_journal.specs.Entry.{Entry}
use Rattle.exec_journal.specs.declared.call.Answer.{Answer}
use Rattle.exec_journal.specs.declared.call.Call.TheVariants as call
use Rattle.exec_journal.specs.declared.call.CommitEnd.{CommitEnd}
use Rattle.exec_journal.specs.declared.call.Found.{Found}
use Rattle.exec_journal.specs.declared.call.Started.{Started}
use Rattle.exec_journal.specs.declared.call.Written.{Written}
use Rattle.exec_journal.specs.declared.call.Written.TheVariants as write
use Rattle.std.proofs.lemmas.Bool.{eqb-true, eq-eqb, and_parts, and_from, or_left, or_from}
use Rattle.exec_journal.specs.declared.call.Call.{Call}
use Rattle.exec_journal.specs.declared.reply.Reply.{Reply}
use Rattle.exec_journal.specs.declared.reply.Reply.TheVariants as reply
use Rattle.exec_journal.proofs.Ruled.{by_bool, not_true}
use Rattle.exec_journal.specs.Entries.{committed_in, is_done, is_unwritten, is_branch_of, Request, attempt_of, same_attempt, launch_in, send_in, consumed_in, granted_in, refused_in}
use Rattle.exec_journal.specs.Words.{launch_of, order_of, has_ended, answered, granted}
use Rattle.exec_journal.specs.Attempts.{begun_in, line_of, ended, attempt}
use Rattle.exec_journal.specs.Rules.{rule}
use Rattle.run_plan.specs.Sound.{Sound}
use Rattle.exec_journal.specs.Lawful.{Lawful}
use Rattle.exec_journal.specs.Facts.{begun}
use Rattle.journal_laws.specs.Invariant.{is_quiet_call, IsGoing, NumberedAs, EachRequest}
use Rattle.journal_laws.specs.Steps.{EndExactly, is_open_attempt}
use Rattle.table_laws.specs.Asked.{is_commit, is_report, EndsOne}
use Rattle.journal_laws.proofs.Offered as of
use Rattle.journal_laws.proofs.Lanes as la
use Rattle.journal_laws.proofs.Places as pl
use Rattle.journal_laws.proofs.Known as kn
use Rattle.journal_laws.proofs.Endings as en
use Rattle.journal_laws.proofs.Exactly as ex
use Rattle.journal_laws.proofs.Granted as g
use Rattle.journal_laws.proofs.Greeted as gr
use Rattle.journal_laws.proofs.Faulty as fa
use Rattle.journal_laws.proofs.Claims.{clash, false_by}
use Rattle.exec_journal.proofs.Begins.{same_attempt_eq, same_attempt_refl, same_branch_eq, same_branch_refl, begin_in_order}
use Rattle.ready_order.specs.Entries as ro
use Rattle.worker_pool.specs.Entries as wp
use Rattle.worker_pool.proofs.Once as po
use Rattle.request_table.specs.Entries as rq
use Rattle.request_table.specs.Stands.{Numbered}
use Rattle.cancel_rules.specs.Entries as cr
use Rattle.race_core.specs.Entries as rc
use Rattle.retry_rules.specs.Entries as rr

pub each_of : (P : Request → Type 0) (xs : List Request) → EachRequest P xs → rq.EachOf P xs
each_of P [] all = tt
each_of P (x ∷ xs) all = (all.0, each_of P xs all.1)

pub numbered : (b : Bool) (xs : List Request) → NumberedAs b xs → Numbered b xs
numbered b [] all = tt
numbered b (x ∷ xs) all = (all.0, numbered b xs all.1)

-- ---- calls that grant and commit nothing

pub no_commit : (d : Call) → is_commit d ≡ false → (a : ℕ) (b : Branch) (how : CommitEnd)
    → committed_in a b d ≡ Some how → ⊥
no_commit (call.Committed x y z) h a b how k = cc
no_commit _ h a b how k = absurd (cc)

pub no_grant : (d : Call) (x : Reply) → is_quiet_call d ≡ true → granted_in d x ≡ None
no_grant (call.Claim a b t f) x h = absurd (cc)
no_grant _ x h = refl

-- ready_order
pub begins_this : (p : Plan) (e : Entry) (j : List Entry) (t : Attempt) → Lawful p (e ∷ j)
    → begun_in e.reply ≡ Some t → begun j t ≡ false → ro.BeginsThis j e t
begins_this p e j t legal h new = let b = of.begins_one p e j t legal h new in
    record { begins = b.begins; next = b.next; going = b.going; same = b.same }

pub under_way : (p : Plan) (j : List Entry) (t : Attempt) → Sound p → Lawful p j → IsGoing j t
    → ro.IsUnderWay p j t
under_way p j t sound legal is = record {
  begun = is.least;
  latest = is.latest;
  limited = kn.going_limited p j t legal sound.least is;
  going = is.going;
}

pub is_open : (p : Plan) (e : Entry) (j : List Entry) (y : Attempt × Found) → Lawful p (e ∷ j)
    → granted_in e.call e.reply ≡ Some y → ro.IsOpen j y.0.action
is_open p e j y legal h = let b = of.is_ungranted p e j y legal h in
    record { ungranted = b.ungranted; uncommitted = b.uncommitted }

pub won_files : (p : Plan) (e : Entry) (j : List Entry) (a : ℕ) (b : Branch) (how : CommitEnd)
    → Lawful p (e ∷ j) → e.call ≡ call.Committed a b how → ro.WonFiles j a b
won_files p e j a b how legal h = let w = of.is_granted_files p e j a b how legal h in
    record { number = w.number; files = w.files; winner = w.winner; uncommitted = w.uncommitted }

only_one : (b : Bool) → (b || false) ≡ true → b ≡ true
only_one true k = refl
only_one false k = absurd (cc)

turned : (y t : Attempt) → same_attempt y t ≡ (same_attempt t y || false)
turned y t =
    by_bool (same_attempt y t) (λ b. same_attempt y t ≡ b → b ≡ (same_attempt t y || false))
    (λ _ on. sym (or_left (same_attempt t y) false (subst
    (λ (w : Attempt). same_attempt w y ≡ true) (same_attempt_eq y t on) (same_attempt_refl y))))
    (λ _ off. sym (or_from (same_attempt t y) false (false_by _
    (λ k. clash _ (subst (λ (w : Attempt). same_attempt w t ≡ true) (same_attempt_eq t y k)
    (same_attempt_refl t)) off)) refl)) refl

-- where exactly this attempt ends, which was under way
pub ends_one : (p : Plan) (e : Entry) (j : List Entry) (y : Attempt) → Sound p → Lawful p (e ∷ j)
    → EndsOne j e y → ro.EndsThese p j e (y ∷ [])
ends_one p e j y sound legal is = record {
  these = λ t. is.exact t ∙ ap (λ b. ended j t || b) (turned y t);
  under_way = λ t among. subst (ro.IsUnderWay p j) (sym
      (same_attempt_eq t y (only_one (same_attempt t y) among)))
      (under_way p j y sound legal.0 is.going);
  none_begins = λ a b. kn.none_begins e j a b is.none;
  grant = λ a. en.grants_same e j a is.ungranted;
  commit = λ a b. en.commits_same e j a b (λ how k. no_commit e.call is.uncommitted a b how k);
  begun = λ t lt. kn.past_unended p j t legal.0 lt;
}

-- of a Claim that is refused
pub ends_claimed : (p : Plan) (e : Entry) (j : List Entry) (y : Attempt × Found) → Lawful p (e ∷ j)
    → refused_in e.call e.reply ≡ Some y → EndsOne j e y.0
ends_claimed p e j y legal h = record {
  exact = ex.refused_ends p e j y legal h;
  going = (g.claimable p e j y.0 legal (ex.refused_claims e.call e.reply y h)).under_way;
  none = quiet e.call e.reply h;
  ungranted = ex.refused_grants_none e.call e.reply y h;
  uncommitted = uncommitted e.call e.reply h;
}
  where
    quiet : (d : Call) (x : Reply) → refused_in d x ≡ Some y → begun_in x ≡ None
    quiet (call.Claim a b t f) reply.AgainLater k = refl
    quiet (call.Claim a b t f) reply.Dropped k = refl
    quiet (call.Claim a b t f) _ k = absurd (cc)
    quiet _ _ k = absurd (cc)

    uncommitted : (d : Call) (x : Reply) → refused_in d x ≡ Some y → is_commit d ≡ false
    uncommitted (call.Claim m n t f) x k = refl
    uncommitted _ x k = absurd (cc)

-- of a Launched with a fault, and a Wrote that says that a request wasn't written: exactly its
-- attempt ends, where its action
-- has no grant, and else none
and_true : (b d : Bool) → d ≡ false → (b && not d) ≡ b
and_true true false h = refl
and_true false d h = refl
and_true true true h = absurd (cc)

and_false : (a b d : Bool) → d ≡ true → (a || (b && not d)) ≡ a
and_false true b d h = refl
and_false false true true h = refl
and_false false false d h = refl
and_false false true false h = absurd (cc)

noted_begins_none : (p : Plan) (e : Entry) (j : List Entry) → Lawful p (e ∷ j)
    → is_report e.call ≡ true → begun_in e.reply ≡ None
noted_begins_none p e j legal h = by e.call e.reply legal.1.told h
  where
    by : (d : Call) (x : Reply) → lw.Told p j e.lane d x → is_report d ≡ true → begun_in x ≡ None
    by (call.Launched l how) x is k = ap begun_in is
    by (call.Wrote l n how) x is k = ap begun_in is
    by call.Ask x is k = absurd (cc)
    by call.Tick x is k = absurd (cc)
    by call.Take x is k = absurd (cc)
    by call.Halt x is k = absurd (cc)
    by (call.Look w) x is k = absurd (cc)
    by (call.Claim a b t y) x is k = absurd (cc)
    by (call.Committed a b how) x is k = absurd (cc)
    by (call.Killed l) x is k = absurd (cc)
    by (call.Answer l y) x is k = absurd (cc)
    by (call.Ended l how) x is k = absurd (cc)

report_grants_none : (d : Call) (x : Reply) → is_report d ≡ true → granted_in d x ≡ None
report_grants_none (call.Launched l how) x h = refl
report_grants_none (call.Wrote l n how) x h = refl
report_grants_none _ x h = absurd (cc)

report_commits_none : (d : Call) → is_report d ≡ true → is_commit d ≡ false
report_commits_none (call.Launched l how) h = refl
report_commits_none (call.Wrote l n how) h = refl
report_commits_none _ h = absurd (cc)

ends_reported : (p : Plan) (e : Entry) (j : List Entry) (s : Attempt) (test : Attempt → Bool)
    → Lawful p (e ∷ j) → is_report e.call ≡ true → EndExactly j e test
    → ((t : Attempt) → test t ≡ same_attempt s t) → IsGoing j s → EndsOne j e s
ends_reported p e j s test legal report exact same going = record {
  exact = λ t. exact t ∙ ap (λ b. ended j t || b) (same t);
  going = going;
  none = noted_begins_none p e j legal report;
  ungranted = report_grants_none e.call e.reply report;
  uncommitted = report_commits_none e.call report;
}

pub ends_launched : (p : Plan) (e : Entry) (j : List Entry) (l m : ℕ) (how : Started) (s : Attempt)
    → Lawful p (e ∷ j) → e.call ≡ call.Launched l how → is_done how ≡ false
    → launch_of j l ≡ Some (m, s) → granted j s.action ≡ false → EndsOne j e s
ends_launched p e j l m how s legal is fault at free =
    ends_reported p e j s (is_open_attempt j s) legal (rw is refl)
    (ex.launched_ends p e j l m how s legal is fault at)
    (λ t. and_true (same_attempt s t) (granted j s.action) free)
    (fa.launched_going p e j l m how s legal is at)

pub none_launched : (p : Plan) (e : Entry) (j : List Entry) (l m : ℕ) (how : Started) (s : Attempt)
    → Lawful p (e ∷ j) → e.call ≡ call.Launched l how → is_done how ≡ false
    → launch_of j l ≡ Some (m, s) → granted j s.action ≡ true → rr.EndsNone j e
none_launched p e j l m how s legal is fault at won =
    λ t. ex.launched_ends p e j l m how s legal is fault at t
    ∙ and_false (ended j t) (same_attempt s t) (granted j s.action) won

-- a Wrote of a request on a line that hasn't Ended, or that was answered
pub ends_written : (p : Plan) (e : Entry) (j : List Entry) (l : ℕ) (n : ℤ) (how : Written)
    (x : Request) → Lawful p (e ∷ j) → e.call ≡ call.Wrote l n how → is_unwritten how ≡ true
    → order_of j e.lane ≡ Some x
    → (has_ended j x.line ≡ false) ⊎ (answered j x.attempt ≡ true)
    → granted j x.attempt.action ≡ false → EndsOne j e x.attempt
ends_written p e j l n how x legal is un order up free =
    ends_reported p e j x.attempt (is_open_attempt j x.attempt) legal (rw is refl)
    (ex.unwritten_ends p e j l n how x legal is un order)
    (λ t. and_true (same_attempt x.attempt t) (granted j x.attempt.action) free)
    (fa.written_going p e j l n how x legal is order up)

pub none_written : (p : Plan) (e : Entry) (j : List Entry) (l : ℕ) (n : ℤ) (how : Written)
    (x : Request) → Lawful p (e ∷ j) → e.call ≡ call.Wrote l n how → is_unwritten how ≡ true
    → order_of j e.lane ≡ Some x → granted j x.attempt.action ≡ true
    → rr.EndsNone j e
none_written p e j l n how x legal is un order won =
    λ t. ex.unwritten_ends p e j l n how x legal is un order t
    ∙ and_false (ended j t) (same_attempt x.attempt t) (granted j x.attempt.action) won

-- what had ended ends no more
ended_already : (j : List Entry) (s t : Attempt) (b : Bool) → (b ≡ true → ended j s ≡ true)
    → (ended j t || (same_attempt s t && b)) ≡ ended j t
ended_already j s t b h = by (ended j t) (same_attempt s t) b refl refl refl
  where
    by : (a c d : Bool) → ended j t ≡ a → same_attempt s t ≡ c → b ≡ d → (a || (c && d)) ≡ a
    by true c d u w y = refl
    by false false d u w y = refl
    by false true false u w y = refl
    by false true true u w y = absurd (clash (ended j t)
        (subst (λ (z : Attempt). ended j z ≡ true) (same_attempt_eq s t w) (h y)) u)

pub none_left : (p : Plan) (e : Entry) (j : List Entry) (l : ℕ) (n : ℤ) (how : Written)
    (x : Request) → Lawful p (e ∷ j) → e.call ≡ call.Wrote l n how → is_unwritten how ≡ true
    → order_of j e.lane ≡ Some x
    → has_ended j x.line ≡ true → answered j x.attempt ≡ false → rr.EndsNone j e
none_left p e j l n how x legal is un order over unanswered = λ t.
    ex.unwritten_ends p e j l n how x legal is un order t
    ∙ ended_already j x.attempt t (not (granted j x.attempt.action))
    (λ h. fa.written_over p e j l n how x legal is order over unanswered (not_true _ h))

-- a FeedFault of an answered request on a line that has Ended
pub ends_fed : (p : Plan) (e : Entry) (j : List Entry) (l : ℕ) (n : ℤ) (x : Request)
    → Lawful p (e ∷ j) → e.call ≡ call.Wrote l n write.FeedFault → order_of j e.lane ≡ Some x
    → has_ended j x.line ≡ true → answered j x.attempt ≡ true → granted j x.attempt.action ≡ false
    → EndsOne j e x.attempt
ends_fed p e j l n x legal is order over done free =
    ends_reported p e j x.attempt (λ t. same_attempt x.attempt t
    && (has_ended j x.line && not (granted j x.attempt.action))) legal (rw is refl)
    (ex.feed_ends p e j l n x legal is order (fa.order_on p e j l n write.FeedFault x legal is
    order).carrier)
    (λ t. rw over (and_true (same_attempt x.attempt t) (granted j x.attempt.action) free))
    (fa.written_going p e j l n write.FeedFault x legal is order (inr done))

-- of every other request
pub none_fed : (p : Plan) (e : Entry) (j : List Entry) (l : ℕ) (n : ℤ) (x : Request)
    → Lawful p (e ∷ j) → e.call ≡ call.Wrote l n write.FeedFault → order_of j e.lane ≡ Some x
    → (has_ended j x.line && (answered j x.attempt && not (granted j x.attempt.action))) ≡ false
    → rr.EndsNone j e
none_fed p e j l n x legal is order h = λ t.
    ex.feed_ends p e j l n x legal is order (fa.order_on p e j l n write.FeedFault x legal is
    order).carrier t
    ∙ ended_already j x.attempt t (has_ended j x.line && not (granted j x.attempt.action)) (λ y.
    let parts = and_parts (has_ended j x.line) _ y in
    let free = not_true _ parts.1 in
    let unanswered : answered j x.attempt ≡ false = false_by _
    (λ done. clash _ (and_from _ _ parts.0 (and_from _ _ done parts.1)) h) in
    fa.written_over p e j l n write.FeedFault x legal is order parts.0 unanswered free)

-- of an entry with which nothing begins, ends, is granted or committed
pub same_branches : (p : Plan) (e : Entry) (j : List Entry) → Lawful p (e ∷ j)
    → is_quiet_call e.call ≡ true → is_commit e.call ≡ false → begun_in e.reply ≡ None
    → ro.SameBranches j (e ∷ j)
same_branches p e j legal quiet uncommitted none = record {
  actions = record {
    grant = λ a. en.grants_same e j a (no_grant e.call e.reply quiet);
    commit = λ a b. en.commits_same e j a b (λ how k. no_commit e.call uncommitted a b how k);
    ended_too = λ t. en.quiet_ends_none p e j t legal quiet;
  };
  none_begins = λ a b. kn.none_begins e j a b none;
}

-- of a Send of an attempt that was launched before
pub sent_branches : (p : Plan) (e : Entry) (j : List Entry) (t : Attempt) → Lawful p (e ∷ j)
    → begun_in e.reply ≡ Some t → begun j t ≡ true → e.call ≡ call.Ask → ro.SameBranches j (e ∷ j)
sent_branches p e j t legal begins old asked = record {
  actions = record {
    grant = λ a. en.grants_same e j a (no_grant e.call e.reply quiet);
    commit = λ a b. en.commits_same e j a b (λ how k. no_commit e.call uncommitted a b how k);
    ended_too = λ s. en.quiet_ends_none p e j s legal quiet;
  };
  none_begins = λ a b. kn.again_same p e j t legal begins old a b;
}
  where
    quiet : is_quiet_call e.call ≡ true
    quiet = rw asked refl

    uncommitted : is_commit e.call ≡ false
    uncommitted = rw asked refl

-- of a greeting
pub greeted_branches : (p : Plan) (e : Entry) (j : List Entry) → Lawful p (e ∷ j)
    → e.reply ≡ reply.Greeted → ro.SameBranches j (e ∷ j)
greeted_branches p e j legal h = let w = gr.greeting_keeps p e j legal h in
    record { actions = w.actions; none_begins = w.none_begins }

-- race_core
pub is_open_race : (p : Plan) (e : Entry) (j : List Entry) (y : Attempt × Found) → Lawful p (e ∷ j)
    → granted_in e.call e.reply ≡ Some y → rc.IsOpen j y.0.action
is_open_race p e j y legal h = let b = of.is_ungranted p e j y legal h in
    record { ungranted = b.ungranted; uncommitted = b.uncommitted }

pub won_by : (p : Plan) (e : Entry) (j : List Entry) (a : ℕ) (b : Branch) (how : CommitEnd)
    → Lawful p (e ∷ j) → e.call ≡ call.Committed a b how → rc.WonBy j a b
won_by p e j a b how legal h = let w = of.is_granted_files p e j a b how legal h in
    record { winner = rw w.winner refl; uncommitted = w.uncommitted }

pub same_race : (p : Plan) (e : Entry) (j : List Entry) → Lawful p (e ∷ j)
    → granted_in e.call e.reply ≡ None → is_commit e.call ≡ false → rc.SameRace j (e ∷ j)
same_race p e j legal ungranted uncommitted = record {
  grant = λ a. en.grants_same e j a ungranted;
  commit = λ a b. en.commits_same e j a b (λ how k. no_commit e.call uncommitted a b how k);
}

-- worker_pool
pub wanted_stays : (p : Plan) (e : Entry) (j : List Entry) → Lawful p (e ∷ j) → wp.WantedStays p j e
wanted_stays p e j legal = let w = of.wanted_follows p e j legal in
    record { unwanted = w.unwanted; bound_yet = w.bound_yet }

pub carries : (p : Plan) (j : List Entry) → Lawful p j → wp.CarriesItsBound p j
carries p j legal = let w = of.bound_carried p j legal in
    record { carrier = w.carrier; unanswered = w.unanswered }

pub is_new : (p : Plan) (e : Entry) (j : List Entry) (x : ℕ × Attempt) → Sound p → Lawful p (e ∷ j)
    → launch_in e.reply ≡ Some x → wp.IsNew p j x.1
is_new p e j x sound legal h = let w = pl.fresh_launch p e j x legal sound.least h in
    record { unbegun = w.unbegun; going = w.going; wish = w.wish }

pub is_sent_to : (p : Plan) (e : Entry) (j : List Entry) (x : Request) → Lawful p (e ∷ j)
    → send_in e.reply ≡ Some x → wp.IsSentTo j x.attempt x.line
is_sent_to p e j x legal h = let w = of.fresh_send p e j x legal h in
    record {
      unended = w.unended;
      unsent = w.unsent;
      unanswered = w.unanswered;
      carrier = w.carrier;
      launched = w.launched;
    }

pub is_first : (p : Plan) (j : List Entry) (lane : ℕ) (x : Request) → Lawful p j
    → order_of j lane ≡ Some x → wp.IsFirstWrite j lane x
is_first p j lane x legal h = record { order = h; first = pl.first_write p j lane x legal h }

-- an answer that is consumed has its request pending on its own line, and nowhere else
pub is_pending_on : (p : Plan) (e : Entry) (j : List Entry) (l : ℕ) (x : Answer) (s : Attempt)
    → Lawful p (e ∷ j) → e.call ≡ call.Answer l x → consumed_in e.reply ≡ Some s
    → wp.IsPendingOn j s l
is_pending_on p e j l x s legal ic is =
    let w = pl.answered_place p e j l x s legal ic is in
    subst (λ (t : Attempt). wp.IsPendingOn j t l) w.1 (po.pending_on j
    (begin_in_order p j legal.0) l w.3.place w.0 w.3.is w.2)

-- request_table and cancel_rules
pub is_new_request : (p : Plan) (e : Entry) (j : List Entry) (x : Request) → Lawful p (e ∷ j)
    → send_in e.reply ≡ Some x → rq.IsNewRequest j x.line x.attempt
is_new_request p e j x legal h = let w = of.fresh_send p e j x legal h in
    record {
      unsent = w.unsent;
      unanswered = w.unanswered;
      unwritten = w.unwritten;
      running = w.unended;
    }

pub is_next_send : (p : Plan) (e : Entry) (j : List Entry) (x : Request) → Sound p → Lawful p (e ∷ j)
    → send_in e.reply ≡ Some x → rq.IsNextSend p j (group_on p j x.line) x.line x.number x.attempt.action
    x.attempt.branch x.attempt.number
is_next_send p e j x sound legal h =
    let w = of.fresh_send p e j x legal h in
    let n = pl.numbered_send p e j x legal sound.least h in
    record {
      number = n.number;
      group = w.group;
      earlier = numbered _ _ n.earlier;
      new = is_new_request p e j x legal h;
    }

pub known_answer : (p : Plan) (e : Entry) (j : List Entry) (l : ℕ) (x : Answer) (s : Attempt)
    → Lawful p (e ∷ j) → e.call ≡ call.Answer l x → consumed_in e.reply ≡ Some s
    → rq.IsKnownBy j l x.number s
known_answer p e j l x s legal ic is = let w = of.known_by_answer p e j l x s legal ic is in
    record { here = each_of _ _ w.here; elsewhere = λ i apart. each_of _ _ (w.elsewhere i apart) }

pub known_write : (p : Plan) (e : Entry) (j : List Entry) (l : ℕ) (n : ℤ) (how : Written)
    (x : Request) → Lawful p (e ∷ j) → e.call ≡ call.Wrote l n how → order_of j e.lane ≡ Some x
    → rq.IsKnownBy j l n x.attempt
known_write p e j l n how x legal is h = let w = la.known_by_write p e j l n how x legal is h in
    record { here = each_of _ _ w.here; elsewhere = λ i apart. each_of _ _ (w.elsewhere i apart) }

pub is_past : (p : Plan) (j : List Entry) (s : Attempt) (l : ℕ) → Lawful p j → line_of j s ≡ Some l
    → has_ended j l ≡ true → rq.IsPast j s
is_past p j s l legal at over = λ i. each_of _ _ (of.past_ended p j s l legal at over i)

pub is_past_answered : (j : List Entry) (s : Attempt) → answered j s ≡ true → rq.IsPast j s
is_past_answered j s h = λ i. each_of _ _ (of.past_answered j s h i)

pub wanted_by_grant : (p : Plan) (j : List Entry) (l : ℕ) → Lawful p j → cr.WantedByGrant p j l
wanted_by_grant p j l legal = let w = of.wanted_unless_granted p j l legal in
    record { within = each_of _ _ w.within; grants = each_of _ _ w.grants }

-- retry_rules
pub is_going : (j : List Entry) (t : Attempt) → IsGoing j t → rr.IsGoing j t.action t.branch
is_going j t is = record {
  begun = subst (λ n. 1 ≤ n) is.latest is.least;
  going = subst (λ n. ended j (attempt_of t.action t.branch n) ≡ false) is.latest is.going;
}

pub ends_none : (p : Plan) (e : Entry) (j : List Entry) → Lawful p (e ∷ j)
    → is_quiet_call e.call ≡ true → rr.EndsNone j e
ends_none p e j legal calm = λ t. en.quiet_ends_none p e j t legal calm

-- exactly this attempt ends: of its branch the latest, and of no other
pub branch_is : (j : List Entry) (a : ℕ) (b : Branch) (y : Attempt) → IsGoing j y
    → is_branch_of a b y ≡ true → attempt_of a b (attempt j a b) ≡ y
branch_is j a b y going h =
    let parts = and_parts (y.action == a) _ h in
    let x : y.action ≡ a = eqb-true y.action a parts.0 in
    let z : y.branch ≡ b = same_branch_eq y.branch b parts.1 in
    let n : y.number ≡ attempt j a b = going.latest ∙ ap (λ i. attempt j i y.branch) x
    ∙ ap (λ (i : Branch). attempt j a i) z in
    sym (λ i. record { action = x i; branch = z i; number = n i })

pub own_branch : (t : Attempt) → is_branch_of t.action t.branch t ≡ true
own_branch t = and_from _ _ (eq-eqb t.action t.action refl) (same_branch_refl t.branch)

ends_branch : (j : List Entry) (e : Entry) (y : Attempt) (a : ℕ) (b : Branch)
    → EndExactly j e (same_attempt y) → IsGoing j y → is_branch_of a b y ≡ rr.ends_now j e a b
ends_branch j e y a b exact going =
    by_bool (is_branch_of a b y) (λ c. is_branch_of a b y ≡ c → c ≡ rr.ends_now j e a b)
    (λ _ on. let same = branch_is j a b y going on in
    let now : ended (e ∷ j) y ≡ true = exact y ∙ rw going.going (same_attempt_refl y) in
    subst (λ (t : Attempt). true ≡ (ended (e ∷ j) t && not (ended j t))) (sym same)
    (sym (and_from _ _ now (rw going.going refl))))
    (λ _ off. sym (false_by _ (λ h.
    let parts = and_parts (ended (e ∷ j) (attempt_of a b (attempt j a b))) _ h in
    let before = not_true _ parts.1 in
    let is : same_attempt y (attempt_of a b (attempt j a b)) ≡ true =
    sym (exact (attempt_of a b (attempt j a b)) ∙ ap (λ c. c
    || same_attempt y (attempt_of a b (attempt j a b))) before) ∙ parts.0 in
    clash _ (subst (λ (t : Attempt). is_branch_of a b t ≡ true) (sym (same_attempt_eq y _ is))
    (own_branch (attempt_of a b (attempt j a b)))) off))) refl

one_times : (y : Attempt) (b : Bool) → length (cond b (y ∷ []) []) ≡ cond b 1 0
one_times y true = refl
one_times y false = refl

pub retries_one : (e : Entry) (j : List Entry) (y : Attempt) → EndsOne j e y
    → rr.EndsThese j e (y ∷ [])
retries_one e j y is = record {
  none_begins = λ a b. kn.none_begins e j a b is.none;
  these = λ a b. one_times y (is_branch_of a b y) ∙ ap
      (λ c. cond c 1 0) (ends_branch j e y a b is.exact is.going);
  begun = λ a b h. (let same = branch_is j a b y is.going
      (ends_branch j e y a b is.exact is.going ∙ h) in
      let n : attempt j a b ≡ y.number = ap (λ (t : Attempt). t.number) same in
      subst (λ i. 1 ≤ i) (sym n) is.going.least);
}
