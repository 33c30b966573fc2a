-- Where a Launch, a Send, a Wrote and an Answer stand: the numbers, places and rows that the tables ask for.
use Rattle.std.proofs.Common.{◌≡◌, ℕ, suc, ◌*◌, ◌/◌, ◌<◌, ◌≤◌, Bool, true, false, cond, List, [], ◌∷◌, length, Option, Some, None, refl, sym, subst, ◌∙◌, arith}
use Rattle.std.specs.Prelude.{slice_get}
use Rattle.std.specs.List.{filter, find}
use Rattle.std.specs.Ordering.{int_eq}
use Rattle.run_plan.specs.declared.plan.Plan.{Plan}
use Rattle.exec_journal.specs.Seated.{line_kind}
use Rattle.exec_journal.specs.declared.attempt.Attempt.{Attempt}
use Rattle.exec_journal.specs.Entry.{Entry}
use Rattle.exec_journal.specs.declared.call.Answer.{Answer}
use Rattle.exec_journal.specs.declared.call.Call.{Call}
use Rattle.exec_journal.specs.declared.call.Call.TheVariants as call
use Rattle.exec_journal.specs.declared.reply.Reply.{Reply}
use Rattle.exec_journal.specs.Entries.{Request, launch_in, send_in, consumed_in, send_of_entry}
use Rattle.exec_journal.specs.Words.{last_work, line_count, sends, pending, is_pending, wrote, order_of}
use Rattle.exec_journal.specs.Settled.{wanted}
use Rattle.run_plan.specs.Groups.{kind_of, is_single}
use Rattle.exec_journal.specs.Rules as r
use Rattle.exec_journal.specs.Lawful.{Lawful}
use Rattle.exec_journal.specs.Facts.{IsOfBerth}
use Rattle.journal_laws.specs.Invariant.{older, EachRequest}
use Rattle.journal_laws.specs.Steps.{IsFreshLaunch, IsNumberedSend, StandsThere}
use Rattle.exec_journal.proofs.Reasons as u
use Rattle.exec_journal.proofs.Ruled.{by_bool}
use Rattle.exec_journal.proofs.Begins.{same_attempt_refl, queued_is}
use Rattle.journal_laws.proofs.Owed.{is_send}
use Rattle.journal_laws.proofs.Over as v
use Rattle.journal_laws.proofs.Claims as c
use Rattle.journal_laws.proofs.Claims.{clash, false_by}
use Rattle.journal_laws.proofs.Requests as q
use Rattle.journal_laws.proofs.Keeping as ke
use Rattle.journal_laws.proofs.Offered as of
use Rattle.journal_laws.proofs.Lanes as la
use Rattle.journal_laws.proofs.Counted as co

-- ---- a Launch

launch_wanted : (p : Plan) (j : List Entry) (lane : ℕ) (d : Call) (x : Reply) (y : ℕ × Attempt) → u.Ruled p j lane d x → launch_in x ≡ Some y → wanted p j y.1.action y.1.branch ≡ true
launch_wanted p j lane d x y (u.Launches gr t vacant next none) h =
    let s : t ≡ y.1 = cc in
    subst (λ (z : Attempt). wanted p j z.action z.branch ≡ true) s (queued_is p j t.action t.branch next.action next.waiting).wish
launch_wanted p j lane d x y (u.KillsBroken l z here run broken over) h = absurd (cc)
launch_wanted p j lane d x y _ h = absurd (cc)

pub fresh_launch : (p : Plan) (e : Entry) (j : List Entry) (x : ℕ × Attempt) → Lawful p (e ∷ j) → 1 ≤ p.limit → launch_in e.reply ≡ Some x → IsFreshLaunch p j x.0 x.1
fresh_launch p e j x legal least h =
    let new = (c.launch_next p e j x legal h).unbegun in
    record {
      numbered = c.next_line p e j x legal h;
      unbegun = new;
      going = false_by _ (λ over. clash _ (c.ended_begun p j x.1 legal.0 over) new);
      wish = launch_wanted p j e.lane e.call e.reply x (v.entry_ruled p e j legal) h;
      room = co.launch_has_room p e j x legal least h;
    }

-- ---- a Send

pub line_within : (p : Plan) (j : List Entry) (l : ℕ) → Lawful p j → 1 ≤ p.limit → l < line_count j → l < 2 * length p.actions * p.limit
line_within p j l legal least lt = let a = co.lines_made p j legal in let b = co.made_most p j legal least in omega arith

pub numbered_send : (p : Plan) (e : Entry) (j : List Entry) (x : Request) → Lawful p (e ∷ j) → 1 ≤ p.limit → send_in e.reply ≡ Some x → IsNumberedSend p j e.lane x
numbered_send p e j x legal least h =
    let to = q.sends_to p j e.lane x.line e.call e.reply x (v.entry_ruled p e j legal) h refl in
    let own = la.here_own p j (e.lane / 2) x.line legal.0 to.here in
    let facts = q.line_facts p j x.line (e.lane / 2) legal.0 own in
    let room = ke.room_before p j x.line x.attempt legal.0 to.next in
    record {
      number = to.number;
      earlier = facts.numbers;
      place = omega arith;
      room = co.send_has_room p e j x x.line legal least h;
      line = line_within p j x.line legal.0 least own.below;
      owner = own.owner;
    }

-- ---- a Wrote

-- the lane's Wrote is the first about its request, which is the last that was sent on its line
pub first_write : (p : Plan) (j : List Entry) (lane : ℕ) (x : Request) → Lawful p j → order_of j lane ≡ Some x → wrote j x.attempt ≡ None
first_write p j lane x legal h = by (last_work j lane) refl h
  where
    by : (o : Option Entry) → last_work j lane ≡ o → send_of_entry o ≡ Some x → wrote j x.attempt ≡ None
    by None at g = absurd (cc)
    by (Some d) at g = (let fit : is_send x.attempt d ≡ true = rw g (same_attempt_refl x.attempt) in c.owed_unwritten p j x.attempt legal lane d at fit)

head_place : (qs : List Request) (x : Request) → r.head qs ≡ Some x → slice_get qs 0 ≡ Some x
head_place [] x h = absurd (cc)
head_place (y ∷ qs) x h = h

pub written_place : (p : Plan) (j : List Entry) (lane : ℕ) (x : Request) → Lawful p j → order_of j lane ≡ Some x → StandsThere j x.line x
written_place p j lane x legal h = by (last_work j lane) refl h
  where
    by : (o : Option Entry) → last_work j lane ≡ o → send_of_entry o ≡ Some x → StandsThere j x.line x
    by None at g = absurd (cc)
    by (Some d) at g = record { place = 0; is = head_place (sends j x.line) x (la.newest_head p j lane d x legal at g) }

-- ---- an Answer

filter_place : (test : Request → Bool) (qs : List Request) (x : Request) → r.head (filter test qs) ≡ Some x → (i : ℕ) × (slice_get qs i ≡ Some x)
filter_place test [] x h = absurd (cc)
filter_place test (y ∷ qs) x h =
    by_bool (test y) (λ b. r.head (cond b (y ∷ filter test qs) (filter test qs)) ≡ Some x → (i : ℕ) × (slice_get (y ∷ qs) i ≡ Some x))
    (λ _ m. (0, m)) (λ _ m. let i = filter_place test qs x m in (suc i.0, i.1)) h

find_place : (test : Request → Bool) (qs : List Request) (x : Request) → find test qs ≡ Some x → (i : ℕ) × (slice_get qs i ≡ Some x)
find_place test [] x h = absurd (cc)
find_place test (y ∷ qs) x h =
    by_bool (test y) (λ b. cond b (Some y) (find test qs) ≡ Some x → (i : ℕ) × (slice_get (y ∷ qs) i ≡ Some x))
    (λ _ m. (0, m)) (λ _ m. let i = find_place test qs x m in (suc i.0, i.1)) h

pub asked_place : (p : Plan) (j : List Entry) (l : ℕ) (a : Answer) (x : Request) → u.IsRequest p j l a x → StandsThere j l x
unfolding pending
asked_place p j l a x asked =
    by_bool (is_single (line_kind p j l)) (λ b. is_single (line_kind p j l) ≡ b → StandsThere j l x)
    (λ _ one. let i = filter_place (is_pending j) (sends j l) x (asked.single one).1 in record { place = i.0; is = i.1 })
    (λ _ many. let i = find_place (λ y. int_eq y.number a.number) (sends j l) x (asked.multi many) in record { place = i.0; is = i.1 }) refl

-- the request of an answer that is consumed
pub answered_place : (p : Plan) (e : Entry) (j : List Entry) (l : ℕ) (x : Answer) (s : Attempt) → Lawful p (e ∷ j) → e.call ≡ call.Answer l x → consumed_in e.reply ≡ Some s
    → (y : Request) × (y.attempt ≡ s) × (is_pending j y ≡ true) × StandsThere j l y
answered_place p e j l x s legal ic is =
    let one = v.consumes p j e.lane e.call e.reply s (v.entry_ruled p e j legal) is in
    let same_call : call.Answer one.line one.answer ≡ call.Answer l x = sym one.is ∙ ic in
    let l_is : one.line ≡ l = cc in
    (one.request, one.of, one.asked.is_open, subst (λ n. StandsThere j n one.request) l_is (asked_place p j one.line one.answer one.request one.asked))

-- on a Single line at most one request is pending
pub one_pending : (p : Plan) (j : List Entry) (l w : ℕ) → Lawful p j → IsOfBerth j l w → is_single (line_kind p j l) ≡ true → length (pending j l) ≤ 1
unfolding pending
one_pending p j l w legal own one = by (sends j l) ((q.line_facts p j l w legal own).closed one)
  where
    none : (ys : List Request) → EachRequest (λ y. is_pending j y ≡ false) ys → length (filter (is_pending j) ys) ≡ 0
    none [] all = refl
    none (y ∷ ys) all = rw all.0 (none ys all.1)

    by : (ys : List Request) → EachRequest (λ y. is_pending j y ≡ false) (older ys) → length (filter (is_pending j) ys) ≤ 1
    by [] all = omega arith
    by (y ∷ ys) all =
        by_bool (is_pending j y) (λ b. length (cond b (y ∷ filter (is_pending j) ys) (filter (is_pending j) ys)) ≤ 1)
        (λ _. let n = none ys all in omega arith) (λ _. let n = none ys all in omega arith)
