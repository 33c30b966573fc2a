-- Of the lines of a berth only the last can be live: each other one failed to launch, or has Ended and was killed.
use Rattle.std.proofs.Common.{◌≡◌, ℕ, suc, ◌/◌, ◌==◌, nat_le, Bool, true, false, ◌&&◌, ◌||◌, not, cond, List, [], ◌∷◌, length, Option, Some, None, option_map, ◌⊎◌, inl, inr, refl, ap, subst, ◌∙◌, arith}
use Rattle.std.specs.List.{list_any, filter}
use Rattle.std.proofs.lemmas.Bool.{eqb-true, eq-eqb, le-leb, and_parts, and_from, and_left, or_cases, or_left, or_right, or_from}
use Rattle.run_plan.specs.declared.plan.Plan.{Plan}
use Rattle.exec_journal.specs.declared.attempt.Attempt.{Attempt}
use Rattle.exec_journal.specs.Entry.{Entry}
use Rattle.exec_journal.specs.declared.call.Call.{Call}
use Rattle.exec_journal.specs.declared.reply.Reply.{Reply}
use Rattle.exec_journal.specs.declared.reply.Reply.TheVariants as reply
use Rattle.exec_journal.specs.History.{each, latest}
use Rattle.list_lemmas.specs.Options.{or_else, and_more}
use Rattle.exec_journal.specs.Entries.{Request, attempt_of, launch_in, send_in, fails, kills}
use Rattle.exec_journal.specs.Words.{last_line, line_at, lines_of, launch_of, sends, sent_on, is_pending, has_ended, started, failed, was_killed, broke, live}
use Rattle.exec_journal.specs.Rules.{is_vacant, head}
use Rattle.exec_journal.specs.Kept.{sent_by, requests_of, is_room_free}
use Rattle.exec_journal.specs.Lawful.{Lawful}
use Rattle.exec_journal.specs.Facts.{reply_line, IsOfBerth, OfBerth}
use Rattle.journal_laws.specs.Invariant.{EachRequest}
use Rattle.exec_journal.proofs.Histories.{AllOf}
use Rattle.exec_journal.proofs.Reasons as u
use Rattle.exec_journal.proofs.Ruled.{by_bool, not_true}
use Rattle.exec_journal.proofs.Lines.{lines_named, of_berth_more}
use Rattle.exec_journal.proofs.Begins.{begin_in_order}
use Rattle.journal_laws.proofs.Carried as k
use Rattle.journal_laws.proofs.Over as v
use Rattle.journal_laws.proofs.Claims as c
use Rattle.journal_laws.proofs.Claims.{clash, false_by}
use Rattle.journal_laws.proofs.Requests as q
use Rattle.journal_laws.proofs.Races as ra

-- ---- a line that is done stays done

abbrev pub is_done_line : List Entry → ℕ → Bool
is_done_line j l = failed j l || (has_ended j l && was_killed j l)

done_stays : (e : Entry) (j : List Entry) (l : ℕ) → is_done_line j l ≡ true → is_done_line (e ∷ j) l ≡ true
unfolding failed has_ended was_killed
done_stays e j l h = elim (or_cases (failed j l) _ h) [
  | inl a ↦ or_left _ _ (or_right (fails l e.call) _ a)
  | inr b ↦ (let parts = and_parts (has_ended j l) _ b in or_right (failed (e ∷ j) l) _ (and_from _ _ (v.ended_line_stays e j l parts.0) (or_right (kills l e.call) _ parts.1)))
]

-- ---- the lines of a berth, the newest first

-- all but the first are done
unfoldable pub EachDone : List Entry → List ℕ → Type 0
EachDone j [] = Unit {0}
EachDone j (l ∷ ls) = (is_done_line j l ≡ true) × EachDone j ls

abbrev pub rest : List ℕ → List ℕ
rest [] = []
rest (l ∷ ls) = ls

dones_stay : (e : Entry) (j : List Entry) (ls : List ℕ) → EachDone j ls → EachDone (e ∷ j) ls
unfolding EachDone
dones_stay e j [] all = tt
dones_stay e j (l ∷ ls) all = (done_stays e j l all.0, dones_stay e j ls all.1)

head_last : (j : List Entry) (w : ℕ) → head (lines_of j w) ≡ last_line j w
unfolding lines_of last_line
head_last [] w = refl
head_last (e ∷ j) w = by (line_at w e) (head_last j w)
  where
    by : (o : Option ℕ) → head (lines_of j w) ≡ last_line j w → head (and_more o (each (λ _ d. line_at w d) j)) ≡ or_else o (latest (λ _ d. line_at w d) j)
    by (Some l) ih = refl
    by None ih = ih

-- an entry that launches a line for the berth w finds its last line done
pub record LaunchesFor (p : Plan) (j : List Entry) (w : ℕ) : Type 0 where
  pub vacant : is_vacant j (last_line j w) ≡ true

line_at_is : (w : ℕ) (e : Entry) (l : ℕ) → line_at w e ≡ Some l → (t : Attempt) × (launch_in e.reply ≡ Some (l, t)) × (e.lane / 2 ≡ w)
line_at_is w e l h =
    by_bool (e.lane / 2 == w) (λ b. (e.lane / 2 == w) ≡ b → cond b (option_map (λ x. x.0) (launch_in e.reply)) None ≡ Some l → (t : Attempt) × (launch_in e.reply ≡ Some (l, t)) × (e.lane / 2 ≡ w))
    (λ _ same m. of_launch (launch_in e.reply) refl m (eqb-true (e.lane / 2) w same)) (λ _ _ m. absurd (cc)) refl h
  where
    of_launch : (o : Option (ℕ × Attempt)) → launch_in e.reply ≡ o → option_map (λ x. x.0) o ≡ Some l → e.lane / 2 ≡ w → (t : Attempt) × (launch_in e.reply ≡ Some (l, t)) × (e.lane / 2 ≡ w)
    of_launch None is m same = absurd (cc)
    of_launch (Some x) is m same = (let n : x.0 ≡ l = cc in (x.1, is ∙ ap (λ i. Some (i, x.1)) n, same))

launches_for : (p : Plan) (j : List Entry) (lane : ℕ) (d : Call) (x : Reply) (y : ℕ × Attempt) → u.Ruled p j lane d x → launch_in x ≡ Some y → LaunchesFor p j (lane / 2)
launches_for p j lane d x y (u.Launches gr t vacant next none) h = record { vacant = vacant }
launches_for p j lane d x y (u.KillsBroken l z here run broken over) h = absurd (cc)
launches_for p j lane d x y _ h = absurd (cc)

all_done : (j : List Entry) (ls : List ℕ) → is_vacant j (head ls) ≡ true → EachDone j (rest ls) → EachDone j ls
unfolding EachDone
all_done j [] h all = tt
all_done j (l ∷ ls) h all = (h, all)

lines_grow : (e : Entry) (j : List Entry) (w : ℕ) (o : Option ℕ) → line_at w e ≡ o → lines_of (e ∷ j) w ≡ and_more o (lines_of j w)
unfolding lines_of
lines_grow e j w o h = rw h refl

pub older_done : (p : Plan) (j : List Entry) (w : ℕ) → Lawful p j → EachDone j (rest (lines_of j w))
unfolding lines_of EachDone
older_done p [] w legal = tt
older_done p (e ∷ j) w legal = by (line_at w e) refl (older_done p j w legal.0)
  where
    by : (o : Option ℕ) → line_at w e ≡ o → EachDone j (rest (lines_of j w)) → EachDone (e ∷ j) (rest (and_more o (lines_of j w)))
    by None is all = dones_stay e j (rest (lines_of j w)) all
    by (Some l) is all =
        let new = line_at_is w e l is in
        let free = launches_for p j e.lane e.call e.reply (l, new.0) (v.entry_ruled p e j legal) new.1 in
        let vacant : is_vacant j (last_line j w) ≡ true = subst (λ n. is_vacant j (last_line j n) ≡ true) new.2 free.vacant in
        dones_stay e j (lines_of j w) (all_done j (lines_of j w) (ap (is_vacant j) (head_last j w) ∙ vacant) all)

-- each line of the berth is its last, or done
pub last_or_done : (p : Plan) (j : List Entry) (l m : ℕ) (t : Attempt) → Lawful p j → launch_of j l ≡ Some (m, t) → (last_line j (m / 2) ≡ Some l) ⊎ (is_done_line j l ≡ true)
unfolding launch_of last_line
last_or_done p [] l m t legal h = absurd (cc)
last_or_done p (e ∷ j) l m t legal h = by (q.launch_cases p e j l m t h) (λ y. last_or_done p j l m t legal.0 y)
  where
    now : launch_in e.reply ≡ Some (l, t) → e.lane ≡ m → last_line (e ∷ j) (m / 2) ≡ Some l
    now is lane = let same : (e.lane / 2 == m / 2) ≡ true = eq-eqb _ _ (ap (λ n. n / 2) lane) in rw (is, same) refl

    kept : (o : Option ℕ) → line_at (m / 2) e ≡ o → (last_line j (m / 2) ≡ Some l) ⊎ (is_done_line j l ≡ true) → (last_line (e ∷ j) (m / 2) ≡ Some l) ⊎ (is_done_line (e ∷ j) l ≡ true)
    kept o is (inr done) = inr (done_stays e j l done)
    kept None is (inl last) = inl (rw is last)
    kept (Some i) is (inl last) =
        let new = line_at_is (m / 2) e i is in
        let free = launches_for p j e.lane e.call e.reply (i, new.0) (v.entry_ruled p e j legal) new.1 in
        let vacant : is_vacant j (last_line j (m / 2)) ≡ true = subst (λ n. is_vacant j (last_line j n) ≡ true) new.2 free.vacant in
        let done : is_vacant j (Some l) ≡ true = subst (λ (x : Option ℕ). is_vacant j x ≡ true) last vacant in
        inr (done_stays e j l done)

    by : q.Launches p e j l m t → (launch_of j l ≡ Some (m, t) → (last_line j (m / 2) ≡ Some l) ⊎ (is_done_line j l ≡ true)) → (last_line (e ∷ j) (m / 2) ≡ Some l) ⊎ (is_done_line (e ∷ j) l ≡ true)
    by (q.Now is lane) ih = inl (now is lane)
    by (q.Before at) ih = kept (line_at (m / 2) e) refl (ih at)

-- ---- a done line is not live, and nothing is pending on it

pub done_not_live : (p : Plan) (j : List Entry) (l : ℕ) → Lawful p j → is_done_line j l ≡ true → live j l ≡ false
unfolding live
done_not_live p j l legal h = elim (or_cases (failed j l) _ h) [
  | inl a ↦ and_left (started j l) _ (false_by _ (λ up. clash (failed j l) a (c.started_unfailed p j l legal up)))
  | inr b ↦ (let broken = k.ended_broke j l (and_parts (has_ended j l) _ b).0 in not_so (started j l) (broke j l) (not (was_killed j l)) broken)
]
  where
    not_so : (x y z : Bool) → y ≡ true → (x && (not y && z)) ≡ false
    not_so true true z h = refl
    not_so false true z h = refl
    not_so x false z h = absurd (cc)

-- a line to which something was sent was started
sent_started_here : (p : Plan) (e : Entry) (j : List Entry) (x : Request) → Lawful p (e ∷ j) → send_in e.reply ≡ Some x → started (e ∷ j) x.line ≡ true
unfolding started
sent_started_here p e j x legal h = or_right _ (started j x.line) (c.live_started j x.line (c.sends_live p j e.lane e.call e.reply x (v.entry_ruled p e j legal) h))

pub started_later : (e : Entry) (j : List Entry) (l : ℕ) → started j l ≡ true → started (e ∷ j) l ≡ true
unfolding started
started_later e j l h = or_right _ (started j l) h

-- what is so of each request of the line is so of this one
pub IsAmong : List Entry → Request → Type 0
IsAmong j x = (test : Request → Bool) → EachRequest (λ y. test y ≡ false) (sends j x.line) → test x ≡ false

-- a request of the berth: its line is one of the berth, which was started
pub record IsBerthRequest (j : List Entry) (w : ℕ) (x : Request) : Type 0 where
  pub own : IsOfBerth j x.line w
  pub up : started j x.line ≡ true
  pub sent : ra.IsSentRequest j x
  pub among : IsAmong j x

sent_by_is : (w : ℕ) (e : Entry) (x : Request) → sent_by w e ≡ Some x → (send_in e.reply ≡ Some x) × (e.lane / 2 ≡ w)
sent_by_is w e x h =
    by_bool (e.lane / 2 == w) (λ b. (e.lane / 2 == w) ≡ b → cond b (send_in e.reply) None ≡ Some x → (send_in e.reply ≡ Some x) × (e.lane / 2 ≡ w))
    (λ _ same m. (m, eqb-true (e.lane / 2) w same)) (λ _ _ m. absurd (cc)) refl h

send_names : (x : Reply) (y : Request) → send_in x ≡ Some y → reply_line x ≡ Some y.line
send_names (reply.Send l n a b t) y h = let e : record { line = l; number = n; attempt = attempt_of a b t } ≡ y = cc in ap (λ (z : Request). Some z.line) e
send_names _ y h = absurd (cc)

send_on_own : (x : Reply) (y : Request) → send_in x ≡ Some y → sent_on y.line x ≡ Some y
send_on_own (reply.Send l n a b t) y h =
    let e : record { line = l; number = n; attempt = attempt_of a b t } ≡ y = cc in
    subst (λ (z : Request). sent_on z.line (reply.Send l n a b t) ≡ Some z) e (rw (eq-eqb l l refl) refl)
send_on_own _ y h = absurd (cc)

pub among_here : (e : Entry) (j : List Entry) (x : Request) → send_in e.reply ≡ Some x → IsAmong (e ∷ j) x
unfolding IsAmong
among_here e j x h test all = (subst (EachRequest (λ y. test y ≡ false)) (q.sends_grow e j x.line x (send_on_own e.reply x h)) all).0

pub among_later : (e : Entry) (j : List Entry) (x : Request) → IsAmong j x → IsAmong (e ∷ j) x
unfolding IsAmong sends
among_later e j x among test all = among test (less (sent_on x.line e.reply) (sends j x.line) all)
  where
    less : (o : Option Request) (xs : List Request) → EachRequest (λ y. test y ≡ false) (and_more o xs) → EachRequest (λ y. test y ≡ false) xs
    less None xs a = a
    less (Some y) xs a = a.1

pub berth_requests : (p : Plan) (j : List Entry) (w : ℕ) → Lawful p j → AllOf (IsBerthRequest j w) (requests_of j w)
berth_requests p [] w legal = tt
berth_requests p (e ∷ j) w legal =
    k.all_more (IsBerthRequest (e ∷ j) w) (sent_by w e) (each (λ _ d. sent_by w d) j)
    (λ x h. new x (sent_by_is w e x h))
    (k.all_map (IsBerthRequest j w) (IsBerthRequest (e ∷ j) w) (λ x h. later x h) _ (berth_requests p j w legal.0))
  where
    named : OfBerth (e ∷ j) (reply_line e.reply) (e.lane / 2)
    named = (lines_named p (e ∷ j) legal).1.replied

    new : (x : Request) → (send_in e.reply ≡ Some x) × (e.lane / 2 ≡ w) → IsBerthRequest (e ∷ j) w x
    new x h = record {
      own = subst (λ n. IsOfBerth (e ∷ j) x.line n) h.1 (subst (λ (o : Option ℕ). OfBerth (e ∷ j) o (e.lane / 2)) (send_names e.reply x h.0) named);
      up = sent_started_here p e j x legal h.0;
      sent = ra.sent_line e j e.reply x refl h.0;
      among = among_here e j x h.0;
    }

    later : (x : Request) → IsBerthRequest j w x → IsBerthRequest (e ∷ j) w x
    later x h = record {
      own = of_berth_more e j x.line w (lines_named p (e ∷ j) legal).1.numbered h.own;
      up = started_later e j x.line h.up;
      sent = record { sent = k.sent_later e j x.attempt h.sent.sent; carrier = k.line_stays e j x.attempt x.line (begin_in_order p (e ∷ j) legal) h.sent.carrier };
      among = among_later e j x h.among;
    }

pub among_at : (j : List Entry) (x : Request) (test : Request → Bool) → IsAmong j x → EachRequest (λ y. test y ≡ false) (sends j x.line) → test x ≡ false
unfolding IsAmong
among_at j x test among all = among test all

pub among_closed : (j : List Entry) (x : Request) → IsAmong j x → EachRequest (λ y. is_pending j y ≡ false) (sends j x.line) → is_pending j x ≡ false
unfolding IsAmong
among_closed j x among all = among (is_pending j) all

-- ---- when a room is free

done_closed : (p : Plan) (j : List Entry) (w : ℕ) (x : Request) → Lawful p j → IsBerthRequest j w x → is_done_line j x.line ≡ true → is_pending j x ≡ false
done_closed p j w x legal of_berth h = false_by _ (λ open_yet. by (q.pending_is j x open_yet) (or_cases (failed j x.line) _ h))
  where
    by : q.IsOpen j x → (failed j x.line ≡ true) ⊎ ((has_ended j x.line && was_killed j x.line) ≡ true) → ⊥
    by now (inl a) = clash (failed j x.line) a (c.started_unfailed p j x.line legal of_berth.up)
    by now (inr b) = clash (has_ended j x.line) (and_parts (has_ended j x.line) _ b).0 now.running

none_of : (test : Request → Bool) (xs : List Request) → AllOf (λ x. test x ≡ false) xs → list_any test xs ≡ false
none_of test [] all = refl
none_of test (x ∷ xs) all = or_from _ _ all.0 (none_of test xs all.1)

-- a berth whose last line's requests are all closed has a free room
pub room_free : (p : Plan) (j : List Entry) (w : ℕ) → Lawful p j → ((x : Request) → IsBerthRequest j w x → last_line j w ≡ Some x.line → is_pending j x ≡ false) → is_room_free j w ≡ true
room_free p j w legal last =
    rw (none_of (is_pending j) (requests_of j w) (k.all_map (IsBerthRequest j w) (λ x. is_pending j x ≡ false) one _ (berth_requests p j w legal))) refl
  where
    one : (x : Request) → IsBerthRequest j w x → is_pending j x ≡ false
    one x h = by (last_or_done p j x.line h.own.owner.0 h.own.owner.1 legal h.own.owner.2)
      where
        by : (last_line j (h.own.owner.0 / 2) ≡ Some x.line) ⊎ (is_done_line j x.line ≡ true) → is_pending j x ≡ false
        by (inl here) = last x h (subst (λ n. last_line j n ≡ Some x.line) h.own.owner.3 here)
        by (inr done) = done_closed p j w x legal h done

-- a vacant berth has
pub vacant_room : (p : Plan) (j : List Entry) (w : ℕ) → Lawful p j → is_vacant j (last_line j w) ≡ true → is_room_free j w ≡ true
vacant_room p j w legal vacant =
    room_free p j w legal (λ x h here. done_closed p j w x legal h (subst (λ (o : Option ℕ). is_vacant j o ≡ true) here vacant))

-- ---- one live line

live_lines : (p : Plan) (j : List Entry) (ls : List ℕ) → Lawful p j → EachDone j ls → length (filter (live j) ls) ≡ 0
unfolding EachDone
live_lines p j [] legal all = refl
live_lines p j (l ∷ ls) legal all = rw (done_not_live p j l legal all.0) (live_lines p j ls legal all.1)

pub one_live : (p : Plan) (j : List Entry) (w : ℕ) → Lawful p j → nat_le (length (filter (live j) (lines_of j w))) 1 ≡ true
one_live p j w legal = by (lines_of j w) (older_done p j w legal)
  where
    by : (ls : List ℕ) → EachDone j (rest ls) → nat_le (length (filter (live j) ls)) 1 ≡ true
    by [] all = refl
    by (l ∷ ls) all =
        by_bool (live j l) (λ b. nat_le (length (cond b (l ∷ filter (live j) ls) (filter (live j) ls))) 1 ≡ true)
        (λ _. let n = live_lines p j ls legal all in le-leb (suc (length (filter (live j) ls))) 1 (omega arith))
        (λ _. let n = live_lines p j ls legal all in le-leb (length (filter (live j) ls)) 1 (omega arith))
