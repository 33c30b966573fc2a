-- The requests of a line: of which berth and group, how they are numbered and known, and which of
-- them a feed fault names.
use Rattle.std.proofs.Common.{unwrap_or, ◌||◌, ◌≡◌, ℕ, ◌+◌, ◌/◌, ◌<◌, ◌≤◌, ◌==◌, true, false, ◌&&◌, not, List, [], ◌∷◌, length, Option, Some, None, option_map, ◌⊎◌, inl, inr, refl, sym, ap, subst, ◌∙◌, ℤ, pos, arith}
use Rattle.std.specs.Prelude.{option_and_then, slice_get}
use Rattle.std.specs.List.{filter, find}
use Rattle.std.specs.Ordering.{int_eq}
use Rattle.std.proofs.lemmas.Bool.{eqb-true, eq-eqb, and_parts, and_from, or_cases, or_left, or_right}
use Rattle.std.proofs.lemmas.Bool.Decides.{Decides-int_eq}
use Rattle.run_plan.specs.declared.plan.Plan.{Plan}
use Rattle.exec_journal.specs.declared.attempt.Attempt.{Attempt}
use Rattle.exec_journal.specs.Entry.{Entry}
use Rattle.exec_journal.specs.declared.call.Call.{Call}
use Rattle.exec_journal.specs.declared.call.Call.TheVariants as call
use Rattle.exec_journal.specs.declared.call.Written.{Written}
use Rattle.exec_journal.specs.declared.call.Written.TheVariants as write
use Rattle.exec_journal.specs.declared.reply.Reply.{Reply}
use Rattle.list_lemmas.specs.Options.{unless_before, and_more}
use Rattle.exec_journal.specs.Entries.{Request, same_attempt, is_for, send_in, send_of_entry}
use Rattle.exec_journal.specs.Words.{last_work, live, started, last_line, launch_of, sends, sent_on, pending, is_pending, has_cancel, has_greeted, cancels, was_sent, answered, wrote, wrote_at, says_unwritten, says_feed_fault, has_ended, order_of, broke, break_at, line_cause}
use Rattle.exec_journal.specs.Attempts.{line_of}
use Rattle.run_plan.specs.Groups.{is_single, has_cancellation, is_remote}
use Rattle.exec_journal.specs.Seated.{group_for, kind_in, group_on, line_group, line_kind, may_be_asked}
use Rattle.exec_journal.specs.Settled.{bound}
use Rattle.exec_journal.specs.Rules as r
use Rattle.exec_journal.specs.Rules.{gathered}
use Rattle.exec_journal.specs.Lawful.{Lawful}
use Rattle.exec_journal.specs.Facts.{IsOfBerth}
use Rattle.journal_laws.specs.Invariant.{NumberedAs, EachRequest, older, LineFacts}
use Rattle.journal_laws.specs.Steps.{KnownByNumber}
use Rattle.call_laws.specs.Moments.{is_clean, IsClean}
use Rattle.exec_journal.proofs.Histories.{AllOf, all_filter, all_oldest}
use Rattle.exec_journal.proofs.Ruled as ru
use Rattle.exec_journal.proofs.Reasons as u
use Rattle.exec_journal.proofs.Ruled.{by_bool}
use Rattle.exec_journal.proofs.Lines.{pending_line, lines_named, of_berth_more}
use Rattle.exec_journal.proofs.Begins.{begin_in_order, same_attempt_refl, same_attempt_eq, bound_is}
use Rattle.journal_laws.proofs.Owed.{is_send}
use Rattle.journal_laws.proofs.Carried as k
use Rattle.journal_laws.proofs.Over as v
use Rattle.journal_laws.proofs.Claims as c
use Rattle.journal_laws.proofs.Claims.{clash, false_by}
use Rattle.journal_laws.proofs.Requests as q
use Rattle.journal_laws.proofs.Keeping as ke
use Rattle.journal_laws.proofs.Offered as of
use Rattle.journal_laws.proofs.Lanes as la
use Rattle.journal_laws.proofs.Places as pl
use Rattle.journal_laws.proofs.Greeted as gr

-- ---- the berth's group

-- what is bound to a line is of the line's group
pub bound_group : (p : Plan) (j : List Entry) (l : ℕ) (t : Attempt) → Lawful p j
    → bound p j l ≡ Some t → group_for p t ≡ group_on p j l
bound_group p j l t legal h =
    let b = bound_is p j l t h in sym (q.group_is p j l b.lane t b.launched)

-- and its requests are numbered by its kind
pub numbered : (p : Plan) (j : List Entry) (l w : ℕ) → Lawful p j → IsOfBerth j l w
    → NumberedAs (is_single (line_kind p j l)) (sends j l)
numbered p j l w legal own = (q.line_facts p j l w legal own).numbers

-- ---- only a line that can be asked to cancel gets a Cancel: its group has cancellation, or it is
-- an executor's and has greeted

record IsCancelled (p : Plan) (j : List Entry) (l : ℕ) : Type 0 where
  pub berth : ℕ
  pub own : IsOfBerth j l berth
  pub may : may_be_asked p j l ≡ true

-- what greeted stays greeted, so such a line can be asked from then on
may_later : (p : Plan) (e : Entry) (j : List Entry) (l m : ℕ) (t : Attempt) → Lawful p (e ∷ j) → launch_of j l ≡ Some (m, t) → may_be_asked p j l ≡ true
    → may_be_asked p (e ∷ j) l ≡ true
may_later p e j l m t legal at h =
    let same : group_on p j l ≡ group_on p (e ∷ j) l = q.group_is p j l m t at ∙ sym (q.group_is p (e ∷ j) l m t (q.launch_later p e j l m t legal at)) in
    subst (λ (o : Option ℕ). (has_cancellation p (unwrap_or o 0) || (is_remote (kind_in p o) && has_greeted (e ∷ j) l)) ≡ true) same
    (elim (or_cases (has_cancellation p (line_group p j l)) _ h) [
      | inl able ↦ or_left _ (is_remote (line_kind p j l) && has_greeted (e ∷ j) l) able
      | inr greeted ↦ (let parts = and_parts (is_remote (line_kind p j l)) _ greeted in
          or_right (has_cancellation p (line_group p j l)) _ (and_from _ _ parts.0 (gr.greeted_stays e j l parts.1)))
    ])

cancels_at : (p : Plan) (j : List Entry) (lane : ℕ) (y : Request) (d : Call) (x : Reply) → Lawful p j
    → u.Ruled p j lane d x → cancels y x ≡ true → IsCancelled p j y.line
cancels_at p j lane y d x legal (u.Cancels m z here up may which none) h =
    let line : z.line ≡ m = all_oldest (λ (a : Request). a.line ≡ m) _ z
    (all_filter (λ (a : Request). a.line ≡ m) _ (pending j m) (pending_line j m)) which in
    let same : m ≡ y.line = sym line ∙ eqb-true z.line y.line
    (and_parts (z.line == y.line) _ h).0 in
    record {
      berth = lane / 2;
      own = subst (λ i. IsOfBerth j i (lane / 2)) same
          (la.here_own p j (lane / 2) m legal here);
      may = subst (λ i. may_be_asked p j i ≡ true) same may;
    }
cancels_at p j lane y d x legal (u.KillsBroken m z here run broken over) h = absurd (cc)
cancels_at p j lane y d x legal (u.Notes z n) h = absurd (cc)
cancels_at p j lane y d x legal _ h = absurd (cc)

cancelled : (p : Plan) (j : List Entry) (y : Request) → Lawful p j → has_cancel j y ≡ true
    → IsCancelled p j y.line
unfolding has_cancel
cancelled p [] y legal h = absurd (cc)
cancelled p (e ∷ j) y legal h = later (elim (or_cases
    (cancels y e.reply && was_sent j y.attempt) _ h) [
      | inl here ↦ cancels_at p j e.lane y e.call e.reply legal.0 (v.entry_ruled p e j legal)
          (and_parts (cancels y e.reply) _ here).0
      | inr before ↦ cancelled p j y legal.0 before
    ])
  where
    later : IsCancelled p j y.line → IsCancelled p (e ∷ j) y.line
    later is = record {
      berth = is.berth;
      own = of_berth_more e j y.line is.berth
          (lines_named p (e ∷ j) legal).1.numbered is.own;
      may =
          may_later p e j y.line is.own.owner.0 is.own.owner.1 legal is.own.owner.2 is.may;
    }

pub no_cancel : (p : Plan) (j : List Entry) (l : ℕ) → Lawful p j
    → may_be_asked p j l ≡ false → AllOf (λ y. has_cancel j y ≡ false) (pending j l)
no_cancel p j l legal none = k.all_map (λ (y : Request). y.line ≡ l)
    (λ y. has_cancel j y ≡ false) one (pending j l) (pending_line j l)
  where
    one : (y : Request) → y.line ≡ l → has_cancel j y ≡ false
    one y line = false_by _ (λ h.
        let is = cancelled p j y legal h in
        clash _ (subst (λ i. may_be_asked p j i ≡ true) line is.may) none)

-- ---- each pending request is known by its line and its number

-- in a list that is numbered from 1 each is found by its number
below : (qs : List Request) → NumberedAs false qs → AllOf
    (λ x. (n : ℕ) × (x.number ≡ pos n) × (n ≤ length qs)) qs
below [] all = tt
below (x ∷ qs) all = (
  (length qs + 1, all.0, omega arith),
  k.all_map (λ y. (n : ℕ) × (y.number ≡ pos n) × (n ≤ length qs))
      (λ y. (n : ℕ) × (y.number ≡ pos n) × (n ≤ length (x ∷ qs)))
      (λ y h. (h.0, h.1, let le = h.2 in omega arith)) qs (below qs all.1),
)

all_found : (qs : List Request) → NumberedAs false qs
    → AllOf (λ x. find (λ y. int_eq y.number x.number) qs ≡ Some x) qs
all_found [] all = tt
all_found (x ∷ qs) all = (
  rw ((Decides-int_eq x.number x.number).1 refl) refl,
  k.all_map (λ y. (find (λ z. int_eq z.number y.number) qs ≡ Some y)
      × ((n : ℕ) × (y.number ≡ pos n) × (n ≤ length qs)))
      (λ y. find (λ z. int_eq z.number y.number) (x ∷ qs) ≡ Some y) one qs
      (k.all_both (λ y. find (λ z. int_eq z.number y.number) qs ≡ Some y)
      (λ y. (n : ℕ) × (y.number ≡ pos n) × (n ≤ length qs)) qs (all_found qs all.1)
      (below qs all.1)),
)
  where
    one : (y : Request) → (find (λ z. int_eq z.number y.number) qs ≡ Some y)
        × ((n : ℕ) × (y.number ≡ pos n) × (n ≤ length qs))
        → find (λ z. int_eq z.number y.number) (x ∷ qs) ≡ Some y
    one y h =
        let apart : int_eq x.number y.number ≡ false = false_by _ (λ same.
        let m : pos (length qs + 1) ≡ pos h.1.0 = sym all.0
        ∙ (Decides-int_eq x.number y.number).0 same ∙ h.1.1 in
        let n : length qs + 1 ≡ h.1.0 = cc in
        let le = h.1.2 in absurd (omega arith)) in
        rw apart h.0

pub known_pending : (p : Plan) (j : List Entry) (l w : ℕ) → Lawful p j → IsOfBerth j l w
    → AllOf (λ x. KnownByNumber j l x.number x.attempt) (pending j l)
unfolding pending
known_pending p j l w legal own = by_bool (is_single (line_kind p j l))
    (λ b. is_single (line_kind p j l) ≡ b → AllOf (λ x. KnownByNumber j l x.number x.attempt)
    (filter (is_pending j) (sends j l))) singly many refl
  where
    on : AllOf (k.IsSentOn j l) (sends j l)
    on = k.sends_on j l (begin_in_order p j legal)

    facts : LineFacts p j l
    facts = q.line_facts p j l w legal own

    singly : is_single (line_kind p j l) ≡ true → is_single (line_kind p j l) ≡ true
        → AllOf (λ x. KnownByNumber j l x.number x.attempt) (filter (is_pending j) (sends j l))
    singly _ one = of_list (filter (is_pending j) (sends j l)) refl
        (pl.one_pending p j l w legal own one) (all_filter (k.IsSentOn j l) (is_pending j)
        (sends j l) on)
      where
        of_list : (xs : List Request) → filter (is_pending j) (sends j l) ≡ xs → length xs ≤ 1
            → AllOf (k.IsSentOn j l) xs → AllOf (λ x. KnownByNumber j l x.number x.attempt) xs
        of_list [] is le all = tt
        of_list (x ∷ []) is le all = (
          record {
            here = subst (EachRequest (λ y. same_attempt x.attempt y.attempt
                ≡ int_eq y.number x.number)) (sym is) (
                  same_attempt_refl x.attempt
                      ∙ sym ((Decides-int_eq x.number x.number).1 refl),
                  tt,
                );
            elsewhere = of.other_lines p j l x.attempt legal all.0.carrier;
          },
          tt,
        )
        of_list (x ∷ y ∷ xs) is le all = absurd (omega arith)

    many : is_single (line_kind p j l) ≡ false → is_single (line_kind p j l) ≡ false
        → AllOf (λ x. KnownByNumber j l x.number x.attempt) (filter (is_pending j) (sends j l))
    many _ off =
        let numbers = subst (λ b. NumberedAs b (sends j l)) off facts.numbers in
        all_filter (λ x. KnownByNumber j l x.number x.attempt) (is_pending j) (sends j l)
        (k.all_map (λ x. k.IsSentOn j l x × (find (λ y. int_eq y.number x.number) (sends j l)
        ≡ Some x)) (λ x. KnownByNumber j l x.number x.attempt)
        (λ x h. record {
          here = of.each_filter _ (is_pending j) (sends j l)
              (of.by_number (sends j l) x.number x numbers (of.distinct p j l legal) h.1);
          elsewhere = of.other_lines p j l x.attempt legal h.0.carrier;
        }) (sends j l) (k.all_both (k.IsSentOn j l) (λ x. find
        (λ y. int_eq y.number x.number) (sends j l) ≡ Some x) (sends j l) on
        (all_found (sends j l) numbers)))

-- ---- a feed fault breaks the line of its request

record IsFed (j : List Entry) (t : Attempt) : Type 0 where
  pub line : ℕ
  pub carrier : line_of j t ≡ Some line
  pub broken : broke j line ≡ true

pub broke_later : (e : Entry) (j : List Entry) (l : ℕ) → broke j l ≡ true → broke (e ∷ j) l ≡ true
unfolding line_cause
broke_later e j l h = k.some_later_cause (break_at l j e) (line_cause j l) h

fed_breaks : (e : Entry) (j : List Entry) (l : ℕ) (n : ℤ) → e.call ≡ call.Wrote l n write.FeedFault
    → broke (e ∷ j) l ≡ true
unfolding line_cause
fed_breaks e j l n is = k.some_new_cause (break_at l j e) (line_cause j l)
    (rw (is, eq-eqb l l refl) refl)

send_of_order : (j : List Entry) (lane : ℕ) (d : Entry) (t : Attempt) → last_work j lane ≡ Some d
    → is_send t d ≡ true
    → (x : Request) × (order_of j lane ≡ Some x) × (send_in d.reply ≡ Some x) × (x.attempt ≡ t)
send_of_order j lane d t at h = by (send_in d.reply) refl h
  where
    by : (z : Option Request) → send_in d.reply ≡ z → is_for t (option_map (λ y. y.attempt) z)
        ≡ true → (x : Request) × (order_of j lane ≡ Some x) × (send_in d.reply ≡ Some x)
        × (x.attempt ≡ t)
    by (Some x) is g = (x, ap send_of_entry at ∙ is, is, same_attempt_eq x.attempt t g)
    by None is g = absurd (cc)

-- the request of a Wrote is the last of its line
pub record IsWritten (j : List Entry) (e : Entry) (t : Attempt) (y : Written) : Type 0 where
  pub request : Request
  pub of : request.attempt ≡ t
  pub order : order_of j e.lane ≡ Some request
  pub number : ℤ
  pub is : e.call ≡ call.Wrote request.line number y
  pub last : r.head (sends j request.line) ≡ Some request
  pub carrier : line_of j t ≡ Some request.line

pub written_is : (p : Plan) (e : Entry) (j : List Entry) (t : Attempt) (y : Written)
    → Lawful p (e ∷ j) → wrote_at t j e ≡ Some y → IsWritten j e t y
written_is p e j t y legal h =
    let it = c.wrote_at_is j e t y h in
    let s = send_of_order j e.lane it.order t it.newest it.fits in
    let x = s.0 in
    let w = la.writes_request p e j it.line it.number y x legal it.is s.1 in
    let head = la.newest_head p j e.lane it.order x legal.0 it.newest s.2 in
    let on = of.all_head_of (k.IsSentOn j x.line) (sends j x.line) x
    (k.sends_on j x.line (begin_in_order p j legal.0)) head in
    record {
      request = x;
      of = s.3;
      order = s.1;
      number = it.number;
      is = subst (λ l. e.call ≡ call.Wrote l it.number y) (sym w.line) it.is;
      last = head;
      carrier = subst (λ (a : Attempt). line_of j a ≡ Some x.line) s.3 on.carrier;
    }

-- what a Wrote became at an entry
pub wrote_cases : (e : Entry) (j : List Entry) (t : Attempt) (y : Written)
    → wrote (e ∷ j) t ≡ Some y → (wrote j t ≡ Some y) ⊎ (wrote_at t j e ≡ Some y)
unfolding wrote
wrote_cases e j t y h = by (wrote_at t j e) (wrote j t) refl refl h
  where
    by : (n w : Option Written) → wrote_at t j e ≡ n → wrote j t ≡ w → unless_before n w ≡ Some y
        → (wrote j t ≡ Some y) ⊎ (wrote_at t j e ≡ Some y)
    by None w in_n in_w g = inl (in_w ∙ g)
    by (Some a) None in_n in_w g = inr (in_n ∙ g)
    by (Some a) (Some b) in_n in_w g = inl (in_w ∙ g)

fed : (p : Plan) (j : List Entry) (t : Attempt) → Lawful p j → wrote j t ≡ Some write.FeedFault
    → IsFed j t
unfolding wrote
fed p [] t legal h = absurd (cc)
fed p (e ∷ j) t legal h = elim (wrote_cases e j t write.FeedFault h) [
  | inl before ↦ (let is = fed p j t legal.0 before in
      record {
        line = is.line;
        carrier = k.line_stays e j t is.line
            (begin_in_order p (e ∷ j) legal) is.carrier;
        broken = broke_later e j is.line is.broken;
      })
  | inr now ↦ (let is = written_is p e j t write.FeedFault legal now in
      record {
        line = is.request.line;
        carrier = k.line_stays e j t is.request.line
            (begin_in_order p (e ∷ j) legal) is.carrier;
        broken =
            fed_breaks e j is.request.line is.number is.is;
      })
]

-- so on an unbroken line no Wrote says it
pub unfed : (p : Plan) (j : List Entry) (l : ℕ) (t : Attempt) → Lawful p j → broke j l ≡ false
    → line_of j t ≡ Some l → says_feed_fault (wrote j t) ≡ false
unfed p j l t legal whole at = false_by _ (λ h.
    let is = fed p j t legal (v.feed_is (wrote j t) h) in
    let both : Some is.line ≡ Some l = sym is.carrier ∙ at in
    let same : is.line ≡ l = cc in
    clash (broke j l) (subst (λ i. broke j i ≡ true) same is.broken) whole)

-- ---- a pending request of an unbroken line

clean_by : (w : Option Written) → says_unwritten w ≡ false → says_feed_fault w ≡ false
    → is_clean w ≡ true
clean_by None a b = refl
clean_by (Some write.Done) a b = refl
clean_by (Some write.FeedFault) a b = absurd (cc)
clean_by (Some write.RoomFault) a b = absurd (cc)
clean_by (Some write.TooLarge) a b = absurd (cc)

pub clean_request : (p : Plan) (j : List Entry) (l : ℕ) (x : Request) → Lawful p j
    → broke j l ≡ false → k.IsSentOn j l x → is_pending j x ≡ true → IsClean j x.attempt
clean_request p j l x legal whole on h =
    let now = q.pending_is j x h in
    record {
      write = clean_by (wrote j x.attempt) now.written (unfed p j l x.attempt legal whole
          on.carrier);
      ungathered = false_by _ (λ y. clash _ (c.gathered_is p j x.attempt legal y).consumed
          now.unanswered);
    }

pub pending_clean : (p : Plan) (j : List Entry) (l : ℕ) → Lawful p j → broke j l ≡ false
    → AllOf (λ x. IsClean j x.attempt) (pending j l)
unfolding pending
pending_clean p j l legal whole =
    k.all_map (λ x. k.IsSentOn j l x × (is_pending j x ≡ true)) (λ x. IsClean j x.attempt)
    (λ x h. clean_request p j l x legal whole h.0 h.1) _
    (ke.filter_passes (k.IsSentOn j l) (is_pending j) (sends j l)
    (k.sends_on j l (begin_in_order p j legal)))

-- ---- a Wrote with a fault, of a request that isn't pending, on a line that hasn't Ended: the
-- request was answered

pub written_answered : (p : Plan) (j : List Entry) (lane : ℕ) (x : Request) → Lawful p j
    → order_of j lane ≡ Some x → has_ended j x.line ≡ false → is_pending j x ≡ false
    → answered j x.attempt ≡ true
written_answered p j lane x legal order running closed =
    by_bool (answered j x.attempt) (λ b. answered j x.attempt ≡ b → b ≡ true) (λ _ _. refl)
    (λ _ none. absurd (clash (is_pending j x) (q.is_open j x (record {
      unanswered = none;
      written = ap says_unwritten (pl.first_write p j lane x legal order);
      running = running;
    })) closed)) refl

live_whole : (j : List Entry) (l : ℕ) → live j l ≡ true → broke j l ≡ false
unfolding live
live_whole j l h = ru.not_true _ (and_parts (not (broke j l)) _ (and_parts (started j l) _ h).1).0

-- ---- at most one request of a line has a feed fault: its last

older_apart : (p : Plan) (j : List Entry) (l : ℕ) (x : Request) → Lawful p j
    → r.head (sends j l) ≡ Some x → AllOf (λ y. same_attempt x.attempt y.attempt ≡ false)
    (older (sends j l))
unfolding sends
older_apart p [] l x legal h = tt
older_apart p (e ∷ j) l x legal h = by (sent_on l e.reply) refl h
    (λ y. older_apart p j l x legal.0 y)
  where
    by : (z : Option Request) → sent_on l e.reply ≡ z → r.head (and_more z (sends j l)) ≡ Some x
        → (r.head (sends j l) ≡ Some x → AllOf (λ y. same_attempt x.attempt y.attempt ≡ false)
        (older (sends j l)))
        → AllOf (λ y. same_attempt x.attempt y.attempt ≡ false) (older (and_more z (sends j l)))
    by None is g ih = ih g
    by (Some z) is g ih =
        let same : z ≡ x = cc in
        let s = q.sent_on_is l e.reply z is in
        let new = of.fresh_send p e j z legal s.0 in
        subst (λ (a : Request). AllOf (λ y. same_attempt a.attempt y.attempt ≡ false) (sends j l))
        same
        (k.all_map (k.IsSentOn j l) (λ y. same_attempt z.attempt y.attempt ≡ false)
        (λ y on. false_by _ (λ eq. clash (was_sent j z.attempt)
        (subst (λ (a : Attempt). was_sent j a ≡ true) (sym
        (same_attempt_eq z.attempt y.attempt eq)) on.sent) new.unsent))
        (sends j l) (k.sends_on j l (begin_in_order p j legal.0)))

all_older : (P : Request → Type 0) (xs : List Request) → AllOf P xs → AllOf P (older xs)
all_older P [] all = tt
all_older P (x ∷ xs) all = all.1

pub fed_last : (p : Plan) (j : List Entry) (l : ℕ) → Lawful p j
    → AllOf (λ y. says_feed_fault (wrote j y.attempt) ≡ false) (older (sends j l))
unfolding sends
fed_last p [] l legal = tt
fed_last p (e ∷ j) l legal = by (sent_on l e.reply) refl (fed_last p j l legal.0)
  where
    on : AllOf (k.IsSentOn j l) (sends j l)
    on = k.sends_on j l (begin_in_order p j legal.0)

    stays : (y : Request) → says_feed_fault (wrote j y.attempt) ≡ false
        → (wrote_at y.attempt j e ≡ Some write.FeedFault → ⊥)
        → says_feed_fault (wrote (e ∷ j) y.attempt) ≡ false
    stays y was none = false_by _ (λ h. elim (wrote_cases e j y.attempt write.FeedFault
        (v.feed_is (wrote (e ∷ j) y.attempt) h)) [
          | inl before ↦ clash _ (ap says_feed_fault before) was
          | inr now ↦ none now
        ])

    newest : (y : Request) → k.IsSentOn j l y → ((x : Request) → r.head (sends j l) ≡ Some x
        → same_attempt x.attempt y.attempt ≡ false) → wrote_at y.attempt j e ≡ Some write.FeedFault
        → ⊥
    newest y at apart h =
        let is = written_is p e j y.attempt write.FeedFault legal h in
        let both : Some is.request.line ≡ Some l = sym is.carrier ∙ at.carrier in
        let same : is.request.line ≡ l = cc in
        clash _ (subst (λ (a : Attempt). same_attempt is.request.attempt a ≡ true) is.of
        (same_attempt_refl is.request.attempt)) (apart is.request
        (subst (λ i. r.head (sends j i) ≡ Some is.request) same is.last))

    olds : (xs : List Request) → AllOf (k.IsSentOn j l) xs
        → AllOf (λ y. says_feed_fault (wrote j y.attempt) ≡ false) xs
        → ((x : Request) → r.head (sends j l) ≡ Some x → AllOf
        (λ y. same_attempt x.attempt y.attempt ≡ false) xs)
        → AllOf (λ y. says_feed_fault (wrote (e ∷ j) y.attempt) ≡ false) xs
    olds [] at was apart = tt
    olds (y ∷ ys) at was apart = (
      stays y was.0 (newest y at.0
          (λ x h. (apart x h).0)),
      olds ys at.1 was.1 (λ x h. (apart x h).1),
    )

    by : (z : Option Request) → sent_on l e.reply ≡ z → AllOf
        (λ y. says_feed_fault (wrote j y.attempt) ≡ false) (older (sends j l))
        → AllOf (λ y. says_feed_fault (wrote (e ∷ j) y.attempt) ≡ false)
        (older (and_more z (sends j l)))
    by None is ih = olds (older (sends j l)) (all_older (k.IsSentOn j l) (sends j l) on) ih
        (λ x h. older_apart p j l x legal.0 h)
    by (Some z) is ih =
        let s = q.sent_on_is l e.reply z is in
        let to = q.sends_to p j e.lane l e.call e.reply z (v.entry_ruled p e j legal) s.0 s.1 in
        let ask = c.asks p j e.lane e.call e.reply z (v.entry_ruled p e j legal) s.0 in
        k.all_map (k.IsSentOn j l) (λ y. says_feed_fault (wrote (e ∷ j) y.attempt) ≡ false)
        (λ y at. stays y (unfed p j l y.attempt legal.0 (live_whole j l to.up) at.carrier)
        (λ h. let none = c.ask_writes_none j e y.attempt ask in
        let both : None ≡ Some write.FeedFault = sym none ∙ h in cc))
        (sends j l) on
