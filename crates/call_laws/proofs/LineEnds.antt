-- Which attempts end with their line: those that are pending on it, the one whose feed failed, and
-- the one that is bound to it, where their action has no grant.
use Rattle.std.proofs.Common.{◌≡◌, ℕ, Bool, true, false, ◌&&◌, ◌||◌, not, cond, List, [], ◌∷◌, Option, Some, None, option_map, ◌⊎◌, inl, inr, refl, sym, ap, subst, ◌∙◌}
use Rattle.std.specs.List.{filter, find, list_any}
use Rattle.std.proofs.lemmas.Bool.{eqb-true, eq-eqb, and_parts, and_from, or_cases, or_left, or_right, or_parts}
use Rattle.run_plan.specs.declared.plan.Plan.{Plan}
use Rattle.exec_journal.specs.declared.attempt.Attempt.{Attempt}
use Rattle.exec_journal.specs.Entry.{Entry}
use Rattle.exec_journal.specs.declared.call.Call.TheVariants as call
use Rattle.exec_journal.specs.declared.call.HowEnded.{HowEnded}
use Rattle.exec_journal.specs.declared.call.Written.{Written}
use Rattle.exec_journal.specs.Entries.{Request, same_attempt, is_for, is_unwritten, send_in}
use Rattle.exec_journal.specs.Words.{launch_of, sends, pending, is_pending, was_sent, answered, wrote, says_unwritten, says_feed_fault, has_ended, granted}
use Rattle.exec_journal.specs.Attempts.{line_of, ended}
use Rattle.exec_journal.specs.Settled.{bound, wanted}
use Rattle.exec_journal.specs.Lawful.{Lawful}
use Rattle.exec_journal.specs.Facts.{begun}
use Rattle.journal_laws.specs.Invariant.{EachRequest, is_left, older}
use Rattle.journal_laws.specs.Steps.{is_line}
use Rattle.call_laws.specs.Moments.{fed_on, stands_on}
use Rattle.exec_journal.proofs.Histories.{AllOf, all_find}
use Rattle.exec_journal.proofs.Ruled.{by_bool, not_true}
use Rattle.exec_journal.proofs.Begins.{begin_in_order, same_attempt_refl, same_attempt_eq, is_for_eq, launched_begun}
use Rattle.exec_journal.proofs.Quiet as qu
use Rattle.journal_laws.proofs.Carried as k
use Rattle.journal_laws.proofs.Claims.{clash, false_by}
use Rattle.journal_laws.proofs.Granted as g
use Rattle.journal_laws.proofs.Races as ra
use Rattle.journal_laws.proofs.Firm as f
use Rattle.journal_laws.proofs.Requests as q
use Rattle.journal_laws.proofs.Vacant as va
use Rattle.journal_laws.proofs.Keeping as ke
use Rattle.journal_laws.proofs.Exactly as ex
use Rattle.journal_laws.proofs.Offered as of
use Rattle.journal_laws.proofs.Taps as ta
use Rattle.journal_laws.proofs.Cleaned as cl
use Rattle.call_laws.proofs.Requested as re

-- ---- what wasn't written has ended

unwritten_by : (w : Option Written) → says_unwritten w ≡ true
    → (y : Written) × (w ≡ Some y) × (is_unwritten y ≡ true)
unwritten_by (Some y) h = (y, refl, h)
unwritten_by None h = absurd (cc)

pub unwritten_over : (p : Plan) (j : List Entry) (t : Attempt) → Lawful p j
    → says_unwritten (wrote j t) ≡ true → (ended j t ≡ true) ⊎ (granted j t.action ≡ true)
unfolding wrote
unwritten_over p [] t legal h = absurd (cc)
unwritten_over p (e ∷ j) t legal h = by (unwritten_by (wrote (e ∷ j) t) h)
    (λ y. unwritten_over p j t legal.0 y)
  where
    now : (y : Written) → is_unwritten y ≡ true → re.IsWritten j e t y
        → (ended (e ∷ j) t ≡ true) ⊎ (granted (e ∷ j) t.action ≡ true)
    now y un is =
        let exact = ex.unwritten_ends p e j is.request.line is.number y is.request legal is.is un
        is.order t in
        by_bool (granted j t.action) (λ b. granted j t.action ≡ b
        → (ended (e ∷ j) t ≡ true) ⊎ (granted (e ∷ j) t.action ≡ true))
        (λ _ won. inr (f.granted_stays e j t.action won))
        (λ _ free.
        let same : same_attempt is.request.attempt t ≡ true =
        subst (λ (a : Attempt). same_attempt is.request.attempt a ≡ true) is.of
        (same_attempt_refl is.request.attempt) in
        let open_now : granted j is.request.attempt.action ≡ false =
        subst (λ (a : Attempt). granted j a.action ≡ false) (sym is.of) free in
        inl (exact ∙ or_right (ended j t) _ (and_from _ _ same (rw open_now refl)))) refl

    by : (y : Written) × (wrote (e ∷ j) t ≡ Some y) × (is_unwritten y ≡ true)
        → (says_unwritten (wrote j t) ≡ true → (ended j t ≡ true) ⊎ (granted j t.action ≡ true))
        → (ended (e ∷ j) t ≡ true) ⊎ (granted (e ∷ j) t.action ≡ true)
    by y ih = elim (re.wrote_cases e j t y.0 y.1) [
      | inl before ↦ elim (ih (ap says_unwritten before ∙ y.2)) [
        | inl over ↦ inl
            (qu.ended_stays e j t over)
        | inr won ↦ inr (f.granted_stays e j t.action won)
      ]
      | inr here ↦ now y.0 y.2 (re.written_is p e j t y.0 legal here)
    ]

-- ---- the request of an attempt that was sent

pub record IsSent (j : List Entry) (t : Attempt) : Type 0 where
  pub request : Request
  pub of : request.attempt ≡ t
  pub carrier : line_of j t ≡ Some request.line
  pub among : va.IsAmong j request

pub sent_request : (p : Plan) (j : List Entry) (t : Attempt) → Lawful p j → was_sent j t ≡ true
    → IsSent j t
unfolding was_sent
sent_request p [] t legal h = absurd (cc)
sent_request p (e ∷ j) t legal h = by (or_cases (is_for t
    (option_map (λ y. y.attempt) (send_in e.reply))) (was_sent j t) h)
    (λ y. sent_request p j t legal.0 y)
  where
    by : (is_for t (option_map (λ y. y.attempt) (send_in e.reply)) ≡ true) ⊎ (was_sent j t ≡ true)
        → (was_sent j t ≡ true → IsSent j t) → IsSent (e ∷ j) t
    by (inl here) ih =
        let it = k.send_of j e.reply t (begin_in_order p (e ∷ j) legal).1 here in
        let on = ra.sent_line e j e.reply it.request refl it.is in
        record {
          request = it.request;
          of = it.of;
          carrier =
              subst (λ (y : Attempt). line_of (e ∷ j) y ≡ Some it.request.line) it.of on.carrier;
          among = va.among_here e j it.request it.is;
        }
    by (inr before) ih =
        let old = ih before in
        record {
          request = old.request;
          of = old.of;
          carrier =
              k.line_stays e j t old.request.line (begin_in_order p (e ∷ j) legal) old.carrier;
          among = va.among_later e j old.request old.among;
        }

-- ---- what stands on a line

none_of : (test hit : Request → Bool) (xs : List Request) → list_any hit (filter test xs) ≡ false
    → EachRequest (λ x. (test x && hit x) ≡ false) xs
none_of test hit [] h = tt
none_of test hit (x ∷ xs) h =
    by_bool (test x) (λ b. test x ≡ b → list_any hit (cond b (x ∷ filter test xs) (filter test xs))
    ≡ false → ((b && hit x) ≡ false) × EachRequest (λ y. (test y && hit y) ≡ false) xs)
    (λ _ _ n. let parts = or_parts (hit x) _ n in (parts.0, none_of test hit xs parts.1))
    (λ _ _ n. (refl, none_of test hit xs n)) refl h

-- only the head passes the test, and that isn't a hit
none_found : (test hit : Request → Bool) (xs : List Request)
    → AllOf (λ x. test x ≡ false) (older xs) → (option_map hit (find test xs) ≡ Some true → ⊥)
    → EachRequest (λ x. (test x && hit x) ≡ false) xs
none_found test hit [] all h = tt
none_found test hit (x ∷ xs) all h =
    by_bool (test x) (λ b. test x ≡ b → (option_map hit (cond b (Some x) (find test xs)) ≡ Some true
    → ⊥) → ((b && hit x) ≡ false) × EachRequest (λ y. (test y && hit y) ≡ false) xs)
    (λ _ _ n. (false_by _ (λ y. n (ap Some y)), rest xs all)) (λ _ _ n. (refl, rest xs all)) refl h
  where
    rest : (ys : List Request) → AllOf (λ y. test y ≡ false) ys
        → EachRequest (λ y. (test y && hit y) ≡ false) ys
    rest [] every = tt
    rest (y ∷ ys) every = (rw every.0 refl, rest ys every.1)

hit_for : (j : List Entry) (t : Attempt) (o : Option Request)
    → option_map (λ x. same_attempt x.attempt t) o ≡ Some true
    → is_for t (option_map (λ x. x.attempt) o) ≡ true
hit_for j t None h = absurd (cc)
hit_for j t (Some x) h = cc

pub bound_to : (p : Plan) (j : List Entry) (l m : ℕ) (t : Attempt) → launch_of j l ≡ Some (m, t)
    → wanted p j t.action t.branch ≡ true → was_sent j t ≡ false → ended j t ≡ false
    → bound p j l ≡ Some t
unfolding bound
bound_to p j l m t at wish un going = rw (at, wish, un, going) refl

module _ (p : Plan) (j : List Entry) (l : ℕ) (t : Attempt) (legal : Lawful p j) where
  -- what is left on the line stands there
  module _ (running : has_ended j l ≡ false) (at : line_of j t ≡ Some l) (left : is_left j t ≡ true)
      (free : granted j t.action ≡ false) (going : ended j t ≡ false) where
    of_request : (x : Request) → x.attempt ≡ t → x.line ≡ l → va.IsAmong j x → answered j t ≡ false
        → stands_on p j l t ≡ true
    unfolding pending
    of_request x of line among un =
        by_bool (list_any (λ y. same_attempt y.attempt t) (pending j l))
        (λ b. list_any (λ y. same_attempt y.attempt t) (pending j l) ≡ b
        → stands_on p j l t ≡ true)
        (λ _ yes_so. or_left _ _ yes_so)
        (λ _ none.
        let off = va.among_at j x (λ y. is_pending j y && same_attempt y.attempt t) among
        (subst (λ i. EachRequest (λ y. (is_pending j y && same_attempt y.attempt t) ≡ false)
        (sends j i)) (sym line) (none_of (is_pending j) (λ y. same_attempt y.attempt t)
        (sends j l) none)) in
        let whole : says_unwritten (wrote j x.attempt) ≡ false =
        subst (λ (a : Attempt). says_unwritten (wrote j a) ≡ false) (sym of)
        (false_by _ (λ h. elim (unwritten_over p j t legal h)
        [ inl over ↦ clash _ over going | inr won ↦ clash _ won free ])) in
        let up = q.is_open j x (record {
          unanswered = subst
              (λ (a : Attempt). answered j a ≡ false) (sym of) un;
          written = whole;
          running = subst (λ i. has_ended j i ≡ false) (sym line) running;
        }) in
        absurd (clash _ (and_from _ _ up (subst (λ (a : Attempt). same_attempt x.attempt a ≡ true)
        of (same_attempt_refl x.attempt))) off)) refl

    of_fed : (x : Request) → x.attempt ≡ t → x.line ≡ l → va.IsAmong j x
        → says_feed_fault (wrote j t) ≡ true → stands_on p j l t ≡ true
    of_fed x of line among fed =
        by_bool (is_for t (fed_on j l)) (λ b. is_for t (fed_on j l) ≡ b → stands_on p j l t ≡ true)
        (λ _ yes_so. or_right (list_any (λ y. same_attempt y.attempt t) (pending j l)) _
        (or_left (is_for t (fed_on j l)) _ yes_so))
        (λ _ none.
        let all = none_found (λ y. says_feed_fault (wrote j y.attempt))
        (λ y. same_attempt y.attempt t) (sends j l) (re.fed_last p j l legal)
        (λ h. clash _ (hit_for j t (find (λ y. says_feed_fault (wrote j y.attempt)) (sends j l))
        h) none) in
        let off = va.among_at j x (λ y. says_feed_fault (wrote j y.attempt)
        && same_attempt y.attempt t) among (subst (λ i. EachRequest
        (λ y. (says_feed_fault (wrote j y.attempt) && same_attempt y.attempt t) ≡ false)
        (sends j i)) (sym line) all) in
        absurd (clash _ (and_from _ _ (subst (λ (a : Attempt). says_feed_fault (wrote j a) ≡ true)
        (sym of) fed) (subst (λ (a : Attempt). same_attempt x.attempt a ≡ true) of
        (same_attempt_refl x.attempt))) off)) refl

    of_sent : was_sent j t ≡ true → stands_on p j l t ≡ true
    of_sent sent =
        let has = sent_request p j t legal sent in
        let both : Some has.request.line ≡ Some l = sym has.carrier ∙ at in
        let line : has.request.line ≡ l = cc in
        elim (or_cases (not (answered j t)) _ left) [
          | inl un ↦ of_request has.request has.of line has.among (not_true _ un)
          | inr fed ↦ of_fed has.request has.of line has.among fed
        ]

    of_line : cl.OnLine j t l → stands_on p j l t ≡ true
    of_line (cl.Sent sent) = of_sent sent
    of_line (cl.Launched m launched) =
        by_bool (was_sent j t) (λ b. was_sent j t ≡ b → stands_on p j l t ≡ true)
        (λ _ sent. of_sent sent)
        (λ _ unsent.
        let is_going = g.going_is p j t legal (launched_begun j l m t launched) going in
        let wish : wanted p j t.action t.branch ≡ true = f.going_wanted p j t legal is_going
        ∙ rw free refl in
        let here = bound_to p j l m t launched wish unsent going in
        or_right (list_any (λ y. same_attempt y.attempt t) (pending j l)) _
        (or_right (is_for t (fed_on j l)) _ (rw here (same_attempt_refl t)))) refl

    pub left_stands : stands_on p j l t ≡ true
    left_stands = of_line (cl.on_line p j t l legal at)

  -- and what stands on the line is left there
  pub record IsLeft : Type 0 where
    pub carrier : line_of j t ≡ Some l
    pub left : is_left j t ≡ true

  on : AllOf (k.IsSentOn j l) (sends j l)
  on = k.sends_on j l (begin_in_order p j legal)

  any_pending : (xs : List Request) → AllOf (λ x. k.IsSentOn j l x × (is_pending j x ≡ true)) xs
      → list_any (λ x. same_attempt x.attempt t) xs ≡ true → IsLeft
  any_pending [] all h = absurd (cc)
  any_pending (x ∷ xs) all h = elim (or_cases (same_attempt x.attempt t) _ h) [
    | inl here ↦ (let of = same_attempt_eq x.attempt t here in
        record {
          carrier = subst (λ (a : Attempt). line_of j a ≡ Some l) of all.0.0.carrier;
          left = or_left _ _ (subst (λ (a : Attempt). not (answered j a) ≡ true) of
              (rw (q.pending_is j x all.0.1).unanswered refl));
        })
    | inr later ↦ any_pending xs all.1 later
  ]

  found_fed : (test : Request → Bool) (xs : List Request) (x : Request) → find test xs ≡ Some x
      → test x ≡ true
  found_fed test xs x h = q.find_passes test xs x h

  any_fed : (o : Option Request) → find (λ x. says_feed_fault (wrote j x.attempt)) (sends j l) ≡ o
      → is_for t (option_map (λ x. x.attempt) o) ≡ true → IsLeft
  any_fed None is h = absurd (cc)
  any_fed (Some x) is h =
      let of = same_attempt_eq x.attempt t h in
      let here = all_find (k.IsSentOn j l) (λ y. says_feed_fault (wrote j y.attempt))
      (sends j l) x on is in
      let fed = found_fed (λ y. says_feed_fault (wrote j y.attempt)) (sends j l) x is in
      record {
        carrier = subst (λ (a : Attempt). line_of j a ≡ Some l) of here.carrier;
        left = or_right (not (answered j t)) _ (subst (λ (a : Attempt). says_feed_fault
            (wrote j a) ≡ true) of fed);
      }

  pub stands_left : stands_on p j l t ≡ true → IsLeft
  unfolding pending
  stands_left h = elim (or_cases (list_any (λ x. same_attempt x.attempt t) (pending j l)) _ h) [
    | inl waiting ↦ any_pending (pending j l) (ke.filter_passes (k.IsSentOn j l) (is_pending j)
        (sends j l) on) waiting
    | inr other ↦ elim (or_cases (is_for t (fed_on j l)) _ other) [
      | inl fed ↦ any_fed (find (λ x. says_feed_fault (wrote j x.attempt)) (sends j l)) refl fed
      | inr held ↦ (let carried = of.bound_carried p j legal in
          let is = is_for_eq t (bound p j l) held in
          record {
            carrier = carried.carrier l t is;
            left = or_left (not (answered j t))
                (says_feed_fault (wrote j t)) (rw (carried.unanswered l t is) refl);
          })
    ]
  ]

  -- it is under way, where its action has no grant and it hasn't ended
  carried_begun : line_of j t ≡ Some l → begun j t ≡ true
  carried_begun at = k.carried_begun j t l at

-- an Ended ends exactly what stands on its line and has no grant of its action
pub ends_standing : (p : Plan) (e : Entry) (j : List Entry) (l : ℕ) (how : HowEnded)
    → Lawful p (e ∷ j) → e.call ≡ call.Ended l how → (t : Attempt)
    → ended (e ∷ j) t ≡ (ended j t || (stands_on p j l t && not (granted j t.action)))
ends_standing p e j l how legal is t = ex.line_ends p e j l how legal is t
    ∙ by (ended j t) (granted j t.action) refl refl
  where
    running : has_ended j l ≡ false
    running = ta.reported_running p e j l legal (rw is (eq-eqb l l refl))

    at_line : (o : Option ℕ) → is_line o l ≡ true → o ≡ Some l
    at_line (Some m) h = ap Some (eqb-true m l h)
    at_line None h = absurd (cc)

    is_at : (o : Option ℕ) → o ≡ Some l → is_line o l ≡ true
    is_at o h = rw h (eq-eqb l l refl)

    none : (b c : Bool) → (b && (c && false)) ≡ false
    none true true = refl
    none true false = refl
    none false c = refl

    last : (b : Bool) → (b && false) ≡ false
    last true = refl
    last false = refl

    same : granted j t.action ≡ false → ended j t ≡ false
        → (is_line (line_of j t) l && (is_left j t && true)) ≡ (stands_on p j l t && true)
    same free going =
        by_bool (stands_on p j l t) (λ b. stands_on p j l t ≡ b
        → (is_line (line_of j t) l && (is_left j t && true)) ≡ (b && true))
        (λ _ on. let x = stands_left p j l t legal.0 on in
        and_from _ _ (is_at (line_of j t) x.carrier) (and_from _ _ x.left refl))
        (λ _ off. false_by _ (λ h.
        let parts = and_parts (is_line (line_of j t) l) _ h in
        let more = and_parts (is_left j t) _ parts.1 in
        clash _ (left_stands p j l t legal.0 running (at_line (line_of j t) parts.0) more.0 free
        going) off)) refl

    by : (x g : Bool) → ended j t ≡ x → granted j t.action ≡ g
        → (x || (is_line (line_of j t) l && (is_left j t && not g))) ≡
        (x || (stands_on p j l t && not g))
    by true g a b = refl
    by false true a b = none (is_line (line_of j t) l) (is_left j t)
        ∙ sym (last (stands_on p j l t))
    by false false a b = same b a

-- each of those was begun
pub standing_begun : (p : Plan) (j : List Entry) (l : ℕ) (t : Attempt) → Lawful p j
    → stands_on p j l t ≡ true → begun j t ≡ true
standing_begun p j l t legal h = k.carried_begun j t l (stands_left p j l t legal h).carrier
