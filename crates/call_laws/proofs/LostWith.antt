-- The attempts that end with a line, as a list in which each stands once.
use Rattle.std.proofs.Common.{◌≡◌, ℕ, Bool, true, false, ◌&&◌, ◌||◌, not, cond, List, [], ◌∷◌, ◌++◌, map, Option, Some, None, option_map, refl, sym, ap, subst, ◌∙◌}
use Rattle.std.specs.List.{filter, find, list_any}
use Rattle.std.proofs.lemmas.Bool.{and_parts, or_left, or_right, or_parts, or_from}
use Rattle.std.proofs.lemmas.List.Folds.{list_any-append}
use Rattle.run_plan.specs.declared.plan.Plan.{Plan}
use Rattle.exec_journal.specs.Lawful as lw
use Rattle.exec_journal.specs.declared.attempt.Attempt.{Attempt}
use Rattle.exec_journal.specs.Entry.{Entry}
use Rattle.exec_journal.specs.declared.call.Call.{Call}
use Rattle.exec_journal.specs.declared.call.Call.TheVariants as call
use Rattle.exec_journal.specs.declared.call.HowEnded.{HowEnded}
use Rattle.exec_journal.specs.declared.call.Written.{Written}
use Rattle.exec_journal.specs.declared.call.Written.TheVariants as write
use Rattle.list_lemmas.specs.Options.{and_more}
use Rattle.exec_journal.specs.Entries.{Request, same_attempt, is_for}
use Rattle.exec_journal.specs.Words.{sends, sent_on, pending, is_pending, was_sent, answered, wrote, says_feed_fault, says_unwritten, has_ended, granted}
use Rattle.exec_journal.specs.Attempts.{ended}
use Rattle.exec_journal.specs.Settled.{bound}
use Rattle.exec_journal.specs.Scripts as sc
use Rattle.exec_journal.specs.Lawful.{Lawful}
use Rattle.journal_laws.specs.Invariant.{EachRequest, IsGoing}
use Rattle.journal_laws.specs.Steps.{EndExactly}
use Rattle.call_laws.specs.Moments.{fed_on, stands_on, standing_on, lost_with, is_open_yet, AreApart}
use Rattle.exec_journal.proofs.Histories.{all_find}
use Rattle.exec_journal.proofs.Ruled.{by_bool, not_true}
use Rattle.exec_journal.proofs.Begins.{begin_in_order, same_attempt_refl, same_attempt_eq}
use Rattle.journal_laws.proofs.Carried as k
use Rattle.journal_laws.proofs.Claims.{clash, false_by}
use Rattle.journal_laws.proofs.Granted as g
use Rattle.journal_laws.proofs.Requests as q
use Rattle.journal_laws.proofs.Offered as of
use Rattle.call_laws.proofs.LastLines as ll
use Rattle.call_laws.proofs.Ended as ed
use Rattle.call_laws.proofs.LineEnds as le

-- ---- lists

last_none : (b : Bool) → (b || false) ≡ b
last_none true = refl
last_none false = refl

-- of those that pass a test it is one, where it is one of all and passes
pub any_filter : (t : Attempt) (f : Attempt → Bool) (ts : List Attempt)
    → list_any (same_attempt t) (filter f ts) ≡ (list_any (same_attempt t) ts && f t)
any_filter t f [] = refl
any_filter t f (x ∷ xs) =
    by_bool (f x) (λ b. f x ≡ b → list_any (same_attempt t) (cond b (x ∷ filter f xs) (filter f xs))
    ≡ ((same_attempt t x || list_any (same_attempt t) xs) && f t))
    (λ _ on. passes on (any_filter t f xs) (same_attempt t x) refl)
    (λ _ off. fails off (any_filter t f xs) (same_attempt t x) refl) refl
  where
    passes : f x ≡ true → list_any (same_attempt t) (filter f xs) ≡
        (list_any (same_attempt t) xs && f t) → (b : Bool) → same_attempt t x ≡ b
        → (b || list_any (same_attempt t) (filter f xs)) ≡
        ((b || list_any (same_attempt t) xs) && f t)
    passes on rest true same = sym (subst (λ (y : Attempt). f y ≡ true)
        (sym (same_attempt_eq t x same)) on)
    passes on rest false same = rest

    and_none : (b : Bool) → (b && false) ≡ false
    and_none true = refl
    and_none false = refl

    fails : f x ≡ false → list_any (same_attempt t) (filter f xs) ≡
        (list_any (same_attempt t) xs && f t) → (b : Bool) → same_attempt t x ≡ b
        → list_any (same_attempt t) (filter f xs) ≡ ((b || list_any (same_attempt t) xs) && f t)
    fails off rest true same =
        let no_t : f t ≡ false = subst (λ (y : Attempt). f y ≡ false)
        (sym (same_attempt_eq t x same)) off in
        rest ∙ rw no_t (and_none (list_any (same_attempt t) xs))
    fails off rest false same = rest

pub apart_filter : (f : Attempt → Bool) (ts : List Attempt) → AreApart ts → AreApart (filter f ts)
apart_filter f [] all = tt
apart_filter f (x ∷ xs) all =
    by_bool (f x) (λ b. AreApart (cond b (x ∷ filter f xs) (filter f xs)))
    (λ _. (any_filter x f xs ∙ rw all.0 refl, apart_filter f xs all.1))
    (λ _. apart_filter f xs all.1)

any_of : (t : Attempt) (xs : List Request) → list_any (same_attempt t)
    (map (λ (x : Request). x.attempt) xs) ≡ list_any (λ x. same_attempt x.attempt t) xs
any_of t [] = refl
any_of t (x ∷ xs) = λ i. ed.same_sym t x.attempt i || any_of t xs i

none_any : (t : Attempt) (xs : List Request) → EachRequest
    (λ y. same_attempt t y.attempt ≡ false) xs → list_any (same_attempt t)
    (map (λ (x : Request). x.attempt) xs) ≡ false
none_any t [] all = refl
none_any t (x ∷ xs) all = or_from (same_attempt t x.attempt) _ all.0 (none_any t xs all.1)

-- ---- what stands there is in the list

found_passes : (test pass : Request → Bool) (t : Attempt) (xs : List Request) (x : Request)
    → find test xs ≡ Some x → pass x ≡ true → x.attempt ≡ t
    → list_any (λ y. same_attempt y.attempt t) (filter pass xs) ≡ true
found_passes test pass t [] x h ok of = absurd (cc)
found_passes test pass t (y ∷ ys) x h ok of =
    by_bool (test y) (λ b. test y ≡ b → cond b (Some y) (find test ys) ≡ Some x
    → list_any (λ z. same_attempt z.attempt t) (filter pass (y ∷ ys)) ≡ true)
    (λ _ _ here.
    let same : y ≡ x = cc in
    let up : pass y ≡ true = subst (λ (z : Request). pass z ≡ true) (sym same) ok in
    rw up (or_left (same_attempt y.attempt t) _ (subst
    (λ (z : Request). same_attempt z.attempt t ≡ true) (sym same)
    (subst (λ (a : Attempt). same_attempt x.attempt a ≡ true) of
    (same_attempt_refl x.attempt)))))
    (λ _ _ later. more (pass y) (found_passes test pass t ys x later ok of)) refl h
  where
    more : (b : Bool) → list_any (λ z. same_attempt z.attempt t) (filter pass ys) ≡ true
        → list_any (λ z. same_attempt z.attempt t) (cond b (y ∷ filter pass ys) (filter pass ys))
        ≡ true
    more true h = or_right (same_attempt y.attempt t) _ h
    more false h = h

feed_written : (w : Option Written) → says_feed_fault w ≡ true → says_unwritten w ≡ false
feed_written (Some write.FeedFault) h = refl
feed_written (Some write.Done) h = absurd (cc)
feed_written (Some write.RoomFault) h = absurd (cc)
feed_written (Some write.TooLarge) h = absurd (cc)
feed_written None h = absurd (cc)

module _ (p : Plan) (j : List Entry) (l : ℕ) (t : Attempt) (legal : Lawful p j)
    (running : has_ended j l ≡ false) where
  -- without an answer, what the feed failed for is pending
  fed_pending : is_for t (fed_on j l) ≡ true → answered j t ≡ false
      → list_any (λ x. same_attempt x.attempt t) (pending j l) ≡ true
  unfolding pending
  fed_pending h open_yet = by (find (λ x. says_feed_fault (wrote j x.attempt)) (sends j l)) refl h
    where
      by : (o : Option Request) → find (λ x. says_feed_fault (wrote j x.attempt)) (sends j l) ≡ o
          → is_for t (option_map (λ x. x.attempt) o) ≡ true → list_any
          (λ x. same_attempt x.attempt t) (filter (is_pending j) (sends j l)) ≡ true
      by None is g = absurd (cc)
      by (Some x) is g =
          let of = same_attempt_eq x.attempt t g in
          let on = all_find (k.IsSentOn j l) (λ y. says_feed_fault (wrote j y.attempt))
          (sends j l) x (k.sends_on j l (begin_in_order p j legal)) is in
          let fed = q.find_passes (λ y. says_feed_fault (wrote j y.attempt)) (sends j l) x is in
          found_passes (λ y. says_feed_fault (wrote j y.attempt)) (is_pending j) t (sends j l) x is
          (q.is_open j x (record {
            unanswered = subst (λ (a : Attempt). answered j a ≡ false)
                (sym of) open_yet;
            written = feed_written (wrote j x.attempt) fed;
            running = subst (λ i. has_ended j i ≡ false) (sym on.line) running;
          })) of

  fed_is : list_any (same_attempt t) (filter (answered j) (and_more (fed_on j l) [])) ≡
      (is_for t (fed_on j l) && answered j t)
  fed_is = any_filter t (answered j) (and_more (fed_on j l) [])
      ∙ ap (λ b. b && answered j t) (by (fed_on j l))
    where
      by : (o : Option Attempt) → list_any (same_attempt t) (and_more o []) ≡ is_for t o
      by None = refl
      by (Some s) = last_none (same_attempt t s) ∙ ed.same_sym t s

  rest_is : list_any (same_attempt t) (and_more (bound p j l)
      (map (λ (x : Request). x.attempt) (pending j l))) ≡
      (is_for t (bound p j l) || list_any (λ x. same_attempt x.attempt t) (pending j l))
  rest_is = by (bound p j l)
    where
      by : (o : Option Attempt) → list_any (same_attempt t)
          (and_more o (map (λ (x : Request). x.attempt) (pending j l))) ≡
          (is_for t o || list_any (λ x. same_attempt x.attempt t) (pending j l))
      by None = any_of t (pending j l)
      by (Some s) = λ i. ed.same_sym t s i || any_of t (pending j l) i

  pub among_standing : list_any (same_attempt t) (standing_on p j l) ≡ stands_on p j l t
  among_standing =
      list_any-append (same_attempt t) (filter (answered j) (and_more (fed_on j l) []))
      (and_more (bound p j l) (map (λ (x : Request). x.attempt) (pending j l)))
      ∙ (λ i. fed_is i || rest_is i)
      ∙ by (is_for t (fed_on j l)) (answered j t) (is_for t (bound p j l))
      (list_any (λ x. same_attempt x.attempt t) (pending j l)) (λ a b. fed_pending a b)
    where
      by : (x a b w : Bool) → (x ≡ true → a ≡ false → w ≡ true)
          → ((x && a) || (b || w)) ≡ (w || (x || b))
      by true true b true h = refl
      by true true b false h = refl
      by true false true true h = refl
      by true false false true h = refl
      by true false b false h = absurd (let both : false ≡ true = h refl refl in cc)
      by false a true true h = refl
      by false a true false h = refl
      by false a false true h = refl
      by false a false false h = refl

-- ---- so with the line end exactly those of the list, each once

pub lost_exactly : (p : Plan) (e : Entry) (j : List Entry) (l : ℕ) (how : HowEnded)
    → Lawful p (e ∷ j) → e.call ≡ call.Ended l how → EndExactly j e
    (λ t. list_any (same_attempt t) (lost_with p j l))
lost_exactly p e j l how legal is t =
    le.ends_standing p e j l how legal is t
    ∙ by (ended j t) (granted j t.action) (stands_on p j l t)
    ∙ ap (λ b. ended j t || b) (sym (any_filter t (is_open_yet j) (standing_on p j l)
    ∙ ap (λ b. b && is_open_yet j t) (among_standing p j l t legal.0 heard.running)))
  where
    heard : ll.IsHeard j l
    heard = ll.heard p j e.lane l how legal.0 (subst (λ (d : Call). lw.in_script p j e.lane d ≡ true)
        is legal.1.scripted)

    by : (x w s : Bool) → (x || (s && not w)) ≡ (x || (s && (not x && not w)))
    by true w s = refl
    by false w s = refl

pub lost_going : (p : Plan) (j : List Entry) (l : ℕ) (t : Attempt) → Lawful p j
    → has_ended j l ≡ false → list_any (same_attempt t) (lost_with p j l) ≡ true → IsGoing j t
lost_going p j l t legal running h =
    let parts = and_parts (list_any (same_attempt t) (standing_on p j l)) _
    (sym (any_filter t (is_open_yet j) (standing_on p j l)) ∙ h) in
    let going = not_true (ended j t) (and_parts (not (ended j t)) _ parts.1).0 in
    g.going_is p j t legal (le.standing_begun p j l t legal
    (sym (among_standing p j l t legal running) ∙ parts.0)) going

-- ---- no attempt stands twice in the list

-- of the requests of a line each is of an attempt of its own
sends_apart : (p : Plan) (j : List Entry) (l : ℕ) → Lawful p j
    → AreApart (map (λ (x : Request). x.attempt) (sends j l))
unfolding sends
sends_apart p [] l legal = tt
sends_apart p (e ∷ j) l legal = by (sent_on l e.reply) refl (sends_apart p j l legal.0)
  where
    by : (z : Option Request) → sent_on l e.reply ≡ z → AreApart
        (map (λ (x : Request). x.attempt) (sends j l)) → AreApart
        (map (λ (x : Request). x.attempt) (and_more z (sends j l)))
    by None is all = all
    by (Some x) is all =
        let s = q.sent_on_is l e.reply x is in
        let new = of.fresh_send p e j x legal s.0 in (
          none_any x.attempt (sends j l) (of.each_of _ _ (k.all_map (k.IsSentOn j l)
              (λ y. same_attempt x.attempt y.attempt ≡ false)
              (λ y on. false_by _ (λ same. clash (was_sent j x.attempt)
              (subst (λ (a : Attempt). was_sent j a ≡ true) (sym
              (same_attempt_eq x.attempt y.attempt same)) on.sent) new.unsent))
              (sends j l) (k.sends_on j l (begin_in_order p j legal.0)))),
          all,
        )

passed_apart : (pass : Request → Bool) (xs : List Request)
    → AreApart (map (λ (x : Request). x.attempt) xs) → AreApart
    (map (λ (x : Request). x.attempt) (filter pass xs))
passed_apart pass [] all = tt
passed_apart pass (x ∷ xs) all =
    by_bool (pass x) (λ b. AreApart (map (λ (y : Request). y.attempt)
    (cond b (x ∷ filter pass xs) (filter pass xs))))
    (λ _. (still xs all.0, passed_apart pass xs all.1)) (λ _. passed_apart pass xs all.1)
  where
    still : (ys : List Request) → list_any (same_attempt x.attempt)
        (map (λ (y : Request). y.attempt) ys) ≡ false → list_any (same_attempt x.attempt)
        (map (λ (y : Request). y.attempt) (filter pass ys)) ≡ false
    still [] h = refl
    still (y ∷ ys) h =
        let parts = or_parts (same_attempt x.attempt y.attempt) _ h in
        by_bool (pass y) (λ b. list_any (same_attempt x.attempt)
        (map (λ (z : Request). z.attempt) (cond b (y ∷ filter pass ys) (filter pass ys)))
        ≡ false)
        (λ _. or_from (same_attempt x.attempt y.attempt) _ parts.0 (still ys parts.1))
        (λ _. still ys parts.1)

-- where a branch is bound the line has no request
pub standing_apart : (p : Plan) (j : List Entry) (l : ℕ) → Lawful p j → AreApart (standing_on p j l)
unfolding pending
standing_apart p j l legal = by_bound (bound p j l) refl
  where
    apart : AreApart (map (λ (x : Request). x.attempt) (filter (is_pending j) (sends j l)))
    apart = passed_apart (is_pending j) (sends j l) (sends_apart p j l legal)

    with_fed : (o : Option Attempt) → AreApart (filter (answered j) (and_more o []) ++ map
        (λ (x : Request). x.attempt) (filter (is_pending j) (sends j l)))
    with_fed None = apart
    with_fed (Some s) =
        by_bool (answered j s) (λ b. answered j s ≡ b → AreApart
        (cond b (s ∷ []) [] ++ map (λ (x : Request). x.attempt)
        (filter (is_pending j) (sends j l))))
        (λ _ done. (
          none_any s (filter (is_pending j) (sends j l))
              (of.past_answered j s done l),
          apart,
        )) (λ _ _. apart) refl

    of_bound : (t : Attempt) (xs : List Request) → xs ≡ []
        → AreApart (filter (answered j) (and_more (option_map
        (λ x. x.attempt) (find (λ x. says_feed_fault (wrote j x.attempt)) xs)) []) ++ t ∷ map
        (λ (x : Request). x.attempt) (filter (is_pending j) xs))
    of_bound t [] h = (refl, tt)
    of_bound t (x ∷ xs) h = absurd (cc)

    by_bound : (o : Option Attempt) → bound p j l ≡ o → AreApart
        (filter (answered j) (and_more (fed_on j l) []) ++ and_more o
        (map (λ (x : Request). x.attempt) (filter (is_pending j) (sends j l))))
    by_bound None is = with_fed (fed_on j l)
    by_bound (Some t) is = of_bound t (sends j l) (q.bound_unsent p j l t legal is)

pub lost_apart : (p : Plan) (j : List Entry) (l : ℕ) → Lawful p j → AreApart (lost_with p j l)
lost_apart p j l legal = apart_filter (is_open_yet j) (standing_on p j l)
    (standing_apart p j l legal)
