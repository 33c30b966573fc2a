-- Where a live line's lane would be told Idle, its unwanted requests were asked to end.
use Rattle.std.proofs.Common.{◌≡◌, ℕ, Bool, true, false, ◌&&◌, ◌||◌, not, cond, List, [], ◌∷◌, Option, Some, None, option_map, inl, inr, refl, subst}
use Rattle.std.specs.List.{filter, list_any}
use Rattle.std.proofs.lemmas.Bool.{and_parts, and_from}
use Rattle.run_plan.specs.declared.plan.Kind.{Kind}
use Rattle.run_plan.specs.declared.plan.Plan.{Plan}
use Rattle.run_plan.specs.Groups.{has_cancellation, is_single}
use Rattle.list_lemmas.specs.Options.{or_else}
use Rattle.exec_journal.specs.declared.attempt.Attempt.{Attempt}
use Rattle.exec_journal.specs.declared.reply.Reply.{Reply}
use Rattle.exec_journal.specs.declared.reply.Reply.TheVariants as reply
use Rattle.exec_journal.specs.declared.reply.Why.TheVariants as why
use Rattle.exec_journal.specs.Entry.{Entry}
use Rattle.exec_journal.specs.Entries.{Request}
use Rattle.exec_journal.specs.Rules as r
use Rattle.exec_journal.specs.Seated.{line_group, line_kind, may_be_asked}
use Rattle.exec_journal.specs.Words.{broke, has_cancel, live, pending, started}
use Rattle.exec_journal.proofs.Ruled.{by_bool}
use Rattle.journal_laws.specs.Invariant.{EachRequest}
use Rattle.journal_laws.proofs.Claims.{clash}
use Rattle.progress_laws.specs.Unwanted.{UnwantedAreAsked}
use Rattle.progress_laws.proofs.Idles.{IsIdle}
use Rattle.progress_laws.proofs.Going.{none_passes}

-- ---- lists of requests

each_map : (P Q : Request → Type 0) → ((y : Request) → P y → Q y) → (ys : List Request)
    → EachRequest P ys → EachRequest Q ys
each_map P Q f [] all = tt
each_map P Q f (y ∷ ys) all = (f y all.0, each_map P Q f ys all.1)

none_of : (test : Request → Bool) (ys : List Request) → list_any test ys ≡ false
    → EachRequest (λ y. test y ≡ false) ys
none_of test [] h = tt
none_of test (y ∷ ys) h = (left (test y) _ h, none_of test ys (right (test y) _ h))
  where
    left : (a b : Bool) → (a || b) ≡ false → a ≡ false
    left false b k = refl
    left true b k = absurd (cc)

    right : (a b : Bool) → (a || b) ≡ false → b ≡ false
    right false b k = k
    right true b k = absurd (cc)

each_is : (P : Request → Type 0) → ((y : Request) → P y) → (ys : List Request) → EachRequest P ys
each_is P f [] = tt
each_is P f (y ∷ ys) = (f y, each_is P f ys)

oldest_none : (ys : List Request) → r.oldest ys ≡ None → ys ≡ []
oldest_none [] h = refl
oldest_none (y ∷ ys) h = absurd (some (r.oldest ys) h)
  where
    some : (o : Option Request) → or_else o (Some y) ≡ None → ⊥
    some None k = cc
    some (Some z) k = cc

-- ---- the line

-- it can be asked: then each unwanted request has its Cancel
cancelled : (p : Plan) (j : List Entry) (l : ℕ) → live j l ≡ true → may_be_asked p j l ≡ true
    → r.cancels_next_of p j (line_kind p j l) (line_group p j l) (Some l) ≡ None
    → UnwantedAreAsked p j l
cancelled p j l up may none =
    each_map (λ y. (r.is_unwanted p j y && not (has_cancel j y)) ≡ false) _
    (λ y h unwanted. inl (has (r.is_unwanted p j y) (has_cancel j y) h unwanted)) (pending j l)
    (none_passes (λ y. r.is_unwanted p j y && not (has_cancel j y)) (pending j l)
    (by (live j l) (may_be_asked p j l) (r.oldest (filter
    (λ y. r.is_unwanted p j y && not (has_cancel j y)) (pending j l))) refl up may none))
  where
    by : (a b : Bool) (o : Option Request) → r.oldest
        (filter (λ y. r.is_unwanted p j y && not (has_cancel j y)) (pending j l)) ≡ o → a ≡ true
        → b ≡ true → cond (a && b) (option_map r.cancel_for o) None ≡ None
        → filter (λ y. r.is_unwanted p j y && not (has_cancel j y)) (pending j l) ≡ []
    by true true None is h k m = oldest_none _ is
    by true true (Some y) is h k m = absurd (cc)
    by false b o is h k m = absurd (cc)
    by true false o is h k m = absurd (cc)

    has : (a b : Bool) → (a && not b) ≡ false → a ≡ true → b ≡ true
    has true true h k = refl
    has true false h k = absurd (cc)
    has false b h k = absurd (cc)

runs_so : (j : List Entry) (l : ℕ) → live j l ≡ true → r.runs j l ≡ true
unfolding live
runs_so j l up =
    (let parts = and_parts (started j l) _ up in and_from (started j l) _ parts.0
    (and_parts (not (broke j l)) _ parts.1).1)

-- it can't: a Single line has no unwanted request, or it would be killed
unkilled : (p : Plan) (j : List Entry) (l : ℕ) → live j l ≡ true → may_be_asked p j l ≡ false
    → r.kills_unwanted_of p j (line_kind p j l) (line_group p j l) (Some l) ≡ None
    → UnwantedAreAsked p j l
unkilled p j l up mute none =
    by_bool (is_single (line_kind p j l)) (λ b. is_single (line_kind p j l) ≡ b
    → UnwantedAreAsked p j l)
    (λ _ one. each_map (λ y. r.is_unwanted p j y ≡ false) _
    (λ y wanted unwanted. absurd (clash (r.is_unwanted p j y) unwanted wanted)) (pending j l)
    (none_of (r.is_unwanted p j) (pending j l) (by (r.runs j l) (is_single (line_kind p j l))
    (has_cancellation p (line_group p j l)) (r.has_unwanted p j l) (runs_so j l up) one
    (no_cancellation (has_cancellation p (line_group p j l)) _ mute) none)))
    (λ _ many. each_is _ (λ y unwanted. inr (record { unasked = mute; shared = many }))
    (pending j l)) refl
  where
    no_cancellation : (a b : Bool) → (a || b) ≡ false → a ≡ false
    no_cancellation false b k = refl
    no_cancellation true b k = absurd (cc)

    by : (run one cancel some : Bool) → run ≡ true → one ≡ true → cancel ≡ false
        → r.when (run && ((one && not cancel) && some)) (reply.Kill l why.Unwanted) ≡ None
        → some ≡ false
    by true true false false a b c k = refl
    by true true false true a b c k = absurd (cc)
    by true true true some a b c k = absurd (cc)
    by true false cancel some a b c k = absurd (cc)
    by false one cancel some a b c k = absurd (cc)

-- `kind` and `group` are the line's
pub idle_asked : (p : Plan) (j : List Entry) (w : ℕ) (kind : Kind) (group l : ℕ)
    (next : Option Attempt) (more : Option Reply) → IsIdle p j w kind group (Some l) next more
    → kind ≡ line_kind p j l → group ≡ line_group p j l → live j l ≡ true → UnwantedAreAsked p j l
idle_asked p j w kind group l next more idle same_kind same_group up =
    by_bool (may_be_asked p j l) (λ b. may_be_asked p j l ≡ b → UnwantedAreAsked p j l)
    (λ _ may. cancelled p j l up may (subst (λ (k : Kind). r.cancels_next_of p j k
    (line_group p j l) (Some l) ≡ None) same_kind (subst
    (λ g. r.cancels_next_of p j kind g (Some l) ≡ None) same_group idle.uncancelled)))
    (λ _ mute. unkilled p j l up mute (subst (λ (k : Kind). r.kills_unwanted_of p j k
    (line_group p j l) (Some l) ≡ None) same_kind (subst
    (λ g. r.kills_unwanted_of p j kind g (Some l) ≡ None) same_group idle.unkilled))) refl
