-- For each kind of entry exactly which attempts end with it.
use Rattle.std.proofs.Common.{◌≡◌, ℕ, Bool, true, false, ◌&&◌, ◌||◌, not, cond, List, ◌∷◌, Option, Some, None, is_some, option_map, ◌⊎◌, inl, inr, refl, sym, ap, subst, ◌∙◌, ℤ}
use Rattle.std.proofs.lemmas.Bool.{eqb-true, eq-eqb, and_parts, and_from}
use Rattle.run_plan.specs.declared.plan.Branch.{Branch}
use Rattle.run_plan.specs.declared.plan.Plan.{Plan}
use Rattle.exec_journal.specs.declared.attempt.Attempt.{Attempt}
use Rattle.exec_journal.specs.Entry.{Entry}
use Rattle.exec_journal.specs.declared.ends.Cause.{Cause}
use Rattle.exec_journal.specs.declared.call.Call.{Call}
use Rattle.exec_journal.specs.declared.call.Call.TheVariants as call
use Rattle.exec_journal.specs.declared.call.Started.{Started}
use Rattle.exec_journal.specs.declared.call.Started.TheVariants as start
use Rattle.exec_journal.specs.declared.call.HowEnded.{HowEnded}
use Rattle.exec_journal.specs.declared.call.Found.{Found}
use Rattle.exec_journal.specs.declared.call.Found.TheVariants as found
use Rattle.exec_journal.specs.declared.call.Written.{Written}
use Rattle.exec_journal.specs.declared.call.Written.TheVariants as write
use Rattle.exec_journal.specs.declared.reply.Reply.{Reply}
use Rattle.exec_journal.specs.declared.reply.Reply.TheVariants as reply
use Rattle.exec_journal.specs.Entries.{Request, attempt_of, same_attempt, is_for, is_done, is_unwritten, launch_in, granted_in, refused_in}
use Rattle.exec_journal.specs.Words.{last_work, launch_of, wrote_at, order_of, has_ended, granted, grant_of}
use Rattle.exec_journal.specs.Attempts.{line_of, fault_at, fault_by, start_cause, unwritten_cause, refused_cause, found_cause, ended}
use Rattle.exec_journal.specs.Rules as r
use Rattle.exec_journal.specs.Lawful as lw
use Rattle.exec_journal.specs.Scripts as sc
use Rattle.exec_journal.specs.Lawful.{Lawful}
use Rattle.journal_laws.specs.Invariant.{EndsWith, ByFault, ByEnd, ByFeed, is_left, claims_it}
use Rattle.journal_laws.specs.Steps.{EndExactly, is_line, is_open_attempt, is_left_on}
use Rattle.exec_journal.proofs.Reasons as u
use Rattle.exec_journal.proofs.Ruled as ru
use Rattle.exec_journal.proofs.Ruled.{by_bool, not_true}
use Rattle.exec_journal.proofs.Begins.{same_attempt_eq, same_attempt_refl}
use Rattle.exec_journal.proofs.Quiet.{ended_stays}
use Rattle.journal_laws.proofs.Owed as o
use Rattle.journal_laws.proofs.Over as v
use Rattle.journal_laws.proofs.Claims as c
use Rattle.journal_laws.proofs.Claims.{clash, false_by}
use Rattle.journal_laws.proofs.Granted as g
use Rattle.journal_laws.proofs.Endings as en

pub exactly : (p : Plan) (e : Entry) (j : List Entry) (test : Attempt → Bool) → Lawful p (e ∷ j)
    → ((t : Attempt) → EndsWith j e t → granted (e ∷ j) t.action ≡ false → test t ≡ true)
    → ((t : Attempt) → test t ≡ true → EndsWith j e t × (granted (e ∷ j) t.action ≡ false)) → EndExactly j e test
exactly p e j test legal only so t =
    by_bool (ended j t) (λ b. ended j t ≡ b → ended (e ∷ j) t ≡ (b || test t))
    (λ _ old. ended_stays e j t old)
    (λ _ going. by_bool (test t) (λ b. test t ≡ b → ended (e ∷ j) t ≡ b)
    (λ _ yes_so. let how = so t yes_so in en.ends_so p e j t legal how.0 how.1)
    (λ _ not_so. false_by _ (λ now. let how = en.ends_with p e j t legal now going in clash (test t) (only t how.0 how.1) not_so)) refl) refl

-- ---- what isn't granted with an entry

ungranted_still : (e : Entry) (j : List Entry) (a : ℕ) → granted_in e.call e.reply ≡ None → granted j a ≡ false → granted (e ∷ j) a ≡ false
unfolding granted
ungranted_still e j a none h = ap is_some (en.grants_same e j a none) ∙ h

no_grant : (d : Call) (x : Reply) → ((a : ℕ) (b : Branch) (t : ℕ) (f : Found) → d ≡ call.Claim a b t f → ⊥) → granted_in d x ≡ None
no_grant (call.Claim a b t f) x h = absurd (h a b t f refl)
no_grant _ x h = refl

-- ---- a Launched with a fault

started_is : (how : Started) → is_done how ≡ false → is_some (start_cause how) ≡ true
started_is start.Done h = absurd (cc)
started_is start.RoomFault h = refl
started_is start.LaunchFault h = refl

launched_grants_none : (e : Entry) (l : ℕ) (how : Started) → e.call ≡ call.Launched l how → granted_in e.call e.reply ≡ None
launched_grants_none e l how is = no_grant e.call e.reply (λ a b t f h. (let both : call.Launched l how ≡ call.Claim a b t f = sym is ∙ h in cc))

pub record IsOrdered (j : List Entry) (lane l : ℕ) (s : Attempt) : Type 0 where
  pub entry : Entry
  pub newest : last_work j lane ≡ Some entry
  pub launch : launch_in entry.reply ≡ Some (l, s)

pub launch_order : (p : Plan) (e : Entry) (j : List Entry) (l m : ℕ) (how : Started) (s : Attempt) → Lawful p (e ∷ j) → e.call ≡ call.Launched l how → launch_of j l ≡ Some (m, s) → IsOrdered j e.lane l s
launch_order p e j l m how s legal is at =
    let answer = o.launched_answers p j e.lane l how (subst (λ (d : Call). lw.in_script p j e.lane d ≡ true) is legal.1.scripted) in
    let launch = c.launches_line_is l answer.order.reply answer.fits in
    let on = c.newest_launch p j e.lane l launch.0 answer.order legal.0 answer.newest launch.1 in
    let both : Some (on.lane, launch.0) ≡ Some (m, s) = sym on.is ∙ at in
    let pair : (on.lane, launch.0) ≡ (m, s) = cc in
    record { entry = answer.order; newest = answer.newest; launch = launch.1 ∙ ap (λ (x : Attempt). Some (l, x)) (ap (λ (x : ℕ × Attempt). x.1) pair) }

-- it ends the attempt of the line's Launch
pub launched_ends : (p : Plan) (e : Entry) (j : List Entry) (l m : ℕ) (how : Started) (s : Attempt) → Lawful p (e ∷ j) → e.call ≡ call.Launched l how → is_done how ≡ false → launch_of j l ≡ Some (m, s) → EndExactly j e (is_open_attempt j s)
launched_ends p e j l m how s legal is fault at = exactly p e j (is_open_attempt j s) legal only so
  where
    order : IsOrdered j e.lane l s
    order = launch_order p e j l m how s legal is at

    fault_is : (t : Attempt) → fault_at t j e ≡ cond (same_attempt s t) (start_cause how) None
    fault_is t = rw (is, order.newest, order.launch) refl

    only : (t : Attempt) → EndsWith j e t → granted (e ∷ j) t.action ≡ false → is_open_attempt j s t ≡ true
    only t (ByFault x h) free =
        by_bool (same_attempt s t) (λ b. same_attempt s t ≡ b → cond b (start_cause how) None ≡ Some x → (b && not (granted j s.action)) ≡ true)
        (λ _ same _. let one = same_attempt_eq s t same in let off = en.granted_before e j t.action free in rw (subst (λ (y : Attempt). granted j y.action ≡ false) (sym one) off) refl)
        (λ _ _ y. absurd (cc)) refl (sym (fault_is t) ∙ h)
    only t (ByEnd n w h on left) free = (let both : call.Launched l how ≡ call.Ended n w = sym is ∙ h in absurd (cc))
    only t (ByFeed n h on over) free = (let it = c.wrote_at_is j e t write.FeedFault h in let both : call.Launched l how ≡ call.Wrote it.line it.number write.FeedFault = sym is ∙ it.is in absurd (cc))

    so : (t : Attempt) → is_open_attempt j s t ≡ true → EndsWith j e t × (granted (e ∷ j) t.action ≡ false)
    so t h =
        let parts = and_parts (same_attempt s t) _ h in
        let one = same_attempt_eq s t parts.0 in
        let cause = v.some_is (start_cause how) (started_is how fault) in (
          ByFault cause.0 (fault_is t ∙ ap (λ b. cond b (start_cause how) None) parts.0 ∙ cause.1),
          ungranted_still e j t.action (launched_grants_none e l how is) (subst (λ (y : Attempt). granted j y.action ≡ false) one (not_true _ parts.1)),
        )

-- ---- a Wrote

wrote_grants_none : (e : Entry) (l : ℕ) (n : ℤ) (how : Written) → e.call ≡ call.Wrote l n how → granted_in e.call e.reply ≡ None
wrote_grants_none e l n how is = no_grant e.call e.reply (λ a b t f h. (let both : call.Wrote l n how ≡ call.Claim a b t f = sym is ∙ h in cc))

unwritten_some : (how : Written) → is_unwritten how ≡ true → is_some (unwritten_cause how) ≡ true
unwritten_some write.RoomFault h = refl
unwritten_some write.TooLarge h = refl
unwritten_some write.Done h = absurd (cc)
unwritten_some write.FeedFault h = absurd (cc)

-- RoomFault and TooLarge end the attempt of the request
pub unwritten_ends : (p : Plan) (e : Entry) (j : List Entry) (l : ℕ) (n : ℤ) (how : Written) (x : Request) → Lawful p (e ∷ j) → e.call ≡ call.Wrote l n how → is_unwritten how ≡ true → order_of j e.lane ≡ Some x
    → EndExactly j e (is_open_attempt j x.attempt)
unwritten_ends p e j l n how x legal is un order = exactly p e j (is_open_attempt j x.attempt) legal only so
  where
    fault_is : (t : Attempt) → fault_at t j e ≡ cond (same_attempt x.attempt t) (unwritten_cause how) None
    fault_is t = rw (is, order) refl

    only : (t : Attempt) → EndsWith j e t → granted (e ∷ j) t.action ≡ false → is_open_attempt j x.attempt t ≡ true
    only t (ByFault y h) free =
        by_bool (same_attempt x.attempt t) (λ b. same_attempt x.attempt t ≡ b → cond b (unwritten_cause how) None ≡ Some y → (b && not (granted j x.attempt.action)) ≡ true)
        (λ _ same _. let one = same_attempt_eq x.attempt t same in let off = en.granted_before e j t.action free in rw (subst (λ (z : Attempt). granted j z.action ≡ false) (sym one) off) refl)
        (λ _ _ z. absurd (cc)) refl (sym (fault_is t) ∙ h)
    only t (ByEnd m w h on left) free = (let both : call.Wrote l n how ≡ call.Ended m w = sym is ∙ h in absurd (cc))
    only t (ByFeed m h on over) free =
        let it = c.wrote_at_is j e t write.FeedFault h in
        let both : call.Wrote l n how ≡ call.Wrote it.line it.number write.FeedFault = sym is ∙ it.is in
        let same : how ≡ write.FeedFault = cc in
        let none : is_unwritten how ≡ false = rw same refl in absurd (clash _ un none)

    so : (t : Attempt) → is_open_attempt j x.attempt t ≡ true → EndsWith j e t × (granted (e ∷ j) t.action ≡ false)
    so t h =
        let parts = and_parts (same_attempt x.attempt t) _ h in
        let one = same_attempt_eq x.attempt t parts.0 in
        let cause = v.some_is (unwritten_cause how) (unwritten_some how un) in (
          ByFault cause.0 (fault_is t ∙ ap (λ b. cond b (unwritten_cause how) None) parts.0 ∙ cause.1),
          ungranted_still e j t.action (wrote_grants_none e l n how is) (subst (λ (y : Attempt). granted j y.action ≡ false) one (not_true _ parts.1)),
        )

-- a Wrote with Done ends none, nor does that of a Cancel
pub written_ends_none : (p : Plan) (e : Entry) (j : List Entry) (l : ℕ) (n : ℤ) (how : Written) → Lawful p (e ∷ j) → e.call ≡ call.Wrote l n how → (how ≡ write.Done) ⊎ (order_of j e.lane ≡ None) → (t : Attempt) → ended (e ∷ j) t ≡ ended j t
written_ends_none p e j l n how legal is quiet t =
    by_bool (ended j t) (λ b. ended j t ≡ b → ended (e ∷ j) t ≡ b) (λ _ old. ended_stays e j t old)
    (λ _ going. false_by _ (λ now. none (en.ends_with p e j t legal now going).0 quiet)) refl
  where
    either : (b : Bool) (o : Option Cause) → o ≡ None → cond b o None ≡ None
    either true o h = h
    either false o h = refl

    none : EndsWith j e t → (how ≡ write.Done) ⊎ (order_of j e.lane ≡ None) → ⊥
    none (ByFault x h) (inl done) =
        let f : fault_at t j e ≡ None = rw (is, done) (either (is_for t (option_map (λ y. y.attempt) (order_of j e.lane))) None refl) in
        let both : None ≡ Some x = sym f ∙ h in cc
    none (ByFault x h) (inr no_order) =
        let f : fault_at t j e ≡ None = rw (is, no_order) refl in
        let both : None ≡ Some x = sym f ∙ h in cc
    none (ByEnd m w h on left) q = (let both : call.Wrote l n how ≡ call.Ended m w = sym is ∙ h in cc)
    none (ByFeed m h on over) (inl done) =
        let it = c.wrote_at_is j e t write.FeedFault h in
        let both : call.Wrote l n how ≡ call.Wrote it.line it.number write.FeedFault = sym is ∙ it.is in
        let same : how ≡ write.FeedFault = cc in
        let both_ways : write.FeedFault ≡ write.Done = sym same ∙ done in cc
    none (ByFeed m h on over) (inr no_order) =
        let f : wrote_at t j e ≡ None = rw (is, no_order) refl in
        let both : None ≡ Some write.FeedFault = sym f ∙ h in cc

-- FeedFault ends the attempt of the request where its line has Ended
pub feed_ends : (p : Plan) (e : Entry) (j : List Entry) (l : ℕ) (n : ℤ) (x : Request) → Lawful p (e ∷ j) → e.call ≡ call.Wrote l n write.FeedFault → order_of j e.lane ≡ Some x → line_of j x.attempt ≡ Some x.line
    → EndExactly j e (λ t. same_attempt x.attempt t && (has_ended j x.line && not (granted j x.attempt.action)))
feed_ends p e j l n x legal is order at = exactly p e j (λ t. same_attempt x.attempt t && (has_ended j x.line && not (granted j x.attempt.action))) legal only so
  where
    either : (b : Bool) → cond b (unwritten_cause write.FeedFault) None ≡ None
    either true = refl
    either false = refl

    wrote_is : (t : Attempt) → wrote_at t j e ≡ cond (same_attempt x.attempt t) (Some write.FeedFault) None
    wrote_is t = rw (is, order) refl

    only : (t : Attempt) → EndsWith j e t → granted (e ∷ j) t.action ≡ false → (same_attempt x.attempt t && (has_ended j x.line && not (granted j x.attempt.action))) ≡ true
    only t (ByFault y h) free = (let f : fault_at t j e ≡ None = rw (is, order) (either (same_attempt x.attempt t)) in let both : None ≡ Some y = sym f ∙ h in absurd (cc))
    only t (ByEnd m w h on left) free = (let both : call.Wrote l n write.FeedFault ≡ call.Ended m w = sym is ∙ h in absurd (cc))
    only t (ByFeed m h on over) free =
        by_bool (same_attempt x.attempt t) (λ b. same_attempt x.attempt t ≡ b → cond b (Some write.FeedFault) None ≡ Some write.FeedFault → (b && (has_ended j x.line && not (granted j x.attempt.action))) ≡ true)
        (λ _ same _.
        let one = same_attempt_eq x.attempt t same in
        let there : line_of j t ≡ Some x.line = subst (λ (y : Attempt). line_of j y ≡ Some x.line) one at in
        let both : Some x.line ≡ Some m = sym there ∙ on in
        let line : x.line ≡ m = cc in
        let off = en.granted_before e j t.action free in
        and_from _ _ (subst (λ i. has_ended j i ≡ true) (sym line) over) (rw (subst (λ (y : Attempt). granted j y.action ≡ false) (sym one) off) refl))
        (λ _ _ y. absurd (cc)) refl (sym (wrote_is t) ∙ h)

    so : (t : Attempt) → (same_attempt x.attempt t && (has_ended j x.line && not (granted j x.attempt.action))) ≡ true → EndsWith j e t × (granted (e ∷ j) t.action ≡ false)
    so t h =
        let parts = and_parts (same_attempt x.attempt t) _ h in
        let more = and_parts (has_ended j x.line) _ parts.1 in
        let one = same_attempt_eq x.attempt t parts.0 in (
          ByFeed x.line (wrote_is t ∙ ap (λ b. cond b (Some write.FeedFault) None) parts.0) (subst (λ (y : Attempt). line_of j y ≡ Some x.line) one at) more.0,
          ungranted_still e j t.action (wrote_grants_none e l n write.FeedFault is) (subst (λ (y : Attempt). granted j y.action ≡ false) one (not_true _ more.1)),
        )

-- ---- an Ended

ended_grants_none : (e : Entry) (l : ℕ) (how : HowEnded) → e.call ≡ call.Ended l how → granted_in e.call e.reply ≡ None
ended_grants_none e l how is = no_grant e.call e.reply (λ a b t f h. (let both : call.Ended l how ≡ call.Claim a b t f = sym is ∙ h in cc))

line_is : (w : Option ℕ) (l : ℕ) → is_line w l ≡ true → w ≡ Some l
line_is (Some k) l h = ap Some (eqb-true k l h)
line_is None l h = absurd (cc)

is_at : (w : Option ℕ) (l : ℕ) → w ≡ Some l → is_line w l ≡ true
is_at w l h = rw h (eq-eqb l l refl)

pub line_ends : (p : Plan) (e : Entry) (j : List Entry) (l : ℕ) (how : HowEnded) → Lawful p (e ∷ j) → e.call ≡ call.Ended l how → EndExactly j e (is_left_on j l)
line_ends p e j l how legal is = exactly p e j (is_left_on j l) legal only so
  where
    only : (t : Attempt) → EndsWith j e t → granted (e ∷ j) t.action ≡ false → is_left_on j l t ≡ true
    only t (ByFault y h) free = (let f : fault_at t j e ≡ None = rw is refl in let both : None ≡ Some y = sym f ∙ h in absurd (cc))
    only t (ByEnd m w h on left) free =
        let both : call.Ended l how ≡ call.Ended m w = sym is ∙ h in
        let same : m ≡ l = cc in
        let off = en.granted_before e j t.action free in
        and_from _ _ (is_at (line_of j t) l (on ∙ ap Some same)) (and_from _ _ left (rw off refl))
    only t (ByFeed m h on over) free = (let it = c.wrote_at_is j e t write.FeedFault h in let both : call.Ended l how ≡ call.Wrote it.line it.number write.FeedFault = sym is ∙ it.is in absurd (cc))

    so : (t : Attempt) → is_left_on j l t ≡ true → EndsWith j e t × (granted (e ∷ j) t.action ≡ false)
    so t h =
        let parts = and_parts (is_line (line_of j t) l) _ h in
        let more = and_parts (is_left j t) _ parts.1 in
        (ByEnd l how is (line_is (line_of j t) l parts.0) more.0, ungranted_still e j t.action (ended_grants_none e l how is) (not_true _ more.1))

-- ---- a Claim that is refused

-- it comes where the action has no grant
pub refused_claims : (d : Call) (x : Reply) (y : Attempt × Found) → refused_in d x ≡ Some y → claims_it y.0 d ≡ true
refused_claims (call.Claim a b t f) reply.AgainLater y h = (let e : (attempt_of a b t, f) ≡ y = cc in subst (λ (z : Attempt × Found). same_attempt (attempt_of a b t) z.0 ≡ true) e (same_attempt_refl (attempt_of a b t)))
refused_claims (call.Claim a b t f) reply.Dropped y h = (let e : (attempt_of a b t, f) ≡ y = cc in subst (λ (z : Attempt × Found). same_attempt (attempt_of a b t) z.0 ≡ true) e (same_attempt_refl (attempt_of a b t)))
refused_claims (call.Claim a b t f) _ y h = absurd (cc)
refused_claims _ _ y h = absurd (cc)

record IsRefusal (j : List Entry) (y : Attempt × Found) : Type 0 where
  pub free : r.is_other y.0.branch (grant_of j y.0.action) ≡ false
  pub cause : is_some (found_cause y.1) ≡ true

fault_found : (f : Found) → ru.may_win f ≡ false → is_some (found_cause f) ≡ true
fault_found (found.Files fs) h = absurd (cc)
fault_found (found.Exit n) h = absurd (cc)
fault_found (found.Missing k) h = refl
fault_found found.RoomFault h = refl
fault_found found.Refused h = refl

refusal_is : (p : Plan) (j : List Entry) (lane : ℕ) (d : Call) (x : Reply) (y : Attempt × Found) → u.Ruled p j lane d x → refused_in d x ≡ Some y → IsRefusal j y
refusal_is p j lane d x y (u.Defers a b t f free none below) h = (let e : (attempt_of a b t, f) ≡ y = cc in subst (IsRefusal j) e (record { free = free; cause = fault_found f none }))
refusal_is p j lane d x y (u.Drops a b t f free none above) h = (let e : (attempt_of a b t, f) ≡ y = cc in subst (IsRefusal j) e (record { free = free; cause = fault_found f none }))
refusal_is p j lane d x y (u.KillsBroken l z here run broken over) h = absurd (cc)
refusal_is p j lane d x y (u.Notes n m) h = absurd (none d h)
  where
    none : (w : Call) → refused_in w reply.Noted ≡ Some y → ⊥
    none (call.Claim a b t f) k = cc
    none _ k = cc
refusal_is p j lane d x y _ h = absurd (cc)

pub refused_free : (p : Plan) (e : Entry) (j : List Entry) (y : Attempt × Found) → Lawful p (e ∷ j) → refused_in e.call e.reply ≡ Some y → granted j y.0.action ≡ false
refused_free p e j y legal h = false_by _ (λ old.
    let x = g.granted_is j y.0.action old in
    let apart = g.never_twice p e j y.0 legal (refused_claims e.call e.reply y h) x.0 x.1 in
    let free = (refusal_is p j e.lane e.call e.reply y (v.entry_ruled p e j legal) h).free in
    let other : r.is_other y.0.branch (grant_of j y.0.action) ≡ true = rw (x.1, apart) refl in
    clash _ other free)

pub refused_grants_none : (d : Call) (x : Reply) (y : Attempt × Found) → refused_in d x ≡ Some y → granted_in d x ≡ None
refused_grants_none (call.Claim a b t f) reply.AgainLater y h = refl
refused_grants_none (call.Claim a b t f) reply.Dropped y h = refl
refused_grants_none (call.Claim a b t f) _ y h = absurd (cc)
refused_grants_none _ _ y h = absurd (cc)

-- and ends its attempt
pub refused_ends : (p : Plan) (e : Entry) (j : List Entry) (y : Attempt × Found) → Lawful p (e ∷ j) → refused_in e.call e.reply ≡ Some y → EndExactly j e (λ t. same_attempt y.0 t)
refused_ends p e j y legal h = exactly p e j (λ t. same_attempt y.0 t) legal only so
  where
    claims : (f : Found) × (e.call ≡ call.Claim y.0.action y.0.branch y.0.number f)
    claims = c.claims_is y.0 e.call (refused_claims e.call e.reply y h)

    fault_is : (t : Attempt) → fault_at t j e ≡ cond (same_attempt y.0 t) (found_cause y.1) None
    fault_is t = by e.call e.reply claims.1 h
      where
        by : (d : Call) (x : Reply) → d ≡ call.Claim y.0.action y.0.branch y.0.number claims.0 → refused_in d x ≡ Some y → fault_by t (last_work j e.lane) d x ≡ cond (same_attempt y.0 t) (found_cause y.1) None
        by d x is k = rw is (ap (refused_cause t) (sym (ap (λ w. refused_in w x) is) ∙ k))

    only : (t : Attempt) → EndsWith j e t → granted (e ∷ j) t.action ≡ false → same_attempt y.0 t ≡ true
    only t (ByFault x k) free = by_bool (same_attempt y.0 t) (λ b. cond b (found_cause y.1) None ≡ Some x → b ≡ true) (λ _ _. refl) (λ _ w. absurd (cc)) (sym (fault_is t) ∙ k)
    only t (ByEnd m w k on left) free = (let both : call.Claim y.0.action y.0.branch y.0.number claims.0 ≡ call.Ended m w = sym claims.1 ∙ k in absurd (cc))
    only t (ByFeed m k on over) free = (let it = c.wrote_at_is j e t write.FeedFault k in let both : call.Claim y.0.action y.0.branch y.0.number claims.0 ≡ call.Wrote it.line it.number write.FeedFault = sym claims.1 ∙ it.is in absurd (cc))

    so : (t : Attempt) → same_attempt y.0 t ≡ true → EndsWith j e t × (granted (e ∷ j) t.action ≡ false)
    so t same =
        let one = same_attempt_eq y.0 t same in
        let cause = v.some_is (found_cause y.1) (refusal_is p j e.lane e.call e.reply y (v.entry_ruled p e j legal) h).cause in (
          ByFault cause.0 (fault_is t ∙ ap (λ b. cond b (found_cause y.1) None) same ∙ cause.1),
          ungranted_still e j t.action (refused_grants_none e.call e.reply y h) (subst (λ (z : Attempt). granted j z.action ≡ false) one (refused_free p e j y legal h)),
        )
