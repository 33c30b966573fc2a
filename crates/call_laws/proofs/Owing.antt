-- What is missing is owed: an order that was given was answered, or it is still its lane's newest
-- work. So a lane that may Ask owes nothing.
use Rattle.std.proofs.Common.{◌≡◌, ℕ, ◌/◌, ◌%◌, ◌==◌, Bool, true, false, ◌&&◌, ◌||◌, not, List, [], ◌∷◌, Option, Some, is_some, option_map, ◌⊎◌, inl, inr, refl, sym, ap, subst, ◌∙◌}
use Rattle.std.proofs.lemmas.Bool.{eqb-true, eq-eqb, and_parts, or_cases, or_left, or_right}
use Rattle.run_plan.specs.declared.plan.Kind.TheVariants as kind
use Rattle.run_plan.specs.declared.plan.Branch.{Branch}
use Rattle.run_plan.specs.declared.plan.Kind.{Kind}
use Rattle.run_plan.specs.declared.plan.Plan.{Plan}
use Rattle.exec_journal.specs.Lawful as lw
use Rattle.exec_journal.specs.declared.attempt.Attempt.{Attempt}
use Rattle.exec_journal.specs.Entry.{Entry}
use Rattle.exec_journal.specs.declared.call.Call.{Call}
use Rattle.exec_journal.specs.declared.call.Call.TheVariants as call
use Rattle.exec_journal.specs.declared.call.Found.TheVariants as found
use Rattle.exec_journal.specs.declared.reply.Reply.{Reply}
use Rattle.exec_journal.specs.declared.reply.Reply.TheVariants as reply
use Rattle.exec_journal.specs.History.{ever, AtEach}
use Rattle.exec_journal.specs.Entries.{attempt_of, same_attempt, is_for, is_done, starts, fails, launch_in, send_in, gather_in, send_of_entry}
use Rattle.exec_journal.specs.Words.{last_work, launch_of, started, failed, was_sent, wrote, wrote_at, wrote_if}
use Rattle.run_plan.specs.Groups.{kind_of}
use Rattle.exec_journal.specs.Rules.{gathered}
use Rattle.exec_journal.specs.Scripts as sc
use Rattle.exec_journal.specs.Lawful.{Lawful}
use Rattle.exec_journal.specs.Facts.{reply_line, IsOfBerth}
use Rattle.journal_laws.specs.Invariant.{claims_it, claimed}
use Rattle.exec_journal.proofs.Ruled.{by_bool}
use Rattle.exec_journal.proofs.Begins.{same_attempt_eq}
use Rattle.journal_laws.proofs.Owed as o
use Rattle.journal_laws.proofs.Owed.{is_work, is_launch, is_send, is_gather}
use Rattle.journal_laws.proofs.Carried as k
use Rattle.journal_laws.proofs.Requests as q
use Rattle.journal_laws.proofs.Lanes as la
use Rattle.journal_laws.proofs.Lanes.{is_order}

-- ---- the next work of a lane with an order

order_may : (x : Reply) (c : Call) → is_order x ≡ true → sc.may_ask_after c x ≡ true → ⊥
order_may (reply.Launch l a b t) c h y = cc
order_may (reply.Send l n a b t) c h y = cc
order_may (reply.Cancel l n) c h y = cc
order_may (reply.Gather l n a b t e r) c h y = cc
order_may (reply.Kill l w) c h y = cc
order_may _ c h y = cc

order_commits_none : (a : ℕ) (b : Branch) (c : Call) (x : Reply) → is_order x ≡ true
    → sc.is_commit_of a b c x ≡ true → ⊥
order_commits_none a b (call.Claim m n t (found.Files f)) reply.Granted h y = cc
order_commits_none a b _ _ h y = cc

order_owes_none : (d : Entry) (c : Call) → is_order d.reply ≡ true
    → sc.is_owed_commit c (Some d) ≡ true → ⊥
order_owes_none d (call.Committed a b how) h y = order_commits_none a b d.call d.reply h y
order_owes_none d call.Ask h y = cc
order_owes_none d call.Take h y = cc
order_owes_none d call.Halt h y = cc
order_owes_none d call.Tick h y = cc
order_owes_none d (call.Look x) h y = cc
order_owes_none d (call.Launched i how) h y = cc
order_owes_none d (call.Wrote i n how) h y = cc
order_owes_none d (call.Claim a b t f) h y = cc
order_owes_none d (call.Killed i) h y = cc
order_owes_none d (call.Answer i a) h y = cc
order_owes_none d (call.Ended i how) h y = cc

pub either : (a b : Bool) → (b ≡ true → ⊥) → (a || b) ≡ true → a ≡ true
either true b f h = refl
either false b f h = absurd (f h)

owed_by : (p : Plan) (n : Kind) (d : Entry) (c : Call) → is_order d.reply ≡ true → is_work c ≡ true
    → sc.allowed p n true (Some d) c ≡ true → sc.is_owed p n c d.reply ≡ true
owed_by p n d call.Ask h w y = absurd (order_may d.reply d.call h y)
owed_by p n d call.Take h w y = absurd (cc)
owed_by p n d call.Tick h w y = either _ _ (order_owes_none d call.Tick h) y
owed_by p n d call.Halt h w y = absurd (cc)
owed_by p n d (call.Answer i a) h w y = absurd (cc)
owed_by p n d (call.Ended i how) h w y = absurd (cc)
owed_by p n d (call.Look x) h w y = absurd (cc)
owed_by p n d (call.Launched i how) h w y = either _ _ (order_owes_none d (call.Launched i how) h) y
owed_by p n d (call.Wrote i m how) h w y = either _ _ (order_owes_none d (call.Wrote i m how) h) y
owed_by p n d (call.Claim a b t f) h w y = either _ _ (order_owes_none d (call.Claim a b t f) h) y
owed_by p n d (call.Committed a b how) h w y = either _ _
    (order_owes_none d (call.Committed a b how) h) y
owed_by p n d (call.Killed i) h w y = either _ _ (order_owes_none d (call.Killed i) h) y

-- it is the call that the order asks
pub order_next : (p : Plan) (e : Entry) (j : List Entry) (d : Entry) → Lawful p (e ∷ j)
    → last_work j e.lane ≡ Some d → is_order d.reply ≡ true → is_work e.call ≡ true
    → sc.is_owed p kind.Single e.call d.reply ≡ true
order_next p e j d legal at h w =
    let even = la.newest_even p j e.lane d legal.0 at h in
    elim (o.scripts p j e.lane e.call legal.1.scripted) [
      | o.Ticks is proxy ask ↦ absurd (order_may d.reply d.call h (subst
          (λ (x : Option Entry). sc.may_ask x ≡ true) at ask))
      | o.Owes owes ↦ absurd (order_owes_none d e.call h (subst
          (λ (x : Option Entry). sc.is_owed_commit e.call x ≡ true) at owes))
      | o.May may ↦ owed_by p kind.Single d e.call h w
          (subst (λ b. sc.allowed p kind.Single b (Some d) e.call ≡ true) even
          (subst (λ (x : Option Entry). sc.allowed p kind.Single
          (e.lane % 2 == 0) x e.call ≡ true) at may))
    ]

-- ---- what meets an order

-- the order q is an entry of work; what meets it stays, and comes with the next work of its lane
pub record Meets (q : Entry → Bool) (D : List Entry → Bool) (k : List Entry)
    (e : Entry) : Type 0 where
  pub works : q e ≡ true → is_work e.call ≡ true
  pub stays : D k ≡ true → D (e ∷ k) ≡ true
  pub answer : (d : Entry) → last_work k e.lane ≡ Some d → q d ≡ true → is_work e.call ≡ true
      → D (e ∷ k) ≡ true

pub data IsMet (q : Entry → Bool) (D : List Entry → Bool) (j : List Entry) : Type 0 where
  Done : D j ≡ true → IsMet q D j
  Owes : (lane : ℕ) (d : Entry) → last_work j lane ≡ Some d → q d ≡ true → IsMet q D j

pub met : (q : Entry → Bool) (D : List Entry → Bool) (j : List Entry) → AtEach (Meets q D) j
    → ever (λ _ e. q e) j ≡ true → IsMet q D j
met q D [] all h = absurd (cc)
met q D (e ∷ j) all h = by (or_cases (q e) _ h) (λ y. met q D j all.0 y)
  where
    more : IsMet q D j → IsMet q D (e ∷ j)
    more (Done y) = Done (all.1.stays y)
    more (Owes lane d at y) =
        by_bool ((e.lane == lane) && is_work e.call) (λ b. ((e.lane == lane) && is_work e.call) ≡ b
        → IsMet q D (e ∷ j))
        (λ _ own. let parts = and_parts (e.lane == lane) _ own in
        Done (all.1.answer d (subst (λ n. last_work j n ≡ Some d)
        (sym (eqb-true e.lane lane parts.0)) at) y parts.1))
        (λ _ off. Owes lane d (o.newest_other e j lane off ∙ at) y) refl

    by : (q e ≡ true) ⊎ (ever (λ _ x. q x) j ≡ true) → (ever (λ _ x. q x) j ≡ true → IsMet q D j)
        → IsMet q D (e ∷ j)
    by (inl here) ih = Owes e.lane e (o.newest_own e j (all.1.works here)) here
    by (inr before) ih = more (ih before)

-- at each entry of a legal journal
pub each_legal : (p : Plan) (P : List Entry → Entry → Type 0)
    → ((e : Entry) (j : List Entry) → Lawful p (e ∷ j) → P j e) → (j : List Entry) → Lawful p j
    → AtEach P j
each_legal p P f [] legal = tt
each_legal p P f (e ∷ j) legal = (each_legal p P f j legal.0, f e j legal)

-- an order is given to an Ask, which is work
pub order_works : (p : Plan) (e : Entry) (j : List Entry) → Lawful p (e ∷ j)
    → is_order e.reply ≡ true → is_work e.call ≡ true
order_works p e j legal h = rw (la.order_asked p e j legal h) refl

-- ---- a lane that may Ask

pub asks_proxy : (p : Plan) (j : List Entry) (lane : ℕ) → lw.in_script p j lane call.Ask ≡ true
    → ((lane % 2 == 0) ≡ true) × (sc.may_ask (last_work j lane) ≡ true)
asks_proxy p j lane h = elim (o.scripted p j lane call.Ask refl h) [
  | inl owes ↦ absurd (cc)
  | inr may ↦ and_parts (lane % 2 == 0) _ may
]

-- it owes nothing: what its berth was ordered is met
pub asking_met : (p : Plan) (j : List Entry) (lane : ℕ) (q : Entry → Bool) (D : List Entry → Bool)
    → Lawful p j → lw.in_script p j lane call.Ask ≡ true
    → ((d : Entry) → q d ≡ true → is_order d.reply ≡ true)
    → ((n : ℕ) (d : Entry) → last_work j n ≡ Some d → q d ≡ true → n / 2 ≡ lane / 2)
    → IsMet q D j → D j ≡ true
asking_met p j lane q D legal asks order own (Done y) = y
asking_met p j lane q D legal asks order own (Owes n d at y) =
    let may = asks_proxy p j lane asks in
    let same = la.one_proxy n lane (la.newest_even p j n d legal at (order d y)) may.0
    (own n d at y) in
    let mine : last_work j lane ≡ Some d = subst (λ i. last_work j i ≡ Some d) same at in
    absurd (order_may d.reply d.call (order d y) (subst
    (λ (x : Option Entry). sc.may_ask x ≡ true) mine may.1))

-- ---- a Launch is met by its line's Launched

launch_order : (l : ℕ) (x : Reply) → o.launches_line l x ≡ true
    → (reply_line x ≡ Some l) × (is_order x ≡ true)
launch_order l (reply.Launch m a b t) h = (ap Some (eqb-true m l h), refl)
launch_order l _ h = absurd (cc)

abbrev pub reported : ℕ → List Entry → Bool
reported l j = started j l || failed j l

launched_by : (p : Plan) (n : Kind) (l : ℕ) (c : Call) (x : Reply) → o.launches_line l x ≡ true
    → is_work c ≡ true → sc.is_owed p n c x ≡ true → (starts l c || fails l c) ≡ true
launched_by p n l (call.Launched i how) (reply.Launch m a b t) h w y =
    let same : (i == l) ≡ true = eq-eqb i l (sym (eqb-true m i y) ∙ eqb-true m l h) in
    rw same (by (is_done how))
  where
    by : (b : Bool) → ((b && true) || (not b && true)) ≡ true
    by true = refl
    by false = refl
launched_by p n l (call.Look z) (reply.Launch m a b t) h w y = absurd (cc)
launched_by p n l c (reply.Launch m a b t) h w y = absurd (cc)
launched_by p n l c _ h w y = absurd (cc)

reported_here : (e : Entry) (j : List Entry) (l : ℕ) → (starts l e.call || fails l e.call) ≡ true
    → reported l (e ∷ j) ≡ true
unfolding started failed
reported_here e j l h = elim (or_cases (starts l e.call) _ h) [
  | inl a ↦ or_left _ _
      (or_left (starts l e.call) _ a)
  | inr b ↦ or_right (started (e ∷ j) l) _
      (or_left (fails l e.call) _ b)
]

reported_later : (e : Entry) (j : List Entry) (l : ℕ) → reported l j ≡ true
    → reported l (e ∷ j) ≡ true
unfolding started failed
reported_later e j l h = elim (or_cases (started j l) _ h) [
  | inl a ↦ or_left _ _
      (or_right (starts l e.call) _ a)
  | inr b ↦ or_right (started (e ∷ j) l) _
      (or_right (fails l e.call) _ b)
]

launch_meets : (p : Plan) (l : ℕ) (e : Entry) (j : List Entry) → Lawful p (e ∷ j)
    → Meets (is_launch l) (reported l) j e
launch_meets p l e j legal = record {
  works = λ h. order_works p e j legal (launch_order l e.reply h).1;
  stays = λ h. reported_later e j l h;
  answer = λ d at h w. reported_here e j l (launched_by p
      kind.Single l e.call d.reply h w (order_next p e j d legal at
      (launch_order l d.reply h).1 w));
}

launched_line : (l : ℕ) (s : Attempt) (x : Reply) → launch_in x ≡ Some (l, s)
    → o.launches_line l x ≡ true
launched_line l s (reply.Launch m a b t) h = (let e : (m, attempt_of a b t) ≡ (l, s) = cc in
    eq-eqb m l (ap (λ (z : ℕ × Attempt). z.0) e))
launched_line l s _ h = absurd (cc)

launch_ever : (p : Plan) (j : List Entry) (l m : ℕ) (t : Attempt) → launch_of j l ≡ Some (m, t)
    → ever (λ _ e. is_launch l e) j ≡ true
unfolding launch_of
launch_ever p [] l m t h = absurd (cc)
launch_ever p (e ∷ j) l m t h = by (q.launch_cases p e j l m t h) (λ y. launch_ever p j l m t y)
  where
    by : q.Launches p e j l m t → (launch_of j l ≡ Some (m, t)
        → ever (λ _ d. is_launch l d) j ≡ true) → ever (λ _ d. is_launch l d) (e ∷ j) ≡ true
    by (q.Now is lane) ih = or_left (is_launch l e) _ (launched_line l t e.reply is)
    by (q.Before at) ih = or_right (is_launch l e) _ (ih at)

-- a line that was launched was reported, or its lane owes that
pub launch_met : (p : Plan) (j : List Entry) (l m : ℕ) (t : Attempt) → Lawful p j
    → launch_of j l ≡ Some (m, t) → IsMet (is_launch l) (reported l) j
launch_met p j l m t legal h = met (is_launch l) (reported l) j
    (each_legal p _ (λ e k y. launch_meets p l e k y) j legal) (launch_ever p j l m t h)

-- where a lane may Ask, the lines of its berth were reported
pub asking_reported : (p : Plan) (j : List Entry) (lane l : ℕ) → Lawful p j
    → lw.in_script p j lane call.Ask ≡ true → IsOfBerth j l (lane / 2) → reported l j ≡ true
asking_reported p j lane l legal asks own =
    asking_met p j lane (is_launch l) (reported l) legal asks (λ d y. (launch_order l d.reply y).1)
    (λ n d at y. la.berths_same j l (n / 2) (lane / 2)
    (la.newest_own_line p j n l d legal at (launch_order l d.reply y).0) own)
    (launch_met p j l own.owner.0 own.owner.1 legal own.owner.2)

-- ---- a Send is met by its request's Wrote

pub send_order : (t : Attempt) (x : Reply) → is_for t (option_map (λ y. y.attempt) (send_in x))
    ≡ true → is_order x ≡ true
send_order t (reply.Send l n a b m) h = refl
send_order t _ h = absurd (cc)

abbrev pub is_written : Attempt → List Entry → Bool
is_written t j = is_some (wrote j t)

written_by : (p : Plan) (n : Kind) (t : Attempt) (c : Call) (x : Reply)
    → is_for t (option_map (λ y. y.attempt) (send_in x)) ≡ true → is_work c ≡ true
    → sc.is_owed p n c x ≡ true → is_some (wrote_if t c (send_in x)) ≡ true
written_by p n t (call.Wrote i m how) (reply.Send l z a b u) h w y = rw h refl
written_by p n t (call.Look v) (reply.Send l z a b u) h w y = absurd (cc)
written_by p n t c (reply.Send l z a b u) h w y = absurd (cc)
written_by p n t c _ h w y = absurd (cc)

written_here : (e : Entry) (j : List Entry) (t : Attempt) → is_some (wrote_at t j e) ≡ true
    → is_written t (e ∷ j) ≡ true
unfolding wrote
written_here e j t h = k.some_new_cause (wrote_at t j e) (wrote j t) h

written_later : (e : Entry) (j : List Entry) (t : Attempt) → is_written t j ≡ true
    → is_written t (e ∷ j) ≡ true
unfolding wrote
written_later e j t h = k.some_later_cause (wrote_at t j e) (wrote j t) h

send_meets : (p : Plan) (t : Attempt) (e : Entry) (j : List Entry) → Lawful p (e ∷ j)
    → Meets (is_send t) (is_written t) j e
send_meets p t e j legal = record {
  works = λ h. order_works p e j legal (send_order t e.reply h);
  stays = λ h. written_later e j t h;
  answer = λ d at h w. written_here e j t (subst (λ (x : Option Entry). is_some
      (wrote_if t e.call (send_of_entry x)) ≡ true) (sym at)
      (written_by p kind.Single t e.call d.reply h w
      (order_next p e j d legal at (send_order t d.reply h) w)));
}

-- a request that was sent has its Wrote, or its lane owes that
pub send_met : (p : Plan) (j : List Entry) (t : Attempt) → Lawful p j → was_sent j t ≡ true
    → IsMet (is_send t) (is_written t) j
unfolding was_sent
send_met p j t legal h = met (is_send t) (is_written t) j
    (each_legal p _ (λ e i y. send_meets p t e i y) j legal) h

-- ---- a Gather is met by its Claim

gather_order : (t : Attempt) (x : Reply) → is_for t (gather_in x) ≡ true → is_order x ≡ true
gather_order t (reply.Gather l n a b m e r) h = refl
gather_order t _ h = absurd (cc)

claimed_by : (p : Plan) (n : Kind) (t : Attempt) (c : Call) (x : Reply)
    → is_for t (gather_in x) ≡ true → is_work c ≡ true → sc.is_owed p n c x ≡ true
    → claims_it t c ≡ true
claimed_by p n t (call.Claim a b m f) (reply.Gather l z d g u e r) h w y =
    let same = same_attempt_eq (attempt_of a b m) (attempt_of d g u)
    (and_parts (same_attempt (attempt_of a b m) (attempt_of d g u)) _ y).0 in
    subst (λ (i : Attempt). same_attempt i t ≡ true) (sym same) h
claimed_by p n t (call.Look v) (reply.Gather l z d g u e r) h w y = absurd (cc)
claimed_by p n t c (reply.Gather l z d g u e r) h w y = absurd (cc)
claimed_by p n t c _ h w y = absurd (cc)

claimed_here : (e : Entry) (j : List Entry) (t : Attempt) → claims_it t e.call ≡ true
    → claimed (e ∷ j) t ≡ true
unfolding claimed
claimed_here e j t h = or_left (claims_it t e.call) _ h

claimed_later : (e : Entry) (j : List Entry) (t : Attempt) → claimed j t ≡ true
    → claimed (e ∷ j) t ≡ true
unfolding claimed
claimed_later e j t h = or_right (claims_it t e.call) _ h

gather_meets : (p : Plan) (t : Attempt) (e : Entry) (j : List Entry) → Lawful p (e ∷ j)
    → Meets (is_gather t) (λ k. claimed k t) j e
gather_meets p t e j legal = record {
  works = λ h. order_works p e j legal (gather_order t e.reply h);
  stays = λ h. claimed_later e j t h;
  answer = λ d at h w. claimed_here e j t (claimed_by p
      kind.Single t e.call d.reply h w (order_next p e j d legal at
      (gather_order t d.reply h) w));
}

-- an attempt that was gathered was claimed, or its lane owes that
pub gather_met : (p : Plan) (j : List Entry) (t : Attempt) → Lawful p j → gathered j t ≡ true
    → IsMet (is_gather t) (λ k. claimed k t) j
unfolding gathered
gather_met p j t legal h = met (is_gather t) (λ k. claimed k t) j
    (each_legal p _ (λ e i y. gather_meets p t e i y) j legal) h
