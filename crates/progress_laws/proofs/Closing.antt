-- How an attempt that was sent is closed: its Wrote says a fault, it was claimed, or it was matched
-- and waits.
use Rattle.std.proofs.Common.{◌≡◌, ℕ, ◌/◌, true, List, [], ◌∷◌, Option, Some, None, is_some, ◌⊎◌, inl, inr, refl, sym, ap, subst, ◌∙◌}
use Rattle.std.proofs.lemmas.Bool.{eq-eqb, or_cases, or_right}
use Rattle.run_plan.specs.declared.plan.Branch.{Branch}
use Rattle.run_plan.specs.declared.plan.Plan.{Plan}
use Rattle.exec_journal.specs.declared.attempt.Attempt.{Attempt}
use Rattle.exec_journal.specs.declared.call.Call.{Call}
use Rattle.exec_journal.specs.declared.call.Call.TheVariants as call
use Rattle.exec_journal.specs.declared.call.Found.{Found}
use Rattle.exec_journal.specs.declared.reply.Reply.{Reply}
use Rattle.exec_journal.specs.Entry.{Entry}
use Rattle.exec_journal.specs.Entries.{attempt_of, same_attempt, is_for, consumed_in, matched_in, granted_in, refused_in}
use Rattle.exec_journal.specs.Attempts.{ended}
use Rattle.exec_journal.specs.Lawful.{Lawful}
use Rattle.exec_journal.specs.Rules as r
use Rattle.exec_journal.specs.Words.{answered, granted, grant_of}
use Rattle.exec_journal.proofs.Ruled.{is_noted}
use Rattle.exec_journal.proofs.Histories.{AtSome}
use Rattle.exec_journal.proofs.Begins.{same_attempt_eq, same_attempt_refl}
use Rattle.exec_journal.proofs.Quiet.{ended_stays}
use Rattle.exec_journal.proofs.Reasons as u
use Rattle.journal_laws.specs.Invariant.{claims_it, claimed}
use Rattle.journal_laws.proofs.Carried as k
use Rattle.journal_laws.proofs.Exactly as ex
use Rattle.journal_laws.proofs.Firm as f
use Rattle.journal_laws.proofs.Over as v
use Rattle.call_laws.proofs.Spent as sp

-- ---- what was claimed

won_here : (e : Entry) (j : List Entry) (y : Attempt × Found) → granted_in e.call e.reply ≡ Some y
    → granted (e ∷ j) y.0.action ≡ true
unfolding granted grant_of
won_here e j y h =
    k.some_new_cause _ (grant_of j y.0.action) (rw (h, eq-eqb y.0.action y.0.action refl) refl)

other_granted : (j : List Entry) (a : ℕ) (b : Branch) → r.is_other b (grant_of j a) ≡ true
    → granted j a ≡ true
unfolding granted
other_granted j a b h = by (grant_of j a) h
  where
    by : (o : Option (Attempt × Found)) → r.is_other b o ≡ true → is_some o ≡ true
    by (Some x) y = refl
    by None y = absurd (cc)

unnoted : (t : Attempt) (d : Call) → is_noted d ≡ true → claims_it t d ≡ true → ⊥
unnoted t (call.Claim a b n w) h k1 = cc
unnoted t _ h k1 = cc

-- an attempt that was claimed has ended, or its action has a grant
pub claimed_closes : (p : Plan) (j : List Entry) (t : Attempt) → Lawful p j → claimed j t ≡ true
    → (granted j t.action ≡ true) ⊎ (ended j t ≡ true)
unfolding claimed
claimed_closes p [] t legal h = absurd (cc)
claimed_closes p (e ∷ j) t legal h = elim (or_cases (claims_it t e.call) (claimed j t) h) [
  | inl here ↦ now e.call e.reply refl refl here (v.entry_ruled p e j legal)
  | inr before ↦ elim (claimed_closes p j t legal.0 before) [
    | inl won ↦ inl (f.granted_stays e j t.action won)
    | inr over ↦ inr (ended_stays e j t over)
  ]
]
  where
    refused : (y : Attempt × Found) → refused_in e.call e.reply ≡ Some y → y.0 ≡ t
        → ended (e ∷ j) t ≡ true
    refused y h same =
        ex.refused_ends p e j y legal h t ∙ or_right (ended j t) _
        (subst (λ (s : Attempt). same_attempt s t ≡ true) (sym same) (same_attempt_refl t))

    now : (d : Call) (x : Reply) → e.call ≡ d → e.reply ≡ x → claims_it t d ≡ true
        → u.Ruled p j e.lane d x → (granted (e ∷ j) t.action ≡ true) ⊎ (ended (e ∷ j) t ≡ true)
    now d x ed ex h (u.Loses a b n w other) =
        let same : attempt_of a b n ≡ t = same_attempt_eq (attempt_of a b n) t h in
        inl (f.granted_stays e j t.action (subst (λ (s : Attempt). granted j s.action ≡ true) same
        (other_granted j a b other)))
    now d x ed ex h (u.Grants a b n w other win) =
        let same : attempt_of a b n ≡ t = same_attempt_eq (attempt_of a b n) t h in
        let y : granted_in e.call e.reply ≡ Some (attempt_of a b n, w) = rw (ed, ex) refl in
        inl (subst (λ (s : Attempt). granted (e ∷ j) s.action ≡ true) same
        (won_here e j (attempt_of a b n, w) y))
    now d x ed ex h (u.Defers a b n w other win low) =
        let y : refused_in e.call e.reply ≡ Some (attempt_of a b n, w) = rw (ed, ex) refl in
        inr (refused (attempt_of a b n, w) y (same_attempt_eq (attempt_of a b n) t h))
    now d x ed ex h (u.Drops a b n w other win low) =
        let y : refused_in e.call e.reply ≡ Some (attempt_of a b n, w) = rw (ed, ex) refl in
        inr (refused (attempt_of a b n, w) y (same_attempt_eq (attempt_of a b n) t h))
    now d x ed ex h (u.Notes z n) = absurd (unnoted t z n h)
    now d x ed ex h _ = absurd (cc)

-- ---- what was answered

-- a match of the attempt stands there, made by a lane of this berth
abbrev pub HasMatch : List Entry → ℕ → Attempt → Type 0
HasMatch j w t = AtSome (λ _ e. (e.lane / 2 ≡ w) × (matched_in e.reply ≡ Some t)) j

pub record IsOffered (j : List Entry) (t : Attempt) : Type 0 where
  pub berth : ℕ
  pub is : sp.IsMatchOf j berth t
  pub stands : HasMatch j berth t

-- an attempt that was answered was matched, or its action has a grant
pub answered_closes : (p : Plan) (j : List Entry) (t : Attempt) → Lawful p j → answered j t ≡ true
    → (granted j t.action ≡ true) ⊎ IsOffered j t
unfolding answered
answered_closes p [] t legal h = absurd (cc)
answered_closes p (e ∷ j) t legal h =
    elim (or_cases (is_for t (consumed_in e.reply)) (answered j t) h) [
      | inl here ↦ now e.call e.reply refl refl here (v.entry_ruled p e j legal)
      | inr before ↦ elim (answered_closes p j t legal.0 before) [
        | inl won ↦ inl (f.granted_stays e j t.action won)
        | inr m ↦ inr (record {
          berth = m.berth;
          is = sp.match_later p e j m.berth t legal m.is;
          stands = inr m.stands;
        })
      ]
    ]
  where
    now : (d : Call) (x : Reply) → e.call ≡ d → e.reply ≡ x → is_for t (consumed_in x) ≡ true
        → u.Ruled p j e.lane d x → (granted (e ∷ j) t.action ≡ true) ⊎ IsOffered (e ∷ j) t
    now d x ed ex h (u.IsLate l a q is won) =
        let same : q.attempt ≡ t = same_attempt_eq q.attempt t h in
        inl (f.granted_stays e j t.action (ap (λ (s : Attempt). granted j s.action) (sym same)
        ∙ won))
    now d x ed ex h (u.IsMatched l a q is free) =
        let same : q.attempt ≡ t = same_attempt_eq q.attempt t h in
        let m : matched_in e.reply ≡ Some t = ap matched_in ex ∙ ap Some same in
        inr (record {
          berth = e.lane / 2;
          is = sp.match_now p e j t legal m;
          stands = inl
              (refl, m);
        })
    now d x ed ex h (u.KillsBroken l y here run broken over) = absurd (cc)
    now d x ed ex h (u.Notes z n) = absurd (cc)
    now d x ed ex h _ = absurd (cc)

-- it is offered to be gathered, where it waits after the journal i
pub offered : (p : Plan) (e : Entry) (j : List Entry) (t : Attempt) → Lawful p (e ∷ j)
    → (i : List Entry) → r.waits i t ≡ true → matched_in e.reply ≡ Some t
    → is_some (r.gather_for i e.call e.reply) ≡ true
offered p e j t legal i ready m = by e.call e.reply m (v.entry_ruled p e j legal)
  where
    by : (d : Call) (x : Reply) → matched_in x ≡ Some t → u.Ruled p j e.lane d x
        → is_some (r.gather_for i d x) ≡ true
    by d x h (u.IsMatched l a q is free) =
        let same : q.attempt ≡ t = cc in
        let now : r.waits i q.attempt ≡ true = subst (λ (s : Attempt). r.waits i s ≡ true)
        (sym same) ready in
        rw now refl
    by d x h (u.KillsBroken l y here run broken over) = absurd (cc)
    by d x h (u.Notes z n) = absurd (cc)
    by d x h _ = absurd (cc)
