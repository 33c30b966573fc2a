-- What is spoken at each berth, where the parts are those of a list.
use Rattle.std.proofs.Common.{◌≡◌, ℕ, zero, suc, ◌+◌, ◌<◌, Bool, true, false, cond, List, [], ◌∷◌, length, Option, Some, None, refl, sym, subst, arith}
use Rattle.std.specs.Prelude.{◌↔◌, slice_get}
use Rattle.run_plan.specs.declared.plan.Group.{Group}
use Rattle.run_plan.specs.declared.plan.Kind.{Kind}
use Rattle.run_plan.specs.declared.plan.Kind.TheVariants as kind
use Rattle.run_plan.specs.declared.plan.PlanAction.{PlanAction}
use Rattle.run_plan.specs.declared.plan.Speech.{Speech}
use Rattle.run_plan.specs.declared.plan.Speech.TheVariants as speech
use Rattle.run_plan.specs.Groups.{is_remote}
use Rattle.action_list.specs.declared.parts.GroupPart.{GroupPart}
use Rattle.list_actions.specs.declared.types.ListAction.{ListAction}
use Rattle.action_list.specs.Parts.{executor_part, user_part, user_of, part_of, parts_from, parts_of}
use Rattle.run_values.specs.Settings.{speaks_remote}
use Rattle.run_tasks.specs.Setup.{speeches_for}
use Rattle.run_tasks.specs.Laws.{PartsLaw, SpeechLaw}
use Rattle.run_tasks.proofs.AtBerths.{seated, speeches_law}

-- ---- one group

worker_speech : (json : Bool) → cond json speech.Json speech.Proto ≡ speech.Remote → ⊥
worker_speech true e = cc
worker_speech false e = cc

user_speech : (extra : List (List ℕ)) (o : Option ListAction)
    → (user_part extra o).speech ≡ speech.Remote → ⊥
user_speech extra None e = cc
user_speech extra (Some x) e = worker_speech x.needs.json e

kind_speech : (executor : List ℕ) (extra : List (List ℕ)) (k : Kind) (o : Option ListAction)
    → ((cond (is_remote k) (executor_part executor) (user_part extra o)).speech ≡ speech.Remote)
    ↔ (k ≡ kind.Remote)
kind_speech executor extra kind.Remote o = ((λ _. refl), (λ _. refl))
kind_speech executor extra kind.Single o = (λ e. absurd (user_speech extra o e), λ e. absurd (cc))
kind_speech executor extra kind.Multi o = (λ e. absurd (user_speech extra o e), λ e. absurd (cc))
kind_speech executor extra kind.Boxed o = (λ e. absurd (user_speech extra o e), λ e. absurd (cc))

-- ---- all groups

-- the speech is the executor's exactly where the kind is
abbrev pub Speaks : Speech → Kind → Type 0
Speaks s k = (s ≡ speech.Remote) ↔ (k ≡ kind.Remote)

module _ (xs : List ListAction) (ys : List PlanAction) (extra : List (List ℕ))
    (executor : List ℕ) where
  parts_are : (number : ℕ) (gs : List Group)
      → length (parts_from xs ys extra executor number gs) ≡ length gs
  parts_are number [] = refl
  parts_are number (g ∷ gs) = let rest = parts_are (number + 1) gs in omega (arith, rest)

  -- of each group
  pub part_speaks : (number : ℕ) (gs : List Group) (i : ℕ) (g : Group) (part : GroupPart)
      → slice_get gs i ≡ Some g
      → slice_get (parts_from xs ys extra executor number gs) i ≡ Some part
      → Speaks part.speech g.kind
  part_speaks number [] i g part at is = absurd (cc)
  part_speaks number (x ∷ gs) zero g part at is =
      let own : GroupPart = part_of x (user_of xs ys number) extra executor in
      let same : x ≡ g = cc in
      let here : own ≡ part = cc in
      subst (λ (p : GroupPart). Speaks p.speech g.kind) here
      (subst (λ (y : Group). Speaks own.speech y.kind) same
      (kind_speech executor extra x.kind (user_of xs ys number)))
  part_speaks number (x ∷ gs) (suc i) g part at is = part_speaks (number + 1) gs i g part at is

pub parts_law : PartsLaw
parts_law xs plan extra executor = parts_are xs plan.actions extra executor 0 plan.groups

within : {X : Type 0} (xs : List X) (i : ℕ) (x : X) → slice_get xs i ≡ Some x → i < length xs
within [] i x e = absurd (cc)
within (y ∷ ys) zero x e = omega arith
within (y ∷ ys) (suc i) x e = let lt = within ys i x e in omega (arith, lt)

pub speech_law : SpeechLaw
speech_law xs plan extra executor w spoken e =
    let parts = parts_of xs plan extra executor in
    let many = parts_law xs plan extra executor in
    let all = (speeches_law plan parts many).0 in
    let lt = within (speeches_for plan parts) w spoken e in
    let at = seated plan parts w many (omega (arith, all, lt)) in
    let same : at.part.speech ≡ spoken = let is = at.spoken in cc in
    let speaks = part_speaks xs plan.actions extra executor 0 plan.groups at.index at.group at.part
    at.group_here at.part_here in
    subst (λ (k : Kind). Speaks spoken k) (sym at.kind)
    (subst (λ (s : Speech). Speaks s at.group.kind) same speaks)

-- ---- the tests of both

pub same_test : (s : Speech) (k : Kind) → Speaks s k → speaks_remote s ≡ is_remote k
same_test speech.Remote kind.Remote both = refl
same_test speech.Remote kind.Single both = let e = both.0 refl in absurd (cc)
same_test speech.Remote kind.Multi both = let e = both.0 refl in absurd (cc)
same_test speech.Remote kind.Boxed both = let e = both.0 refl in absurd (cc)
same_test speech.Proto kind.Remote both = let e = both.1 refl in absurd (cc)
same_test speech.Json kind.Remote both = let e = both.1 refl in absurd (cc)
same_test speech.Proto kind.Single both = refl
same_test speech.Proto kind.Multi both = refl
same_test speech.Proto kind.Boxed both = refl
same_test speech.Json kind.Single both = refl
same_test speech.Json kind.Multi both = refl
same_test speech.Json kind.Boxed both = refl
