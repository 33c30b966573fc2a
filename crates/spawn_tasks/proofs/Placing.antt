-- The group of the sandboxed actions is one of kind Remote, so that its part fits.
use Rattle.std.proofs.Common.{◌≡◌, ℕ, zero, suc, ◌<◌, true, false, cond, List, [], ◌∷◌, length, set, Option, Some, None, position, slice_get, refl, sym, ap, subst, ◌∙◌, arith, ◌⊎◌, inl, inr}
use Rattle.std.proofs.lemmas.List.{length-set}
use Rattle.std.proofs.lemmas.List.Quantifiers.{position-Some}
use Rattle.std.proofs.lemmas.Option.{get_or_from_slice_get}
use Rattle.std.specs.List.{list_any}
use Rattle.action_list.specs.declared.parts.GroupPart.{GroupPart}
use Rattle.action_list.specs.Parts.{executor_part, parts_of}
use Rattle.list_actions.specs.declared.types.ListAction.{ListAction}
use Rattle.plain_values.specs.declared.command.Command.{Command}
use Rattle.run_plan.specs.declared.plan.Group.{Group}
use Rattle.run_plan.specs.declared.plan.Kind.{Kind}
use Rattle.run_plan.specs.declared.plan.Kind.TheVariants as kind
use Rattle.run_plan.specs.declared.plan.Plan.{Plan}
use Rattle.run_plan.specs.declared.plan.Speech.{Speech}
use Rattle.run_plan.specs.Groups.{is_remote, kind_of}
use Rattle.run_tasks.specs.Setup.{commands_for, speeches_for}
use Rattle.run_tasks.specs.Tasks.{SpeechesFit}
use Rattle.run_tasks.proofs.AtBerths.{commands_law, seated, speeches_law}
use Rattle.run_tasks.proofs.Fits.{Fit}
use Rattle.run_tasks.proofs.Spoken.{Speaks, part_speaks, parts_law, same_test}
use Rattle.spawn_strategies.specs.declared.types.Name.{Name}
use Rattle.spawn_strategies.specs.declared.types.SpawnOptions.{SpawnOptions}
use Rattle.spawn_strategies.specs.Choices.{chosen_names, is_sandboxed}
use Rattle.spawn_tasks.specs.Tasks.{parts_by, sandbox_group, with_sandbox}

-- ---- parts that fit their groups

-- There is a part for each group, and it speaks as executors do exactly where its group is one.
pub record AreParts (groups : List Group) (parts : List GroupPart) : Type 0 where
  pub as_many : length parts ≡ length groups
  pub fit : (i : ℕ) (g : Group) (part : GroupPart) → slice_get groups i ≡ Some g
      → slice_get parts i ≡ Some part → Speaks part.speech g.kind

within : {X : Type 0} (xs : List X) (i : ℕ) (x : X) → slice_get xs i ≡ Some x → i < length xs
within [] i x e = absurd (cc)
within (y ∷ ys) zero x e = omega arith
within (y ∷ ys) (suc i) x e = let lt = within ys i x e in omega (arith, lt)

module _ (plan : Plan) (parts : List GroupPart) (are : AreParts plan.groups parts) where
  spoken : SpeechesFit plan (speeches_for plan parts)
  spoken w s e =
      let all = (speeches_law plan parts are.as_many).0 in
      let lt = within (speeches_for plan parts) w s e in
      let at = seated plan parts w are.as_many (omega (arith, all, lt)) in
      let same : at.part.speech ≡ s = let is = at.spoken in cc in
      let speaks = are.fit at.index at.group at.part at.group_here at.part_here in
      same_test s (kind_of plan w)
      (subst (λ (k : Kind). Speaks s k) (sym at.kind)
      (subst (λ (t : Speech). Speaks t at.group.kind) same speaks))

  by_parts : Fit plan (commands_for parts) (speeches_for plan parts)
  by_parts = record {
    commanded = (commands_law plan parts are.as_many).0;
    as_many = (speeches_law plan parts are.as_many).0;
    fit = spoken;
  }

  pub fits : (commands : List Command) (speeches : List Speech) → commands ≡ commands_for parts
      → speeches ≡ speeches_for plan parts → Fit plan commands speeches
  fits commands speeches commanded said =
      subst (λ (cs : List Command). Fit plan cs speeches) (sym commanded)
      (subst (λ (ss : List Speech). Fit plan (commands_for parts) ss) (sym said) by_parts)

-- ---- the part of the sandboxed actions

-- where it stands after one of them was replaced
replaced : {X : Type 0} (xs : List X) (k i : ℕ) (y x : X) → slice_get (set xs k y) i ≡ Some x
    → ((i ≡ k) × (y ≡ x)) ⊎ (slice_get xs i ≡ Some x)
replaced [] k i y x e = absurd (cc)
replaced (z ∷ xs) zero zero y x e = inl (refl, let same : y ≡ x = cc in same)
replaced (z ∷ xs) zero (suc i) y x e = inr e
replaced (z ∷ xs) (suc k) zero y x e = inr e
replaced (z ∷ xs) (suc k) (suc i) y x e =
    elim (replaced xs k i y x e) as (λ _. ((suc i ≡ suc k) × (y ≡ x)) ⊎ (slice_get xs i ≡ Some x)) [
      | inl both ↦ inl (ap suc both.0, both.1)
      | inr there ↦ inr there
    ]

executor_speaks : (executor : List ℕ) (g : Group) → is_remote g.kind ≡ true
    → Speaks (executor_part executor).speech g.kind
executor_speaks executor g is = by g.kind is
  where
    by : (k : Kind) → is_remote k ≡ true → Speaks (executor_part executor).speech k
    by kind.Remote is = ((λ _. refl), (λ _. refl))
    by kind.Single is = absurd (cc)
    by kind.Multi is = absurd (cc)
    by kind.Boxed is = absurd (cc)

module _ (groups : List Group) (executor : List ℕ) (parts : List GroupPart)
    (are : AreParts groups parts) where
  put : (k : ℕ) → position (λ (g : Group). is_remote g.kind) groups ≡ Some k
      → AreParts groups (set parts k (executor_part executor))
  put k at = record {
    as_many = length-set parts k (executor_part executor) ∙ are.as_many;
    fit = λ i g part here e.
        elim (replaced parts k i (executor_part executor) part e)
        as (λ _. Speaks part.speech g.kind) [
          | inl both ↦ (let first = position-Some (λ (h : Group). is_remote h.kind) groups k g at in
              let at_k = ap (slice_get groups) (sym both.0) ∙ here in
              let own = get_or_from_slice_get groups k g g at_k in
              subst (λ (p : GroupPart). Speaks p.speech g.kind) both.1
              (executor_speaks executor g
              (ap (λ (h : Group). is_remote h.kind) (sym own) ∙ first.1)))
          | inr there ↦ are.fit i g part here there
        ];
  }

  by_position : (o : Option ℕ) → position (λ (g : Group). is_remote g.kind) groups ≡ o
      → AreParts groups (with_sandbox o executor parts)
  by_position None at = are
  by_position (Some k) at = put k at

  pub with_own : (ns : List Name)
      → AreParts groups (with_sandbox (sandbox_group groups ns) executor parts)
  with_own ns =
      elim (list_any is_sandboxed ns)
      as (λ b. AreParts groups (with_sandbox
      (cond b (position (λ g. is_remote g.kind) groups) None) executor parts))
      [ true ↦ by_position _ refl | false ↦ are ]

pub are_parts : (o : SpawnOptions) (xs : List ListAction) (p : Plan)
    → AreParts p.groups (parts_by o xs p)
are_parts o xs p =
    with_own p.groups o.sandbox_executor (parts_of xs p o.options.extra o.options.executor)
    (record {
      as_many = parts_law xs p o.options.extra o.options.executor;
      fit = λ i g part here e.
          part_speaks xs p.actions o.options.extra o.options.executor 0 p.groups i g part here e;
    })
    (chosen_names o.strategies xs)
