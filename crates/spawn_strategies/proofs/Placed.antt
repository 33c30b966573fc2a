-- The actions of a plan, placed by their names.
use Rattle.std.proofs.Common.{◌≡◌, ℕ, zero, suc, ◌<◌, Bool, false, ltb, List, [], ◌∷◌, length, take, set, get_or, Option, option_map, slice_get, unwrap_or, refl, ap, ◌∙◌, arith}
use Rattle.std.specs.Prelude.{◌&&◌}
use Rattle.std.specs.List.{list_all}
use Rattle.run_plan.specs.declared.plan.Maker.{Maker}
use Rattle.run_plan.specs.declared.plan.PlanAction.{PlanAction}
use Rattle.run_plan.specs.Sound.{is_earlier}
use Rattle.spawn_strategies.specs.declared.types.Name.{Name}
use Rattle.spawn_strategies.specs.declared.types.Name.TheVariants as name
use Rattle.spawn_strategies.specs.Choices.{all_placed, placed}

module _ (sandbox executor : ℕ) where
  -- one more of them is placed
  pub placed_more : (ns : List Name) (ys : List PlanAction) (i : ℕ) (n m : Name) (d : PlanAction) → i < length ns → i < length ys → n ≡ get_or ns i m
      → set (all_placed sandbox executor (take i ns) ys) i (placed sandbox executor n (get_or (all_placed sandbox executor (take i ns) ys) i d))
      ≡ all_placed sandbox executor (take (suc i) ns) ys
  placed_more [] ys i n m d below within is = absurd (omega (arith, below))
  placed_more (k ∷ ns) [] i n m d below within is = absurd (omega (arith, within))
  placed_more (k ∷ ns) (y ∷ ys) zero n m d below within is = ap (λ j. placed sandbox executor j y ∷ ys) is
  placed_more (k ∷ ns) (y ∷ ys) (suc i) n m d below within is =
      ap (λ zs. placed sandbox executor k y ∷ zs) (placed_more ns ys i n m d (omega arith) (omega arith) is)

  pub length-all_placed : (ns : List Name) (ys : List PlanAction) → length (all_placed sandbox executor ns ys) ≡ length ys
  length-all_placed [] ys = refl
  length-all_placed (n ∷ ns) [] = refl
  length-all_placed (n ∷ ns) (y ∷ ys) = ap suc (length-all_placed ns ys)

  pub outputs_kept : (n : Name) (y : PlanAction) → (placed sandbox executor n y).outputs ≡ y.outputs
  outputs_kept name.Worker y = refl
  outputs_kept name.Sandboxed y = refl
  outputs_kept name.Remote y = refl
  outputs_kept name.Dynamic y = refl

  pub makers_kept : (n : Name) (y : PlanAction) → (placed sandbox executor n y).makers ≡ y.makers
  makers_kept name.Worker y = refl
  makers_kept name.Sandboxed y = refl
  makers_kept name.Remote y = refl
  makers_kept name.Dynamic y = refl

  abbrev has_output : ℕ → Option PlanAction → Bool
  has_output o y = unwrap_or (option_map (λ x. ltb o (length x.outputs)) y) false

  output_there : (o i : ℕ) (ns : List Name) (ys : List PlanAction)
      → has_output o (slice_get (all_placed sandbox executor ns ys) i) ≡ has_output o (slice_get ys i)
  output_there o i [] ys = refl
  output_there o i (n ∷ ns) [] = refl
  output_there o zero (n ∷ ns) (y ∷ ys) = ap (λ us. ltb o (length us)) (outputs_kept n y)
  output_there o (suc i) (n ∷ ns) (y ∷ ys) = output_there o i ns ys

  -- placing moves no maker
  pub all_earlier : (ns : List Name) (ys : List PlanAction) (a : ℕ) (ms : List Maker)
      → list_all (is_earlier (all_placed sandbox executor ns ys) a) ms ≡ list_all (is_earlier ys a) ms
  all_earlier ns ys a [] = refl
  all_earlier ns ys a (m ∷ ms) =
      ap (λ b. (ltb m.action a && b) && list_all (is_earlier (all_placed sandbox executor ns ys) a) ms) (output_there m.output m.action ns ys)
      ∙ ap (λ b. is_earlier ys a m && b) (all_earlier ns ys a ms)
