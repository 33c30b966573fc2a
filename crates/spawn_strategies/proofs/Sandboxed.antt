-- No action is sandboxed where no list of names has `sandboxed`.
use Rattle.std.proofs.Common.{◌≡◌, ◌≤◌, ℕ, Bool, true, false, cond, ◌||◌, List, [], ◌∷◌, min, find, Some, refl, ap, arith}
use Rattle.std.specs.Prelude.{count_by}
use Rattle.std.specs.List.{list_any}
use Rattle.std.proofs.lemmas.List.Sums.{sum_by-cons}
use Rattle.list_actions.specs.declared.types.ListAction.{ListAction}
use Rattle.list_actions.specs.declared.types.Strategy.{Strategy}
use Rattle.list_actions.specs.declared.types.Strategy.TheVariants as strategy
use Rattle.spawn_strategies.specs.declared.types.Name.{Name}
use Rattle.spawn_strategies.specs.declared.types.Rule.{Rule}
use Rattle.spawn_strategies.specs.declared.types.Strategies.{Strategies}
use Rattle.spawn_strategies.specs.Chosen.{can_work, chosen_among, names_by, own_name, supports}
use Rattle.spawn_strategies.specs.Choices.{chosen_names, is_sandboxed, name_in, name_of, sandboxes, says_sandboxed}

neither : (a b : Bool) → (a || b) ≡ false → (a ≡ false) × (b ≡ false)
neither true b h = cc
neither false b h = (refl, h)

-- what is found among them is none that they don't have
found : (p : Name → Bool) (ns : List Name) → list_any is_sandboxed ns ≡ false → is_sandboxed (name_in (find p ns)) ≡ false
found p [] h = refl
found p (n ∷ ns) h =
    let each = neither (is_sandboxed n) (list_any is_sandboxed ns) h in
    elim (p n) as (λ b. is_sandboxed (name_in (cond b (Some n) (find p ns))) ≡ false) [
      | true ↦ each.0
      | false ↦ found p ns each.1
    ]

own : (s : Strategy) → is_sandboxed (own_name s) ≡ false
own strategy.Worker = refl
own strategy.Remote = refl
own strategy.Dynamic = refl

of_rule : (p : Rule → Bool) (rs : List Rule) (common : List Name) (x : ListAction)
    → list_any is_sandboxed common ≡ false → list_any (λ r. list_any is_sandboxed r.names) rs ≡ false
    → is_sandboxed (name_in (chosen_among x (names_by (find p rs) common))) ≡ false
of_rule p [] [] x none rest = own x.strategy
of_rule p [] (n ∷ ns) x none rest = found (supports (can_work x)) (n ∷ ns) none
of_rule p (r ∷ rs) common x none rest =
    let each = neither (list_any is_sandboxed r.names) (list_any (λ s. list_any is_sandboxed s.names) rs) rest in
    elim (p r) as (λ b. is_sandboxed (name_in (chosen_among x (names_by (cond b (Some r) (find p rs)) common))) ≡ false) [
      | true ↦ found (supports (can_work x)) r.names each.0
      | false ↦ of_rule p rs common x none each.1
    ]

abbrev one_if : Bool → ℕ
one_if b = cond b 1 0

none_chosen : (words : Strategies) (xs : List ListAction) → says_sandboxed words ≡ false → count_by is_sandboxed (chosen_names words xs) ≡ 0
none_chosen words [] h = refl
none_chosen words (x ∷ xs) h =
    let each = neither (list_any is_sandboxed words.common) (list_any (λ r. list_any is_sandboxed r.names) words.rules) h in
    let this : is_sandboxed (name_of words x) ≡ false = of_rule _ words.rules words.common x each.0 each.1 in
    let weight = ap one_if this in
    omega (
      arith,
      sum_by-cons (λ n. one_if (is_sandboxed n)) (name_of words x) (chosen_names words xs),
      weight,
      none_chosen words xs h,
    )

pub few_sandboxes : (words : Strategies) (xs : List ListAction)
    → min words.sandboxed (count_by is_sandboxed (chosen_names words xs)) ≤ sandboxes words
few_sandboxes words xs =
    let used = count_by is_sandboxed (chosen_names words xs) in
    elim (says_sandboxed words) as (λ b. says_sandboxed words ≡ b → min words.sandboxed used ≤ cond b words.sandboxed 0) [
      | true ↦ (λ e. omega arith)
      | false ↦ (λ e. let none = none_chosen words xs e in omega (arith, none))
    ]
    refl
