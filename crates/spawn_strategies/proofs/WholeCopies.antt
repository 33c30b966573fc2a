-- The list with the chosen strategies is whole where the list is.
use Rattle.std.proofs.Common.{◌≡◌, ℕ, List, [], ◌∷◌, ◌++◌, length, map, find, Ok, refl, sym, ap, ◌∙◌, arith}
use Rattle.std.proofs.lemmas.List.{length-map, map-append}
use Rattle.std.specs.List.{list_all, list_any}
use Rattle.std.specs.Prelude.{nat_le, ◌||◌, ◌&&◌}
use Rattle.std.specs.Str.{bytes_eq}
use Rattle.list_actions.specs.declared.types.ListAction.{ListAction}
use Rattle.list_actions.specs.Answers.{first}
use Rattle.list_actions.specs.Order.{first_again, is_among, made_later, made_twice, order_check, orders_check, outputs_of}
use Rattle.list_actions.specs.Whole.{IsWhole}
use Rattle.list_actions.specs.Answers.{Check}
use Rattle.list_actions.specs.declared.faults.ListFault.TheVariants as fault
use Rattle.std.proofs.Common.{Bool, cond, Err}
use Rattle.spawn_strategies.specs.declared.types.Name.{Name}
use Rattle.spawn_strategies.specs.Placing.{all_named}
use Rattle.spawn_strategies.specs.Choices.{with_name}

module _ (f : ListAction → Name) where
  pub all_named_is : (xs : List ListAction) → all_named (map f xs) xs ≡ map (λ x. with_name (f x) x) xs
  all_named_is [] = refl
  all_named_is (x ∷ xs) = ap (λ ys. with_name (f x) x ∷ ys) (all_named_is xs)

  same_outputs : (xs : List ListAction) → outputs_of (map (λ x. with_name (f x) x) xs) ≡ outputs_of xs
  same_outputs [] = refl
  same_outputs (x ∷ xs) = ap (λ ps. x.outputs ++ ps) (same_outputs xs)

  same_names : (n : List ℕ) (xs : List ListAction)
      → list_any (λ y. bytes_eq y.name n) (map (λ x. with_name (f x) x) xs) ≡ list_any (λ y. bytes_eq y.name n) xs
  same_names n [] = refl
  same_names n (x ∷ xs) = ap (λ b. bytes_eq x.name n || b) (same_names n xs)

  -- the faults of an action by what they depend on
  abbrev fault_by : ListAction → ℕ → Bool → List (List ℕ) → List (List ℕ) → Check
  fault_by x n twice made later =
      first (cond twice (Err (fault.TwiceNamed n)) (Ok tt)
      ∷ made_twice n (first_again made x.outputs)
      ∷ made_later n (find (is_among later) x.inputs)
      ∷ [])

  same_order : (before : List ListAction) (x : ListAction) (rest : List ListAction)
      → order_check (map (λ y. with_name (f y) y) before) (with_name (f x) x) (map (λ y. with_name (f y) y) rest) ≡ order_check before x rest
  same_order before x rest =
      let front = map (λ y. with_name (f y) y) before in
      let back = map (λ y. with_name (f y) y) rest in
      let twice = list_any (λ y. bytes_eq y.name x.name) front in
      ap (λ n. fault_by x n twice (outputs_of front) (outputs_of back)) (length-map before (λ y. with_name (f y) y))
      ∙ ap (λ b. fault_by x (length before) b (outputs_of front) (outputs_of back)) (same_names x.name before)
      ∙ ap (λ ps. fault_by x (length before) (list_any (λ y. bytes_eq y.name x.name) before) ps (outputs_of back)) (same_outputs before)
      ∙ ap (λ ps. fault_by x (length before) (list_any (λ y. bytes_eq y.name x.name) before) (outputs_of before) ps) (same_outputs rest)

  same_orders : (before xs : List ListAction)
      → orders_check (map (λ y. with_name (f y) y) before) (map (λ y. with_name (f y) y) xs) ≡ orders_check before xs
  same_orders before [] = refl
  same_orders before (x ∷ xs) =
      let g : ListAction → ListAction = λ y. with_name (f y) y in
      ap (λ c. first (c ∷ orders_check (map g before ++ g x ∷ []) (map g xs) ∷ [])) (same_order before x (x ∷ xs))
      ∙ ap (λ ys. first (order_check before x (x ∷ xs) ∷ orders_check ys (map g xs) ∷ [])) (sym (map-append g before (x ∷ [])))
      ∙ ap (λ c. first (order_check before x (x ∷ xs) ∷ c ∷ [])) (same_orders (before ++ x ∷ []) xs)

  same_few : (xs : List ListAction) → list_all (λ x. nat_le (length x.outputs) 256) (map (λ y. with_name (f y) y) xs)
      ≡ list_all (λ x. nat_le (length x.outputs) 256) xs
  same_few [] = refl
  same_few (x ∷ xs) = ap (λ b. nat_le (length x.outputs) 256 && b) (same_few xs)

  pub whole_copies : (xs : List ListAction) → IsWhole xs → IsWhole (map (λ x. with_name (f x) x) xs)
  whole_copies xs whole = record {
    few = let few = whole.few in omega (arith, length-map xs (λ y. with_name (f y) y));
    few_outputs = same_few xs ∙ whole.few_outputs;
    ordered = same_orders [] xs ∙ whole.ordered;
  }
