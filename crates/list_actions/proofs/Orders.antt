-- The checks over all actions, action by action.
use Rattle.std.proofs.Common.{◌≡◌, ℕ, ◌+◌, ◌<◌, List, [], ◌∷◌, ◌++◌, length, take, drop, get_or, Ok, sym, ap, subst, ◌∙◌}
use Rattle.std.proofs.lemmas.List.{drop_more, take_more}
use Rattle.list_actions.specs.declared.faults.ListRefusal.{ListRefusal}
use Rattle.list_actions.specs.declared.types.ListAction.{ListAction}
use Rattle.list_actions.specs.Answers.{Refuses, first}
use Rattle.list_actions.specs.Order.{order_check, orders_check}
use Rattle.list_actions.proofs.Firsts.{refused_first, first_passed}

module _ (xs : List ListAction) (i : ℕ) (x : ListAction) where
  pub take_this : i < length xs → x ≡ get_or xs i x → take (i + 1) xs ≡ take i xs ++ x ∷ []
  take_this below is = take_more xs i x below ∙ ap (λ v. take i xs ++ v ∷ []) (sym is)

  pub drop_this : i < length xs → x ≡ get_or xs i x → drop i xs ≡ x ∷ drop (i + 1) xs
  drop_this below is = drop_more xs i x below ∙ ap (λ v. v ∷ drop (i + 1) xs) (sym is)

  at_this : orders_check [] xs ≡ orders_check (take i xs) (drop i xs) → i < length xs → x ≡ get_or xs i x
      → orders_check [] xs ≡ first (order_check (take i xs) x (drop i xs) ∷ orders_check (take (i + 1) xs) (drop (i + 1) xs) ∷ [])
  at_this h below is =
      h ∙ ap (orders_check (take i xs)) (drop_this below is)
      ∙ ap (λ rest. first (order_check (take i xs) x rest ∷ orders_check (take i xs ++ x ∷ []) (drop (i + 1) xs) ∷ [])) (sym (drop_this below is))
      ∙ ap (λ front. first (order_check (take i xs) x (drop i xs) ∷ orders_check front (drop (i + 1) xs) ∷ [])) (sym (take_this below is))

  pub order_refused : (r : ListRefusal) → orders_check [] xs ≡ orders_check (take i xs) (drop i xs) → i < length xs → x ≡ get_or xs i x
      → Refuses r (order_check (take i xs) x (drop i xs)) → Refuses r (orders_check [] xs)
  order_refused r h below is refused =
      subst (λ c. Refuses r c) (sym (at_this h below is)) (refused_first r (order_check (take i xs) x (drop i xs)) (orders_check (take (i + 1) xs) (drop (i + 1) xs) ∷ []) refused)

  pub order_passed : orders_check [] xs ≡ orders_check (take i xs) (drop i xs) → i < length xs → x ≡ get_or xs i x
      → order_check (take i xs) x (drop i xs) ≡ Ok tt → orders_check [] xs ≡ orders_check (take (i + 1) xs) (drop (i + 1) xs)
  order_passed h below is fine =
      at_this h below is ∙ first_passed (order_check (take i xs) x (drop i xs)) (orders_check (take (i + 1) xs) (drop (i + 1) xs)) fine
