-- What stands in one of two lists.
use Rattle.std.proofs.Common.{◌⊎◌, inl, inr, List, [], ◌∷◌, ◌++◌}
use Rattle.lane_laws.specs.Numbers.{In}

module _ {X : Type 0} where
  pub in_front : (x : X) (xs ys : List X) → In x xs → In x (xs ++ ys)
  in_front x (y ∷ ys) zs (inl e) = inl e
  in_front x (y ∷ ys) zs (inr h) = inr (in_front x ys zs h)
  in_front x [] zs h = absurd h

  pub in_back : (x : X) (xs ys : List X) → In x ys → In x (xs ++ ys)
  in_back x [] ys h = h
  in_back x (y ∷ ys) zs h = inr (in_back x ys zs h)

  pub in_either : (x : X) (xs ys : List X) → In x (xs ++ ys) → In x xs ⊎ In x ys
  in_either x [] ys h = inr h
  in_either x (y ∷ ys) zs (inl e) = inl (inl e)
  in_either x (y ∷ ys) zs (inr h) = elim (in_either x ys zs h) [ inl a ↦ inl (inr a) | inr b ↦ inr b ]
