-- What lies in a desk's one slot.
use Rattle.std.proofs.Common.{◌≡◌, List, [], ◌∷◌, ◌++◌, Option, Some, refl, sym, ap, ◌∙◌}
use Rattle.seat_desk.specs.declared.held.Held.{Held}
use Rattle.seat_desk.specs.Helds.{LiesAlone}

-- the last of a list of one
last_of_one : {X : Type 0} (xs : List X) (x y : X) → y ∷ [] ≡ xs ++ x ∷ [] → y ≡ x
last_of_one [] x y e = cc
last_of_one (z ∷ []) x y e = absurd (cc)
last_of_one (z ∷ w ∷ zs) x y e = absurd (cc)

module _ {M C R : Type 0} where
  -- what came out of the one slot lay there
  pub took_alone : (m : M) (slots rest : List (Option (Held M C R))) (o : Option (Held M C R)) (y : Held M C R) → LiesAlone m slots
      → slots ≡ rest ++ o ∷ [] → o ≡ Some y → LiesAlone y.machine slots
  took_alone m slots rest o y lies cut is =
      (y, lies.1 ∙ ap (λ (x : Option (Held M C R)). x ∷ []) (last_of_one rest o (Some lies.0) (sym lies.1 ∙ cut) ∙ is), refl)

  -- one machine lies there
  pub alone_in : (m n : M) (slots : List (Option (Held M C R))) → LiesAlone m slots → LiesAlone n slots → m ≡ n
  alone_in m n slots a b =
      let same : Some a.0 ∷ [] ≡ Some b.0 ∷ [] = sym a.1 ∙ b.1 in
      let one : a.0 ≡ b.0 = cc in
      sym a.2 ∙ (ap (λ (y : Held M C R). y.machine) one ∙ b.2)
