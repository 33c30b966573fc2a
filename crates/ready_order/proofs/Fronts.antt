-- How many elements of a list, from the first on, pass a test.
use Rattle.std.proofs.Common.{◌≡◌, ℕ, suc, ◌+◌, ◌≤◌, ◌==◌, nat_eq, Bool, true, ◌&&◌, cond, List, [], ◌∷◌, length, refl, ◌∙◌, arith}
use Rattle.std.specs.List.{list_all, prefix_len}
use Rattle.std.proofs.lemmas.Bool.{or_left, or_right, eq-eqb, eqb-true, ne_eqb}
use Rattle.exec_journal.proofs.Ruled.{by_bool}
use Rattle.ready_order.specs.Board.{is_in}

module _ (f g : ℕ → Bool) where
  -- two tests that agree on the elements
  pub front_same : (xs : List ℕ) → ((q : ℕ) → is_in q xs ≡ true → g q ≡ f q)
      → prefix_len g xs ≡ prefix_len f xs
  front_same [] same = refl
  front_same (x ∷ xs) same =
      let here : g x ≡ f x = same x (or_left (x == x) (is_in x xs) (eq-eqb x x refl)) in
      let more = front_same xs (λ q h. same q (or_right (x == q) (is_in q xs) h)) in
      rw (here, more) refl

  pub all_same : (xs : List ℕ) → ((q : ℕ) → is_in q xs ≡ true → g q ≡ f q)
      → list_all g xs ≡ list_all f xs
  all_same [] same = refl
  all_same (x ∷ xs) same =
      let here : g x ≡ f x = same x (or_left (x == x) (is_in x xs) (eq-eqb x x refl)) in
      let more = all_same xs (λ q h. same q (or_right (x == q) (is_in q xs) h)) in
      rw (here, more) refl

  -- one that passes whatever the other does
  pub front_more : (xs : List ℕ) → ((q : ℕ) → f q ≡ true → g q ≡ true)
      → prefix_len f xs ≤ prefix_len g xs
  front_more [] more = omega arith
  front_more (x ∷ xs) more =
      let rest = front_more xs more in
      by_bool (f x) (λ b. cond b (1 + prefix_len f xs) 0 ≤ cond (g x) (1 + prefix_len g xs) 0)
      (λ yes. rw (more x yes) (omega arith)) (λ no. omega arith)

-- all pass exactly where the front is the whole
pub all_by_front : (f : ℕ → Bool) (xs : List ℕ) → nat_eq (prefix_len f xs) (length xs)
    ≡ list_all f xs
all_by_front f [] = refl
all_by_front f (x ∷ xs) =
    by_bool (f x) (λ b. nat_eq (cond b (1 + prefix_len f xs) 0) (suc (length xs)) ≡
    (b && list_all f xs))
    (λ yes. step (prefix_len f xs) (length xs) ∙ all_by_front f xs)
    (λ no. ne_eqb 0 (suc (length xs)) (λ e. omega arith))
  where
    step : (m n : ℕ) → nat_eq (1 + m) (suc n) ≡ nat_eq m n
    step m n = by_bool (nat_eq m n) (λ b. nat_eq m n ≡ b → nat_eq (1 + m) (suc n) ≡ b)
        (λ yes h. let e = eqb-true m n h in eq-eqb (1 + m) (suc n) (omega arith))
        (λ no h. ne_eqb (1 + m) (suc n) (λ e. let k : m ≡ n = omega arith in let t =
        eq-eqb m n k in absurd (cc))) refl
