-- How many of all lines pass a test is how many of each berth do, summed up.
use Rattle.std.proofs.Common.{◌≡◌, ℕ, zero, suc, ◌+◌, ◌/◌, ◌<◌, ◌≤◌, ◌==◌, nat_lt, Bool, cond, List, [], ◌∷◌, length, Option, Some, None, option_map, refl, sym, ◌∙◌, arith}
use Rattle.std.specs.List.{filter}
use Rattle.std.proofs.lemmas.Bool.{eqb-true, eq-eqb, ltb-true, ltb-false}
use Rattle.list_lemmas.specs.Options.{and_more}
use Rattle.exec_journal.specs.declared.attempt.Attempt.{Attempt}
use Rattle.exec_journal.specs.Entry.{Entry}
use Rattle.exec_journal.specs.Entries.{launch_in}
use Rattle.exec_journal.specs.Words.{lines_of}
use Rattle.exec_journal.proofs.Ruled.{by_bool}
use Rattle.core_laws.specs.Stands.{AreSeated}
use Rattle.placed_rules.specs.Needs.{all_lines}

-- ---- sums

abbrev pub sum_below : (ℕ → ℕ) → ℕ → ℕ
sum_below f zero = 0
sum_below f (suc n) = f n + sum_below f n

pub sum_same : (f g : ℕ → ℕ) (n : ℕ) → ((w : ℕ) → w < n → f w ≡ g w)
    → sum_below f n ≡ sum_below g n
sum_same f g zero same = refl
sum_same f g (suc n) same =
    let rest = sum_same f g n (λ w lt. same w (omega arith)) in
    λ i. same n (omega arith) i + rest i

sum_both : (f g : ℕ → ℕ) (n : ℕ)
    → sum_below (λ w. f w + g w) n ≡ sum_below f n + sum_below g n
sum_both f g zero = refl
sum_both f g (suc n) = let rest = sum_both f g n in omega (arith, rest)

sum_none : (n : ℕ) → sum_below (λ _. 0) n ≡ 0
sum_none zero = refl
sum_none (suc n) = let rest = sum_none n in omega (arith, rest)

-- of a number that is none of these
sum_past : (c v n : ℕ) → n ≤ v → sum_below (λ w. cond (v == w) c 0) n ≡ 0
sum_past c v zero le = refl
sum_past c v (suc n) le =
    let rest = sum_past c v n (omega arith) in
    by_bool (v == n) (λ b. cond b c 0 + sum_below (λ w. cond (v == w) c 0) n ≡ 0)
    (λ yes. let e = eqb-true v n yes in absurd (omega arith)) (λ no. omega (arith, rest))

sum_one : (c v n : ℕ) → v < n → sum_below (λ w. cond (v == w) c 0) n ≡ c
sum_one c v zero lt = absurd (omega arith)
sum_one c v (suc n) lt =
    by_bool (v == n) (λ b. cond b c 0 + sum_below (λ w. cond (v == w) c 0) n ≡ c)
    (λ yes. let e = eqb-true v n yes in let rest = sum_past c v n (omega arith) in
    omega (arith, rest))
    (λ no. by_bool (nat_lt v n) (λ _. 0 + sum_below (λ w. cond (v == w) c 0) n ≡ c)
    (λ yes. let below = ltb-true v n yes in let rest = sum_one c v n below in omega (arith, rest))
    (λ past. let le = ltb-false v n past in let e : v ≡ n = omega arith in
    absurd (let yes = eq-eqb v n e in cc)))

-- ---- lists

pub count_more : {X : Type 0} (f : X → Bool) (x : X) (xs : List X)
    → length (filter f (x ∷ xs)) ≡ cond (f x) 1 0 + length (filter f xs)
count_more f x xs =
    by_bool (f x) (λ b. length (cond b (x ∷ filter f xs) (filter f xs))
    ≡ cond b 1 0 + length (filter f xs)) (λ _. omega arith) (λ _. omega arith)

-- ---- lines

module _ (test : ℕ → Bool) where
  abbrev of_line : ℕ × ℕ → Bool
  of_line x = test x.1

  abbrev at : List Entry → ℕ → ℕ
  at j w = length (filter test (lines_of j w))

  -- with a line of the berth v, where one is launched
  with_line : (v l w : ℕ) (ls : List ℕ)
      → cond (v == w) (cond (test l) 1 0) 0 + length (filter test ls)
      ≡ length (filter test (and_more (cond (v == w) (Some l) None) ls))
  with_line v l w ls =
      by_bool (v == w) (λ b. cond b (cond (test l) 1 0) 0 + length (filter test ls)
      ≡ length (filter test (and_more (cond b (Some l) None) ls)))
      (λ _. sym (count_more test l ls)) (λ _. omega arith)

  without_line : (v w : ℕ) (ls : List ℕ) → length (filter test ls)
      ≡ length (filter test (and_more (cond {A = Option ℕ} (v == w) None None) ls))
  without_line v w ls =
      by_bool (v == w) (λ b. length (filter test ls)
      ≡ length (filter test (and_more (cond {A = Option ℕ} b None None) ls)))
      (λ _. refl) (λ _. refl)

  pub count_is : (j : List Entry) (n : ℕ) → AreSeated n j
      → length (filter (λ (x : ℕ × ℕ). test x.1) (all_lines j))
      ≡ sum_below (λ w. length (filter test (lines_of j w))) n
  unfolding all_lines lines_of
  count_is [] n seated = sym (sum_none n)
  count_is (e ∷ j) n seated = by (launch_in e.reply) (count_is j n seated.0)
    where
      by : (o : Option (ℕ × Attempt))
          → length (filter of_line (all_lines j)) ≡ sum_below (at j) n
          → length (filter of_line
          (and_more (option_map (λ (x : ℕ × Attempt). (e.lane / 2, x.0)) o) (all_lines j)))
          ≡ sum_below (λ w. length (filter test (and_more
          (cond (e.lane / 2 == w) (option_map (λ (x : ℕ × Attempt). x.0) o) None)
          (lines_of j w)))) n
      by None ih = ih ∙ sum_same (at j) _ n (λ w lt. without_line (e.lane / 2) w (lines_of j w))
      by (Some y) ih =
          let one : ℕ = cond (test y.0) 1 0 in
          count_more of_line (e.lane / 2, y.0) (all_lines j)
          ∙ (λ i. sym (sum_one one (e.lane / 2) n seated.1) i + ih i)
          ∙ sym (sum_both (λ w. cond (e.lane / 2 == w) one 0) (at j) n)
          ∙ sum_same _ _ n (λ w lt. with_line (e.lane / 2) y.0 w (lines_of j w))
