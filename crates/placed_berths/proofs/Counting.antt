-- Counting, an action at a time.
use Rattle.std.proofs.Common.{◌≡◌, ℕ, suc, ◌+◌, ◌<◌, ◌≤◌, ◌==◌, nat_lt, false, cond, List, length, Option, Some, None, option_map, refl, ap, set, sym, subst, ◌∙◌, arith, length-set}
use Rattle.std.specs.Prelude.{slice_get}
use Rattle.std.proofs.lemmas.Bool.{eqb-true, eqb-false, le-ltb, lt-ltb, ltb-false, ltb-true}
use Rattle.std.proofs.lemmas.Option.{slice_get_within}
use Rattle.exec_journal.proofs.Ruled.{by_bool}
use Rattle.ready_order.specs.declared.ActionState.{ActionState}
use Rattle.ready_order.specs.Queue.{is_ready_at}
use Rattle.ready_order.proofs.Places.{set_beside, set_here}
use Rattle.placed_berths.specs.Counts.{more}

-- the first n are counted
pub record CountedBelow (states : List ActionState) (most n : ℕ) (old now : List ℕ) : Type 0 where
  pub size : length now ≡ length old
  pub each : (a : ℕ) → slice_get now a ≡ option_map (λ c. cond (nat_lt a n)
      (more (is_ready_at states a) most c) c) (slice_get old a)

itself : {X : Type 0} (o : Option X) → o ≡ option_map (λ c. c) o
itself None = refl
itself (Some x) = refl

pub none_counted : (states : List ActionState) (most : ℕ) (old : List ℕ)
    → CountedBelow states most 0 old old
none_counted states most old = record {
  size = refl;
  each = λ a. itself (slice_get old a)
      ∙ (λ i. option_map (λ c. cond (sym (le-ltb a 0 (omega arith)) i)
      (more (is_ready_at states a) most c) c) (slice_get old a));
}

pub all_counted : (states : List ActionState) (most n : ℕ) (old now : List ℕ)
    → CountedBelow states most n old now → length old ≤ n → (a : ℕ)
    → slice_get now a ≡ option_map (more (is_ready_at states a) most) (slice_get old a)
all_counted states most n old now so le a = so.each a ∙ by (slice_get old a) refl
  where
    by : (o : Option ℕ) → slice_get old a ≡ o
        → option_map (λ c. cond (nat_lt a n) (more (is_ready_at states a) most c) c) o
        ≡ option_map (more (is_ready_at states a) most) o
    by None at = refl
    by (Some c) at =
        let within = slice_get_within old a c at in
        ap (λ b. Some (cond b (more (is_ready_at states a) most c) c))
        (lt-ltb a n (omega (arith, le, within)))

module _ (states : List ActionState) (most n : ℕ) (old now : List ℕ)
    (so : CountedBelow states most n old now) (lt : n < length now) (v : ℕ)
    (at : slice_get now n ≡ Some v) where
  abbrev then_now : List ℕ
  then_now = set now n (more (is_ready_at states n) most v)

  by_old : (o : Option ℕ) → slice_get old n ≡ o → Some v ≡ option_map (λ c. cond (nat_lt n n)
      (more (is_ready_at states n) most c) c) o
      → Some (more (is_ready_at states n) most v) ≡ option_map (λ c. cond (nat_lt n (suc n))
      (more (is_ready_at states n) most c) c) o
  by_old None e h = absurd (cc)
  by_old (Some c) e h =
      let same : v ≡ c = (let k = h ∙ ap (λ b. Some (cond b (more (is_ready_at states n) most c) c))
      (le-ltb n n (omega arith)) in cc) in
      ap (λ x. Some (more (is_ready_at states n) most x)) same
      ∙ ap (λ b. Some (cond b (more (is_ready_at states n) most c) c))
      (sym (lt-ltb n (suc n) (omega arith)))

  at_n : slice_get then_now n ≡ option_map (λ c. cond (nat_lt n (suc n))
      (more (is_ready_at states n) most c) c) (slice_get old n)
  at_n = set_here now n (more (is_ready_at states n) most v) lt
      ∙ by_old (slice_get old n) refl (sym at ∙ so.each n)

  elsewhere : (a : ℕ) → (a ≡ n → ⊥) → nat_lt a n ≡ nat_lt a (suc n)
  elsewhere a other =
      by_bool (nat_lt a n) (λ b. nat_lt a n ≡ b → b ≡ nat_lt a (suc n))
      (λ below _. sym (lt-ltb a (suc n) (let less = ltb-true a n below in omega (arith, less))))
      (λ past _. by_bool (nat_lt a (suc n)) (λ b. nat_lt a (suc n) ≡ b → false ≡ b)
      (λ near _. absurd (other (let ge = ltb-false a n past in
      let less = ltb-true a (suc n) near in omega (arith, ge, less)))) (λ _ _. refl) refl) refl

  pub next_counted : CountedBelow states most (n + 1) old then_now
  next_counted = record {
    size = length-set now n (more (is_ready_at states n) most v) ∙ so.size;
    each = λ a. let z : suc n ≡ n + 1 = omega arith in
        subst (λ m. slice_get then_now a ≡ option_map (λ c. cond (nat_lt a m)
        (more (is_ready_at states a) most c) c) (slice_get old a)) z
        (by_bool (a == n) (λ _. slice_get then_now a ≡ option_map (λ c. cond (nat_lt a (suc n))
        (more (is_ready_at states a) most c) c) (slice_get old a))
        (λ here. subst (λ m. slice_get then_now m ≡ option_map (λ c. cond (nat_lt m (suc n))
        (more (is_ready_at states m) most c) c) (slice_get old m)) (sym (eqb-true a n here)) at_n)
        (λ off. set_beside now n a (more (is_ready_at states n) most v) (eqb-false a n off)
        ∙ so.each a ∙ (λ i. option_map (λ c. cond (elsewhere a (eqb-false a n off) i)
        (more (is_ready_at states a) most c) c) (slice_get old a))));
  }
