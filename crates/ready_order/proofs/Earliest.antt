-- The search for the earliest queued branch finds it, and nothing else is found.
use Rattle.std.proofs.Common.{◌≡◌, ℕ, suc, ◌+◌, ◌-◌, ◌<◌, nat_lt, Bool, true, false, cond, List, [], ◌∷◌, length, Option, Some, None, option_map, unwrap_or, refl, ap, sym, ◌∙◌, arith}
use Rattle.std.specs.Prelude.{slice_get}
use Rattle.std.proofs.lemmas.Bool.{ltb-true, ltb-false}
use Rattle.std.proofs.lemmas.Option.{slice_get_within}
use Rattle.run_plan.specs.declared.plan.Branch.{Branch}
use Rattle.run_plan.specs.declared.plan.Branch.TheVariants.{Local, Remote}
use Rattle.list_lemmas.specs.Options.{or_else}
use Rattle.exec_journal.proofs.Ruled.{by_bool}
use Rattle.ready_order.specs.declared.ActionState.{ActionState}
use Rattle.ready_order.specs.Queue.{seat_of, may_begin, is_queued, IsEarliest, earliest_from, earliest_in}
use Rattle.ready_order.proofs.Queued.{one_earliest}

-- ---- the search finds the first

module _ (all : List ActionState) (g : ℕ) where
  abbrev queued_at : Option ActionState → Branch → Bool
  queued_at o b = unwrap_or (option_map (λ x. may_begin all g x (seat_of b x)) o) false

  by_branch : (x : ActionState) → (b : Branch) → may_begin all g x x.local ≡ false
      → may_begin all g x x.remote ≡ false → may_begin all g x (seat_of b x) ≡ false
  by_branch x Local h k = h
  by_branch x Remote h k = k

  first_is : (a : ℕ) (rest : List ActionState) → ((i : ℕ)
      → slice_get all (a + i) ≡ slice_get rest i) → ((c : ℕ) (d : Branch) → c < a
      → is_queued all g c d ≡ false) → IsEarliest all g (earliest_from all g a rest)
  first_is a [] at none = λ c d.
      by_bool (nat_lt c a) (λ _. is_queued all g c d ≡ false) (λ lt. none c d (ltb-true c a lt))
      (λ ge. let le = ltb-false c a ge in let e : a + (c - a) ≡ c = omega arith in
      ap (λ o. queued_at o d) (ap (slice_get all) (sym e) ∙ at (c - a)))
  first_is a (x ∷ xs) at none =
      let z : a + 0 ≡ a = omega arith in
      let here : slice_get all a ≡ Some x = ap (slice_get all) (sym z) ∙ at 0 in
      by_bool (may_begin all g x x.local)
      (λ b. may_begin all g x x.local ≡ b → IsEarliest all g
      (or_else (option_map (λ v. (a, v)) (cond b (Some Local)
      (cond (may_begin all g x x.remote) (Some Remote) None)))
      (earliest_from all g (a + 1) xs)))
      (λ yes l. record {
        queued = ap (λ o. queued_at o Local) here ∙ l;
        least = none;
        local_first = λ k. absurd (cc);
      })
      (λ no l. by_bool (may_begin all g x x.remote)
      (λ b. may_begin all g x x.remote ≡ b → IsEarliest all g
      (or_else (option_map (λ v. (a, v)) (cond b (Some Remote) None))
      (earliest_from all g (a + 1) xs)))
      (λ yes r. record {
        queued = ap (λ o. queued_at o Remote) here ∙ r;
        least = none;
        local_first = λ k. ap (λ o. queued_at o Local) here ∙ l;
      })
      (λ no2 r. first_is (a + 1) xs (λ i. let e : a + 1 + i ≡ a + suc i = omega arith in
      ap (slice_get all) e ∙ at (suc i))
      (λ c d lt. by_bool (nat_lt c a) (λ _. is_queued all g c d ≡ false)
      (λ low. none c d (ltb-true c a low))
      (λ high. let ge = ltb-false c a high in let e : c ≡ a = omega arith in
      ap (λ n. is_queued all g n d) e ∙ ap (λ o. queued_at o d) here ∙ by_branch x d l r))) refl)
      refl

pub search_is : (states : List ActionState) (g : ℕ) → IsEarliest states g (earliest_in states g)
search_is states g = first_is states g 0 states (λ i. let e : 0 + i ≡ i = omega arith in
    ap (slice_get states) e) (λ c d lt. absurd (omega arith))

-- there is one answer
pub found_is : (states : List ActionState) (g : ℕ) (o : Option (ℕ × Branch)) → IsEarliest states g o
    → earliest_in states g ≡ o
found_is states g o h = one_earliest states g (earliest_in states g) o (search_is states g) h

pub queued_within : (states : List ActionState) (g a : ℕ) (b : Branch)
    → is_queued states g a b ≡ true → a < length states
queued_within states g a b h = by (slice_get states a) refl h
  where
    by : (o : Option ActionState) → slice_get states a ≡ o
        → unwrap_or (option_map (λ x. may_begin states g x (seat_of b x)) o) false ≡ true
        → a < length states
    by (Some x) e k = slice_get_within states a x e
    by None e k = absurd (cc)
