-- The adder's history after a turn.
use Rattle.std.proofs.Common.{◌≡◌, ℕ, ◌+◌, ◌%◌, ◌^◌, List, [], ◌∷◌, ◌++◌, ap, sym, ◌∙◌, arith, add_assoc, zero-add}
use Rattle.plain_values.specs.declared.entry.Entry.{Entry}
use Rattle.seat_desk.specs.History.{entry}
use Rattle.desk_machines.specs.declared.adder.Add.{Add}
use Rattle.desk_machines.specs.AdderSums.{added, SumsFrom}

abbrev H : Type 0
H = List (Entry Add ℕ)

added-snoc : (h : H) (e : Entry Add ℕ) → added (h ++ e ∷ []) ≡ added h + e.call.number
added-snoc [] e = omega arith
added-snoc (x ∷ xs) e = let ih = added-snoc xs e in omega arith

sums-snoc : (n : ℕ) (h : H) (e : Entry Add ℕ) → SumsFrom n h → e.reply ≡ (n + added h + e.call.number) % 2 ^ 64 → SumsFrom n (h ++ e ∷ [])
sums-snoc n [] e s r = (r ∙ ap (λ (k : ℕ). (k + e.call.number) % 2 ^ 64) (let z : n + 0 ≡ n = omega arith in z), tt)
sums-snoc n (x ∷ xs) e s r = (s.0, sums-snoc (n + x.call.number) xs e s.1 (r ∙ ap (λ (k : ℕ). (k + e.call.number) % 2 ^ 64) (sym (add_assoc n x.call.number (added xs)))))

-- the sum after one call more
pub adds_on : (s n a : ℕ) → s ≡ a % 2 ^ 64 → (s + n) % 2 ^ 64 ≡ (a + n) % 2 ^ 64
adds_on s n a e = omega (arith, e)

pub stands_after : (s : ℕ) (h : H) (lane : ℕ) (c : Add) (r s' : ℕ) → (s ≡ added h % 2 ^ 64) × SumsFrom 0 h → r ≡ s' → s' ≡ (s + c.number) % 2 ^ 64
    → (s' ≡ added (h ++ entry lane c r ∷ []) % 2 ^ 64) × SumsFrom 0 (h ++ entry lane c r ∷ [])
stands_after s h lane c r s' st reply sum = let is : s' ≡ (added h + c.number) % 2 ^ 64 = sum ∙ adds_on s c.number (added h) st.0 in (
  is ∙ ap (λ (k : ℕ). k % 2 ^ 64) (sym (added-snoc h (entry lane c r))),
  sums-snoc 0 h (entry lane c r) st.1 (reply ∙ (is ∙ ap (λ (k : ℕ). (k + c.number) % 2 ^ 64) (sym (zero-add (added h))))),
)
