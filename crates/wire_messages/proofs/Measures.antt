-- The lengths of fields, one after the other.
use Rattle.std.proofs.Common.{◌≡◌, ◌≢◌, ℕ, ◌+◌, ◌-◌, ◌*◌, ◌^◌, ◌≤◌, min, List, [], ◌∷◌, ◌++◌, length, refl, sym, ap, ◌∙◌, inl, inr, arith}
use Rattle.std.proofs.lemmas.Bool.{ne_eqb, eq-eqb, cases_lt}
use Rattle.std.proofs.lemmas.List.{length-append}
use Rattle.wire_fields.specs.Varint.{varint}
use Rattle.wire_fields.specs.Field.{WireField, Number, Bytes}
use Rattle.wire_fields.specs.Spelling.{spelling, number_field, one_bytes, bytes_field, repeated_field, capped}
use Rattle.wire_messages.proofs.Pushes.{spelling-append, spelling_one, spelling_none, repeated_one}

pub capped_sum : (t x r a b : ℕ) → t ≡ capped a → x ≡ capped b → r ≡ min (t + x) (2 ^ 64 - 1) → r ≡ capped (a + b)
capped_sum t x r a b p q e = rw (e, p, q) (omega arith)

-- more fields behind fields
pub len_more : (t x r : ℕ) (p q : List WireField) → t ≡ capped (length (spelling p)) → x ≡ capped (length (spelling q)) → r ≡ min (t + x) (2 ^ 64 - 1) → r ≡ capped (length (spelling (p ++ q)))
len_more t x r p q a b e =
    capped_sum t x r (length (spelling p)) (length (spelling q)) a b e ∙ ap capped (sym (ap length (spelling-append p q) ∙ length-append (spelling p) (spelling q)))

pub no_number_len : (n v : ℕ) → v ≡ 0 → 0 ≡ capped (length (spelling (number_field n v)))
no_number_len n v e = rw (eq-eqb v 0 e, spelling_none) refl

pub one_number_len : (n v a b : ℕ) → v ≢ 0 → a ≡ length (varint (8 * n)) → b ≡ length (varint v) → a ≤ 10 → b ≤ 10 → a + b ≡ capped (length (spelling (number_field n v)))
one_number_len n v a b ne p q short_a short_b =
    let t : 8 * n + 0 ≡ 8 * n = omega arith in
    let len : length (spelling (number_field n v)) ≡ a + b = rw (ne_eqb v 0 ne, spelling_one (record { number = n; content = Number v }), t, length-append (varint (8 * n)) (varint v), p, q) refl in
    rw len (omega arith)

pub one_span_len : (n : ℕ) (s : List ℕ) (a c count : ℕ) → a ≡ length (varint (8 * n + 2)) → c ≡ length (varint count) → count ≡ capped (length s) → min (a + c + count) (2 ^ 64 - 1) ≡ capped (length (spelling (one_bytes n s)))
one_span_len n s a c count p q is =
    let len : length (spelling (one_bytes n s)) ≡ length (varint (8 * n + 2)) + (length (varint (length s)) + length s) =
    ap length (spelling_one (record { number = n; content = Bytes s })) ∙ length-append (varint (8 * n + 2)) (varint (length s) ++ s) ∙ ap (λ (k : ℕ). length (varint (8 * n + 2)) + k) (length-append (varint (length s)) s) in
    elim (cases_lt (length s) (2 ^ 64)) [
      | inl small ↦
          let exact : count ≡ length s = omega (arith, is) in
          let c_is : c ≡ length (varint (length s)) = q ∙ ap (λ (k : ℕ). length (varint k)) exact in
          rw (len, p, c_is, exact) (omega arith)
      | inr big ↦
          let most : count ≡ 2 ^ 64 - 1 = omega (arith, is) in
          rw (len, most) (omega arith)
    ]

pub no_bytes_len : (n : ℕ) (s : List ℕ) → length s ≡ 0 → 0 ≡ capped (length (spelling (bytes_field n s)))
no_bytes_len n s e = rw (eq-eqb (length s) 0 e, spelling_none) refl

pub no_repeated_len : (n : ℕ) → 0 ≡ capped (length (spelling (repeated_field n [])))
no_repeated_len n = rw spelling_none refl

pub repeated_len : (t x r n : ℕ) (ss more : List (List ℕ)) (s : List ℕ) → more ≡ ss ++ s ∷ [] → t ≡ capped (length (spelling (repeated_field n ss))) → x ≡ capped (length (spelling (one_bytes n s)))
    → r ≡ min (t + x) (2 ^ 64 - 1) → r ≡ capped (length (spelling (repeated_field n more)))
repeated_len t x r n ss more s is a b e =
    capped_sum t x r (length (spelling (repeated_field n ss))) (length (spelling (one_bytes n s))) a b e
    ∙ ap capped (sym (ap (λ (m : List (List ℕ)). length (spelling (repeated_field n m))) is ∙ ap length (repeated_one n ss s) ∙ length-append (spelling (repeated_field n ss)) (spelling (one_bytes n s))))
