-- Texts that are whole numbers.
use Rattle.std.proofs.Common.{◌≡◌, ℕ, ◌+◌, ◌<◌, ◌≤◌, ◌^◌, ℤ, pos, negsuc, Bool, true, false, cond, ◌&&◌, eqb, leb, ltb, List, [], ◌∷◌, length, Err, refl, sym, ap, subst, ◌∙◌, FitsSigned, w32, arith}
use Rattle.std.proofs.lemmas.Bool.{eqb-true, leb-true, lt-ltb, ltb-true}
use Rattle.std.proofs.lemmas.Str.{digit_value_digit}
use Rattle.std.specs.Char.{digit_value}
use Rattle.std.specs.Str.Parse.{AllDigits, IsNumeral, signed_digits_value, without_leading_sign}
use Rattle.json_messages.specs.Values.{is_digit, all_digits, are_digits, is_whole_text, is_small, in_range, text_number}
use Rattle.wire_messages.specs.declared.fault.JsonKey.{JsonKey}
use Rattle.wire_messages.specs.declared.fault.MessageFault.TheVariants as fault

both : (a b : Bool) → a && b ≡ true → (a ≡ true) × (b ≡ true)
both true b e = (refl, e)
both false b e = absurd cc

digit_small : (b : ℕ) → is_digit b ≡ true → digit_value b < 10
digit_small b e =
    let h = both (leb 48 b) (leb b 57) e in
    let low : 48 ≤ b = leb-true _ _ h.0 in
    let high : b ≤ 57 = leb-true _ _ h.1 in
    let v : digit_value b + 48 ≡ b = digit_value_digit b (low, high) in
    omega arith

digits_all : (s : List ℕ) → all_digits s ≡ true → AllDigits 10 s
digits_all [] e = tt
digits_all (b ∷ bs) e = let h = both (is_digit b) (all_digits bs) e in (digit_small b h.0, digits_all bs h.1)

some_digits : (t : Bool) (b : ℕ) (bs : List ℕ) → eqb b 48 ≡ t → cond t (eqb (length bs) 0) (all_digits (b ∷ bs)) ≡ true → AllDigits 10 (b ∷ bs)
some_digits true b [] is e = let zero : b ≡ 48 = eqb-true _ _ is in rw zero (omega arith, tt)
some_digits true b (c ∷ cs) is e = absurd (let none : length (c ∷ cs) ≡ 0 = eqb-true _ _ e in omega arith)
some_digits false b bs is e = digits_all (b ∷ bs) e

numeral : (s : List ℕ) → are_digits s ≡ true → IsNumeral 10 s
numeral [] e = absurd cc
numeral (b ∷ bs) e = (omega arith, some_digits (eqb b 48) b bs refl e)

-- a digit is no plus
no_plus : (b : ℕ) (bs : List ℕ) (t : Bool) → digit_value b < 10 → eqb b 43 ≡ t → t ≡ false
no_plus b bs true small is = absurd (let plus : b ≡ 43 = eqb-true _ _ is in let wrong = subst (λ (x : ℕ). digit_value x < 10) plus small in omega (arith, wrong))
no_plus b bs false small is = refl

signed : (t : Bool) (b : ℕ) (bs : List ℕ) → eqb b 45 ≡ t → cond t (are_digits bs) (are_digits (b ∷ bs)) ≡ true → IsNumeral 10 (without_leading_sign (b ∷ bs))
signed true b bs is e = rw is (numeral bs e)
signed false b bs is e = let n = numeral (b ∷ bs) e in rw (is, no_plus b bs (eqb b 43) n.1.0 refl) n

pub whole_numeral : (s : List ℕ) → is_whole_text s ≡ true → IsNumeral 10 (without_leading_sign s)
whole_numeral [] e = absurd cc
whole_numeral (b ∷ bs) e = signed (eqb b 45) b bs refl e

not_small : (t : Bool) → (t ≡ true → ⊥) → t ≡ false
not_small true other = absurd (other refl)
not_small false other = refl

pub large : (z : ℤ) → (FitsSigned w32 z → ⊥) → is_small z ≡ false
large (pos n) other = not_small (ltb n (2 ^ 31)) (λ e. other (record { sfits = ltb-true _ _ e }))
large (negsuc n) other = not_small (ltb n (2 ^ 31)) (λ e. other (record { sfits = ltb-true _ _ e }))

-- a text that is a whole number and doesn't fit
pub too_large : (s : List ℕ) (k : JsonKey) → is_whole_text s ≡ true → (IsNumeral 10 (without_leading_sign s) × FitsSigned w32 (signed_digits_value 10 s) → ⊥) → Err (fault.OutOfRange k) ≡ in_range k (text_number s)
too_large s k whole refused =
    let small = large (signed_digits_value 10 s) (λ fits. refused (whole_numeral s whole, fits)) in
    rw (whole, small) refl

pub small : (z : ℤ) → FitsSigned w32 z → is_small z ≡ true
small (pos n) fits = lt-ltb n (2 ^ 31) fits.sfits
small (negsuc n) fits = lt-ltb n (2 ^ 31) fits.sfits
