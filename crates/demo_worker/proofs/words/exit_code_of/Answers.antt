use Rattle.std.proofs.Common.{◌≡◌, ℕ, ◌<◌, ◌≤◌, ◌&&◌, Bool, true, List, [], ◌∷◌, length, Option, Some, None, refl, ap, sym, ◌∙◌, arith}
use Rattle.std.specs.Prelude.{nat_le, if◌then◌else◌, Result, Ok, Err}
use Rattle.std.specs.Char.{is_ascii_digit}
use Rattle.std.specs.List.{list_all}
use Rattle.std.specs.Str.{all_ascii_digits}
use Rattle.std.specs.Str.Parse.{digits_value, ParsesUnsigned}
use Rattle.std.proofs.lemmas.Bool.Decides.{nat_tests}
use Rattle.std.proofs.lemmas.Str.Parse.{IsNumeralModel, numerals_by_value, tells_all_ascii_digits, parse_digits}
use Rattle.demo_worker.specs.Words.{exit_code_of}
use Rattle.demo_worker.proofs.words.exit_code_of.Goals as goal

own : IsNumeralModel (λ ds. all_ascii_digits ds ≡ true) (digits_value 10)
own = numerals_by_value (λ ds. all_ascii_digits ds ≡ true) tells_all_ascii_digits

same : (ds : List ℕ) → all_ascii_digits ds ≡ list_all is_ascii_digit ds
same [] = refl
same (d ∷ ds) = ap (λ (b : Bool). is_ascii_digit d && b) (same ds)

gives : (all : Bool) (n v : ℕ) → all ≡ true → n ≤ 3 → 0 < n → v < 256
    → Some v ≡ (if all && nat_le 1 n && nat_le n 3 && nat_le v 255 then Some v else None)
gives all n v a b c d = grind (arith, nat_tests)

gives_none : (all : Bool) (n v : ℕ) → (0 < n → v < 256 → ⊥)
    → (if all && nat_le 1 n && nat_le n 3 && nat_le v 255 then Some v else None) ≡ None
gives_none all n v no' = grind (arith, nat_tests, no')

abbrev as_option : {E : Type 0} → Result ℕ E → Option ℕ
as_option (Ok x) = Some x
as_option (Err e) = None

taken : {E : Type 0} (bs : List ℕ) (r : Result ℕ E) → ParsesUnsigned 8 10 bs r
    → list_all is_ascii_digit bs ≡ true → length bs ≤ 3 → as_option r ≡ exit_code_of bs
taken {E = E} bs (Ok x) h all short =
    let p = parse_digits own {E = E} 8 bs (Ok x) h (same bs ∙ all) in
    ap Some p.1 ∙ gives (list_all is_ascii_digit bs) (length bs) (digits_value 10 bs) all short p.0.0
    p.0.1
taken {E = E} bs (Err e) h all short =
    let p = parse_digits own {E = E} 8 bs (Err e) h (same bs ∙ all) in
    sym (gives_none (list_all is_ascii_digit bs) (length bs) (digits_value 10 bs)
    (λ some small. p (some, small)))

pub returns-in-Ok : goal.returns-in-Ok
returns-in-Ok c =
    let bs = c.args.digits.now in
    let all : list_all is_ascii_digit bs ≡ true = ap (list_all is_ascii_digit) (sym
    c.as_bytes.ensures.value) ∙ sym c.is_decimal.ensures ∙ c.if-is_decimal.true in
    ap as_option (sym c.in-Ok.is) ∙ taken bs c.parse.result c.parse.ensures.value.0 all
    c.if-digits-le3.true

pub returns-in-Err : goal.returns-in-Err
returns-in-Err c =
    let bs = c.args.digits.now in
    let all : list_all is_ascii_digit bs ≡ true = ap (list_all is_ascii_digit) (sym
    c.as_bytes.ensures.value) ∙ sym c.is_decimal.ensures ∙ c.if-is_decimal.true in
    ap as_option (sym c.in-Err.is) ∙ taken bs c.parse.result c.parse.ensures.value.0 all
    c.if-digits-le3.true
