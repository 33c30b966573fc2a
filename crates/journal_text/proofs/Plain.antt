-- What is written has no float, few levels, and no line feed.
use Rattle.std.proofs.Common.{◌≡◌, ℕ, suc, ◌+◌, ◌/◌, ◌%◌, ◌<◌, ◌≤◌, ◌^◌, ℤ, pos, negsuc, Bool, true, false, not, cond, ◌&&◌, ◌||◌, eqb, ltb, List, [], ◌∷◌, ◌++◌, map, Option, Some, None, refl, ap, ◌∙◌, arith}
use Rattle.std.specs.Prelude.{decimal}
use Rattle.std.specs.Char.{digit_char}
use Rattle.std.specs.List.{list_all}
use Rattle.std.specs.Str.Parse.{AllDigits}
use Rattle.std.proofs.lemmas.Bool.{eqb-true, ltb-false, ltb-true, ne_eqb}
use Rattle.std.proofs.lemmas.Fmt.{decimal_is_IsNumeral_wide}
use Rattle.std.proofs.lemmas.List.Concat.{flat_map-cons}
use Rattle.std.proofs.lemmas.List.Folds.{list_all-append}
use Rattle.std.proofs.lemmas.Str.Parse.{digit_from_value}
use Rattle.json.specs.Print.{escape, escape_byte, escape_letter, quoted}
use Rattle.serde_json.specs.Data.{Data, Items, no_items, item, boolean, string, array, depth, items_depth}
use Rattle.serde_json.specs.View.{items_of}
use Rattle.serde_json.specs.Written.{compact_text, comma_if, has_float, items_have_float, items_text}
use Rattle.journal_text.specs.Fits.{Each, IfCount, IsCount, IsSigned}
use Rattle.journal_text.specs.Lines.{in_line, IsOneLine}
use Rattle.journal_text.specs.Values.{content_data, count_data, maybe_data, signed_data}

-- ---- lines

together : (xs ys : List ℕ) → IsOneLine xs → IsOneLine ys → IsOneLine (xs ++ ys)
together xs ys p q = list_all-append in_line xs ys ∙ ap (λ (b : Bool). b && list_all in_line ys) p ∙ q

above : (x : ℕ) → 11 ≤ x → in_line x ≡ true
above x le = ap not (ne_eqb x 10 (λ e. omega arith))

one : (x : ℕ) (xs : List ℕ) → 11 ≤ x → IsOneLine xs → IsOneLine (x ∷ xs)
one x xs le p = ap (λ (b : Bool). b && list_all in_line xs) (above x le) ∙ p

-- ---- strings

either : (a b : Bool) (x : ℕ) → (a ≡ true → 11 ≤ x) → (b ≡ true → 11 ≤ x) → a || b ≡ true → 11 ≤ x
either true b x p q e = p refl
either false b x p q e = q e

letter : (quote bell page line back tab : Bool) (x : ℕ) → (quote ≡ true → 11 ≤ x) → 0 < cond quote x (cond bell 98 (cond page 102 (cond line 110 (cond back 114 (cond tab 116 0))))) → 11 ≤ cond quote x (cond bell 98 (cond page 102 (cond line 110 (cond back 114 (cond tab 116 0)))))
letter true bell page line back tab x p l = p refl
letter false true page line back tab x p l = omega arith
letter false false true line back tab x p l = omega arith
letter false false false true back tab x p l = omega arith
letter false false false false true tab x p l = omega arith
letter false false false false false true x p l = omega arith
letter false false false false false false x p l = absurd (omega arith)

letter_above : (x : ℕ) → 0 < escape_letter x → 11 ≤ escape_letter x
letter_above x l =
    letter (eqb x 34 || eqb x 92) (eqb x 8) (eqb x 12) (eqb x 10) (eqb x 13) (eqb x 9) x
    (either (eqb x 34) (eqb x 92) x (λ e. let is : x ≡ 34 = eqb-true _ _ e in omega arith) (λ e. let is : x ≡ 92 = eqb-true _ _ e in omega arith)) l

hex : (t : Bool) (d : ℕ) → 11 ≤ cond t (48 + d) (87 + d)
hex true d = omega arith
hex false d = omega arith

escaped_by : (s t : Bool) (x : ℕ) → ltb 0 (escape_letter x) ≡ s → ltb x 32 ≡ t
    → IsOneLine (cond s (92 ∷ escape_letter x ∷ []) (cond t (92 ∷ 117 ∷ 48 ∷ 48 ∷ digit_char (x / 16) ∷ digit_char (x % 16) ∷ []) (x ∷ [])))
escaped_by true t x p q = one (escape_letter x) [] (letter_above x (ltb-true _ _ p)) refl
escaped_by false true x p q = one (digit_char (x / 16)) (digit_char (x % 16) ∷ []) (hex (ltb (x / 16) 10) (x / 16)) (one (digit_char (x % 16)) [] (hex (ltb (x % 16) 10) (x % 16)) refl)
escaped_by false false x p q = let le : 32 ≤ x = ltb-false _ _ q in one x [] (omega arith) refl

byte_lined : (x : ℕ) → IsOneLine (escape_byte x)
unfolding escape_byte
byte_lined x = escaped_by (ltb 0 (escape_letter x)) (ltb x 32) x refl refl

escape_lined : (s : List ℕ) → IsOneLine (escape s)
escape_lined [] = refl
escape_lined (x ∷ xs) = ap (list_all in_line) (flat_map-cons escape_byte x xs) ∙ together (escape_byte x) (escape xs) (byte_lined x) (escape_lined xs)

quoted_lined : (s : List ℕ) → IsOneLine (quoted s)
quoted_lined s = together (escape s) (34 ∷ []) (escape_lined s) refl

-- ---- numbers

digits_lined : (s : List ℕ) → AllDigits 10 s → IsOneLine s
digits_lined [] p = refl
digits_lined (c ∷ cs) p = let r = digit_from_value c p.0 in let low = r.0 in one c cs (omega (arith, low)) (digits_lined cs p.1)

decimal_lined : (n : ℕ) → n < 2 ^ 32 → IsOneLine (decimal n)
decimal_lined n l = digits_lined (decimal n) (decimal_is_IsNumeral_wide n (omega arith)).0.1

-- ---- values

pub record IsPlain (n : ℕ) (d : Data) : Type 0 where
  pub exact : has_float d ≡ false
  pub shallow : depth d ≤ n
  pub lined : IsOneLine (compact_text d)

abbrev pub ArePlain : ℕ → Items → Type 0
ArePlain n no_items = Unit {0}
ArePlain n (item d ds) = IsPlain n d × ArePlain n ds

neither : (a b : Bool) → a ≡ false → b ≡ false → a || b ≡ false
neither true b p q = p
neither false b p q = q

items_exact : (n : ℕ) (ds : Items) → ArePlain n ds → items_have_float ds ≡ false
items_exact n no_items p = refl
items_exact n (item d ds) p = neither (has_float d) (items_have_float ds) p.0.exact (items_exact n ds p.1)

items_shallow : (n : ℕ) (ds : Items) → ArePlain n ds → items_depth ds ≤ n
items_shallow n no_items p = omega arith
items_shallow n (item d ds) p = let a = p.0.shallow in let b = items_shallow n ds p.1 in omega arith

comma_lined : (later : Bool) → IsOneLine (comma_if later)
comma_lined true = refl
comma_lined false = refl

items_lined : (n : ℕ) (later : Bool) (ds : Items) → ArePlain n ds → IsOneLine (items_text later ds)
items_lined n later no_items p = refl
items_lined n later (item d ds) p =
    together (comma_if later) (compact_text d ++ items_text true ds) (comma_lined later)
    (together (compact_text d) (items_text true ds) p.0.lined (items_lined n true ds p.1))

pub row_plain : (n : ℕ) {ds : Items} → ArePlain n ds → IsPlain (suc n) (array ds)
row_plain n {ds} p =
    let le = items_shallow n ds p in
    record { exact = items_exact n ds p; shallow = omega arith; lined = items_lined n false ds p }

pub text_plain : (n : ℕ) (s : List ℕ) → IsPlain n (string s)
text_plain n s = record { exact = refl; shallow = omega arith; lined = quoted_lined s }

pub flag_plain : (n : ℕ) (b : Bool) → IsPlain n (boolean b)
flag_plain n true = record { exact = refl; shallow = omega arith; lined = refl }
flag_plain n false = record { exact = refl; shallow = omega arith; lined = refl }

pub count_plain : (n m : ℕ) → IsCount m → IsPlain n (count_data m)
count_plain n m p = record { exact = refl; shallow = omega arith; lined = decimal_lined m p }

pub signed_plain : (n : ℕ) (z : ℤ) → IsSigned z → IsPlain n (signed_data z)
signed_plain n (pos m) p = record { exact = refl; shallow = omega arith; lined = decimal_lined m (omega arith) }
signed_plain n (negsuc m) p = record { exact = refl; shallow = omega arith; lined = decimal_lined (suc m) (omega arith) }

pub maybe_plain : (n : ℕ) (o : Option ℕ) → IfCount o → IsPlain n (maybe_data o)
maybe_plain n None p = record { exact = refl; shallow = omega arith; lined = refl }
maybe_plain n (Some m) p = count_plain n m p

pub content_plain : (n : ℕ) (b : List ℕ) → IsPlain n (content_data b)
content_plain n b = text_plain n _

pub each_plain : {A : Type 0} (n : ℕ) (P : A → Type 0) (data_of : A → Data) → ((x : A) → P x → IsPlain n (data_of x)) → (xs : List A) → Each P xs → ArePlain n (items_of (map data_of xs))
each_plain n P data_of f [] p = tt
each_plain n P data_of f (x ∷ xs) p = (f x p.0, each_plain n P data_of f xs p.1)

pub texts_plain : (n : ℕ) (ts : List (List ℕ)) → ArePlain n (items_of (map string ts))
texts_plain n [] = tt
texts_plain n (t ∷ ts) = (text_plain n t, texts_plain n ts)
