-- What is written holds no line feed.
use Rattle.std.proofs.Common.{◌≡◌, ℕ, zero, suc, ◌+◌, ◌/◌, ◌%◌, ◌<◌, ◌≤◌, ◌^◌, ℤ, pos, negsuc, Bool, true, false, not, cond, ◌&&◌, ◌||◌, eqb, ltb, List, [], ◌∷◌, ◌++◌, map, Ordering, Less, Equal, Greater, Option, Some, None, refl, sym, ap, ◌∙◌, arith}
use Rattle.std.specs.Prelude.{IfSome, decimal}
use Rattle.std.specs.Char.{digit_char, digit_value}
use Rattle.std.specs.List.{list_all, flat_map}
use Rattle.std.specs.Ordering.{nat_cmp, match_ordering}
use Rattle.std.specs.Cmp.Lexicographic.{slice_cmp}
use Rattle.std.specs.Str.Parse.{AllDigits}
use Rattle.std.proofs.lemmas.Bool.{eqb-true, ltb-false, ltb-true, ne_eqb}
use Rattle.std.proofs.lemmas.Fmt.{decimal_is_IsNumeral_wide}
use Rattle.std.proofs.lemmas.List.Concat.{flat_map-cons}
use Rattle.std.proofs.lemmas.List.Folds.{list_all-append}
use Rattle.std.proofs.lemmas.Str.Parse.{digit_from_value}
use Rattle.json.specs.Print.{escape, escape_byte, escape_letter, quoted}
use Rattle.serde_json.specs.Data.{Data, number, unsigned, negative, boolean, string, object, array, Members, no_members, member, put}
use Rattle.serde_json.specs.View.{items_of}
use Rattle.serde_json.specs.Written.{compact_text, comma_if, items_text, members_text}
use Rattle.wire_messages.specs.declared.fault.JsonKey.{JsonKey}
use Rattle.wire_messages.specs.declared.input.Input.{Input}
use Rattle.wire_messages.specs.declared.request.WorkRequest.{WorkRequest}
use Rattle.wire_messages.specs.declared.response.WorkResponse.{WorkResponse}
use Rattle.json_messages.specs.Keys.{camel}
use Rattle.json_messages.specs.OneLine.{in_line, IsOneLine}
use Rattle.json_messages.specs.Values.{is_small}
use Rattle.json_messages.specs.Writing.{array_data, digest_data, flag_data, input_data, input_parts, members_after, number_data, object_of, request_parts, request_text, response_parts, response_text, said, text_data}

together : (xs ys : List ℕ) → IsOneLine xs → IsOneLine ys → IsOneLine (xs ++ ys)
together xs ys p q = list_all-append in_line xs ys ∙ ap (λ (b : Bool). b && list_all in_line ys) p ∙ q

above : (x : ℕ) → 11 ≤ x → in_line x ≡ true
above x le = ap not (ne_eqb x 10 (λ e. omega arith))

one : (x : ℕ) (xs : List ℕ) → 11 ≤ x → IsOneLine xs → IsOneLine (x ∷ xs)
one x xs le p = ap (λ (b : Bool). b && list_all in_line xs) (above x le) ∙ p

-- ---- strings

either : (a b : Bool) (x : ℕ) → (a ≡ true → 11 ≤ x) → (b ≡ true → 11 ≤ x) → a || b ≡ true → 11 ≤ x
either true b x p q e = p refl
either false b x p q e = q e

letter : (quote bell page line back tab : Bool) (x : ℕ) → (quote ≡ true → 11 ≤ x) → 0 < cond quote x (cond bell 98 (cond page 102 (cond line 110 (cond back 114 (cond tab 116 0))))) → 11 ≤ cond quote x (cond bell 98 (cond page 102 (cond line 110 (cond back 114 (cond tab 116 0)))))
letter true bell page line back tab x p l = p refl
letter false true page line back tab x p l = omega arith
letter false false true line back tab x p l = omega arith
letter false false false true back tab x p l = omega arith
letter false false false false true tab x p l = omega arith
letter false false false false false true x p l = omega arith
letter false false false false false false x p l = absurd (omega arith)

letter_above : (x : ℕ) → 0 < escape_letter x → 11 ≤ escape_letter x
letter_above x l =
    letter (eqb x 34 || eqb x 92) (eqb x 8) (eqb x 12) (eqb x 10) (eqb x 13) (eqb x 9) x
    (either (eqb x 34) (eqb x 92) x (λ e. let is : x ≡ 34 = eqb-true _ _ e in omega arith) (λ e. let is : x ≡ 92 = eqb-true _ _ e in omega arith)) l

hex : (t : Bool) (d : ℕ) → 11 ≤ cond t (48 + d) (87 + d)
hex true d = omega arith
hex false d = omega arith

escaped_by : (s t : Bool) (x : ℕ) → ltb 0 (escape_letter x) ≡ s → ltb x 32 ≡ t
    → IsOneLine (cond s (92 ∷ escape_letter x ∷ []) (cond t (92 ∷ 117 ∷ 48 ∷ 48 ∷ digit_char (x / 16) ∷ digit_char (x % 16) ∷ []) (x ∷ [])))
escaped_by true t x p q = one (escape_letter x) [] (letter_above x (ltb-true _ _ p)) refl
escaped_by false true x p q = one (digit_char (x / 16)) (digit_char (x % 16) ∷ []) (hex (ltb (x / 16) 10) (x / 16)) (one (digit_char (x % 16)) [] (hex (ltb (x % 16) 10) (x % 16)) refl)
escaped_by false false x p q = let le : 32 ≤ x = ltb-false _ _ q in one x [] (omega arith) refl

byte_lined : (x : ℕ) → IsOneLine (escape_byte x)
unfolding escape_byte
byte_lined x = escaped_by (ltb 0 (escape_letter x)) (ltb x 32) x refl refl

escape_lined : (s : List ℕ) → IsOneLine (escape s)
escape_lined [] = refl
escape_lined (x ∷ xs) = ap (list_all in_line) (flat_map-cons escape_byte x xs) ∙ together (escape_byte x) (escape xs) (byte_lined x) (escape_lined xs)

quoted_lined : (s : List ℕ) → IsOneLine (quoted s)
quoted_lined s = together (escape s) (34 ∷ []) (escape_lined s) refl

-- ---- numbers

digits_lined : (s : List ℕ) → AllDigits 10 s → IsOneLine s
digits_lined [] p = refl
digits_lined (c ∷ cs) p = let r = digit_from_value c p.0 in let low = r.0 in one c cs (omega (arith, low)) (digits_lined cs p.1)

decimal_lined : (n : ℕ) → n < 2 ^ 32 → IsOneLine (decimal n)
decimal_lined n l = digits_lined (decimal n) (decimal_is_IsNumeral_wide n (omega arith)).0.1

-- ---- values

abbrev pub Lined : Data → Type 0
Lined d = IsOneLine (compact_text d)

abbrev AllLined : Members → Type 0
AllLined no_members = Unit {0}
AllLined (member k d ms) = Lined d × AllLined ms

lined_by : (o : Ordering) (a b c : Members) → AllLined a → AllLined b → AllLined c → AllLined (match_ordering o a b c)
lined_by Less a b c p q r = p
lined_by Equal a b c p q r = q
lined_by Greater a b c p q r = r

put_lined : (k : List ℕ) (d : Data) (ms : Members) → Lined d → AllLined ms → AllLined (put k d ms)
put_lined k d no_members p q = (p, tt)
put_lined k d (member l e ms) p q =
    lined_by (slice_cmp nat_cmp k l) (member k d (member l e ms)) (member l d ms) (member l e (put k d ms)) (p, q) (p, q.1) (q.0, put_lined k d ms p q.1)

comma_lined : (later : Bool) → IsOneLine (comma_if later)
comma_lined true = refl
comma_lined false = refl

members_lined : (later : Bool) (ms : Members) → AllLined ms → IsOneLine (members_text later ms)
members_lined later no_members p = refl
members_lined later (member k d ms) p =
    together (comma_if later) (quoted k ++ 58 ∷ (compact_text d ++ members_text true ms)) (comma_lined later)
    (together (quoted k) (58 ∷ (compact_text d ++ members_text true ms)) (quoted_lined k)
    (together (compact_text d) (members_text true ms) p.0 (members_lined true ms p.1)))

abbrev LinedParts : List (JsonKey × Option Data) → Type 0
LinedParts [] = Unit {0}
LinedParts (part ∷ parts) = IfSome part.1 Lined × LinedParts parts

said_lined : (k : JsonKey) (o : Option Data) (ms : Members) → IfSome o Lined → AllLined ms → AllLined (said k o ms)
said_lined k None ms p q = q
said_lined k (Some d) ms p q = put_lined (camel k) d ms p q

after_lined : (ms : Members) (parts : List (JsonKey × Option Data)) → AllLined ms → LinedParts parts → AllLined (members_after ms parts)
after_lined ms [] p q = p
after_lined ms (part ∷ parts) p q = after_lined (said part.0 part.1 ms) parts (said_lined part.0 part.1 ms q.0 p) q.1

object_lined : (parts : List (JsonKey × Option Data)) → LinedParts parts → Lined (object_of parts)
object_lined parts p = members_lined false (members_after no_members parts) (after_lined no_members parts tt p)

abbrev LinedItems : List Data → Type 0
LinedItems [] = Unit {0}
LinedItems (d ∷ ds) = Lined d × LinedItems ds

items_lined : (later : Bool) (ds : List Data) → LinedItems ds → IsOneLine (items_text later (items_of ds))
items_lined later [] p = refl
items_lined later (d ∷ ds) p =
    together (comma_if later) (compact_text d ++ items_text true (items_of ds)) (comma_lined later)
    (together (compact_text d) (items_text true (items_of ds)) p.0 (items_lined true ds p.1))

array_lined : (ds : List Data) → LinedItems ds → IfSome (array_data ds) Lined
array_lined [] p = tt
array_lined (d ∷ ds) p = items_lined false (d ∷ ds) p

-- ---- parts

number_lined : (z : ℤ) → is_small z ≡ true → IfSome (number_data z) Lined
number_lined (pos zero) e = tt
number_lined (pos (suc n)) e = let l : suc n < 2 ^ 31 = ltb-true _ _ e in decimal_lined (suc n) (omega arith)
number_lined (negsuc n) e = let l : n < 2 ^ 31 = ltb-true _ _ e in decimal_lined (suc n) (omega arith)

flag_lined : (b : Bool) → IfSome (flag_data b) Lined
flag_lined true = refl
flag_lined false = tt

text_lined : (s : List ℕ) → IfSome (text_data s) Lined
text_lined [] = tt
text_lined (b ∷ bs) = quoted_lined (b ∷ bs)

digest_lined : (s : List ℕ) → IfSome (digest_data s) Lined
digest_lined [] = tt
digest_lined (b ∷ bs) = quoted_lined _

texts_lined : (ts : List (List ℕ)) → LinedItems (map string ts)
texts_lined [] = tt
texts_lined (t ∷ ts) = (quoted_lined t, texts_lined ts)

inputs_lined : (ms : List Input) → LinedItems (map input_data ms)
inputs_lined [] = tt
inputs_lined (m ∷ ms) = (object_lined (input_parts m) (text_lined m.path, (digest_lined m.digest, tt)), inputs_lined ms)

pub response_lined : (m : WorkResponse) → is_small m.exit_code ≡ true → is_small m.request_id ≡ true → IsOneLine (response_text m)
unfolding response_text
response_lined m exit id = object_lined (response_parts m) (number_lined m.exit_code exit, (text_lined m.output, (number_lined m.request_id id, (flag_lined m.was_cancelled, tt))))

pub request_lined : (m : WorkRequest) → is_small m.request_id ≡ true → is_small m.verbosity ≡ true → IsOneLine (request_text m)
unfolding request_text
request_lined m id verbosity =
    object_lined (request_parts m) (
      array_lined (map string m.arguments) (texts_lined m.arguments),
      (
        array_lined (map input_data m.inputs) (inputs_lined m.inputs),
        (number_lined m.request_id id, (flag_lined m.cancel, (number_lined m.verbosity verbosity, (text_lined m.sandbox_dir, tt)))),
      ),
    )
