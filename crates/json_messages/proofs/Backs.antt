-- What was written is read back.
use Rattle.std.proofs.Common.{◌≡◌, ℕ, zero, suc, ◌+◌, ◌<◌, ◌≤◌, ◌^◌, ℤ, pos, negsuc, Bool, true, false, cond, List, [], ◌∷◌, ◌++◌, map, Option, Some, None, option_and_then, Result, Ok, Err, refl, sym, ap, subst, ◌∙◌, arith}
use Rattle.std.proofs.lemmas.Bool.{ltb-true, lt-ltb}
use Rattle.std.specs.Prelude.{IfOk, IfSome, OnOk}
use Rattle.serde_json.specs.Data.{Data, number, unsigned, negative, boolean, string, array, object, Items, no_items, item}
use Rattle.serde_json.specs.Find.{get, as_i64, as_u64}
use Rattle.serde_json.specs.View.{items_of}
use Rattle.base64.specs.Engines.{standard}
use Rattle.base64.specs.GeneralPurpose.{IsBytes, IsConsistent, decode_of, encode_of}
use Rattle.base64.proofs.EngineFacts.{decode_of-encode_of}
use Rattle.wire_messages.specs.declared.fault.JsonKey.{JsonKey}
use Rattle.wire_messages.specs.declared.fault.JsonKey.TheVariants as key
use Rattle.wire_messages.specs.declared.fault.MessageFault.{MessageFault}
use Rattle.wire_messages.specs.declared.input.Input.{Input}
use Rattle.wire_messages.specs.declared.request.WorkRequest.{WorkRequest}
use Rattle.wire_messages.specs.declared.response.WorkResponse.{WorkResponse}
use Rattle.json_messages.specs.Answers.{and_then}
use Rattle.list_lemmas.specs.Options.{or_else}
use Rattle.json_messages.specs.Keys.{unless_null, value_at, camel, snake}
use Rattle.json_messages.specs.Values.{datas, default_or, decoded, digest_in, each, flag_in, is_small, list_in, number_in, text_in, in_range}
use Rattle.json_messages.specs.Messages.{input_in, inputs_at, request_in, request_of, response_in, response_of}
use Rattle.json_messages.specs.Writing.{array_data, digest_data, flag_data, input_data, input_parts, members_after, number_data, object_of, request_data, request_parts, request_text, response_data, response_parts, response_text, text_data}
use Rattle.json_messages.specs.Top.{if_object, json_in}
use Rattle.serde_json.specs.Written.{compact_text}
use Rattle.json_messages.proofs.Objects.{found, found_in, IsPlain, PlainParts, object_plain, array_plain, ArePlainItems}

-- ---- each part's value

small_range : (k : JsonKey) (z : ℤ) → is_small z ≡ true → in_range k (Some z) ≡ Ok z
small_range k z e = rw e refl

unsigned_fits : (n : ℕ) → is_small (pos n) ≡ true → as_i64 (unsigned n) ≡ Some (pos n)
unsigned_fits n e = let l : n < 2 ^ 31 = ltb-true _ _ e in let m : n < 2 ^ 63 = omega arith in rw (lt-ltb n (2 ^ 63) m) refl

pub number_back : (k : JsonKey) (z : ℤ) → is_small z ≡ true → default_or (pos 0) (number_in k) (option_and_then unless_null (number_data z)) ≡ Ok z
number_back k (pos zero) e = refl
number_back k (pos (suc n)) e = rw (unsigned_fits (suc n) e) (small_range k (pos (suc n)) e)
number_back k (negsuc n) e = small_range k (negsuc n) e

pub flag_back : (k : JsonKey) (b : Bool) → default_or false (flag_in k) (option_and_then unless_null (flag_data b)) ≡ Ok b
flag_back k true = refl
flag_back k false = refl

pub text_back : (k : JsonKey) (s : List ℕ) → default_or [] (text_in k) (option_and_then unless_null (text_data s)) ≡ Ok s
text_back k [] = refl
text_back k (b ∷ bs) = refl

digest_back : (s : List ℕ) → decode_of standard (encode_of standard s) ≡ Ok s → default_or [] digest_in (option_and_then unless_null (digest_data s)) ≡ Ok s
digest_back [] e = refl
digest_back (b ∷ bs) e = ap decoded e

datas-items_of : (ds : List Data) → datas (items_of ds) ≡ ds
datas-items_of [] = refl
datas-items_of (d ∷ ds) = ap (λ (xs : List Data). d ∷ xs) (datas-items_of ds)

list_back : {A : Type 0} (k : JsonKey) (kind : Data → Result A MessageFault) (xs : List A) (ds : List Data) → each kind ds ≡ Ok xs → default_or [] (list_in k kind) (option_and_then unless_null (array_data ds)) ≡ Ok xs
list_back k kind xs [] e = e
list_back k kind xs (d ∷ ds) e = ap (λ (ys : List Data). each kind ys) (datas-items_of (d ∷ ds)) ∙ e

texts_back : (k : JsonKey) (ts : List (List ℕ)) → each (text_in k) (map string ts) ≡ Ok ts
texts_back k [] = refl
texts_back k (t ∷ ts) = ap (λ (r : Result (List (List ℕ)) MessageFault). and_then r (λ xs. Ok (t ∷ xs))) (texts_back k ts)

-- ---- what stands at a key

-- a part under a name of its own
once : (o : Option Data) → or_else (or_else o None) None ≡ o
once None = refl
once (Some d) = refl

-- a part whose two names are one
twice : (o : Option Data) → or_else (or_else o None) (or_else o None) ≡ o
twice None = refl
twice (Some d) = refl

stands_at : (k : JsonKey) (parts : List (JsonKey × Option Data)) (o : Option Data) → or_else (found (camel k) None parts) (found (snake k) None parts) ≡ o → value_at k (object_of parts) ≡ option_and_then unless_null o
stands_at k parts o e =
    ap (λ (x : Option Data). option_and_then unless_null (or_else x (get (snake k) (object_of parts)))) (found_in (camel k) parts)
    ∙ ap (λ (x : Option Data). option_and_then unless_null (or_else (found (camel k) None parts) x)) (found_in (snake k) parts)
    ∙ ap (λ (x : Option Data). option_and_then unless_null x) e

-- ---- messages

consistent : IsConsistent standard
consistent = refl

pub response_back : (m : WorkResponse) → is_small m.exit_code ≡ true → is_small m.request_id ≡ true → response_in (object_of (response_parts m)) ≡ Ok m
response_back m exit id =
    let a = ap (default_or (pos 0) (number_in key.ExitCode)) (stands_at key.ExitCode (response_parts m) (number_data m.exit_code) (once (number_data m.exit_code))) ∙ number_back key.ExitCode m.exit_code exit in
    let b = ap (default_or [] (text_in key.Output)) (stands_at key.Output (response_parts m) (text_data m.output) (twice (text_data m.output))) ∙ text_back key.Output m.output in
    let c = ap (default_or (pos 0) (number_in key.RequestId)) (stands_at key.RequestId (response_parts m) (number_data m.request_id) (once (number_data m.request_id))) ∙ number_back key.RequestId m.request_id id in
    let d = ap (default_or false (flag_in key.WasCancelled)) (stands_at key.WasCancelled (response_parts m) (flag_data m.was_cancelled) (once (flag_data m.was_cancelled))) ∙ flag_back key.WasCancelled m.was_cancelled in
    rw (a, b, c, d) refl

pub input_back : (m : Input) → IsBytes m.digest → input_in (input_data m) ≡ Ok m
input_back m bytes =
    let a = ap (default_or [] (text_in key.Path)) (stands_at key.Path (input_parts m) (text_data m.path) (twice (text_data m.path))) ∙ text_back key.Path m.path in
    let b = ap (default_or [] digest_in) (stands_at key.Digest (input_parts m) (digest_data m.digest) (twice (digest_data m.digest))) ∙ digest_back m.digest (decode_of-encode_of standard m.digest consistent bytes) in
    rw (a, b) refl

pub request_back : (m : WorkRequest) → each input_in (map input_data m.inputs) ≡ Ok m.inputs → is_small m.request_id ≡ true → is_small m.verbosity ≡ true → request_in (object_of (request_parts m)) ≡ Ok m
request_back m inputs id verbosity =
    let parts = request_parts m in
    let a = ap (default_or [] (list_in key.Arguments (text_in key.Arguments))) (stands_at key.Arguments parts (array_data (map string m.arguments)) (twice (array_data (map string m.arguments)))) ∙ list_back key.Arguments (text_in key.Arguments) m.arguments (map string m.arguments) (texts_back key.Arguments m.arguments) in
    let b = ap (default_or [] (list_in key.Inputs input_in)) (stands_at key.Inputs parts (array_data (map input_data m.inputs)) (twice (array_data (map input_data m.inputs)))) ∙ list_back key.Inputs input_in m.inputs (map input_data m.inputs) inputs in
    let c = ap (default_or (pos 0) (number_in key.RequestId)) (stands_at key.RequestId parts (number_data m.request_id) (once (number_data m.request_id))) ∙ number_back key.RequestId m.request_id id in
    let d = ap (default_or false (flag_in key.Cancel)) (stands_at key.Cancel parts (flag_data m.cancel) (twice (flag_data m.cancel))) ∙ flag_back key.Cancel m.cancel in
    let e = ap (default_or (pos 0) (number_in key.Verbosity)) (stands_at key.Verbosity parts (number_data m.verbosity) (twice (number_data m.verbosity))) ∙ number_back key.Verbosity m.verbosity verbosity in
    let f = ap (default_or [] (text_in key.SandboxDir)) (stands_at key.SandboxDir parts (text_data m.sandbox_dir) (once (text_data m.sandbox_dir))) ∙ text_back key.SandboxDir m.sandbox_dir in
    rw (a, b, c, d, e, f) refl

-- ---- no floats, and few levels

number_plain : (z : ℤ) → IfSome (number_data z) (IsPlain 0)
number_plain (pos zero) = tt
number_plain (pos (suc n)) = record { exact = refl; shallow = omega arith }
number_plain (negsuc n) = record { exact = refl; shallow = omega arith }

flag_plain : (b : Bool) → IfSome (flag_data b) (IsPlain 0)
flag_plain true = record { exact = refl; shallow = omega arith }
flag_plain false = tt

text_plain : (s : List ℕ) → IfSome (text_data s) (IsPlain 0)
text_plain [] = tt
text_plain (b ∷ bs) = record { exact = refl; shallow = omega arith }

digest_plain : (s : List ℕ) → IfSome (digest_data s) (IsPlain 0)
digest_plain [] = tt
digest_plain (b ∷ bs) = record { exact = refl; shallow = omega arith }

texts_plain : (ts : List (List ℕ)) → ArePlainItems 0 (map string ts)
texts_plain [] = tt
texts_plain (t ∷ ts) = (record { exact = refl; shallow = omega arith }, texts_plain ts)

input_plain : (m : Input) → IsPlain 1 (input_data m)
input_plain m = object_plain 0 (input_parts m) (text_plain m.path, (digest_plain m.digest, tt))

inputs_plain : (ms : List Input) → ArePlainItems 1 (map input_data ms)
inputs_plain [] = tt
inputs_plain (m ∷ ms) = (input_plain m, inputs_plain ms)

deeper : (m n : ℕ) (o : Option Data) → m ≤ n → IfSome o (IsPlain m) → IfSome o (IsPlain n)
deeper m n None le p = tt
deeper m n (Some d) le p = let a = p.shallow in record { exact = p.exact; shallow = omega (arith, a) }

pub response_plain : (m : WorkResponse) → IsPlain 1 (object_of (response_parts m))
response_plain m = object_plain 0 (response_parts m) (number_plain m.exit_code, (text_plain m.output, (number_plain m.request_id, (flag_plain m.was_cancelled, tt))))

pub request_plain : (m : WorkRequest) → IsPlain 3 (object_of (request_parts m))
request_plain m = object_plain 2 (request_parts m) (
  deeper 1 2 (array_data (map string m.arguments)) (omega arith) (array_plain 0 (map string m.arguments) (texts_plain m.arguments)),
  (
    array_plain 1 (map input_data m.inputs) (inputs_plain m.inputs),
    (
      deeper 0 2 (number_data m.request_id) (omega arith) (number_plain m.request_id),
      (
        deeper 0 2 (flag_data m.cancel) (omega arith) (flag_plain m.cancel),
        (
          deeper 0 2 (number_data m.verbosity) (omega arith) (number_plain m.verbosity),
          (deeper 0 2 (text_data m.sandbox_dir) (omega arith) (text_plain m.sandbox_dir), tt),
        ),
      ),
    ),
  ),
)

-- ---- lines

pub if_ok : {A E : Type 0} (r : Result A E) (P Q : A → Type 0) → ((a : A) → P a → Q a) → IfOk r P → IfOk r Q
if_ok (Result.Ok a) P Q f p = f a p
if_ok (Result.Err e) P Q f p = p

pub on_ok : {A E : Type 0} (r : Result A E) (P Q : Type 0) → (P → Q) → OnOk r P → OnOk r Q
on_ok (Result.Ok a) P Q f p = f p
on_ok (Result.Err e) P Q f p = p

pub response_spelled : (m : WorkResponse) (d : Data) → d ≡ response_data m → json_in (compact_text d) ≡ Ok d → response_in (response_data m) ≡ Ok m → response_of (response_text m) ≡ Ok m
unfolding response_text
response_spelled m d is read back =
    let read' = subst (λ (x : Data). json_in (compact_text x) ≡ Ok x) is read in
    ap (λ (r : Result Data MessageFault). and_then (and_then r if_object) response_in) read' ∙ back

pub request_spelled : (m : WorkRequest) (d : Data) → d ≡ request_data m → json_in (compact_text d) ≡ Ok d → request_in (request_data m) ≡ Ok m → request_of (request_text m) ≡ Ok m
unfolding request_text
request_spelled m d is read back =
    let read' = subst (λ (x : Data). json_in (compact_text x) ≡ Ok x) is read in
    ap (λ (r : Result Data MessageFault). and_then (and_then r if_object) request_in) read' ∙ back

pub response_written : (m : WorkResponse) (d : Data) → d ≡ response_data m → compact_text d ≡ response_text m
unfolding response_text
response_written m d is = ap compact_text is

pub request_written : (m : WorkRequest) (d : Data) → d ≡ request_data m → compact_text d ≡ request_text m
unfolding request_text
request_written m d is = ap compact_text is
