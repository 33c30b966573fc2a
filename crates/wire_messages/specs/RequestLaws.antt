-- Fields mean at most one request, a field has at most one fault, and the written form of a request
-- spells it.
use Rattle.std.specs.Prelude.{◌≡◌, ◌⊎◌, ℕ, List, [], map}
use Rattle.std.specs.Int.{w64, cast_unsigned}
use Rattle.std.proofs.Common.{cond, ltb, sym, ap, subst, ◌∙◌, inl, inr, arith}
use Rattle.std.proofs.lemmas.List.Elements.{recursion_from_All}
use Rattle.wire_fields.specs.Varint.{Fault}
use Rattle.wire_fields.specs.Field.{WireField, Number, Bytes}
use Rattle.wire_fields.specs.Message.{IsSound, RefusesText, RefusesMessage, last_or, numbers, spans, int32, AreSpelled}
use Rattle.wire_fields.specs.Spelling.{int32_field, bool_field, bytes_field, repeated_field, spelling, AreWritable}
use Rattle.wire_fields.specs.After.{IsText}
use Rattle.wire_fields.proofs.Messages.{spells_or_faulty, one_message, AreSpelled-same}
use Rattle.wire_fields.proofs.Again.{whole_again, AreWritable-append}
use Rattle.wire_fields.proofs.Values.{int32_bits, by_numbers, by_spans, last-own_number, last-own_bytes, spans-own_repeated, flag_again, IsSound-append, int32_writable, bool_writable, bytes_writable, repeated_writable, repeated_sound, number_sound, bytes_sound, written_spelled, texts_fine, messages_fine, one_or, one_text, one_embedded, apart}
use Rattle.wire_messages.specs.declared.input.Input.{Input}
use Rattle.wire_messages.specs.declared.request.WorkRequest.{WorkRequest}
use Rattle.wire_messages.specs.Input.{IsInput, input_refuses, SpellsInput, FaultyInput, IsInputValue}
use Rattle.wire_messages.specs.InputLaws.{one_input, one_input_fault, input_again}
use Rattle.wire_messages.specs.Request.{IsRequest, request_refuses, SpellsRequest, request_fields, input_spelling, IsRequestValue}

pub one_request : (fs : List WireField) (m n : WorkRequest) → IsRequest fs m → IsRequest fs n
    → m ≡ n
one_request fs m n p q = λ i. record {
  arguments = (p.arguments ∙ sym q.arguments) i;
  inputs = AreSpelled-same SpellsInput
      (one_message input_refuses IsInput one_input) _ m.inputs n.inputs p.inputs q.inputs i;
  request_id = (p.request_id ∙ sym q.request_id) i;
  cancel = (p.cancel ∙ sym q.cancel) i;
  verbosity = (p.verbosity ∙ sym q.verbosity) i;
  sandbox_dir = (p.sandbox_dir ∙ sym q.sandbox_dir) i;
}

-- ---- a field has at most one fault

abbrev LaterRefusals : WireField → Fault → Type 0
LaterRefusals f x = RefusesMessage FaultyInput 2 f x ⊎ RefusesText 6 f x

later_faults : (f : WireField) (x y : Fault) → LaterRefusals f x → LaterRefusals f y → x ≡ y
later_faults f = one_or (RefusesMessage FaultyInput 2 f) (RefusesText 6 f)
    (one_embedded input_refuses one_input_fault 2 f) (one_text 6 f)
    (λ x y p q. apart f 2 6 p.0 q.0 (λ e. omega arith))

argument_or_later : (f : WireField) (x y : Fault) → RefusesText 1 f x → LaterRefusals f y → x ≡ y
argument_or_later f x y p (inl q) = apart f 1 2 p.0 q.0 (λ e. omega arith)
argument_or_later f x y p (inr q) = p.2 ∙ sym q.2

pub one_request_fault : (f : WireField) (x y : Fault) → request_refuses f x → request_refuses f y
    → x ≡ y
one_request_fault f =
    one_or (RefusesText 1 f) (LaterRefusals f) (one_text 1 f) (later_faults f) (argument_or_later f)

-- ---- each field that is written is not refused

number_fine : (n v : ℕ) (x : Fault) → request_refuses (record { number = n; content = Number v }) x
    → ⊥
number_fine n v x (inl p) = p.1
number_fine n v x (inr (inl p)) = p.1
number_fine n v x (inr (inr p)) = p.1

argument_fine : (s : List ℕ) → IsText s → (x : Fault)
    → request_refuses (record { number = 1; content = Bytes s }) x → ⊥
argument_fine s text x (inl p) = p.1 text.0
argument_fine s text x (inr (inl p)) = absurd (omega (arith, p.0))
argument_fine s text x (inr (inr p)) = p.1 text.0

input_fine : (m : Input) → IsInputValue m → (x : Fault)
    → request_refuses (record { number = 2; content = Bytes (input_spelling m) }) x → ⊥
input_fine m v x (inl p) = absurd (omega (arith, p.0))
input_fine m v x (inr (inl p)) =
    spells_or_faulty input_refuses IsInput (input_spelling m) m x (input_again m v) p.1
input_fine m v x (inr (inr p)) = absurd (omega (arith, p.0))

sandbox_fine : (s : List ℕ) → IsText s → (x : Fault)
    → request_refuses (record { number = 6; content = Bytes s }) x → ⊥
sandbox_fine s text x (inl p) = p.1 text.0
sandbox_fine s text x (inr (inl p)) = absurd (omega (arith, p.0))
sandbox_fine s text x (inr (inr p)) = p.1 text.0

-- ---- the fields by their numbers

arguments_of : (m : WorkRequest)
    → spans 1 (request_fields m) ≡ spans 1 (repeated_field 1 m.arguments)
unfolding request_fields
arguments_of m = simp by_spans

inputs_of : (m : WorkRequest)
    → spans 2 (request_fields m) ≡ spans 2 (repeated_field 2 (map input_spelling m.inputs))
unfolding request_fields
inputs_of m = simp by_spans

request_ids : (m : WorkRequest)
    → numbers 3 (request_fields m) ≡ numbers 3 (int32_field 3 m.request_id)
unfolding request_fields
request_ids m = simp by_numbers

cancels : (m : WorkRequest) → numbers 4 (request_fields m) ≡ numbers 4 (bool_field 4 m.cancel)
unfolding request_fields
cancels m = simp by_numbers

verbosities : (m : WorkRequest)
    → numbers 5 (request_fields m) ≡ numbers 5 (int32_field 5 m.verbosity)
unfolding request_fields
verbosities m = simp by_numbers

sandboxes : (m : WorkRequest) → spans 6 (request_fields m) ≡ spans 6 (bytes_field 6 m.sandbox_dir)
unfolding request_fields
sandboxes m = simp by_spans

-- ---- the written form spells the request

request_writable : (m : WorkRequest) → IsRequestValue m → AreWritable (request_fields m)
unfolding request_fields
request_writable m v =
    let arguments = texts_fine request_refuses 1 argument_fine m.arguments
    (recursion_from_All _ m.arguments v.arguments) in
    let inputs = messages_fine request_refuses 2 IsInputValue input_spelling SpellsInput input_again
    input_fine m.inputs (recursion_from_All _ m.inputs v.inputs) in
    AreWritable-append _ _
    (AreWritable-append _ _
    (AreWritable-append _ _ (AreWritable-append _ _ (AreWritable-append _ _
    (repeated_writable 1 m.arguments (omega arith) (omega arith) arguments.1)
    (repeated_writable 2 (map input_spelling m.inputs) (omega arith) (omega arith) inputs.1))
    (int32_writable 3 m.request_id (omega arith) (omega arith) v.request_id))
    (bool_writable 4 m.cancel (omega arith) (omega arith)))
    (int32_writable 5 m.verbosity (omega arith) (omega arith) v.verbosity))
    (bytes_writable 6 m.sandbox_dir (omega arith) (omega arith) v.sandbox_dir.1)

request_sound : (m : WorkRequest) → IsRequestValue m → IsSound request_refuses (request_fields m)
unfolding request_fields
request_sound m v =
    let arguments = texts_fine request_refuses 1 argument_fine m.arguments
    (recursion_from_All _ m.arguments v.arguments) in
    let inputs = messages_fine request_refuses 2 IsInputValue input_spelling SpellsInput input_again
    input_fine m.inputs (recursion_from_All _ m.inputs v.inputs) in
    IsSound-append request_refuses _ _
    (IsSound-append request_refuses _ _
    (IsSound-append request_refuses _ _
    (IsSound-append request_refuses _ _ (IsSound-append request_refuses _ _
    (repeated_sound request_refuses 1 m.arguments arguments.0)
    (repeated_sound request_refuses 2 (map input_spelling m.inputs) inputs.0))
    (number_sound request_refuses 3 (cast_unsigned w64 m.request_id)
    (number_fine 3 (cast_unsigned w64 m.request_id))))
    (number_sound request_refuses 4 (cond m.cancel 1 0) (number_fine 4 (cond m.cancel 1 0))))
    (number_sound request_refuses 5 (cast_unsigned w64 m.verbosity)
    (number_fine 5 (cast_unsigned w64 m.verbosity))))
    (bytes_sound request_refuses 6 m.sandbox_dir (sandbox_fine m.sandbox_dir v.sandbox_dir))

request_means : (m : WorkRequest) → IsRequestValue m → IsRequest (request_fields m) m
request_means m v =
    let inputs = messages_fine request_refuses 2 IsInputValue input_spelling SpellsInput input_again
    input_fine m.inputs (recursion_from_All _ m.inputs v.inputs) in
    record {
      arguments = sym (arguments_of m ∙ spans-own_repeated 1 m.arguments);
      inputs = subst (λ (ss : List (List ℕ)). AreSpelled SpellsInput ss m.inputs)
          (sym (inputs_of m ∙ spans-own_repeated 2 (map input_spelling m.inputs)))
          (written_spelled SpellsInput input_spelling m.inputs inputs.2);
      request_id = sym
          (ap (λ (xs : List ℕ). int32 (last_or 0 xs)) (request_ids m)
          ∙ ap int32 (last-own_number 3 (cast_unsigned w64 m.request_id))
          ∙ int32_bits m.request_id v.request_id);
      cancel = sym (ap (λ (xs : List ℕ). ltb 0 (last_or 0 xs)) (cancels m)
          ∙ ap (ltb 0) (last-own_number 4 (cond m.cancel 1 0)) ∙ flag_again m.cancel);
      verbosity = sym
          (ap (λ (xs : List ℕ). int32 (last_or 0 xs)) (verbosities m)
          ∙ ap int32 (last-own_number 5 (cast_unsigned w64 m.verbosity))
          ∙ int32_bits m.verbosity v.verbosity);
      sandbox_dir = sym
          (ap (λ (xs : List (List ℕ)). last_or [] xs) (sandboxes m)
          ∙ last-own_bytes 6 m.sandbox_dir);
    }

pub request_again : (m : WorkRequest) → IsRequestValue m
    → SpellsRequest (spelling (request_fields m)) m
request_again m v = record {
  fields = request_fields m;
  spelled = whole_again (request_fields m) (request_writable m v);
  sound = request_sound m v;
  meant = request_means m v;
}
