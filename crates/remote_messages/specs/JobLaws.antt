-- Fields mean at most one job, a field has at most one fault, and the written form of a job spells
-- it.
use Rattle.std.specs.Prelude.{◌≡◌, ◌⊎◌, ℕ, List, map}
use Rattle.std.specs.Int.{w64, cast_unsigned}
use Rattle.std.proofs.Common.{cond, ltb, sym, ap, subst, ◌∙◌, inl, inr, arith}
use Rattle.std.proofs.lemmas.List.Elements.{recursion_from_All}
use Rattle.wire_fields.specs.Varint.{Fault}
use Rattle.wire_fields.specs.Field.{WireField, Number, Bytes}
use Rattle.wire_fields.specs.Message.{IsSound, RefusesText, RefusesMessage, last_or, numbers, spans, int32, AreSpelled}
use Rattle.wire_fields.specs.Spelling.{int32_field, bool_field, repeated_field, spelling, AreWritable}
use Rattle.wire_fields.specs.After.{IsText}
use Rattle.wire_fields.proofs.Messages.{spells_or_faulty, one_message, AreSpelled-same}
use Rattle.wire_fields.proofs.Again.{whole_again, AreWritable-append}
use Rattle.wire_fields.proofs.Values.{int32_bits, by_numbers, by_spans, last-own_number, spans-own_repeated, flag_again, IsSound-append, int32_writable, bool_writable, repeated_writable, repeated_sound, number_sound, written_spelled, texts_fine, messages_fine, one_or, one_text, one_embedded, apart}
use Rattle.plain_values.specs.declared.command.Variable.{Variable}
use Rattle.remote_messages.specs.declared.file.NamedFile.{NamedFile}
use Rattle.remote_messages.specs.declared.job.Job.{Job}
use Rattle.remote_messages.specs.File.{IsFile, file_refuses, SpellsFile, FaultyFile, IsFileValue}
use Rattle.remote_messages.specs.FileLaws.{one_file, one_file_fault, file_again}
use Rattle.remote_messages.specs.Variable.{IsVariable, variable_refuses, SpellsVariable, FaultyVariable, IsVariableValue, variable_spelling}
use Rattle.remote_messages.specs.VariableLaws.{one_variable, one_variable_fault, variable_again}
use Rattle.remote_messages.specs.Job.{IsJob, job_refuses, SpellsJob, job_fields, IsJobValue, file_spelling}

pub one_job : (fs : List WireField) (m n : Job) → IsJob fs m → IsJob fs n → m ≡ n
one_job fs m n p q = λ i. record {
  id = (p.id ∙ sym q.id) i;
  arguments = (p.arguments ∙ sym q.arguments) i;
  inputs = AreSpelled-same SpellsFile
      (one_message file_refuses IsFile one_file) _ m.inputs n.inputs p.inputs q.inputs i;
  outputs = (p.outputs ∙ sym q.outputs) i;
  env = AreSpelled-same SpellsVariable
      (one_message variable_refuses IsVariable one_variable) _ m.env n.env p.env q.env i;
  cancel = (p.cancel ∙ sym q.cancel) i;
}

-- ---- a field has at most one fault

abbrev LastRefusals : WireField → Fault → Type 0
LastRefusals f x = RefusesText 4 f x ⊎ RefusesMessage FaultyVariable 5 f x

abbrev LaterRefusals : WireField → Fault → Type 0
LaterRefusals f x = RefusesMessage FaultyFile 3 f x ⊎ LastRefusals f x

last_faults : (f : WireField) (x y : Fault) → LastRefusals f x → LastRefusals f y → x ≡ y
last_faults f = one_or (RefusesText 4 f) (RefusesMessage FaultyVariable 5 f) (one_text 4 f)
    (one_embedded variable_refuses one_variable_fault 5 f)
    (λ x y p q. apart f 4 5 p.0 q.0 (λ e. omega arith))

input_or_last : (f : WireField) (x y : Fault) → RefusesMessage FaultyFile 3 f x → LastRefusals f y
    → x ≡ y
input_or_last f x y p (inl q) = apart f 3 4 p.0 q.0 (λ e. omega arith)
input_or_last f x y p (inr q) = apart f 3 5 p.0 q.0 (λ e. omega arith)

later_faults : (f : WireField) (x y : Fault) → LaterRefusals f x → LaterRefusals f y → x ≡ y
later_faults f = one_or (RefusesMessage FaultyFile 3 f) (LastRefusals f)
    (one_embedded file_refuses one_file_fault 3 f) (last_faults f) (input_or_last f)

argument_or_later : (f : WireField) (x y : Fault) → RefusesText 2 f x → LaterRefusals f y → x ≡ y
argument_or_later f x y p (inl q) = apart f 2 3 p.0 q.0 (λ e. omega arith)
argument_or_later f x y p (inr (inl q)) = p.2 ∙ sym q.2
argument_or_later f x y p (inr (inr q)) = apart f 2 5 p.0 q.0 (λ e. omega arith)

pub one_job_fault : (f : WireField) (x y : Fault) → job_refuses f x → job_refuses f y → x ≡ y
one_job_fault f =
    one_or (RefusesText 2 f) (LaterRefusals f) (one_text 2 f) (later_faults f) (argument_or_later f)

-- ---- each field that is written is not refused

number_fine : (n v : ℕ) (x : Fault) → job_refuses (record { number = n; content = Number v }) x → ⊥
number_fine n v x (inl p) = p.1
number_fine n v x (inr (inl p)) = p.1
number_fine n v x (inr (inr (inl p))) = p.1
number_fine n v x (inr (inr (inr p))) = p.1

argument_fine : (s : List ℕ) → IsText s → (x : Fault)
    → job_refuses (record { number = 2; content = Bytes s }) x → ⊥
argument_fine s text x (inl p) = p.1 text.0
argument_fine s text x (inr (inl p)) = absurd (omega (arith, p.0))
argument_fine s text x (inr (inr (inl p))) = p.1 text.0
argument_fine s text x (inr (inr (inr p))) = absurd (omega (arith, p.0))

input_fine : (m : NamedFile) → IsFileValue m → (x : Fault)
    → job_refuses (record { number = 3; content = Bytes (file_spelling m) }) x → ⊥
input_fine m v x (inl p) = absurd (omega (arith, p.0))
input_fine m v x (inr (inl p)) =
    spells_or_faulty file_refuses IsFile (file_spelling m) m x (file_again m v) p.1
input_fine m v x (inr (inr (inl p))) = absurd (omega (arith, p.0))
input_fine m v x (inr (inr (inr p))) = absurd (omega (arith, p.0))

output_fine : (s : List ℕ) → IsText s → (x : Fault)
    → job_refuses (record { number = 4; content = Bytes s }) x → ⊥
output_fine s text x (inl p) = p.1 text.0
output_fine s text x (inr (inl p)) = absurd (omega (arith, p.0))
output_fine s text x (inr (inr (inl p))) = p.1 text.0
output_fine s text x (inr (inr (inr p))) = absurd (omega (arith, p.0))

variable_fine : (m : Variable) → IsVariableValue m → (x : Fault)
    → job_refuses (record { number = 5; content = Bytes (variable_spelling m) }) x → ⊥
variable_fine m v x (inl p) = absurd (omega (arith, p.0))
variable_fine m v x (inr (inl p)) = absurd (omega (arith, p.0))
variable_fine m v x (inr (inr (inl p))) = absurd (omega (arith, p.0))
variable_fine m v x (inr (inr (inr p))) =
    spells_or_faulty variable_refuses IsVariable (variable_spelling m) m x (variable_again m v) p.1

-- ---- the fields by their numbers

ids : (m : Job) → numbers 1 (job_fields m) ≡ numbers 1 (int32_field 1 m.id)
unfolding job_fields
ids m = simp by_numbers

arguments_of : (m : Job) → spans 2 (job_fields m) ≡ spans 2 (repeated_field 2 m.arguments)
unfolding job_fields
arguments_of m = simp by_spans

inputs_of : (m : Job)
    → spans 3 (job_fields m) ≡ spans 3 (repeated_field 3 (map file_spelling m.inputs))
unfolding job_fields
inputs_of m = simp by_spans

outputs_of : (m : Job) → spans 4 (job_fields m) ≡ spans 4 (repeated_field 4 m.outputs)
unfolding job_fields
outputs_of m = simp by_spans

env_of : (m : Job)
    → spans 5 (job_fields m) ≡ spans 5 (repeated_field 5 (map variable_spelling m.env))
unfolding job_fields
env_of m = simp by_spans

cancels : (m : Job) → numbers 6 (job_fields m) ≡ numbers 6 (bool_field 6 m.cancel)
unfolding job_fields
cancels m = simp by_numbers

-- ---- the written form spells the job

job_writable : (m : Job) → IsJobValue m → AreWritable (job_fields m)
unfolding job_fields
job_writable m v =
    let arguments = texts_fine job_refuses 2 argument_fine m.arguments
    (recursion_from_All _ m.arguments v.arguments) in
    let inputs = messages_fine job_refuses 3 IsFileValue file_spelling SpellsFile file_again
    input_fine m.inputs (recursion_from_All _ m.inputs v.inputs) in
    let outputs =
    texts_fine job_refuses 4 output_fine m.outputs (recursion_from_All _ m.outputs v.outputs) in
    let env = messages_fine job_refuses 5 IsVariableValue variable_spelling SpellsVariable
    variable_again variable_fine m.env (recursion_from_All _ m.env v.env) in
    AreWritable-append _ _
    (AreWritable-append _ _
    (AreWritable-append _ _ (AreWritable-append _ _ (AreWritable-append _ _
    (int32_writable 1 m.id (omega arith) (omega arith) v.id)
    (repeated_writable 2 m.arguments (omega arith) (omega arith) arguments.1))
    (repeated_writable 3 (map file_spelling m.inputs) (omega arith) (omega arith) inputs.1))
    (repeated_writable 4 m.outputs (omega arith) (omega arith) outputs.1))
    (repeated_writable 5 (map variable_spelling m.env) (omega arith) (omega arith) env.1))
    (bool_writable 6 m.cancel (omega arith) (omega arith))

job_sound : (m : Job) → IsJobValue m → IsSound job_refuses (job_fields m)
unfolding job_fields
job_sound m v =
    let arguments = texts_fine job_refuses 2 argument_fine m.arguments
    (recursion_from_All _ m.arguments v.arguments) in
    let inputs = messages_fine job_refuses 3 IsFileValue file_spelling SpellsFile file_again
    input_fine m.inputs (recursion_from_All _ m.inputs v.inputs) in
    let outputs =
    texts_fine job_refuses 4 output_fine m.outputs (recursion_from_All _ m.outputs v.outputs) in
    let env = messages_fine job_refuses 5 IsVariableValue variable_spelling SpellsVariable
    variable_again variable_fine m.env (recursion_from_All _ m.env v.env) in
    IsSound-append job_refuses _ _
    (IsSound-append job_refuses _ _
    (IsSound-append job_refuses _ _
    (IsSound-append job_refuses _ _ (IsSound-append job_refuses _ _
    (number_sound job_refuses 1 (cast_unsigned w64 m.id) (number_fine 1 (cast_unsigned w64 m.id)))
    (repeated_sound job_refuses 2 m.arguments arguments.0))
    (repeated_sound job_refuses 3 (map file_spelling m.inputs) inputs.0))
    (repeated_sound job_refuses 4 m.outputs outputs.0))
    (repeated_sound job_refuses 5 (map variable_spelling m.env) env.0))
    (number_sound job_refuses 6 (cond m.cancel 1 0) (number_fine 6 (cond m.cancel 1 0)))

job_means : (m : Job) → IsJobValue m → IsJob (job_fields m) m
job_means m v =
    let inputs = messages_fine job_refuses 3 IsFileValue file_spelling SpellsFile file_again
    input_fine m.inputs (recursion_from_All _ m.inputs v.inputs) in
    let env = messages_fine job_refuses 5 IsVariableValue variable_spelling SpellsVariable
    variable_again variable_fine m.env (recursion_from_All _ m.env v.env) in
    record {
      id = sym (ap (λ (xs : List ℕ). int32 (last_or 0 xs)) (ids m)
          ∙ ap int32 (last-own_number 1 (cast_unsigned w64 m.id)) ∙ int32_bits m.id v.id);
      arguments = sym (arguments_of m ∙ spans-own_repeated 2 m.arguments);
      inputs = subst (λ (ss : List (List ℕ)). AreSpelled SpellsFile ss m.inputs)
          (sym (inputs_of m ∙ spans-own_repeated 3 (map file_spelling m.inputs)))
          (written_spelled SpellsFile file_spelling m.inputs inputs.2);
      outputs = sym (outputs_of m ∙ spans-own_repeated 4 m.outputs);
      env = subst (λ (ss : List (List ℕ)). AreSpelled SpellsVariable ss m.env)
          (sym (env_of m ∙ spans-own_repeated 5 (map variable_spelling m.env)))
          (written_spelled SpellsVariable variable_spelling m.env env.2);
      cancel = sym (ap (λ (xs : List ℕ). ltb 0 (last_or 0 xs)) (cancels m)
          ∙ ap (ltb 0) (last-own_number 6 (cond m.cancel 1 0)) ∙ flag_again m.cancel);
    }

pub job_again : (m : Job) → IsJobValue m → SpellsJob (spelling (job_fields m)) m
job_again m v = record {
  fields = job_fields m;
  spelled = whole_again (job_fields m) (job_writable m v);
  sound = job_sound m v;
  meant = job_means m v;
}
