-- Fields mean at most one input, a field has at most one fault, and the written form of an input
-- spells it.
use Rattle.std.specs.Prelude.{◌≡◌, ℕ, List, []}
use Rattle.std.proofs.Common.{sym, ap, ◌∙◌, arith}
use Rattle.wire_fields.specs.Varint.{Fault}
use Rattle.wire_fields.specs.Field.{WireField}
use Rattle.wire_fields.specs.Message.{IsSound, spans, last_or}
use Rattle.wire_fields.specs.Spelling.{bytes_field, spelling, AreWritable}
use Rattle.wire_fields.proofs.Again.{whole_again, AreWritable-append}
use Rattle.wire_fields.proofs.Values.{by_spans, last-own_bytes, IsSound-append, bytes_writable, bytes_sound, one_text}
use Rattle.wire_messages.specs.declared.input.Input.{Input}
use Rattle.wire_messages.specs.Input.{IsInput, input_refuses, SpellsInput, input_fields, IsInputValue}

pub one_input : (fs : List WireField) (m n : Input) → IsInput fs m → IsInput fs n → m ≡ n
one_input fs m n p q = λ i. record {
  path = (p.path ∙ sym q.path) i;
  digest = (p.digest ∙ sym q.digest) i;
}

pub one_input_fault : (f : WireField) (x y : Fault) → input_refuses f x → input_refuses f y → x ≡ y
one_input_fault f x y p q = one_text 1 f x y p q

paths : (m : Input) → spans 1 (input_fields m) ≡ spans 1 (bytes_field 1 m.path)
unfolding input_fields
paths m = simp by_spans

digests : (m : Input) → spans 2 (input_fields m) ≡ spans 2 (bytes_field 2 m.digest)
unfolding input_fields
digests m = simp by_spans

input_writable : (m : Input) → IsInputValue m → AreWritable (input_fields m)
unfolding input_fields
input_writable m v = AreWritable-append _ _
    (bytes_writable 1 m.path (omega arith) (omega arith) v.path.1)
    (bytes_writable 2 m.digest (omega arith) (omega arith) v.digest)

input_sound : (m : Input) → IsInputValue m → IsSound input_refuses (input_fields m)
unfolding input_fields
input_sound m v = IsSound-append input_refuses _ _
    (bytes_sound input_refuses 1 m.path (λ x r. r.1 v.path.0))
    (bytes_sound input_refuses 2 m.digest (λ x r. absurd (omega (arith, r.0))))

pub input_again : (m : Input) → IsInputValue m → SpellsInput (spelling (input_fields m)) m
input_again m v = record {
  fields = input_fields m;
  spelled = whole_again (input_fields m) (input_writable m v);
  sound = input_sound m v;
  meant = record {
    path = sym (ap (λ (xs : List (List ℕ)). last_or [] xs) (paths m) ∙ last-own_bytes 1 m.path);
    digest =
        sym (ap (λ (xs : List (List ℕ)). last_or [] xs) (digests m) ∙ last-own_bytes 2 m.digest);
  };
}
