-- What was written is read again.
use Rattle.std.proofs.Common.{◌≡◌, ℕ, zero, suc, ◌+◌, ◌*◌, ◌/◌, ◌%◌, ◌^◌, ◌<◌, ◌≤◌, List, [], ◌∷◌, ◌++◌, length, Ok, refl, ap, ◌∙◌, append_assoc, arith, inl, inr}
use Rattle.std.proofs.lemmas.Bool.{lt-ltb, le-ltb, le-leb, lt-leb, cases_lt}
use Rattle.std.proofs.lemmas.List.{take_at, drop_at, length-append, append-nil}
use Rattle.std.proofs.lemmas.List.Concat.{flat_map-cons}
use Rattle.wire_fields.specs.Varint.{number_at, varint_at, number_bytes, varint}
use Rattle.wire_fields.specs.Field.{WireField, Content, Number, Eight, Bytes, Four, span_at, content_at, field_at}
use Rattle.wire_fields.specs.Message.{Fields}
use Rattle.wire_fields.specs.Spelling.{wire_type, content_bytes, field_bytes, spelling, HoldsWritable, IsWritable, AreWritable}

number_again : (more n : ℕ) (rest : List ℕ) → n < 2 * 128 ^ more → number_at more (number_bytes more n ++ rest) ≡ Ok (n, rest)
unfolding number_at number_bytes
number_again zero n rest lt = rw (le-leb n 1 (omega arith)) refl
number_again (suc more) n rest lt =
    elim (cases_lt n 128) [
      | inl small ↦ rw (lt-ltb n 128 small, lt-ltb n 128 small) refl
      | inr big ↦
          let tail = number_again more (n / 128) rest (omega (arith, lt)) in
          let top : 128 ≤ n % 128 + 128 = omega arith in
          let whole : (n % 128 + 128) % 128 + 128 * (n / 128) ≡ n = omega arith in
          rw (le-ltb n 128 big, le-ltb (n % 128 + 128) 128 top, tail, whole) refl
    ]

pub varint_again : (n : ℕ) (rest : List ℕ) → n < 2 ^ 64 → varint_at (varint n ++ rest) ≡ Ok (n, rest)
unfolding varint_at varint
varint_again n rest lt = number_again 9 n rest lt

span_again : (s rest : List ℕ) → span_at (length s) (s ++ rest) ≡ Ok (s, rest)
span_again s rest = rw (le-ltb (length (s ++ rest)) (length s) (omega (arith, length-append s rest)), take_at s rest (length s) refl, drop_at s rest (length s) refl) refl

content_again : (c : Content) (rest : List ℕ) → HoldsWritable c → content_at (wire_type c) (content_bytes c ++ rest) ≡ Ok (c, rest)
unfolding content_at
content_again (Number n) rest fits = rw (varint_again n rest fits) refl
content_again Eight rest fits = absurd fits
content_again (Bytes s) rest fits = rw (append_assoc (varint (length s)) s rest, varint_again (length s) (s ++ rest) fits, span_again s rest) refl
content_again Four rest fits = absurd fits

wire_small : (c : Content) → wire_type c < 8
wire_small (Number n) = omega arith
wire_small Eight = omega arith
wire_small (Bytes s) = omega arith
wire_small Four = omega arith

pub field_again : (f : WireField) (rest : List ℕ) → IsWritable f → field_at (field_bytes f ++ rest) ≡ Ok (f, rest)
unfolding field_at
field_again f rest w =
    let small = wire_small f.content in
    let p = w.positive in
    let b = w.below in
    let tag : 8 * f.number + wire_type f.content < 2 ^ 32 = omega arith in
    let fits : 8 * f.number + wire_type f.content < 2 ^ 64 = omega arith in
    let ge : 8 ≤ 8 * f.number + wire_type f.content = omega arith in
    let n : (8 * f.number + wire_type f.content) / 8 ≡ f.number = omega arith in
    let t : (8 * f.number + wire_type f.content) % 8 ≡ wire_type f.content = omega arith in
    rw (
      append_assoc (varint (8 * f.number + wire_type f.content)) (content_bytes f.content) rest,
      varint_again (8 * f.number + wire_type f.content) (content_bytes f.content ++ rest) fits,
      lt-leb (2 ^ 32) (8 * f.number + wire_type f.content) tag,
      le-ltb (8 * f.number + wire_type f.content) 8 ge,
      t,
      n,
      content_again f.content rest w.holds,
    ) refl

-- The written form of fields is these fields.
pub fields_again : (fs : List WireField) (rest : List ℕ) → AreWritable fs → Fields (spelling fs ++ rest) fs rest
unfolding spelling
fields_again [] rest w = refl
fields_again (f ∷ fs) rest w =
    let e : spelling (f ∷ fs) ++ rest ≡ field_bytes f ++ (spelling fs ++ rest) = ap (λ (x : List ℕ). x ++ rest) (flat_map-cons field_bytes f fs) ∙ append_assoc (field_bytes f) (spelling fs) rest in
    (spelling fs ++ rest, ap field_at e ∙ field_again f (spelling fs ++ rest) w.0, fields_again fs rest w.1)

pub whole_again : (fs : List WireField) → AreWritable fs → Fields (spelling fs) fs []
whole_again fs w = rw (← append-nil (spelling fs)) (fields_again fs [] w)

pub AreWritable-append : (fs gs : List WireField) → AreWritable fs → AreWritable gs → AreWritable (fs ++ gs)
AreWritable-append [] gs p q = q
AreWritable-append (f ∷ fs) gs p q = (p.0, AreWritable-append fs gs p.1 q)
