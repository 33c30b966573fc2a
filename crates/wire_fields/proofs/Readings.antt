-- Any bytes are read: field by field, up to their end or to a fault.
use Rattle.std.proofs.Common.{◌≡◌, ℕ, zero, suc, ◌+◌, ◌/◌, ◌%◌, ◌<◌, ◌≤◌, ◌⊎◌, inl, inr, Bool, true, false, cond, eqb, ltb, List, [], ◌∷◌, ◌++◌, length, take, drop, Result, Ok, Err, refl, sym, ap, subst, ◌∙◌, arith}
use Rattle.std.proofs.lemmas.Bool.Decides.{eqb_tells}
use Rattle.std.proofs.lemmas.List.{length-append, length-drop}
use Rattle.std.proofs.lemmas.List.Concat.{flat_map-cons}
use Rattle.std.proofs.lemmas.Str.{IsUtf8-from_is_utf8, is_utf8-from_IsUtf8}
use Rattle.std.specs.Str.{is_utf8}
use Rattle.wire_fields.specs.Varint.{Fault, CutField, BadTag, BadText, varint_at}
use Rattle.wire_fields.specs.Field.{WireField, Content, Number, Eight, Bytes, Four, ◌>>=◌, span_at, content_at, is_bad_tag, field_at}
use Rattle.wire_fields.specs.Message.{Fields, IsSound, FaultOf, Spells, FirstFault, bytes_in, spans, HoldsNoText, RefusesText, HoldsFaulty, RefusesMessage, AreSpelled}
use Rattle.wire_fields.specs.Readings.{IsReadOneWay}
use Rattle.wire_fields.proofs.Grammar.{read_whole}
use Rattle.wire_fields.proofs.Messages.{spells_or_faulty, one_message, one_first_fault}

-- ---- a field takes a byte at least

abbrev Shortens : {A : Type 0} → ℕ → Result (A × List ℕ) Fault → Type 0
Shortens n (Ok read) = length read.1 ≤ n
Shortens n (Err fault) = Unit {0}

shortens_after : {A : Type 0} (n : ℕ) (r : Result (A × List ℕ) Fault) (x : A) (rest : List ℕ) → Shortens n r → r ≡ Ok (x, rest) → length rest ≤ n
shortens_after n r x rest s e = subst (Shortens n) e s

-- a step after a step
shortens_then : {A B : Type 0} (n : ℕ) (r : Result (A × List ℕ) Fault) (f : A × List ℕ → Result (B × List ℕ) Fault)
    → Shortens n r → ((x : A × List ℕ) → length x.1 ≤ n → Shortens n (f x)) → Shortens n (r >>= f)
shortens_then n (Ok x) f s goes = goes x s
shortens_then n (Err fault) f s goes = tt

pub varint_shorter : (bytes : List ℕ) (n : ℕ) (rest : List ℕ) → varint_at bytes ≡ Ok (n, rest) → length rest < length bytes
varint_shorter bytes n rest e =
    let b = read_whole bytes n rest e in
    let v = b.spelled in
    let total : length bytes ≡ length b.front + length rest = ap length b.whole ∙ length-append b.front rest in
    let front : length b.front ≡ length v.front + 1 = ap length v.whole ∙ length-append v.front (v.last ∷ []) in
    omega arith

varint_told : (n : ℕ) (bytes : List ℕ) (r : Result (ℕ × List ℕ) Fault) → varint_at bytes ≡ r → length bytes ≤ n → Shortens n r
varint_told n bytes (Ok read) e le = omega (arith, varint_shorter bytes read.0 read.1 e)
varint_told n bytes (Err fault) e le = tt

varint_shortens : (n : ℕ) (bytes : List ℕ) → length bytes ≤ n → Shortens n (varint_at bytes)
varint_shortens n bytes le = varint_told n bytes (varint_at bytes) refl le

shortens_choice : {A : Type 0} (n : ℕ) (t : Bool) (a b : Result (A × List ℕ) Fault) → Shortens n a → Shortens n b → Shortens n (cond t a b)
shortens_choice n true a b p q = p
shortens_choice n false a b p q = q

span_shortens : (n count : ℕ) (bytes : List ℕ) → length bytes ≤ n → Shortens n (span_at count bytes)
span_shortens n count bytes le = shortens_choice n (ltb (length bytes) count) (Err CutField) (Ok (take count bytes, drop count bytes)) tt (omega (arith, length-drop count bytes))

content_shortens : (n wire : ℕ) (bytes : List ℕ) → length bytes ≤ n → Shortens n (content_at wire bytes)
unfolding content_at
content_shortens n wire bytes le =
    shortens_choice n (eqb wire 0) _ _ (shortens_then n (varint_at bytes) (λ n. Ok (Number n.0, n.1)) (varint_shortens n bytes le) (λ x s. s))
    (shortens_choice n (eqb wire 1) _ _ (shortens_then n (span_at 8 bytes) (λ s. Ok (Eight, s.1)) (span_shortens n 8 bytes le) (λ x s. s))
    (shortens_choice n (eqb wire 2) _ _ (shortens_then n (varint_at bytes) (λ n. span_at n.0 n.1 >>= λ s. Ok (Bytes s.0, s.1)) (varint_shortens n bytes le)
    (λ x s. shortens_then n (span_at x.0 x.1) (λ s. Ok (Bytes s.0, s.1)) (span_shortens n x.0 x.1 s) (λ y r. r)))
    (shortens_choice n (eqb wire 5) _ _ (shortens_then n (span_at 4 bytes) (λ s. Ok (Four, s.1)) (span_shortens n 4 bytes le) (λ x s. s)) tt)))

field_told : (n : ℕ) (bytes : List ℕ) (r : Result (ℕ × List ℕ) Fault) → varint_at bytes ≡ r → length bytes ≤ suc n
    → Shortens {A = WireField} n (r >>= λ tag. cond (is_bad_tag tag.0) (Err BadTag) (content_at (tag.0 % 8) tag.1 >>= λ c. Ok (record { number = tag.0 / 8; content = c.0 }, c.1)))
field_told n bytes (Err fault) e le = tt
field_told n bytes (Ok tag) e le =
    let less : length tag.1 ≤ n = omega (arith, varint_shorter bytes tag.0 tag.1 e) in
    shortens_choice n (is_bad_tag tag.0) _ _ tt (shortens_then n (content_at (tag.0 % 8) tag.1) (λ c. Ok (record { number = tag.0 / 8; content = c.0 }, c.1)) (content_shortens n (tag.0 % 8) tag.1 less) (λ x s. s))

field_shortens : (n : ℕ) (bytes : List ℕ) → length bytes ≤ suc n → Shortens n (field_at bytes)
unfolding field_at
field_shortens n bytes le = field_told n bytes (varint_at bytes) refl le

field_shorter : (n : ℕ) (bytes : List ℕ) (f : WireField) (rest : List ℕ) → length bytes ≤ suc n → field_at bytes ≡ Ok (f, rest) → length rest ≤ n
field_shorter n bytes f rest le e = shortens_after n (field_at bytes) f rest (field_shortens n bytes le) e

-- ---- from field to field

-- it can be told whether something is at fault, and how
abbrev pub IsTold : (Fault → Type 0) → Type 0
IsTold P = ((x : Fault) → P x → ⊥) ⊎ ((x : Fault) × P x)

abbrev Walked : (WireField → Fault → Type 0) → List ℕ → Type 0
Walked refuses bytes = ((fs : List WireField) × Fields bytes fs [] × IsSound refuses fs) ⊎ ((x : Fault) × FirstFault refuses bytes x)

stops : (refuses : WireField → Fault → Type 0) (byte : ℕ) (bytes : List ℕ) (x : Fault) → FaultOf refuses (field_at (byte ∷ bytes)) x → Walked refuses (byte ∷ bytes)
stops refuses byte bytes x fault = inr (x, record { fields = []; rest = byte ∷ bytes; spelled = refl; sound = tt; more = omega arith; fault = fault })

goes_on : (refuses : WireField → Fault → Type 0) (bytes : List ℕ) (f : WireField) (after : List ℕ) → field_at bytes ≡ Ok (f, after) → ((x : Fault) → refuses f x → ⊥) → Walked refuses after → Walked refuses bytes
goes_on refuses bytes f after e sound (inl w) = inl (f ∷ w.0, (after, e, w.1), (sound, w.2))
goes_on refuses bytes f after e sound (inr w) =
    inr (w.0, record { fields = f ∷ w.1.fields; rest = w.1.rest; spelled = (after, e, w.1.spelled); sound = (sound, w.1.sound); more = w.1.more; fault = w.1.fault })

field_next : (refuses : WireField → Fault → Type 0) (byte : ℕ) (bytes : List ℕ) (f : WireField) (after : List ℕ) → field_at (byte ∷ bytes) ≡ Ok (f, after) → IsTold (refuses f) → Walked refuses after → Walked refuses (byte ∷ bytes)
field_next refuses byte bytes f after e (inl sound) w = goes_on refuses (byte ∷ bytes) f after e sound w
field_next refuses byte bytes f after e (inr bad) w =
    stops refuses byte bytes bad.0 (subst (λ (r : Result (WireField × List ℕ) Fault). FaultOf refuses r bad.0) (sym e) bad.1)

walk_on : (refuses : WireField → Fault → Type 0) → ((f : WireField) → IsTold (refuses f)) → (byte : ℕ) (bytes : List ℕ) (r : Result (WireField × List ℕ) Fault) → field_at (byte ∷ bytes) ≡ r
    → ((f : WireField) (after : List ℕ) → r ≡ Ok (f, after) → Walked refuses after) → Walked refuses (byte ∷ bytes)
walk_on refuses told byte bytes (Ok read) e next = field_next refuses byte bytes read.0 read.1 e (told read.0) (next read.0 read.1 refl)
walk_on refuses told byte bytes (Err fault) e next =
    stops refuses byte bytes fault (subst (λ (r : Result (WireField × List ℕ) Fault). FaultOf refuses r fault) (sym e) refl)

walk : (refuses : WireField → Fault → Type 0) → ((f : WireField) → IsTold (refuses f)) → (n : ℕ) (bytes : List ℕ) → length bytes ≤ n → Walked refuses bytes
walk refuses told n [] le = inl ([], refl, tt)
walk refuses told zero (byte ∷ bytes) le = absurd (omega arith)
walk refuses told (suc n) (byte ∷ bytes) le =
    walk_on refuses told byte bytes (field_at (byte ∷ bytes)) refl (λ f after e. walk refuses told n after (field_shorter n (byte ∷ bytes) f after le e))

walked : {M : Type 0} (refuses : WireField → Fault → Type 0) (means : List WireField → M → Type 0) → ((fs : List WireField) → IsSound refuses fs → (m : M) × means fs m)
    → (bytes : List ℕ) → Walked refuses bytes → ((m : M) × Spells refuses means bytes m) ⊎ ((x : Fault) × FirstFault refuses bytes x)
walked refuses means some bytes (inl w) = let m = some w.0 w.2 in inl (m.0, record { fields = w.0; spelled = w.1; sound = w.2; meant = m.1 })
walked refuses means some bytes (inr w) = inr w

-- A kind of message is read in one way, where its fields' faults can be told, and fields without a fault have a meaning.
pub read_one_way : {M : Type 0} (refuses : WireField → Fault → Type 0) (means : List WireField → M → Type 0)
    → ((f : WireField) → IsTold (refuses f))
    → ((fs : List WireField) → IsSound refuses fs → (m : M) × means fs m)
    → ((fs : List WireField) (m n : M) → means fs m → means fs n → m ≡ n)
    → ((f : WireField) (x y : Fault) → refuses f x → refuses f y → x ≡ y)
    → IsReadOneWay refuses means
read_one_way refuses means told some one fault = record {
  some = λ bytes. walked refuses means some bytes (walk refuses told (length bytes) bytes (omega arith));
  one_message = one_message refuses means one;
  one_fault = one_first_fault refuses fault;
  either = spells_or_faulty refuses means;
}

-- ---- what is at fault with a field can be told

pub told_or : (P Q : Fault → Type 0) → IsTold P → IsTold Q → IsTold (λ x. P x ⊎ Q x)
told_or P Q (inr p) q = inr (p.0, inl p.1)
told_or P Q (inl p) (inr q) = inr (q.0, inr q.1)
told_or P Q (inl p) (inl q) = inl (λ x r. elim r [ inl a ↦ p x a | inr b ↦ q x b ])

text_told : (s : List ℕ) (n : ℕ) (f : WireField) → f.number ≡ n → f.content ≡ Bytes s → (b : Bool) → is_utf8 s ≡ b → IsTold (RefusesText n f)
text_told s n f is holds true e = inl (λ x r. subst (λ (c : Content). HoldsNoText c → ⊥) (sym holds) (λ no_text. no_text (IsUtf8-from_is_utf8 s e)) r.1)
text_told s n f is holds false e = inr (BadText, (is, subst HoldsNoText (sym holds) (λ text. let t = is_utf8-from_IsUtf8 s text in absurd cc), refl))

content_told : (n : ℕ) (f : WireField) → f.number ≡ n → (c : Content) → f.content ≡ c → IsTold (RefusesText n f)
content_told n f is (Number k) holds = inl (λ x r. subst (λ (c : Content). HoldsNoText c → ⊥) (sym holds) (λ z. z) r.1)
content_told n f is Eight holds = inl (λ x r. subst (λ (c : Content). HoldsNoText c → ⊥) (sym holds) (λ z. z) r.1)
content_told n f is (Bytes s) holds = text_told s n f is holds (is_utf8 s) refl
content_told n f is Four holds = inl (λ x r. subst (λ (c : Content). HoldsNoText c → ⊥) (sym holds) (λ z. z) r.1)

pub told_text : (n : ℕ) (f : WireField) → IsTold (RefusesText n f)
told_text n f = elim (eqb_tells f.number n) [ inl e ↦ content_told n f e.1 f.content refl | inr e ↦ inl (λ x r. e.1 r.0) ]

held_told : {M : Type 0} (refuses : WireField → Fault → Type 0) (means : List WireField → M → Type 0) → IsReadOneWay refuses means → (c : Content) → IsTold (HoldsFaulty (FirstFault refuses) c)
held_told refuses means way (Number k) = inl (λ x r. r)
held_told refuses means way Eight = inl (λ x r. r)
held_told refuses means way (Bytes s) = elim (way.some s) [ inl m ↦ inl (λ x f. way.either s m.0 x m.1 f) | inr f ↦ inr f ]
held_told refuses means way Four = inl (λ x r. r)

of_number : (Faulty : List ℕ → Fault → Type 0) (n : ℕ) (f : WireField) → f.number ≡ n → IsTold (HoldsFaulty Faulty f.content) → IsTold (RefusesMessage Faulty n f)
of_number Faulty n f is (inl sound) = inl (λ x r. sound x r.1)
of_number Faulty n f is (inr bad) = inr (bad.0, (is, bad.1))

pub told_message : {M : Type 0} (refuses : WireField → Fault → Type 0) (means : List WireField → M → Type 0) → IsReadOneWay refuses means → (n : ℕ) (f : WireField) → IsTold (RefusesMessage (FirstFault refuses) n f)
told_message refuses means way n f =
    elim (eqb_tells f.number n) [ inl e ↦ of_number (FirstFault refuses) n f e.1 (held_told refuses means way f.content) | inr e ↦ inl (λ x r. e.1 r.0) ]

-- ---- embedded messages have a meaning where none is at fault

AreSpelled-join : {M : Type 0} (P : List ℕ → M → Type 0) (ss ts : List (List ℕ)) (ms ns : List M) → AreSpelled P ss ms → AreSpelled P ts ns → AreSpelled P (ss ++ ts) (ms ++ ns)
AreSpelled-join P [] ts [] ns p q = q
AreSpelled-join P [] ts (m ∷ ms) ns p q = absurd p
AreSpelled-join P (s ∷ ss) ts [] ns p q = absurd p
AreSpelled-join P (s ∷ ss) ts (m ∷ ms) ns p q = (p.0, AreSpelled-join P ss ts ms ns p.1 q)

held_spelled : {M : Type 0} (refuses : WireField → Fault → Type 0) (means : List WireField → M → Type 0) → IsReadOneWay refuses means → (c : Content) → ((x : Fault) → HoldsFaulty (FirstFault refuses) c x → ⊥) → (ms : List M) × AreSpelled (Spells refuses means) (bytes_in c) ms
held_spelled refuses means way (Number k) sound = ([], tt)
held_spelled refuses means way Eight sound = ([], tt)
held_spelled refuses means way (Bytes s) sound = elim (way.some s) [ inl m ↦ (m.0 ∷ [], (m.1, tt)) | inr f ↦ absurd (sound f.0 f.1) ]
held_spelled refuses means way Four sound = ([], tt)

field_spelled : {M : Type 0} (refuses : WireField → Fault → Type 0) (means : List WireField → M → Type 0) → IsReadOneWay refuses means → (n : ℕ) (f : WireField)
    → ((x : Fault) → RefusesMessage (FirstFault refuses) n f x → ⊥) → (ms : List M) × AreSpelled (Spells refuses means) (cond (eqb f.number n) (bytes_in f.content) []) ms
field_spelled {M} refuses means way n f sound =
    elim (eqb_tells f.number n) [
      | inl e ↦ rw e.0 (held_spelled refuses means way f.content (λ x h. sound x (e.1, h)))
      | inr e ↦ rw e.0 ([], tt)
    ]

pub spans_spelled : {M : Type 0} (refuses : WireField → Fault → Type 0) (means : List WireField → M → Type 0) → IsReadOneWay refuses means → (whole : WireField → Fault → Type 0) (n : ℕ)
    → ((f : WireField) (x : Fault) → RefusesMessage (FirstFault refuses) n f x → whole f x)
    → (fs : List WireField) → IsSound whole fs → (ms : List M) × AreSpelled (Spells refuses means) (spans n fs) ms
unfolding spans
spans_spelled refuses means way whole n within [] sound = ([], tt)
spans_spelled refuses means way whole n within (f ∷ fs) sound =
    let here = field_spelled refuses means way n f (λ x r. sound.0 x (within f x r)) in
    let rest = spans_spelled refuses means way whole n within fs sound.1 in
    (here.0 ++ rest.0, subst (λ (ss : List (List ℕ)). AreSpelled (Spells refuses means) ss (here.0 ++ rest.0)) (sym (flat_map-cons (λ f. cond (eqb f.number n) (bytes_in f.content) []) f fs)) (AreSpelled-join (Spells refuses means) _ _ here.0 rest.0 here.1 rest.1))
