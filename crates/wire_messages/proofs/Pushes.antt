-- Fields put one after the other.
use Rattle.std.proofs.Common.{◌≡◌, ◌≢◌, ℕ, ◌+◌, ◌*◌, List, [], ◌∷◌, ◌++◌, length, get_or, take, All, ◌<◌, ◌^◌, subst, refl, sym, ap, ◌∙◌, append_assoc, arith}
use Rattle.std.proofs.lemmas.Bool.{ne_eqb, eq-eqb}
use Rattle.std.proofs.lemmas.List.{append-nil, length-append, take_more}
use Rattle.std.proofs.lemmas.List.Elements.{All-more}
use Rattle.std.proofs.lemmas.List.Concat.{flat_map-cons}
use Rattle.std.proofs.lemmas.Grind.{flat_map-append}
use Rattle.wire_fields.specs.Varint.{varint}
use Rattle.wire_fields.specs.Field.{WireField, Number, Bytes}
use Rattle.wire_fields.specs.Spelling.{spelling, field_bytes, number_field, one_bytes, bytes_field, repeated_field, capped}

pub spelling-append : (fs gs : List WireField) → spelling (fs ++ gs) ≡ spelling fs ++ spelling gs
unfolding spelling
spelling-append fs gs = flat_map-append field_bytes fs gs

pub spelling_one : (f : WireField) → spelling (f ∷ []) ≡ field_bytes f
unfolding spelling
spelling_one f = flat_map-cons field_bytes f [] ∙ append-nil (field_bytes f)

pub spelling_none : spelling [] ≡ []
unfolding spelling
spelling_none = refl

pub no_number : (out : List ℕ) (n v : ℕ) → v ≡ 0 → out ≡ out ++ spelling (number_field n v)
no_number out n v e = rw (eq-eqb v 0 e, spelling_none) (sym (append-nil out))

pub number_put : (out mid new : List ℕ) (n v : ℕ) → v ≢ 0 → mid ≡ out ++ varint (8 * n) → new ≡ mid ++ varint v → new ≡ out ++ spelling (number_field n v)
number_put out mid new n v ne p q =
    let t : 8 * n + 0 ≡ 8 * n = omega arith in
    q ∙ rw (p, ne_eqb v 0 ne, spelling_one (record { number = n; content = Number v }), t) (append_assoc out (varint (8 * n)) (varint v))

pub one_put : (out a b new : List ℕ) (n : ℕ) (s : List ℕ) → a ≡ out ++ varint (8 * n + 2) → b ≡ a ++ varint (length s) → new ≡ b ++ s → new ≡ out ++ spelling (one_bytes n s)
one_put out a b new n s p q r =
    r ∙ rw (q, p, spelling_one (record { number = n; content = Bytes s })) (append_assoc (out ++ varint (8 * n + 2)) (varint (length s)) s ∙ append_assoc out (varint (8 * n + 2)) (varint (length s) ++ s))

-- a message behind its length: what was put lies in memory, so the length is exact
pub message_put : (out a b new : List ℕ) (n : ℕ) (s : List ℕ) (count : ℕ) → a ≡ out ++ varint (8 * n + 2) → count ≡ capped (length s) → b ≡ a ++ varint count → new ≡ b ++ s → length new < 2 ^ 63
    → (new ≡ out ++ spelling (one_bytes n s)) × (length s < 2 ^ 64)
message_put out a b new n s count p is q r fits =
    let within : length new ≡ length b + length s = ap length r ∙ length-append b s in
    let small : length s < 2 ^ 63 = omega arith in
    let exact : count ≡ length s = omega (arith, is) in
    let q' : b ≡ a ++ varint (length s) = q ∙ ap (λ (k : ℕ). a ++ varint k) exact in
    (one_put out a b new n s p q' r, omega arith)

pub no_bytes : (out : List ℕ) (n : ℕ) (s : List ℕ) → length s ≡ 0 → out ≡ out ++ spelling (bytes_field n s)
no_bytes out n s e = rw (eq-eqb (length s) 0 e, spelling_none) (sym (append-nil out))

-- more fields behind fields
pub put_more : (out a b : List ℕ) (p q : List WireField) → a ≡ out ++ spelling p → b ≡ a ++ spelling q → b ≡ out ++ spelling (p ++ q)
put_more out a b p q e f = f ∙ rw (e, spelling-append p q) (append_assoc out (spelling p) (spelling q))

-- ---- lists, one element more

pub repeated_one : (n : ℕ) (ss : List (List ℕ)) (s : List ℕ) → spelling (repeated_field n (ss ++ s ∷ [])) ≡ spelling (repeated_field n ss) ++ spelling (one_bytes n s)
repeated_one n ss s = ap spelling (flat_map-append (one_bytes n) ss (s ∷ []) ∙ ap (λ (x : List WireField). repeated_field n ss ++ x) (flat_map-cons (one_bytes n) s [] ∙ append-nil (one_bytes n s))) ∙ spelling-append (repeated_field n ss) (one_bytes n s)

pub no_repeated : (n : ℕ) → spelling (repeated_field n []) ≡ []
no_repeated n = spelling_none

pub repeated_more : (out mid new : List ℕ) (n : ℕ) (ss more : List (List ℕ)) (s : List ℕ) → more ≡ ss ++ s ∷ [] → mid ≡ out ++ spelling (repeated_field n ss) → new ≡ mid ++ spelling (one_bytes n s) → new ≡ out ++ spelling (repeated_field n more)
repeated_more out mid new n ss more s is p q = q ∙ rw (p, is, repeated_one n ss s) (append_assoc out (spelling (repeated_field n ss)) (spelling (one_bytes n s)))

pub nothing_repeated : (out : List ℕ) (n : ℕ) → out ≡ out ++ spelling (repeated_field n [])
nothing_repeated out n = rw (spelling_none) (sym (append-nil out))

-- one element more of a list
pub take_item : {X : Type 0} (xs : List X) (i : ℕ) (x : X) → i < length xs → x ≡ get_or xs i x → take (i + 1) xs ≡ take i xs ++ x ∷ []
take_item xs i x lt is = take_more xs i x lt ∙ ap (λ y. take i xs ++ y ∷ []) (sym is)

pub All-item : {X : Type 0} (P : X → Type 0) (xs : List X) (i : ℕ) (x : X) → i < length xs → x ≡ get_or xs i x → All P (take i xs) → P x → All P (take (i + 1) xs)
All-item P xs i x lt is all here = All-more P xs i x lt all (subst P is here)
