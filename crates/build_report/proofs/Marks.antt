-- A text whose lines are marked, line by line.
use Rattle.std.proofs.Common.{◌≡◌, ℕ, suc, ◌+◌, ◌<◌, ◌==◌, Bool, true, false, cond, List, [], ◌∷◌, ◌++◌, length, get_or, drop, Option, Some, None, append_assoc, refl, ap, sym, subst, ◌∙◌, length-append, arith}
use Rattle.std.specs.Prelude.{codes, ◌≢◌, IsUtf8}
use Rattle.std.proofs.lemmas.Bool.{ne_eqb}
use Rattle.std.proofs.lemmas.List.{append-nil, drop_at, get_or_at, length_push}
use Rattle.std.proofs.lemmas.Option.{MatchOption-at_some, MatchOption-at_none}
use Rattle.std.proofs.lemmas.Str.{IsUtf8-drop, IsCharBoundary-after_ascii}
use Rattle.std.proofs.lemmas.Str.Pattern.{IsSplitOnceResult, split_parts}
use denote.Ref.{Bor}
use Rattle.build_report.specs.Words.{marked_from, marked}

-- no line feed stands in it
abbrev pub IsLine : List ℕ → Type 0
IsLine xs = (i : ℕ) → i < length xs → get_or xs i 0 ≢ 10

rest_of : (x : ℕ) (xs : List ℕ) → IsLine (x ∷ xs) → IsLine xs
rest_of x xs h = λ i lt. h (suc i) (omega arith)

first_of : (x : ℕ) (xs : List ℕ) → IsLine (x ∷ xs) → (x == 10) ≡ false
first_of x xs h = ne_eqb x 10 (h 0 (omega arith))

mark_if : Bool → List ℕ
mark_if b = cond b (codes "  | ") []

inner_split : (xs rest : List ℕ) → IsLine xs → marked_from false (xs ++ 10 ∷ rest) ≡ xs ++ (10 ∷ marked_from true rest)
inner_split [] rest h = refl
inner_split (x ∷ xs) rest h =
    ap (λ b. x ∷ marked_from b (xs ++ 10 ∷ rest)) (first_of x xs h) ∙ ap (λ (ys : List ℕ). x ∷ ys) (inner_split xs rest (rest_of x xs h))

pub split_marked : (xs rest : List ℕ) → IsLine xs → marked (xs ++ 10 ∷ rest) ≡ (codes "  | " ++ (xs ++ (10 ∷ []))) ++ marked rest
split_marked [] rest h = refl
split_marked (x ∷ xs) rest h =
    ap (λ b. codes "  | " ++ (x ∷ marked_from b (xs ++ 10 ∷ rest))) (first_of x xs h)
    ∙ ap (λ (ys : List ℕ). codes "  | " ++ (x ∷ ys)) (inner_split xs rest (rest_of x xs h) ∙ sym (append_assoc xs (10 ∷ []) (marked_from true rest)))

inner_end : (xs : List ℕ) → IsLine xs → marked_from false xs ≡ xs ++ (10 ∷ [])
inner_end [] h = refl
inner_end (x ∷ xs) h = ap (λ b. x ∷ marked_from b xs) (first_of x xs h) ∙ ap (λ (ys : List ℕ). x ∷ ys) (inner_end xs (rest_of x xs h))

pub last_marked : (xs : List ℕ) → IsLine xs → 0 < length xs → marked xs ≡ codes "  | " ++ (xs ++ (10 ∷ []))
last_marked [] h lt = absurd (omega arith)
last_marked (x ∷ xs) h lt =
    ap (λ b. codes "  | " ++ (x ∷ marked_from b xs)) (first_of x xs h) ∙ ap (λ (ys : List ℕ). codes "  | " ++ (x ∷ ys)) (inner_end xs (rest_of x xs h))

-- ---- the next line of a text

pub record IsCut (bs line rest : List ℕ) : Type 0 where
  pub parts : bs ≡ line ++ 10 ∷ rest
  pub free : IsLine line

pub cut_some : (bs : List ℕ) (r : Option (Bor (List ℕ) × Bor (List ℕ))) (line rest : Bor (List ℕ)) → IsSplitOnceResult 10 bs r → r ≡ Some (line, rest) → IsCut bs line.now rest.now
cut_some bs r line rest h is =
    let parts = MatchOption-at_some ((i : ℕ) → i < length bs → get_or bs i 0 ≢ 10) (λ (x : Bor (List ℕ) × Bor (List ℕ)). (bs ≡ x.0.now ++ (10 ∷ x.1.now)) × ((i : ℕ) → i < length x.0.now → get_or x.0.now i 0 ≢ 10)) (line, rest) is
    (split_parts 10 bs r h (omega arith)) in
    record { parts = parts.0; free = parts.1 }

pub cut_none : (bs : List ℕ) (r : Option (Bor (List ℕ) × Bor (List ℕ))) → IsSplitOnceResult 10 bs r → r ≡ None → IsLine bs
cut_none bs r h is =
    MatchOption-at_none ((i : ℕ) → i < length bs → get_or bs i 0 ≢ 10) (λ (x : Bor (List ℕ) × Bor (List ℕ)). (bs ≡ x.0.now ++ (10 ∷ x.1.now)) × ((i : ℕ) → i < length x.0.now → get_or x.0.now i 0 ≢ 10)) is
    (split_parts 10 bs r h (omega arith))

-- what is left of a text is text
left_is_text : (line rest : List ℕ) → IsUtf8 (line ++ 10 ∷ rest) → IsUtf8 rest
left_is_text line rest h =
    let bs = line ++ 10 ∷ rest in
    let at : get_or bs (length line) 0 ≡ 10 = get_or_at line 10 rest 0 (length line) refl in
    let long : length line < length bs = (let n = length-append line (10 ∷ rest) in omega arith) in
    let left : drop (length line + 1) bs ≡ rest = (ap (drop (length line + 1)) (sym (append_assoc line (10 ∷ []) rest)) ∙ drop_at (line ++ 10 ∷ []) rest (length line + 1) (length_push line 10)) in
    subst IsUtf8 left (IsUtf8-drop bs (length line + 1) h (IsCharBoundary-after_ascii bs (length line) h long (omega arith)))

-- so much of the text is put, and the rest is text
pub record IsPut (old new text rest : List ℕ) : Type 0 where
  pub is_text : IsUtf8 rest
  pub same : new ++ marked rest ≡ old ++ marked text

pub put_line : (old new next text rest line left : List ℕ) → IsPut old new text rest → IsCut rest line left → next ≡ new ++ (codes "  | " ++ (line ++ (10 ∷ []))) → IsPut old next text left
put_line old new next text rest line left h cut is = record {
  is_text = left_is_text line left (subst IsUtf8 cut.parts h.is_text);
  same =
      ap (λ (xs : List ℕ). xs ++ marked left) is
      ∙ append_assoc new (codes "  | " ++ (line ++ (10 ∷ []))) (marked left)
      ∙ ap (λ (xs : List ℕ). new ++ xs) (sym (ap marked cut.parts ∙ split_marked line left cut.free))
      ∙ h.same;
}

pub put_last : (old new next text rest : List ℕ) → IsPut old new text rest → IsLine rest → 0 < length rest → next ≡ new ++ (codes "  | " ++ (rest ++ (10 ∷ []))) → next ≡ old ++ marked text
put_last old new next text rest h free lt is = is ∙ ap (λ (xs : List ℕ). new ++ xs) (sym (last_marked rest free lt)) ∙ h.same

pub put_none : (old new text rest : List ℕ) → IsPut old new text rest → length rest ≡ 0 → new ≡ old ++ marked text
put_none old new text [] h e = sym (append-nil new) ∙ h.same
put_none old new text (x ∷ xs) h e = absurd (omega arith)

pub cut_shorter : (rest line left : List ℕ) → IsCut rest line left → length left < length rest
cut_shorter rest line left cut = let n = ap length cut.parts in let m = length-append line (10 ∷ left) in omega arith
