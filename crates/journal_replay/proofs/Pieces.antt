-- What more bytes make of what is known.
use Rattle.std.proofs.Common.{◌≡◌, ℕ, ◌+◌, ◌-◌, ◌<◌, ◌≤◌, ◌^◌, min, Bool, true, false, cond, suc, eqb, List, [], ◌∷◌, ◌++◌, length, get_or, take, drop, refl, sym, ap, subst, ◌∙◌, arith, append_assoc, append-nil, length-append, length-drop, length-take}
use Rattle.std.proofs.lemmas.Bool.{eqb-true, ne_eqb}
use Rattle.std.proofs.lemmas.List.{get_or-drop, take_all, take_more}
use Rattle.journal_text.specs.Lines.{last_line, lines_behind, lines_of}
use Rattle.journal_replay.specs.Legality.{Rulebook, Standing}
use Rattle.journal_replay.specs.Fed.{CutAt, FedSo}
use Rattle.journal_replay.specs.Staged.{KnowsStage}
use Rattle.journal_replay.specs.declared.auditor.Found.TheVariants as found
use Rattle.journal_replay.specs.declared.front.Stage.{Stage}
use Rattle.journal_replay.specs.declared.front.Stage.TheVariants as stage

no_feed : (begun rest : List ℕ) (b : ℕ) → eqb b 10 ≡ false → lines_behind begun (b ∷ rest) ≡ lines_behind (begun ++ b ∷ []) rest
no_feed begun rest b is = rw is refl

pub cut_none : CutAt [] [] []
cut_none = record { few = omega arith; cut = λ more. refl }

cut_byte : (bytes : List ℕ) (lines : List (List ℕ)) (line : List ℕ) (b : ℕ) → CutAt bytes lines line → eqb b 10 ≡ false → CutAt (bytes ++ b ∷ []) lines (line ++ b ∷ [])
cut_byte bytes lines line b s other =
    let few = s.few in
    let long : length (bytes ++ b ∷ []) ≡ length bytes + 1 = length-append bytes (b ∷ []) in
    record {
      few = omega arith;
      cut = λ more. ap lines_of (append_assoc bytes (b ∷ []) more) ∙ s.cut (b ∷ more) ∙ ap (λ (x : List (List ℕ)). lines ++ x) (no_feed line more b other);
    }

cut_line : (bytes : List ℕ) (lines : List (List ℕ)) (line : List ℕ) → CutAt bytes lines line → CutAt (bytes ++ 10 ∷ []) (lines ++ line ∷ []) []
cut_line bytes lines line s =
    let few = s.few in
    let long : length (bytes ++ 10 ∷ []) ≡ length bytes + 1 = length-append bytes (10 ∷ []) in
    let more_lines : length (lines ++ line ∷ []) ≡ length lines + 1 = length-append lines (line ∷ []) in
    record {
      few = omega arith;
      cut = λ more. ap lines_of (append_assoc bytes (10 ∷ []) more) ∙ s.cut (10 ∷ more) ∙ sym (append_assoc lines (line ∷ []) (lines_behind [] more));
    }

cut_all : (bytes : List ℕ) (lines : List (List ℕ)) (line : List ℕ) → CutAt bytes lines line → lines_of bytes ≡ lines ++ last_line line
cut_all bytes lines line s = ap lines_of (sym (append-nil bytes)) ∙ s.cut []

-- ---- what is known

pub fed_text : {B C : Type 0} (rules : Rulebook B) (stands : Standing B C) → FedSo false rules stands (stage.Text 0 found.Nothing) 1 [] []
fed_text rules stands = record { lines = []; knows = record { within = omega arith; skipped = λ more. refl; knows = refl }; number_is = refl; split = cut_none }

pub fed_input : {B C : Type 0} (rules : Rulebook B) (stands : Standing B C) → FedSo true rules stands stage.Report 1 [] []
fed_input rules stands = record { lines = []; knows = record { looks = refl; each = refl }; number_is = refl; split = cut_none }

-- the byte ends no line
pub fed_byte : {B C : Type 0} (skips : Bool) (rules : Rulebook B) (stands : Standing B C) (f : Stage C) (n : ℕ) (line bytes : List ℕ) (b : ℕ) → FedSo skips rules stands f n line bytes → (b ≡ 10 → ⊥) → FedSo skips rules stands f n (line ++ b ∷ []) (bytes ++ b ∷ [])
fed_byte skips rules stands f n line bytes b s other = record {
  lines = s.lines;
  knows = s.knows;
  number_is = s.number_is;
  split = cut_byte bytes s.lines line b s.split (ne_eqb b 10 other);
}

-- or it does
pub fed_line : {B C : Type 0} (skips : Bool) (rules : Rulebook B) (stands : Standing B C) (f g : Stage C) (n m : ℕ) (line bytes : List ℕ) (s : FedSo skips rules stands f n line bytes) → KnowsStage skips rules stands g (s.lines ++ line ∷ []) → m ≡ min (n + 1) (2 ^ 64 - 1) → length bytes < 2 ^ 63
    → FedSo skips rules stands g m [] (bytes ++ 10 ∷ [])
fed_line skips rules stands f g n m line bytes s knows next few =
    let number = s.number_is in
    let fewer = s.split.few in
    let more_lines : length (s.lines ++ line ∷ []) ≡ length s.lines + 1 = length-append s.lines (line ∷ []) in
    record { lines = s.lines ++ line ∷ []; knows = knows; number_is = omega arith; split = cut_line bytes s.lines line s.split }

-- ---- parts of a piece

abbrev pub part : List ℕ → ℕ → ℕ → List ℕ
part piece start at = take (at - start) (drop start piece)

pub front_more : (bytes piece : List ℕ) (at b : ℕ) → at < length piece → get_or piece at 0 ≡ b → (bytes ++ take at piece) ++ b ∷ [] ≡ bytes ++ take (at + 1) piece
front_more bytes piece at b below is =
    append_assoc bytes (take at piece) (b ∷ []) ∙ ap (λ (x : ℕ). bytes ++ (take at piece ++ x ∷ [])) (sym is) ∙ ap (λ (x : List ℕ). bytes ++ x) (sym (take_more piece at 0 below))

pub front_fits : (bytes piece : List ℕ) (at : ℕ) → at < length piece → length bytes + length piece < 2 ^ 63 → length (bytes ++ take at piece) < 2 ^ 63
front_fits bytes piece at below few =
    let both : length (bytes ++ take at piece) ≡ length bytes + length (take at piece) = length-append bytes (take at piece) in
    let short : length (take at piece) ≡ min at (length piece) = length-take at piece in
    omega arith

pub part_more : (begun piece : List ℕ) (start at b : ℕ) → start ≤ at → at < length piece → get_or piece at 0 ≡ b → (begun ++ part piece start at) ++ b ∷ [] ≡ begun ++ part piece start (at + 1)
part_more begun piece start at b order below is =
    let count : (at + 1) - start ≡ (at - start) + 1 = omega arith in
    let long : length (drop start piece) ≡ length piece - start = length-drop start piece in
    let within : at - start < length (drop start piece) = omega arith in
    let place : start + (at - start) ≡ at = omega arith in
    let longer : part piece start (at + 1) ≡ part piece start at ++ b ∷ [] =
    ap (λ (k : ℕ). take k (drop start piece)) count ∙ take_more (drop start piece) (at - start) 0 within
    ∙ ap (λ (x : ℕ). part piece start at ++ x ∷ []) (get_or-drop start piece (at - start) 0 ∙ ap (λ (k : ℕ). get_or piece k 0) place ∙ is) in
    append_assoc begun (part piece start at) (b ∷ []) ∙ ap (λ (x : List ℕ). begun ++ x) (sym longer)

pub no_part : (begun piece : List ℕ) (at : ℕ) → begun ≡ begun ++ part piece at at
no_part begun piece at =
    let same : at - at ≡ 0 = omega arith in
    sym (append-nil begun) ∙ ap (λ (k : ℕ). begun ++ take k (drop at piece)) (sym same)

pub whole_part : (piece : List ℕ) (start at : ℕ) → length piece ≤ at → part piece start at ≡ drop start piece
whole_part piece start at past =
    let long : length (drop start piece) ≡ length piece - start = length-drop start piece in
    let within : length (drop start piece) ≤ at - start = omega arith in
    take_all (at - start) (drop start piece) within

-- ---- at the end

pub is_none : (b : Bool) (xs : List ℕ) → b ≡ eqb (length xs) 0 → b ≡ true → length xs ≡ 0
is_none b xs is holds = eqb-true _ _ (sym is ∙ holds)

pub is_some : (b : Bool) (xs : List ℕ) → b ≡ eqb (length xs) 0 → b ≡ false → 0 < length xs
is_some b [] is other = let both : true ≡ false = sym is ∙ other in absurd (cc)
is_some b (x ∷ xs) is other = omega arith

some_line : (s : List ℕ) → 0 < length s → last_line s ≡ s ∷ []
some_line [] more = absurd (omega arith)
some_line (b ∷ bs) more = refl

no_line : (s : List ℕ) → length s ≡ 0 → last_line s ≡ []
no_line [] none = refl
no_line (b ∷ bs) none = absurd (omega arith)

pub known_last : {B C : Type 0} (skips : Bool) (rules : Rulebook B) (stands : Standing B C) (f g : Stage C) (n : ℕ) (line bytes : List ℕ) (s : FedSo skips rules stands f n line bytes) → 0 < length line → KnowsStage skips rules stands g (s.lines ++ line ∷ []) → KnowsStage skips rules stands g (lines_of bytes)
known_last skips rules stands f g n line bytes s more knows =
    subst (KnowsStage skips rules stands g) (sym (cut_all bytes s.lines line s.split ∙ ap (λ (x : List (List ℕ)). s.lines ++ x) (some_line line more))) knows

pub known_all : {B C : Type 0} (skips : Bool) (rules : Rulebook B) (stands : Standing B C) (f : Stage C) (n : ℕ) (line bytes : List ℕ) (s : FedSo skips rules stands f n line bytes) → length line ≡ 0 → KnowsStage skips rules stands f (lines_of bytes)
known_all skips rules stands f n line bytes s none =
    subst (KnowsStage skips rules stands f) (sym (cut_all bytes s.lines line s.split ∙ ap (λ (x : List (List ℕ)). s.lines ++ x) (no_line line none) ∙ append-nil s.lines)) s.knows

lines_behind-fewer : (begun bytes : List ℕ) → length (lines_behind begun bytes) ≤ length bytes + 1
lines_behind-fewer [] [] = omega arith
lines_behind-fewer (x ∷ xs) [] = omega arith
lines_behind-fewer begun (b ∷ bs) =
    elim (eqb b 10) as (λ t. length (cond t (begun ∷ lines_behind [] bs) (lines_behind (begun ++ b ∷ []) bs)) ≤ suc (length bs) + 1) [
      | true ↦ (let rest = lines_behind-fewer [] bs in omega arith)
      | false ↦ (let rest = lines_behind-fewer (begun ++ b ∷ []) bs in omega arith)
    ]

pub fewer_lines : (bytes : List ℕ) → length bytes ≤ 268435456 → length (lines_of bytes) < 2 ^ 63
fewer_lines bytes few = let most = lines_behind-fewer [] bytes in omega arith

-- ---- the same, said otherwise

pub fed_same : {B C : Type 0} (skips : Bool) (rules : Rulebook B) (stands : Standing B C) (f : Stage C) (n : ℕ) (line other bytes more : List ℕ) → FedSo skips rules stands f n line bytes → line ≡ other → bytes ≡ more → FedSo skips rules stands f n other more
fed_same skips rules stands f n line other bytes more s same_line same_bytes =
    subst (λ (x : List ℕ). FedSo skips rules stands f n x more) same_line (subst (λ (x : List ℕ). FedSo skips rules stands f n line x) same_bytes s)
