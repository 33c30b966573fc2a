-- A text of lines with one line more.
use Rattle.std.proofs.Common.{◌≡◌, ℕ, Bool, true, false, List, [], ◌∷◌, ◌++◌, ◌∙◌, ap, subst, sym}
use Rattle.std.specs.Prelude.{if◌then◌else◌}
use Rattle.std.specs.List.{flat_map}
use Rattle.std.proofs.Math.Logic.{∥∥₁_map}
use Rattle.std.proofs.lemmas.Grind.{flat_map-append}
use Rattle.std.proofs.lemmas.List.{append-nil}
use Rattle.std.proofs.lemmas.List.Elements.{All-append, All-cons, All-nil}
use Rattle.fault_hints.specs.Lines.{AreBehind, AreLinesOf, IsOneLine, printed}

pub AreLinesOf-append : (text line : List ℕ) (lines : List (List ℕ)) → AreLinesOf text lines → IsOneLine line
    → AreLinesOf (text ++ printed line) (lines ++ line ∷ [])
AreLinesOf-append text line lines old clean = (
  All-append IsOneLine lines (line ∷ []) old.0 (All-cons IsOneLine line [] clean (All-nil IsOneLine)),
  ap (λ t. t ++ printed line) old.1 ∙ sym (flat_map-append printed lines (line ∷ [])
      ∙ ap (λ t. flat_map printed lines ++ t) (append-nil (printed line))),
)

pub AreBehind-append : (text line : List ℕ) → AreBehind text → IsOneLine line → AreBehind (text ++ printed line)
AreBehind-append text line old clean =
    ∥∥₁_map old (λ found. (found.0 ++ line ∷ [], AreLinesOf-append text line found.0 found.1 clean))

-- a line was pushed, or there was no memory for it
pub AreBehind-pushed : (before after line text : List ℕ) (ok : Bool) → AreBehind before → IsOneLine line → text ≡ printed line
    → after ≡ (if ok then before ++ text else before) → AreBehind after
AreBehind-pushed before after line text true old clean is pushed =
    subst AreBehind (sym (pushed ∙ ap (λ t. before ++ t) is)) (AreBehind-append before line old clean)
AreBehind-pushed before after line text false old clean is pushed = subst AreBehind (sym pushed) old
