-- The written text of a legal journal is judged so.
use Rattle.std.proofs.Common.{◌≡◌, ℕ, ◌≤◌, not, ◌&&◌, eqb, Bool, true, false, List, [], ◌∷◌, ◌++◌, length, map, reverse, Option, Some, refl, sym, ap, ◌∙◌, append_assoc, append-nil}
use Rattle.std.specs.List.{flat_map, list_all}
use Rattle.std.proofs.lemmas.List.Concat.{flat_map-cons}
use Rattle.exec_journal.specs.Entry.{Entry}
use Rattle.exec_journal.specs.Paired.{Paired}
use Rattle.exec_journal.specs.Race.{Race}
use Rattle.journal_text.specs.Fits.{Each}
use Rattle.journal_text.specs.Lines.{in_line, IsOneLine, IsWrittenEntry, entries_text, entry_of, entry_text, lines_behind, lines_of}
use Rattle.journal_text.specs.Options.{each}
use Rattle.journal_replay.specs.Legality.{Rulebook}
use Rattle.journal_replay.specs.Spelled.{Spells}
use Rattle.journal_replay.specs.Verdicts.{JudgesBy}
use Rattle.journal_replay.specs.declared.verdict.Verdict.TheVariants as verdict

by_test : (t more : Bool) → not t && more ≡ true → (t ≡ false) × (more ≡ true)
by_test true more h = absurd (cc)
by_test false more h = (refl, h)

no_feed : (b : ℕ) (bs : List ℕ) → IsOneLine (b ∷ bs) → (eqb b 10 ≡ false) × IsOneLine bs
no_feed b bs h = by_test (eqb b 10) (list_all in_line bs) h

one_line : (begun l rest : List ℕ) → IsOneLine l → lines_behind begun (l ++ 10 ∷ rest) ≡ (begun ++ l) ∷ lines_behind [] rest
one_line begun [] rest h = ap (λ (x : List ℕ). x ∷ lines_behind [] rest) (sym (append-nil begun))
one_line begun (b ∷ bs) rest h =
    let (other, more) = no_feed b bs h in
    rw other (one_line (begun ++ b ∷ []) bs rest more ∙ ap (λ (x : List ℕ). x ∷ lines_behind [] rest) (append_assoc begun (b ∷ []) bs))

abbrev with_feed : Entry → List ℕ
with_feed e = entry_text e ++ 10 ∷ []

entry_lines : (j : List Entry) → Each IsWrittenEntry j → lines_of (flat_map with_feed j) ≡ map entry_text j
entry_lines [] h = refl
entry_lines (e ∷ j) h =
    ap lines_of (flat_map-cons with_feed e j ∙ append_assoc (entry_text e) (10 ∷ []) (flat_map with_feed j))
    ∙ one_line [] (entry_text e) (flat_map with_feed j) h.0.one_line
    ∙ ap (λ (x : List (List ℕ)). entry_text e ∷ x) (entry_lines j h.1)

text_lines : (top : List ℕ) (j : List Entry) → IsOneLine top → Each IsWrittenEntry j → lines_of (entries_text top j) ≡ top ∷ map entry_text j
text_lines top j one k = one_line [] top (flat_map with_feed j) one ∙ ap (λ (x : List (List ℕ)). top ∷ x) (entry_lines j k)

entries_again : (j : List Entry) → Each IsWrittenEntry j → each entry_of (map entry_text j) ≡ Some j
entries_again [] h = refl
entries_again (e ∷ j) h = rw (h.0.again, entries_again j h.1) refl

text_spells : {B : Type 0} (spelled : List ℕ → Option B) (b : B) (top : List ℕ) (j : List Entry) → IsOneLine top → spelled top ≡ Some b → Each IsWrittenEntry j → Spells spelled (lines_of (entries_text top j)) b j
text_spells spelled b top j one is k = record { top = top; rest = map entry_text j; lines_are = text_lines top j one k; basis = is; entries = entries_again j k }

pub text_is_legal : {B : Type 0} (rules : Rulebook B) (b : B) (top : List ℕ) (j : List Entry) → rules.sound b → rules.makes b (reverse j) → Race (reverse j) → Paired (rules.plan b) (reverse j) → IsOneLine top → rules.spelled top ≡ Some b → Each IsWrittenEntry j → length (entries_text top j) ≤ 268435456
    → JudgesBy rules (entries_text top j) (verdict.Yes (length (rules.plan b).actions) (length j))
text_is_legal rules b top j sound legal race paired one is k few =
    (few, record { basis = b; journal = j; spelled = text_spells rules.spelled b top j one is k; sound = sound; legal = legal; race = race; paired = paired; actions_are = refl; entries_are = refl })
