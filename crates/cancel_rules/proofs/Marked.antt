-- What the table's own calls make of its rows.
use Rattle.std.proofs.Common.{◌≡◌, ℕ, ◌<◌, Bool, true, false, List, length, get_or, set, refl, ap, sym, ◌∙◌}
use Rattle.std.specs.Prelude.{pos}
use Rattle.std.proofs.lemmas.Option.{slice_get_read}
use Rattle.arrayvec.specs.ArrayVec.{ArrayVec}
use Rattle.list_lemmas.proofs.Updates.{set-update}
use Rattle.cancel_rules.specs.declared.RequestRow.{RequestRow}
use Rattle.cancel_rules.specs.Marks.{Facts, row, on_line, rows_of, rows_on, with_unwanted}

abbrev pub blank : RequestRow
blank = record { number = pos 0; action = 0; asked = false }

abbrev pub facts_of : List (ArrayVec RequestRow) → List Bool → Facts
facts_of xs ys = record { lines = xs; unwanted = ys }

pub row_is : (f f' : Facts) (l : ℕ) (x : ArrayVec RequestRow) → f ≡ f' → l < length f'.lines → x ≡ get_or f.lines l x → rows_of f' l ≡ x.items
row_is f f' l x e lt is =
    let within : l < length f.lines = rw e lt in
    ap (λ g. rows_of g l) (sym e) ∙ ap rows_on (slice_get_read f.lines (length f.lines) l x refl within is)

pub row_written : (g : List RequestRow → List RequestRow) (f f' : Facts) (l : ℕ) (x r : ArrayVec RequestRow) → f ≡ f' → l < length f'.lines → x ≡ get_or f.lines l x → r.items ≡ g x.items
    → ◌≡◌ {A = Facts} (record { lines = set f.lines l r; unwanted = f.unwanted }) (on_line g f' l)
row_written g f f' l x r e lt is more =
    let within : l < length f.lines = rw e lt in
    ap (λ (y : ArrayVec RequestRow). facts_of (set f.lines l y) f.unwanted) (ap row more ∙ ap (λ (y : ArrayVec RequestRow). row (g y.items)) is)
    ∙ ap (λ (ys : List (ArrayVec RequestRow)). facts_of ys f.unwanted) (set-update (λ y. row (g y.items)) f.lines l x within)
    ∙ ap (λ (h : Facts). on_line g h l) e

pub mark_written : (f f' : Facts) (a : ℕ) → f ≡ f' → a < length f'.unwanted → ◌≡◌ {A = Facts} (record { lines = f.lines; unwanted = set f.unwanted a true }) (with_unwanted f' a)
mark_written f f' a e lt =
    let within : a < length f.unwanted = rw e lt in
    ap (λ (ys : List Bool). facts_of f.lines ys) (set-update (λ _. true) f.unwanted a true within) ∙ ap (λ (h : Facts). with_unwanted h a) e
