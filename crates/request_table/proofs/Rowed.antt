-- What the table's own calls make of its rows.
use Rattle.std.proofs.Common.{◌≡◌, Bool, true, false, ℕ, zero, suc, ◌+◌, ◌<◌, List, [], ◌∷◌, length, get_or, set, Option, Some, unwrap_or, option_and_then, option_map, refl, ap, sym, ◌∙◌, arith}
use Rattle.std.specs.Prelude.{slice_get, map, ℤ, pos}
use Rattle.std.proofs.lemmas.Option.{slice_get_read}
use Rattle.run_plan.specs.declared.plan.Branch.{Branch}
use Rattle.list_lemmas.specs.Places.{update}
use Rattle.list_lemmas.proofs.Updates.{set-update}
use Rattle.request_table.specs.declared.LineRow.{LineRow}
use Rattle.request_table.specs.declared.RequestRow.{RequestRow}
use Rattle.request_table.specs.declared.Singles.{Singles}
use Rattle.request_table.specs.Rows.{Facts, on_line, single_by, single_of, number_after, next_number}

-- ---- each element changed in turn

abbrev pub blank : RequestRow
blank = record { number = 0; action = 0; attempt = 0; pending = false; cancelled = false }

abbrev pub map_first : {X : Type 0} → (X → X) → ℕ → List X → List X
map_first g zero xs = xs
map_first g (suc n) [] = []
map_first g (suc n) (x ∷ xs) = g x ∷ map_first g n xs

pub map_first_step : {X : Type 0} (g : X → X) (n : ℕ) (xs : List X) (d : X) → n < length xs → set (map_first g n xs) n (g (get_or (map_first g n xs) n d)) ≡ map_first g (n + 1) xs
map_first_step g n [] d lt = absurd (omega arith)
map_first_step g zero (x ∷ xs) d lt = refl
map_first_step {X} g (suc n) (x ∷ xs) d lt =
    let below : n < length xs = omega arith in
    ap (λ (ys : List X). g x ∷ ys) (map_first_step g n xs d below) ∙ (let e : suc (n + 1) ≡ suc n + 1 = omega arith in ap (λ m. map_first g m (x ∷ xs)) e)

pub map_first_all : {X : Type 0} (g : X → X) (xs : List X) → map_first g (length xs) xs ≡ map g xs
map_first_all g [] = refl
map_first_all {X} g (x ∷ xs) = ap (λ (ys : List X). g x ∷ ys) (map_first_all g xs)

-- ---- one row

abbrev pub row_of : Option ℕ → List RequestRow → LineRow
row_of last xs = record { last = last; places = record { items = xs } }

abbrev pub facts_of : List LineRow → List Singles → Facts
facts_of xs ys = record { lines = xs; singles = ys }

pub row_is : (f f' : Facts) (l : ℕ) (x : LineRow) → f ≡ f' → l < length f'.lines → x ≡ get_or f.lines l x → slice_get f'.lines l ≡ Some x
row_is f f' l x e lt is =
    let within : l < length f.lines = rw e lt in
    ap (λ g. slice_get g.lines l) (sym e) ∙ slice_get_read f.lines (length f.lines) l x refl within is

pub row_written : (g : LineRow → LineRow) (f f' : Facts) (l : ℕ) (x r : LineRow) → f ≡ f' → l < length f'.lines → x ≡ get_or f.lines l x → r ≡ g x
    → ◌≡◌ {A = Facts} (record { lines = set f.lines l r; singles = f.singles }) (record { lines = update g f'.lines l; singles = f'.singles })
row_written g f f' l x r e lt is more =
    let within : l < length f.lines = rw e lt in
    ap (λ (y : LineRow). facts_of (set f.lines l y) f.singles) (more ∙ ap g is)
    ∙ ap (λ (ys : List LineRow). facts_of ys f.singles) (set-update g f.lines l x within)
    ∙ ap (λ (h : Facts). facts_of (update g h.lines l) h.singles) e

-- the same, where the number isn't negative
pub on_line_written : (g : ℕ → LineRow → LineRow) (f f' : Facts) (l n : ℕ) (z : ℤ) (x r : LineRow) → pos n ≡ z → f ≡ f' → l < length f'.lines → x ≡ get_or f.lines l x → r ≡ g n x
    → ◌≡◌ {A = Facts} (record { lines = set f.lines l r; singles = f.singles }) (on_line g f' l z)
on_line_written g f f' l n z x r number e lt is more = row_written (g n) f f' l x r e lt is more ∙ ap (on_line g f' l) number

-- the number of a Send, as the code finds it
pub next_is : (f f' : Facts) (l a : ℕ) (b : Branch) (s : Singles) (x : LineRow) (single : Bool) (n : ℕ) → f ≡ f' → l < length f'.lines → a < length f'.singles
    → s ≡ get_or f.singles a s → x ≡ get_or f.lines l x → single ≡ single_by b s → n ≡ number_after single (unwrap_or x.last 0) → n ≡ next_number f' l a b
next_is f f' l a b s x single n e known planned kind row by is =
    let there : slice_get f'.singles a ≡ Some s = (let within : a < length f.singles = rw e planned in ap (λ g. slice_get g.singles a) (sym e) ∙ slice_get_read f.singles (length f.singles) a s refl within kind) in
    let here = row_is f f' l x e known row in
    is ∙ ap (λ (v : Bool). number_after v (unwrap_or x.last 0)) by
    ∙ ap (λ (o : Option Singles). number_after (unwrap_or (option_map (single_by b) o) true) (unwrap_or x.last 0)) (sym there)
    ∙ ap (λ (o : Option LineRow). number_after (single_of f' a b) (unwrap_or (option_and_then (λ y. y.last) o) 0)) (sym here)
