-- A walk in parts: what was met first, and then the rest.
use Rattle.std.proofs.Common.{◌≡◌, ℕ, zero, suc, ◌+◌, ◌-◌, ◌<◌, true, false, cond, List, [], ◌∷◌, ◌++◌, Some, None, Result, Ok, Err, length, drop, get_or, refl, sym, ap, subst, ◌∙◌, arith}
use Rattle.std.proofs.lemmas.List.{at_drop_more, drop_all}
use Rattle.std.specs.List.{flat_map}
use Rattle.outside.specs.declared.floor.SourceFile.{SourceFile}
use Rattle.flag_files.specs.declared.expanding.FlagFault.{FlagFault}
use Rattle.flag_files.specs.declared.expanding.FlagFault.TheVariants as fault
use Rattle.flag_files.specs.Expand.{Step, stays, stops, steps, steps_of_text, file_name, file_text, fits, walk, Refuses}

-- the rest of a walk
abbrev pub then_walk : Result (List (List ℕ)) FlagFault → List Step → Result (List (List ℕ)) FlagFault
then_walk (Ok now) later = walk now later
then_walk (Err f) later = Err f

pub walk-append : (before : List (List ℕ)) (xs ys : List Step) → walk before (xs ++ ys) ≡ then_walk (walk before xs) ys
walk-append before [] ys = refl
walk-append before (stops f ∷ xs) ys = refl
walk-append before (stays w ∷ xs) ys =
    elim (fits (before ++ w ∷ []))
    as (λ b. cond b (walk (before ++ w ∷ []) (xs ++ ys)) (Err fault.TooManyWords) ≡ then_walk (cond b (walk (before ++ w ∷ []) xs) (Err fault.TooManyWords)) ys)
    [ true ↦ walk-append (before ++ w ∷ []) xs ys | false ↦ refl ]

-- a refusal holds however the walk goes on
pub refuses_on : (f : FlagFault) (before : List (List ℕ)) (xs ys : List Step) → Refuses f (walk before xs) → Refuses f (walk before (xs ++ ys))
refuses_on fault.NoMemory before xs ys h = tt
refuses_on (fault.NoSuchFile path) before xs ys h = walk-append before xs ys ∙ ap (λ r. then_walk r ys) h
refuses_on (fault.TooDeep path) before xs ys h = walk-append before xs ys ∙ ap (λ r. then_walk r ys) h
refuses_on (fault.NotText path) before xs ys h = walk-append before xs ys ∙ ap (λ r. then_walk r ys) h
refuses_on fault.TooManyWords before xs ys h = walk-append before xs ys ∙ ap (λ r. then_walk r ys) h

-- a file that is refused stops the walk
pub refuses_file : (f : FlagFault) (before : List (List ℕ)) (g : List ℕ → List Step) (due : Result (List ℕ) FlagFault) → Refuses f due → Refuses f (walk before (steps_of_text g due))
refuses_file fault.NoMemory before g due h = tt
refuses_file (fault.NoSuchFile path) before g due h = ap (λ d. walk before (steps_of_text g d)) h
refuses_file (fault.TooDeep path) before g due h = ap (λ d. walk before (steps_of_text g d)) h
refuses_file (fault.NotText path) before g due h = ap (λ d. walk before (steps_of_text g d)) h
refuses_file fault.TooManyWords before g due h = ap (λ d. walk before (steps_of_text g d)) h

-- so far the walk over the lines has come, at the line with this index
abbrev pub IsAt : (List ℕ → List Step) → List (List ℕ) → ℕ → List (List ℕ) → List (List ℕ) → Type 0
IsAt g ls i start now = walk start (flat_map g ls) ≡ walk now (flat_map g (drop i ls))

at_line : (g : List ℕ → List Step) (ls : List (List ℕ)) (i : ℕ) (start now : List (List ℕ)) (w : List ℕ) → IsAt g ls i start now → i < length ls → w ≡ get_or ls i w
    → walk start (flat_map g ls) ≡ walk now (g w ++ flat_map g (drop (i + 1) ls))
at_line g ls i start now w h below is =
    h ∙ ap (walk now) (at_drop_more (flat_map g) ls i w below) ∙ ap (λ v. walk now (g v ++ flat_map g (drop (i + 1) ls))) (sym is)

pub line_done : (g : List ℕ → List Step) (ls : List (List ℕ)) (i : ℕ) (start now after : List (List ℕ)) (w : List ℕ) → IsAt g ls i start now → i < length ls → w ≡ get_or ls i w
    → walk now (g w) ≡ Ok after → IsAt g ls (i + 1) start after
line_done g ls i start now after w h below is done =
    at_line g ls i start now w h below is ∙ walk-append now (g w) (flat_map g (drop (i + 1) ls)) ∙ ap (λ r. then_walk r (flat_map g (drop (i + 1) ls))) done

pub line_refused : (f : FlagFault) (g : List ℕ → List Step) (ls : List (List ℕ)) (i : ℕ) (start now : List (List ℕ)) (w : List ℕ) → IsAt g ls i start now → i < length ls → w ≡ get_or ls i w
    → Refuses f (walk now (g w)) → Refuses f (walk start (flat_map g ls))
line_refused f g ls i start now w h below is refused =
    subst (λ d. Refuses f d) (sym (at_line g ls i start now w h below is)) (refuses_on f now (g w) (flat_map g (drop (i + 1) ls)) refused)

-- ---- the steps of one word

pub steps_of_plain : (levels : ℕ) (files : List SourceFile) (w : List ℕ) → file_name w ≡ None → steps levels files w ≡ stays w ∷ []
unfolding steps
steps_of_plain zero files w e = rw e
steps_of_plain (suc n) files w e = rw e

pub steps_too_deep : (files : List SourceFile) (w path : List ℕ) → file_name w ≡ Some path → steps 0 files w ≡ stops (fault.TooDeep path) ∷ []
unfolding steps
steps_too_deep files w path e = rw e

pub steps_of_file : (levels : ℕ) (files : List SourceFile) (w path : List ℕ) → 0 < levels → file_name w ≡ Some path → steps levels files w ≡ steps_of_text (steps (levels - 1) files) (file_text files path)
unfolding steps
steps_of_file zero files w path h e = absurd (omega arith)
steps_of_file (suc n) files w path h e =
    let one : suc n - 1 ≡ n = omega arith in
    rw (e, one)

-- at the end of the lines the walk gives the words so far
pub lines_done : (g : List ℕ → List Step) (ls : List (List ℕ)) (i : ℕ) (start now : List (List ℕ)) → IsAt g ls i start now → i ≡ length ls → walk start (flat_map g ls) ≡ Ok now
lines_done g ls i start now h all = h ∙ ap (λ l. walk now (flat_map g l)) (drop_all i ls (omega arith))
