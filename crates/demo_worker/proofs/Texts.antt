-- Files of which the lines are wanted.
use Rattle.std.proofs.Common.{◌≡◌, ℕ, Bool, true, false, List, [], ◌∷◌, ◌++◌, ◌+◌, drop, map, Option, Some, None, refl, ap, sym, subst, ◌∙◌, inl, inr, append_assoc, append-nil}
use Rattle.std.specs.Prelude.{if◌then◌else◌, is_some}
use Rattle.std.specs.Str.{is_utf8}
use Rattle.std.specs.Str.Lines.{lines}
use Rattle.outside.specs.Told.{ShopTold}
use Rattle.outside.specs.declared.answers.Read.{Read}
use Rattle.outside.specs.declared.answers.Read.TheVariants as read
use Rattle.outside.specs.declared.floor.SourceFile.{SourceFile}
use Rattle.outside.specs.declared.shop.ShopCall.{ShopCall}
use Rattle.message_service.specs.Calls.{Made}
use Rattle.demo_worker.specs.declared.stop.Stop.{Stop}
use Rattle.demo_worker.specs.declared.stop.Stop.TheVariants as stop
use Rattle.demo_worker.specs.Words.{flag_file_in, flag_files_of}
use Rattle.std.specs.List.{cons_option}
use Rattle.demo_worker.proofs.Finding.{SoFar}
use Rattle.demo_worker.specs.Looks.{Finds, file_fault, text_fault, missing}
use Rattle.demo_worker.specs.Once.{expanded, first_lines}
use Rattle.demo_worker.specs.Steps.{Has, Lacks, Tries, FailsAt}

abbrev fault_if : List ℕ → Bool → Option (List ℕ)
fault_if path b = if b then None else Some (missing path)

pub has_text : (path bytes : List ℕ) (looks : List ShopCall) → is_utf8 bytes ≡ true
    → Has file_fault path bytes looks → Has text_fault path bytes looks
has_text path bytes looks is h = (ap (fault_if path) is, h.1)

pub has_no_text : (path bytes : List ℕ) (looks : List ShopCall) → is_utf8 bytes ≡ false
    → Has file_fault path bytes looks → Lacks text_fault path (missing path) looks
has_no_text path bytes looks is h = (read.Found bytes, ap (fault_if path) is, h.1)

lacks_text : (path text : List ℕ) (looks : List ShopCall) → Lacks file_fault path text looks
    → Lacks text_fault path text looks
lacks_text path text looks (read.Found bytes, says, is) = cc
lacks_text path text looks (read.Absent, says, is) = (read.Absent, says, is)
lacks_text path text looks (read.Failed, says, is) = (read.Failed, says, is)

either_text : (b : Bool) (One : Type 0) → (b ≡ true → One) → (b ≡ false → One) → One
either_text b One = elim b as (λ v. (v ≡ true → One) → (v ≡ false → One)
    → One) [ true ↦ λ yes no. yes refl | false ↦ λ yes no. no refl ]

tries_text : (path : List ℕ) (looks : List ShopCall) → Tries file_fault path looks
    → Tries text_fault path looks
tries_text path looks (inl none) = inl none
tries_text path looks (inr (inl h)) = either_text (is_utf8 h.0) (Tries text_fault path looks)
    (λ yes. inr (inl (h.0, has_text path h.0 looks yes h.1)))
    (λ no. inr (inr (missing path, has_no_text path h.0 looks no h.1)))
tries_text path looks (inr (inr l)) = inr (inr (l.0, lacks_text path l.0 looks l.1))

fails_text : (path : List ℕ) (s : Stop) (looks : List ShopCall) → FailsAt file_fault path s looks
    → FailsAt text_fault path s looks
fails_text path (stop.Says text) looks l = lacks_text path text looks l
fails_text path stop.NoMemory looks t = tries_text path looks t

pub not_had : (path : List ℕ) (s : Stop) (old new : ShopTold)
    → ((looks : List ShopCall) × FailsAt file_fault path s looks × Made looks old new)
    → (looks : List ShopCall) × FailsAt text_fault path s looks × Made looks old new
not_had path s old new h = (h.0, fails_text path s h.0 h.1, h.2)

-- ---- words and lines

abbrev step_of : Bool → List ℕ → List (List ℕ) → List SourceFile → List (List ℕ)
step_of b w ws later =
    if b then first_lines later ++ expanded ws (drop 1 later) else w ∷ expanded ws later

pub line_word : (all ws left rest : List (List ℕ)) (w copy : List ℕ) (files : List SourceFile)
    → left ≡ w ∷ rest → flag_file_in w ≡ None → copy ≡ w
    → ((later : List SourceFile) → ws ++ expanded left later ≡ expanded all (files ++ later))
    → (later : List SourceFile)
    → (ws ++ copy ∷ []) ++ expanded rest later ≡ expanded all (files ++ later)
line_word all ws left rest w copy files is none same so_far later =
    append_assoc ws (copy ∷ []) (expanded rest later)
    ∙ ap (λ (x : List ℕ). ws ++ x ∷ expanded rest later) same
    ∙ sym (ap (λ (o : Option (List ℕ)). ws ++ step_of (is_some o) w rest later) none)
    ∙ sym (ap (λ (l : List (List ℕ)). ws ++ expanded l later) is)
    ∙ so_far later

pub file_word : (all ws ls left rest : List (List ℕ)) (w path bytes : List ℕ)
    (files : List SourceFile) → left ≡ w ∷ rest → flag_file_in w ≡ Some path → ls ≡ lines bytes
    → ((later : List SourceFile) → ws ++ expanded left later ≡ expanded all (files ++ later))
    → (later : List SourceFile) → (ws ++ ls) ++ expanded rest later
    ≡ expanded all ((files ++ record { path = path; bytes = bytes } ∷ []) ++ later)
file_word all ws ls left rest w path bytes files is says same so_far later =
    let file : SourceFile = record { path = path; bytes = bytes } in
    append_assoc ws ls (expanded rest later)
    ∙ ap (λ (xs : List (List ℕ)). ws ++ (xs ++ expanded rest later)) same
    ∙ sym (ap (λ (o : Option (List ℕ)). ws ++ step_of (is_some o) w rest (file ∷ later)) says)
    ∙ sym (ap (λ (l : List (List ℕ)). ws ++ expanded l (file ∷ later)) is)
    ∙ so_far (file ∷ later)
    ∙ ap (λ (fs : List SourceFile). expanded all fs) (sym (append_assoc files (file ∷ []) later))

pub flag_here : (left rest : List (List ℕ)) (w path : List ℕ) → left ≡ w ∷ rest
    → flag_file_in w ≡ Some path → flag_files_of left ≡ path ∷ flag_files_of rest
flag_here left rest w path is says = ap flag_files_of is
    ∙ ap (λ (o : Option (List ℕ)). cons_option o (flag_files_of rest)) says

pub no_flag_here : (left rest : List (List ℕ)) (w : List ℕ) → left ≡ w ∷ rest
    → flag_file_in w ≡ None → flag_files_of left ≡ flag_files_of rest
no_flag_here left rest w is says = ap flag_files_of is
    ∙ ap (λ (o : Option (List ℕ)). cons_option o (flag_files_of rest)) says

pub all_expanded : (all ws left : List (List ℕ)) (files : List SourceFile) (old new : ShopTold)
    → left ≡ [] → SoFar text_fault (flag_files_of all) files (flag_files_of left) old new
    → ((later : List SourceFile) → ws ++ expanded left later ≡ expanded all (files ++ later))
    → (looks : List ShopCall) × ((fs : List SourceFile)
    × Finds text_fault (flag_files_of all) fs [] looks × (ws ≡ expanded all fs))
    × Made looks old new
all_expanded all ws left files old new none s so_far = (
  s.looks,
  (
    files,
    subst (λ (l : List (List ℕ)). Finds text_fault (flag_files_of all) files (flag_files_of l)
        s.looks) none s.finds,
    sym (append-nil ws) ∙ sym (ap (λ (l : List (List ℕ)). ws ++ expanded l []) none) ∙ so_far []
        ∙ ap (expanded all) (append-nil files),
  ),
  s.made,
)
