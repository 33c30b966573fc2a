-- Looks at outputs, one after another.
use Rattle.std.proofs.Common.{◌≡◌, ℕ, ◌+◌, ◌<◌, ◌≤◌, List, [], ◌∷◌, ◌++◌, length, drop, get_or}
use Rattle.std.proofs.Common.{None, refl, subst, sym, ◌∙◌, ap, append-nil, append_assoc, drop-cons}
use Rattle.std.proofs.Common.{suc, arith}
use Rattle.std.proofs.Math.ListN.{drop_of_length-le}
use Rattle.outside.specs.Told.{ShopTold}
use Rattle.outside.specs.declared.answers.Read.{Read}
use Rattle.outside.specs.declared.answers.Read.TheVariants as read
use Rattle.outside.specs.declared.shop.ShopCall.{ShopCall}
use Rattle.outside.specs.declared.shop.ShopCall.TheVariants as call
use Rattle.remote_messages.specs.declared.file.NamedFile.{NamedFile}
use Rattle.message_service.specs.Calls.{Made}
use Rattle.message_service.proofs.Made.{made_on, made_nothing}
use Rattle.job_runner.specs.Calls.{Asked, cannot_read, refusal_of, WentWell, StopsAt}
use Rattle.job_runner.specs.Jobs.{in_folder, get_asks}
use Rattle.job_runner.specs.Results.{files_found}
use Rattle.job_runner.proofs.Does.{well_more}

-- the looks that were made for the outputs before these, whatever follows
pub record Looked (folder : List ℕ) (outputs : List (List ℕ)) (files : List NamedFile) (rest : List
    (List ℕ)) (old new : ShopTold) : Type 0 where
  pub looks : List ShopCall
  pub well : WentWell (get_asks folder outputs) looks (get_asks folder rest)
  pub found : (more : List ShopCall) → files_found outputs (looks ++ more) ≡ files ++ files_found
      rest more
  pub made : Made looks old new

pub looked_none : (folder : List ℕ) (outputs : List (List ℕ)) (files : List NamedFile) (told :
    ShopTold) → files ≡ [] → Looked folder outputs files outputs told told
looked_none folder outputs files told none = record {
  looks = [];
  well = refl;
  found = λ more. ap (λ (fs : List NamedFile). fs ++ files_found outputs more) (sym none);
  made = made_nothing told;
}

pub suc_is : (k : ℕ) → suc k ≡ k + 1
suc_is k = omega arith

pub drop_here : {A : Type 0} (xs : List A) (k : ℕ) (x : A) → k < length xs → x ≡ get_or xs k x
    → drop k xs ≡ x ∷ drop (k + 1) xs
drop_here {A = A} xs k x below is = drop-cons xs k x below ∙ ap (λ (y : A). y ∷ drop (suc k) xs)
    (sym is) ∙ ap (λ (j : ℕ). x ∷ drop j xs) (suc_is k)

module _ (folder : List ℕ) (outputs : List (List ℕ)) (k : ℕ) (x y : List ℕ) (below : k < length
    outputs) (is : x ≡ get_or outputs k x) (same : y ≡ x) (old mid new : ShopTold) where
  here : drop k outputs ≡ y ∷ drop (k + 1) outputs
  here = drop_here outputs k x below is ∙ ap (λ (z : List ℕ). z ∷ drop (k + 1) outputs) (sym same)

  at_here : (files : List NamedFile) → Looked folder outputs files (drop k outputs) old mid
      → Looked folder outputs files (y ∷ drop (k + 1) outputs) old mid
  at_here files l = subst (λ (rest : List (List ℕ)). Looked folder outputs files rest old mid) here
      l

  more_well : (files : List NamedFile) (answer : Read) (l : Looked folder outputs files (y ∷ drop
      (k + 1) outputs) old mid) → refusal_of (call.Get (in_folder folder y) answer) ≡ None
      → WentWell (get_asks folder outputs) (l.looks ++ call.Get (in_folder folder y) answer ∷ [])
      (get_asks folder (drop (k + 1) outputs))
  more_well files answer l well = well_more (get_asks folder outputs) l.looks (call.Get (in_folder
      folder y) answer) (get_asks folder (drop (k + 1) outputs)) l.well well

  pub looked_found : (files grown : List NamedFile) (path bytes : List ℕ) → path ≡ y
      → grown ≡ files ++ record { path = path; content = bytes } ∷ []
      → Looked folder outputs files (drop k outputs) old mid → Made (call.Get (in_folder folder y)
      (read.Found bytes) ∷ []) mid new → Looked folder outputs grown (drop (k + 1) outputs) old new
  looked_found files grown path bytes e grows l' m =
      let l = at_here files l' in
      let c : ShopCall = call.Get (in_folder folder y) (read.Found bytes) in
      let file : NamedFile = record { path = y; content = bytes } in
      let grows' : grown ≡ files ++ file ∷ [] = grows ∙ ap (λ (p : List ℕ). files ++ record {
        path
            = p;
        content = bytes;
      } ∷ []) e in
      record {
        looks = l.looks ++ c ∷ [];
        well = more_well files (read.Found bytes) l refl;
        found = λ more. ap (files_found outputs) (append_assoc l.looks (c ∷ []) more)
            ∙ l.found (c ∷ more) ∙ sym (append_assoc files (file ∷ []) (files_found (drop (k + 1)
            outputs) more)) ∙ ap (λ (fs : List NamedFile). fs ++ files_found (drop (k + 1) outputs)
            more) (sym grows');
        made = made_on l.looks (c ∷ []) old mid new l.made m;
      }

  pub looked_absent : (files : List NamedFile) → Looked folder outputs files (drop k outputs) old
      mid → Made (call.Get (in_folder folder y) read.Absent ∷ []) mid new
      → Looked folder outputs files (drop (k + 1) outputs) old new
  looked_absent files l' m =
      let l = at_here files l' in
      let c : ShopCall = call.Get (in_folder folder y) read.Absent in
      record {
        looks = l.looks ++ c ∷ [];
        well = more_well files read.Absent l refl;
        found = λ more. ap (files_found outputs) (append_assoc l.looks (c ∷ []) more)
            ∙ l.found (c ∷ more);
        made = made_on l.looks (c ∷ []) old mid new l.made m;
      }

  pub looked_failed : (files : List NamedFile) → Looked folder outputs files (drop k outputs) old
      mid → Made (call.Get (in_folder folder y) read.Failed ∷ []) mid new
      → (looks : List ShopCall) × StopsAt cannot_read (get_asks folder outputs) looks × Made looks
      old new
  looked_failed files l' m =
      let l = at_here files l' in
      let c : ShopCall = call.Get (in_folder folder y) read.Failed in (
        l.looks ++ c ∷ [],
        record {
          before = l.looks;
          last = c;
          rest = get_asks folder (drop (k + 1) outputs);
          all =
              refl;
          well = l.well;
          refused = refl;
        },
        made_on l.looks (c ∷ []) old mid new l.made m,
      )

abbrev pub LooksCut : List ℕ → List (List ℕ) → ShopTold → ShopTold → Type 0
LooksCut folder outputs old new = (looks : List ShopCall) × ((rest : List Asked) × WentWell
    (get_asks folder outputs) looks rest) × Made looks old new

pub looked_cut : (folder : List ℕ) (outputs : List (List ℕ)) (files : List NamedFile) (rest : List
    (List ℕ)) (old mid new : ShopTold) → Looked folder outputs files rest old mid
    → Made [] mid new → LooksCut folder outputs old new
looked_cut folder outputs files rest old mid new l m = (
  l.looks,
  (get_asks folder rest, l.well),
  subst (λ (cs : List ShopCall). Made cs old new) (append-nil l.looks) (made_on l.looks [] old
      mid new l.made m),
)

pub looked_all : (folder : List ℕ) (outputs : List (List ℕ)) (k : ℕ) (files : List NamedFile) (old
    new : ShopTold) → length outputs ≤ k → Looked folder outputs files (drop k outputs) old new
    → (looks : List ShopCall) × (WentWell (get_asks folder outputs) looks [] × (files ≡ files_found
    outputs looks)) × Made looks old new
looked_all folder outputs k files old new past l' =
    let l = subst (λ (rest : List (List ℕ)). Looked folder outputs files rest old new)
    (drop_of_length-le outputs past) l' in (
      l.looks,
      (
        l.well,
        sym (append-nil files) ∙ sym (l.found [])
            ∙ ap (files_found outputs) (append-nil l.looks),
      ),
      l.made,
    )
