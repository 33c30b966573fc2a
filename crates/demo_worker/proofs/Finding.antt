-- Looks at files, one after another.
use Rattle.std.proofs.Common.{◌≡◌, ℕ, ◌<◌, ◌≤◌, ◌+◌, List, [], ◌∷◌, ◌++◌, map, drop, get_or, length, suc, arith}
use Rattle.std.specs.Option.{option_copied}
use Rattle.std.proofs.Common.{true, false, Bor, Option, Some, None, refl, ap, sym, ◌∙◌, subst, append_assoc, append-nil, drop-cons, inl, inr}
use Rattle.std.specs.List.{All, flat_map, cons_option}
use Rattle.std.specs.Prelude.{filter_map}
use Rattle.std.specs.Prelude.{slice_index_or, Result, Ok, Err, IfOk}
use Rattle.std.proofs.lemmas.List.{map-append}
use Rattle.std.proofs.lemmas.List.Elements.{All-append}
use Rattle.plain_values.specs.declared.no_memory.NoMemory.{NoMemory}
use Rattle.outside.specs.Causes.{Counts, Rose}
use Rattle.outside.specs.Lists.{Adds}
use Rattle.outside.specs.declared.answers.Io.{Io}
use Rattle.outside.specs.declared.answers.Io.TheVariants as io
use Rattle.std.proofs.lemmas.Grind.{flat_map-append}
use Rattle.outside.specs.Told.{ShopTold}
use Rattle.outside.specs.declared.answers.Read.{Read}
use Rattle.outside.specs.declared.answers.Read.TheVariants as read
use Rattle.outside.specs.declared.floor.SourceFile.{SourceFile}
use Rattle.outside.specs.declared.shop.ShopCall.{ShopCall}
use Rattle.outside.specs.declared.shop.ShopCall.TheVariants as call
use Rattle.message_service.specs.Calls.{Made}
use Rattle.message_service.proofs.Made.{made_on, made_nothing}
use Rattle.demo_worker.specs.declared.stop.Stop.{Stop}
use Rattle.demo_worker.specs.declared.stop.Stop.TheVariants as stop
use Rattle.demo_worker.specs.Looks.{Finds, Misses, IsHad, found, paths_of, contents_of}
use Rattle.demo_worker.specs.Steps.{Has, Lacks, Tries, FailsAt, FailsIn, LooksFirst}

suc_is : (k : ℕ) → suc k ≡ k + 1
suc_is k = omega arith

pub drop_here : {A : Type 0} (xs : List A) (k : ℕ) (x : A) → k < length xs → x ≡ get_or xs k x
    → drop k xs ≡ x ∷ drop (k + 1) xs
drop_here {A = A} xs k x below is = drop-cons xs k x below ∙ ap (λ (y : A). y ∷ drop (suc k) xs)
    (sym is) ∙ ap (λ (j : ℕ). x ∷ drop j xs) (suc_is k)

-- the next word names a path
pub path_here : (f : List ℕ → Option (List ℕ)) (words : List (List ℕ)) (k : ℕ) (w path : List ℕ)
    → k < length words → w ≡ get_or words k w → f w ≡ Some path
    → filter_map f (drop k words) ≡ path ∷ filter_map f (drop (k + 1) words)
path_here f words k w path below is says = ap (filter_map f) (drop_here words k w below is)
    ∙ ap (λ (o : Option (List ℕ)). cons_option o (filter_map f (drop (k + 1) words))) says

-- or it names none
pub no_path_here : (f : List ℕ → Option (List ℕ)) (words : List (List ℕ)) (k : ℕ) (w : List ℕ)
    → k < length words → w ≡ get_or words k w → f w ≡ None
    → filter_map f (drop k words) ≡ filter_map f (drop (k + 1) words)
no_path_here f words k w below is says = ap (filter_map f) (drop_here words k w below is)
    ∙ ap (λ (o : Option (List ℕ)). cons_option o (filter_map f (drop (k + 1) words))) says

pub none_from : (r : Option (Bor (List ℕ))) → ((x : Bor (List ℕ)) → r ≡ Some x → ⊥)
    → option_copied r ≡ None
none_from None no' = refl
none_from (Some x) no' = absurd (no' x refl)

pub contents_more : (files : List SourceFile) (path bytes : List ℕ)
    → contents_of (files ++ record { path = path; bytes = bytes } ∷ []) ≡ contents_of files ++ bytes
contents_more files path bytes =
    flat_map-append (λ (f : SourceFile). f.bytes) files (record { path = path; bytes = bytes } ∷ [])
    ∙ ap (λ (bs : List ℕ). contents_of files ++ bs) (append-nil bytes)

not_failed : false ≡ true → ⊥
not_failed e = cc

pub got : (path : List ℕ) (answer : Read) (r : Result Read NoMemory) (old new : ShopTold)
    → r ≡ Ok answer → Counts old.faults new.faults (r ≡ Ok read.Failed)
    → Adds (call.Get path answer ∷ []) old.log new.log → Made (call.Get path answer ∷ []) old new
got path (read.Found bytes) r old new is count log = record {
  log = log;
  count = record { later = count.later; rose = λ e. absurd (not_failed e) };
}
got path read.Absent r old new is count log = record {
  log = log;
  count = record { later = count.later; rose = λ e. absurd (not_failed e) };
}
got path read.Failed r old new is count log = record {
  log = log;
  count = record { later = count.later; rose = λ e. count.rose is };
}

pub cannot_be_put : (path bytes : List ℕ) (old new : ShopTold) → old.faults ≤ new.faults
    → Rose old.faults new.faults → Adds (call.Put path bytes io.Failed ∷ []) old.log new.log
    → Made (call.Put path bytes io.Failed ∷ []) old new
cannot_be_put path bytes old new later rose log = record {
  log = log;
  count = record { later = later; rose = λ e. rose };
}

module _ (fault : List ℕ → Read → Option (List ℕ)) where
  -- these files were had so far
  pub record SoFar (paths : List (List ℕ)) (files : List SourceFile) (left : List (List ℕ))
      (old now : ShopTold) : Type 0 where
    pub looks : List ShopCall
    pub finds : Finds fault paths files left looks
    pub made : Made looks old now

  pub found_none : (paths : List (List ℕ)) (told : ShopTold) → SoFar paths [] paths told told
  found_none paths told = record {
    looks = [];
    finds = record { first = refl; had = λ k d below. absurd (omega (arith, below)); made = refl };
    made = made_nothing told;
  }

  one_had : (f : SourceFile) → IsHad fault f → All (IsHad fault) (f ∷ [])
  one_had f is = λ k d below. let e : 0 ≡ k = omega (arith, below) in
      subst (λ (j : ℕ). IsHad fault (slice_index_or (f ∷ []) j d)) e is

  had_more : (files : List SourceFile) (f : SourceFile) → All (IsHad fault) files → IsHad fault f
      → All (IsHad fault) (files ++ f ∷ [])
  had_more files f all is = All-append (IsHad fault) files (f ∷ []) all (one_had f is)

  paths_more : (paths : List (List ℕ)) (files : List SourceFile) (f : SourceFile)
      (left : List (List ℕ)) → paths ≡ paths_of files ++ f.path ∷ left
      → paths ≡ paths_of (files ++ f ∷ []) ++ left
  paths_more paths files f left is = is
      ∙ sym (append_assoc (paths_of files) (f.path ∷ []) left)
      ∙ ap (λ (ps : List (List ℕ)). ps ++ left) (sym (map-append (λ (g : SourceFile). g.path) files
      (f ∷ [])))

  finds_more : (paths : List (List ℕ)) (files : List SourceFile) (left : List (List ℕ))
      (looks calls : List ShopCall) (path bytes : List ℕ) → Finds fault paths files (path ∷ left) looks
      → Has fault path bytes calls
      → Finds fault paths (files ++ record { path = path; bytes = bytes } ∷ []) left (looks ++ calls)
  finds_more paths files left looks calls path bytes f h =
      let file : SourceFile = record { path = path; bytes = bytes } in
      record {
        first = paths_more paths files file left f.first;
        had = had_more files file f.had h.0;
        made = ap (λ (cs : List ShopCall). cs ++ calls) f.made
            ∙ ap (λ (cs : List ShopCall). map found files ++ cs) h.1
            ∙ sym (map-append found files (file ∷ []));
      }

  pub more : (paths : List (List ℕ)) (files : List SourceFile) (left : List (List ℕ))
      (old mid new : ShopTold) (path bytes : List ℕ) → SoFar paths files (path ∷ left) old mid
      → ((calls : List ShopCall) × Has fault path bytes calls × Made calls mid new)
      → SoFar paths (files ++ record { path = path; bytes = bytes } ∷ []) left old new
  more paths files left old mid new path bytes s h = record {
    looks = s.looks ++ h.0;
    finds = finds_more paths files left s.looks h.0 path bytes s.finds h.1;
    made = made_on s.looks h.0 old mid new s.made h.2;
  }

  misses : (paths : List (List ℕ)) (files : List SourceFile) (left : List (List ℕ))
      (looks calls : List ShopCall) (path text : List ℕ) → Finds fault paths files (path ∷ left) looks
      → Lacks fault path text calls → Misses fault paths text (looks ++ calls)
  misses paths files left looks calls path text f l = record {
    files = files;
    path = path;
    left = left;
    before = looks;
    answer = l.0;
    finds = f;
    says = l.1;
    all = ap (λ (cs : List ShopCall). looks ++ cs) l.2;
  }

  tries : (paths : List (List ℕ)) (files : List SourceFile) (left : List (List ℕ))
      (looks calls : List ShopCall) (path : List ℕ) → Finds fault paths files (path ∷ left) looks
      → Tries fault path calls → LooksFirst fault paths (looks ++ calls)
  tries paths files left looks calls path f (inl none) = inl (
    files,
    path ∷ left,
    subst (λ (cs : List ShopCall). Finds fault paths files (path ∷ left) cs)
        (sym (append-nil looks) ∙ ap (λ (cs : List ShopCall). looks ++ cs) (sym none)) f,
  )
  tries paths files left looks calls path f (inr (inl h)) = inl (
    files ++ record { path = path; bytes = h.0 } ∷ [],
    left,
    finds_more paths files left looks calls path h.0 f h.1,
  )
  tries paths files left looks calls path f (inr (inr l)) =
      inr (l.0, misses paths files left looks calls path l.0 f l.1)

  fails_in : (paths : List (List ℕ)) (files : List SourceFile) (left : List (List ℕ))
      (looks calls : List ShopCall) (path : List ℕ) (s : Stop)
      → Finds fault paths files (path ∷ left) looks → FailsAt fault path s calls
      → FailsIn fault paths s (looks ++ calls)
  fails_in paths files left looks calls path (stop.Says text) f l =
      misses paths files left looks calls path text f l
  fails_in paths files left looks calls path stop.NoMemory f t =
      tries paths files left looks calls path f t

  pub fails : (paths : List (List ℕ)) (files : List SourceFile) (left : List (List ℕ))
      (old mid new : ShopTold) (path : List ℕ) (s : Stop) → SoFar paths files (path ∷ left) old mid
      → ((calls : List ShopCall) × FailsAt fault path s calls × Made calls mid new)
      → (looks : List ShopCall) × FailsIn fault paths s looks × Made looks old new
  fails paths files left old mid new path s f h = (
    f.looks ++ h.0,
    fails_in paths files left f.looks h.0 path s f.finds h.1,
    made_on f.looks h.0 old mid new f.made h.2,
  )

  pub left_is : (paths : List (List ℕ)) (files : List SourceFile) (left left' : List (List ℕ))
      (old now : ShopTold) → left ≡ left' → SoFar paths files left old now
      → SoFar paths files left' old now
  left_is paths files left left' old now is s =
      subst (λ (ls : List (List ℕ)). SoFar paths files ls old now) is s

  -- memory ran out between two looks
  pub cut : (paths : List (List ℕ)) (files : List SourceFile) (left : List (List ℕ))
      (old now : ShopTold) → SoFar paths files left old now
      → (looks : List ShopCall) × FailsIn fault paths stop.NoMemory looks × Made looks old now
  cut paths files left old now f = (f.looks, inl (files, left, f.finds), f.made)
