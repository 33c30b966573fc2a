-- Which files were read, path by path.
use Rattle.std.proofs.Common.{◌≡◌, ℕ, List, [], ◌∷◌, ◌++◌, map, Bool, true, false, cond, ◌||◌, Some, None, is_some, refl, ap, sym, append_assoc, append-nil, ◌∙◌, String, string_bytes}
use Rattle.std.specs.List.{All}
use Rattle.std.specs.Option.{IsSome}
use Rattle.std.specs.Str.{bytes_eq}
use Rattle.std.specs.Map.{lookup}
use Rattle.std.specs.String.{string_eq}
use Rattle.std.specs.declared.alloc.Global.{Global}
use Rattle.std.proofs.lemmas.Slice.Eq.{bytes_eq-Decides}
use Rattle.std.proofs.lemmas.List.{map-append}
use Rattle.std.proofs.lemmas.List.Elements.{All-cons, All-nil, All-weaker}
use Rattle.std.proofs.lemmas.List.Folds.{list_any-append}
use Rattle.list_actions.specs.Order.{is_among}
use Rattle.indexmap.specs.IndexMap.{IndexMap, insert_entry}
use Rattle.indexmap.proofs.CallerLemmas.{insert_entry-new}
use Rattle.outside.specs.Floor.{file_at, one_read}
use Rattle.outside.specs.declared.answers.Read.{Read}
use Rattle.outside.specs.declared.answers.Read.TheVariants as read
use Rattle.outside.specs.declared.floor.FloorRead.{FloorRead}
use Rattle.outside.specs.declared.floor.SourceFile.{SourceFile}
use Rattle.run_loading.specs.Wanted.{source_file, paths_of, with_path, with_paths, each_once, found_read, AllFound, FirstLost}
use Rattle.run_loading.specs.Sources.{NewFound, NewLost}

-- ---- look-ups

eq_sym : (a b : List ℕ) → bytes_eq a b ≡ bytes_eq b a
eq_sym a b = both (bytes_eq a b) (bytes_eq b a) (λ t. (bytes_eq-Decides b a).1 (sym ((bytes_eq-Decides a b).0 t))) (λ t. (bytes_eq-Decides a b).1 (sym ((bytes_eq-Decides b a).0 t)))
  where
    both : (x y : Bool) → (x ≡ true → y ≡ true) → (y ≡ true → x ≡ true) → x ≡ y
    both true y f g = sym (f refl)
    both false true f g = g refl
    both false false f g = refl

-- the file that is looked up by its path
pub file_found : (es : List (String Global × List ℕ)) (p : List ℕ) → lookup (λ k. bytes_eq p (string_bytes k)) es ≡ file_at (map (λ e. source_file (string_bytes e.0) e.1) es) p
file_found [] p = refl
file_found (e ∷ es) p = ap (λ b. cond b (Some e.1) (lookup (λ k. bytes_eq p (string_bytes k)) es)) (eq_sym p (string_bytes e.0)) ∙ ap (λ r. cond (bytes_eq (string_bytes e.0) p) (Some e.1) r) (file_found es p)

-- a path is among those of the files where it is one of theirs
pub among_files : (files : List SourceFile) (p : List ℕ) → is_among (paths_of files) p ≡ is_some (file_at files p)
among_files [] p = refl
among_files (f ∷ files) p = step (bytes_eq f.path p) (among_files files p)
  where
    step : (b : Bool) → is_among (paths_of files) p ≡ is_some (file_at files p) → (b || is_among (paths_of files) p) ≡ is_some (cond b (Some f.bytes) (file_at files p))
    step true h = refl
    step false h = h

-- ---- paths, each at its first place

pub with_paths-append : (before ps qs : List (List ℕ)) → with_paths before (ps ++ qs) ≡ with_paths (with_paths before ps) qs
with_paths-append before [] qs = refl
with_paths-append before (p ∷ ps) qs = with_paths-append (with_path before p) ps qs

one_grown : (before : List (List ℕ)) (p : List ℕ) (b : Bool) → (rest : List (List ℕ)) × (cond b before (before ++ p ∷ []) ≡ before ++ rest)
one_grown before p true = ([], sym (append-nil before))
one_grown before p false = (p ∷ [], refl)

-- those before stay in front
pub grown : (before ps : List (List ℕ)) → (rest : List (List ℕ)) × (with_paths before ps ≡ before ++ rest)
grown before [] = ([], sym (append-nil before))
grown before (p ∷ ps) =
    let one = one_grown before p (is_among before p) in
    let more = grown (with_path before p) ps in
    (one.0 ++ more.0, more.1 ∙ ap (λ (xs : List (List ℕ)). xs ++ more.0) one.1 ∙ append_assoc before one.0 more.0)

with_new : (before : List (List ℕ)) (p : List ℕ) → is_among before p ≡ false → with_path before p ≡ before ++ p ∷ []
with_new before p e = ap (λ b. cond b before (before ++ p ∷ [])) e

with_old : (before : List (List ℕ)) (p : List ℕ) → is_among before p ≡ true → with_path before p ≡ before
with_old before p e = ap (λ b. cond b before (before ++ p ∷ [])) e

-- ---- one path

new_path : (before : List SourceFile) (p : List ℕ) → file_at before p ≡ None → with_path (paths_of before) p ≡ paths_of before ++ p ∷ []
new_path before p none = with_new (paths_of before) p (among_files before p ∙ ap is_some none)

pub found_one : (before : List SourceFile) (p bytes : List ℕ) (after : List SourceFile) → file_at before p ≡ None → after ≡ before ++ source_file p bytes ∷ [] → NewFound before (p ∷ []) after (one_read p (read.Found bytes))
found_one before p bytes after none is = record {
  files = source_file p bytes ∷ [];
  grown = is;
  made = refl;
  in_order = new_path before p none ∙ sym (map-append (λ (f : SourceFile). f.path) before (source_file p bytes ∷ [])) ∙ ap paths_of (sym is);
}

pub found_before : (before : List SourceFile) (p bytes : List ℕ) → file_at before p ≡ Some bytes → NewFound before (p ∷ []) before []
found_before before p bytes some = record {
  files = [];
  grown = sym (append-nil before);
  made = refl;
  in_order = with_old (paths_of before) p (among_files before p ∙ ap is_some some);
}

pub lost_one : (before : List SourceFile) (p : List ℕ) (answer : Read) → file_at before p ≡ None → NewLost before (p ∷ []) (one_read p answer) p answer
lost_one before p answer none = record {
  files = [];
  later = [];
  made = refl;
  in_order = new_path before p none ∙ ap (λ (fs : List SourceFile). paths_of fs ++ p ∷ []) (sym (append-nil before));
}

-- ---- one after another

pub found_none : (before : List SourceFile) → NewFound before [] before []
found_none before = record { files = []; grown = sym (append-nil before); made = refl; in_order = refl }

both_made : (f1 f2 : List SourceFile) (r1 r2 last : List FloorRead) → r1 ≡ map found_read f1 → r2 ≡ map found_read f2 ++ last → r1 ++ r2 ≡ map found_read (f1 ++ f2) ++ last
both_made f1 f2 r1 r2 last m1 m2 =
    ap (λ (r : List FloorRead). r ++ r2) m1 ∙ ap (λ (r : List FloorRead). map found_read f1 ++ r) m2
    ∙ sym (append_assoc (map found_read f1) (map found_read f2) last) ∙ ap (λ (r : List FloorRead). r ++ last) (sym (map-append found_read f1 f2))

pub found_on : (before mid after : List SourceFile) (ps qs : List (List ℕ)) (r1 r2 : List FloorRead) → NewFound before ps mid r1 → NewFound mid qs after r2 → NewFound before (ps ++ qs) after (r1 ++ r2)
found_on before mid after ps qs r1 r2 first second = record {
  files = first.files ++ second.files;
  grown = second.grown ∙ ap (λ (fs : List SourceFile). fs ++ second.files) first.grown ∙ append_assoc before first.files second.files;
  made = sym (append-nil (r1 ++ r2)) ∙ ap (λ (r : List FloorRead). r ++ []) (both_made first.files second.files r1 r2 [] first.made (second.made ∙ sym (append-nil (map found_read second.files)))) ∙ append-nil _ ∙ append-nil _;
  in_order = with_paths-append (paths_of before) ps qs ∙ ap (λ (b : List (List ℕ)). with_paths b qs) first.in_order ∙ second.in_order;
}

pub lost_on : (before mid : List SourceFile) (ps qs : List (List ℕ)) (r1 r2 : List FloorRead) (p : List ℕ) (answer : Read) → NewFound before ps mid r1 → NewLost mid qs r2 p answer → NewLost before (ps ++ qs) (r1 ++ r2) p answer
lost_on before mid ps qs r1 r2 p answer first second = record {
  files = first.files ++ second.files;
  later = second.later;
  made = both_made first.files second.files r1 r2 (one_read p answer) first.made second.made;
  in_order = with_paths-append (paths_of before) ps qs ∙ ap (λ (b : List (List ℕ)). with_paths b qs) first.in_order ∙ second.in_order
      ∙ ap (λ (fs : List SourceFile). paths_of fs ++ p ∷ second.later) (ap (λ (fs : List SourceFile). fs ++ second.files) first.grown ∙ append_assoc before first.files second.files);
}

-- further paths behind the one that wasn't found
pub lost_wider : (before : List SourceFile) (ps qs : List (List ℕ)) (reads : List FloorRead) (p : List ℕ) (answer : Read) → NewLost before ps reads p answer → NewLost before (ps ++ qs) reads p answer
lost_wider before ps qs reads p answer lost =
    let all = paths_of (before ++ lost.files) in
    let more = grown (all ++ p ∷ lost.later) qs in
    record {
      files = lost.files;
      later = lost.later ++ more.0;
      made = lost.made;
      in_order = with_paths-append (paths_of before) ps qs ∙ ap (λ (b : List (List ℕ)). with_paths b qs) lost.in_order ∙ more.1 ∙ append_assoc all (p ∷ lost.later) more.0;
    }

-- ---- from nothing on

pub all_found : (paths : List (List ℕ)) (after : List SourceFile) (reads : List FloorRead) → NewFound [] paths after reads → AllFound (each_once paths) reads after
all_found paths after reads found = record { made = found.made ∙ ap (map found_read) (sym found.grown); in_order = found.in_order }

pub first_lost : (paths : List (List ℕ)) (reads : List FloorRead) (p : List ℕ) (answer : Read) → NewLost [] paths reads p answer → FirstLost (each_once paths) reads p answer
first_lost paths reads p answer lost = record { files = lost.files; later = lost.later; made = lost.made; in_order = lost.in_order }

-- ---- each path has its file

or_left : (a b : Bool) → a ≡ true → (a || b) ≡ true
or_left true b e = refl
or_left false b e = absurd cc

or_right : (a b : Bool) → b ≡ true → (a || b) ≡ true
or_right true b e = refl
or_right false b e = e

among_front : (xs ys : List (List ℕ)) (p : List ℕ) → is_among xs p ≡ true → is_among (xs ++ ys) p ≡ true
among_front xs ys p e = list_any-append (λ u. bytes_eq u p) xs ys ∙ or_left (is_among xs p) (is_among ys p) e

among_last : (xs : List (List ℕ)) (p : List ℕ) → is_among (xs ++ p ∷ []) p ≡ true
among_last xs p = list_any-append (λ u. bytes_eq u p) xs (p ∷ []) ∙ or_right (is_among xs p) (is_among (p ∷ []) p) (or_left (bytes_eq p p) false ((bytes_eq-Decides p p).1 refl))

with_itself : (before : List (List ℕ)) (p : List ℕ) (b : Bool) → is_among before p ≡ b → is_among (cond b before (before ++ p ∷ [])) p ≡ true
with_itself before p true e = e
with_itself before p false e = among_last before p

-- where these paths were added, each of them is there
all_among : (before ps : List (List ℕ)) → All (λ p. is_among (with_paths before ps) p ≡ true) ps
all_among before [] = All-nil (λ p. is_among (with_paths before []) p ≡ true)
all_among before (p ∷ ps) =
    let more = grown (with_path before p) ps in
    let here = among_front (with_path before p) more.0 p (with_itself before p (is_among before p) refl) in
    All-cons (λ q. is_among (with_paths before (p ∷ ps)) q ≡ true) p ps (ap (λ (xs : List (List ℕ)). is_among xs p) more.1 ∙ here) (all_among (with_path before p) ps)

pub each_has_file : (before ps : List (List ℕ)) (files : List SourceFile) → with_paths before ps ≡ paths_of files → All (λ p. IsSome (file_at files p)) ps
each_has_file before ps files is =
    All-weaker (λ p. is_among (with_paths before ps) p ≡ true) (λ p. IsSome (file_at files p))
    (λ p among. sym (among_files files p) ∙ ap (λ (xs : List (List ℕ)). is_among xs p) (sym is) ∙ among) ps (all_among before ps)

-- a file that is noted stands behind those before
pub file_noted : {S : Type 0} (old new : IndexMap (String Global) (List ℕ) S) (key : String Global) (path bytes : List ℕ) → string_bytes key ≡ path → file_at (map (λ e. source_file (string_bytes e.0) e.1) old.entries) path ≡ None → new.entries ≡ insert_entry string_eq old.entries key bytes
    → map (λ e. source_file (string_bytes e.0) e.1) new.entries ≡ map (λ e. source_file (string_bytes e.0) e.1) old.entries ++ source_file path bytes ∷ []
file_noted old new key path bytes same none is =
    let absent = file_found old.entries (string_bytes key) ∙ ap (file_at (map (λ e. source_file (string_bytes e.0) e.1) old.entries)) same ∙ none in
    ap (map (λ e. source_file (string_bytes e.0) e.1)) (is ∙ insert_entry-new string_eq old key bytes absent)
    ∙ map-append (λ e. source_file (string_bytes e.0) e.1) old.entries ((key, bytes) ∷ [])
    ∙ ap (λ (p : List ℕ). map (λ e. source_file (string_bytes e.0) e.1) old.entries ++ source_file p bytes ∷ []) same
