-- From the steps of a command to all that it does.
use Rattle.std.proofs.Common.{◌≡◌, ℕ, List, [], ◌∷◌, ◌++◌, Option, Some, None, refl, ap, sym, ◌∙◌, subst}
use Rattle.std.proofs.Common.{append_assoc, append-nil, inl, inr, arith}
use Rattle.std.specs.Prelude.{Result, Ok, Err}
use Rattle.plain_values.specs.declared.no_memory.NoMemory.{NoMemory}
use Rattle.outside.specs.Told.{ShopTold}
use Rattle.outside.specs.declared.answers.Io.TheVariants as io
use Rattle.outside.specs.declared.answers.Read.TheVariants as read
use Rattle.outside.specs.declared.floor.SourceFile.{SourceFile}
use Rattle.outside.specs.declared.shop.ShopCall.{ShopCall}
use Rattle.outside.specs.declared.shop.ShopCall.TheVariants as call
use Rattle.message_service.specs.Calls.{Made}
use Rattle.message_service.proofs.Made.{made_on, made_nothing}
use Rattle.demo_worker.specs.declared.running.Answer.{Answer}
use Rattle.demo_worker.specs.declared.stop.Stop.{Stop}
use Rattle.demo_worker.specs.declared.stop.Stop.TheVariants as stop
use Rattle.demo_worker.specs.Words.{inputs_of, output_of, flag_files_of}
use Rattle.demo_worker.specs.Looks.{Finds, Misses, file_fault, text_fault, contents_of, missing, cannot_write}
use Rattle.demo_worker.specs.Does.{Copies, CannotPut, Stops, Does, Begins, Comes, put_to, copied, stopped}
use Rattle.demo_worker.specs.Once.{expanded, Expands, DoesOnce, BeginsOnce, ComesOnce}
use Rattle.demo_worker.specs.Steps.{FailsIn, LooksFirst, Puts, CopiesSo, ExpandsTo}

-- what is done whole has begun
pub begins_whole : (words : List (List ℕ)) (a : Answer) (calls : List ShopCall) → Does words a calls
    → Begins words calls
begins_whole words a calls d =
    (a, [], subst (λ (cs : List ShopCall). Does words a cs) (sym (append-nil calls)) d)

begins_finding : (words : List (List ℕ)) (files : List SourceFile) (left : List (List ℕ))
    (looks : List ShopCall) → Finds file_fault (inputs_of words) files left looks
    → Begins words looks
begins_finding words files [] looks f = (
  copied words,
  put_to (output_of words) (contents_of files),
  inl (record { files = files; looks = looks; finds = f; all = refl }, refl),
)
begins_finding words files (p ∷ ps) looks f = (
  stopped (missing p),
  call.Get p read.Absent ∷ [],
  inr (
    inl (record {
      files = files;
      path = p;
      left = ps;
      before = looks;
      answer = read.Absent;
      finds = f;
      says = refl;
      all = refl;
    }),
    refl,
  ),
)

pub nothing_yet : (words : List (List ℕ)) → Begins words []
nothing_yet words = begins_finding words [] (inputs_of words) [] (record {
  first = refl;
  had = λ k d below. absurd (omega (arith, below));
  made = refl;
})

-- memory ran out before the first call
pub not_begun : (words : List (List ℕ)) (e : NoMemory) (told : ShopTold)
    → (calls : List ShopCall) × Comes words (Err e) calls × Made calls told told
not_begun words e told = ([], nothing_yet words, made_nothing told)

fails_so : (words : List (List ℕ)) (s : Stop) (looks : List ShopCall)
    → FailsIn file_fault (inputs_of words) s looks → CopiesSo words (Err s) looks
fails_so words (stop.Says text) looks m = inl m
fails_so words stop.NoMemory looks (inl f) = begins_finding words f.0 f.1 looks f.2
fails_so words stop.NoMemory looks (inr m) =
    begins_whole words (stopped m.0) looks (inr (inl m.1, refl))

abbrev pub Copied : List (List ℕ) → Result (Unit {0}) Stop → ShopTold → ShopTold → Type 0
Copied words r old new = (calls : List ShopCall) × CopiesSo words r calls × Made calls old new

pub not_gathered : (words : List (List ℕ)) (s : Stop) (old new : ShopTold)
    → ((looks : List ShopCall) × FailsIn file_fault (inputs_of words) s looks × Made looks old new)
    → Copied words (Err s) old new
not_gathered words s old new h = (h.0, fails_so words s h.0 h.1, h.2)

copies : (words : List (List ℕ)) (files : List SourceFile) (looks calls : List ShopCall)
    (output : Option (List ℕ)) → Finds file_fault (inputs_of words) files [] looks
    → output_of words ≡ output → calls ≡ put_to output (contents_of files)
    → Copies words (looks ++ calls)
copies words files looks calls output f is made = record {
  files = files;
  looks = looks;
  finds = f;
  all = ap (λ (cs : List ShopCall). looks ++ cs) (made ∙ ap (λ (o : Option (List ℕ)). put_to o
      (contents_of files)) (sym is));
}

cannot_put : (words : List (List ℕ)) (files : List SourceFile) (looks calls : List ShopCall)
    (path text : List ℕ) → Finds file_fault (inputs_of words) files [] looks
    → output_of words ≡ Some path → text ≡ cannot_write path
    → calls ≡ call.Put path (contents_of files) io.Failed ∷ []
    → CannotPut words text (looks ++ calls)
cannot_put words files looks calls path text f is says made = record {
  files = files;
  looks = looks;
  path = path;
  finds = f;
  output = is;
  says = says;
  all = ap (λ (cs : List ShopCall). looks ++ cs) made;
}

puts_so : (words : List (List ℕ)) (files : List SourceFile) (looks calls : List ShopCall)
    (path : List ℕ) (r : Result (Unit {0}) Stop) → Finds file_fault (inputs_of words) files [] looks
    → output_of words ≡ Some path → Puts path (contents_of files) r calls
    → CopiesSo words r (looks ++ calls)
puts_so words files looks calls path (Ok done) f is p =
    copies words files looks calls (Some path) f is p
puts_so words files looks calls path (Err (stop.Says text)) f is p =
    inr (cannot_put words files looks calls path text f is p.0 p.1)
puts_so words files looks calls path (Err stop.NoMemory) f is p =
    begins_whole words (stopped (cannot_write path)) (looks ++ calls)
    (inr (inr (cannot_put words files looks calls path (cannot_write path) f is refl p), refl))

abbrev pub Gathered : List (List ℕ) → List ℕ → ShopTold → ShopTold → Type 0
Gathered words bytes old new = (looks : List ShopCall) × ((files : List SourceFile)
    × Finds file_fault (inputs_of words) files [] looks × (bytes ≡ contents_of files))
    × Made looks old new

pub then_put : (words : List (List ℕ)) (bytes path : List ℕ) (r : Result (Unit {0}) Stop)
    (old mid new : ShopTold) → Gathered words bytes old mid → output_of words ≡ Some path
    → ((calls : List ShopCall) × Puts path bytes r calls × Made calls mid new)
    → Copied words r old new
then_put words bytes path r old mid new h is p = (
  h.0 ++ p.0,
  puts_so words h.1.0 h.0 p.0 path r h.1.1 is
      (subst (λ (bs : List ℕ). Puts path bs r p.0) h.1.2 p.1),
  made_on h.0 p.0 old mid new h.2 p.2,
)

pub nothing_to_put : (words : List (List ℕ)) (bytes : List ℕ) (old new : ShopTold)
    → Gathered words bytes old new → output_of words ≡ None → Copied words (Ok tt) old new
nothing_to_put words bytes old new h is = (
  h.0 ++ [],
  copies words h.1.0 h.0 [] None h.1.1 is refl,
  subst (λ (cs : List ShopCall). Made cs old new) (sym (append-nil h.0)) h.2,
)

-- ---- words that stand for files

pub once_whole : (words : List (List ℕ)) (a : Answer) (calls : List ShopCall)
    → DoesOnce words a calls → BeginsOnce words calls
once_whole words a calls d =
    (a, [], subst (λ (cs : List ShopCall). DoesOnce words a cs) (sym (append-nil calls)) d)

expands : (words : List (List ℕ)) (a : Answer) (files : List SourceFile)
    (looks later : List ShopCall) → Finds text_fault (flag_files_of words) files [] looks
    → Does (expanded words files) a later → DoesOnce words a (looks ++ later)
expands words a files looks later f d = inl record {
  files = files;
  looks = looks;
  later = later;
  finds = f;
  does = d;
  all = refl;
}

-- the expanded words have begun
once_begins : (words : List (List ℕ)) (files : List SourceFile) (looks later : List ShopCall)
    → Finds text_fault (flag_files_of words) files [] looks → Begins (expanded words files) later
    → BeginsOnce words (looks ++ later)
once_begins words files looks later f b = (
  b.0,
  b.1,
  subst (λ (cs : List ShopCall). DoesOnce words
      b.0 cs) (sym (append_assoc looks later b.1)) (expands words b.0 files looks (later ++ b.1) f
      b.2),
)

once_finding : (words : List (List ℕ)) (files : List SourceFile) (left : List (List ℕ))
    (looks : List ShopCall) → Finds text_fault (flag_files_of words) files left looks
    → BeginsOnce words looks
once_finding words files [] looks f =
    subst (λ (cs : List ShopCall). BeginsOnce words cs) (append-nil looks)
    (once_begins words files looks [] f (nothing_yet (expanded words files)))
once_finding words files (p ∷ ps) looks f = (
  stopped (missing p),
  call.Get p read.Absent ∷ [],
  inr (
    record {
      files = files;
      path = p;
      left = ps;
      before = looks;
      answer = read.Absent;
      finds = f;
      says = refl;
      all = refl;
    },
    refl,
  ),
)

abbrev pub DoneOnce : List (List ℕ) → Result Answer NoMemory → ShopTold → ShopTold → Type 0
DoneOnce words r old new = (calls : List ShopCall) × ComesOnce words r calls × Made calls old new

comes_once : (words : List (List ℕ)) (r : Result Answer NoMemory) (files : List SourceFile)
    (looks later : List ShopCall) → Finds text_fault (flag_files_of words) files [] looks
    → Comes (expanded words files) r later → ComesOnce words r (looks ++ later)
comes_once words (Ok a) files looks later f d = expands words a files looks later f d
comes_once words (Err e) files looks later f b = once_begins words files looks later f b

pub then_run : (words ws : List (List ℕ)) (r : Result Answer NoMemory) (old mid new : ShopTold)
    → ((looks : List ShopCall) × ((files : List SourceFile)
    × Finds text_fault (flag_files_of words) files [] looks × (ws ≡ expanded words files))
    × Made looks old mid)
    → ((calls : List ShopCall) × Comes ws r calls × Made calls mid new) → DoneOnce words r old new
then_run words ws r old mid new h d = (
  h.0 ++ d.0,
  comes_once words r h.1.0 h.0 d.0 h.1.1
      (subst (λ (vs : List (List ℕ)). Comes vs r d.0) h.1.2 d.1),
  made_on h.0 d.0 old mid new h.2 d.2,
)

pub stops_expanding : (words : List (List ℕ)) (a : Answer) (text : List ℕ) (old new : ShopTold)
    → a ≡ stopped text
    → ((looks : List ShopCall) × Misses text_fault (flag_files_of words) text looks
    × Made looks old new) → DoneOnce words (Ok a) old new
stops_expanding words a text old new is h = subst (λ (b : Answer). DoneOnce words (Ok b) old new)
    (sym is) (h.0, inr (h.1, refl), h.2)

first_once : (words : List (List ℕ)) (looks : List ShopCall)
    → LooksFirst text_fault (flag_files_of words) looks → BeginsOnce words looks
first_once words looks (inl f) = once_finding words f.0 f.1 looks f.2
first_once words looks (inr m) = once_whole words (stopped m.0) looks (inr (m.1, refl))

pub not_expanded : (words : List (List ℕ)) (old new : ShopTold)
    → ((looks : List ShopCall) × LooksFirst text_fault (flag_files_of words) looks
    × Made looks old new) → (calls : List ShopCall) × BeginsOnce words calls × Made calls old new
not_expanded words old new h = (h.0, first_once words h.0 h.1, h.2)
