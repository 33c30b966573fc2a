-- The table of the files that were found, and how it grows.
use Rattle.std.specs.Prelude.{◌≡◌, ℕ, List, ◌∷◌, ◌++◌, map, string_bytes, Result, Ok, Err}
use Rattle.std.specs.List.{All}
use Rattle.std.specs.Option.{IsSome}
use Rattle.outside.specs.Floor.{file_at, one_read}
use Rattle.outside.specs.declared.answers.Read.{Read}
use Rattle.outside.specs.declared.floor.FloorRead.{FloorRead}
use Rattle.outside.specs.declared.floor.SourceFile.{SourceFile}
use Rattle.build_report.specs.declared.fault.RunFault.{RunFault}
use Rattle.run_loading.specs.Reads.{OnLost}
use Rattle.run_loading.specs.Wanted.{AllFound, FirstLost, source_file, paths_of, with_paths, found_read}
use Rattle.run_loading.specs.declared.sources.Sources.{Sources}

-- the files that were found, in the order of their reads
abbrev pub held : Sources → List SourceFile
held sources = map (λ e. source_file (string_bytes e.0) e.1) sources.files.entries

-- each of these paths is one of the files'
abbrev pub HasAll : List SourceFile → List (List ℕ) → Type 0
HasAll files paths = All (λ p. IsSome (file_at files p)) paths

-- what the reads of these paths lead to
abbrev pub SourcesRead : List (List ℕ) → List FloorRead → Result Sources RunFault → Type 0
SourcesRead paths reads (Ok sources) = AllFound paths reads (held sources)
SourcesRead paths reads (Err f) = OnLost f (FirstLost paths reads)

-- Behind the files that are there already these were found, those of the paths that are new.
pub record NewFound (before : List SourceFile) (paths : List (List ℕ)) (after : List SourceFile)
    (reads : List FloorRead) : Type 0 where
  pub files : List SourceFile
  pub grown : after ≡ before ++ files
  pub made : reads ≡ map found_read files
  pub in_order : with_paths (paths_of before) paths ≡ paths_of after

-- Behind the files that are there already some were found, and then this new path was not.
pub record NewLost (before : List SourceFile) (paths : List (List ℕ)) (reads : List FloorRead)
    (path : List ℕ) (answer : Read) : Type 0 where
  pub files : List SourceFile
  pub later : List (List ℕ)
  pub made : reads ≡ map found_read files ++ one_read path answer
  pub in_order : with_paths (paths_of before) paths ≡ paths_of (before ++ files) ++ path ∷ later

-- what the reads of those of these paths that are new lead to
abbrev pub ReadsOn : List SourceFile → List (List ℕ) → List SourceFile → List FloorRead
    → Result (Unit {0}) RunFault → Type 0
ReadsOn before paths after reads (Ok done) = NewFound before paths after reads
ReadsOn before paths after reads (Err f) = OnLost f (NewLost before paths reads)
