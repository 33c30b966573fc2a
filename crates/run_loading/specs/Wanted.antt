-- What a list reads: its actions' tools and source inputs, each path once.
use Rattle.std.specs.Prelude.{◌≡◌, ℕ, Bool, is_none, List, [], ◌∷◌, ◌++◌, map, filter, flat_map, if◌then◌else◌, Option}
use Rattle.run_plan.specs.declared.plan.Maker.{Maker}
use Rattle.list_actions.specs.Order.{is_among}
use Rattle.list_actions.specs.Made.{maker_of}
use Rattle.list_actions.specs.declared.types.ListAction.{ListAction}
use Rattle.outside.specs.Floor.{one_read}
use Rattle.outside.specs.declared.answers.Read.{Read}
use Rattle.outside.specs.declared.answers.Read.TheVariants as read
use Rattle.outside.specs.declared.floor.FloorRead.{FloorRead}
use Rattle.outside.specs.declared.floor.SourceFile.{SourceFile}

-- which action makes a path, and as which of its outputs
abbrev pub Makers : Type 0
Makers = List ℕ → Option Maker

-- no action makes it
abbrev pub is_source : Makers → List ℕ → Bool
is_source makers path = is_none (makers path)

-- an action's tools, and then those of its inputs that are sources
abbrev pub paths_of_action : Makers → ListAction → List (List ℕ)
paths_of_action makers x = x.tools ++ filter (is_source makers) x.inputs

abbrev pub paths_of_actions : Makers → List ListAction → List (List ℕ)
paths_of_actions makers xs = flat_map (paths_of_action makers) xs

-- these paths, and behind them this one, where it isn't one of them
abbrev pub with_path : List (List ℕ) → List ℕ → List (List ℕ)
with_path before path = if is_among before path then before else before ++ path ∷ []

abbrev pub with_paths : List (List ℕ) → List (List ℕ) → List (List ℕ)
with_paths before [] = before
with_paths before (path ∷ paths) = with_paths (with_path before path) paths

-- each path at its first place
abbrev pub each_once : List (List ℕ) → List (List ℕ)
each_once paths = with_paths [] paths

-- what the list reads, in order
abbrev pub wanted : List ListAction → List (List ℕ)
wanted xs = each_once (paths_of_actions (maker_of xs) xs)

abbrev pub source_file : List ℕ → List ℕ → SourceFile
source_file path bytes = record { path = path; bytes = bytes }

abbrev pub paths_of : List SourceFile → List (List ℕ)
paths_of files = map (λ f. f.path) files

abbrev pub found_read : SourceFile → FloorRead
found_read file = record { path = file.path; answer = read.Found file.bytes }

-- These are all the reads: one of each path, in order, and it found this file.
pub record AllFound (paths : List (List ℕ)) (reads : List FloorRead)
    (files : List SourceFile) : Type 0 where
  pub made : reads ≡ map found_read files
  pub in_order : paths ≡ paths_of files

-- These are all the reads: one of each path, in order, up to this one, which was not found.
pub record FirstLost (paths : List (List ℕ)) (reads : List FloorRead) (path : List ℕ)
    (answer : Read) : Type 0 where
  pub files : List SourceFile
  pub later : List (List ℕ)
  pub made : reads ≡ map found_read files ++ one_read path answer
  pub in_order : paths ≡ paths_of files ++ path ∷ later
