use Rattle.std.proofs.Common.{◌≡◌, List, ◌++◌, drop, map}
use Rattle.std.specs.Prelude.{string_bytes}
use Rattle.outside.specs.declared.floor.SourceFile.{SourceFile}
use Rattle.demo_worker.specs.Words.{flag_files_of}
use Rattle.demo_worker.specs.Looks.{text_fault}
use Rattle.demo_worker.specs.Once.{expanded}
use Rattle.demo_worker.proofs.Finding.{SoFar}
use Rattle.demo_worker.proofs.flags.expand.Given as goal

-- The files of the words before this one were had, and the words so far are theirs.
abbrev pub invariant-loop-word : goal.invariant-loop-word
invariant-loop-word g l = (files : List SourceFile)
    × SoFar text_fault (flag_files_of (map string_bytes l.words)) files
    (flag_files_of (map string_bytes (drop l.word-index l.words)))
    (g.S.Shop.told l.initial.shop) (g.S.Shop.told l.shop)
    × ((later : List SourceFile)
    → l.expanded.items ++ expanded (map string_bytes (drop l.word-index l.words)) later
    ≡ expanded (map string_bytes l.words) (files ++ later))
