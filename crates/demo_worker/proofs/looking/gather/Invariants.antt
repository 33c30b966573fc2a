use Rattle.std.proofs.Common.{◌≡◌, List, drop}
use Rattle.std.specs.Prelude.{filter_map}
use Rattle.outside.specs.declared.floor.SourceFile.{SourceFile}
use Rattle.demo_worker.specs.Words.{input_in, inputs_of}
use Rattle.demo_worker.specs.Looks.{file_fault, contents_of}
use Rattle.demo_worker.proofs.Finding.{SoFar}
use Rattle.demo_worker.proofs.looking.gather.Given as goal

-- The inputs of the words before this one were had.
abbrev pub invariant-loop-word : goal.invariant-loop-word
invariant-loop-word g l = (files : List SourceFile)
    × SoFar file_fault (inputs_of l.words) files (inputs_of (drop l.word-index l.words))
    (g.S.Shop.told l.initial.shop) (g.S.Shop.told l.shop)
    × (l.contents.items ≡ contents_of files)
