use Rattle.std.proofs.Common.{◌≡◌, take}
use Rattle.demo_worker.specs.Folders.{words_in}
use Rattle.demo_worker.proofs.folders.words_in.Given as goal

abbrev pub invariant-loop-word : goal.invariant-loop-word
invariant-loop-word l = l.placed.items ≡ words_in l.folder (take l.word-index l.words)
