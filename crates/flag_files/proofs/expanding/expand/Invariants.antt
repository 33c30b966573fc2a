use Rattle.std.proofs.Common.{[]}
use Rattle.flag_files.specs.Expand.{steps, max_depth}
use Rattle.flag_files.proofs.Walks.{IsAt}
use Rattle.flag_files.proofs.expanding.expand.Given as goal

abbrev pub invariant-loop-word : goal.invariant-loop-word
invariant-loop-word l = IsAt (steps max_depth l.files) l.words l.word-index [] l.expanded.words.items
