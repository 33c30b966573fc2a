use Rattle.std.proofs.Common.{take}
use Rattle.bare_calls.specs.Starts.{AddsWords}
use Rattle.bare_calls.proofs.spawn.give_words.Given as goal

abbrev pub invariant-loop-word : goal.invariant-loop-word
invariant-loop-word l = AddsWords (take l.word-index l.words) l.initial.start l.start
