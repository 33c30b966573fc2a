use Rattle.std.proofs.Common.{◌+◌, ◌*◌, length}
use Rattle.std.specs.Str.Lines.{lines}
use Rattle.flag_files.specs.Expand.{steps}
use Rattle.flag_files.proofs.Walks.{IsAt}
use Rattle.flag_files.proofs.expanding.Expanded.+expanding.Given as goal

abbrev pub decreases-add_lines : goal.decreases-add_lines
decreases-add_lines l = 2 * l.levels + 1

abbrev pub decreases-add_word : goal.decreases-add_word
decreases-add_word l = 2 * l.levels

abbrev pub invariant-add_lines-loop-line : goal.invariant-add_lines-loop-line
invariant-add_lines-loop-line l =
    (goal.iterator-add_lines-loop-line).can_next l.line-iterator ×
    (goal.iterator-add_lines-loop-line).is_finite l.line-iterator ×
    IsAt (steps l.levels l.files) (lines l.fn.text) (length l.yielded) l.initial.self.words.items l.self.words.items
