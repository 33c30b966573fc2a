use Rattle.std.proofs.Common.{length}
use Rattle.std.specs.Prelude.{string_bytes}
use Rattle.build_report.proofs.Marks.{IsPut}
use Rattle.build_report.proofs.words.push_marked.Given as goal

abbrev pub invariant-loop-line : goal.invariant-loop-line
invariant-loop-line l = IsPut (string_bytes l.fn.report) (string_bytes l.report) l.fn.text l.rest

abbrev pub decreases-loop-line : goal.decreases-loop-line
decreases-loop-line l = length l.rest
