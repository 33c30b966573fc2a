use Rattle.std.proofs.Common.{◌≡◌, ◌++◌, map, drop, option_copied}
use Rattle.std.specs.Prelude.{string_bytes}
use Rattle.build_report.specs.Report.{lines_told}
use Rattle.build_report.proofs.telling.push_told.Given as goal

abbrev pub invariant-loop-a : goal.invariant-loop-a
invariant-loop-a l = string_bytes l.text ++ lines_told l.plan l.a (drop l.a l.ends) (map option_copied (drop l.a l.answers)) ≡ string_bytes l.fn.text ++ lines_told l.plan 0 l.ends (map option_copied l.answers)
