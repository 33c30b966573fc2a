use Rattle.std.proofs.Common.{◌≡◌, ◌+◌, ◌≤◌, None, map, replicate, vec_len, vec_capacity}
use Rattle.std.specs.List.{range_with_len}
use Rattle.lane_runs.proofs.lines.number_lines.Given as goal

abbrev pub invariant-loop-number : goal.invariant-loop-number
invariant-loop-number g l = record {
  numbers : map (λ x. x.number) l.lines.items ≡ range_with_len 0 l.number;
  halves : map (λ x. x.halves) l.lines.items ≡ replicate l.number None;
  room : vec_len l.lines + l.number-end ≤ vec_capacity l.lines + l.number;
}
