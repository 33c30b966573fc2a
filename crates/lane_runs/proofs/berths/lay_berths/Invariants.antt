use Rattle.std.proofs.Common.{◌+◌, ◌≤◌, length, vec_len, vec_capacity}
use Rattle.lane_runs.proofs.Parting.{Parting}
use Rattle.lane_runs.proofs.berths.lay_berths.Given as goal

abbrev pub invariant-loop-slot : goal.invariant-loop-slot
invariant-loop-slot g l = record {
  parting : Parting l.fn.shelved.items l.slots.items l.fn.ends.items l.rest.items l.berths.items
      l.unsaid.items l.initial.lines.items l.lines.items;
  room : vec_len l.berths + length l.slots.items ≤ vec_capacity l.berths;
  unsaid_room : vec_len l.unsaid + length l.slots.items ≤ vec_capacity l.unsaid;
}

abbrev pub decreases-loop-slot : goal.decreases-loop-slot
decreases-loop-slot g l = length l.slots.items
