use Rattle.std.proofs.Common.{length}
use Rattle.lane_runs.specs.BerthHalves.{berth_lines, halves_of, taps_left}
use Rattle.lane_runs.proofs.Matching.{Pairing}
use Rattle.lane_runs.proofs.lines.put_halves.Given as goal

abbrev pub invariant-loop-ended : goal.invariant-loop-ended
invariant-loop-ended g l =
    Pairing l.feeds.items (taps_left l.taps.items l.shelved) l.initial.lines.items l.lines.items
    (halves_of (berth_lines l.fn.feeds.items l.fn.taps.items l.fn.shelved))

abbrev pub decreases-loop-ended : goal.decreases-loop-ended
decreases-loop-ended g l = length l.feeds.items
