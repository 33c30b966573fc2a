use Rattle.std.proofs.Common.{◌≡◌, ◌≤◌, ◌+◌, ◌-◌, ◌*◌, List, ◌++◌, length, drop, vec_len, vec_capacity}
use Rattle.lane_threads.specs.declared.pair.Either.{Either}
use Rattle.lane_runs.specs.declared.proxies.ProxyStart.{ProxyStart}
use Rattle.tap_lane.specs.declared.seat.TapStart.{TapStart}
use Rattle.lane_runs.specs.Seats.{AreSeats}
use Rattle.lane_runs.proofs.lanes.lanes_of.Given as goal

-- Whatever lanes the berths to come have, these stand before them.
abbrev pub invariant-loop-speech : goal.invariant-loop-speech
invariant-loop-speech g l =
    let m = l.means in
    let ss = m.speeches.now in record {
      numbered : l.number ≡ l.speech-index;
      as_many : length l.rest.items ≡ length (drop l.speech-index ss);
      so_far : (more : List (Either (ProxyStart g.row.B.Denot) TapStart))
          → AreSeats m.settings.now m.actions.now l.speech-index l.rest.items
          (drop l.speech-index ss) more
          → AreSeats m.settings.now m.actions.now 0 l.fn.berths.items ss (l.lanes.items ++ more);
      room : vec_len l.lanes + 2 * (length ss - l.speech-index) ≤ vec_capacity l.lanes;
    }
