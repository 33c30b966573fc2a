-- What the real objects tell, by what they are seen as.
use Rattle.std.specs.Prelude.{None, Some}
use Rattle.outside.specs.Told.{BerthTold, ChildTold, FeedTold, FloorTold, PlaceTold, SinkTold, TapTold}
use Rattle.outside_real.specs.Telling.{BerthSeen, ChildSeen, FeedSeen, FloorSeen, PlaceSeen, SinkSeen, TapSeen, until_a_fault}

-- what its files are it doesn't tell, since others write them too
abbrev pub floor_told : FloorSeen → FloorTold
floor_told f = record {
  faults = f.faults;
  files = None;
  log = Some f.log;
  berths = f.berths;
  places = f.places;
}

abbrev pub berth_told : BerthSeen → BerthTold
berth_told b = record { number = b.number; faults = b.faults; log = Some b.log }

abbrev pub place_told : PlaceSeen → PlaceTold
place_told p = record { number = p.number; faults = p.faults; log = Some p.log }

-- until it has failed
abbrev pub feed_told : FeedSeen → FeedTold
feed_told f =
    record { line = Some f.line; faults = f.faults; given = until_a_fault f.faults f.said }

abbrev pub tap_told : TapSeen → TapTold
tap_told t =
    record { line = t.line; faults = t.faults; taken = Some t.said; ended = Some t.ended }

abbrev pub child_told : ChildSeen → ChildTold
child_told c = record { line = Some c.line; kills = Some c.kills }

-- until it has failed
abbrev pub sink_told : SinkSeen → SinkTold
sink_told s = record { faults = s.faults; contents = until_a_fault s.faults s.said }
