-- What a call that is made again and again asks.
use Rattle.std.specs.Prelude.{List, None}
use Rattle.seat_desk.specs.declared.machine.Machine.{Ghosts}
use Rattle.plain_values.specs.declared.entry.Entry.{Entry}
use Rattle.seat_desk.specs.declared.desk.Pass.{Pass}
use Rattle.seat_desk.specs.History.{GoesOn}
use Rattle.seat_desk.specs.Passes.{basis, seen}

module _ {M C R G Q : Type 0} {g : Ghosts M C R G Q} where
  -- the call, with no good, suits whenever the history goes on by calls of other lanes
  abbrev pub AlwaysSuits : Pass M C R G Q g → C → Type 0
  AlwaysSuits p call =
      (h : List (Entry C R)) → GoesOn p.lane (seen p) h → g.goes_in (basis p) h p.lane call None
