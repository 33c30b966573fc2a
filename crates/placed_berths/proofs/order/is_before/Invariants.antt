use Rattle.std.proofs.Common.{◌≡◌, drop}
use Rattle.shared_laws.specs.Spoken.{is_before}
use Rattle.placed_berths.proofs.order.is_before.Given as goal

-- the berths from here on say it
abbrev pub invariant-loop-berth : goal.invariant-loop-berth
invariant-loop-berth l = is_before l.first l.second (drop l.berth-index l.spoken)
    ≡ is_before l.first l.second l.spoken
