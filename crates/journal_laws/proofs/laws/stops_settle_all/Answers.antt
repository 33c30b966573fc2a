use Rattle.journal_laws.proofs.Stops.{stop_settles, accounted}
use Rattle.journal_laws.proofs.Known.{stopped_settled}
use Rattle.journal_laws.proofs.laws.stops_settle_all.Goals as goal

pub returns : goal.returns
returns c = record {
  settled = λ p j lane d h none. stop_settles p j lane d h none;
  later = λ p j lane legal h none. stopped_settled p j lane legal h none;
  accounted = λ p j lane d sound legal h none. accounted p j lane d sound legal h none;
}
