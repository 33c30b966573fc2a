use Rattle.journal_laws.proofs.Cleaned.{complete}
use Rattle.journal_laws.proofs.Finishing.{stop_finishes}
use Rattle.placed_rules.proofs.Whole.{lawful, stop_told}
use Rattle.placed_rules.proofs.laws.placed_stops_finish_runs.Goals as goal

pub returns : goal.returns
returns c = record {
  stops = λ x j lane d sound legal is none.
      stop_finishes x.plan j lane d sound (lawful x j legal) (stop_told x j lane d legal is) none;
  clean = λ x j lane d sound legal clean is none a y at.
      complete x.plan j lane d sound (lawful x j legal) clean none
      (stop_told x j lane d legal is) a y at;
}
