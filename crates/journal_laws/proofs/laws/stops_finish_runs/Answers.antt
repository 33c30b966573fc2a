use Rattle.std.specs.Prelude.{◌∷◌}
use Rattle.journal_laws.proofs.Finishing.{finished, stop_finishes}
use Rattle.journal_laws.proofs.Known.{all_settled_stays, stopped_settled}
use Rattle.journal_laws.proofs.laws.stops_finish_runs.Goals as goal

pub returns : goal.returns
returns c = record {
  stops = λ p j lane d sound legal h none. stop_finishes p j lane d sound legal h none;
  later = λ p j lane sound legal h none. finished p j sound legal (stopped_settled p j lane legal h none);
  stays = λ p e j sound legal was. finished p (e ∷ j) sound legal (all_settled_stays p e j legal was.settled_all);
}
