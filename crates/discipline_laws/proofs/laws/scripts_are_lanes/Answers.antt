use Rattle.std.proofs.Common.{◌∙◌, ◌++◌}
use Rattle.core_contract.specs.Ruled.{journal_of}
use Rattle.discipline_laws.proofs.Ticking.{known, stays}
use Rattle.discipline_laws.proofs.Fitting.{in_script, scripted_so, scripted_as}
use Rattle.discipline_laws.proofs.laws.scripts_are_lanes.Goals as goal

pub returns : goal.returns
returns c = record {
  known = λ q is h lane d fit. known q (journal_of h) lane d (scripted_as q (journal_of h) lane d (scripted_so q h lane d fit));
  stays = λ q is h more lane d none fit. in_script q is (h ++ more) lane d
      (stays q h more lane d none ∙ scripted_so q h lane d fit);
}
