use Rattle.std.proofs.Common.{◌≡◌, take}
use Rattle.list_actions.specs.Whole.{KnowsProducers}
use Rattle.run_loading.proofs.loading.producers_of.Given as goal

abbrev pub invariant-loop-action : goal.invariant-loop-action
invariant-loop-action l = record {
  counted : l.number ≡ l.action-index;
  known : KnowsProducers l.producers (take l.action-index l.actions);
}
