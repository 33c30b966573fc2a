use Rattle.std.proofs.Common.{◌≡◌, map, take, Ok}
use Rattle.list_actions.specs.Producers.{producer_of}
use Rattle.run_loading.specs.Sources.{held}
use Rattle.run_loading.specs.Works.{due_work}
use Rattle.run_loading.proofs.works.work_of.Given as goal

abbrev pub invariant-loop-action : goal.invariant-loop-action
invariant-loop-action l = record {
  counted : l.number ≡ l.action-index;
  made : map (due_work (producer_of l.producers) (held l.sources)) (take l.action-index l.actions) ≡ map (λ w. Ok w) l.works.items;
}
