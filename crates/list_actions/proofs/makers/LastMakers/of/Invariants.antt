use Rattle.std.proofs.Common.{◌≡◌, ℕ, List, take}
use Rattle.list_actions.specs.Makers.{last_maker}
use Rattle.list_actions.specs.Order.{last_from}
use Rattle.list_actions.proofs.makers.LastMakers.of.Given as goal

abbrev pub invariant-loop-action : goal.invariant-loop-action
invariant-loop-action l = record {
  counted : l.number ≡ l.action-index;
  made : (q : List ℕ) → last_maker l.table q ≡ last_from 0 (take l.action-index l.actions) q;
}
