use Rattle.std.proofs.Common.{◌≡◌, ℕ, ◌<◌, ◌≤◌, ◌^◌, Some, true, slice_get}
use Rattle.ready_order.specs.Board.{Shape, names, shapes}
use Rattle.ready_order.proofs.board.named_groups.Given as goal

abbrev pub invariant-loop-action : goal.invariant-loop-action
invariant-loop-action l = record {
  small : l.groups ≤ 2 ^ 32;
  named : (a g : ℕ) (s : Shape) → a < l.action-index → slice_get (shapes l.actions) a ≡ Some s
      → names g s ≡ true → g < l.groups;
}
