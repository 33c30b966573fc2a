use Rattle.std.proofs.Common.{◌≡◌, ℕ, ◌<◌, ◌≤◌, get_or}
use Rattle.ready_order.specs.Board.{Fits, RightAt, shapes}
use Rattle.ready_order.proofs.board.Board.of.Given as goal

abbrev pub invariant-loop-number : goal.invariant-loop-number
invariant-loop-number l = record {
  fits : Fits (shapes l.actions) l.board;
  right : (a : ℕ) → a < l.number → RightAt l.actions l.board a;
  fresh : (a : ℕ) → l.number ≤ a → get_or l.board.supplied a 0 ≡ 0;
}
