use Rattle.std.proofs.Common.{◌≡◌, ℕ, true, false, take}
use Rattle.ready_order.specs.Board.{Fits, RightAt, SameOf, is_in, shapes}
use Rattle.ready_order.proofs.board.Board.follow.Given as goal

abbrev pub invariant-loop-user : goal.invariant-loop-user
invariant-loop-user l = record {
  fits : Fits (shapes l.actions) l.self;
  users : (a : ℕ) → is_in a (take l.user-index l.users) ≡ true → RightAt l.actions l.self a;
  others : (a : ℕ) → is_in a (take l.user-index l.users) ≡ false → SameOf l.initial.self l.self a;
}
