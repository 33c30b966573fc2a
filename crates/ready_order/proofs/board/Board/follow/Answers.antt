use Rattle.std.proofs.Common.{get_or, arith}
use Rattle.std.proofs.lemmas.List.{length-map, take_all}
use Rattle.ready_order.specs.Board.{shape_of}
use Rattle.ready_order.proofs.Told.{is_in_at, next_known, next_right, next_same}
use Rattle.ready_order.proofs.board.Board.follow.Goals as goal

pub still_known-known-requires : goal.still_known-known-requires
still_known-known-requires c =
    let lt = c.requires.known _
    (is_in_at c.args.users.now c.loop-user.user-index c.loop-user-test.true) in
    let size = c.loop-user.invariant.fits.supplied in
    let all = length-map c.args.actions.now shape_of in
    omega arith

pub note-requires-clause-known : goal.note-requires-clause-known
note-requires-clause-known c =
    c.requires.known _ (is_in_at c.args.users.now c.loop-user.user-index c.loop-user-test.true)

pub note-requires-clause-low : goal.note-requires-clause-low
note-requires-clause-low c =
    next_known c.args.actions.now c.args.self.now c.loop-user.self c.args.users.now
    c.loop-user.user-index
    (get_or c.args.users.now c.loop-user.user-index 0) c.still_known-known.result c.args.success
    c.loop-user.invariant.users c.loop-user.invariant.others c.requires.low
    c.still_known-known.ensures

pub loop-user-preserved : goal.loop-user-preserved
loop-user-preserved c = record {
  fits = c.note.ensures.fits;
  users = next_right c.args.actions.now c.loop-user.self c.note.new.self c.args.users.now
      c.loop-user.user-index
      c.loop-user-test.true c.loop-user.invariant.users c.note.ensures.right c.note.ensures.others;
  others = next_same c.args.self.now c.loop-user.self c.note.new.self c.args.users.now
      c.loop-user.user-index
      c.loop-user-test.true c.loop-user.invariant.others c.note.ensures.others;
}

pub returns-clause-users : goal.returns-clause-users
returns-clause-users c = λ a m.
    c.loop-user.invariant.users a
    (rw (take_all c.loop-user.user-index c.args.users.now c.loop-user-test.false) m)
