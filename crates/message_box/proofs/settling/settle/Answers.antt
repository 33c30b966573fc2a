use Rattle.message_box.proofs.Sided.{settled_by}
use Rattle.message_box.proofs.settling.settle.Goals as goal

pub returns : goal.returns
returns g c =
    settled_by c.join_pass-2.new.root.seat.me.0.seen c.join_pass.new.root.seat.me.0.seen
    c.args.reading.seat.me.0.seen c.args.taking.seat.me.0.seen
    c.join_pass.ensures.seen.1 c.join_pass-2.ensures.seen.0 c.join_pass-2.ensures.seen.1
    c.requires.left.0 c.requires.left.1
