use Rattle.placed_berths.proofs.shared.SharedBerths.choose.Goals as goal

pub seat_here-seat-requires : goal.seat_here-seat-requires
seat_here-seat-requires c = c.requires.reads.all.each c.args.berth c.requires.berth

pub next_due-next-requires-clause-berth : goal.next_due-next-requires-clause-berth
next_due-next-requires-clause-berth c = c.requires.reads.all.each c.args.berth c.requires.berth

pub choose_first-requires : goal.choose_first-requires
choose_first-requires c = c.requires.reads.all.each c.args.berth c.requires.berth
