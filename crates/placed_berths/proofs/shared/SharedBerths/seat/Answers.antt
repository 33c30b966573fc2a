use Rattle.std.proofs.Common.{ℕ, ◌<◌, subst}
use Rattle.placed_berths.proofs.shared.SharedBerths.seat.Goals as goal

pub seat_here-requires : goal.seat_here-requires
seat_here-requires c =
    c.requires.all.each c.args.berth
    (subst (λ (n : ℕ). c.args.berth < n) c.count_all.ensures c.if-berth-count_all.true)
