use Rattle.std.proofs.Common.{sym, ◌∙◌}
use Rattle.earliest_first.proofs.AtBerths.{seat_within}
use Rattle.placed_berths.proofs.policy.choose_own.Goals as goal

pub choose_at-requires-clause-reads : goal.choose_at-requires-clause-reads
choose_at-requires-clause-reads c =
    let within = seat_within c.args.state.now.plan c.args.berth c.in-Some.seat
    (sym c.group_of_berth.ensures ∙ c.in-Some.is) in
    c.requires.berths.each c.args.berth within
