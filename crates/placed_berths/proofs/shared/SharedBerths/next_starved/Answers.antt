use Rattle.std.proofs.Common.{sym}
use Rattle.placed_berths.specs.Basis.{shared_by}
use Rattle.placed_berths.proofs.Searches.{starved_within}
use Rattle.placed_berths.proofs.shared.SharedBerths.next_starved.Goals as goal

pub ended-requires : goal.ended-requires
ended-requires c =
    let s = c.args.state.now in
    starved_within (shared_by c.args.self.now s.plan) c.args.delay.now s c.requires.shared.due
    c.requires.reads.actions c.args.pool.now (c.in-Some.action, c.in-Some.branch)
    (sym c.in-Some.ensures)
