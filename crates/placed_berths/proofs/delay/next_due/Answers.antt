use Rattle.std.proofs.Common.{sym}
use Rattle.placed_berths.proofs.Searches.{due_within}
use Rattle.placed_berths.proofs.delay.next_due.Goals as goal

pub ended-requires : goal.ended-requires
ended-requires c =
    due_within c.args.delay.now c.args.state.now c.requires.due c.requires.berth.actions
    c.args.group (c.in_ok-action.action, c.in_ok-action.branch) (sym c.in_ok-action.ensures)
