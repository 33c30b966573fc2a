use Rattle.exec_journal.specs.declared.ends.Cause.TheVariants as cause
use Rattle.request_table.proofs.Lists.{update_length}
use Rattle.worker_pool.specs.Rows.{set_broken}
use Rattle.core_tables.specs.Last.{set_cause}
use Rattle.core_state.proofs.state.State.feed_fault.Goals as goal

pub feed_lost-requires-clause-line : goal.feed_lost-requires-clause-line
feed_lost-requires-clause-line c =
    let kept = update_length set_broken c.args.self.now.pool.lines c.args.line in
    rw c.break_feed.ensures (rw kept c.requires.line)

pub feed_lost-requires-clause-last : goal.feed_lost-requires-clause-last
feed_lost-requires-clause-last c =
    let kept = update_length (set_cause cause.Feed) c.args.self.now.last c.args.berth in
    rw c.break_feed.ensures (rw kept c.requires.last)
