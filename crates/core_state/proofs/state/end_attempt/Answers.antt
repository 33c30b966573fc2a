use Rattle.request_table.proofs.Lists.{update_length}
use Rattle.retry_rules.specs.Counts.{one_more}
use Rattle.core_state.proofs.state.end_attempt.Goals as goal

pub settle_spent-requires-clause-counts : goal.settle_spent-requires-clause-counts
settle_spent-requires-clause-counts c =
    let same = update_length (one_more c.args.attempt.branch) c.args.attempts.now.ended
    c.args.attempt.action in
    rw c.after_end.ensures.facts (rw same c.requires.counts_known)
