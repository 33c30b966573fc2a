use Rattle.std.proofs.Common.{◌≡◌, ◌≤◌, ◌+◌, length, vec_len, vec_capacity}
use Rattle.lane_threads.proofs.Starts.{Starting}
use Rattle.lane_threads.proofs.job.fn.run_in.scope.Given as goal

abbrev pub invariant-loop-slot : goal.invariant-loop-slot
invariant-loop-slot g l =
    Starting g.J.Job.can_run g.J.Job.ends l.context l.initial.rest.items l.rest.items l.threads.items l.late.items
    × (vec_len l.threads + vec_len l.late + length l.rest.items ≡ length l.initial.rest.items)
    × (length l.initial.rest.items ≤ vec_capacity l.threads)
    × (length l.initial.rest.items ≤ vec_capacity l.late)

abbrev pub decreases-loop-slot : goal.decreases-loop-slot
decreases-loop-slot g l = length l.rest.items
