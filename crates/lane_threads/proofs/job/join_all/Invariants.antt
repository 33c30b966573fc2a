use Rattle.std.proofs.Common.{◌≡◌, ◌≤◌, ◌+◌, length, vec_len, vec_capacity}
use Rattle.lane_threads.proofs.Starts.{Joining}
use Rattle.lane_threads.proofs.job.join_all.Given as goal

abbrev pub invariant-loop-thread : goal.invariant-loop-thread
invariant-loop-thread g l =
    Joining g.J.Job.ends l.fn.threads.items l.rest.items l.ends.items
    × (vec_len l.ends + length l.rest.items ≤ vec_capacity l.ends)
    × (vec_len l.ends + length l.rest.items ≡ vec_len l.fn.threads)
    × (vec_capacity l.ends ≡ vec_capacity l.initial.ends)

abbrev pub decreases-loop-thread : goal.decreases-loop-thread
decreases-loop-thread g l = length l.rest.items
