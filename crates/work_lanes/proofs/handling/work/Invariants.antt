use Rattle.seat_desk.specs.Passes.{IsSamePass}
use Rattle.work_lanes.specs.Calls.{begun_at}
use Rattle.work_lanes.specs.Handles.{AnswersAll}
use Rattle.work_lanes.proofs.handling.work.Given as goal

-- The pass stays the lane's, and the handler has answered what the lane has begun.
abbrev pub invariant-loop : goal.invariant-loop
invariant-loop g l = record {
  same : IsSamePass l.initial.flag.caller.pass l.flag.caller.pass;
  answered : AnswersAll g.H.Answerer.answers l.initial.handler
      (begun_at g.H.Kind.number g.H.Kind.cancels l.flag.caller.pass) l.handler;
}
