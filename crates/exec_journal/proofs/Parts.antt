-- What the worked journals are made of.
use Rattle.std.specs.Prelude.{ℕ, true, false, Some, None, List, [], ◌∷◌, pos, codes}
use Rattle.run_plan.specs.declared.plan.Kind.TheVariants as kind
use Rattle.run_plan.specs.declared.plan.Group.{Group}
use Rattle.run_plan.specs.declared.plan.Plan.{Plan}
use Rattle.run_plan.specs.declared.plan.PlanAction.{PlanAction}
use Rattle.exec_journal.specs.Entry.{Entry}
use Rattle.exec_journal.specs.declared.call.Answer.{Answer}
use Rattle.exec_journal.specs.declared.call.Call.{Call}
use Rattle.exec_journal.specs.declared.reply.Reply.{Reply}

unfoldable pub entry : ℕ → Call → Reply → Entry
entry lane c r = record { lane = lane; call = c; reply = r }

-- an answer with this number, the exit code 0 and nothing else
unfoldable pub numbered : ℕ → Answer
numbered n = record { number = pos n; exit = pos 0; cancelled = false; text = []; refusal = []; files = []; version = pos 0 }

unfoldable pub answer : Answer
answer = record { number = pos 0; exit = pos 0; cancelled = false; text = []; refusal = []; files = []; version = pos 0 }

-- the executor's answer: the number 1, and the file `o` of one byte, `x`
unfoldable pub with_file : Answer
with_file = record {
  number = pos 1;
  exit = pos 0;
  cancelled = false;
  text = [];
  refusal = [];
  files = record { path = codes "o"; content = 120 ∷ [] } ∷ [];
  version = pos 0;
}

-- an executor's greeting
unfoldable pub greeting : Answer
greeting = record { number = pos 0; exit = pos 0; cancelled = false; text = []; refusal = []; files = []; version = pos 2 }

-- the executor was asked to cancel its request 1, and did
unfoldable pub cancelled_1 : Answer
cancelled_1 = record { number = pos 1; exit = pos 0; cancelled = true; text = []; refusal = []; files = []; version = pos 2 }

unfoldable pub said_cancelled : Answer
said_cancelled = record { number = pos 0; exit = pos 0; cancelled = true; text = []; refusal = []; files = []; version = pos 0 }

-- actions with one output and no made input
unfoldable pub worker : PlanAction
worker = record { name = codes "a"; outputs = codes "o" ∷ []; makers = []; local = Some 0; remote = None }

unfoldable pub dynamic : PlanAction
dynamic = record { name = codes "a"; outputs = codes "o" ∷ []; makers = []; local = Some 0; remote = Some 1 }

unfoldable pub plan_of : List PlanAction → List Group → ℕ → Plan
plan_of actions groups limit = record { actions = actions; groups = groups; limit = limit }

unfoldable pub single : ℕ → Group
single n = record { kind = kind.Single; cancel = false; berths = n }

unfoldable pub cancelling : Group
cancelling = record { kind = kind.Single; cancel = true; berths = 1 }

unfoldable pub multi : Group
multi = record { kind = kind.Multi; cancel = false; berths = 1 }

unfoldable pub remote : Group
remote = record { kind = kind.Remote; cancel = false; berths = 1 }
