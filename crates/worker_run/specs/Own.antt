-- What the front of the plan's own berths reads and promises.
use Rattle.std.specs.Prelude.{◌*◌, ℕ, List, Result}
use Rattle.core_contract.specs.Disciplines.{own_discipline}
use Rattle.exec_journal.specs.Entry.{Entry}
use Rattle.exec_journal.specs.Legal.{Legal}
use Rattle.outside.specs.declared.floor.FloorRead.{FloorRead}
use Rattle.progress_laws.specs.Few.{CallsAreFew}
use Rattle.progress_laws.specs.Moments.{NeverStuck}
use Rattle.run_plan.specs.Groups.{berths}
use Rattle.run_plan.specs.declared.plan.Plan.{Plan}
use Rattle.run_tasks.specs.Course.{Course}
use Rattle.run_tasks.specs.declared.task.Task.{Task}
use Rattle.tool_words.specs.Options.{options_of}
use Rattle.worker_run.specs.Fronts.{FaultsOnly}
use Rattle.worker_run.specs.declared.front.NoRun.{NoRun}

-- By the words' options, the reads led to a task and its plan once more, or to a fault.
abbrev pub own_course : List (List ℕ) → List FloorRead → Result (Task × Plan) NoRun → Type 0
own_course words = FaultsOnly (Course (options_of words))

-- What a legal journal of such a plan has: it is legal by the rules of own berths in their own words; at
-- no moment did all lanes rest, unless all had left, or some process owed an answer or its end; and it
-- has few entries.
pub record OwnPromised (p : Plan) (j : List Entry) : Type 0 where
  pub legal : Legal p j
  pub awaited : NeverStuck (own_discipline p) (2 * berths p) j
  pub few : CallsAreFew p (2 * berths p) j
