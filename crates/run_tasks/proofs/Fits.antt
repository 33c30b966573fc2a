-- Each group of a plan has its command, each berth its speech, and an action's work its plan.
use Rattle.std.proofs.Common.{◌≡◌, ℕ, List, length, Ok, sym, ap, subst, ◌∙◌}
use Rattle.action_list.specs.Keys.{keys_of}
use Rattle.action_list.specs.Parts.{parts_of}
use Rattle.action_list.specs.Plans.{plan_of}
use Rattle.list_actions.specs.Whole.{IsWhole}
use Rattle.action_list.specs.declared.parts.GroupPart.{GroupPart}
use Rattle.list_actions.specs.declared.types.ListAction.{ListAction}
use Rattle.run_tasks.proofs.AtBerths.{commands_law, speeches_law}
use Rattle.run_tasks.proofs.Spoken.{parts_law, same_test, speech_law}
use Rattle.run_tasks.specs.Setup.{commands_for, speeches_for}
use Rattle.plain_values.specs.declared.command.Command.{Command}
use Rattle.run_values.specs.Work.{IsWorkOf}
use Rattle.outside.specs.Told.{FloorTold}
use Rattle.remote_messages.specs.declared.work.Work.{Work}
use Rattle.remote_messages.specs.declared.work.WorkAction.{WorkAction}
use Rattle.run_loading.specs.Course.{WorkRead}
use Rattle.run_loading.specs.Reads.{Reads}
use Rattle.run_plan.specs.Groups.{berths, kind_of}
use Rattle.run_plan.specs.declared.plan.Plan.{Plan}
use Rattle.run_plan.specs.declared.plan.Speech.{Speech}
use Rattle.tool_words.specs.declared.options.Options.{Options}
use Rattle.run_tasks.specs.Tasks.{HasWork, SpeechesFit, plan_by}
use Rattle.run_tasks.specs.declared.task.Task.{Task}
use Rattle.run_tasks.proofs.Works.{all_work}

-- ---- settings

-- commands and speeches that fit the plan, as a task's do
pub record Fit (plan : Plan) (commands : List Command) (speeches : List Speech) : Type 0 where
  pub commanded : length commands ≡ length plan.groups
  pub as_many : length speeches ≡ berths plan
  pub fit : SpeechesFit plan speeches

by_parts : (xs : List ListAction) (plan : Plan) (extra : List (List ℕ)) (executor : List ℕ)
    → Fit plan (commands_for (parts_of xs plan extra executor))
    (speeches_for plan (parts_of xs plan extra executor))
by_parts xs plan extra executor =
    let parts = parts_of xs plan extra executor in
    let many = parts_law xs plan extra executor in record {
      commanded = (commands_law plan parts many).0;
      as_many = (speeches_law plan parts many).0;
      fit = λ w s at. same_test s (kind_of plan w) (speech_law xs plan extra executor w s at);
    }

-- they were made of the parts of the plan's groups
pub fits : (xs : List ListAction) (plan : Plan) (extra : List (List ℕ)) (executor : List ℕ)
    (commands : List Command) (speeches : List Speech)
    → commands ≡ commands_for (parts_of xs plan extra executor)
    → speeches ≡ speeches_for plan (parts_of xs plan extra executor) → Fit plan commands speeches
fits xs plan extra executor commands speeches commanded spoken =
    subst (λ (cs : List Command). Fit plan cs speeches) (sym commanded)
    (subst (λ (ss : List Speech). Fit plan (commands_for (parts_of xs plan extra executor)) ss)
    (sym spoken) (by_parts xs plan extra executor))

pub as_many_parts : (xs : List ListAction) (plan : Plan) (extra : List (List ℕ)) (executor : List ℕ)
    (parts : List GroupPart) → parts ≡ parts_of xs plan extra executor
    → length parts ≡ length plan.groups
as_many_parts xs plan extra executor parts is = ap length is ∙ parts_law xs plan extra executor

-- ---- work

abbrev FitsWork : Plan → List WorkAction → Type 0
FitsWork plan ws = IsWorkOf plan ws

planned_work : (o : Options) (xs : List ListAction) (old new : FloorTold) (work : Work)
    → IsWhole xs → Reads old new (λ reads. WorkRead xs reads (Ok work))
    → FitsWork (plan_by o xs) work.actions
unfolding plan_of
planned_work o xs old new work whole l =
    let all = all_work (keys_of xs) l.3.0 xs work.actions whole.ordered whole.few_outputs l.3.2 in
    record { as_many = all.0; each = all.1 }

pub has_work : (o : Options) (xs : List ListAction) (old new : FloorTold) (task : Task)
    (work : Work) → IsWhole xs → task.plan ≡ plan_by o xs → task.work ≡ work
    → Reads old new (λ reads. WorkRead xs reads (Ok work)) → HasWork task
has_work o xs old new task work whole planned same l =
    let made = planned_work o xs old new work whole l in
    let own : FitsWork (plan_by o xs) task.work.actions =
    subst (λ (v : Work). FitsWork (plan_by o xs) v.actions) (sym same) made in
    subst (λ (p : Plan). FitsWork p task.work.actions) (sym planned) own
