-- What a JSON value is read as: a plan, or an entry.
use Rattle.std.specs.Prelude.{ℕ, List, codes, bytes_eq, if◌then◌else◌, Option, Some, None}
use Rattle.serde_json.specs.Data.{Data}
use Rattle.run_plan.specs.declared.plan.Group.{Group}
use Rattle.run_plan.specs.declared.plan.Maker.{Maker}
use Rattle.run_plan.specs.declared.plan.Plan.{Plan}
use Rattle.run_plan.specs.declared.plan.PlanAction.{PlanAction}
use Rattle.exec_journal.specs.declared.attempt.Attempt.{Attempt}
use Rattle.exec_journal.specs.Entry.{Entry}
use Rattle.exec_journal.specs.declared.call.Answer.{Answer}
use Rattle.exec_journal.specs.declared.call.NamedFile.{NamedFile}
use Rattle.exec_journal.specs.declared.call.Call.{Call}
use Rattle.exec_journal.specs.declared.call.Call.TheVariants as call
use Rattle.exec_journal.specs.declared.call.CommitEnd.{CommitEnd}
use Rattle.exec_journal.specs.declared.call.CommitEnd.TheVariants as commit
use Rattle.exec_journal.specs.declared.call.Found.{Found}
use Rattle.exec_journal.specs.declared.call.Found.TheVariants as found
use Rattle.exec_journal.specs.declared.call.Wanted.{Wanted}
use Rattle.exec_journal.specs.declared.call.Wanted.TheVariants as look
use Rattle.exec_journal.specs.declared.reply.Reply.{Reply}
use Rattle.exec_journal.specs.declared.reply.Reply.TheVariants as reply
use Rattle.exec_journal.specs.Entries.{attempt_of}
use Rattle.journal_text.specs.Options.{◌>>=◌}
use Rattle.journal_text.specs.Values.{at, content_in, count_in, flag_in, list_in, maybe_in, row_in, signed_in, text_in, variant_in, whole}
use Rattle.journal_text.specs.Words.{branch_in, breach_in, how_ended_in, kind_in, started_in, stray_in, why_in, written_in}

-- ---- the plan

abbrev pub maker_in : Data → Option Maker
maker_in d = do
  row ← row_in d
  action ← at count_in row
  output ← at count_in action.1
  whole (record { action = action.0; output = output.0 }) output.1

abbrev pub plan_action_in : Data → Option PlanAction
plan_action_in d = do
  row ← row_in d
  name ← at text_in row
  outputs ← at (list_in text_in) name.1
  makers ← at (list_in maker_in) outputs.1
  local ← at maybe_in makers.1
  remote ← at maybe_in local.1
  whole (record {
    name = name.0;
    outputs = outputs.0;
    makers = makers.0;
    local = local.0;
    remote = remote.0;
  }) remote.1

abbrev pub group_in : Data → Option Group
group_in d = do
  row ← row_in d
  kind ← at kind_in row
  cancel ← at flag_in kind.1
  berths ← at count_in cancel.1
  whole (record { kind = kind.0; cancel = cancel.0; berths = berths.0 }) berths.1

abbrev pub plan_in : Data → Option Plan
plan_in d = do
  row ← row_in d
  actions ← at (list_in plan_action_in) row
  groups ← at (list_in group_in) actions.1
  limit ← at count_in groups.1
  whole (record { actions = actions.0; groups = groups.0; limit = limit.0 }) limit.1

-- ---- calls

-- an attempt, as its action, its branch and its number
abbrev pub attempt_at : List Data → Option (Attempt × List Data)
attempt_at row = do
  action ← at count_in row
  branch ← at branch_in action.1
  number ← at count_in branch.1
  Some (attempt_of action.0 branch.0 number.0, number.1)

abbrev pub file_in : Data → Option NamedFile
file_in d = do
  row ← row_in d
  path ← at text_in row
  content ← at content_in path.1
  whole (record { path = path.0; content = content.0 }) content.1

abbrev pub answer_in : Data → Option Answer
answer_in d = do
  row ← row_in d
  number ← at signed_in row
  exit ← at signed_in number.1
  cancelled ← at flag_in exit.1
  text ← at text_in cancelled.1
  refusal ← at text_in text.1
  files ← at (list_in file_in) refusal.1
  version ← at signed_in files.1
  whole (record {
    number = number.0;
    exit = exit.0;
    cancelled = cancelled.0;
    text = text.0;
    refusal = refusal.0;
    files = files.0;
    version = version.0;
  }) version.1

abbrev pub made_by : List Data → Option Wanted
made_by row = do
  action ← at count_in row
  output ← at count_in action.1
  whole (look.Made action.0 output.0) output.1

abbrev pub answered_by : List Data → Option Wanted
answered_by row = do
  line ← at count_in row
  number ← at signed_in line.1
  output ← at count_in number.1
  whole (look.Answered line.0 number.0 output.0) output.1

abbrev pub wanted_by : List ℕ → List Data → Option Wanted
wanted_by name row =
    if bytes_eq name (codes "Made") then made_by row
    else if bytes_eq name (codes "Answered") then answered_by row
    else None

abbrev pub wanted_in : Data → Option Wanted
wanted_in d = variant_in d >>= λ v. wanted_by v.0 v.1

abbrev pub files_by : List Data → Option Found
files_by row = at (list_in content_in) row >>= λ files. whole (found.Files files.0) files.1

abbrev pub exit_by : List Data → Option Found
exit_by row = at signed_in row >>= λ exit. whole (found.Exit exit.0) exit.1

abbrev pub missing_by : List Data → Option Found
missing_by row = at count_in row >>= λ output. whole (found.Missing output.0) output.1

abbrev pub found_by : List ℕ → List Data → Option Found
found_by name row =
    if bytes_eq name (codes "Files") then files_by row
    else if bytes_eq name (codes "Exit") then exit_by row
    else if bytes_eq name (codes "Missing") then missing_by row
    else if bytes_eq name (codes "RoomFault") then whole found.RoomFault row
    else if bytes_eq name (codes "Refused") then whole found.Refused row
    else None

abbrev pub found_in : Data → Option Found
found_in d = variant_in d >>= λ v. found_by v.0 v.1

abbrev pub place_fault_by : List Data → Option CommitEnd
place_fault_by row = at count_in row >>= λ written. whole (commit.PlaceFault written.0) written.1

abbrev pub commit_end_by : List ℕ → List Data → Option CommitEnd
commit_end_by name row =
    if bytes_eq name (codes "Done") then whole commit.Done row
    else if bytes_eq name (codes "PlaceFault") then place_fault_by row
    else None

abbrev pub commit_end_in : Data → Option CommitEnd
commit_end_in d = variant_in d >>= λ v. commit_end_by v.0 v.1

abbrev pub launched_by : List Data → Option Call
launched_by row = do
  line ← at count_in row
  how ← at started_in line.1
  whole (call.Launched line.0 how.0) how.1

abbrev pub wrote_by : List Data → Option Call
wrote_by row = do
  line ← at count_in row
  number ← at signed_in line.1
  how ← at written_in number.1
  whole (call.Wrote line.0 number.0 how.0) how.1

abbrev pub look_by : List Data → Option Call
look_by row = at wanted_in row >>= λ wanted. whole (call.Look wanted.0) wanted.1

abbrev pub claim_by : List Data → Option Call
claim_by row = do
  attempt ← attempt_at row
  found ← at found_in attempt.1
  whole (call.Claim attempt.0.action attempt.0.branch attempt.0.number found.0) found.1

abbrev pub committed_by : List Data → Option Call
committed_by row = do
  action ← at count_in row
  branch ← at branch_in action.1
  how ← at commit_end_in branch.1
  whole (call.Committed action.0 branch.0 how.0) how.1

abbrev pub killed_by : List Data → Option Call
killed_by row = at count_in row >>= λ line. whole (call.Killed line.0) line.1

abbrev pub answer_by : List Data → Option Call
answer_by row = do
  line ← at count_in row
  answer ← at answer_in line.1
  whole (call.Answer line.0 answer.0) answer.1

abbrev pub ended_by : List Data → Option Call
ended_by row = do
  line ← at count_in row
  how ← at how_ended_in line.1
  whole (call.Ended line.0 how.0) how.1

-- a call of a tap lane, or any lane's Halt
abbrev pub heard_by : List ℕ → List Data → Option Call
heard_by name row =
    if bytes_eq name (codes "Take") then whole call.Take row
    else if bytes_eq name (codes "Answer") then answer_by row
    else if bytes_eq name (codes "Ended") then ended_by row
    else if bytes_eq name (codes "Tick") then whole call.Tick row
    else if bytes_eq name (codes "Halt") then whole call.Halt row
    else None

abbrev pub call_by : List ℕ → List Data → Option Call
call_by name row =
    if bytes_eq name (codes "Ask") then whole call.Ask row
    else if bytes_eq name (codes "Launched") then launched_by row
    else if bytes_eq name (codes "Wrote") then wrote_by row
    else if bytes_eq name (codes "Look") then look_by row
    else if bytes_eq name (codes "Claim") then claim_by row
    else if bytes_eq name (codes "Committed") then committed_by row
    else if bytes_eq name (codes "Killed") then killed_by row
    else heard_by name row

abbrev pub call_in : Data → Option Call
call_in d = variant_in d >>= λ v. call_by v.0 v.1

-- ---- replies

abbrev pub launch_by : List Data → Option Reply
launch_by row = do
  line ← at count_in row
  attempt ← attempt_at line.1
  whole (reply.Launch line.0 attempt.0.action attempt.0.branch attempt.0.number) attempt.1

abbrev pub send_by : List Data → Option Reply
send_by row = do
  line ← at count_in row
  number ← at signed_in line.1
  attempt ← attempt_at number.1
  whole (reply.Send line.0 number.0 attempt.0.action attempt.0.branch attempt.0.number) attempt.1

abbrev pub cancel_by : List Data → Option Reply
cancel_by row = do
  line ← at count_in row
  number ← at signed_in line.1
  whole (reply.Cancel line.0 number.0) number.1

abbrev pub gather_by : List Data → Option Reply
gather_by row = do
  line ← at count_in row
  number ← at signed_in line.1
  attempt ← attempt_at number.1
  exit ← at signed_in attempt.1
  refused ← at flag_in exit.1
  whole (reply.Gather line.0 number.0 attempt.0.action attempt.0.branch attempt.0.number
      exit.0 refused.0) refused.1

abbrev pub kill_by : List Data → Option Reply
kill_by row = do
  line ← at count_in row
  why ← at why_in line.1
  whole (reply.Kill line.0 why.0) why.1

abbrev pub file_by : List Data → Option Reply
file_by row = at content_in row >>= λ content. whole (reply.File content.0) content.1

abbrev pub line_by : List Data → Option Reply
line_by row = at count_in row >>= λ line. whole (reply.Line line.0) line.1

abbrev pub matched_by : List Data → Option Reply
matched_by row = do
  attempt ← attempt_at row
  whole (reply.Matched attempt.0.action attempt.0.branch attempt.0.number) attempt.1

abbrev pub late_by : List Data → Option Reply
late_by row = do
  attempt ← attempt_at row
  whole (reply.Late attempt.0.action attempt.0.branch attempt.0.number) attempt.1

abbrev pub stray_by : List Data → Option Reply
stray_by row = at stray_in row >>= λ why. whole (reply.Stray why.0) why.1

abbrev pub breach_by : List Data → Option Reply
breach_by row = at breach_in row >>= λ why. whole (reply.Breach why.0) why.1

abbrev pub plain_named : List ℕ → Option Reply
plain_named name =
    if bytes_eq name (codes "Stop") then Some reply.Stop
    else if bytes_eq name (codes "Idle") then Some reply.Idle
    else if bytes_eq name (codes "Noted") then Some reply.Noted
    else if bytes_eq name (codes "NoFile") then Some reply.NoFile
    else if bytes_eq name (codes "Granted") then Some reply.Granted
    else if bytes_eq name (codes "Lost") then Some reply.Lost
    else if bytes_eq name (codes "Dropped") then Some reply.Dropped
    else if bytes_eq name (codes "AgainLater") then Some reply.AgainLater
    else if bytes_eq name (codes "Greeted") then Some reply.Greeted
    else if bytes_eq name (codes "Astray") then Some reply.Astray
    else if bytes_eq name (codes "NoMemory") then Some reply.NoMemory
    else None

-- what has no fields
abbrev pub plain_by : List ℕ → List Data → Option Reply
plain_by name row = plain_named name >>= λ r. whole r row

abbrev pub told_by : List ℕ → List Data → Option Reply
told_by name row =
    if bytes_eq name (codes "File") then file_by row
    else if bytes_eq name (codes "Line") then line_by row
    else if bytes_eq name (codes "Matched") then matched_by row
    else if bytes_eq name (codes "Late") then late_by row
    else if bytes_eq name (codes "Stray") then stray_by row
    else if bytes_eq name (codes "Breach") then breach_by row
    else plain_by name row

abbrev pub reply_by : List ℕ → List Data → Option Reply
reply_by name row =
    if bytes_eq name (codes "Launch") then launch_by row
    else if bytes_eq name (codes "Send") then send_by row
    else if bytes_eq name (codes "Cancel") then cancel_by row
    else if bytes_eq name (codes "Gather") then gather_by row
    else if bytes_eq name (codes "Kill") then kill_by row
    else told_by name row

abbrev pub reply_in : Data → Option Reply
reply_in d = variant_in d >>= λ v. reply_by v.0 v.1

abbrev pub entry_in : Data → Option Entry
entry_in d = do
  row ← row_in d
  lane ← at count_in row
  call ← at call_in lane.1
  reply ← at reply_in call.1
  whole (record { lane = lane.0; call = call.0; reply = reply.0 }) reply.1
