-- The written form of the plan and of an entry. A struct is a row of its fields in order, an enum's
-- variant a row with its name first.
use Rattle.std.specs.Prelude.{[], ◌∷◌, codes, map}
use Rattle.serde_json.specs.Data.{Data, boolean, string}
use Rattle.run_plan.specs.declared.plan.Group.{Group}
use Rattle.run_plan.specs.declared.plan.Maker.{Maker}
use Rattle.run_plan.specs.declared.plan.Plan.{Plan}
use Rattle.run_plan.specs.declared.plan.PlanAction.{PlanAction}
use Rattle.exec_journal.specs.Entry.{Entry}
use Rattle.exec_journal.specs.declared.call.Answer.{Answer}
use Rattle.exec_journal.specs.declared.call.NamedFile.{NamedFile}
use Rattle.exec_journal.specs.declared.call.Call.{Call}
use Rattle.exec_journal.specs.declared.call.Call.TheVariants as call
use Rattle.exec_journal.specs.declared.call.CommitEnd.{CommitEnd}
use Rattle.exec_journal.specs.declared.call.CommitEnd.TheVariants as commit
use Rattle.exec_journal.specs.declared.call.Found.{Found}
use Rattle.exec_journal.specs.declared.call.Found.TheVariants as found
use Rattle.exec_journal.specs.declared.call.Wanted.{Wanted}
use Rattle.exec_journal.specs.declared.call.Wanted.TheVariants as look
use Rattle.exec_journal.specs.declared.reply.Reply.{Reply}
use Rattle.exec_journal.specs.declared.reply.Reply.TheVariants as reply
use Rattle.journal_text.specs.Values.{count_data, signed_data, content_data, maybe_data, row_data, variant_data}
use Rattle.journal_text.specs.Words.{branch_data, breach_data, how_ended_data, kind_data, started_data, stray_data, why_data, word_data, written_data}

-- ---- the plan

abbrev pub maker_data : Maker → Data
maker_data m = row_data (count_data m.action ∷ count_data m.output ∷ [])

abbrev pub plan_action_data : PlanAction → Data
plan_action_data a = row_data
    (string a.name
    ∷ row_data (map string a.outputs)
    ∷ row_data (map maker_data a.makers)
    ∷ maybe_data a.local
    ∷ maybe_data a.remote
    ∷ [])

abbrev pub group_data : Group → Data
group_data g = row_data (kind_data g.kind ∷ boolean g.cancel ∷ count_data g.berths ∷ [])

abbrev pub plan_data : Plan → Data
plan_data p = row_data
    (row_data (map plan_action_data p.actions)
    ∷ row_data (map group_data p.groups)
    ∷ count_data p.limit
    ∷ [])

-- ---- calls

abbrev pub file_data : NamedFile → Data
file_data f = row_data (string f.path ∷ content_data f.content ∷ [])

abbrev pub answer_data : Answer → Data
answer_data x = row_data
    (signed_data x.number
    ∷ signed_data x.exit
    ∷ boolean x.cancelled
    ∷ string x.text
    ∷ string x.refusal
    ∷ row_data (map file_data x.files)
    ∷ signed_data x.version
    ∷ [])

abbrev pub wanted_data : Wanted → Data
wanted_data (look.Made a o) = variant_data (codes "Made") (count_data a ∷ count_data o ∷ [])
wanted_data (look.Answered l n o) =
    variant_data (codes "Answered") (count_data l ∷ signed_data n ∷ count_data o ∷ [])

abbrev pub found_data : Found → Data
found_data (found.Files fs) = variant_data (codes "Files") (row_data (map content_data fs) ∷ [])
found_data (found.Exit n) = variant_data (codes "Exit") (signed_data n ∷ [])
found_data (found.Missing k) = variant_data (codes "Missing") (count_data k ∷ [])
found_data found.RoomFault = word_data (codes "RoomFault")
found_data found.Refused = word_data (codes "Refused")

abbrev pub commit_end_data : CommitEnd → Data
commit_end_data commit.Done = word_data (codes "Done")
commit_end_data (commit.PlaceFault k) = variant_data (codes "PlaceFault") (count_data k ∷ [])

abbrev pub call_data : Call → Data
call_data call.Ask = word_data (codes "Ask")
call_data (call.Launched l how) =
    variant_data (codes "Launched") (count_data l ∷ started_data how ∷ [])
call_data (call.Wrote l n how) =
    variant_data (codes "Wrote") (count_data l ∷ signed_data n ∷ written_data how ∷ [])
call_data (call.Look w) = variant_data (codes "Look") (wanted_data w ∷ [])
call_data (call.Claim a b t f) =
    variant_data (codes "Claim") (count_data a ∷ branch_data b ∷ count_data t ∷ found_data f ∷ [])
call_data (call.Committed a b how) =
    variant_data (codes "Committed") (count_data a ∷ branch_data b ∷ commit_end_data how ∷ [])
call_data (call.Killed l) = variant_data (codes "Killed") (count_data l ∷ [])
call_data call.Take = word_data (codes "Take")
call_data (call.Answer l x) = variant_data (codes "Answer") (count_data l ∷ answer_data x ∷ [])
call_data (call.Ended l how) =
    variant_data (codes "Ended") (count_data l ∷ how_ended_data how ∷ [])
call_data call.Tick = word_data (codes "Tick")
call_data call.Halt = word_data (codes "Halt")

-- ---- replies

abbrev pub reply_data : Reply → Data
reply_data (reply.Launch l a b t) =
    variant_data (codes "Launch") (count_data l ∷ count_data a ∷ branch_data b ∷ count_data t ∷ [])
reply_data (reply.Send l n a b t) =
    variant_data (codes "Send")
    (count_data l ∷ signed_data n ∷ count_data a ∷ branch_data b ∷ count_data t ∷ [])
reply_data (reply.Cancel l n) = variant_data (codes "Cancel") (count_data l ∷ signed_data n ∷ [])
reply_data (reply.Gather l n a b t e r) =
    variant_data (codes "Gather")
    (count_data l ∷ signed_data n ∷ count_data a ∷ branch_data b ∷ count_data t ∷ signed_data e
    ∷ boolean r ∷ [])
reply_data (reply.Kill l y) = variant_data (codes "Kill") (count_data l ∷ why_data y ∷ [])
reply_data reply.Stop = word_data (codes "Stop")
reply_data reply.Idle = word_data (codes "Idle")
reply_data reply.Noted = word_data (codes "Noted")
reply_data (reply.File content) = variant_data (codes "File") (content_data content ∷ [])
reply_data reply.NoFile = word_data (codes "NoFile")
reply_data reply.Granted = word_data (codes "Granted")
reply_data reply.Lost = word_data (codes "Lost")
reply_data reply.Dropped = word_data (codes "Dropped")
reply_data reply.AgainLater = word_data (codes "AgainLater")
reply_data (reply.Line l) = variant_data (codes "Line") (count_data l ∷ [])
reply_data (reply.Matched a b t) =
    variant_data (codes "Matched") (count_data a ∷ branch_data b ∷ count_data t ∷ [])
reply_data (reply.Late a b t) =
    variant_data (codes "Late") (count_data a ∷ branch_data b ∷ count_data t ∷ [])
reply_data reply.Greeted = word_data (codes "Greeted")
reply_data (reply.Stray y) = variant_data (codes "Stray") (stray_data y ∷ [])
reply_data (reply.Breach y) = variant_data (codes "Breach") (breach_data y ∷ [])
reply_data reply.Astray = word_data (codes "Astray")
reply_data reply.NoMemory = word_data (codes "NoMemory")

abbrev pub entry_data : Entry → Data
entry_data e = row_data (count_data e.lane ∷ call_data e.call ∷ reply_data e.reply ∷ [])
