-- A run that leaves its journal as text.
use Rattle.std.specs.Prelude.{◌≡◌, ◌≤◌, ℕ, List, [], ◌++◌, length, Option, Some, None, ◌⊎◌}
use Rattle.build_report.specs.declared.fault.RunFault.{RunFault}
use Rattle.build_report.specs.declared.fault.RunFault.TheVariants as fault
use Rattle.build_report.specs.declared.fault.Stage.TheVariants as stage
use Rattle.exec_journal.specs.Legal.{Legal}
use Rattle.exec_journal.specs.Entry.{Entry}
use Rattle.journal_replay.specs.Verdicts.{Judges}
use Rattle.journal_replay.specs.declared.verdict.Verdict.TheVariants as verdict
use Rattle.journal_text.specs.Lines.{text_of}
use Rattle.outside.specs.Lists.{Gives}
use Rattle.outside.specs.Told.{SinkTold}
use Rattle.outside.specs.declared.answers.Io.TheVariants as io
use Rattle.run_plan.specs.declared.plan.Plan.{Plan}
use Rattle.run_tasks.specs.declared.task.Task.{Task}
use Rattle.worker_run.specs.Ends.{MayPut, report_by}
use Rattle.worker_run.specs.Headline.{OnRun}
use Rattle.worker_run.specs.Seen.{EndedTold}

-- ---- what is put

-- the text of the journal of a task
abbrev pub text_by : Option Task → List Entry → List ℕ
text_by None journal = []
text_by (Some t) journal = text_of t.plan journal

-- With no fault the report and the text are put, and a front of the two where the sink failed. Where
-- memory ran out behind the lanes, it was before the report or between the two. Where lanes halted, the
-- report is put if that can be done. With any other fault nothing is put.
abbrev pub RecordsBy : Option RunFault → List ℕ → List ℕ → SinkTold → SinkTold → Type 0
RecordsBy None report text old new = Gives io.Done (report ++ text) old.contents new.contents
RecordsBy (Some fault.SinkFailed) report text old new =
    Gives io.Failed (report ++ text) old.contents new.contents
RecordsBy (Some (fault.NoMemory stage.After)) report text old new =
    (new.contents ≡ old.contents) ⊎ Gives io.Done report old.contents new.contents
RecordsBy (Some (fault.NoMemory stage.During)) report text old new = MayPut report old new
RecordsBy (Some f) report text old new = new.contents ≡ old.contents

-- the report, and the text of the journal that is told
abbrev pub Records : EndedTold → SinkTold → SinkTold → Type 0
Records end old new = RecordsBy end.fault (report_by end.task end.left.journal)
    (text_by end.task end.left.journal) old new

-- ---- what a checker says of it

-- The text of the plan and the journal is judged legal, with so many actions and entries, unless it
-- is too long.
abbrev pub IsJudgedYes : Plan → List Entry → Type 0
IsJudgedYes p j = length (text_of p j) ≤ 268435456
    → Judges (λ q k. Legal q k) (text_of p j) (verdict.Yes (length p.actions) (length j))

-- it holds where the text was put whole
abbrev pub WherePut : Option RunFault → Type 0 → Type 0
WherePut None P = P
WherePut (Some f) P = Unit {0}

-- the text that is put whole is judged so
abbrev pub YesIfPut : EndedTold → Type 0
YesIfPut end = WherePut end.fault (OnRun end (λ t x. IsJudgedYes t.plan x.journal))
