-- The answer that a result gives: the job's number, exit code, text, refusal, files and all else
-- that it says.
use Rattle.std.specs.Prelude.{List, map}
use Rattle.remote_messages.specs.declared.file.NamedFile.{NamedFile}
use Rattle.remote_messages.specs.declared.job_result.JobResult.{JobResult}
use Rattle.exec_journal.specs.declared.call.Answer.{Answer}
use Rattle.exec_journal.specs.declared.call.NamedFile as told

-- a file, as the journal has it
abbrev pub file_for : NamedFile → told.NamedFile
file_for file = record { path = file.path; content = file.content }

abbrev pub files_for : List NamedFile → List told.NamedFile
files_for files = map file_for files

-- what the result says, with these files
abbrev pub answer_with : JobResult → List told.NamedFile → Answer
answer_with r files = record {
  number = r.id;
  exit = r.exit_code;
  cancelled = r.cancelled;
  text = r.text;
  refusal = r.refusal;
  files = files;
  version = r.version;
}

abbrev pub answer_for : JobResult → Answer
answer_for r = answer_with r (files_for r.files)
