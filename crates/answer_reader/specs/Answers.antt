-- The answer of one message.
use Rattle.std.specs.Prelude.{◌≡◌, ℕ, List, [], ◌∷◌, reverse, pos, Option, Some, None, Ok}
use Rattle.exec_journal.specs.declared.call.Answer.{Answer}
use Rattle.wire_messages.specs.declared.response.WorkResponse.{WorkResponse}
use Rattle.json_messages.specs.Messages.{response_of}
use Rattle.remote_messages.specs.JobResult.{SpellsJobResult}
use Rattle.remote_messages.specs.declared.job_result.JobResult.{JobResult}
use Rattle.remote_branch.specs.Parts.{answer_at, joined, StandsFor as IsLeftBy}
use Rattle.remote_branch.specs.declared.parts.Waiting.{Waiting}
use Rattle.answer_reader.specs.declared.reader.Spoken.{Spoken}
use Rattle.answer_reader.specs.declared.reader.Spoken.TheVariants as spoken

abbrev pub of_response : WorkResponse → Answer
of_response m = record {
  number = m.request_id;
  exit = m.exit_code;
  cancelled = m.was_cancelled;
  text = m.output;
  refusal = [];
  files = [];
  version = pos 0;
}

-- the line is this response
abbrev pub SpellsLine : List ℕ → WorkResponse → Type 0
SpellsLine line m = response_of line ≡ Ok m

-- the answers that an executor's results give, both oldest first
abbrev pub results_say : List JobResult → List Answer
results_say rs = reverse (joined (reverse rs))

-- what one result says after these, the newest first, and what then waits
abbrev pub ReadsPart : List ℕ → List JobResult → Spoken → List Waiting → Type 0
ReadsPart frame rs (spoken.Answer x) waiting = (r : JobResult) × SpellsJobResult frame r
    × (answer_at r rs ≡ Some x) × IsLeftBy waiting (r ∷ rs)
ReadsPart frame rs spoken.More waiting =
    (r : JobResult) × SpellsJobResult frame r × (answer_at r rs ≡ None) × IsLeftBy waiting (r ∷ rs)
ReadsPart frame rs spoken.Bad waiting = (r : JobResult) → SpellsJobResult frame r → ⊥
ReadsPart frame rs spoken.NotYet waiting = ⊥

-- the same, whatever was left
abbrev pub ReadsResult : List ℕ → List Waiting → Spoken → List Waiting → Type 0
ReadsResult frame old out new = (rs : List JobResult) → IsLeftBy old rs → ReadsPart frame rs out new
