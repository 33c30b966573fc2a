-- What the bytes of a line say, by its speech.
use Rattle.std.specs.Prelude.{◌≡◌, ℕ, List, [], ◌∷◌, ◌++◌, map, reverse, None}
use Rattle.delimited_framing.specs.Front.{Form}
use Rattle.delimited_framing.specs.Frame.{delimited_form}
use Rattle.delimited_framing.specs.Splitter.{Held, StandsFor}
use Rattle.json_framing.specs.Cutter.{framing_of, held}
use Rattle.json_framing.specs.Lines.{line_form}
use Rattle.json_framing.specs.declared.cutter.Framing.{Framing}
use Rattle.json_framing.specs.declared.cutter.Framing.TheVariants as framing
use Rattle.exec_journal.specs.declared.call.Answer.{Answer}
use Rattle.run_plan.specs.declared.plan.Speech.{Speech}
use Rattle.run_plan.specs.declared.plan.Speech.TheVariants as speech
use Rattle.wire_fields.specs.Message.{largest, AreSpelled}
use Rattle.wire_messages.specs.Response.{SpellsResponse}
use Rattle.remote_messages.specs.JobResult.{SpellsJobResult}
use Rattle.remote_messages.specs.declared.job_result.JobResult.{JobResult}
use Rattle.remote_branch.specs.Parts.{StandsFor as IsLeftBy}
use Rattle.remote_branch.specs.declared.parts.Waiting.{Waiting}
use Rattle.answer_reader.specs.declared.reader.AnswerReader.{AnswerReader}
use Rattle.answer_reader.specs.declared.reader.Spoken.{Spoken}
use Rattle.answer_reader.specs.declared.reader.Spoken.TheVariants as spoken
use Rattle.answer_reader.specs.Answers.{of_response, SpellsLine, results_say, ReadsResult}
use Rattle.answer_reader.specs.Reading.{BeginsWith, IsWhole, IsBroken, Reads}

abbrev pub framing_for : Speech → Framing
framing_for speech.Proto = framing.Delimited
framing_for speech.Json = framing.Lines
framing_for speech.Remote = framing.Delimited

-- the bytes begin with messages that say these answers
unfoldable pub SaysFirst : Speech → List ℕ → List Answer → Type 0
SaysFirst speech.Proto bytes answers =
    BeginsWith delimited_form SpellsResponse (map of_response) bytes answers
SaysFirst speech.Json bytes answers =
    BeginsWith line_form SpellsLine (map of_response) bytes answers
SaysFirst speech.Remote bytes answers =
    BeginsWith delimited_form SpellsJobResult results_say bytes answers

-- these are all that they say, and nothing is wrong with what is left
unfoldable pub SaysAll : Speech → List ℕ → List Answer → Type 0
SaysAll speech.Proto bytes answers =
    IsWhole delimited_form SpellsResponse (map of_response) bytes answers
SaysAll speech.Json bytes answers = IsWhole line_form SpellsLine (map of_response) bytes answers
SaysAll speech.Remote bytes answers =
    IsWhole delimited_form SpellsJobResult results_say bytes answers

-- these are all that they say before what spells nothing
unfoldable pub SaysBadly : Speech → List ℕ → List Answer → Type 0
SaysBadly speech.Proto bytes answers =
    IsBroken delimited_form SpellsResponse (map of_response) bytes answers
SaysBadly speech.Json bytes answers = IsBroken line_form SpellsLine (map of_response) bytes answers
SaysBadly speech.Remote bytes answers =
    IsBroken delimited_form SpellsJobResult results_say bytes answers

-- what one frame says in each speech, and what waits of an executor's results before and after it
abbrev pub ReadsAs : Speech → List ℕ → List Waiting → Spoken → List Waiting → Type 0
ReadsAs speech.Proto frame old out new = Reads SpellsResponse of_response frame out
ReadsAs speech.Json frame old out new = Reads SpellsLine of_response frame out
ReadsAs speech.Remote frame old out new = ReadsResult frame old out new

-- ---- readers

-- The cutter was fed these bytes, without a fault, and its frames say these answers.
pub record Heard (form : Form) {M : Type 0} (Spells : List ℕ → M → Type 0)
    (joined : List M → List Answer) (fed : List ℕ) (answers : List Answer) (s : Held) : Type 0 where
  pub frames : List (List ℕ)
  pub messages : List M
  pub stands : StandsFor form fed frames s
  pub limit : s.limit ≡ largest
  pub no_fault : s.fault ≡ None
  pub spelled : AreSpelled Spells frames messages
  pub joins : joined messages ≡ answers

-- and so much waits of the results that came in parts
pub record HeardResults (fed : List ℕ) (answers : List Answer) (s : Held)
    (waiting : List Waiting) : Type 0 where
  pub heard : Heard delimited_form SpellsJobResult results_say fed answers s
  pub left : IsLeftBy waiting (reverse heard.messages)

abbrev pub HearsAs : Speech → List ℕ → List Answer → Held → List Waiting → Type 0
HearsAs speech.Proto fed answers s waiting =
    Heard delimited_form SpellsResponse (map of_response) fed answers s
HearsAs speech.Json fed answers s waiting =
    Heard line_form SpellsLine (map of_response) fed answers s
HearsAs speech.Remote fed answers s waiting = HeardResults fed answers s waiting

-- the reader, of this speech, was fed these bytes, and has given these answers
unfoldable pub Hears : Speech → List ℕ → List Answer → AnswerReader → Type 0
Hears s fed answers r = (r.speech ≡ s) × (framing_of r.cutter ≡ framing_for s)
    × HearsAs s fed answers (held r.cutter) r.parts

-- one result more was read of what was fed
pub record ReadsOneMore (fed : List ℕ) (old new : Held) : Type 0 where
  pub frames : List (List ℕ)
  pub frame : List ℕ
  pub result : JobResult
  pub before : StandsFor delimited_form fed frames old
  pub after : StandsFor delimited_form fed (frames ++ frame ∷ []) new
  pub spelled : SpellsJobResult frame result

-- a part of an answer was read: only an executor's answers come in parts
abbrev pub ReadsPartAs : Speech → List ℕ → Held → Held → Type 0
ReadsPartAs speech.Proto fed old new = ⊥
ReadsPartAs speech.Json fed old new = ⊥
ReadsPartAs speech.Remote fed old new = ReadsOneMore fed old new

-- what it gives next, and what it was and is then
abbrev pub SaysNext : Speech → List ℕ → List Answer → Spoken → AnswerReader → AnswerReader → Type 0
SaysNext s fed answers (spoken.Answer x) old new = Hears s fed (answers ++ x ∷ []) new
SaysNext s fed answers spoken.More old new =
    Hears s fed answers new × ReadsPartAs s fed (held old.cutter) (held new.cutter)
SaysNext s fed answers spoken.NotYet old new = Hears s fed answers new × SaysAll s fed answers
SaysNext s fed answers spoken.Bad old new = SaysBadly s fed answers
