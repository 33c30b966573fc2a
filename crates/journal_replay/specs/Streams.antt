-- What is left of an input that came through a pipe.
use Rattle.std.specs.Prelude.{◌≡◌, ℕ, ◌<◌, ◌⊎◌, true, List, [], length, IfSome}
use Rattle.outside.specs.Lists.{Adds, Gives}
use Rattle.outside.specs.Told.{SinkTold, TapTold}
use Rattle.outside.specs.declared.answers.Io.{Io}
use Rattle.outside.specs.declared.answers.Io.TheVariants as io
use Rattle.journal_replay.specs.Legality.{Legality, Rulebook, of_plans}
use Rattle.journal_replay.specs.Fronts.{JudgesInputBy}
use Rattle.journal_replay.specs.Verdicts.{limit}
use Rattle.journal_replay.specs.declared.verdict.Verdict.{Verdict}
use Rattle.journal_replay.specs.Words.{verdict_line, verdict_status}

-- these bytes were taken, to the end or past the limit
pub record IsTaken (bytes : List ℕ) (old new : TapTold) : Type 0 where
  pub taken : Adds bytes old.taken new.taken
  pub whole : IfSome new.ended (λ e. e ≡ true) ⊎ (limit < length bytes)

-- Of the bytes that were taken, the text behind the report is judged so, or where they begin with no
-- report all of them.
pub record IsRead {B : Type 0} (rules : Rulebook B) (v : Verdict) (old new : TapTold) : Type 0 where
  pub bytes : List ℕ
  pub taken : IsTaken bytes old new
  pub judged : JudgesInputBy rules bytes v

-- the line was put and the status is the verdict's, or the sink failed
abbrev pub EndsWith : Verdict → Io → ℕ → Type 0
EndsWith v io.Done status = status ≡ verdict_status v
EndsWith v io.Failed status = status ≡ 6

pub record IsPut (v : Verdict) (before after : SinkTold) (status : ℕ) : Type 0 where
  pub end : Io
  pub put : Gives end (verdict_line v) before.contents after.contents
  pub status_is : EndsWith v end status

-- what was taken was judged, and the line of its verdict was put
pub record IsJudged {B : Type 0} (rules : Rulebook B) (old new : TapTold) (before after : SinkTold)
    (status : ℕ) : Type 0 where
  pub verdict : Verdict
  pub read : IsRead rules verdict old new
  pub told : IsPut verdict before after status

-- memory ran out, or the tap failed, and nothing was put
pub record IsCutOff (before after : SinkTold) (status : ℕ) : Type 0 where
  pub status_is : (status ≡ 3) ⊎ (status ≡ 5)
  pub nothing : Adds [] before.contents after.contents

abbrev pub StreamedBy : {B : Type 0} → Rulebook B → TapTold → TapTold → SinkTold → SinkTold
    → ℕ → Type 0
StreamedBy rules old new before after status =
    IsCutOff before after status ⊎ IsJudged rules old new before after status

-- on the plan's own berths
abbrev pub Streamed : Legality → TapTold → TapTold → SinkTold → SinkTold → ℕ → Type 0
Streamed makes old new before after status = StreamedBy (of_plans makes) old new before after status
