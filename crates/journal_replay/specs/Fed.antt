-- What an auditor knows of a text of which these bytes came so far.
use Rattle.std.specs.Prelude.{◌≡◌, ℕ, ◌+◌, ◌≤◌, Bool, List, ◌++◌, length}
use Rattle.journal_text.specs.Lines.{lines_behind, lines_of}
use Rattle.journal_replay.specs.Legality.{Rulebook, Standing}
use Rattle.journal_replay.specs.Staged.{KnowsStage}
use Rattle.journal_replay.specs.declared.feeding.Auditor.{Auditor}
use Rattle.journal_replay.specs.declared.front.Stage.{Stage}

-- these lines are whole, and behind them a line has begun so, whatever comes next
pub record CutAt (bytes : List ℕ) (lines : List (List ℕ)) (begun : List ℕ) : Type 0 where
  pub few : length lines ≤ length bytes
  pub cut : (more : List ℕ) → lines_of (bytes ++ more) ≡ lines ++ lines_behind begun more

-- so much is known of the whole lines
pub record FedSo {B C : Type 0} (skips : Bool) (rules : Rulebook B) (stands : Standing B C)
    (stage : Stage C) (number : ℕ) (begun bytes : List ℕ) : Type 0 where
  pub lines : List (List ℕ)
  pub knows : KnowsStage skips rules stands stage lines
  pub number_is : number ≡ length lines + 1
  pub split : CutAt bytes lines begun

abbrev pub Fed : {B C : Type 0} → Bool → Rulebook B → Standing B C → Auditor C → List ℕ → Type 0
Fed skips rules stands a bytes = FedSo skips rules stands a.stage a.number a.begun.items bytes
