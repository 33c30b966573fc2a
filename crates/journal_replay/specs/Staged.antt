-- What an auditor knows of the lines so far of an input, which may begin with a report.
use Rattle.std.specs.Prelude.{◌≡◌, ℕ, ◌+◌, ◌-◌, ◌^◌, ◌≤◌, min, Bool, true, if◌then◌else◌, List, ◌++◌, length, drop, Option}
use Rattle.std.specs.List.{list_all}
use Rattle.journal_replay.specs.Fronts.{SaysBehind, is_before_counts, report_lines_by}
use Rattle.journal_replay.specs.Knows.{Knows}
use Rattle.journal_replay.specs.Legality.{Rulebook, Standing}
use Rattle.journal_replay.specs.declared.auditor.Found.{Found}
use Rattle.journal_replay.specs.declared.front.Stage.{Stage}
use Rattle.journal_replay.specs.declared.front.Stage.TheVariants as stage
use Rattle.journal_replay.specs.declared.verdict.Verdict.{Verdict}
use Rattle.journal_replay.specs.declared.verdict.Verdict.TheVariants as verdict

-- how many lines stand before the text: none where no report is looked for
abbrev pub skipped_lines : {B : Type 0} → (List ℕ → Option B) → Bool → List (List ℕ) → ℕ
skipped_lines spelled skips lines = if skips then report_lines_by spelled lines else 0

-- so many lines stand before the text, whatever comes next, and this is known of those behind them
pub record IsText {B C : Type 0} (skips : Bool) (rules : Rulebook B) (stands : Standing B C) (n : ℕ)
    (f : Found C) (lines : List (List ℕ)) : Type 0 where
  pub within : n ≤ length lines
  pub skipped : (more : List (List ℕ)) → skipped_lines rules.spelled skips (lines ++ more) ≡ n
  pub knows : Knows rules stands f (drop n lines)

-- a report is looked for, and each line may be one of it
pub record IsReport {B : Type 0} (spelled : List ℕ → Option B) (skips : Bool)
    (lines : List (List ℕ)) : Type 0 where
  pub looks : skips ≡ true
  pub each : list_all (is_before_counts spelled) lines ≡ true

abbrev pub KnowsStage : {B C : Type 0} → Bool → Rulebook B → Standing B C → Stage C
    → List (List ℕ) → Type 0
KnowsStage skips rules stands stage.Report lines = IsReport rules.spelled skips lines
KnowsStage skips rules stands (stage.Text n f) lines = IsText skips rules stands n f lines

-- what a verdict says of the lines
abbrev pub SaysOn : {B : Type 0} → Bool → Rulebook B → List (List ℕ) → Verdict → Type 0
SaysOn skips rules lines v = SaysBehind rules (skipped_lines rules.spelled skips lines) lines v

-- the same verdict, its line counted on from so many, as far as 64 bits go
abbrev pub capped : ℕ → Verdict → Verdict
capped n (verdict.BadLine k) = verdict.BadLine (min (n + k) (2 ^ 64 - 1))
capped n v = v
