-- A report that stands before the text of a journal, as `journal_run` puts them, and what is then
-- judged of both.
use Rattle.std.specs.Prelude.{◌≡◌, ℕ, ◌+◌, ◌<◌, ◌≤◌, nat_eq, nat_lt, Bool, true, false, not, ◌&&◌, ◌||◌, if◌then◌else◌, List, [], ◌∷◌, length, drop, codes, is_some, Option, Some, None}
use Rattle.std.specs.Char.{is_ascii_digit}
use Rattle.std.specs.List.{prefix_len, starts_with}
use Rattle.journal_text.specs.Lines.{entry_of, lines_of, plan_of}
use Rattle.journal_text.specs.Options.{◌>>=◌}
use Rattle.journal_replay.specs.Legality.{Legality, Rulebook, of_plans}
use Rattle.journal_replay.specs.Verdicts.{Says, limit}
use Rattle.journal_replay.specs.declared.verdict.Verdict.{Verdict}
use Rattle.journal_replay.specs.declared.verdict.Verdict.TheVariants as verdict

-- ---- the last line of a report

abbrev pub digits : List ℕ → ℕ
digits text = prefix_len is_ascii_digit text

-- what stands behind this word and a number, where they come first
abbrev pub after_count : List ℕ → List ℕ → Option (List ℕ)
after_count word text =
    if starts_with nat_eq text word && nat_lt 0 (digits (drop (length word) text))
    then Some (drop (digits (drop (length word) text)) (drop (length word) text)) else None

-- what stands behind the counts of a report's last line
abbrev pub after_counts : List ℕ → Option (List ℕ)
after_counts line = after_count (codes "actions=") line >>= after_count (codes " ok=")
    >>= after_count (codes " failed=") >>= after_count (codes " broken=")
    >>= after_count (codes " skipped=")

abbrev pub is_nothing : Option (List ℕ) → Bool
is_nothing (Some []) = true
is_nothing _ = false

-- `actions=A ok=B failed=C broken=D skipped=E`
abbrev pub has_counts : List ℕ → Bool
has_counts line = is_nothing (after_counts line)

-- ---- the lines of a report

-- the line spells what a text may begin with, or an entry
abbrev pub is_journal_line : {B : Type 0} → (List ℕ → Option B) → List ℕ → Bool
is_journal_line spelled line = is_some (spelled line) || is_some (entry_of line)

-- a line of a report but for the last one
abbrev pub is_before_counts : {B : Type 0} → (List ℕ → Option B) → List ℕ → Bool
is_before_counts spelled line = not (is_journal_line spelled line) && not (has_counts line)

abbrev pub ends_report : {B : Type 0} → (List ℕ → Option B) → List (List ℕ) → Bool
ends_report spelled [] = false
ends_report spelled (line ∷ lines) = not (is_journal_line spelled line) && has_counts line

-- How many lines the report has that stands before a text: those up to the first line with the
-- counts, if none of them spells a basis or an entry. Where it is 0, there is no report.
abbrev pub report_lines_by : {B : Type 0} → (List ℕ → Option B) → List (List ℕ) → ℕ
report_lines_by spelled lines =
    let n = prefix_len (is_before_counts spelled) lines in
    if ends_report spelled (drop n lines) then n + 1 else 0

-- before the text of a plan on its own berths
abbrev pub report_lines : List (List ℕ) → ℕ
report_lines lines = report_lines_by plan_of lines

-- ---- the verdict

-- the verdict on the text behind so many lines: its own, whose line is counted from the first of all
abbrev pub shifted : ℕ → Verdict → Verdict
shifted n (verdict.BadLine k) = verdict.BadLine (n + k)
shifted n v = v

-- of the lines behind these, a verdict says so
pub record SaysBehind {B : Type 0} (rules : Rulebook B) (n : ℕ) (lines : List (List ℕ))
    (v : Verdict) : Type 0 where
  pub text : Verdict
  pub says : Says rules (drop n lines) text
  pub verdict_is : v ≡ shifted n text

-- what a verdict says of bytes that may begin with a report
abbrev pub JudgesInputBy : {B : Type 0} → Rulebook B → List ℕ → Verdict → Type 0
JudgesInputBy rules bytes verdict.TooLong = limit < length bytes
JudgesInputBy rules bytes v = (length bytes ≤ limit)
    × SaysBehind rules (report_lines_by rules.spelled (lines_of bytes)) (lines_of bytes) v

-- on the plan's own berths
abbrev pub JudgesInput : Legality → List ℕ → Verdict → Type 0
JudgesInput makes bytes v = JudgesInputBy (of_plans makes) bytes v
