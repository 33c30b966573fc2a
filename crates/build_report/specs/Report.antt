-- The report of a run, and its status.
use Rattle.std.specs.Prelude.{ℕ, suc, Bool, true, false, Option, option_map, unwrap_or, if◌then◌else◌, List, [], ◌∷◌, ◌++◌, length, count_by, codes, decimal}
use Rattle.std.specs.List.{list_all}
use Rattle.run_plan.specs.declared.plan.Plan.{Plan}
use Rattle.exec_journal.specs.declared.ends.ActionEnd.{ActionEnd}
use Rattle.exec_journal.specs.declared.ends.Outcome.{Outcome}
use Rattle.exec_journal.specs.declared.ends.Outcome.TheVariants as outcome
use Rattle.exec_journal.specs.declared.call.Answer.{Answer}
use Rattle.exec_journal.specs.Entry.{Entry}
use Rattle.exec_journal.specs.Words.{grant_of}
use Rattle.exec_journal.specs.Outcomes.{is_ok, winning_answer}
use Rattle.exec_journal.specs.Ends.{ends_of}
use Rattle.build_report.specs.Words.{name_of, outcome_words, fate_words, marked}

abbrev pub answer_text : Option Answer → List ℕ
answer_text o = unwrap_or (option_map (λ x. x.text) o) []

-- the text of the winner's answer, where there is one
abbrev pub winner_text : List Entry → ℕ → List ℕ
winner_text j a = answer_text (winning_answer j (grant_of j a))

-- the name, the outcome and both fates
abbrev pub end_line : Plan → ℕ → ActionEnd → List ℕ
end_line p a e =
    name_of p a ++ (codes " " ++ (outcome_words p e.outcome
    ++ (codes " local=" ++ (fate_words p a e.local
    ++ (codes " remote=" ++ (fate_words p a e.remote
    ++ (10 ∷ [])))))))

-- and then the text of the winner's answer
abbrev pub action_lines : Plan → List Entry → ℕ → ActionEnd → List ℕ
action_lines p j a e = end_line p a e ++ marked (winner_text j a)

-- those of the actions from a on
abbrev pub lines_from : Plan → List Entry → ℕ → List ActionEnd → List ℕ
lines_from p j a [] = []
lines_from p j a (e ∷ es) = action_lines p j a e ++ lines_from p j (suc a) es

-- the same by the winners' answers
abbrev pub lines_told : Plan → ℕ → List ActionEnd → List (Option Answer) → List ℕ
lines_told p a (e ∷ es) (x ∷ xs) =
    (end_line p a e ++ marked (answer_text x)) ++ lines_told p (suc a) es xs
lines_told p a _ _ = []

-- ---- the last line

abbrev pub is_success : ActionEnd → Bool
is_success e = is_ok e.outcome

abbrev pub is_failure : Outcome → Bool
is_failure (outcome.Failed b n) = true
is_failure _ = false

abbrev pub has_failed : ActionEnd → Bool
has_failed e = is_failure e.outcome

abbrev pub is_break : Outcome → Bool
is_break (outcome.Spoiled b k) = true
is_break outcome.Dropped = true
is_break _ = false

abbrev pub is_broken : ActionEnd → Bool
is_broken e = is_break e.outcome

abbrev pub is_skip : Outcome → Bool
is_skip (outcome.Skipped m) = true
is_skip _ = false

abbrev pub is_skipped : ActionEnd → Bool
is_skipped e = is_skip e.outcome

abbrev pub count_of : (ActionEnd → Bool) → List ActionEnd → ℕ
count_of test es = count_by test es

abbrev pub totals_line : ℕ → ℕ → ℕ → ℕ → ℕ → List ℕ
totals_line all ok failed broken skipped =
    codes "actions="
    ++ (decimal all ++ (codes " ok=" ++ (decimal ok ++ (codes " failed=" ++ (decimal failed
    ++ (codes " broken="
    ++ (decimal broken ++ (codes " skipped=" ++ (decimal skipped ++ (10 ∷ []))))))))))

abbrev pub last_line : List ActionEnd → List ℕ
last_line es = totals_line (length es) (count_of is_success es) (count_of has_failed es)
    (count_of is_broken es) (count_of is_skipped es)

-- a short report is the last line alone
abbrev pub report_by : Plan → List Entry → Bool → List ActionEnd → List ℕ
report_by p j short es = (if short then [] else lines_from p j 0 es) ++ last_line es

abbrev pub report_of : Plan → List Entry → Bool → List ℕ
report_of p j short = report_by p j short (ends_of p j)

-- 0 where every outcome is a success, else 1
abbrev pub status_of : Plan → List Entry → ℕ
status_of p j = if list_all is_success (ends_of p j) then 0 else 1
