-- The words of a report.
use Rattle.std.specs.Prelude.{ℕ, ◌==◌, Bool, true, option_map, option_and_then, unwrap_or, if◌then◌else◌, List, [], ◌∷◌, ◌++◌, slice_get, codes, decimal}
use Rattle.std.specs.Fmt.{signed_decimal}
use Rattle.run_plan.specs.declared.plan.Branch.{Branch}
use Rattle.run_plan.specs.declared.plan.Branch.TheVariants.{Local, Remote}
use Rattle.run_plan.specs.declared.plan.Plan.{Plan}
use Rattle.exec_journal.specs.declared.ends.Cause.{Cause}
use Rattle.exec_journal.specs.declared.ends.Cause.TheVariants as cause
use Rattle.exec_journal.specs.declared.ends.Fate.{Fate}
use Rattle.exec_journal.specs.declared.ends.Fate.TheVariants as fate
use Rattle.exec_journal.specs.declared.ends.Outcome.{Outcome}
use Rattle.exec_journal.specs.declared.ends.Outcome.TheVariants as outcome

abbrev pub branch_word : Branch → List ℕ
branch_word Local = codes "local"
branch_word Remote = codes "remote"

abbrev pub name_of : Plan → ℕ → List ℕ
name_of p a = unwrap_or (option_map (λ x. x.name) (slice_get p.actions a)) []

-- the path of the action's output
abbrev pub path_of : Plan → ℕ → ℕ → List ℕ
path_of p a o = unwrap_or (option_and_then (λ x. slice_get x.outputs o) (slice_get p.actions a)) []

abbrev pub outcome_words : Plan → Outcome → List ℕ
outcome_words p (outcome.Success b) = codes "ok " ++ branch_word b
outcome_words p (outcome.Failed b n) =
    codes "failed " ++ (branch_word b ++ (codes " " ++ signed_decimal n))
outcome_words p (outcome.Spoiled b k) = codes "broken"
outcome_words p outcome.Dropped = codes "broken"
outcome_words p (outcome.Skipped m) = codes "skipped " ++ name_of p m
outcome_words p outcome.Unsettled = codes "open"

abbrev pub cause_words : Plan → ℕ → Cause → List ℕ
cause_words p a cause.Died = codes "died"
cause_words p a cause.Tap = codes "tap"
cause_words p a cause.Frame = codes "frame"
cause_words p a cause.Long = codes "long"
cause_words p a cause.Breach = codes "breach"
cause_words p a cause.Feed = codes "feed"
cause_words p a cause.Launch = codes "launch"
cause_words p a cause.Room = codes "room"
cause_words p a cause.Large = codes "large"
cause_words p a cause.Refused = codes "refused"
cause_words p a (cause.Missing o) = codes "missing(" ++ (path_of p a o ++ codes ")")

abbrev pub fate_words : Plan → ℕ → Fate → List ℕ
fate_words p a fate.Unused = codes "unused"
fate_words p a (fate.Spoiled k) = codes "spoiled:" ++ decimal k
fate_words p a fate.Won = codes "won"
fate_words p a (fate.Dropped c n) =
    codes "dropped:" ++ (cause_words p a c ++ (codes ":" ++ decimal n))
fate_words p a fate.Lost = codes "lost"
fate_words p a fate.Idle = codes "idle"

-- a text, each of its lines behind two spaces, a bar and a space, and with a line feed at its end
abbrev pub marked_from : Bool → List ℕ → List ℕ
marked_from at_start [] = if at_start then [] else 10 ∷ []
marked_from at_start (c ∷ cs) =
    (if at_start then codes "  | " else []) ++ (c ∷ marked_from (c == 10) cs)

abbrev pub marked : List ℕ → List ℕ
marked text = marked_from true text
