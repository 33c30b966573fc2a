-- What the table keeps of each action, and what a call makes of it.
use Rattle.std.specs.Prelude.{ℕ, Bool, Option, Some, None, option_map, option_and_then, List, length, slice_get, replicate}
use Rattle.run_plan.specs.declared.plan.Branch.{Branch}
use Rattle.run_plan.specs.declared.plan.Plan.{Plan}
use Rattle.list_lemmas.specs.Options.{or_else}
use Rattle.list_lemmas.specs.Places.{update}
use Rattle.race_core.specs.declared.ClaimReply.{ClaimReply}
use Rattle.race_core.specs.declared.ClaimReply.TheVariants.{Granted, Lost}
use Rattle.race_core.specs.declared.Won.{Won}

abbrev pub open_row : Won
open_row = record { winner = None; committed = None }

abbrev pub new_rows : Plan → List Won
new_rows p = replicate (length p.actions) open_row

-- the branch to which the action was granted
abbrev pub winner_of : List Won → ℕ → Option Branch
winner_of rows a = option_and_then (λ x. x.winner) (slice_get rows a)

-- lost exactly where the action has a winner, which is the other branch where the claiming one
-- isn't
abbrev pub claim_answer : Option Branch → ClaimReply
claim_answer None = Granted
claim_answer (Some b) = Lost

-- the winner stays
abbrev pub claimed_row : Branch → Won → Won
claimed_row b x = record { winner = or_else x.winner (Some b); committed = x.committed }

abbrev pub with_claim : List Won → ℕ → Branch → List Won
with_claim rows a b = update (claimed_row b) rows a

abbrev pub committed_row : Bool → Won → Won
committed_row done x = record { winner = x.winner; committed = Some done }

abbrev pub with_commit : List Won → ℕ → Bool → List Won
with_commit rows a done = update (committed_row done) rows a
