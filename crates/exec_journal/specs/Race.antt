-- At most one branch of an action wins, and nothing else commits.
use Rattle.std.specs.Prelude.{◌≡◌, ℕ, ◌==◌, Bool, true, false, ◌&&◌, not, List}
use Rattle.run_plan.specs.declared.plan.Branch.{Branch}
use Rattle.exec_journal.specs.Entry.{Entry}
use Rattle.exec_journal.specs.declared.call.Call.{Call}
use Rattle.exec_journal.specs.declared.call.Call.TheVariants as call
use Rattle.exec_journal.specs.declared.reply.Reply.{Reply}
use Rattle.exec_journal.specs.declared.reply.Reply.TheVariants as reply
use Rattle.exec_journal.specs.History.{AtEach, ever}
use Rattle.exec_journal.specs.Words.{granted}
use Rattle.exec_journal.specs.Scripts.{is_commit_of}

-- this lane was granted the files of the branch
unfoldable pub has_grant_of : List Entry → ℕ → ℕ → Branch → Bool
has_grant_of j lane a b = ever (λ _ e. (e.lane == lane) && is_commit_of a b e.call e.reply) j

abbrev pub commits : ℕ → Call → Bool
commits a (call.Committed c b how) = c == a
commits a _ = false

-- some Committed of the action stands there
unfoldable pub committed : List Entry → ℕ → Bool
committed j a = ever (λ _ e. commits a e.call) j

-- a grant comes where the action has none yet; a Committed of a branch comes after the same lane
-- was granted its files, and where no Committed of the action stands yet
abbrev pub race_at : List Entry → ℕ → Call → Reply → Bool
race_at j lane (call.Claim a b t f) reply.Granted = not (granted j a)
race_at j lane (call.Committed a b how) r = has_grant_of j lane a b && not (committed j a)
race_at j lane _ _ = true

abbrev pub Race : List Entry → Type 0
Race j = AtEach (λ before e. race_at before e.lane e.call e.reply ≡ true) j
