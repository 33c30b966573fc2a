-- Whether actions succeed, as it is gathered by going through the journal once.
use Rattle.std.specs.Prelude.{◌≡◌, ℕ, Bool, true, false, Option, Some, None, option_map, unwrap_or, List, slice_get}
use Rattle.std.specs.Option.{option_or}
use Rattle.run_plan.specs.declared.plan.Branch.{Branch}
use Rattle.run_plan.specs.declared.plan.Branch.TheVariants.{Local, Remote}
use Rattle.exec_journal.specs.declared.ends.ActionEnd.{ActionEnd}
use Rattle.exec_journal.specs.Entry.{Entry}
use Rattle.exec_journal.specs.declared.call.Call.{Call}
use Rattle.exec_journal.specs.declared.call.Call.TheVariants as call
use Rattle.exec_journal.specs.declared.call.CommitEnd.{CommitEnd}
use Rattle.exec_journal.specs.declared.call.CommitEnd.TheVariants as commit
use Rattle.exec_journal.specs.Entries.{committed_in}
use Rattle.exec_journal.specs.Words.{grant_of, commit_of}
use Rattle.exec_journal.specs.Outcomes.{is_ok}
use Rattle.journal_lookback.specs.declared.grant.Grant.{Grant}
use Rattle.journal_lookback.specs.declared.grant.GrantKind.{GrantKind}
use Rattle.journal_lookback.specs.declared.grant.GrantKind.TheVariants as prize
use Rattle.journal_ends.specs.declared.successes.Award.{Award}
use Rattle.journal_ends.specs.declared.successes.Award.TheVariants as award
use Rattle.journal_ends.specs.declared.successes.Chance.{Chance}
use Rattle.journal_lookback.specs.Lookback.{grants, grant_fact}

abbrev pub has_succeeded : ActionEnd → Bool
has_succeeded e = is_ok e.outcome

-- ---- what is kept of an action

abbrev pub award_by : Branch → GrantKind → Award
award_by b prize.Files = award.FilesOf b
award_by b _ = award.NoFiles

abbrev pub award_of : Grant → Award
award_of g = award_by g.attempt.branch g.prize

abbrev pub is_done : CommitEnd → Bool
is_done commit.Done = true
is_done (commit.PlaceFault k) = false

abbrev pub done_for : Chance → Branch → Option Bool
done_for c Local = c.local
done_for c Remote = c.remote

abbrev pub succeeds_by : Chance → Option Award → Bool
succeeds_by c (Some (award.FilesOf b)) = unwrap_or (done_for c b) false
succeeds_by c _ = false

abbrev pub succeeds : Chance → Bool
succeeds c = succeeds_by c c.award

abbrev pub new_chance : Chance
new_chance = record { award = None; local = None; remote = None }

-- ---- after an entry

-- the action that the call claims or has committed
abbrev pub claimed_action : Call → Option ℕ
claimed_action (call.Claim a b t f) = Some a
claimed_action (call.Committed a b how) = Some a
claimed_action _ = None

abbrev pub chance_after : ℕ → Entry → Chance → Chance
chance_after a e c = record {
  award = option_or c.award (option_map award_of (option_map grant_fact (grants a e)));
  local = option_or c.local (option_map is_done (committed_in a Local e.call));
  remote = option_or c.remote (option_map is_done (committed_in a Remote e.call));
}

-- ---- it is what the journal says

abbrev pub chance_of : List Entry → ℕ → Chance
chance_of j a = record {
  award = option_map award_of (option_map grant_fact (grant_of j a));
  local = option_map is_done (commit_of j a Local);
  remote = option_map is_done (commit_of j a Remote);
}

pub record AreChances (cs : List Chance) (j : List Entry) : Type 0 where
  pub each : (a : ℕ) (c : Chance) → slice_get cs a ≡ Some c → c ≡ chance_of j a
