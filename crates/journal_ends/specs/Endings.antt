-- How an action ends but for its producers, and then with them.
use Rattle.std.specs.Prelude.{ℕ, suc, Bool, true, false, ◌&&◌, ◌||◌, Option, Some, None, is_some, unwrap_or, if◌then◌else◌, List, [], ◌∷◌, ◌++◌}
use Rattle.run_plan.specs.declared.plan.Branch.{Branch}
use Rattle.run_plan.specs.declared.plan.Branch.TheVariants.{Local, Remote}
use Rattle.exec_journal.specs.declared.call.CommitEnd.{CommitEnd}
use Rattle.exec_journal.specs.declared.ends.ActionEnd.{ActionEnd}
use Rattle.exec_journal.specs.declared.ends.Cause.{Cause}
use Rattle.exec_journal.specs.declared.ends.Fate.{Fate}
use Rattle.exec_journal.specs.declared.ends.Fate.TheVariants as fate
use Rattle.journal_lookback.specs.declared.grant.Grant.{Grant}
use Rattle.journal_lookback.specs.declared.grant.GrantKind.{GrantKind}
use Rattle.journal_lookback.specs.declared.grant.GrantKind.TheVariants as prize
use Rattle.journal_ends.specs.declared.replay.ActionFact.{ActionFact}
use Rattle.journal_ends.specs.declared.replay.BranchFact.{BranchFact}
use Rattle.exec_journal.specs.Entries.{same_branch}
use Rattle.journal_lookback.specs.Lookback.{end_now}
use Rattle.run_plan.specs.declared.plan.Plan.{Plan}
use Rattle.run_plan.specs.declared.plan.PlanAction.{PlanAction}
use Rattle.exec_journal.specs.declared.ends.Outcome.{Outcome}
use Rattle.exec_journal.specs.declared.ends.Outcome.TheVariants as outcome
use Rattle.exec_journal.specs.declared.ends.Standing.{Standing}
use Rattle.exec_journal.specs.declared.ends.Standing.TheVariants.{Open, Succeeded, Unsuccessful}
use Rattle.exec_journal.specs.Entry.{Entry}
use Rattle.journal_ends.specs.declared.endings.Verdict.{Verdict}
use Rattle.exec_journal.specs.Words.{grant_of}
use Rattle.exec_journal.specs.Settled.{all_dropped, is_starved}
use Rattle.exec_journal.specs.Outcomes.{grant_outcome, commit_outcome, fate_after, won_or_spoiled, lost_fate, skipped}

abbrev pub verdict_of : Plan → List Entry → ℕ → PlanAction → Verdict
verdict_of p j a x = record {
  own = grant_outcome j (grant_of j a);
  dropped = all_dropped p j a x;
  local = fate_after p j a Local x.local;
  remote = fate_after p j a Remote x.remote;
}

-- those of the actions from a on
abbrev pub verdicts_from : Plan → List Entry → ℕ → List PlanAction → List Verdict
verdicts_from p j a [] = []
verdicts_from p j a (x ∷ xs) = verdict_of p j a x ∷ verdicts_from p j (suc a) xs

abbrev pub standing_of : Outcome → Standing
standing_of (outcome.Success b) = Succeeded
standing_of _ = Unsuccessful

abbrev pub standing_own : Option Outcome → Standing → Standing
standing_own (Some o) s = standing_of o
standing_own None s = s

abbrev pub standing_by : Verdict → PlanAction → List Standing → Standing
standing_by v x earlier =
    standing_own v.own (if v.dropped || is_starved x earlier then Unsuccessful else Open)

abbrev pub outcome_by : Verdict → PlanAction → List Standing → Outcome
outcome_by v x standings =
    unwrap_or v.own
    (if v.dropped then outcome.Dropped else if is_starved x standings then skipped standings x
    else outcome.Unsettled)

-- ---- by what was gathered

abbrev pub commit_for : ActionFact → Branch → Option CommitEnd
commit_for f Local = f.local.commit
commit_for f Remote = f.remote.commit

abbrev pub prize_outcome : Branch → Option CommitEnd → GrantKind → Option Outcome
prize_outcome b c (prize.Exit n) = Some (outcome.Failed b n)
prize_outcome b c prize.Files = commit_outcome b c
prize_outcome b c prize.Nothing = None

abbrev pub own_by : ActionFact → Option Grant → Option Outcome
own_by f (Some g) = prize_outcome g.attempt.branch (commit_for f g.attempt.branch) g.prize
own_by f None = None

abbrev pub is_gone : Option ℕ → Option Cause → Bool
is_gone None e = true
is_gone (Some g) e = is_some e

abbrev pub is_won_by : Branch → Option Grant → Bool
is_won_by b (Some g) = same_branch g.attempt.branch b
is_won_by b None = false

abbrev pub fate_by : ℕ → Option ℕ → Branch → Option Grant → BranchFact → Option Cause → Fate
fate_by limit None b g f e = fate.Unused
fate_by limit (Some k) b g f e =
    if is_won_by b g then won_or_spoiled f.commit else lost_fate limit e f.sent

-- with the causes of the lines of its last attempts, where those have ended
abbrev pub verdict_by : ℕ → ActionFact → PlanAction → Option Cause → Option Cause → Verdict
verdict_by limit f x local_line remote_line = record {
  own = own_by f f.grant;
  dropped = is_gone x.local (end_now f.local.track (is_some f.grant) local_line)
      && is_gone x.remote (end_now f.remote.track (is_some f.grant) remote_line);
  local = fate_by limit x.local Local f.grant f.local
      (end_now f.local.track (is_some f.grant) local_line);
  remote = fate_by limit x.remote Remote f.grant f.remote
      (end_now f.remote.track (is_some f.grant) remote_line);
}

-- the standings of all actions, one by one
abbrev pub standings_through : List Standing → List Verdict → List PlanAction → List Standing
standings_through earlier (v ∷ vs) (x ∷ xs) =
    standings_through (earlier ++ standing_by v x earlier ∷ []) vs xs
standings_through earlier _ _ = earlier

abbrev pub end_by : Verdict → PlanAction → List Standing → ActionEnd
end_by v x standings =
    record { outcome = outcome_by v x standings; local = v.local; remote = v.remote }

abbrev pub ends_through : List Standing → List Verdict → List PlanAction → List ActionEnd
ends_through standings (v ∷ vs) (x ∷ xs) = end_by v x standings ∷ ends_through standings vs xs
ends_through standings _ _ = []
