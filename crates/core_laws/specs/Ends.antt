-- An entry with which one attempt ends, unless it has ended or its action has a grant.
use Rattle.std.specs.Prelude.{◌≡◌, ℕ, ◌≤◌, true, false, ◌&&◌, ◌||◌, not, is_some, List, [], ◌∷◌, Some, slice_get}
use Rattle.run_plan.specs.declared.plan.Branch.{Branch}
use Rattle.run_plan.specs.declared.plan.Plan.{Plan}
use Rattle.run_plan.specs.declared.plan.PlanAction.{PlanAction}
use Rattle.exec_journal.specs.declared.attempt.Attempt.{Attempt}
use Rattle.exec_journal.specs.Entry.{Entry}
use Rattle.exec_journal.specs.Entries.{same_attempt}
use Rattle.exec_journal.specs.Words.{granted, grant_of, commit_of}
use Rattle.exec_journal.specs.Attempts.{attempt, ended}
use Rattle.run_plan.specs.Groups.{group_of}
use Rattle.race_core.specs.declared.Won.{Won}
use Rattle.ready_order.specs.declared.ActionState.{ActionState}
use Rattle.retry_rules.specs.Counts as counts
use Rattle.core_state.specs.Machine.{counts_after, states_after}

pub record EndsOne (p : Plan) (j : List Entry) (e : Entry) (t : Attempt) : Type 0 where
  pub this : (u : Attempt) → ended (e ∷ j) u ≡ (ended j u
      || (same_attempt u t && not (granted j t.action)))
  pub none_begins : (a : ℕ) (b : Branch) → attempt (e ∷ j) a b ≡ attempt j a b
  pub grant : (a : ℕ) → grant_of (e ∷ j) a ≡ grant_of j a
  pub commit : (a : ℕ) (b : Branch) → commit_of (e ∷ j) a b ≡ commit_of j a b
  -- it was under way, where it ends now: the latest of its branch
  pub latest : ended j t ≡ false → granted j t.action ≡ false
      → t.number ≡ attempt j t.action t.branch
  pub least : 1 ≤ t.number
  pub most : t.number ≤ p.limit
  -- its action uses its branch
  pub action : PlanAction
  pub place : slice_get p.actions t.action ≡ Some action
  pub used : is_some (group_of action t.branch) ≡ true

-- ---- several attempts, one after the other

abbrev pub chain_counts : List Won → counts.Facts → List Attempt → counts.Facts
chain_counts race f [] = f
chain_counts race f (t ∷ ts) = chain_counts race (counts_after race f t) ts

abbrev pub chain_states : Plan → List Won → counts.Facts → List ActionState → List Attempt
    → List ActionState
chain_states p race f states [] = states
chain_states p race f states (t ∷ ts) = chain_states p race (counts_after race f t)
    (states_after p race f states t) ts
