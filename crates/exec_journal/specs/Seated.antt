-- Which group a line runs: that of the attempt for which it was launched.
use Rattle.std.specs.Prelude.{ℕ, Bool, ◌&&◌, ◌||◌, Option, unwrap_or, option_map, option_and_then, List, slice_get}
use Rattle.run_plan.specs.declared.plan.Kind.{Kind}
use Rattle.run_plan.specs.declared.plan.Kind.TheVariants as kind
use Rattle.run_plan.specs.declared.plan.Plan.{Plan}
use Rattle.run_plan.specs.Groups.{group_of, has_cancellation, is_remote}
use Rattle.exec_journal.specs.declared.attempt.Attempt.{Attempt}
use Rattle.exec_journal.specs.Entry.{Entry}
use Rattle.exec_journal.specs.Words.{launch_of, has_greeted}

-- the group that runs the attempt, where its action uses the branch
abbrev pub group_for : Plan → Attempt → Option ℕ
group_for p t = option_and_then (λ x. group_of x t.branch) (slice_get p.actions t.action)

-- the kind of a group, where it is one of the plan's
abbrev pub kind_in : Plan → Option ℕ → Kind
kind_in p g = unwrap_or
    (option_map (λ x. x.kind)
    (option_and_then (λ k. slice_get p.groups k) g)) kind.Single

abbrev pub kind_for : Plan → Attempt → Kind
kind_for p t = kind_in p (group_for p t)

-- the group of a line that was launched
unfoldable pub group_on : Plan → List Entry → ℕ → Option ℕ
group_on p j l = option_and_then (λ x. group_for p x.1) (launch_of j l)

abbrev pub line_group : Plan → List Entry → ℕ → ℕ
line_group p j l = unwrap_or (group_on p j l) 0

abbrev pub line_kind : Plan → List Entry → ℕ → Kind
line_kind p j l = kind_in p (group_on p j l)

-- the line's group has cancellation, or it is an executor's line and has greeted
abbrev pub may_be_asked : Plan → List Entry → ℕ → Bool
may_be_asked p j l =
    has_cancellation p (line_group p j l) || (is_remote (line_kind p j l) && has_greeted j l)
