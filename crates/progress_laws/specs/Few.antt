-- How few entries a journal may have, by its plan.
use Rattle.std.specs.Prelude.{ℕ, ◌+◌, ◌*◌, ◌<◌, ◌≤◌, Bool, true, false, not}
use Rattle.std.specs.Prelude.{List, length, sum_by, count_by}
use Rattle.run_plan.specs.declared.plan.Plan.{Plan}
use Rattle.exec_journal.specs.declared.reply.BreachWhy.TheVariants as breach
use Rattle.exec_journal.specs.declared.reply.Reply.{Reply}
use Rattle.exec_journal.specs.declared.reply.Reply.TheVariants as reply
use Rattle.exec_journal.specs.Entry.{Entry}
use Rattle.exec_journal.specs.History.{AtEach}
use Rattle.exec_journal.specs.Settled.{one_if}
use Rattle.placed_rules.specs.Bounds.{is_noted_tick}
use Rattle.placed_rules.specs.Due.{is_dual}

-- an answer to no open request, or of a line that broke before: only a process decides how many
-- there are
abbrev pub is_noise : Reply → Bool
is_noise (reply.Stray y) = true
is_noise (reply.Breach breach.Broken) = true
is_noise _ = false

-- so many attempts the plan allows: each branch that an action uses has as many as the limit
abbrev pub most_tries : Plan → ℕ
most_tries p = sum_by (λ x. one_if x.local + one_if x.remote) p.actions * p.limit

-- beside noise, at most twelve entries for each attempt that the plan allows, one for each action,
-- and one for each lane
abbrev pub CallsAreFew : Plan → ℕ → List Entry → Type 0
CallsAreFew p lanes j =
    count_by (λ e. not (is_noise e.reply)) j ≤ 12 * most_tries p + length p.actions + lanes

-- and with a delay of n Ticks, n more for each action that uses both branches
abbrev pub DelayedCallsAreFew : Plan → ℕ → ℕ → List Entry → Type 0
DelayedCallsAreFew p n lanes j =
    count_by (λ e. not (is_noise e.reply)) j
    ≤ 12 * most_tries p + length p.actions + lanes + n * count_by is_dual p.actions

-- ---- in any lawful journal

-- beside noise, no more than that and its noted Ticks
abbrev pub CallsAreFewButTicks : Plan → ℕ → List Entry → Type 0
CallsAreFewButTicks p lanes j =
    count_by (λ e. not (is_noise e.reply)) j
    ≤ 12 * most_tries p + length p.actions + lanes + count_by is_noted_tick j

-- each entry is of one of so many lanes
abbrev pub AllWithin : ℕ → List Entry → Type 0
AllWithin lanes j = AtEach (λ _ e. e.lane < lanes) j
