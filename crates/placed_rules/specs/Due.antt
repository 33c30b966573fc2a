-- Which queued branches are due: where there are Ticks, the local branch of an action that uses both
-- branches waits for some of them.
use Rattle.std.specs.Prelude.{ℕ, suc, ◌+◌, nat_lt, nat_le, Bool, true, false, ◌&&◌, ◌||◌, not, Option, Some, None, is_some, if◌then◌else◌, List, [], ◌∷◌, length}
use Rattle.run_plan.specs.declared.plan.Branch.{Branch}
use Rattle.run_plan.specs.declared.plan.Branch.TheVariants.{Local, Remote}
use Rattle.run_plan.specs.declared.plan.Plan.{Plan}
use Rattle.run_plan.specs.declared.plan.PlanAction.{PlanAction}
use Rattle.list_lemmas.specs.Options.{or_else}
use Rattle.exec_journal.specs.declared.attempt.Attempt.{Attempt}
use Rattle.exec_journal.specs.declared.call.Call.{Call}
use Rattle.exec_journal.specs.declared.call.Call.TheVariants as call
use Rattle.exec_journal.specs.Entry.{Entry}
use Rattle.exec_journal.specs.declared.reply.Reply.{Reply}
use Rattle.exec_journal.specs.declared.reply.Reply.TheVariants as reply
use Rattle.exec_journal.specs.History.{each}
use Rattle.exec_journal.specs.Entries.{attempt_of}
use Rattle.exec_journal.specs.Words.{granted}
use Rattle.exec_journal.specs.Attempts.{attempt, dropped}
use Rattle.exec_journal.specs.Settled.{settled, ready, uses, queued, earliest}
use Rattle.exec_journal.specs.Rules.{is_over}

-- ---- Ticks

abbrev pub is_tick : Call → Bool
is_tick call.Tick = true
is_tick _ = false

-- a Tick that came after the action's inputs were made
abbrev pub tick_after : Plan → PlanAction → List Entry → Entry → Option ℕ
tick_after p x before e = if is_tick e.call && ready p before x then Some e.lane else None

unfoldable pub ticks_since : Plan → List Entry → PlanAction → ℕ
ticks_since p j x = length (each (tick_after p x) j)

abbrev pub is_dual : PlanAction → Bool
is_dual x = is_some x.local && is_some x.remote

-- ---- which branch is due

-- the local branch of an action that uses both waits for n Ticks, or until the remote one is
-- dropped
abbrev pub has_waited : Plan → ℕ → List Entry → ℕ → PlanAction → Bool
has_waited p n j a x =
    not (is_dual x) || (nat_le n (ticks_since p j x) || dropped p j a Remote)

-- queued; and with Ticks a local branch has waited for them
abbrev pub is_due : Plan → Option ℕ → List Entry → ℕ → Branch → PlanAction → Bool
is_due p None j a b x = queued p j a b x
is_due p (Some n) j a Local x = queued p j a Local x && has_waited p n j a x
is_due p (Some n) j a Remote x = queued p j a Remote x

-- ---- which is next

abbrev pub delayed_in : Plan → ℕ → List Entry → ℕ → ℕ → PlanAction → Option Attempt
delayed_in p n j g a x =
    if uses x Local g && is_due p (Some n) j a Local x
    then Some (attempt_of a Local (attempt j a Local + 1))
    else if uses x Remote g && is_due p (Some n) j a Remote x
    then Some (attempt_of a Remote (attempt j a Remote + 1))
    else None

abbrev pub delayed_from : Plan → ℕ → List Entry → ℕ → ℕ → List PlanAction → Option Attempt
delayed_from p n j g a [] = None
delayed_from p n j g a (x ∷ xs) =
    or_else (delayed_in p n j g a x) (delayed_from p n j g (a + 1) xs)

-- the next attempt of the least action whose branch in the group is queued and has waited
unfoldable pub delayed_earliest : Plan → ℕ → List Entry → ℕ → Option Attempt
delayed_earliest p n j g = delayed_from p n j g 0 p.actions

-- the next attempt of the least action whose branch in the group is due
abbrev pub next_due : Plan → Option ℕ → List Entry → ℕ → Option Attempt
next_due p None j g = earliest p j g
next_due p (Some n) j g = delayed_earliest p n j g

-- ---- the reply to Tick

-- the action's local branch waits for more Ticks
abbrev pub waits_for_tick : Plan → ℕ → List Entry → ℕ → PlanAction → Bool
waits_for_tick p n j a x =
    (is_dual x && ready p j x)
    && ((not (settled p j a) && not (granted j a)) && nat_lt (ticks_since p j x) n)

-- so does one of the actions from a on
abbrev pub some_waits : Plan → ℕ → List Entry → ℕ → List PlanAction → Bool
some_waits p n j a [] = false
some_waits p n j a (x ∷ xs) = waits_for_tick p n j a x || some_waits p n j (suc a) xs

abbrev pub tick_reply : Plan → ℕ → List Entry → Reply
tick_reply p n j = if is_over p j then reply.Stop
    else (if some_waits p n j 0 p.actions then reply.Noted else reply.Idle)

-- where no lane makes Ticks it is that of the plan's own berths, as to each other call
abbrev pub ticked : Plan → Option ℕ → List Entry → Reply
ticked p None j = reply.Noted
ticked p (Some n) j = tick_reply p n j
