-- The rule of berths that groups have of their own, with Ticks and without.
use Rattle.std.specs.Prelude.{ℕ, suc, ◌*◌, ◌/◌, ◌==◌, nat_lt, Bool, Option, Some, None, if◌then◌else◌, List}
use Rattle.run_plan.specs.declared.plan.Plan.{Plan}
use Rattle.run_plan.specs.Groups.{berths, kind_of}
use Rattle.exec_journal.specs.declared.call.Call.{Call}
use Rattle.exec_journal.specs.declared.call.Call.TheVariants as call
use Rattle.exec_journal.specs.Entry.{Entry}
use Rattle.exec_journal.specs.declared.reply.Reply.{Reply}
use Rattle.exec_journal.specs.declared.reply.Reply.TheVariants as reply
use Rattle.exec_journal.specs.Words.{last_line}
use Rattle.exec_journal.specs.Kept.{group_at}
use Rattle.exec_journal.specs.Lawful.{plain_reply}
use Rattle.exec_journal.specs.Rules.{ask_of, launches_of, is_over, leave}
use Rattle.core_contract.specs.Disciplines.{own_rule}
use Rattle.placed_rules.specs.Due.{delayed_earliest, tick_reply}

-- ---- the reply to Ask, on the proxy lane of the berth w

abbrev pub ask_delayed : Plan → ℕ → List Entry → ℕ → ℕ → Option ℕ → Reply
ask_delayed p n j w g last =
    ask_of p j w (kind_of p w) g last (delayed_earliest p n j g)
    (launches_of p j w g (delayed_earliest p n j g) last)

-- behind the berths of the plan there is one more, of no group: it is never given a line
abbrev pub delayed_seats : Plan → ℕ
delayed_seats p = suc (berths p)

abbrev pub ask_idly : Plan → List Entry → Option ℕ → Reply
ask_idly p j last = if is_over p j then leave j last else reply.Idle

abbrev pub ask_at : Plan → ℕ → List Entry → ℕ → Reply
ask_at p n j w = if nat_lt w (berths p) then ask_delayed p n j w (group_at p w) (last_line j w)
    else ask_idly p j (last_line j w)

-- the proxy lane of that berth makes the Ticks
abbrev pub is_ticker : Plan → ℕ → Bool
is_ticker p lane = lane == 2 * berths p

-- ---- the rule

abbrev pub delayed_rule : Plan → ℕ → List Entry → ℕ → Call → Reply
delayed_rule p n j lane call.Ask = ask_at p n j (lane / 2)
delayed_rule p n j lane call.Tick = tick_reply p n j
delayed_rule p n j lane c = plain_reply p j lane c

-- without Ticks, the plan's own
abbrev pub own_rule_with : Plan → Option ℕ → List Entry → ℕ → Call → Reply
own_rule_with p None j lane c = own_rule p j lane c
own_rule_with p (Some n) j lane c = delayed_rule p n j lane c
