-- How few Ticks are noted in a journal.
use Rattle.std.specs.Prelude.{ℕ, ◌*◌, ◌≤◌, Bool, true, false, ◌&&◌, Option, Some, None, List, count_by}
use Rattle.run_plan.specs.declared.plan.Plan.{Plan}
use Rattle.exec_journal.specs.declared.reply.Reply.{Reply}
use Rattle.exec_journal.specs.declared.reply.Reply.TheVariants as reply
use Rattle.exec_journal.specs.Entry.{Entry}
use Rattle.placed_rules.specs.Due.{is_dual, is_tick}

abbrev pub is_noted : Reply → Bool
is_noted reply.Noted = true
is_noted _ = false

abbrev pub is_noted_tick : Entry → Bool
is_noted_tick e = is_tick e.call && is_noted e.reply

-- so many are waited for
abbrev pub waited_for : Option ℕ → ℕ
waited_for None = 0
waited_for (Some n) = n

-- at most so many are noted for each action that uses both branches
abbrev pub TicksAreFew : Plan → Option ℕ → List Entry → Type 0
TicksAreFew p ticks j = count_by is_noted_tick j ≤ count_by is_dual p.actions * waited_for ticks
