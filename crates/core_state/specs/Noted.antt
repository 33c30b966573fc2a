-- What each entry makes of what is kept of its lane and of its berth's greeting.
use Rattle.std.specs.Prelude.{ℕ, ◌/◌, ◌||◌, if◌then◌else◌}
use Rattle.exec_journal.specs.declared.call.Call.{Call}
use Rattle.exec_journal.specs.declared.reply.Reply.{Reply}
use Rattle.exec_journal.specs.Entries.{is_halt, is_kept}
use Rattle.core_state.specs.declared.state.State.{State}
use Rattle.core_tables.specs.Greetings.{with_said}
use Rattle.core_tables.specs.Lanes.{noted}

abbrev pub noted_after : State → ℕ → Call → Reply → State
noted_after s lane c x = record s {
  lanes = noted s.lanes lane c x;
  greetings = with_said s.greetings (lane / 2) c x;
  halted = is_halt c || s.halted;
}

abbrev pub noted_if_kept : State → ℕ → Call → Reply → State
noted_if_kept s lane c x = if is_kept x then noted_after s lane c x else s
