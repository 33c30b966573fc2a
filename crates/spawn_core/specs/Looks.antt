-- The reply to a Look, as the table of files has it.
use Rattle.std.specs.Prelude.{◌≡◌, ℕ}
use Rattle.exec_journal.specs.declared.call.Wanted.{Wanted}
use Rattle.exec_journal.specs.declared.call.Wanted.TheVariants as look
use Rattle.exec_journal.specs.declared.reply.Reply.{Reply}
use Rattle.exec_journal.specs.declared.reply.Reply.TheVariants as reply
use Rattle.core_tables.specs.declared.lanes.Owed.{Owed}
use Rattle.core_tables.specs.declared.lanes.Owed.TheVariants as order
use Rattle.core_state.specs.declared.state.State.{State}
use Rattle.core_state.specs.Machine.{order_at}
use Rattle.core_tables.specs.Slots.{Facts, Told, rows_of, slot_at}

-- of the answer that is to be gathered
abbrev pub ToldGather : Facts → Owed → ℕ → Reply → Type 0
ToldGather f (order.Gather l n t e v) o r = Told (slot_at (rows_of t.branch f) t.action o) r
ToldGather f _ o r = r ≡ reply.NoFile

abbrev pub ToldLook : State → Facts → ℕ → Wanted → Reply → Type 0
ToldLook s f lane (look.Made a o) r = Told (slot_at f.made a o) r
ToldLook s f lane (look.Answered l n o) r = ToldGather f (order_at s lane) o r
