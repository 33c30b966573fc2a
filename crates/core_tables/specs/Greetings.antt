-- What the last line of each berth has said.
use Rattle.std.specs.Prelude.{ℕ, nat_lt, Bool, true, false, ◌||◌, Option, Some, None, if◌then◌else◌, List}
use Rattle.exec_journal.specs.declared.call.Call.{Call}
use Rattle.exec_journal.specs.declared.call.Call.TheVariants as call
use Rattle.exec_journal.specs.Entry.{Entry}
use Rattle.exec_journal.specs.declared.reply.Reply.{Reply}
use Rattle.exec_journal.specs.declared.reply.Reply.TheVariants as reply
use Rattle.exec_journal.specs.Words.{last_line, has_spoken, has_greeted}
use Rattle.list_lemmas.specs.Places.{update}
use Rattle.core_tables.specs.declared.greetings.Greeting.{Greeting}

abbrev pub silent : Greeting
silent = record { spoken = false; greeted = false }

abbrev pub is_greeted : Reply → Bool
is_greeted reply.Greeted = true
is_greeted _ = false

abbrev pub is_answer : Call → Bool
is_answer (call.Answer l y) = true
is_answer _ = false

-- a new line has said nothing
abbrev pub unless_launched : Reply → Greeting → Greeting
unless_launched (reply.Launch l a b t) x = silent
unless_launched _ x = x

abbrev pub said_by : Call → Reply → Greeting → Greeting
said_by (call.Answer l y) r x = record { spoken = true; greeted = is_greeted r || x.greeted }
said_by _ r x = unless_launched r x

abbrev pub with_said : List Greeting → ℕ → Call → Reply → List Greeting
with_said rows w c r = update (said_by c r) rows w

-- ---- by the journal

abbrev pub greeting_of : List Entry → Option ℕ → Greeting
greeting_of j (Some l) = record { spoken = has_spoken j l; greeted = has_greeted j l }
greeting_of j None = silent

-- of a berth, which is one of so many
unfoldable pub greeting_in : ℕ → List Entry → ℕ → Option Greeting
greeting_in seats j w = if nat_lt w seats then Some (greeting_of j (last_line j w)) else None
