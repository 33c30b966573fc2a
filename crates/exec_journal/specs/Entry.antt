-- An entry of the journal: a call of a lane with its reply.
use Rattle.plain_values.specs.declared.entry.Entry as plain
use Rattle.exec_journal.specs.declared.call.Call.{Call}
use Rattle.exec_journal.specs.declared.reply.Reply.{Reply}

abbrev pub Entry : Type 0
Entry = plain.Entry Call Reply
