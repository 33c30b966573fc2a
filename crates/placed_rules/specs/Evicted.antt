-- Lines that were given up for a group that has none.
use Rattle.std.specs.Prelude.{ℕ, ◌==◌, Bool, false, List}
use Rattle.exec_journal.specs.Entry.{Entry}
use Rattle.exec_journal.specs.declared.reply.Reply.{Reply}
use Rattle.exec_journal.specs.declared.reply.Reply.TheVariants as reply
use Rattle.exec_journal.specs.declared.reply.Why.TheVariants as why
use Rattle.exec_journal.specs.History.{ever}

abbrev pub evicts_line : ℕ → Reply → Bool
evicts_line l (reply.Kill k why.Evicted) = k == l
evicts_line l _ = false

unfoldable pub was_evicted : List Entry → ℕ → Bool
was_evicted j l = ever (λ _ e. evicts_line l e.reply) j
