-- Whether a journal is legal, as a computation.
use Rattle.std.specs.Prelude.{Bool, true, ◌&&◌, List, [], ◌∷◌}
use Rattle.run_plan.specs.declared.plan.Plan.{Plan}
use Rattle.exec_journal.specs.Entry.{Entry}
use Rattle.exec_journal.specs.Entries.{is_kept}
use Rattle.exec_journal.specs.Rules.{rule}
use Rattle.exec_journal.specs.Same.{same_reply}
use Rattle.exec_journal.specs.Scripts.{script}

-- the call was in its lane's script, its reply is the rule's, and the entry is kept
abbrev pub is_legal_entry : Plan → List Entry → Entry → Bool
is_legal_entry p j e =
    script p j e.lane e.call && (same_reply e.reply (rule p j e.lane e.call) && is_kept e.reply)

-- so is each entry, after those before it
unfoldable pub is_legal : Plan → List Entry → Bool
is_legal p [] = true
is_legal p (e ∷ j) = is_legal p j && is_legal_entry p j e
