-- Which journals the rules make.
use Rattle.std.specs.Prelude.{◌≡◌, ℕ, true, if◌then◌else◌, List, [], ◌∷◌}
use Rattle.run_plan.specs.declared.plan.Plan.{Plan}
use Rattle.exec_journal.specs.Entry.{Entry}
use Rattle.exec_journal.specs.declared.call.Call.{Call}
use Rattle.exec_journal.specs.declared.reply.Reply.{Reply}
use Rattle.exec_journal.specs.Entries.{is_kept}
use Rattle.exec_journal.specs.Rules.{rule}
use Rattle.exec_journal.specs.Scripts.{script}

-- the call was in its lane's script, its reply is the rule's, and the entry is kept
pub record LegalEntry (p : Plan) (j : List Entry) (e : Entry) : Type 0 where
  pub scripted : script p j e.lane e.call ≡ true
  pub replied : e.reply ≡ rule p j e.lane e.call
  pub kept : is_kept e.reply ≡ true

-- so is each entry, after those before it
abbrev pub Legal : Plan → List Entry → Type 0
Legal p [] = Unit {0}
Legal p (e ∷ j) = Legal p j × LegalEntry p j e

-- the journal after a call
abbrev pub after : List Entry → ℕ → Call → Reply → List Entry
after j lane c r = if is_kept r then record { lane = lane; call = c; reply = r } ∷ j else j
