-- The reply to any call, in its lane's script or not.
use Rattle.std.specs.Prelude.{◌≡◌, ℕ, ◌⊎◌, Bool, true, false, if◌then◌else◌, List}
use Rattle.run_plan.specs.declared.plan.Plan.{Plan}
use Rattle.exec_journal.specs.declared.call.Call.{Call}
use Rattle.exec_journal.specs.Entry.{Entry}
use Rattle.exec_journal.specs.declared.reply.Reply.{Reply}
use Rattle.exec_journal.specs.declared.reply.Reply.TheVariants as reply
use Rattle.core_contract.specs.Disciplines.{own_discipline, script_of}
use Rattle.core_contract.specs.Discipline.{Discipline}

-- outside its lane's script Astray, else the discipline's
abbrev pub answer_by : Discipline → List Entry → ℕ → Call → Reply
answer_by q j lane c = if script_of q j lane c then q.rule j lane c else reply.Astray

-- by the rules of berths that groups have of their own
abbrev pub answer : Plan → List Entry → ℕ → Call → Reply
answer p j lane c = answer_by (own_discipline p) j lane c

abbrev pub is_file : Reply → Bool
is_file (reply.File b) = true
is_file _ = false

-- it is this reply; or, in place of a file, lack of memory
abbrev pub Replies : Reply → Reply → Type 0
Replies x y = (y ≡ x) ⊎ ((is_file x ≡ true) × (y ≡ reply.NoMemory))
