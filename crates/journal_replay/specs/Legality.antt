-- What is said of a core's rules, and of the first line that names them.
use Rattle.std.specs.Prelude.{ℕ, ◌*◌, List, ◌∷◌, Option}
use Rattle.run_plan.specs.declared.plan.Plan.{Plan}
use Rattle.run_plan.specs.Groups.{berths}
use Rattle.run_plan.specs.Sound.{Sound}
use Rattle.exec_journal.specs.declared.call.Call.{Call}
use Rattle.exec_journal.specs.Entry.{Entry}
use Rattle.exec_journal.specs.declared.reply.Reply.{Reply}
use Rattle.journal_text.specs.Lines.{plan_of}

-- By what a text is judged: what its first line spells, the basis of the rules; its plan, and how
-- many lanes it has; what is asked of it; and which journals of it the rules make, the newest entry
-- first.
pub record Rulebook (B : Type 0) : Type 1 where
  pub spelled : List ℕ → Option B
  pub plan : B → Plan
  pub lanes : B → ℕ
  pub sound : B → Type 0
  pub makes : B → List Entry → Type 0

-- which journals of a plan the rules make, the newest entry first
abbrev pub Legality : Type 1
Legality = Plan → List Entry → Type 0

-- on the plan's own berths: the first line spells a plan
abbrev pub of_plans : Legality → Rulebook Plan
of_plans makes = record {
  spelled = plan_of;
  plan = λ p. p;
  lanes = λ p. 2 * berths p;
  sound = Sound;
  makes = makes;
}

-- when a core stands for a journal of a basis
abbrev pub Standing : Type 0 → Type 0 → Type 1
Standing B C = B → C → List Entry → Type 0

-- the journal with the lane's call and this reply
abbrev pub joined : List Entry → ℕ → Call → Reply → List Entry
joined j lane c x = record { lane = lane; call = c; reply = x } ∷ j
