-- Two groups, worked through: two berths of workers, and then an executor's.
use Rattle.std.proofs.Common.{◌≡◌, true, false, [], ◌∷◌, Some, refl}
use Rattle.run_plan.specs.declared.plan.Kind.TheVariants as kind
use Rattle.run_plan.specs.declared.plan.Plan.{Plan}
use Rattle.run_plan.specs.declared.plan.Speech.TheVariants as speech
use Rattle.action_list.specs.declared.parts.GroupPart.{GroupPart}
use Rattle.plain_values.specs.declared.command.Command.{Command}
use Rattle.run_tasks.specs.Setup.{commands_for, part_at, speeches_for}

abbrev two_groups : Plan
two_groups = record {
  actions = [];
  groups = record { kind = kind.Multi; cancel = true; berths = 2 }
      ∷ record { kind = kind.Remote; cancel = false; berths = 1 } ∷ [];
  limit = 1;
}

module _ (worker executor : Command) where
  abbrev for_worker : GroupPart
  for_worker = record { command = worker; speech = speech.Json }

  abbrev for_executor : GroupPart
  for_executor = record { command = executor; speech = speech.Remote }

  three_speeches : speeches_for two_groups (for_worker ∷ for_executor ∷ [])
      ≡ speech.Json ∷ speech.Json ∷ speech.Remote ∷ []
  three_speeches = refl

  two_commands : commands_for (for_worker ∷ for_executor ∷ []) ≡ worker ∷ executor ∷ []
  two_commands = refl

  third_part : part_at two_groups (for_worker ∷ for_executor ∷ []) 2 ≡ Some for_executor
  third_part = refl
