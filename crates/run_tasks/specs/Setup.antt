-- What is spoken at each berth, and what is started for each group.
use Rattle.std.specs.Prelude.{ℕ, List, Option, option_and_then, flat_map, map, zip, replicate, slice_get}
use Rattle.plain_values.specs.declared.command.Command.{Command}
use Rattle.run_plan.specs.declared.plan.Group.{Group}
use Rattle.run_plan.specs.declared.plan.Plan.{Plan}
use Rattle.run_plan.specs.declared.plan.Speech.{Speech}
use Rattle.run_plan.specs.Groups.{berth_group}
use Rattle.action_list.specs.declared.parts.GroupPart.{GroupPart}

-- the speech of the group's part, for each berth of the group
abbrev pub group_speeches : Group × GroupPart → List Speech
group_speeches x = replicate x.0.berths x.1.speech

-- those of all berths, group by group
abbrev pub speeches_for : Plan → List GroupPart → List Speech
speeches_for plan parts = flat_map group_speeches (zip plan.groups parts)

-- the command of each group, that of its part
abbrev pub commands_for : List GroupPart → List Command
commands_for parts = map (λ part. part.command) parts

-- the part of the group of the berth w
abbrev pub part_at : Plan → List GroupPart → ℕ → Option GroupPart
part_at plan parts w = option_and_then (λ g. slice_get parts g) (berth_group plan w)
