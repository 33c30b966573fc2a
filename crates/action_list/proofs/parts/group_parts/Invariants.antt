use Rattle.std.proofs.Common.{◌≡◌, ◌++◌, drop}
use Rattle.action_list.specs.Parts.{parts_from}
use Rattle.action_list.proofs.parts.group_parts.Given as goal

abbrev pub invariant-loop-group : goal.invariant-loop-group
invariant-loop-group l = record {
  counted : l.number ≡ l.group-index;
  made : l.parts.items ++ parts_from l.list.actions l.plan.actions l.extra l.executor l.group-index (drop l.group-index l.plan.groups) ≡ parts_from l.list.actions l.plan.actions l.extra l.executor 0 l.plan.groups;
}
