use Rattle.std.proofs.Common.{◌≡◌, drop, map}
use Rattle.list_actions.specs.Answers.{first}
use Rattle.action_list.specs.Checks.{key_check}
use Rattle.action_list.proofs.checks.check_keys.Given as goal

abbrev pub invariant-loop-key : goal.invariant-loop-key
invariant-loop-key l = first (map (key_check l.action l.draft) l.keys) ≡ first (map (key_check l.action l.draft) (drop l.key-index l.keys))
