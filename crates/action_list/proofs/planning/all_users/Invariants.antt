use Rattle.std.proofs.Common.{◌≡◌, map, take}
use Rattle.action_list.proofs.planning.all_users.Given as goal

abbrev pub invariant-loop-one : goal.invariant-loop-one
invariant-loop-one l = l.counts.items ≡ map (λ u. u.users) (take l.one-index l.uses)
