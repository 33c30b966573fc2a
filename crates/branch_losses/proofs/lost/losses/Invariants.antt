use Rattle.std.proofs.Common.{◌≡◌, ◌≤◌, length, map, reverse}
use Rattle.branch_losses.specs.Losses.{loss_told, losses_before}
use Rattle.branch_losses.proofs.lost.losses.Given as goal

abbrev pub invariant-loop-a : goal.invariant-loop-a
invariant-loop-a l = (l.a ≤ length l.plan.actions) × (map loss_told l.made.items ≡ losses_before l.plan (reverse l.j) l.a)
