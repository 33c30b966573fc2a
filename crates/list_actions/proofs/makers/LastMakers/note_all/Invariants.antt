use Rattle.std.proofs.Common.{◌≡◌, ℕ, List, Some, cond, take}
use Rattle.list_actions.specs.Makers.{last_maker}
use Rattle.list_actions.specs.Order.{is_among}
use Rattle.list_actions.proofs.makers.LastMakers.note_all.Given as goal

abbrev pub invariant-loop-path : goal.invariant-loop-path
invariant-loop-path l = (q : List ℕ) → last_maker l.self q ≡ cond (is_among (take l.path-index l.paths) q) (Some l.number) (last_maker l.initial.self q)
