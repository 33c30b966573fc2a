use Rattle.std.proofs.Common.{◌≡◌, map, take}
use Rattle.spawn_strategies.proofs.listing.texts_of.Given as goal

abbrev pub invariant-loop-part : goal.invariant-loop-part
invariant-loop-part l = l.texts.items ≡ map (λ x. x.now) (take l.part-index l.parts)
