use Rattle.std.proofs.Common.{◌≡◌, ℕ, None, replicate, subst}
use Rattle.core_machine.proofs.Beginning.{begins}
use Rattle.core_machine.proofs.bench.Bench.new.Goals as goal

pub returns-in-Ok-clause-stands : goal.returns-in-Ok-clause-stands
returns-in-Ok-clause-stands g c = let q = g.C.Rules.discipline (g.C.Rules.plan c.args.core) in (
  c.requires.core,
  begins g.B.Child.Child.told g.B.Tap.Tap.told g.P.Place.told
      q c.in-Ok.shelf.children.items
      c.in-Ok.shelf.taps.items c.in-Ok.shelf.places.items c.args.places.items
      c.requires.places
      (subst (λ (n : ℕ). c.in-Ok.shelf.children.items ≡ replicate n None) c.berths.ensures
      c.in-Ok.ensures.children)
      (subst (λ (n : ℕ). c.in-Ok.shelf.taps.items ≡ replicate n None) c.berths.ensures
      c.in-Ok.ensures.taps)
      c.in-Ok.ensures.places,
  c.new-in-Ok.ensures q,
)
