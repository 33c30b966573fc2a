use Rattle.std.proofs.Common.{ℕ, List, drop, arith, subst, ap, sym, ◌∙◌}
use Rattle.ready_order.specs.declared.winner_tree.TheConstants.{ABSENT}
use Rattle.ready_order.specs.Matches.{IsLeastAmong, IsLeastBelow, MayAsk}
use Rattle.ready_order.proofs.Searched.{whole}
use Rattle.ready_order.proofs.winner_tree.Tournament.least_among.Goals as goal

pub least_below-requires-clause-asked : goal.least_below-requires-clause-asked
least_below-requires-clause-asked g c =
    subst (λ (xs : List ℕ). MayAsk (g.G.GroupSet.can_ask c.args.groups.now) xs)
    (sym (ap (drop c.self.inside.places) c.as_slice.ensures.value ∙ c.self.view_is))
    c.requires.asked

pub returns : goal.returns
returns g c =
    let set = g.G.GroupSet.contains c.args.groups.now in
    let nodes = c.self.inside.nodes.items in
    let places = c.self.inside.places in
    let least = c.least_below.result in
    let not_zero = c.if-self-eq0.false in
    let found = subst (λ (xs : List ℕ). IsLeastBelow set xs places 1 ABSENT least)
    c.as_slice.ensures.value c.least_below.ensures in
    subst (λ (xs : List ℕ). IsLeastAmong set xs least) c.self.view_is
    (whole set nodes places c.self.invariant least (omega arith) found)
