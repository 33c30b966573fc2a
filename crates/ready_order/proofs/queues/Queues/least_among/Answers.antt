use Rattle.std.proofs.Common.{ℕ, List, ap, map, subst, sym, ◌∙◌}
use Rattle.ready_order.specs.Matches.{MayAsk, least_number}
use Rattle.ready_order.proofs.queues.Queues.least_among.Goals as goal

pub least_among-requires-clause-asked : goal.least_among-requires-clause-asked
least_among-requires-clause-asked g c =
    subst (λ (xs : List ℕ). MayAsk (g.G.GroupSet.can_ask c.args.groups.now) xs)
    (sym (c.self.invariant.are ∙ ap (map least_number) c.self.view_is)) c.requires
