use Rattle.std.proofs.Common.{sym, ◌∙◌, arith}
use Rattle.ready_order.proofs.Searched.{askable, both_sides, left_out, passed, taken}
use Rattle.ready_order.proofs.winner_tree.+least_below.Goals as goal

pub returns-then-nodes-node : goal.returns-then-nodes-node
returns-then-nodes-node g t c =
    let no_less = c.if-nodes-node.true in
    passed (g.G.GroupSet.contains c.args.groups.now) c.args.nodes.now c.args.places
    c.requires.played c.args.node c.args.bound c.requires.node (omega arith)

pub returns-then-node-places : goal.returns-then-node-places
returns-then-node-places g t c =
    let split = c.lesser_first-first in
    let above = c.if-node-places.true in
    both_sides (g.G.GroupSet.contains c.args.groups.now) c.args.nodes.now c.args.places
    c.requires.played c.args.node split.result.0 split.result.1 c.args.bound
    c.least_below-nearer.result c.least_below.result (omega arith) c.requires.node
    split.ensures.first split.ensures.second split.ensures.both
    c.least_below-nearer.ensures c.least_below.ensures

pub contains-requires : goal.contains-requires
contains-requires g t c =
    let low = c.if-node-places.false in
    let less = c.if-nodes-node.false in
    let range = c.ranges.bound in
    askable (g.G.GroupSet.contains c.args.groups.now) c.args.nodes.now c.args.places
    c.requires.played (g.G.GroupSet.can_ask c.args.groups.now) c.args.node c.args.bound
    c.requires.asked (omega arith) c.requires.within (omega arith) (omega arith)

pub returns-then-contains : goal.returns-then-contains
returns-then-contains g t c =
    let low = c.if-node-places.false in
    let less = c.if-nodes-node.false in
    taken (g.G.GroupSet.contains c.args.groups.now) c.args.nodes.now c.args.places
    c.requires.played c.args.node c.args.bound (omega arith) c.requires.within
    (sym c.contains.ensures ∙ c.if-contains.true) (omega arith)

pub returns-else-contains : goal.returns-else-contains
returns-else-contains g t c =
    let low = c.if-node-places.false in
    left_out (g.G.GroupSet.contains c.args.groups.now) c.args.nodes.now c.args.places
    c.requires.played c.args.node c.args.bound (omega arith) c.requires.within
    (sym c.contains.ensures ∙ c.if-contains.false)
