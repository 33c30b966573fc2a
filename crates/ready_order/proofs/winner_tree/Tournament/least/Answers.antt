use Rattle.std.proofs.Common.{ℕ, ◌<◌, List, length, arith, subst}
use Rattle.std.proofs.lemmas.List.{get_or_read}
use Rattle.ready_order.specs.Matches.{IsLeast}
use Rattle.ready_order.proofs.Winners.{winner_is_least}
use Rattle.ready_order.proofs.winner_tree.Tournament.least.Goals as goal

pub returns-else-self-eq0 : goal.returns-else-self-eq0
returns-else-self-eq0 c =
    let nodes = c.self.inside.nodes.items in
    let places = c.self.inside.places in
    let size = c.self.invariant.size in
    let some : 0 < places = omega arith in
    let within : 1 < length nodes = omega arith in
    let is = get_or_read nodes 1 c.index.result.now within c.index.ensures 0 in
    let P : List ℕ → Type 0 = λ xs. IsLeast xs c.index.result.now in
    subst P c.self.view_is (rw is (winner_is_least nodes places c.self.invariant some))
