use Rattle.std.proofs.Common.{sym, ◌∙◌, ◌&&◌, not, refl, arith}
use Rattle.placed_rules.specs.Pools.{same_pool}
use Rattle.shared_laws.specs.Berths.{holds, some_vacant}
use Rattle.placed_berths.specs.Basis.{shared_by}
use Rattle.placed_berths.proofs.Below.{found}
use Rattle.placed_berths.proofs.shared.SharedBerths.some_vacant.Goals as goal

pub is_vacant-requires-clause-lane : goal.is_vacant-requires-clause-lane
is_vacant-requires-clause-lane c =
    let lanes = c.requires.berths.lanes in let below = c.loop-other-test.true in
    let all = c.all_berths-berths.ensures in omega arith

pub is_vacant-requires-clause-reads : goal.is_vacant-requires-clause-reads
is_vacant-requires-clause-reads c =
    let below = c.loop-other-test.true in
    let all = c.all_berths-berths.ensures in
    c.requires.berths.each c.loop-other.other (omega arith)

pub returns-then-is_vacant : goal.returns-then-is_vacant
returns-then-is_vacant c =
    let s = c.args.state.now in
    let q = shared_by c.args.self.now s.plan in
    let below = c.loop-other-test.true in
    let all = c.all_berths-berths.ensures in
    sym (found (λ w. same_pool q w c.args.berth && not (holds s w))
    (some_vacant q s c.args.berth) (λ n. refl) c.loop-other.other _
    (omega arith) (sym c.is_vacant.ensures ∙ c.if-is_vacant.true))
