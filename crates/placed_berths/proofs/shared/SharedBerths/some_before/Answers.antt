use Rattle.std.proofs.Common.{sym, ◌∙◌, ◌&&◌, refl, arith}
use Rattle.placed_rules.specs.Pools.{same_pool}
use Rattle.placed_berths.specs.Basis.{shared_by}
use Rattle.placed_berths.specs.Pooled.{goes_before, some_before}
use Rattle.placed_berths.proofs.Below.{found}
use Rattle.placed_berths.proofs.shared.SharedBerths.some_before.Goals as goal

pub goes_first-requires-clause-lane : goal.goes_first-requires-clause-lane
goes_first-requires-clause-lane c =
    let lanes = c.requires.pools.berths.lanes in let below = c.loop-other-test.true in
    let all = c.all_berths-berths.ensures in omega arith

pub goes_first-requires-clause-reads : goal.goes_first-requires-clause-reads
goes_first-requires-clause-reads c =
    let below = c.loop-other-test.true in
    let all = c.all_berths-berths.ensures in
    c.requires.pools.berths.each c.loop-other.other (omega arith)

pub returns-then-goes_first : goal.returns-then-goes_first
returns-then-goes_first c =
    let s = c.args.state.now in let d = c.args.delay.now in
    let q = shared_by c.args.self.now s.plan in
    let below = c.loop-other-test.true in
    let all = c.all_berths-berths.ensures in
    sym (found (λ w. same_pool q w c.args.berth
    && goes_before d s c.args.self.now.spoken.items c.args.berth w)
    (some_before q d s c.args.self.now.spoken.items c.args.berth) (λ n. refl) c.loop-other.other _
    (omega arith) (sym c.goes_first.ensures ∙ c.if-goes_first.true))
