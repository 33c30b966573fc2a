use Rattle.std.proofs.Common.{◌∙◌, arith}
use Rattle.spawn_core.proofs.Outlooks.{lanes_are, lasts_are, owes_is}
use Rattle.spawn_core.proofs.lanes.lane_owes.Goals as goal

pub len-requires : goal.len-requires
len-requires c = let h = c.requires in
    let berths = lasts_are h.seats h.plan c.args.state.now h.journal h.stands in
    let few = h.stands.few in
    omega (arith, berths, few)

pub state-requires : goal.state-requires
state-requires c = let h = c.requires in
    let berths = lasts_are h.seats h.plan c.args.state.now h.journal h.stands in
    let lanes = lanes_are h.seats h.plan c.args.state.now h.journal h.stands in
    let known = c.len.ensures in
    let below = c.if-lane-len.true in
    omega (arith, berths, lanes, known, below)

pub returns-then-lane-len-clause-owes : goal.returns-then-lane-len-clause-owes
returns-then-lane-len-clause-owes c = λ p seats j st low.
    c.owes.ensures ∙ owes_is seats p c.args.state.now j c.args.lane c.state.result st low
    c.state.ensures

pub returns-then-lane-len-clause-none : goal.returns-then-lane-len-clause-none
returns-then-lane-len-clause-none c = λ p seats j st high.
    let berths = lasts_are seats p c.args.state.now j st in
    let known = c.len.ensures in
    let below = c.if-lane-len.true in
    absurd (omega (arith, berths, known, below, high))

pub returns-else-lane-len-clause-owes : goal.returns-else-lane-len-clause-owes
returns-else-lane-len-clause-owes c = λ p seats j st low.
    let berths = lasts_are seats p c.args.state.now j st in
    let known = c.len.ensures in
    let past = c.if-lane-len.false in
    absurd (omega (arith, berths, known, past, low))
