-- The lanes of the task keep what is told, and its pacer is given back.
use Rattle.worker_run.proofs.Fronts.{may_pace, pacer_is_back, paces_on}
use Rattle.worker_run.proofs.by_front.run_made.Goals as goal

pub run_paced-ended-requires-clause-paced : goal.run_paced-ended-requires-clause-paced
run_paced-ended-requires-clause-paced g c κs within =
    let made = c.args.made in
    rw (c.seat_pacer-lane.ensures) (may_pace _ made.task made.ticks c.args.pacer c.requires.ready)

pub unreachable-requires : goal.unreachable-requires
unreachable-requires g c =
    pacer_is_back g.W.Pacer.told c.args.pacer c.run_paced-ended.result.0 c.args.made.ticks
    c.run_paced-ended.result.1 c.pacer_of.result c.seat_pacer-lane.result c.seat_pacer-lane.ensures
    c.run_paced-ended.ensures.ticks c.pacer_of.ensures c.in_default.is

pub returns-clause-paces : goal.returns-clause-paces
returns-clause-paces g c =
    let end = c.run_paced-ended.result.0 in
    let told = g.W.Pacer.told in
    rw (c.requires.ready.ticks) (paces_on told c.args.pacer end c.args.made.ticks
    c.run_paced-ended.result.1 c.pacer_of.result c.seat_pacer-lane.result c.seat_pacer-lane.ensures
    c.run_paced-ended.ensures.ticks c.pacer_of.ensures c.in-Some.pacer c.in-Some.is)
