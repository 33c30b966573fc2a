-- What the lanes leave is all that the floor has made, and so is what they were to work with.
use Rattle.std.proofs.Common.{ℕ, List, ap, sym, ◌∙◌, length, map, refl, subst}
use Rattle.lane_threads.specs.Beside.{count_of}
use Rattle.lane_runs.specs.Runs.{laid_told}
use Rattle.core_machine.specs.Objects.{AreFresh}
use Rattle.worker_run.specs.Lanes.{AreNewBerths}
use Rattle.worker_run.proofs.Making.{made_left, made_unused, not_lost, ran_whole, where_whole, rooms_length, unused}
use Rattle.worker_run.proofs.running.run_plan.Goals as goal

pub run_lanes-requires-clause-places : goal.run_lanes-requires-clause-places
run_lanes-requires-clause-places g c κs within =
    subst (λ (n : ℕ). AreFresh g.F.Place.Place.told n c.make_objects-objects.result.places.items)
    ((c.has_all-all.ensures c.if-not-all.false).1 ∙ c.requires.work.as_many)
    c.make_objects-objects.ensures.places

pub returns-then-not-all-clause-lost : goal.returns-then-not-all-clause-lost
returns-then-not-all-clause-lost g c =
    rw (c.unused-ran.ensures) (unused g.F.Berth.Berth.told g.F.Place.Place.told _ _
    c.make_objects-objects.result.berths.items c.make_objects-objects.result.places.items
    c.make_objects-objects.ensures.berths c.make_objects-objects.ensures.places)

pub returns-then-not-all-clause-made : goal.returns-then-not-all-clause-made
returns-then-not-all-clause-made g c =
    rw (c.unused-ran.ensures) (made_unused g.F.Berth.Berth.told g.F.Place.Place.told _ _
    c.make_objects-objects.result.berths.items c.make_objects-objects.result.places.items
    (g.F.Floor.told c.args.around.floor) (g.F.Floor.told c.make_objects-objects.new.floor)
    c.make_objects-objects.ensures.made refl refl)

pub returns-in-Ok-clause-made : goal.returns-in-Ok-clause-made
returns-in-Ok-clause-made g c =
    let run = c.in-Ok.ensures.run in
    let all = c.has_all-all.ensures c.if-not-all.false in
    rw (c.of.ensures) (made_left (length c.make_objects-objects.result.berths.items)
    (length c.make_objects-objects.result.places.items) (g.F.Floor.told c.args.around.floor)
    (g.F.Floor.told c.make_objects-objects.new.floor) _ c.make_objects-objects.ensures.made
    (rooms_length _ _ _ _ _ 0 c.args.means.now.speeches.now _ _ _ run.rooms ∙ sym all.0)
    (run.outs.as_many ∙ (sym c.requires.work.as_many ∙ sym all.1)))

pub returns-in-Ok-clause-run : goal.returns-in-Ok-clause-run
returns-in-Ok-clause-run g c =
    let r = g.C.Rules in
    let p = g.C.Rules.plan c.args.core in
    let laid = laid_told g.F.Berth.Berth.told g.F.Berth.Feed.Feed.told g.F.Berth.Tap.Tap.told
    g.F.Berth.Child.Child.told g.F.Place.Place.told c.in-Ok.run'.laid in
    let before = map g.F.Berth.Berth.told c.make_objects-objects.result.berths.items in
    let new = subst (λ (n : ℕ). AreNewBerths n before) (c.has_all-all.ensures c.if-not-all.false).0
    c.make_objects-objects.ensures.berths in
    let m = c.args.means.now in
    rw (c.of.ensures) (ran_whole (r.discipline p) m.speeches.now m.settings.now
    m.actions.now before (count_of c.args.around.pacer) laid new c.in-Ok.ensures.run)

pub returns-in-Ok-clause-lost : goal.returns-in-Ok-clause-lost
returns-in-Ok-clause-lost g c =
    let laid = laid_told g.F.Berth.Berth.told g.F.Berth.Feed.Feed.told g.F.Berth.Tap.Tap.told
    g.F.Berth.Child.Child.told g.F.Place.Place.told c.in-Ok.run'.laid in
    rw (c.of.ensures) (not_lost laid.halted _)

pub returns-in-Err-clause-lost : goal.returns-in-Err-clause-lost
returns-in-Err-clause-lost g c =
    let berths = subst (λ (bs : List g.row.F-Berth.Denot). AreNewBerths (length c.make_objects-objects.result.berths.items)
    (map g.F.Berth.Berth.told bs)) (sym c.in-Err.ensures.back.0) c.make_objects-objects.ensures.berths in
    rw (c.unused-ran-in-Err.ensures) (unused g.F.Berth.Berth.told g.F.Place.Place.told _ _
    c.in-Err.left.unrun.berths.items c.in-Err.left.unrun.places.items berths c.in-Err.ensures.back.1)

pub returns-in-Err-clause-made : goal.returns-in-Err-clause-made
returns-in-Err-clause-made g c =
    let all = c.has_all-all.ensures c.if-not-all.false in
    rw (c.unused-ran-in-Err.ensures) (made_unused g.F.Berth.Berth.told g.F.Place.Place.told _ _
    c.in-Err.left.unrun.berths.items c.in-Err.left.unrun.places.items (g.F.Floor.told c.args.around.floor)
    (g.F.Floor.told c.make_objects-objects.new.floor) c.make_objects-objects.ensures.made
    (ap length c.in-Err.ensures.back.0)
    (c.in-Err.ensures.back.1.as_many ∙ (sym c.requires.work.as_many ∙ sym all.1)))

pub returns-in-Ok-clause-ticks : goal.returns-in-Ok-clause-ticks
returns-in-Ok-clause-ticks g c =
    rw (c.of.ensures) (where_whole c.in-Ok.run'.laid.halted _ c.in-Ok.ensures.ticks)

pub returns-in-Ok-clause-unpaced : goal.returns-in-Ok-clause-unpaced
returns-in-Ok-clause-unpaced g c =
    rw (c.of.ensures) (not_lost c.in-Ok.run'.laid.halted _)

pub returns-in-Err-clause-unpaced : goal.returns-in-Err-clause-unpaced
returns-in-Err-clause-unpaced g c = rw (c.unused-ran-in-Err.ensures) c.in-Err.ensures.back.2
