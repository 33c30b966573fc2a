use Rattle.std.specs.Iterator.Adapters.{zip_first, zip_second}
use Rattle.std.specs.Slice.Iter.{iter_rest}
use Rattle.std.proofs.lemmas.Slice.Zip.{Zip-more, either_empty_from_Zip}
use Rattle.run_tasks.specs.Setup.{speeches_for}
use Rattle.run_tasks.proofs.AtBerths.{speeches_one, speeches_end}
use Rattle.run_tasks.proofs.setup.speeches_of.Goals as goal

pub loop-group-preserved : goal.loop-group-preserved
loop-group-preserved c =
    let s = c.loop-group.group-iterator in
    let t = c.next.new.self in
    let k =
    Zip-more s t c.next.result (c.in-Some.group, c.in-Some.part) c.in-Some.is
    c.next.ensures.steps in
    speeches_one (iter_rest (zip_first s)) (iter_rest (zip_first t))
    (iter_rest (zip_second s)) (iter_rest (zip_second t)) c.in-Some.group.now c.in-Some.part.now
    c.loop-group.speeches.items c.add_speeches.new.speeches.items
    (speeches_for c.args.plan.now c.args.parts.now) k.0 k.1 c.loop-group.invariant
    c.in_ok-add_speeches.ensures

pub returns : goal.returns
returns c =
    let s = c.loop-group.group-iterator in
    speeches_end (iter_rest (zip_first s)) (iter_rest (zip_second s))
    c.loop-group.speeches.items (speeches_for c.args.plan.now c.args.parts.now)
    (either_empty_from_Zip s c.next.new.self c.next.result c.in-None.is c.next.ensures.steps)
    c.loop-group.invariant
