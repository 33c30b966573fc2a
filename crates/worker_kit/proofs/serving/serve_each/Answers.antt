use Rattle.std.proofs.Common.{[], length, ap, sym, subst, arith, ◌∙◌}
use Rattle.json_framing.specs.Cutter.{form_of}
use Rattle.message_service.specs.declared.finish.Finish.{Finish}
use Rattle.message_service.specs.Ends.{PutAll}
use Rattle.work_lanes.specs.Serves.{told_by}
use Rattle.worker_kit.specs.declared.handler.Works.{Works}
use Rattle.worker_kit.specs.Responses.{Makes, Says, number_of, cancels_in}
use Rattle.worker_kit.specs.Serves.{ServesEach, handlers_of}
use Rattle.worker_kit.proofs.Handing.{each_many, many_mapped, serves_of}
use Rattle.worker_kit.proofs.serving.serve_each.Goals as goal

pub handlers_of-requires-clause-room : goal.handlers_of-requires-clause-room
handlers_of-requires-clause-room g c =
    let s = c.in-Ok-run_lanes.ensures.serves in
    let works = c.works_of-works.result.items in
    let many = each_many (λ (w : Works g.row.H.Denot g.row.V.Denot). w.handler)
    (Makes g.H.LaneHandler.does) g.H.LaneHandler.breaks 1 s.serves.begun works
    c.in-Ok-run_lanes.ended.handlers.items s.each in
    let mapped = many_mapped (λ (w : Works g.row.H.Denot g.row.V.Denot). w.handler) works in
    let same = ap length c.works_of-works.ensures in
    omega (arith, many, mapped, same, c.in-Ok.ensures.back.1, c.len.ensures)

pub handed_back-requires-clause-room : goal.handed_back-requires-clause-room
handed_back-requires-clause-room g c =
    let works = c.works_of-works.result.items in
    let many = ap length c.in-Err.ensures.back.1 in
    let mapped = many_mapped (λ (w : Works g.row.H.Denot g.row.V.Denot). w.handler) works in
    let same = ap length c.works_of-works.ensures in
    omega (arith, many, mapped, same, c.in-Ok.ensures.back.1, c.len.ensures)

pub returns-clause-serves : goal.returns-clause-serves
returns-clause-serves g c =
    let r = c.in-Ok-run_lanes.ended in
    let works = c.works_of-works.result.items in
    let old = told_by g.T.Tap.told g.O.Sink.told c.args.streams.tap c.args.streams.sink in
    let new = told_by g.T.Tap.told g.O.Sink.told r.tap r.sink in
    subst (λ (f : Finish). ServesEach (form_of g.V.Speech.framing) g.V.Speech.spells
    g.H.LaneHandler.answers g.H.LaneHandler.does g.H.LaneHandler.breaks g.V.Speech.written c.args.depth f
    c.args.handlers.items c.handlers_of.result.items old new) (sym c.of.ensures)
    (serves_of number_of cancels_in (Says g.H.LaneHandler.answers) g.V.Speech.written
    (form_of g.V.Speech.framing) g.V.Speech.spells
    (λ (w : Works g.row.H.Denot g.row.V.Denot). w.handler)
    (Makes g.H.LaneHandler.does) g.H.LaneHandler.breaks c.args.depth r.finish [] works
    r.handlers.items c.args.handlers.items c.handlers_of.result.items old new
    c.works_of-works.ensures c.handlers_of.ensures c.in-Ok-run_lanes.ensures.serves)
