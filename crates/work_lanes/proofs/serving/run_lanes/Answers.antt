use Rattle.std.proofs.Common.{List, refl, ap, length, sym, subst, ◌∙◌, arith}
use Rattle.lane_threads.specs.declared.pair.Either.{Either}
use Rattle.message_service.specs.declared.finish.Finish.{Finish}
use Rattle.message_service.proofs.Made.{put_nothing}
use Rattle.work_lanes.specs.declared.reading.Reader.{Reader}
use Rattle.work_lanes.specs.declared.handling.Hands.{Hands}
use Rattle.work_lanes.specs.Crews.{AreLanes, HasReaderLane}
use Rattle.work_lanes.specs.Serves.{told_by}
use Rattle.work_lanes.proofs.Crewing.{lanes_may, lanes_many}
use Rattle.work_lanes.proofs.Ends.{Ends}
use Rattle.work_lanes.proofs.Idle.{has_reader, none_put}
use Rattle.work_lanes.proofs.Leaving.{the_crew, serves, same_start}
use Rattle.work_lanes.proofs.serving.run_lanes.Goals as goal

pub run_crew-requires-clause-few : goal.run_crew-requires-clause-few
run_crew-requires-clause-few g c κs within =
    let many = lanes_many c.args.streams.tap c.args.depth c.args.handlers.items
    c.lanes_of-lanes.result.items c.lanes_of-lanes.ensures in
    let few = c.requires.handlers.1 in
    omega (arith, many, few)

pub run_crew-requires-clause-may_run : goal.run_crew-requires-clause-may_run
run_crew-requires-clause-may_run g c κs within =
    lanes_may _ _ (λ r desk bells pass of fresh lane bell. (of, fresh, lane, bell))
    (λ h desk bells pass of fresh lane hand bell. (of, fresh, lane, hand, bell)) _
    c.args.streams.tap c.args.depth c.args.handlers.items c.lanes_of-lanes.result.items
    c.lanes_of-lanes.ensures

pub unbegun_of-requires-clause-lanes : goal.unbegun_of-requires-clause-lanes
unbegun_of-requires-clause-lanes g c =
    subst (λ (ls : List (Either (Reader g.row.T.Denot) (Hands g.row.H.Denot))). HasReaderLane ls)
    (sym c.in-Err.ensures.back.0)
    (has_reader c.args.streams.tap c.args.depth c.args.handlers.items c.lanes_of-lanes.result.items
    c.lanes_of-lanes.ensures)

pub unbegun_of-requires-clause-room : goal.unbegun_of-requires-clause-room
unbegun_of-requires-clause-room g c =
    let many = lanes_many c.args.streams.tap c.args.depth c.args.handlers.items
    c.lanes_of-lanes.result.items c.lanes_of-lanes.ensures in
    let same = ap length c.in-Err.ensures.back.0 in
    omega (arith, many, same, c.in-Ok.ensures.back.1, c.len.ensures)

pub returns-in-Err-clause-back : goal.returns-in-Err-clause-back
returns-in-Err-clause-back g c =
    let back = c.in-Err.ensures.back in
    let m = c.in-Err.unstarted.machine in
    let of = c.unbegun_of.ensures.lanes c.args.streams.tap c.args.depth c.args.handlers.items
    (subst (λ (ls : List (Either (Reader g.row.T.Denot) (Hands g.row.H.Denot))).
    AreLanes c.args.streams.tap c.args.depth c.args.handlers.items ls) (sym back.0) c.lanes_of-lanes.ensures) in (
      of.0,
      of.1,
      none_put g.H.Kind.number g.H.Kind.cancels g.H.Kind.says g.H.Kind.written g.O.Sink.told m
          c.args.streams.sink c.unbegun_of.result.streams.sink back.1.0
          (same_start m c.new-queue.result c.args.streams.sink back.1.1 c.new-queue.ensures.sink.0)
          c.unbegun_of.ensures.sink,
    )

pub returns-in_default-clause-back : goal.returns-in_default-clause-back
returns-in_default-clause-back g c =
    (refl, refl, put_nothing (g.O.Sink.told c.args.streams.sink))

pub reader_left-input-requires : goal.reader_left-input-requires
reader_left-input-requires g c =
    let r = the_crew g.H.Kind.number g.H.Kind.cancels g.H.Answerer.framing g.H.Answerer.spells
    g.T.Tap.told g.H.Answerer.answers g.H.Answerer.breaks _ c.args.streams.tap c.args.depth
    c.args.handlers.items c.in-Ok-run_crew.crew.history.items c.lanes_of-lanes.result.items
    c.in-Ok-run_crew.crew.ends.items c.lanes_of-lanes.ensures c.in-Ok-run_crew.ensures.lanes in
    (r.0, r.1, c.from_vec-ends.ensures.items ∙ r.2)

pub handlers_left-handlers-requires-clause-room : goal.handlers_left-handlers-requires-clause-room
handlers_left-handlers-requires-clause-room g c =
    let r = the_crew g.H.Kind.number g.H.Kind.cancels g.H.Answerer.framing g.H.Answerer.spells
    g.T.Tap.told g.H.Answerer.answers g.H.Answerer.breaks _ c.args.streams.tap c.args.depth
    c.args.handlers.items c.in-Ok-run_crew.crew.history.items c.lanes_of-lanes.result.items
    c.in-Ok-run_crew.crew.ends.items c.lanes_of-lanes.ensures c.in-Ok-run_crew.ensures.lanes in
    let first = ap length c.reader_left-input.ensures in
    let all = ap length c.from_vec-ends.ensures.items in
    let left = ap length r.2 in
    let many = r.5 in
    omega (arith, first, all, left, many, c.in-Ok.ensures.back.1, c.len.ensures)

pub returns-clause-serves : goal.returns-clause-serves
returns-clause-serves g c =
    let number = g.H.Kind.number in
    let cancels = g.H.Kind.cancels in
    let m = c.in-Ok-run_crew.crew.machine in
    let left = c.reader_left-input.result in
    subst (λ (f : Finish). Ends number cancels g.H.Kind.says g.H.Kind.written
    g.H.Answerer.framing g.H.Answerer.spells g.H.Answerer.answers g.H.Answerer.breaks c.args.depth f
    c.args.handlers.items c.handlers_left-handlers.result.items
    (told_by g.T.Tap.told g.O.Sink.told c.args.streams.tap c.args.streams.sink)
    (told_by g.T.Tap.told g.O.Sink.told left.input c.into_end-sink.result.0))
    (sym c.finish_by-finish.ensures)
    (serves _ number cancels g.H.Kind.says g.H.Kind.written
    g.H.Answerer.framing g.H.Answerer.spells g.T.Tap.told g.O.Sink.told g.H.Answerer.answers
    g.H.Answerer.breaks _ c.args.streams.tap c.args.depth
    c.args.handlers.items c.in-Ok-run_crew.crew.history.items c.lanes_of-lanes.result.items
    c.in-Ok-run_crew.crew.ends.items c.reader_left-input.new.ends.items
    c.handlers_left-handlers.result.items m
    c.into_end-sink.result.1
    c.into_end-sink.result.0 c.args.streams.sink left c.lanes_of-lanes.ensures
    c.in-Ok-run_crew.ensures.lanes c.in-Ok-run_crew.ensures.others
    (sym c.from_vec-ends.ensures.items ∙ c.reader_left-input.ensures)
    c.handlers_left-handlers.ensures c.in-Ok-run_crew.ensures.stands.0 c.into_end-sink.ensures
    (same_start m c.new-queue.result c.args.streams.sink c.in-Ok-run_crew.ensures.stands.1
    c.new-queue.ensures.sink.0))
