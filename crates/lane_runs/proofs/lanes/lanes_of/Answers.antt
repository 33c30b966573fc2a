use Rattle.std.proofs.Common.{get_or, arith}
use Rattle.run_plan.specs.declared.plan.Speech.TheVariants.{Proto}
use Rattle.lane_runs.proofs.Seating.{next_speech, as_many_still, seated_more, all_seated}
use Rattle.lane_runs.proofs.lanes.lanes_of.Goals as goal

pub returns : goal.returns
returns g c =
    let m = c.args.means.now in
    all_seated m.settings.now m.actions.now c.loop-speech.speech-index c.args.berths.items
    c.loop-speech.rest.items m.speeches.now c.loop-speech.lanes.items
    (omega (arith, c.loop-speech-test.false)) c.loop-speech.invariant.as_many
    c.loop-speech.invariant.so_far

pub push_seats-requires : goal.push_seats-requires
push_seats-requires g c =
    omega (arith, c.loop-speech.invariant.room, c.loop-speech-test.true)

pub loop-speech-preserved : goal.loop-speech-preserved
loop-speech-preserved g c =
    let m = c.args.means.now in
    let i = c.loop-speech.invariant in
    let here = c.loop-speech.speech-index in
    let spoken = get_or m.speeches.now here Proto in
    let speeches = next_speech here m.speeches.now Proto c.loop-speech-test.true in
    record {
      numbered = omega arith;
      as_many = as_many_still c.loop-speech.rest.items c.pop_front.new.self.items c.in-Some.berth _ _
          spoken i.as_many c.in-Some.ensures.items speeches;
      so_far = seated_more m.settings.now m.actions.now here c.loop-speech.number c.in-Some.berth
          spoken c.args.berths.items c.loop-speech.rest.items
          c.pop_front.new.self.items m.speeches.now c.loop-speech.lanes.items
          c.push_seats.new.lanes.items c.push_seats.ensures.seats i.numbered
          c.in-Some.ensures.items speeches i.so_far;
      room = omega (
        arith,
        i.room,
        c.push_seats.ensures.len,
        c.push_seats.ensures.capacity,
        c.loop-speech-test.true,
      );
    }
