use Rattle.std.proofs.Common.{◌≡◌, ◌∙◌, refl, sym, take, subst, [], ◌++◌, List, true, Ok, Err, arith, rules}
use Rattle.std.proofs.Common.{length-take}
use Rattle.delimited_framing.specs.Splitter.{StandsFor}
use Rattle.json_framing.specs.Cutter.{form_of, held}
use Rattle.json_framing.specs.declared.cutter.Framing.{Framing}
use Rattle.message_service.specs.Stream.{Heard, HeardAll, IsWhole}
use Rattle.message_service.proofs.Made.{adds_nothing, adds_on}
use Rattle.message_service.proofs.Streams.{heard_new, whole_new}
use Rattle.message_service.proofs.Rounds.{one_more}
use Rattle.work_queue.specs.States.{roomed_in}
use Rattle.work_lanes.specs.Calls.{read_at, most_at}
use Rattle.work_lanes.proofs.Fronts.{breaks_cause, breaks_reading}
use Rattle.work_lanes.proofs.Pieces.{most_on}
use Rattle.work_lanes.proofs.reading.read_all.Goals as goal

pub loop-init : goal.loop-init
loop-init g c =
    let f = g.H.Answerer.framing in
    let spells = g.H.Answerer.spells in
    let e = c.new-cutter.ensures in
    let is = c.framing.ensures in
    let s = held c.new-cutter.result in
    record {
      bytes = [];
      lane = c.requires.lane;
      same = (refl, refl, refl);
      framing = e.framing ∙ is;
      taken = adds_nothing (g.T.Tap.told c.args.input.now).taken;
      later = omega arith;
      heard = subst (λ (ms : List g.row.X.Denot). HeardAll (form_of f) spells true [] ms s)
          (sym c.requires.fresh) (
            heard_new f spells s
                (subst (λ (k : Framing). StandsFor (form_of k) [] [] s) is e.stands) e.fresh.0
                e.fresh.1,
            whole_new f spells,
          );
      reads = omega arith;
      most = omega arith;
    }

pub returns-in-Err-clause-read : goal.returns-in-Err-clause-read
returns-in-Err-clause-read g c =
    let f = g.H.Answerer.framing in
    let spells = g.H.Answerer.spells in
    let i = c.loop.invariant in
    let piece = take c.in-Bytes.count c.read.new.into in
    let old = (g.T.Tap.told c.args.input.now) in
    let mid = (g.T.Tap.told c.loop.input) in
    let new = (g.T.Tap.told c.read.new.self) in
    record {
      bytes = i.bytes ++ piece;
      taken = adds_on i.bytes piece old.taken mid.taken new.taken i.taken
          c.in-Bytes.ensures.taken.2;
      reads = c.in-Err.ensures.hands i.bytes
          (subst (λ (ms : List g.row.X.Denot). Heard (form_of f) spells i.bytes ms
          (held c.loop.cutter)) (sym c.await_room.ensures.heard) i.heard.0);
      caused = breaks_cause c.in-Err.finish (i.bytes ++ piece) old new c.in-Err.ensures.err;
      kind = breaks_reading c.in-Err.finish c.in-Err.ensures.err;
    }

pub loop-preserved : goal.loop-preserved
loop-preserved g c =
    let f = g.H.Answerer.framing in
    let spells = g.H.Answerer.spells in
    let i = c.loop.invariant in
    let piece = take c.in-Bytes.count c.read.new.into in
    let took = c.in-Bytes.ensures.taken in
    let room = c.await_room.ensures.same in
    let same = c.in_default.ensures.same in
    record {
      bytes = i.bytes ++ piece;
      lane = same.1 ∙ (room.1 ∙ i.lane);
      same = (
        same.0 ∙ (room.0 ∙ i.same.0),
        same.1 ∙ (room.1 ∙ i.same.1),
        same.2 ∙ (room.2 ∙ i.same.2),
      );
      framing = c.in_default.ensures.framing;
      taken = adds_on i.bytes piece (g.T.Tap.told c.args.input.now).taken
          (g.T.Tap.told c.loop.input).taken (g.T.Tap.told c.read.new.self).taken i.taken took.2;
      later = omega (arith, i.later, c.in-Bytes.ensures.count.later);
      heard = c.in_default.ensures.hands i.bytes
          (subst (λ (ms : List g.row.X.Denot). Heard (form_of f) spells i.bytes ms
          (held c.loop.cutter)) (sym c.await_room.ensures.heard) i.heard.0);
      reads = one_more i.bytes c.read.new.into c.in-Bytes.count c.loop.counter took.0 took.1
          i.reads;
      most =
          let number = g.H.Kind.number in
          let cancels = g.H.Kind.cancels in
          let old = read_at number cancels c.loop.caller.pass in
          let mid = read_at number cancels c.await_room.new.caller.pass in
          let room : mid ≡ roomed_in c.args.depth old = search rules in
          most_on spells f i.bytes piece (Ok tt) (held c.hand_on.new.cutter) c.args.depth
          (most_at number cancels c.args.caller.now.pass) old mid
          (read_at number cancels c.hand_on.new.caller.pass) room
          (subst (λ (ms : List g.row.X.Denot). IsWhole (form_of f) spells i.bytes ms)
          (sym c.await_room.ensures.heard) i.heard.1)
          (c.in_default.ensures.hands i.bytes
          (subst (λ (ms : List g.row.X.Denot). Heard (form_of f) spells i.bytes ms
          (held c.loop.cutter)) (sym c.await_room.ensures.heard) i.heard.0))
          c.in_default.ensures.more
          (omega (arith, length-take c.in-Bytes.count c.read.new.into, took.1)) i.most;
    }

pub returns-in-Err-clause-most : goal.returns-in-Err-clause-most
returns-in-Err-clause-most g c =
    let f = g.H.Answerer.framing in
    let spells = g.H.Answerer.spells in
    let number = g.H.Kind.number in
    let cancels = g.H.Kind.cancels in
    let i = c.loop.invariant in
    let took = c.in-Bytes.ensures.taken in
    let old = read_at number cancels c.loop.caller.pass in
    let mid = read_at number cancels c.await_room.new.caller.pass in
    let room : mid ≡ roomed_in c.args.depth old = search rules in
    most_on spells f i.bytes (take c.in-Bytes.count c.read.new.into) (Err c.in-Err.finish)
    (held c.hand_on.new.cutter) c.args.depth (most_at number cancels c.args.caller.now.pass) old mid
    (read_at number cancels c.hand_on.new.caller.pass) room
    (subst (λ (ms : List g.row.X.Denot). IsWhole (form_of f) spells i.bytes ms)
    (sym c.await_room.ensures.heard) i.heard.1)
    (c.in-Err.ensures.hands i.bytes
    (subst (λ (ms : List g.row.X.Denot). Heard (form_of f) spells i.bytes ms
    (held c.loop.cutter)) (sym c.await_room.ensures.heard) i.heard.0))
    c.in-Err.ensures.more
    (omega (arith, length-take c.in-Bytes.count c.read.new.into, took.1)) i.most
