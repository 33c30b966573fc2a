use Rattle.std.proofs.Common.{◌∙◌, take, subst, [], ◌++◌, arith}
use Rattle.json_framing.specs.Cutter.{form_of, held}
use Rattle.json_framing.specs.declared.cutter.Framing.{Framing}
use Rattle.delimited_framing.specs.Splitter.{StandsFor}
use Rattle.message_service.proofs.Made.{adds_nothing}
use Rattle.message_service.proofs.Streams.{heard_new, whole_new}
use Rattle.message_service.proofs.Turns.{spanned_none}
use Rattle.message_service.specs.declared.finish.Finish.TheVariants.{NoMemory}
use Rattle.message_service.proofs.Rounds.{going_on, going_stops, one_more, round_none}
use Rattle.message_service.proofs.serving.serve.Goals as goal

pub loop-init : goal.loop-init
loop-init g c =
    let f = g.V.Service.framing in
    let spells = g.V.Service.spells in
    let e = c.new-cutter.ensures in
    let is = c.framing.ensures in
    record {
      bytes = [];
      messages = [];
      framing = e.framing ∙ is;
      going = record {
        taken = adds_nothing (g.T.Tap.told c.args.input.now).taken;
        later = omega arith;
        heard = heard_new f spells (held c.new-cutter.result)
            (subst (λ (k : Framing). StandsFor (form_of k) [] [] (held c.new-cutter.result)) is
            e.stands)
            e.fresh.0 e.fresh.1;
        whole = whole_new f spells;
        spanned = spanned_none g.V.Service.answers (g.O.Sink.told c.args.out.now)
            (g.S.Shop.told c.args.shop.now);
      };
      reads = omega arith;
    }

pub returns-in-Err : goal.returns-in-Err
returns-in-Err g c =
    let f = g.V.Service.framing in
    let answers = g.V.Service.answers in
    let i = c.loop.invariant in
    let piece = take c.in-Bytes.count c.read.new.into in
    let s = held c.hear_piece.new.cutter in
    going_stops f g.V.Service.spells answers NoMemory i.bytes piece i.messages _ s _ _ _ tt i.going
    c.in-Bytes.ensures.taken.2
    (round_none f g.V.Service.spells answers (i.bytes ++ piece) i.messages s _ _
    (c.in-Err.ensures.err i.bytes i.messages i.going.heard))

pub returns-in-Err-round : goal.returns-in-Err-round
returns-in-Err-round g c =
    let i = c.loop.invariant in
    let piece = take c.in-Bytes.count c.read.new.into in
    let s = held c.hear_piece.new.cutter in
    going_stops g.V.Service.framing g.V.Service.spells g.V.Service.answers c.in-Err-round.finish
    i.bytes piece i.messages _ s _ _ _ c.in-Err-round.ensures.err i.going
    c.in-Bytes.ensures.taken.2
    (c.in-Err-round.ensures.round (i.bytes ++ piece) i.messages s
    (c.in-Ok.ensures.ok i.bytes i.messages i.going.heard))

pub loop-preserved : goal.loop-preserved
loop-preserved g c =
    let i = c.loop.invariant in
    let piece = take c.in-Bytes.count c.read.new.into in
    let took = c.in-Bytes.ensures.taken in
    let s = held c.hear_piece.new.cutter in
    let r = c.in_default.ensures.round (i.bytes ++ piece) i.messages s
    (c.in-Ok.ensures.ok i.bytes i.messages i.going.heard) in
    record {
      bytes = i.bytes ++ piece;
      messages = i.messages ++ r.more;
      framing = c.in-Ok.ensures.framing;
      going = going_on g.V.Service.framing g.V.Service.spells g.V.Service.answers i.bytes piece
          i.messages _ s _ _ _ i.going took.2 c.in-Bytes.ensures.count.later r;
      reads = one_more i.bytes c.read.new.into c.in-Bytes.count c.loop.counter took.0 took.1
          i.reads;
    }
