use Rattle.std.proofs.Common.{◌++◌, List, subst, sym, true, false}
use Rattle.json_framing.specs.Cutter.{form_of, held}
use Rattle.message_service.specs.Stream.{Begins, HeardAll}
use Rattle.message_service.proofs.Streams.{heard_first, first_more}
use Rattle.message_box.specs.States.{put_in}
use Rattle.message_box.specs.Sides.{state_at}
use Rattle.read_ahead.proofs.Ahead.{put_done, put_gone}
use Rattle.read_ahead.proofs.reading.hand_on.Goals as goal

pub returns-in-Err-clause-hands : goal.returns-in-Err-clause-hands
returns-in-Err-clause-hands g c = λ fed x.
    c.in-Err.ensures.err fed (put_in (state_at c.args.caller.now.pass)) x

pub returns-in-Ok-Done-clause-hands : goal.returns-in-Ok-Done-clause-hands
returns-in-Ok-Done-clause-hands g c =
    let f = g.V.Service.framing in
    let new = held c.hear_piece.new.cutter in
    let come = c.in-Ok.come in
    let put = put_done come.messages.items c.in-Ok-Done.field-0 (state_at c.args.caller.now.pass)
    (state_at c.put.new.caller.pass) c.in-Ok-Done.field-0-is c.in-Ok-Done.ensures.ok in
    λ fed x.
    let all = c.in-Ok.ensures.ok fed (put_in (state_at c.args.caller.now.pass)) x in
    subst (λ (ms : List g.row.V-Message.Denot).
    HeardAll (form_of f) g.V.Service.spells true (fed ++ c.args.piece.now) ms new) (sym put)
    (rw (c.if-goes_on.true) at all)

pub returns-in-Ok-Done-2-clause-hands : goal.returns-in-Ok-Done-2-clause-hands
returns-in-Ok-Done-2-clause-hands g c =
    let f = g.V.Service.framing in
    let new = held c.hear_piece.new.cutter in
    let come = c.in-Ok.come in
    let put = put_done come.messages.items c.in-Ok-Done.field-0 (state_at c.args.caller.now.pass)
    (state_at c.put.new.caller.pass) c.in-Ok-Done.field-0-is c.in-Ok-Done.ensures.ok in
    λ fed x.
    let all = c.in-Ok.ensures.ok fed (put_in (state_at c.args.caller.now.pass)) x in
    subst (λ (ms : List g.row.V-Message.Denot).
    HeardAll (form_of f) g.V.Service.spells false (fed ++ c.args.piece.now) ms new) (sym put)
    (rw (c.if-goes_on.false) at all)

pub returns-in-Ok-Gone-clause-hands : goal.returns-in-Ok-Gone-clause-hands
returns-in-Ok-Gone-clause-hands g c =
    let f = g.V.Service.framing in
    let spells = g.V.Service.spells in
    let before = put_in (state_at c.args.caller.now.pass) in
    let same = put_gone c.in-Ok.come.messages.items c.in-Ok-Gone.field-0
    (state_at c.args.caller.now.pass) (state_at c.put.new.caller.pass) c.in-Ok-Gone.field-0-is
    c.in-Ok-Gone.ensures.ok in
    λ fed x. subst (λ (ms : List g.row.V-Message.Denot).
    Begins (form_of f) spells (fed ++ c.args.piece.now) ms) (sym same)
    (first_more f spells fed c.args.piece.now before
    (heard_first f spells fed before (held c.args.cutter.now) x))

pub returns-in-Err-put-clause-hands : goal.returns-in-Err-put-clause-hands
returns-in-Err-put-clause-hands g c =
    let f = g.V.Service.framing in
    let spells = g.V.Service.spells in
    let before = put_in (state_at c.args.caller.now.pass) in
    λ fed x. subst (λ (ms : List g.row.V-Message.Denot).
    Begins (form_of f) spells (fed ++ c.args.piece.now) ms) (sym c.in-Err-put.ensures.err.0)
    (first_more f spells fed c.args.piece.now before
    (heard_first f spells fed before (held c.args.cutter.now) x))
