use Rattle.std.proofs.Common.{◌++◌, subst, refl}
use Rattle.json_framing.specs.Cutter.{held}
use Rattle.json_framing.specs.declared.cutter.Framing.{Framing}
use Rattle.message_service.proofs.Streams.{Fed, heard_first, heard_piece, first_more}
use Rattle.work_lanes.specs.Calls.{heard_at, read_at}
use Rattle.work_lanes.proofs.Calling.{more_same}
use Rattle.work_lanes.proofs.reading.hand_on.Goals as goal

pub returns-in_default-clause-hands : goal.returns-in_default-clause-hands
returns-in_default-clause-hands g c =
    let f = g.H.Answerer.framing in
    let spells = g.H.Answerer.spells in
    let before = heard_at g.H.Kind.number g.H.Kind.cancels c.args.caller.now.pass in
    λ fed x. first_more f spells fed c.args.piece.now before
    (heard_first f spells fed before (held c.args.cutter.now) x)

pub returns-in_default-clause-more : goal.returns-in_default-clause-more
returns-in_default-clause-more g c =
    let before = read_at g.H.Kind.number g.H.Kind.cancels c.args.caller.now.pass in
    more_same before before refl

pub returns-clause-hands : goal.returns-clause-hands
returns-clause-hands g c =
    let old = held c.args.cutter.now in
    let mid = held c.feed.new.self in
    let same = c.in-Ok.ensures.same in
    let fed_so = subst (λ (k : Framing). Fed k old c.args.piece.now mid) c.requires.framing
    c.in-Ok.ensures.ok in
    λ fed x. c.hear_all.ensures.hands (fed ++ c.args.piece.now)
    (heard_piece g.H.Answerer.framing g.H.Answerer.spells fed c.args.piece.now
    (heard_at g.H.Kind.number g.H.Kind.cancels c.args.caller.now.pass) old mid fed_so same.0.1
    same.1 x)
