use Rattle.std.proofs.Common.{subst, ◌++◌}
use Rattle.json_framing.specs.Cutter.{held}
use Rattle.json_framing.specs.declared.cutter.Framing.{Framing}
use Rattle.message_service.proofs.Streams.{Fed, heard_first, heard_piece, first_more}
use Rattle.message_service.proofs.hearing.hear_piece.Goals as goal

pub returns-in_default-clause-err : goal.returns-in_default-clause-err
returns-in_default-clause-err g c =
    let f = g.V.Service.framing in
    let spells = g.V.Service.spells in
    λ fed before x. first_more f spells fed c.args.piece.now before
    (heard_first f spells fed before (held c.args.cutter.now) x)

pub returns-in-Ok-hear_all-clause-ok : goal.returns-in-Ok-hear_all-clause-ok
returns-in-Ok-hear_all-clause-ok g c =
    let f = g.V.Service.framing in
    let spells = g.V.Service.spells in
    let old = held c.args.cutter.now in
    let mid = held c.feed.new.self in
    let same = c.in-Ok.ensures.same in
    let fed_so = subst (λ (k : Framing). Fed k old c.args.piece.now mid) c.requires
    c.in-Ok.ensures.ok in
    λ fed before x. c.in-Ok-hear_all.ensures.ok (fed ++ c.args.piece.now) before
    (heard_piece f spells fed c.args.piece.now before old mid fed_so same.0.1 same.1 x)

pub returns-in-Err-clause-err : goal.returns-in-Err-clause-err
returns-in-Err-clause-err g c =
    let f = g.V.Service.framing in
    let spells = g.V.Service.spells in
    λ fed before x. first_more f spells fed c.args.piece.now before
    (heard_first f spells fed before (held c.args.cutter.now) x)
