use Rattle.std.proofs.Common.{List, subst, sym, refl, rules}
use Rattle.message_service.specs.Stream.{Begins}
use Rattle.json_framing.specs.Cutter.{form_of, held}
use Rattle.message_service.proofs.Streams.{heard_first}
use Rattle.work_lanes.specs.Calls.{heard_at, read_at}
use Rattle.work_lanes.proofs.Calling.{more_same, more_on}
use Rattle.work_lanes.proofs.reading.hear_all.Goals as goal

pub loop-init : goal.loop-init
loop-init g c =
    let before = read_at g.H.Kind.number g.H.Kind.cancels c.args.caller.now.pass in record {
      lane = c.requires.lane;
      same = (refl, refl, refl);
      framing = c.requires.framing;
      heard = λ fed x. x;
      more = more_same before before refl;
    }

pub loop-preserved : goal.loop-preserved
loop-preserved g c =
    let number = g.H.Kind.number in
    let cancels = g.H.Kind.cancels in
    record {
      lane = search rules;
      same = search rules;
      framing = search rules;
      heard = search rules;
      more = more_on (read_at number cancels c.args.caller.now.pass)
          (read_at number cancels c.loop.caller.pass)
          (read_at number cancels c.hear.new.caller.pass) c.loop.invariant.more c.hear.ensures.more;
    }

pub returns-in_default-clause-more : goal.returns-in_default-clause-more
returns-in_default-clause-more g c =
    let number = g.H.Kind.number in
    let cancels = g.H.Kind.cancels in
    more_on (read_at number cancels c.args.caller.now.pass)
    (read_at number cancels c.loop.caller.pass) (read_at number cancels c.hear.new.caller.pass)
    c.loop.invariant.more c.hear.ensures.more

pub returns-in-Ok-NotYet-clause-hands : goal.returns-in-Ok-NotYet-clause-hands
returns-in-Ok-NotYet-clause-hands g c = λ fed x.
    rw (c.in-Ok-NotYet.field-0-is) at (c.in-Ok-NotYet.ensures.next fed
    (heard_at g.H.Kind.number g.H.Kind.cancels c.loop.caller.pass)
    (c.loop.invariant.heard fed x))

pub returns-in-Ok-Broken-clause-hands : goal.returns-in-Ok-Broken-clause-hands
returns-in-Ok-Broken-clause-hands g c = λ fed x.
    rw (c.in-Ok-Broken.field-0-is) at (c.in-Ok-Broken.ensures.next fed
    (heard_at g.H.Kind.number g.H.Kind.cancels c.loop.caller.pass)
    (c.loop.invariant.heard fed x))

pub returns-in-Err-clause-hands : goal.returns-in-Err-clause-hands
returns-in-Err-clause-hands g c = λ fed x.
    heard_first g.H.Answerer.framing g.H.Answerer.spells fed
    (heard_at g.H.Kind.number g.H.Kind.cancels c.loop.caller.pass) (held c.loop.cutter)
    (c.loop.invariant.heard fed x)

pub returns-in_default-clause-hands : goal.returns-in_default-clause-hands
returns-in_default-clause-hands g c = λ fed x.
    subst (λ (ms : List g.row.X.Denot). Begins (form_of g.H.Answerer.framing) g.H.Answerer.spells
    fed ms) (sym c.in_default.ensures.heard)
    (heard_first g.H.Answerer.framing g.H.Answerer.spells fed
    (heard_at g.H.Kind.number g.H.Kind.cancels c.loop.caller.pass) (held c.loop.cutter)
    (c.loop.invariant.heard fed x))
