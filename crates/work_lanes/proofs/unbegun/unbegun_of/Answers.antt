use Rattle.std.proofs.Common.{◌∙◌, sym, ap, length, arith}
use Rattle.work_lanes.proofs.Idle.{held}
use Rattle.work_lanes.proofs.unbegun.unbegun_of.Goals as goal

pub reader_of-input-requires : goal.reader_of-input-requires
reader_of-input-requires g c =
    let r = c.requires.lanes in (r.0, r.1, c.from_vec-lanes.ensures.items ∙ r.2)

pub handlers_of-handlers-requires-clause-room : goal.handlers_of-handlers-requires-clause-room
handlers_of-handlers-requires-clause-room g c =
    let first = ap length c.reader_of-input.ensures in
    let all = ap length c.from_vec-lanes.ensures.items in
    omega (arith, first, all, c.requires.room)

pub returns-clause-lanes : goal.returns-clause-lanes
returns-clause-lanes g c = λ input depth handlers a.
    let h = held input depth handlers c.args.unstarted.lanes.items c.reader_of-input.result
    c.reader_of-input.new.lanes.items
    (sym c.from_vec-lanes.ensures.items ∙ c.reader_of-input.ensures) a in
    (h.0, c.handlers_of-handlers.ensures ∙ h.1)
