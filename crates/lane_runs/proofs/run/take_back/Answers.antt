-- No lane of the crew has called, so all places lie on the shelf as they were laid there.
use Rattle.std.proofs.Common.{ℕ, List, [], ◌++◌, ◌∙◌, ap, subst, arith}
use Rattle.std.specs.Prelude.{length}
use Rattle.lane_runs.specs.Seats.{berths_in}
use Rattle.core_machine.specs.Objects.{AreFresh}
use Rattle.lane_runs.proofs.Whole.{all_lie, are_fresh}
use Rattle.lane_runs.proofs.run.take_back.Goals as goal

pub all_there-places-requires-clause-there : goal.all_there-places-requires-clause-there
all_there-places-requires-clause-there g c =
    let q = g.C.Rules.plan c.into_parts-core.result.0 in
    let parts = c.into_parts-core.ensures.parts [] c.requires.stands in
    all_lie g.P.Place.told (g.C.Rules.discipline q)
    c.into_parts-core.result.2.items parts.1.places

pub all_there-places-requires-clause-room : goal.all_there-places-requires-clause-room
all_there-places-requires-clause-room g c =
    let parts = c.into_parts-core.ensures.parts [] c.requires.stands in
    let many = parts.1.places.as_many in
    let same = ap (λ (r : g.row.C-Plan.Denot). (length (g.C.Rules.discipline r).plan.actions)) c.into_parts-core.ensures.basis in
    let room = c.requires.places.room in
    record { empty = c.requires.places.empty; room = omega (arith, many, same, room) }

pub returns-clause-berths : goal.returns-clause-berths
returns-clause-berths g c =
    c.berths_of.ensures ∙ ap (λ (bs : List g.row.B.Denot). bs ++ berths_in c.args.unstarted.0.lanes.items)
    c.requires.berths.empty

pub returns-clause-places : goal.returns-clause-places
returns-clause-places g c =
    let q = g.C.Rules.plan c.into_parts-core.result.0 in
    let parts = c.into_parts-core.ensures.parts [] c.requires.stands in
    subst (λ (n : ℕ). AreFresh g.P.Place.told n c.all_there-places.result.items)
    (ap (λ (r : g.row.C-Plan.Denot). (length (g.C.Rules.discipline r).plan.actions)) c.into_parts-core.ensures.basis)
    (are_fresh g.P.Place.told (g.C.Rules.discipline q)
    c.into_parts-core.result.2.items c.all_there-places.result.items parts.1.places
    c.all_there-places.ensures)
