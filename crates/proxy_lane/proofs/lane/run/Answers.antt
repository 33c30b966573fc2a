use Rattle.std.proofs.Common.{ap, sym, subst, ◌∙◌}
use Rattle.seat_desk.specs.Passes.{mine}
use Rattle.core_contract.specs.Shelf.{child_at}
use Rattle.core_contract.specs.Duties.{duty_of}
use Rattle.proxy_laws.specs.Lanes.{LaneObjects}
use Rattle.proxy_laws.specs.Steps.{open_in, SomeKeeps, Finishes, IsServedBy}
use Rattle.proxy_laws.proofs.Serving.{first_keeps, served_by}
use Rattle.proxy_lane.specs.Sites.{means_at}
use Rattle.proxy_lane.proofs.lane.run.Goals as goal

pub serve-halted-requires : goal.serve-halted-requires
serve-halted-requires g c =
    let means = means_at c.args.site in
    let rules = g.C.Rules.discipline in
    let p = c.new-caller.result.pass in
    let b = g.B.Berth.told c.args.berth in
    let held = c.new-hands.ensures in
    let fresh = ap mine c.new-caller.ensures.pass ∙ c.requires.fresh in record {
      at_site = rw (sym c.new-caller.ensures.pass) at c.requires.site;
      asks = ap duty_of fresh;
      tidy = ap (child_at c.args.site.berth) fresh ∙ sym (ap open_in held);
      kept = subst (λ (h : LaneObjects). SomeKeeps means rules p h) (sym held)
          (b, first_keeps means rules p b fresh);
    }

pub returns-clause-served : goal.returns-clause-served
returns-clause-served g c =
    let means = means_at c.args.site in
    let rules = g.C.Rules.discipline in
    let p = c.new-caller.result.pass in
    let x2 = c.serve-halted.new.self in
    let p2 = x2.caller.pass in
    let b = g.B.Berth.told c.args.berth in
    let halted = c.serve-halted.result in
    let ends = subst (λ (h : LaneObjects). Finishes means rules halted p h p2 x2.hands) c.new-hands.ensures
    c.serve-halted.ensures.ends in
    let served = served_by means rules p p2 b x2.hands halted c.serve-halted.ensures.same.pass
    (ap mine c.new-caller.ensures.pass ∙ c.requires.fresh) ends in
    rw c.into_pass.ensures
    (subst (λ (h : LaneObjects). IsServedBy means rules b h.berth h.ended h.unsaid halted p2)
    (sym c.hands.view_is) served)
