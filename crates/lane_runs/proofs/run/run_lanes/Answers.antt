use Rattle.std.proofs.Common.{◌+◌, ◌≤◌, ◌∙◌, List, length, refl, ap, sym, subst, arith}
use Rattle.lane_threads.specs.declared.pair.Either.{Either}
use Rattle.core_machine.specs.Objects.{AreFresh}
use Rattle.lane_runs.specs.declared.proxies.ProxyStart.{ProxyStart}
use Rattle.lane_runs.specs.Paced.{MayPace, pacer_back}
use Rattle.tap_lane.specs.declared.seat.TapStart.{TapStart}
use Rattle.run_values.specs.Settings.{AreOfPlan}
use Rattle.lane_runs.specs.Seats.{berths_in}
use Rattle.run_values.specs.Work.{IsWorkOf}
use Rattle.lane_runs.proofs.Running.{FitFrom, all_fit, all_may}
use Rattle.lane_runs.proofs.Ticking.{back_is, seat_gone, seat_may, seat_others, seat_paced}
use Rattle.lane_runs.proofs.Seating.{seated_berths}
use Rattle.lane_runs.proofs.Crewed.{two_each, blank_suits, room_suits}
use Rattle.lane_runs.proofs.Whole.{crewed}
use Rattle.lane_runs.proofs.run.run_lanes.Goals as goal

pub run_crew_beside-requires-clause-few : goal.run_crew_beside-requires-clause-few
run_crew_beside-requires-clause-few g c κs within =
    let m = c.args.means.now in
    let two = two_each m.settings.now m.actions.now 0 c.args.unrun.berths.items m.speeches.now
    c.lanes_of-lanes.result.items c.lanes_of-lanes.ensures in
    let few = c.requires.few in
    omega (arith, two, few)

pub run_crew_beside-requires-clause-may_run : goal.run_crew_beside-requires-clause-may_run
run_crew_beside-requires-clause-may_run g c κs within =
    let r = g.C.Rules in
    let m = c.args.means.now in
    let basis = sym c.in-Ok-new.ensures.basis in
    let fewer = c.requires.seats in
    all_may _ r.discipline g.B.Berth.told g.B.Feed.Feed.told
    g.B.Tap.Tap.told g.B.Child.Child.told _ m.settings.now m.actions.now 0
    c.args.unrun.berths.items m.speeches.now c.lanes_of-lanes.result.items c.lanes_of-lanes.ensures
    (subst (λ (q : g.row.C-Plan.Denot). 0 + length m.speeches.now ≤ (r.discipline q).seats) basis
    (omega (arith, fewer)))
    (subst (λ (q : g.row.C-Plan.Denot). AreOfPlan (r.discipline q).plan m.settings.now) basis
    c.requires.settings)
    (subst (λ (q : g.row.C-Plan.Denot). FitFrom (r.discipline q) 0 m.speeches.now) basis
    (all_fit (r.discipline (r.plan c.args.core)) m.speeches.now c.requires.speeches))
    (subst (λ (q : g.row.C-Plan.Denot). IsWorkOf (r.discipline q).plan m.actions.now) basis c.requires.work)

pub run_crew_beside-requires-clause-may_run_beside : goal.run_crew_beside-requires-clause-may_run_beside
run_crew_beside-requires-clause-may_run_beside g c κs within =
    let r = g.C.Rules in
    let m = c.args.means.now in
    let two = two_each m.settings.now m.actions.now 0 c.args.unrun.berths.items m.speeches.now
    c.lanes_of-lanes.result.items c.lanes_of-lanes.ensures in
    seat_may _ r.discipline g.W.Pacer.told (length m.speeches.now) _ c.args.unrun.pacer
    c.seat_for-ticker.result c.seat_for-ticker.ensures two _
    (subst (λ (q : g.row.C-Plan.Denot). MayPace (r.discipline q) (length m.speeches.now)
    c.args.unrun.pacer) (sym c.in-Ok-new.ensures.basis) c.requires.paced)

pub run_crew_beside-requires-clause-same_beside : goal.run_crew_beside-requires-clause-same_beside
run_crew_beside-requires-clause-same_beside g c κs within = λ seat before left after ran. ran.0

pub lay_out-laid-requires : goal.lay_out-laid-requires
lay_out-laid-requires g c =
    let r = g.C.Rules in
    let h = c.in-Ok-run_crew_beside.left.0.history.items in
    let left = c.in-Ok-run_crew_beside.ensures in
    let m = c.args.means.now in
    let two = two_each m.settings.now m.actions.now 0 c.args.unrun.berths.items m.speeches.now
    c.lanes_of-lanes.result.items c.lanes_of-lanes.ensures in
    let parts = c.into_parts-core.ensures.parts h left.stands.0 in
    let crew = crewed _ r.discipline g.B.Berth.told
    g.B.Feed.Feed.told g.B.Tap.Tap.told g.B.Child.Child.told g.P.Place.told
    c.histories_say.ensures.laws c.lanes_of-lanes.result.items c.in-Ok-new.ensures.basis
    left.stands.1 c.into_parts-core.ensures.basis c.requires.seats
    (c.histories_say.ensures.stands c.into_parts-core.result.0 h parts.0) parts.1.taps
    c.truncate.ensures.items parts.1.places c.lanes_of-lanes.ensures left.lanes
    (seat_others (length m.speeches.now) _ c.args.unrun.pacer c.seat_for-ticker.result
    c.seat_for-ticker.ensures h left.others)
    (seat_gone _ r.discipline g.W.Pacer.told (length m.speeches.now) _ c.args.unrun.pacer
    c.seat_for-ticker.result c.seat_for-ticker.ensures two _ h _ left.beside left.others) in
    let lines = c.histories_say.ensures.fit (r.plan c.args.core) h crew.good in
    let most = c.most_lines-lines.ensures in
    let fits = c.most_lines-lines.type_inv in
    let taps = crew.as_many in
    let places = crew.all_places in
    let all = c.requires.work.as_many in
    crew.may c.in-Ok.blank
    (blank_suits _ _ _ _ _ _ c.in-Ok.blank c.in-Ok.ensures
    (omega (arith, taps)) (omega (arith, lines, most))
    (omega (arith, places, all)))
    (omega (arith, lines, most, fits))

pub returns-in-Ok-run_crew_beside-clause-run : goal.returns-in-Ok-run_crew_beside-clause-run
returns-in-Ok-run_crew_beside-clause-run g c =
    let r = g.C.Rules in
    let h = c.in-Ok-run_crew_beside.left.0.history.items in
    let left = c.in-Ok-run_crew_beside.ensures in
    let m = c.args.means.now in
    let two = two_each m.settings.now m.actions.now 0 c.args.unrun.berths.items m.speeches.now
    c.lanes_of-lanes.result.items c.lanes_of-lanes.ensures in
    let parts = c.into_parts-core.ensures.parts h left.stands.0 in
    let crew = crewed _ r.discipline g.B.Berth.told
    g.B.Feed.Feed.told g.B.Tap.Tap.told g.B.Child.Child.told g.P.Place.told
    c.histories_say.ensures.laws c.lanes_of-lanes.result.items c.in-Ok-new.ensures.basis
    left.stands.1 c.into_parts-core.ensures.basis c.requires.seats
    (c.histories_say.ensures.stands c.into_parts-core.result.0 h parts.0) parts.1.taps
    c.truncate.ensures.items parts.1.places c.lanes_of-lanes.ensures left.lanes
    (seat_others (length m.speeches.now) _ c.args.unrun.pacer c.seat_for-ticker.result
    c.seat_for-ticker.ensures h left.others)
    (seat_gone _ r.discipline g.W.Pacer.told (length m.speeches.now) _ c.args.unrun.pacer
    c.seat_for-ticker.result c.seat_for-ticker.ensures two _ h _ left.beside left.others) in
    crew.run c.lay_out-laid.result c.lay_out-laid.ensures

pub returns-in-Ok-run_crew_beside-clause-ticks : goal.returns-in-Ok-run_crew_beside-clause-ticks
returns-in-Ok-run_crew_beside-clause-ticks g c =
    let r = g.C.Rules in
    let h = c.in-Ok-run_crew_beside.left.0.history.items in
    let left = c.in-Ok-run_crew_beside.ensures in
    let m = c.args.means.now in
    let two = two_each m.settings.now m.actions.now 0 c.args.unrun.berths.items m.speeches.now
    c.lanes_of-lanes.result.items c.lanes_of-lanes.ensures in
    rw (c.lay_out-laid.ensures.journal, c.pacer_left-pacer.ensures)
    (seat_paced _ r.discipline g.W.Pacer.told (length m.speeches.now) _ c.args.unrun.pacer
    c.seat_for-ticker.result c.seat_for-ticker.ensures two _ h _ left.beside)

pub returns-in-Err-clause-back : goal.returns-in-Err-clause-back
returns-in-Err-clause-back g c = rw (c.for_memory-in-Err.ensures) (
  refl,
  subst (λ (ps : List g.row.P.Denot). AreFresh g.P.Place.told
      (length (g.C.Rules.discipline (g.C.Rules.plan c.args.core)).plan.actions) ps)
      (sym c.in-Err.ensures.back) c.requires.places,
  refl,
)

pub take_back-requires-clause-stands : goal.take_back-requires-clause-stands
take_back-requires-clause-stands g c = c.in-Err-run_crew_beside.ensures.back.2.0

pub take_back-requires-clause-berths : goal.take_back-requires-clause-berths
take_back-requires-clause-berths g c =
    let same = ap (λ (ls : List (Either (ProxyStart g.row.B.Denot) TapStart)). length (berths_in ls))
    c.in-Err-run_crew_beside.ensures.back.0 in
    let m = c.args.means.now in
    let all = ap length (seated_berths m.settings.now m.actions.now 0 c.args.unrun.berths.items
    m.speeches.now
    c.lanes_of-lanes.result.items c.lanes_of-lanes.ensures) in
    let berths = c.requires.berths in
    room_suits (length m.speeches.now) _ c.in-Ok.blank.berths c.in-Ok.ensures.berths_fit
    (omega (arith, same, all, berths))

pub take_back-requires-clause-places : goal.take_back-requires-clause-places
take_back-requires-clause-places g c =
    let all = c.requires.work.as_many in
    let same = ap (λ (q : g.row.C-Plan.Denot). (length (g.C.Rules.discipline q).plan.actions))
    (c.in-Err-run_crew_beside.ensures.back.2.1 ∙ c.in-Ok-new.ensures.basis) in
    room_suits (length c.args.means.now.actions.now) _ c.in-Ok.blank.places c.in-Ok.ensures.places_fit
    (omega (arith, all, same))

pub returns-in-Err-run_crew_beside-clause-back : goal.returns-in-Err-run_crew_beside-clause-back
returns-in-Err-run_crew_beside-clause-back g c = (
  c.take_back.ensures.berths ∙ (ap berths_in c.in-Err-run_crew_beside.ensures.back.0
      ∙ seated_berths c.args.means.now.settings.now c.args.means.now.actions.now 0
      c.args.unrun.berths.items c.args.means.now.speeches.now
      c.lanes_of-lanes.result.items c.lanes_of-lanes.ensures),
  subst (λ (q : g.row.C-Plan.Denot). AreFresh g.P.Place.told (length (g.C.Rules.discipline q).plan.actions)
      c.take_back.result.places.items)
      (c.in-Err-run_crew_beside.ensures.back.2.1 ∙ c.in-Ok-new.ensures.basis) c.take_back.ensures.places,
  c.take_back.ensures.pacer ∙ (ap pacer_back (c.in-Err-run_crew_beside.ensures.back.1
      ∙ c.seat_for-ticker.ensures) ∙ back_is (length c.args.means.now.speeches.now) c.args.unrun.pacer),
)
