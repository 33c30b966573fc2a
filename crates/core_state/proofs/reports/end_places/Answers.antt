use Rattle.std.proofs.Common.{sym, ap, ◌+◌, get_or, drop, refl, ◌∙◌}
use Rattle.request_table.proofs.Rowed.{blank}
use Rattle.core_state.specs.Reports.{places_counts, places_states, attempt_in}
use Rattle.core_state.proofs.Places.{moved, fits_at, place_keeps, chained, next_place, same_room, same_by}
use Rattle.core_state.proofs.reports.end_places.Goals as goal

pub end_place-requires : goal.end_place-requires
end_place-requires c =
    let x = get_or c.args.places.now c.loop-place.place-index blank in
    λ h. moved c.args.race.now c.args.attempts.now c.loop-place.attempts c.args.ready.now
    c.loop-place.ready (attempt_in c.args.plan.now c.args.seat x.action x.attempt)
    c.loop-place.invariant.2
    (fits_at c.args.plan.now c.args.race.now c.args.attempts.now c.args.ready.now c.args.seat
    c.args.places.now c.loop-place.place-index blank c.requires c.loop-place-test.true h)

pub loop-place-init : goal.loop-place-init
loop-place-init c = (refl, refl, same_room c.args.attempts.now c.args.ready.now)

pub loop-place-preserved : goal.loop-place-preserved
loop-place-preserved c =
    let x = get_or c.args.places.now c.loop-place.place-index blank in
    let next = next_place c.args.places.now c.loop-place.place-index blank c.loop-place-test.true in
    let rest = drop (c.loop-place.place-index + 1) c.args.places.now in
    let e = c.end_place.ensures in (
      ap (λ g. places_counts c.args.plan.now c.args.race.now g c.args.seat rest) e.counts
          ∙ sym (ap (places_counts c.args.plan.now c.args.race.now c.loop-place.attempts
          c.args.seat) next) ∙ c.loop-place.invariant.0,
      (λ k. places_states c.args.plan.now c.args.race.now (e.counts k)
          (e.states k) c.args.seat rest)
          ∙ sym (ap (places_states c.args.plan.now c.args.race.now c.loop-place.attempts
          c.loop-place.ready c.args.seat) next) ∙ c.loop-place.invariant.1,
      chained c.args.attempts.now c.loop-place.attempts c.end_place.new.attempts c.args.ready.now
          c.loop-place.ready c.end_place.new.ready c.loop-place.invariant.2
          (same_by c.loop-place.attempts _ c.end_place.new.attempts c.loop-place.ready _
          c.end_place.new.ready (place_keeps c.args.plan.now c.args.race.now
          c.loop-place.attempts c.loop-place.ready c.args.seat x) e.counts e.states),
    )
