use Rattle.std.proofs.Common.{◌≡◌, drop}
use Rattle.core_state.specs.Reports.{places_counts, places_states}
use Rattle.core_state.proofs.Places.{SameRoom}
use Rattle.core_state.proofs.reports.end_places.Given as goal

-- what is left to do comes to the same, and the tables keep their room
abbrev pub invariant-loop-place : goal.invariant-loop-place
invariant-loop-place l =
    (places_counts l.plan l.race l.attempts l.seat (drop l.place-index l.places)
    ≡ places_counts l.plan l.race l.initial.attempts l.seat l.places)
    × (places_states l.plan l.race l.attempts l.ready l.seat (drop l.place-index l.places)
    ≡ places_states l.plan l.race l.initial.attempts l.initial.ready l.seat l.places)
    × SameRoom l.initial.attempts l.attempts l.initial.ready l.ready
