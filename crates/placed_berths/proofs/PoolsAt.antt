-- A policy whose berths are those of pools has so many.
use Rattle.std.proofs.Common.{◌≡◌, ◌<◌, ℕ, ap, sym, subst, ◌∙◌}
use Rattle.run_plan.specs.declared.plan.Plan.{Plan}
use Rattle.core_state.specs.declared.state.State.{State}
use Rattle.placed_rules.specs.Placed.{placed_discipline, seats_with, served_in}
use Rattle.placed_rules.specs.Pools.{usable_seats}
use Rattle.placed_rules.proofs.Usable.{usable_berths}
use Rattle.placed_berths.specs.declared.policy.Berths.{Berths}
use Rattle.placed_berths.specs.declared.policy.Berths.TheVariants as own
use Rattle.placed_berths.specs.declared.policy.PlacedBerths.{PlacedBerths}
use Rattle.placed_berths.specs.declared.shared.SharedBerths.{SharedBerths}
use Rattle.placed_berths.specs.Basis.{placed_by, seating_in, shared_by, ticks_in, usable_in, usable_placed}
use Rattle.placed_berths.specs.Choices.{ReadsOn, all_seats}
use Rattle.placed_berths.specs.PoolLaws.{own_berth}

pub served_is : (m : Berths) (x : SharedBerths) (p : Plan) (n : ℕ) → m ≡ own.Shared x
    → n ≡ usable_seats x.pools → n ≡ served_in p (usable_in p (seating_in m))
served_is m x p n is many =
    many ∙ sym (usable_berths (shared_by x p))
    ∙ ap (λ (y : Berths). served_in p (usable_in p (seating_in y))) (sym is)

pub shared_berth : (m : PlacedBerths) (x : SharedBerths) (s : State) (w : ℕ)
    → m.seating ≡ own.Shared x → ReadsOn m.seating m.delay s
    → w < (placed_discipline (usable_placed (placed_by m s.plan))).seats
    → w < all_seats (shared_by x s.plan) m.delay
shared_berth m x s w is reads lt =
    own_berth (shared_by x s.plan) (ticks_in m.delay) w
    (subst (λ (y : Berths). ReadsOn y m.delay s) is reads).pools.few
    (subst (λ (y : Berths). w < seats_with (ticks_in m.delay)
    (served_in s.plan (usable_in s.plan (seating_in y)))) is lt)
