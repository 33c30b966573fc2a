-- New tables stand for the empty journal, by the basis that the policy says.
use Rattle.std.proofs.Common.{◌≡◌, [], Some, sym, subst, refl}
use Rattle.run_plan.specs.declared.plan.Plan.{Plan}
use Rattle.placed_rules.specs.declared.placed.Placed.{Placed}
use Rattle.placed_rules.specs.declared.placed.Seating.{Seating}
use Rattle.placed_rules.specs.declared.placed.Seating.TheVariants as seating
use Rattle.placed_rules.specs.Placed.{placed, shared_by}
use Rattle.placed_rules.proofs.Usable.{usable_is}
use Rattle.placed_berths.specs.declared.policy.PlacedBerths.{PlacedBerths}
use Rattle.placed_berths.specs.Basis.{SoundSeating, placed_by, usable_in, usable_placed}
use Rattle.placed_berths.specs.Laws.{basis_is}
use Rattle.placed_berths.specs.Stands.{StandsBy}

-- sound pools stay
pub usable_same : (p : Plan) (y : Seating) → SoundSeating p y → usable_in p y ≡ y
usable_same p seating.Own sound = refl
usable_same p (seating.Pools pools instances) sound =
    λ i. seating.Pools ((usable_is (shared_by p pools instances) sound i).pools) instances

module _ (b : Placed) (m : PlacedBerths) (stands : StandsBy b m []) where
  pub core_begins : StandsBy (placed_by m b.plan) m []
  core_begins = subst (λ x. StandsBy x m []) (sym (basis_is b m [] stands)) stands

  -- what is said by what it goes by is said by the plan on its berths
  pub by_placed : SoundSeating b.plan b.seating → (P : Placed → Placed → Type 0)
      → P (usable_placed (placed_by m b.plan)) (placed_by m b.plan) → P b b
  by_placed sound P h =
      let same : usable_placed b ≡ b = λ i. placed b.plan (usable_same b.plan b.seating sound i)
      b.ticks in
      subst (λ x. P x b) same (subst (λ x. P (usable_placed x) x) (basis_is b m [] stands) h)
