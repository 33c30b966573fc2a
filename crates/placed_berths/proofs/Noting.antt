-- What a call makes of a policy's tables: after it they stand for the journal with its entry.
use Rattle.std.proofs.Common.{◌≡◌, ℕ, Bool, true, false, ◌&&◌, List, Option, Some, None, ap, refl, subst}
use Rattle.run_plan.specs.declared.plan.Plan.{Plan}
use Rattle.exec_journal.specs.Attempts.{begun_in}
use Rattle.exec_journal.specs.Entries.{is_kept}
use Rattle.exec_journal.specs.Entry.{Entry}
use Rattle.exec_journal.specs.Legal.{after}
use Rattle.exec_journal.specs.declared.call.Call.{Call}
use Rattle.exec_journal.specs.declared.reply.Reply.{Reply}
use Rattle.exec_journal.proofs.Ruled.{by_bool}
use Rattle.core_state.specs.declared.state.State.{State}
use Rattle.core_contract.specs.Disciplines.{LegalBy}
use Rattle.core_laws.specs.Stands.{Stands}
use Rattle.placed_rules.specs.declared.placed.Seating.{Seating}
use Rattle.placed_rules.specs.declared.placed.Seating.TheVariants as seating
use Rattle.placed_rules.specs.declared.pools.SharedPlan.{SharedPlan}
use Rattle.placed_rules.specs.Due.{is_tick}
use Rattle.placed_rules.specs.Placed.{placed, placed_discipline, pooled_discipline, shared_by}
use Rattle.placed_rules.specs.Pools.{usable}
use Rattle.placed_berths.specs.declared.policy.Berths.TheVariants as own
use Rattle.placed_berths.specs.declared.shared.SharedBerths.{SharedBerths}
use Rattle.placed_berths.specs.Basis.{usable_in}
use Rattle.placed_berths.specs.Counts.{Facts, IsCounted, IsMarked}
use Rattle.placed_berths.specs.Due.{last_of}
use Rattle.placed_berths.specs.Stands.{BerthsStand, DelayStands, PoolsStand, StandsFor}
use Rattle.placed_berths.proofs.TicksNoted.{ticked, uncounted}

module _ (lane : ℕ) (c : Call) (x : Reply) where
  -- ---- Ticks

  module _ (f g : Facts) (s : State)
      (counted : (is_tick c && is_kept x) ≡ true → IsCounted s.ready f g)
      (marked : (is_tick c && is_kept x) ≡ false
      → IsMarked (last_of s.plan.limit (begun_in x)) f g) where
    delay_noted : (p : Plan) (n seats : ℕ) (j : List Entry) → StandsFor p n f j
        → Stands p seats s (after j lane c x) → StandsFor p n g (after j lane c x)
    delay_noted p n seats j so st =
        by_bool (is_tick c && is_kept x) (λ _. StandsFor p n g (after j lane c x))
        (λ on. ticked p n f j lane so seats s g c x on st (counted on))
        (λ off. uncounted p n f j lane so g c x
        (subst (λ k. IsMarked (last_of k (begun_in x)) f g) (ap (λ (q : Plan). q.limit) st.plan)
        (marked off)) off)

    pub tick_noted : (p : Plan) (ticks : Option ℕ) (seats : ℕ) (j : List Entry)
        → DelayStands p ticks (Some f) j → Stands p seats s (after j lane c x)
        → DelayStands p ticks (Some g) (after j lane c x)
    tick_noted p None seats j so st = absurd so
    tick_noted p (Some n) seats j so st = delay_noted p n seats j so st

  -- there are none
  pub none_noted : (p : Plan) (ticks : Option ℕ) (j : List Entry) → DelayStands p ticks None j
      → DelayStands p ticks None (after j lane c x)
  none_noted p None j so = tt
  none_noted p (Some n) j so = absurd so

  -- ---- berths

  pub own_noted : (p : Plan) (y : Seating) (j : List Entry) → BerthsStand p y own.Own j
      → BerthsStand p y own.Own (after j lane c x)
  own_noted p seating.Own j so = tt
  own_noted p (seating.Pools pools instances) j so = absurd so

  pub pools_noted : (m n : SharedBerths)
      → ((q : SharedPlan) (ticks : Option ℕ) (j : List Entry) → PoolsStand q m j
      → LegalBy (pooled_discipline (usable q) ticks) (after j lane c x)
      → PoolsStand q n (after j lane c x))
      → (p : Plan) (y : Seating) (ticks : Option ℕ) (j : List Entry)
      → BerthsStand p y (own.Shared m) j
      → LegalBy (placed_discipline (placed p (usable_in p y) ticks)) (after j lane c x)
      → BerthsStand p y (own.Shared n) (after j lane c x)
  pools_noted m n noted p seating.Own ticks j so legal = absurd so
  pools_noted m n noted p (seating.Pools pools instances) ticks j so legal =
      noted (shared_by p pools instances) ticks j so legal
