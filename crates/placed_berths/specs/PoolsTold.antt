-- What the tables of a core say of the berths of pools is so.
use Rattle.std.proofs.Common.{ℕ, List, Option}
use Rattle.exec_journal.specs.Entry.{Entry}
use Rattle.core_state.specs.declared.state.State.{State}
use Rattle.core_contract.specs.Disciplines.{LegalBy}
use Rattle.core_laws.specs.Stands.{Stands}
use Rattle.placed_rules.specs.declared.pools.SharedPlan.{SharedPlan}
use Rattle.placed_rules.specs.Placed.{pooled_discipline, seats_with}
use Rattle.placed_rules.specs.Pools.{seats}
use Rattle.shared_laws.specs.Spoken.{IsSpoken}
use Rattle.placed_berths.specs.Chosen.{AreTold}
use Rattle.placed_berths.specs.Counts.{Facts}
use Rattle.placed_berths.specs.DueTold as due
use Rattle.placed_berths.specs.Evicted.{evicts_is}
use Rattle.placed_berths.specs.PoolLines.{vacant_is}
use Rattle.placed_berths.specs.Stands.{DelayStands}
use Rattle.placed_berths.specs.StarvedTold.{next_is}

pub are_told : (q : SharedPlan) (ticks : Option ℕ) (d : Option Facts) (s : State) (j : List Entry)
    (spoken : List ℕ) (w : ℕ) → Stands q.plan (seats_with ticks (seats q)) s j
    → LegalBy (pooled_discipline q ticks) j → DelayStands q.plan ticks d j
    → IsSpoken (seats q) j spoken → AreTold q ticks d s j spoken w
are_told q ticks d s j spoken w st legal so order = record {
  due = due.next_is q.plan (seats_with ticks (seats q)) s j st ticks d so;
  vacant = vacant_is q (seats_with ticks (seats q)) s j st w;
  evicts = λ l pool here. evicts_is q ticks d s j st legal so w l pool spoken order here;
  next = λ pool. next_is q ticks d s j st legal so pool;
}
