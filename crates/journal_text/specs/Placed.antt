-- The first line of the text of a run: the plan, on its berths, with its Ticks. On berths of its own and
-- without Ticks it is the plan's row alone.
use Rattle.std.specs.Prelude.{ℕ, zero, suc, Bool, true, List, [], ◌∷◌, codes, bytes_eq, if◌then◌else◌, map, Option, Some, None, is_some, unwrap_or}
use Rattle.serde_json.specs.Data.{Data}
use Rattle.run_plan.specs.declared.plan.Plan.{Plan}
use Rattle.placed_rules.specs.declared.placed.Placed.{Placed}
use Rattle.placed_rules.specs.declared.placed.Seating.{Seating}
use Rattle.placed_rules.specs.declared.placed.Seating.TheVariants.{Own, Pools}
use Rattle.placed_rules.specs.declared.pools.SharedPool.{SharedPool}
use Rattle.placed_rules.specs.Placed.{on_own, placed}
use Rattle.journal_text.specs.Options.{◌>>=◌}
use Rattle.journal_text.specs.Reading.{plan_in}
use Rattle.journal_text.specs.Values.{at, count_data, count_in, list_in, row_data, row_in, variant_data, variant_in, whole}
use Rattle.journal_text.specs.Words.{word_data}
use Rattle.journal_text.specs.Writing.{plan_data}

-- own berths without Ticks have no row of their own
abbrev pub has_row : Seating → Option ℕ → Bool
has_row Own ticks = is_some ticks
has_row (Pools pools instances) ticks = true

-- ---- written

abbrev pub pool_data : SharedPool → Data
pool_data x = row_data (row_data (map count_data x.groups) ∷ count_data x.berths ∷ [])

abbrev pub seating_data : Seating → Data
seating_data Own = word_data (codes "Own")
seating_data (Pools pools instances) =
    variant_data (codes "Pools") (row_data (map pool_data pools) ∷ count_data instances ∷ [])

-- how many Ticks are waited for, where there are Ticks, and else 0
abbrev pub ticks_data : Option ℕ → Data
ticks_data ticks = count_data (unwrap_or ticks 0)

abbrev pub placed_data : Placed → Data
placed_data x = variant_data (codes "Placed")
    (plan_data x.plan ∷ seating_data x.seating ∷ ticks_data x.ticks ∷ [])

-- ---- read

abbrev pub pool_in : Data → Option SharedPool
pool_in d = do
  row ← row_in d
  groups ← at (list_in count_in) row
  berths ← at count_in groups.1
  whole (record { groups = groups.0; berths = berths.0 }) berths.1

abbrev pub pools_by : List Data → Option Seating
pools_by row = do
  pools ← at (list_in pool_in) row
  instances ← at count_in pools.1
  whole (Pools pools.0 instances.0) instances.1

abbrev pub seating_by : List ℕ → List Data → Option Seating
seating_by name row =
    if bytes_eq name (codes "Own") then whole Own row
    else if bytes_eq name (codes "Pools") then pools_by row
    else None

abbrev pub seating_in : Data → Option Seating
seating_in d = variant_in d >>= λ v. seating_by v.0 v.1

abbrev pub ticks_of : ℕ → Option ℕ
ticks_of zero = None
ticks_of (suc n) = Some (suc n)

-- where the seating with these Ticks has a row
abbrev pub ticks_for : Seating → ℕ → Option (Option ℕ)
ticks_for seating n = if has_row seating (ticks_of n) then Some (ticks_of n) else None

abbrev pub ticks_in : Seating → Data → Option (Option ℕ)
ticks_in seating d = count_in d >>= ticks_for seating

abbrev pub placed_row : List Data → Option Placed
placed_row row = do
  plan ← at plan_in row
  seating ← at seating_in plan.1
  ticks ← at (ticks_in seating.0) seating.1
  whole (placed plan.0 seating.0 ticks.0) ticks.1

abbrev pub placed_by : List ℕ → List Data → Option Placed
placed_by name row = if bytes_eq name (codes "Placed") then placed_row row else None

abbrev pub placed_in : Data → Option Placed
placed_in d = variant_in d >>= λ v. placed_by v.0 v.1

-- ---- either row

-- a plan on berths of its own, without Ticks
abbrev pub alone : Option Plan → Option Placed
alone None = None
alone (Some p) = Some (on_own p None)

abbrev pub or_else : {A : Type 0} → Option A → Option A → Option A
or_else (Some x) other = Some x
or_else None other = other
