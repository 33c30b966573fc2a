use Rattle.std.specs.Prelude.{ℕ, List, Option}
use Rattle.indexmap.specs.IndexMap.{get_by_text}
use Rattle.run_plan.specs.declared.plan.Maker.{Maker}
use Rattle.list_actions.specs.declared.producers.Producers.{Producers}

-- the place that the table has for the path
abbrev pub producer_of : Producers → List ℕ → Option Maker
producer_of t q = get_by_text t.makers q
