use Rattle.std.specs.Prelude.{ℕ, List, Option}
use Rattle.indexmap.specs.IndexMap.{get_by_text}
use Rattle.list_actions.specs.declared.makers.LastMakers.{LastMakers}

-- the number that the table has for the path
abbrev pub last_maker : LastMakers → List ℕ → Option ℕ
last_maker m q = get_by_text m.makers q
