use Rattle.std.specs.Prelude.{ℕ, List, Bool}
use Rattle.indexmap.specs.IndexSet.{contains_text}
use Rattle.list_actions.specs.declared.seen.Seen.{Seen}

-- the text was seen
abbrev pub has_seen : Seen → List ℕ → Bool
has_seen s q = contains_text s.texts q
