-- What the table notes beside the states, so that no search goes through them all.
use Rattle.std.specs.Prelude.{ℕ, List}

-- of each action how many of its producers, from the first on, have success; a place for each action
-- that waits; and for each group such places for the actions that have a queued branch of it
pub record Facts : Type 0 where
  pub supplied : List ℕ
  pub waiting : List ℕ
  pub queues : List (List ℕ)
