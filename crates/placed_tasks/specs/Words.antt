-- Which words the command that has all options takes, and what they give.
use Rattle.std.specs.Prelude.{ℕ, ◌+◌, nat_le, IfSome, Bool, not, Option, Some, None, is_some, option_and_then, if◌then◌else◌, List, codes, filter, filter_map}
use Rattle.run_plan.specs.Limits.{most_remote_berths}
use Rattle.tool_words.specs.Options.{first_of}
use Rattle.spawn_strategies.specs.declared.types.SpawnOptions.{SpawnOptions}
use Rattle.spawn_strategies.specs.Choices.{sandboxes}
use Rattle.spawn_strategies.specs.SpawnOptions.{AreFitting, given_options, stands_once}
use Rattle.shared_tasks.specs.Words.{IsWithin, workers_in}
use Rattle.placed_tasks.specs.declared.words.RunOptions.{RunOptions}

-- the word gives a number of workers
abbrev pub is_own : List ℕ → Bool
is_own word = is_some (workers_in word)

-- the others, in order
abbrev pub other_words : List (List ℕ) → List (List ℕ)
other_words words = filter (λ word. not (is_own word)) words

-- Executors and sandboxes together are few enough. Without a list of names that has `sandboxed`
-- there are no sandboxes.
abbrev pub fits : SpawnOptions → Bool
fits s = nat_le (sandboxes s.strategies + s.options.remote) most_remote_berths

abbrev pub if_fitting : List ℕ → SpawnOptions → Option RunOptions
if_fitting workers s =
    if fits s
    then Some (record { given = s; workers = first_of workers })
    else None

-- at most one word gives a number of workers
abbrev pub stand_once : List (List ℕ) → Bool
stand_once words = stands_once (filter_map workers_in words)

-- the options that the words give, and none exactly where they aren't accepted
abbrev pub run_options_of : List (List ℕ) → Option RunOptions
run_options_of words =
    if stand_once words
    then option_and_then (if_fitting (filter_map workers_in words))
    (given_options (other_words words))
    else None

-- what holds of all options that are given
pub record AreRunOptions (o : RunOptions) : Type 0 where
  pub fitting : AreFitting o.given
  pub workers : IfSome o.workers (IsWithin 1 24)
