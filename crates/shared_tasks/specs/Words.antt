-- Which words the command with shared berths takes, and what they give.
use Rattle.std.specs.Prelude.{◌≤◌, ◌≡◌, ℕ, true, Option, Some, None, is_some, is_none, option_and_then, if◌then◌else◌, List, [], ◌∷◌, codes, filter_map}
use Rattle.std.specs.List.{filter}
use Rattle.tool_words.specs.declared.options.Options.{Options}
use Rattle.tool_words.specs.Options.{AreInLimits, options_of}
use Rattle.tool_words.specs.Words.{number_behind}
use Rattle.shared_tasks.specs.declared.words.SharedOptions.{SharedOptions}

-- the number of local workers that a word gives
abbrev pub workers_in : List ℕ → Option ℕ
workers_in word = number_behind (codes "--max_workers=") 1 24 word

-- the words that give none
abbrev pub others : List (List ℕ) → List (List ℕ)
others words = filter (λ word. is_none (workers_in word)) words

-- a list is read, and none is generated
abbrev pub of_list : ℕ → Options → Option SharedOptions
of_list n o = if is_some o.list then Some (record { options = o; workers = n }) else None

-- the one of them, where there is one and no other
abbrev pub only : {X : Type 0} → List X → Option X
only (x ∷ []) = Some x
only _ = None

-- one word gives the number, and the others name a list as the words of `worker_tool` do
abbrev pub shared_options_of : List (List ℕ) → Option SharedOptions
shared_options_of words =
    option_and_then (λ n. option_and_then (of_list n) (options_of (others words)))
    (only (filter_map workers_in words))

abbrev pub IsWithin : ℕ → ℕ → ℕ → Type 0
IsWithin least most n = (least ≤ n) × (n ≤ most)

-- what holds of all options that are given
pub record AreShared (o : SharedOptions) : Type 0 where
  pub options : AreInLimits o.options
  pub workers : IsWithin 1 24 o.workers
  pub list : is_some o.options.list ≡ true
