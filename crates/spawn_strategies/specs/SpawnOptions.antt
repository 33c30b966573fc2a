-- Which words are accepted, and what they say. Their order doesn't matter, but for that of rules
-- and of extra flags.
use Rattle.std.specs.Prelude.{◌≡◌, ◌≤◌, ℕ, ◌+◌, ◌&&◌, Bool, true, not, if◌then◌else◌, nat_le, List, [], length, codes, filter, filter_map, Option, Some, None, is_some, option_and_then, option_map, unwrap_or}
use Rattle.run_plan.specs.Limits.{most_remote_berths}
use Rattle.tool_words.specs.Options.{AreInLimits, first_of, options_of}
use Rattle.tool_words.specs.declared.options.Options.{Options}
use Rattle.spawn_strategies.specs.declared.numbers.Number.TheVariants as number
use Rattle.spawn_strategies.specs.declared.said.Said.{Said}
use Rattle.spawn_strategies.specs.declared.types.SpawnOptions.{SpawnOptions}
use Rattle.spawn_strategies.specs.Choices.{are_different, sandboxes}
use Rattle.spawn_strategies.specs.SpawnWords.{common_in, executor_in, is_taken, number_in, rule_in}

-- all that these words say of strategies, sandboxes and the delay, in order
abbrev pub said_of : List (List ℕ) → Said
said_of words = record {
  rules = filter_map rule_in words;
  commons = filter_map common_in words;
  executors = filter_map executor_in words;
  sandboxes = filter_map (number_in number.Sandboxed) words;
  delays = filter_map (number_in number.Delay) words;
}

-- the words that are left for `tool_words`, in order
abbrev pub other_words : List (List ℕ) → List (List ℕ)
other_words words = filter (λ word. not (is_taken word)) words

abbrev pub stands_once : {X : Type 0} → List X → Bool
stands_once xs = nat_le (length xs) 1

-- No two rules have one mnemonic, and each other thing is said at most once.
abbrev pub is_single : Said → Bool
is_single s =
    are_different s.rules && stands_once s.commons && stands_once s.executors
    && stands_once s.sandboxes && stands_once s.delays

-- what is said, beside these options, with the defaults
abbrev pub spawn_given : Options → Said → SpawnOptions
spawn_given o s = record {
  options = o;
  strategies = record {
    rules = s.rules;
    common = unwrap_or (first_of s.commons) [];
    sandboxed = unwrap_or (first_of s.sandboxes) 1;
  };
  sandbox_executor = unwrap_or (first_of s.executors) (codes "remote_exec");
  local_delay = unwrap_or (first_of s.delays) 0;
}

-- A list is given and not generated, and there are few enough executors and sandboxes together.
abbrev pub fits_together : SpawnOptions → Bool
fits_together s =
    not (is_some s.options.generate)
    && nat_le (s.options.remote + s.strategies.sandboxed) most_remote_berths

abbrev pub if_fitting : SpawnOptions → Option SpawnOptions
if_fitting s = if fits_together s then Some s else None

-- the options that the words give, and none exactly where they can't be read
abbrev pub given_options : List (List ℕ) → Option SpawnOptions
given_options words =
    if is_single (said_of words)
    then option_map (λ o. spawn_given o (said_of words)) (options_of (other_words words))
    else None

-- what holds of all options that words give
pub record AreGiven (s : SpawnOptions) : Type 0 where
  pub options : AreInLimits s.options
  pub rules : are_different s.strategies.rules ≡ true
  pub some_sandboxed : 1 ≤ s.strategies.sandboxed
  pub few_sandboxed : s.strategies.sandboxed ≤ most_remote_berths
  pub delay : s.local_delay ≤ 9999

-- the options of a list with strategies, and none exactly where the words aren't accepted
abbrev pub spawn_options_of : List (List ℕ) → Option SpawnOptions
spawn_options_of words = option_and_then if_fitting (given_options words)

-- what the plan of the chosen strategies asks: with the executors there are few sandboxes
pub record AreFitting (s : SpawnOptions) : Type 0 where
  pub given : AreGiven s
  pub few : sandboxes s.strategies + s.options.remote ≤ most_remote_berths

-- what holds of the options of a list with strategies
pub record AreSpawnLimits (s : SpawnOptions) : Type 0 where
  pub fitting : AreFitting s
  pub has_list : is_some s.options.list ≡ true
