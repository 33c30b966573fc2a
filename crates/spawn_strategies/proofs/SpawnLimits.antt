-- What holds of all options that words give.
use Rattle.std.proofs.Common.{◌≡◌, ◌≤◌, ℕ, ◌+◌, nat_le, Bool, true, false, not, ◌&&◌, cond, List, [], ◌∷◌, Option, Some, None, is_some, option_and_then, option_map, IfSome, unwrap_or, refl, ◌∙◌, arith}
use Rattle.std.specs.Prelude.{codes, filter_map}
use Rattle.std.specs.List.{cons_option}
use Rattle.std.proofs.lemmas.Bool.{and_parts, leb-true}
use Rattle.std.proofs.lemmas.Bool.Decides.{nat_tests}
use Rattle.tool_words.specs.declared.options.Options.{Options}
use Rattle.tool_words.specs.Words.{behind, is_short_number, number_of, value_of, within}
use Rattle.tool_words.specs.Options.{AreInLimits, first_of, given, is_accepted, options_of}
use Rattle.tool_words.proofs.Limits.{within_limits}
use Rattle.spawn_strategies.specs.declared.numbers.Number.TheVariants as number
use Rattle.spawn_strategies.specs.declared.said.Said.{Said}
use Rattle.spawn_strategies.specs.declared.types.SpawnOptions.{SpawnOptions}
use Rattle.spawn_strategies.specs.declared.types.Strategies.{Strategies}
use Rattle.spawn_strategies.specs.Choices.{are_different, says_sandboxed, sandboxes as sandboxes_of}
use Rattle.spawn_strategies.specs.SpawnWords.{number_in}
use Rattle.spawn_strategies.specs.SpawnOptions.{AreGiven, AreSpawnLimits, fits_together, given_options, if_fitting, is_single, other_words, said_of, spawn_given, stands_once}

-- ---- a number within its limits

abbrev IsWithin : ℕ → ℕ → ℕ → Type 0
IsWithin least most n = (least ≤ n) × (n ≤ most)

in_within : (least most n : ℕ) → IfSome (within least most n) (IsWithin least most)
in_within least most n = by (nat_le least n && nat_le n most) refl
  where
    by : (b : Bool) → nat_le least n && nat_le n most ≡ b → IfSome (cond b (Some n) None) (IsWithin least most)
    by true e = (grind (arith, nat_tests), grind (arith, nat_tests))
    by false e = tt

in_number : (least most : ℕ) (digits : List ℕ) → IfSome (number_of least most digits) (IsWithin least most)
in_number least most digits = by (is_short_number digits)
  where
    by : (b : Bool) → IfSome (cond b (within least most (value_of digits)) None) (IsWithin least most)
    by true = in_within least most (value_of digits)
    by false = tt

in_option : (least most : ℕ) (o : Option (List ℕ)) → IfSome (option_and_then (number_of least most) o) (IsWithin least most)
in_option least most None = tt
in_option least most (Some digits) = in_number least most digits

-- what holds of each number that a word gives, and of the default, holds of the one that is taken
first_by : (P : ℕ → Type 0) (d : ℕ) (o : Option ℕ) (ys : List ℕ) → IfSome o P → P (unwrap_or (first_of ys) d) → P (unwrap_or (first_of (cons_option o ys)) d)
first_by P d None ys h rest = rest
first_by P d (Some y) ys h rest = h

first_is : (f : List ℕ → Option ℕ) (P : ℕ → Type 0) (d : ℕ) → ((w : List ℕ) → IfSome (f w) P) → P d → (ws : List (List ℕ)) → P (unwrap_or (first_of (filter_map f ws)) d)
first_is f P d each default [] = default
first_is f P d each default (w ∷ ws) = first_by P d (f w) (filter_map f ws) (each w) (first_is f P d each default ws)

sandboxes : (words : List (List ℕ)) → IsWithin 1 16 (unwrap_or (first_of (filter_map (number_in number.Sandboxed) words)) 1)
sandboxes words = first_is (number_in number.Sandboxed) (IsWithin 1 16) 1 (λ w. in_option 1 16 (behind (codes "--sandboxed=") w)) (omega arith, omega arith) words

delays : (words : List (List ℕ)) → IsWithin 0 9999 (unwrap_or (first_of (filter_map (number_in number.Delay) words)) 0)
delays words = first_is (number_in number.Delay) (IsWithin 0 9999) 0 (λ w. in_option 0 9999 (behind (codes "--local_delay=") w)) (omega arith, omega arith) words

-- ---- all of it

different : (s : Said) → is_single s ≡ true → are_different s.rules ≡ true
different s single =
    let a = are_different s.rules in
    let b = stands_once s.commons in
    let c = stands_once s.executors in
    let d = stands_once s.sandboxes in
    (and_parts a b (and_parts (a && b) c (and_parts (a && b && c) d (and_parts (a && b && c && d) (stands_once s.delays) single).0).0).0).0

abbrev said_with : List (List ℕ) → Options → SpawnOptions
said_with words o = spawn_given o (said_of words)

when_given : (words : List (List ℕ)) (o : Options) → is_single (said_of words) ≡ true → AreInLimits o → AreGiven (said_with words o)
when_given words o single limits = record {
  options = limits;
  rules = different (said_of words) single;
  some_sandboxed = (sandboxes words).0;
  few_sandboxed = (sandboxes words).1;
  delay = (delays words).1;
}

when_single : (words others : List (List ℕ)) → is_single (said_of words) ≡ true
    → IfSome (option_map (λ o. said_with words o) (options_of others)) AreGiven
when_single words others single = by (is_accepted others) refl
  where
    by : (b : Bool) → is_accepted others ≡ b
        → IfSome (option_map (λ o. said_with words o) (cond b (Some (given others)) None)) AreGiven
    by true e = when_given words (given others) single (within_limits others e)
    by false e = tt

pub given_limits : (words : List (List ℕ)) → IfSome (given_options words) AreGiven
given_limits words = by (is_single (said_of words)) refl
  where
    by : (b : Bool) → is_single (said_of words) ≡ b
        → IfSome (cond b (option_map (λ o. said_with words o) (options_of (other_words words))) None) AreGiven
    by true e = when_single words (other_words words) e
    by false e = tt

most_sandboxes : (words : Strategies) → sandboxes_of words ≤ words.sandboxed
most_sandboxes words = elim (says_sandboxed words) as (λ b. cond b words.sandboxed 0 ≤ words.sandboxed) [ true ↦ omega arith | false ↦ omega arith ]

when_fitting : (s : SpawnOptions) → AreGiven s → IfSome (if_fitting s) AreSpawnLimits
when_fitting s given = by (fits_together s) refl
  where
    by : (b : Bool) → fits_together s ≡ b → IfSome (cond b (Some s) None) AreSpawnLimits
    by true e =
        let both = s.options.remote + s.strategies.sandboxed in
        let parts = and_parts (not (is_some s.options.generate)) (nat_le both 16) e in
        let sum = leb-true both 16 parts.1 in
        let wanted = most_sandboxes s.strategies in
        let options = given.options in
        record {
          fitting = record { given = given; few = omega (arith, sum, wanted) };
          has_list = options.one_source ∙ parts.0;
        }
    by false e = tt

pub fitting_limits : (o : Option SpawnOptions) → IfSome o AreGiven → IfSome (option_and_then if_fitting o) AreSpawnLimits
fitting_limits None given = tt
fitting_limits (Some s) given = when_fitting s given
