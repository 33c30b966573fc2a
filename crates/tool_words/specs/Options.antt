-- Which words are accepted, and the options that they give. Their order doesn't matter, but for
-- that of the extra flags.
use Rattle.std.specs.Prelude.{◌≡◌, ◌≤◌, ℕ, Bool, not, is_some, ◌&&◌, ◌==◌, ◌+◌, Option, Some, None, unwrap_or, option_and_then, if◌then◌else◌, List, [], ◌∷◌, nat_le, codes, count_by, filter_map}
use Rattle.std.specs.List.{list_all, list_any}
use Rattle.tool_words.specs.declared.options.Options.{Options}
use Rattle.tool_words.specs.declared.word.Kind.{Kind}
use Rattle.tool_words.specs.declared.word.Kind.TheVariants as kind
use Rattle.tool_words.specs.Words.{fits, number_in, text_in}

-- every kind of word that there is
abbrev pub kinds : List Kind
kinds = kind.List ∷ kind.Verbose ∷ kind.Instances ∷ kind.Remote ∷ kind.Retries ∷ kind.Generate ∷
    kind.Executor ∷ kind.ExtraFlag ∷ []

-- the kinds that stand at most once
abbrev pub single_kinds : List Kind
single_kinds = kind.List ∷ kind.Verbose ∷ kind.Instances ∷ kind.Remote ∷ kind.Retries ∷
    kind.Generate ∷ kind.Executor ∷ []

abbrev pub count : Kind → List (List ℕ) → ℕ
count k words = count_by (fits k) words

abbrev pub is_known : List ℕ → Bool
is_known word = list_any (λ k. fits k word) kinds

-- Each word is of some kind, all but the extra flags stand at most once, and there is one list or
-- one generator.
abbrev pub is_accepted : List (List ℕ) → Bool
is_accepted words =
    list_all is_known words
    && list_all (λ k. nat_le (count k words) 1) single_kinds
    && count kind.List words + count kind.Generate words == 1

-- the first of them, where there is one
abbrev pub first_of : {X : Type 0} → List X → Option X
first_of [] = None
first_of (x ∷ xs) = Some x

abbrev pub number_given : Kind → List (List ℕ) → Option ℕ
number_given k words = first_of (filter_map (number_in k) words)

abbrev pub text_given : Kind → List (List ℕ) → Option (List ℕ)
text_given k words = first_of (filter_map (text_in k) words)

-- what accepted words say
abbrev pub given : List (List ℕ) → Options
given words = record {
  list = text_given kind.List words;
  generate = number_given kind.Generate words;
  verbose = count kind.Verbose words == 1;
  instances = unwrap_or (number_given kind.Instances words) 4;
  remote = unwrap_or (number_given kind.Remote words) 1;
  retries = unwrap_or (number_given kind.Retries words) 1;
  executor = unwrap_or (text_given kind.Executor words) (codes "remote_exec");
  extra = filter_map (text_in kind.ExtraFlag) words;
}

-- the options that the words give, and none exactly where they aren't accepted
abbrev pub options_of : List (List ℕ) → Option Options
options_of words = if is_accepted words then Some (given words) else None

-- how many actions are to be generated: none where the words aren't accepted or don't say so
abbrev pub generated : List (List ℕ) → Option ℕ
generated words = option_and_then (λ (o : Options). o.generate) (options_of words)

-- what holds of all options that are given
pub record AreInLimits (o : Options) : Type 0 where
  pub one_source : is_some o.list ≡ not (is_some o.generate)
  pub instances : (1 ≤ o.instances) × (o.instances ≤ 48)
  pub remote : (1 ≤ o.remote) × (o.remote ≤ 16)
  pub retries : o.retries ≤ 9
