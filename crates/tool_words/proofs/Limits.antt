-- The options' numbers lie within their limits, and they name one source.
use Rattle.std.proofs.Common.{◌≡◌, ◌≤◌, ℕ, ◌+◌, nat_le, nat_eq, Bool, true, false, not, ◌&&◌, cond, List, [], ◌∷◌, Option, Some, None, is_some, option_and_then, IfSome, unwrap_or, refl, sym, ap, ◌∙◌, arith}
use Rattle.std.specs.Prelude.{codes, filter_map, count_by}
use Rattle.std.specs.List.{cons_option, list_all}
use Rattle.std.proofs.lemmas.Bool.{and_parts}
use Rattle.std.proofs.lemmas.Bool.Decides.{nat_tests}
use Rattle.std.proofs.lemmas.List.Recursion.{is_count_by}
use Rattle.tool_words.specs.declared.word.Kind.TheVariants as kind
use Rattle.tool_words.specs.Words.{behind, within, number_of, is_short_number, value_of, number_in, text_in}
use Rattle.tool_words.specs.Options.{is_accepted, is_known, single_kinds, given, first_of, count, number_given, AreInLimits}

abbrev pub IsWithin : ℕ → ℕ → ℕ → Type 0
IsWithin least most n = (least ≤ n) × (n ≤ most)

in_within : (least most n : ℕ) → IfSome (within least most n) (IsWithin least most)
in_within least most n = by (nat_le least n && nat_le n most) refl
  where
    by : (b : Bool) → nat_le least n && nat_le n most ≡ b → IfSome (cond b (Some n) None) (IsWithin least most)
    by true e = (grind (arith, nat_tests), grind (arith, nat_tests))
    by false e = tt

in_number : (least most : ℕ) (digits : List ℕ) → IfSome (number_of least most digits) (IsWithin least most)
in_number least most digits = by (is_short_number digits)
  where
    by : (b : Bool) → IfSome (cond b (within least most (value_of digits)) None) (IsWithin least most)
    by true = in_within least most (value_of digits)
    by false = tt

-- of what stands behind an option's front
pub in_option : (least most : ℕ) (o : Option (List ℕ)) → IfSome (option_and_then (number_of least most) o) (IsWithin least most)
in_option least most None = tt
in_option least most (Some digits) = in_number least most digits

-- ---- what holds of each value that a word gives holds of the first

first_by : {Y : Type 0} (P : Y → Type 0) (o : Option Y) (ys : List Y) → IfSome o P → IfSome (first_of ys) P → IfSome (first_of (cons_option o ys)) P
first_by P None ys h rest = rest
first_by P (Some y) ys h rest = h

first_is : {X Y : Type 0} (f : X → Option Y) (P : Y → Type 0) → ((x : X) → IfSome (f x) P) → (xs : List X) → IfSome (first_of (filter_map f xs)) P
first_is f P each [] = tt
first_is f P each (x ∷ xs) = first_by P (f x) (filter_map f xs) (each x) (first_is f P each xs)

or_default : (P : ℕ → Type 0) (d : ℕ) (o : Option ℕ) → IfSome o P → P d → P (unwrap_or o d)
or_default P d None h e = e
or_default P d (Some n) h e = h

-- ---- one source

-- a value is given exactly where some word gives one
abbrev counted : {X Y : Type 0} (f : X → Option Y) → List X → ℕ
counted f [] = 0
counted f (x ∷ xs) = cond (is_some (f x)) (1 + counted f xs) (counted f xs)

given_by : {Y : Type 0} (o : Option Y) (ys : List Y) (n : ℕ) → is_some (first_of ys) ≡ nat_le 1 n → is_some (first_of (cons_option o ys)) ≡ nat_le 1 (cond (is_some o) (1 + n) n)
given_by None ys n rest = rest
given_by (Some y) ys n rest = grind (arith, nat_tests)

given_from : {X Y : Type 0} (f : X → Option Y) (xs : List X) → is_some (first_of (filter_map f xs)) ≡ nat_le 1 (counted f xs)
given_from f [] = refl
given_from f (x ∷ xs) = given_by (f x) (filter_map f xs) (counted f xs) (given_from f xs)

is_given : {X Y : Type 0} (f : X → Option Y) (xs : List X) → is_some (first_of (filter_map f xs)) ≡ nat_le 1 (count_by (λ x. is_some (f x)) xs)
is_given f xs = given_from f xs ∙ ap (nat_le 1) (is_count_by (counted f) (λ x. is_some (f x)) refl (λ x xs. refl) xs)

one_of_two : (a b : ℕ) → nat_eq (a + b) 1 ≡ true → nat_le 1 a ≡ not (nat_le 1 b)
one_of_two a b e = by (nat_le 1 a) (nat_le 1 b) refl refl
  where
    by : (x y : Bool) → nat_le 1 a ≡ x → nat_le 1 b ≡ y → x ≡ not y
    by true false h k = refl
    by false true h k = refl
    by true true h k = absurd (grind (arith, nat_tests))
    by false false h k = absurd (grind (arith, nat_tests))

-- ---- all of it

pub within_limits : (words : List (List ℕ)) → is_accepted words ≡ true → AreInLimits (given words)
within_limits words e = record {
  one_source = is_given (text_in kind.List) words ∙ one_of_two (count kind.List words) (count kind.Generate words) one ∙ ap not (sym (is_given (number_in kind.Generate) words));
  instances = or_default (IsWithin 1 48) 4 (number_given kind.Instances words) (first_is (number_in kind.Instances) (IsWithin 1 48) (λ w. in_option 1 48 (behind (codes "--instances=") w)) words) (omega arith, omega arith);
  remote = or_default (IsWithin 1 16) 1 (number_given kind.Remote words) (first_is (number_in kind.Remote) (IsWithin 1 16) (λ w. in_option 1 16 (behind (codes "--remote=") w)) words) (omega arith, omega arith);
  retries = (or_default (IsWithin 0 9) 1 (number_given kind.Retries words) (first_is (number_in kind.Retries) (IsWithin 0 9) (λ w. in_option 0 9 (behind (codes "--retries=") w)) words) (omega arith, omega arith)).1;
}
  where
    one : nat_eq (count kind.List words + count kind.Generate words) 1 ≡ true
    one = (and_parts (list_all is_known words && list_all (λ k. nat_le (count k words) 1) single_kinds) (nat_eq (count kind.List words + count kind.Generate words) 1) e).1
