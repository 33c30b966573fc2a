use Rattle.std.proofs.Common.{ℕ, List, Bor, Option, Some, None, lit<}
use Rattle.std.specs.Option.{MatchOption}
use Rattle.std.proofs.lemmas.Str.Pattern.{split_once_first}
use Rattle.spawn_strategies.proofs.listing.cut_at_equals.Goals as goal

abbrev Cut : Type 0
Cut = Bor (List ℕ) × Bor (List ℕ)

last_two : (P : Type 0) (A B C : Cut → Type 0) (r : Option Cut) → MatchOption r P (λ x. A x × B x × C x)
    → MatchOption r P (λ x. B x × C x)
last_two P A B C None h = h
last_two P A B C (Some x) h = (h.1, h.2)

pub returns : goal.returns
returns c =
    last_two _ _ _ _ c.split_once.result
    (split_once_first 61 c.args.text.now c.split_once.result c.split_once.ensures.cases (lit< tt))
