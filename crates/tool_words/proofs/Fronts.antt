-- What `strip_prefix` gives.
use Rattle.std.proofs.Common.{◌≡◌, ℕ, true, false, List, drop, nat_eq, Option, Some, None, Bor, ap, sym, subst, ◌∙◌}
use Rattle.std.specs.Option.{option_copied, MatchOption}
use Rattle.std.specs.List.{starts_with}
use Rattle.std.specs.Str.{IsCharBoundary}
use Rattle.std.specs.Str.Pattern.{FindsTextPrefix, StripsPrefix}
use Rattle.std.proofs.lemmas.Str.Pattern.{starts_text}
use Rattle.tool_words.specs.Words.{after_front}

pub stripped : (front word : List ℕ) (r : Option (Bor (List ℕ))) → MatchOption r (FindsTextPrefix front word None) (λ x. StripsPrefix (FindsTextPrefix front) word x.now) → option_copied r ≡ after_front front word
stripped front word None h =
    let e : starts_with nat_eq word front ≡ false = sym (starts_text false front word h) in
    rw e
stripped front word (Some x) h =
    let e : starts_with nat_eq word front ≡ true = sym (starts_text true front word (h.0, h.1, subst (IsCharBoundary word) (sym h.1.0) h.1.2)) in
    rw e (ap Some (h.2 ∙ ap (λ n. drop n word) h.1.0))
