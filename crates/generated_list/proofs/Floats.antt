-- A generated list has no number, and so no float.
use Rattle.std.proofs.Common.{◌≡◌, ℕ, zero, suc, ◌%◌, ◌==◌, ◌-◌, nat_le, decimal, Bool, true, false, ◌||◌, refl, List, [], ◌∷◌, ◌++◌, map, ◌∙◌, sym, ap, cond, codes}
use Rattle.serde_json.specs.Data.{Data, Items, no_items, item, Members, no_members, put, string}
use Rattle.serde_json.specs.View.{items_of}
use Rattle.serde_json.specs.Written.{has_float, items_have_float, members_have_float}
use Rattle.generated_list.specs.Generated.{action_data, actions_below, generated_data, inputs_data, needed, needs_data}

needs_none : (odd both : Bool)
    → members_have_float (needed both (codes "requires-worker-protocol") (codes "json")
    (needed odd (codes "supports-multiplex-workers") (codes "1")
    (put (codes "supports-worker-cancellation") (string (codes "1"))
    (put (codes "supports-workers") (string (codes "1")) no_members)))) ≡ false
needs_none false false = refl
needs_none false true = refl
needs_none true false = refl
needs_none true true = refl

inputs_none : (n : ℕ) → has_float (inputs_data n) ≡ false
inputs_none n =
    by (nat_le 7 n) (codes "flags/" ++ decimal n) (codes "out/" ++ decimal (n - 7))
  where
    by : (b : Bool) (own made : List ℕ)
        → items_have_float (items_of (string own ∷ cond b (string made ∷ []) [])) ≡ false
    by true own made = refl
    by false own made = refl

action_none : (n : ℕ) → has_float (action_data n) ≡ false
action_none n =
    ap (λ (b : Bool). b || (false || (false || (false || (has_float (needs_data n) || (false || false)))))) (inputs_none n)
    ∙ ap (λ (b : Bool). b || (false || false)) (needs_none (n % 2 == 1) (n % 4 == 3))

one_more : (ds : List Data) (d : Data) → items_have_float (items_of ds) ≡ false → has_float d ≡ false
    → items_have_float (items_of (ds ++ d ∷ [])) ≡ false
one_more [] d none own = ap (λ (b : Bool). b || false) own
one_more (e ∷ ds) d none own = both (has_float e) _ _ none (λ rest. one_more ds d rest own)
  where
    both : (a b c : Bool) → a || b ≡ false → (b ≡ false → c ≡ false) → a || c ≡ false
    both false b c h f = f h
    both true b c h f = absurd (cc)

pub none_in : (n : ℕ) → items_have_float (items_of (actions_below n)) ≡ false
none_in zero = refl
none_in (suc n) = one_more (actions_below n) (action_data n) (none_in n) (action_none n)

pub no_floats : (n : ℕ) → has_float (generated_data n) ≡ false
no_floats n = ap (λ (b : Bool). b || false) (none_in n)
