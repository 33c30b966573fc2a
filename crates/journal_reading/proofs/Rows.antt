-- The grammar's loop over an array, an element at a time, under the conversion to data.
use Rattle.std.proofs.Common.{◌≡◌, ℕ, zero, suc, ◌-◌, ◌<◌, ◌≤◌, List, [], ◌∷◌, length, Option, Some, None, option_map, option_and_then, refl, sym, ap, ◌∙◌, arith}
use Rattle.json.specs.Token.{Token}
use Rattle.json.specs.Token as token
use Rattle.json.specs.Json as json
use Rattle.json.specs.Json.{Parse, parse_map, after_end_array, items_step, items, value, skip_value}
use Rattle.json.proofs.Grammar.{items_end, items_more, value_is, skip_value-shorter, closed_array}
use Rattle.serde_json.specs.Data.{Data, array, no_items, item}
use Rattle.serde_json.specs.Read.{of_json, of_items, converted}

abbrev pub pick : {A : Type 0} → A → Option A → A
pick d None = d
pick d (Some a) = a

pub found : {A B : Type 0} (a : A) (r s : List Token) (x : Option B) (b : B) → option_map {U = B × List Token} (λ y. (y, r)) x ≡ Some (b, s) → (r ≡ s) × (x ≡ Some b)
found a r s None b e = absurd (cc)
found a r s (Some y) b e = let same = ap (pick (y, r)) e in (ap (λ p. p.1) same, ap (λ p. Some p.0) same)

pub converted_some : {A B : Type 0} (f : A → Option B) (o : Option (A × List Token)) (b : B) (r : List Token) → converted f o ≡ Some (b, r) → (a : A) × (o ≡ Some (a, r)) × (f a ≡ Some b)
converted_some f None b r e = absurd (cc)
converted_some f (Some p) b r e = let both = found p.0 p.1 r (f p.0) b e in (p.0, ap (λ s. Some (p.0, s)) both.0, both.1)

pub refused : {B : Type 0} (r : List Token) (x : Option B) → option_map {U = B × List Token} (λ y. (y, r)) x ≡ None → x ≡ None
refused r None e = refl
refused r (Some y) e = absurd (cc)

twice : {A B : Type 0} (g : A → B) (r : List Token) (x : Option A) → option_map (λ b. (b, r)) (option_map g x) ≡ parse_map g (option_map (λ a. (a, r)) x)
twice g r None = refl
twice g r (Some a) = refl

pub converted-array : (o : Option (json.Items × List Token)) → converted of_json (parse_map json.array o) ≡ parse_map array (converted of_items o)
converted-array None = refl
converted-array (Some p) = twice array p.1 (of_items p.0)

with_item : (j : json.Json) (d : Data) → of_json j ≡ Some d → (o : Option (json.Items × List Token)) → converted of_items (parse_map (json.item j) o) ≡ parse_map (item d) (converted of_items o)
with_item j d e None = refl
with_item j d e (Some p) = rw e (twice (item d) p.1 (of_items p.0))

without_item : (j : json.Json) → of_json j ≡ None → (o : Option (json.Items × List Token)) → converted of_items (parse_map (json.item j) o) ≡ None
without_item j e None = refl
without_item j e (Some p) = rw e

-- ---- how many turns are counted plays no part

module _ (p : Parse json.Json) (takes : (ts r : List Token) (j : json.Json) → p ts ≡ Some (j, r) → length r < length ts) where
  turn : (n m : ℕ) → ((ts : List Token) → length ts ≤ n → length ts ≤ m → items p n ts ≡ items p m ts) → (ts : List Token) → length ts ≤ suc n → length ts ≤ suc m → (o : Option (List Token)) → (q : Option (json.Json × List Token)) → p ts ≡ q
      → items_step p (items p n) ts o ≡ items_step p (items p m) ts o
  turn n m same ts few fewer (Some r) q e = refl
  turn n m same ts few fewer None None e = rw e refl
  turn n m same ts few fewer None (Some (j, r)) e =
      let less : length r < length ts = takes ts r j e in
      rw e (ap (parse_map (json.item j)) (same r (omega arith) (omega arith)))

  none_there : {B : Type 0} (g : json.Json × List Token → Option B) (q : Option (json.Json × List Token)) → p [] ≡ q → option_and_then g q ≡ None
  none_there g None e = refl
  none_there g (Some (j, r)) e = let never : ⊥ = omega (arith, takes [] r j e) in absurd never

  empty : (m : ℕ) → items p m [] ≡ None
  unfolding items
  empty zero = refl
  empty (suc m) = none_there _ (p []) refl

  pub items_enough : (n m : ℕ) (ts : List Token) → length ts ≤ n → length ts ≤ m → items p n ts ≡ items p m ts
  unfolding items
  items_enough zero m [] few fewer = sym (empty m)
  items_enough zero m (t ∷ ts) few fewer = absurd (omega arith)
  items_enough (suc n) zero [] few fewer = empty (suc n)
  items_enough (suc n) zero (t ∷ ts) few fewer = absurd (omega arith)
  items_enough (suc n) (suc m) ts few fewer = turn n m (λ r. items_enough n m r) ts few fewer (after_end_array ts) (p ts) refl

value_takes : (d : ℕ) (ts r : List Token) (j : json.Json) → value d ts ≡ Some (j, r) → length r < length ts
value_takes d ts r j e = skip_value-shorter d ts r (ap (option_map (λ p. p.1)) e)

abbrev nothing : Option (json.Json × List Token)
nothing = None

-- a value begins with no closing bracket
no_end : (d : ℕ) (ts : List Token) (q : Option (List Token)) → after_end_array ts ≡ q → (j : json.Json) (r : List Token) → value d ts ≡ Some (j, r) → q ≡ None
no_end d ts None e j r v = refl
no_end d ts (Some x) e j r v =
    let none : value d (token.end_array ∷ x) ≡ nothing = value_is d (token.end_array ∷ x) in
    let never : nothing ≡ Some (j, r) = sym none ∙ ap (value d) (sym (closed_array ts x e)) ∙ v in
    absurd (cc never)

pub going_on : (d : ℕ) (ts r : List Token) (x : Data) → converted of_json (value d ts) ≡ Some (x, r) → after_end_array ts ≡ None
going_on d ts r x e = let j = converted_some of_json (value d ts) x r e in no_end d ts (after_end_array ts) refl j.0 r j.1

pub next-shorter : (d : ℕ) (ts r : List Token) (x : Data) → converted of_json (value d ts) ≡ Some (x, r) → length r < length ts
next-shorter d ts r x e = let j = converted_some of_json (value d ts) x r e in value_takes d ts r j.0 j.1

-- ---- a turn

-- the next element, and then those behind it
pub item_read : (d : ℕ) (ts r : List Token) (x : Data) → converted of_json (value d ts) ≡ Some (x, r)
    → converted of_items (items (value d) (length ts) ts) ≡ parse_map (item x) (converted of_items (items (value d) (length r) r))
item_read d ts r x e =
    let j = converted_some of_json (value d ts) x r e in
    let less : length r < length ts = value_takes d ts r j.0 j.1 in
    ap (converted of_items) (items_more (value d) (length ts) ts r j.0 (omega arith) (going_on d ts r x e) j.1)
    ∙ with_item j.0 x j.2 (items (value d) (length ts - 1) r)
    ∙ ap (λ o. parse_map (item x) (converted of_items o)) (items_enough (value d) (value_takes d) (length ts - 1) (length r) r (omega arith) (omega arith))

no_item : (more : List Token → Option (json.Items × List Token)) (o : Option (json.Json × List Token)) → converted of_json o ≡ None → converted of_items (option_and_then (λ q. parse_map (json.item q.0) (more q.1)) o) ≡ None
no_item more None e = refl
no_item more (Some q) e = without_item q.0 (refused q.1 (of_json q.0) e) (more q.1)

refused_turn : (p : Parse json.Json) (n : ℕ) (ts : List Token) → after_end_array ts ≡ None → converted of_json (p ts) ≡ None → converted of_items (items p n ts) ≡ None
unfolding items
refused_turn p zero ts going e = refl
refused_turn p (suc n) ts going e = ap (λ o. converted of_items (items_step p (items p n) ts o)) going ∙ no_item (items p n) (p ts) e

-- there is no next element that can be read: the row is at its end, or can't be read either
pub item_refused : (d : ℕ) (ts : List Token) → after_end_array ts ≡ None → converted of_json (value d ts) ≡ None → converted of_items (items (value d) (length ts) ts) ≡ None
item_refused d ts going e = refused_turn (value d) (length ts) ts going e

pub row_over : (d : ℕ) (ts r : List Token) → after_end_array ts ≡ Some r → converted of_items (items (value d) (length ts) ts) ≡ Some (no_items, r)
row_over d ts r e = ap (converted of_items) (items_end (value d) (length ts) ts r (omega arith) e)
