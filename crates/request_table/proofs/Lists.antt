-- Lists of places and of requests: filters, maps and the order of sending.
use Rattle.std.proofs.Common.{◌≡◌, ℕ, ◌==◌, zero, suc, Bool, true, false, ◌&&◌, cond, List, [], ◌∷◌, ◌++◌, length, filter, reverse, Some, refl, ap, sym, ◌∙◌}
use Rattle.std.specs.Prelude.{map, pos}
use Rattle.std.specs.List.{find}
use Rattle.std.specs.Ordering.{int_eq}
use Rattle.std.specs.Bool.{one_answer}
use Rattle.std.proofs.lemmas.Bool.{eqb-true, eq-eqb}
use Rattle.std.proofs.lemmas.Bool.Decides.{Decides-int_eq}
use Rattle.std.proofs.lemmas.List.{reverse-append}
use Rattle.std.proofs.lemmas.List.Elements.{filter-append}
use Rattle.list_lemmas.specs.Options.{or_else}
use Rattle.exec_journal.specs.Entries.{Request}
use Rattle.list_lemmas.specs.Places.{update}
use Rattle.exec_journal.proofs.Ruled.{by_bool}
use Rattle.request_table.specs.Entries.{EachOf}
use Rattle.request_table.specs.Stands.{natural}

pub update_length : {X : Type 0} (g : X → X) (xs : List X) (k : ℕ) → length (update g xs k) ≡ length xs
update_length g [] k = refl
update_length g (x ∷ xs) zero = refl
update_length g (x ∷ xs) (suc k) = ap suc (update_length g xs k)

pub update_twice : {X : Type 0} (g h : X → X) (xs : List X) (k : ℕ) → update h (update g xs k) k ≡ update (λ x. h (g x)) xs k
update_twice g h [] k = refl
update_twice g h (x ∷ xs) zero = refl
update_twice {X} g h (x ∷ xs) (suc k) = ap (λ (ys : List X). x ∷ ys) (update_twice g h xs k)

pub filter_both : {X : Type 0} (p q : X → Bool) (xs : List X) → filter (λ x. p x && q x) xs ≡ filter q (filter p xs)
filter_both p q [] = refl
filter_both {X} p q (x ∷ xs) = elim (p x) as (λ b. cond (b && q x) (x ∷ filter (λ y. p y && q y) xs) (filter (λ y. p y && q y) xs) ≡ filter q (cond b (x ∷ filter p xs) (filter p xs))) [
  | true ↦ ap (λ (ys : List X). cond (q x) (x ∷ ys) ys) (filter_both p q xs)
  | false ↦ filter_both p q xs
]

pub filter_swap : {X : Type 0} (p q : X → Bool) (xs : List X) → filter p (filter q xs) ≡ filter q (filter p xs)
filter_swap p q [] = refl
filter_swap {X} p q (x ∷ xs) = by_bool (p x) (λ b. filter p (cond (q x) (x ∷ filter q xs) (filter q xs)) ≡ filter q (cond b (x ∷ filter p xs) (filter p xs)))
    (λ yes. elim (q x) as (λ c. filter p (cond c (x ∷ filter q xs) (filter q xs)) ≡ cond c (x ∷ filter q (filter p xs)) (filter q (filter p xs))) [
      | true ↦ rw yes (ap (λ (ys : List X). x ∷ ys) (filter_swap p q xs))
      | false ↦ filter_swap p q xs
    ])
    (λ no. elim (q x) as (λ c. filter p (cond c (x ∷ filter q xs) (filter q xs)) ≡ filter q (filter p xs)) [
      | true ↦ rw no (filter_swap p q xs)
      | false ↦ filter_swap p q xs
    ])

pub filter_again : {X : Type 0} (p : X → Bool) (xs : List X) → filter p (filter p xs) ≡ filter p xs
filter_again p [] = refl
filter_again {X} p (x ∷ xs) = by_bool (p x) (λ b. filter p (cond b (x ∷ filter p xs) (filter p xs)) ≡ cond b (x ∷ filter p xs) (filter p xs))
    (λ yes. rw yes (ap (λ (ys : List X). x ∷ ys) (filter_again p xs)))
    (λ no. filter_again p xs)

pub filter_map : {X Y : Type 0} (p : Y → Bool) (g : X → Y) (xs : List X) → filter p (map g xs) ≡ map g (filter (λ x. p (g x)) xs)
filter_map p g [] = refl
filter_map {X} {Y} p g (x ∷ xs) = elim (p (g x)) as (λ b. cond b (g x ∷ filter p (map g xs)) (filter p (map g xs)) ≡ map g (cond b (x ∷ filter (λ y. p (g y)) xs) (filter (λ y. p (g y)) xs))) [
  | true ↦ ap (λ (ys : List Y). g x ∷ ys) (filter_map p g xs)
  | false ↦ filter_map p g xs
]

pub find_append : {X : Type 0} (p : X → Bool) (xs ys : List X) → find p (xs ++ ys) ≡ or_else (find p xs) (find p ys)
find_append p [] ys = refl
find_append p (x ∷ xs) ys = elim (p x) as (λ b. cond b (Some x) (find p (xs ++ ys)) ≡ or_else (cond b (Some x) (find p xs)) (find p ys)) [
  | true ↦ refl
  | false ↦ find_append p xs ys
]

pub reverse_front : {X : Type 0} (x : X) (xs : List X) → reverse (x ∷ xs) ≡ reverse xs ++ x ∷ []
reverse_front x xs = reverse-append (x ∷ []) xs

filter_end : {X : Type 0} (p : X → Bool) (x : X) (xs ys : List X) → ys ≡ reverse (filter p xs) → ys ++ filter p (x ∷ []) ≡ reverse (cond (p x) (x ∷ filter p xs) (filter p xs))
filter_end {X} p x xs ys e = elim (p x) as (λ b. ys ++ cond b (x ∷ []) [] ≡ reverse (cond b (x ∷ filter p xs) (filter p xs))) [
  | true ↦ ap (λ (zs : List X). zs ++ x ∷ []) e ∙ sym (reverse_front x (filter p xs))
  | false ↦ append_none ys ∙ e
]
  where
    append_none : (zs : List X) → zs ++ [] ≡ zs
    append_none [] = refl
    append_none (z ∷ zs) = ap (λ (us : List X). z ∷ us) (append_none zs)

pub filter_reverse : {X : Type 0} (p : X → Bool) (xs : List X) → filter p (reverse xs) ≡ reverse (filter p xs)
filter_reverse p [] = refl
filter_reverse p (x ∷ xs) = ap (filter p) (reverse_front x xs) ∙ filter-append p (reverse xs) (x ∷ []) ∙ filter_end p x xs (filter p (reverse xs)) (filter_reverse p xs)

pub map_append : {X Y : Type 0} (g : X → Y) (xs ys : List X) → map g (xs ++ ys) ≡ map g xs ++ map g ys
map_append g [] ys = refl
map_append {X} {Y} g (x ∷ xs) ys = ap (λ (zs : List Y). g x ∷ zs) (map_append g xs ys)

pub map_reverse : {X Y : Type 0} (g : X → Y) (xs : List X) → map g (reverse xs) ≡ reverse (map g xs)
map_reverse g [] = refl
map_reverse {X} {Y} g (x ∷ xs) = ap (map g) (reverse_front x xs) ∙ map_append g (reverse xs) (x ∷ []) ∙ ap (λ (ys : List Y). ys ++ g x ∷ []) (map_reverse g xs) ∙ sym (reverse_front (g x) (map g xs))

pub map_map : {X Y Z : Type 0} (h : Y → Z) (g : X → Y) (xs : List X) → map h (map g xs) ≡ map (λ x. h (g x)) xs
map_map h g [] = refl
map_map {X} {Y} {Z} h g (x ∷ xs) = ap (λ (zs : List Z). h (g x) ∷ zs) (map_map h g xs)

-- ---- requests

pub each_and : (P Q R : Request → Type 0) → ((r : Request) → P r → Q r → R r) → (rs : List Request) → EachOf P rs → EachOf Q rs → EachOf R rs
each_and P Q R f [] ps qs = tt
each_and P Q R f (r ∷ rs) ps qs = (f r ps.0 qs.0, each_and P Q R f rs ps.1 qs.1)

pub each_filter : (P : Request → Type 0) (p : Request → Bool) (rs : List Request) → EachOf P rs → EachOf P (filter p rs)
each_filter P p [] all = tt
each_filter P p (r ∷ rs) all = elim (p r) as (λ b. EachOf P (cond b (r ∷ filter p rs) (filter p rs))) [
  | true ↦ (all.0, each_filter P p rs all.1)
  | false ↦ each_filter P p rs all.1
]

pub filter_same : (p q : Request → Bool) (rs : List Request) → EachOf (λ r. p r ≡ q r) rs → filter p rs ≡ filter q rs
filter_same p q [] all = refl
filter_same p q (r ∷ rs) all = rw all.0 (ap (λ (qs : List Request). cond (q r) (r ∷ qs) qs) (filter_same p q rs all.1))

pub filter_all : (p : Request → Bool) (rs : List Request) → EachOf (λ r. p r ≡ true) rs → filter p rs ≡ rs
filter_all p [] all = refl
filter_all p (r ∷ rs) all = rw all.0 (ap (λ (qs : List Request). r ∷ qs) (filter_all p rs all.1))

pub filter_none : (p : Request → Bool) (rs : List Request) → EachOf (λ r. p r ≡ false) rs → filter p rs ≡ []
filter_none p [] all = refl
filter_none p (r ∷ rs) all = rw all.0 (filter_none p rs all.1)

pub map_same : {Y : Type 0} (g h : Request → Y) (rs : List Request) → EachOf (λ r. g r ≡ h r) rs → map g rs ≡ map h rs
map_same g h [] all = refl
map_same {Y} g h (r ∷ rs) all = rw all.0 (ap (λ (ys : List Y). h r ∷ ys) (map_same g h rs all.1))

-- ---- numbers

pub int_eq_pos : (a b : ℕ) → int_eq (pos a) (pos b) ≡ (a == b)
int_eq_pos a b = one_answer (int_eq (pos a) (pos b)) (a == b) (Decides-int_eq (pos a) (pos b)) ((λ h. ap pos (eqb-true a b h)), (λ e. eq-eqb a b (ap natural e)))
