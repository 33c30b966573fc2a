-- The oldest of those that pass a test: what a table finds first is what the journal says last.
use Rattle.std.proofs.Common.{◌≡◌, Bool, true, false, ◌||◌, cond, List, [], ◌∷◌, filter, map, reverse, Option, Some, None, is_some, option_map, refl, ap, sym, subst, ◌∙◌}
use Rattle.std.specs.List.{find, list_any}
use Rattle.exec_journal.specs.Entries.{Request}
use Rattle.exec_journal.specs.Rules as r
use Rattle.exec_journal.proofs.Histories.{AllOf}
use Rattle.exec_journal.proofs.Ruled.{by_bool}
use Rattle.list_lemmas.specs.Options.{or_else}
use Rattle.request_table.specs.Entries.{EachOf}
use Rattle.request_table.proofs.Lists.{find_append, reverse_front}

map_or : {X Y : Type 0} (g : X → Y) (o : Option X) (x : X)
    → option_map g (or_else o (Some x)) ≡ or_else (option_map g o) (Some (g x))
map_or g None x = refl
map_or g (Some y) x = refl

or_none : {X : Type 0} (o : Option X) → or_else o None ≡ o
or_none None = refl
or_none (Some x) = refl

pub find_oldest : {X Y : Type 0} (q : Y → Bool) (q' : X → Bool) (g : X → Y) → ((x : X) → q (g x) ≡ q' x)
    → (xs : List X) → find q (reverse (map g xs)) ≡ option_map g (r.oldest (filter q' xs))
find_oldest q q' g same [] = refl
find_oldest {X} {Y} q q' g same (x ∷ xs) =
    ap (find q) (reverse_front (g x) (map g xs)) ∙ find_append q (reverse (map g xs)) (g x ∷ [])
    ∙ ap (λ (o : Option Y). or_else o (cond (q (g x)) (Some (g x)) None))
    (find_oldest q q' g same xs)
    ∙ ap (λ b. or_else (option_map g (r.oldest (filter q' xs))) (cond b (Some (g x)) None)) (same x)
    ∙ newest (q' x)
  where
    newest : (b : Bool) → or_else (option_map g (r.oldest (filter q' xs)))
        (cond b (Some (g x)) None) ≡ option_map g (r.oldest
        (cond b (x ∷ filter q' xs) (filter q' xs)))
    newest true = sym (map_or g (r.oldest (filter q' xs)) x)
    newest false = or_none (option_map g (r.oldest (filter q' xs)))

pub map_twice : {X Y Z : Type 0} (h : Y → Z) (g : X → Y) (o : Option X)
    → option_map h (option_map g o) ≡ option_map (λ x. h (g x)) o
map_twice h g None = refl
map_twice h g (Some x) = refl

there : {X Y : Type 0} (g : X → Y) (o : Option X) (x : X)
    → is_some (option_map g (or_else o (Some x))) ≡ true
there g None x = refl
there g (Some y) x = refl

-- some of a list passes exactly where the oldest of those that pass is there
pub some_oldest : {X Y : Type 0} (g : X → Y) (q : X → Bool) (xs : List X)
    → is_some (option_map g (r.oldest (filter q xs))) ≡ list_any q xs
some_oldest g q [] = refl
some_oldest g q (x ∷ xs) =
    by_bool (q x) (λ b. is_some (option_map g (r.oldest (cond b (x ∷ filter q xs) (filter q xs)))) ≡
    (b || list_any q xs)) (λ _. there g (r.oldest (filter q xs)) x) (λ _. some_oldest g q xs)

pub any_same : (p q : Request → Bool) (rs : List Request) → EachOf (λ x. p x ≡ q x) rs
    → list_any p rs ≡ list_any q rs
any_same p q [] h = refl
any_same p q (x ∷ xs) h = ap (λ b. b || list_any p xs) h.0
    ∙ ap (λ b. q x || b) (any_same p q xs h.1)

-- ---- of each

pub each_map : (P Q : Request → Type 0) → ((x : Request) → P x → Q x) → (rs : List Request)
    → EachOf P rs → EachOf Q rs
each_map P Q g [] h = tt
each_map P Q g (x ∷ xs) h = (g x h.0, each_map P Q g xs h.1)

newest_all : (P : Request → Type 0) (y x : Request) (o : Option Request) → P y
    → (o ≡ Some x → P x) → or_else o (Some y) ≡ Some x → P x
newest_all P y x (Some z) h rest k = rest k
newest_all P y x None h rest k = let same : y ≡ x = cc in subst P same h

pub oldest_all : (P : Request → Type 0) (q : Request → Bool) (rs : List Request) → AllOf P rs
    → (x : Request) → r.oldest (filter q rs) ≡ Some x → P x
oldest_all P q [] all x h = absurd (cc)
oldest_all P q (y ∷ ys) all x h =
    by_bool (q y) (λ b. r.oldest (cond b (y ∷ filter q ys) (filter q ys)) ≡ Some x → P x)
    (λ _ k. newest_all P y x (r.oldest (filter q ys)) all.0 (λ e. oldest_all P q ys all.1 x e) k)
    (λ _ k. oldest_all P q ys all.1 x k) h
