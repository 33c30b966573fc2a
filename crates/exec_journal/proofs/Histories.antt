-- What follows from the words on histories: an entry that they found stands there, and where no entry fits they find none.
use Rattle.std.proofs.Common.{◌≡◌, Bool, true, false, cond, List, [], ◌∷◌, Option, Some, None, ◌⊎◌, inl, inr, refl, subst}
use Rattle.std.specs.List.{filter, find}
use Rattle.std.proofs.lemmas.Bool.{or_cases}
use Rattle.exec_journal.specs.Entry.{Entry}
use Rattle.exec_journal.specs.History.{ever, latest, first, each, AtEach}
use Rattle.list_lemmas.specs.Options.{or_else, unless_before, and_more}
use Rattle.exec_journal.specs.Rules.{head, oldest}

-- it holds of some entry, with what came before it
abbrev pub AtSome : (List Entry → Entry → Type 0) → List Entry → Type 0
AtSome P [] = ⊥
AtSome P (e ∷ j) = P j e ⊎ AtSome P j

pub some_map : (P Q : List Entry → Entry → Type 0) → ((j : List Entry) (e : Entry) → P j e → Q j e) → (j : List Entry) → AtSome P j → AtSome Q j
some_map P Q f (e ∷ j) (inl h) = inl (f j e h)
some_map P Q f (e ∷ j) (inr h) = inr (some_map P Q f j h)
some_map P Q f [] h = h

-- what holds of each entry holds of that one
pub some_each : (P Q : List Entry → Entry → Type 0) → (j : List Entry) → AtSome P j → AtEach Q j → AtSome (λ k e. P k e × Q k e) j
some_each P Q (e ∷ j) (inl h) all = inl (h, all.1)
some_each P Q (e ∷ j) (inr h) all = inr (some_each P Q j h all.0)
some_each P Q [] h all = h

pub each_map : (P Q : List Entry → Entry → Type 0) → ((j : List Entry) (e : Entry) → P j e → Q j e) → (j : List Entry) → AtEach P j → AtEach Q j
each_map P Q f [] all = tt
each_map P Q f (e ∷ j) all = (each_map P Q f j all.0, f j e all.1)

-- a property of journals that further entries keep, at one that comes later
pub some_later : (P : List Entry → Entry → Type 0) (Q : List Entry → Type 0) → ((j : List Entry) (e : Entry) → P j e → Q (e ∷ j))
    → ((j : List Entry) (e : Entry) → Q j → Q (e ∷ j)) → (j : List Entry) → AtSome P j → Q j
some_later P Q here more (e ∷ j) (inl h) = here j e h
some_later P Q here more (e ∷ j) (inr h) = more j e (some_later P Q here more j h)
some_later P Q here more [] h = absurd h

unless_some : {X : Type 0} (o q : Option X) (x : X) → unless_before o q ≡ Some x → (o ≡ Some x) ⊎ (q ≡ Some x)
unless_some None q x h = inr h
unless_some (Some y) None x h = inl h
unless_some (Some y) (Some z) x h = inr h

or_some : {X : Type 0} (o q : Option X) (x : X) → or_else o q ≡ Some x → (o ≡ Some x) ⊎ (q ≡ Some x)
or_some None q x h = inr h
or_some (Some y) q x h = inl h

either_at : {A B C D : Type 0} → A ⊎ B → (A → C) → (B → D) → C ⊎ D
either_at (inl a) f g = inl (f a)
either_at (inr b) f g = inr (g b)

pub first_from : {X : Type 0} (f : List Entry → Entry → Option X) (j : List Entry) (x : X) → first f j ≡ Some x → AtSome (λ k e. f k e ≡ Some x) j
first_from f [] x h = absurd (cc)
first_from f (e ∷ j) x h = either_at (unless_some (f j e) (first f j) x h) (λ p. p) (λ q. first_from f j x q)

pub latest_from : {X : Type 0} (f : List Entry → Entry → Option X) (j : List Entry) (x : X) → latest f j ≡ Some x → AtSome (λ k e. f k e ≡ Some x) j
latest_from f [] x h = absurd (cc)
latest_from f (e ∷ j) x h = either_at (or_some (f j e) (latest f j) x h) (λ p. p) (λ q. latest_from f j x q)

pub ever_from : (p : List Entry → Entry → Bool) (j : List Entry) → ever p j ≡ true → AtSome (λ k e. p k e ≡ true) j
ever_from p [] h = absurd (cc)
ever_from p (e ∷ j) h = either_at (or_cases (p j e) (ever p j) h) (λ q. q) (λ q. ever_from p j q)

-- where no entry fits there is none
pub ever_none : (p : List Entry → Entry → Bool) (j : List Entry) → AtEach (λ k e. p k e ≡ false) j → ever p j ≡ false
ever_none p [] all = refl
ever_none p (e ∷ j) all = rw all.1 (ever_none p j all.0)

pub first_none : {X : Type 0} (f : List Entry → Entry → Option X) (j : List Entry) → AtEach (λ k e. f k e ≡ None) j → first f j ≡ None
first_none f [] all = refl
first_none f (e ∷ j) all = rw all.1 (first_none f j all.0)

pub latest_none : {X : Type 0} (f : List Entry → Entry → Option X) (j : List Entry) → AtEach (λ k e. f k e ≡ None) j → latest f j ≡ None
latest_none f [] all = refl
latest_none f (e ∷ j) all = rw all.1 (latest_none f j all.0)

pub each_none : {X : Type 0} (f : List Entry → Entry → Option X) (j : List Entry) → AtEach (λ k e. f k e ≡ None) j → each f j ≡ []
each_none f [] all = refl
each_none f (e ∷ j) all = rw all.1 (each_none f j all.0)

-- ---- lists

-- it holds of each element
abbrev pub AllOf : {X : Type 0} → (X → Type 0) → List X → Type 0
AllOf P [] = Unit {0}
AllOf P (x ∷ xs) = P x × AllOf P xs

pub all_filter : {X : Type 0} (P : X → Type 0) (test : X → Bool) (xs : List X) → AllOf P xs → AllOf P (filter test xs)
all_filter P test [] all = tt
all_filter P test (x ∷ xs) all =
    elim (test x) as (λ b. AllOf P (cond b (x ∷ filter test xs) (filter test xs))) [
      | true ↦ (all.0, all_filter P test xs all.1)
      | false ↦ all_filter P test xs all.1
    ]

pub all_oldest : {X : Type 0} (P : X → Type 0) (xs : List X) (x : X) → AllOf P xs → oldest xs ≡ Some x → P x
all_oldest P [] x all h = absurd (cc)
all_oldest P (y ∷ ys) x all h = elim (or_some (oldest ys) (Some y) x h) [ inl later ↦ all_oldest P ys x all.1 later | inr here ↦ (let e : y ≡ x = cc in subst P e all.0) ]

pub all_head : {X : Type 0} (P : X → Type 0) (xs : List X) (x : X) → AllOf P xs → head xs ≡ Some x → P x
all_head P [] x all h = absurd (cc)
all_head P (y ∷ ys) x all h = let e : y ≡ x = cc in subst P e all.0

pub all_find : {X : Type 0} (P : X → Type 0) (test : X → Bool) (xs : List X) (x : X) → AllOf P xs → find test xs ≡ Some x → P x
all_find P test [] x all h = absurd (cc)
all_find P test (y ∷ ys) x all h =
    elim (test y) as (λ b. cond b (Some y) (find test ys) ≡ Some x → P x) [
      | true ↦ λ k. (let e : y ≡ x = cc in subst P e all.0)
      | false ↦ λ k. all_find P test ys x all.1 k
    ] h

all_more : {X : Type 0} (P : X → Type 0) (o : Option X) (xs : List X) → ((x : X) → o ≡ Some x → P x) → AllOf P xs → AllOf P (and_more o xs)
all_more P None xs g all = all
all_more P (Some x) xs g all = (g x refl, all)

pub all_each : {X : Type 0} (P : X → Type 0) (f : List Entry → Entry → Option X) → ((j : List Entry) (e : Entry) (x : X) → f j e ≡ Some x → P x) → (j : List Entry) → AllOf P (each f j)
all_each P f h [] = tt
all_each P f h (e ∷ j) = all_more P (f j e) (each f j) (λ x g. h j e x g) (all_each P f h j)
