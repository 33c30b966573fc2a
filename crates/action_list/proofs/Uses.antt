-- How keys are used, counted action by action, and what that says of the keys.
use Rattle.std.proofs.Common.{◌≡◌, ℕ, ◌+◌, ◌<◌, ◌≤◌, Bool, true, false, cond, eqb, ltb, is_some, List, [], ◌∷◌, ◌++◌, length, map, take, get_or, set, min, replicate, position, Option, Some, None, refl, sym, ap, subst, ◌∙◌, arith}
use Rattle.std.specs.List.{count_by, position_from}
use Rattle.std.specs.Str.{bytes_eq}
use Rattle.std.proofs.lemmas.Bool.{eq-eqb, eqb-true, eqb-false, ltb-true, ltb-false}
use Rattle.std.proofs.lemmas.List.{get_or-set_same, get_or-set_other, get_or_past, get_or-map, get_or-replicate, length-map, length-replicate, length-set, length-take-le, take_more, ext_get_or}
use Rattle.std.proofs.lemmas.List.FromFn.{fill_by_all, get_or-map-range_with_len, length-map-range_with_len}
use Rattle.std.proofs.lemmas.List.Sums.{count_by-le-length, sum_by-cons, sum_by_push}
use Rattle.std.proofs.lemmas.Slice.Eq.{bytes_eq-Decides}
use Rattle.run_plan.specs.declared.plan.Group.{Group}
use Rattle.list_actions.specs.declared.types.ListAction.{ListAction}
use Rattle.action_list.specs.declared.planning.KeyUse.{KeyUse}
use Rattle.action_list.specs.Keys.{keys_of}
use Rattle.action_list.specs.Plans.{executor_groups, groups_of, is_key, key_group, local_key, local_of, number_of, remote_users, share, users}
use Rattle.action_list.specs.Uses.{is_number, no_use, one_more, use_in, used_group, uses_of, with_use}
use Rattle.action_list.proofs.Numbers.{IsNumbered, at_place, numbered, numbers_are, place_push, position_is}

-- ---- one action more

joined : (b : Bool) (u v : ℕ) (f g : Option ℕ) (n : ℕ) → v ≡ u + cond b 1 0 → g ≡ cond (is_some f) f (cond b (Some n) None)
    → record { users = v; first = g } ≡ cond b (one_more (record { users = u; first = f }) n) (record { users = u; first = f })
joined true u v f g n counted placed =
    let with_users : ℕ → KeyUse = λ k. record { users = k; first = g } in
    let with_first : Option ℕ → KeyUse = λ o. record { users = u + 1; first = o } in
    ap with_users counted ∙ ap with_first placed
joined false u v None g n counted placed =
    let with_users : ℕ → KeyUse = λ k. record { users = k; first = g } in
    let with_first : Option ℕ → KeyUse = λ o. record { users = u; first = o } in
    ap with_users (counted ∙ omega arith) ∙ ap with_first placed
joined false u v (Some m) g n counted placed =
    let with_users : ℕ → KeyUse = λ k. record { users = k; first = g } in
    let with_first : Option ℕ → KeyUse = λ o. record { users = u; first = o } in
    ap with_users (counted ∙ omega arith) ∙ ap with_first placed

use_push : (xs : List (Option ℕ)) (x : Option ℕ) (n : ℕ) → use_in (xs ++ x ∷ []) n ≡ cond (is_number n x) (one_more (use_in xs n) (length xs)) (use_in xs n)
use_push xs x n =
    joined (is_number n x) (count_by (is_number n) xs) _ (position (is_number n) xs) _ (length xs)
    (sum_by_push (λ y. cond (is_number n y) 1 0) xs x) (place_push (is_number n) xs x)

at_use : (count : ℕ) (xs : List (Option ℕ)) (i : ℕ) → i < count → get_or (uses_of count xs) i no_use ≡ use_in xs i
at_use count xs i lt = get_or-map-range_with_len (use_in xs) 0 count i i no_use lt (omega arith)

uses_push : (count : ℕ) (xs : List (Option ℕ)) (x : Option ℕ) → with_use (uses_of count xs) x (length xs) ≡ uses_of count (xs ++ x ∷ [])
uses_push count xs None =
    fill_by_all (use_in (xs ++ None ∷ [])) (uses_of count xs) count no_use (length-map-range_with_len (use_in xs) 0 count)
    (λ i lt. at_use count xs i lt ∙ sym (use_push xs None i))
uses_push count xs (Some m) =
    let uses = uses_of count xs in
    let long = length-map-range_with_len (use_in xs) 0 count in
    let more = one_more (get_or uses m no_use) (length xs) in
    fill_by_all (use_in (xs ++ Some m ∷ [])) (set uses m more) count no_use (length-set uses m more ∙ long)
    (λ i lt.
    elim (eqb m i) as (λ b. eqb m i ≡ b → get_or (set uses m more) i no_use ≡ use_in (xs ++ Some m ∷ []) i) [
      | true ↦ (λ e.
          let same : m ≡ i = eqb-true m i e in
          ap (λ k. get_or (set uses m more) k no_use) (sym same)
          ∙ get_or-set_same uses m more no_use (omega (arith, long, same, lt))
          ∙ ap (λ u. one_more u (length xs)) (at_use count xs m (omega (arith, same, lt)))
          ∙ ap (λ k. one_more (use_in xs k) (length xs)) same
          ∙ sym (use_push xs (Some m) i ∙ ap (λ b. cond b (one_more (use_in xs i) (length xs)) (use_in xs i)) e))
      | false ↦ (λ e.
          get_or-set_other uses m i more no_use (λ same. eqb-false m i e (sym same))
          ∙ at_use count xs i lt
          ∙ sym (use_push xs (Some m) i ∙ ap (λ b. cond b (one_more (use_in xs i) (length xs)) (use_in xs i)) e))
    ] refl)

pub uses_more : (count k : ℕ) (numbers : List (Option ℕ)) (x : Option ℕ) → k < length numbers → x ≡ get_or numbers k x
    → with_use (uses_of count (take k numbers)) x k ≡ uses_of count (take (k + 1) numbers)
uses_more count k numbers x below is =
    let long : length (take k numbers) ≡ k = length-take-le k numbers (omega arith) in
    ap (λ n. with_use (uses_of count (take k numbers)) x n) (sym long)
    ∙ uses_push count (take k numbers) x
    ∙ ap (uses_of count) (sym (take_more numbers k x below ∙ ap (λ v. take k numbers ++ v ∷ []) (sym is)))

pub none_used : (count : ℕ) → replicate count no_use ≡ uses_of count []
none_used count =
    fill_by_all (use_in []) (replicate count no_use) count no_use (length-replicate count no_use)
    (λ i lt. get_or-replicate count i no_use no_use lt)

-- no key has more users than there are actions
pub few_users : (count : ℕ) (xs : List (Option ℕ)) (n : ℕ) → (get_or (uses_of count xs) n no_use).users ≤ length xs
few_users count xs n =
    elim (ltb n count) as (λ b. ltb n count ≡ b → (get_or (uses_of count xs) n no_use).users ≤ length xs) [
      | true ↦ (λ e. let here = ap (λ u. u.users) (at_use count xs n (ltb-true n count e)) in omega (arith, here, count_by-le-length (is_number n) xs))
      | false ↦ (λ e.
          let past = ltb-false n count e in
          let here = ap (λ u. u.users) (get_or_past (uses_of count xs) n no_use (omega (arith, past, length-map-range_with_len (use_in xs) 0 count))) in
          omega (arith, here))
    ] refl

-- ---- by numbers is by keys

number_here : (keys : List (List ℕ)) (i : ℕ) (bytes : List ℕ) (o : Option ℕ) → IsNumbered keys → i < length keys
    → position (λ key. bytes_eq key bytes) keys ≡ o → bytes_eq (get_or keys i []) bytes ≡ false → false ≡ is_number i o
number_here keys i bytes None alone lt is other = refl
number_here keys i bytes (Some n) alone lt is other =
    elim (eqb n i) as (λ b. eqb n i ≡ b → false ≡ b) [
      | true ↦ (λ e. sym other ∙ ap (λ k. bytes_eq (get_or keys k []) bytes) (sym (eqb-true n i e)) ∙ at_place (λ key. bytes_eq key bytes) n keys [] is)
      | false ↦ (λ e. refl)
    ] refl

same_use : (keys : List (List ℕ)) (i : ℕ) (o : Option (List ℕ)) → IsNumbered keys → i < length keys → is_key (get_or keys i []) o ≡ is_number i (number_of keys o)
same_use keys i None alone lt = refl
same_use keys i (Some bytes) alone lt =
    elim (bytes_eq (get_or keys i []) bytes) as (λ b. bytes_eq (get_or keys i []) bytes ≡ b → b ≡ is_number i (position (λ key. bytes_eq key bytes) keys)) [
      | true ↦ (λ e.
          let same : get_or keys i [] ≡ bytes = (bytes_eq-Decides (get_or keys i []) bytes).0 e in
          sym (ap (is_number i) (subst (λ bs. position (λ key. bytes_eq key bs) keys ≡ Some i) same (alone i lt)) ∙ eq-eqb i i refl))
      | false ↦ (λ e. number_here keys i bytes (position (λ key. bytes_eq key bytes) keys) alone lt refl e)
    ] refl

-- tests that answer alike, one of them behind a change, count and find alike
count_map : {X Y : Type 0} (p : X → Bool) (q : Y → Bool) (f : X → Y) (xs : List X) → ((x : X) → p x ≡ q (f x)) → count_by p xs ≡ count_by q (map f xs)
count_map p q f [] h = refl
count_map p q f (x ∷ xs) h =
    sum_by-cons (λ y. cond (p y) 1 0) x xs
    ∙ ap (λ b. cond b 1 0 + count_by p xs) (h x) ∙ ap (λ n. cond (q (f x)) 1 0 + n) (count_map p q f xs h)
    ∙ sym (sum_by-cons (λ y. cond (q y) 1 0) (f x) (map f xs))

from_map : {X Y : Type 0} (p : X → Bool) (q : Y → Bool) (f : X → Y) (i : ℕ) (xs : List X) → ((x : X) → p x ≡ q (f x)) → position_from p i xs ≡ position_from q i (map f xs)
from_map p q f i [] h = refl
from_map p q f i (x ∷ xs) h =
    ap (λ b. cond b (Some i) (position_from p (i + 1) xs)) (h x)
    ∙ ap (λ o. cond (q (f x)) (Some i) o) (from_map p q f (i + 1) xs h)

abbrev use_of : List (Option (List ℕ)) → List ℕ → KeyUse
use_of held key = record { users = users held key; first = position (is_key key) held }

use_is : (keys : List (List ℕ)) (held : List (Option (List ℕ))) (i : ℕ) → IsNumbered keys → i < length keys
    → use_in (map (number_of keys) held) i ≡ use_of held (get_or keys i [])
use_is keys held i alone lt =
    let key = get_or keys i [] in
    let numbers = map (number_of keys) held in
    let same : (o : Option (List ℕ)) → is_key key o ≡ is_number i (number_of keys o) = λ o. same_use keys i o alone lt in
    let with_users : ℕ → KeyUse = λ k. record { users = k; first = position (is_number i) numbers } in
    let with_first : Option ℕ → KeyUse = λ o. record { users = users held key; first = o } in
    ap with_users (sym (count_map (is_key key) (is_number i) (number_of keys) held same))
    ∙ ap with_first (position_is (is_number i) numbers ∙ sym (from_map (is_key key) (is_number i) (number_of keys) 0 held same) ∙ sym (position_is (is_key key) held))

uses_are : (keys : List (List ℕ)) (held : List (Option (List ℕ))) → IsNumbered keys → uses_of (length keys) (map (number_of keys) held) ≡ map (use_of held) keys
uses_are keys held alone =
    let numbers = map (number_of keys) held in
    ext_get_or no_use (uses_of (length keys) numbers) (map (use_of held) keys)
    (length-map-range_with_len (use_in numbers) 0 (length keys) ∙ sym (length-map keys (use_of held)))
    (λ i lt.
    let below : i < length keys = omega (arith, lt, length-map-range_with_len (use_in numbers) 0 (length keys)) in
    at_use (length keys) numbers i below ∙ use_is keys held i alone below ∙ sym (get_or-map (use_of held) keys i [] no_use below))

map_map : {X Y Z : Type 0} (g : Y → Z) (f : X → Y) (xs : List X) → map g (map f xs) ≡ map (λ x. g (f x)) xs
map_map g f [] = refl
map_map g f (x ∷ xs) = ap (λ zs. g (f x) ∷ zs) (map_map g f xs)

-- what was counted by numbers, of a list's own keys
pub uses_by_keys : (xs : List ListAction) (keys : List (List ℕ)) (numbers : List (Option ℕ)) → keys ≡ keys_of xs → numbers ≡ map (local_of keys) xs
    → uses_of (length keys) numbers ≡ map (use_of (map local_key xs)) keys
uses_by_keys xs keys numbers of_keys of_numbers =
    ap (uses_of (length keys)) (of_numbers ∙ sym (numbers_are keys xs))
    ∙ uses_are keys (map local_key xs) (subst IsNumbered (sym of_keys) (numbered xs))

pub users_by_keys : (xs : List ListAction) (keys : List (List ℕ)) (uses : List KeyUse) → uses ≡ map (use_of (map local_key xs)) keys
    → map (λ u. u.users) uses ≡ map (users (map local_key xs)) keys
users_by_keys xs keys uses are = ap (map (λ u. u.users)) are ∙ map_map (λ u. u.users) (use_of (map local_key xs)) keys

pub groups_by_keys : (xs : List ListAction) (keys : List (List ℕ)) (uses : List KeyUse) (each : ℕ) → uses ≡ map (use_of (map local_key xs)) keys
    → map (used_group xs each) uses ≡ map (key_group xs (map local_key xs) each) keys
groups_by_keys xs keys uses each are = ap (map (used_group xs each)) are ∙ map_map (used_group xs each) (use_of (map local_key xs)) keys

-- the groups that were made by numbers are those of the plan
pub whole_groups : (xs : List ListAction) (keys : List (List ℕ)) (numbers : List (Option ℕ)) (instances remote : ℕ) (uses : List KeyUse) (counts : List ℕ) (each : ℕ) (named all : List Group)
    → keys ≡ keys_of xs → numbers ≡ map (local_of keys) xs → uses ≡ uses_of (length keys) numbers → counts ≡ map (λ u. u.users) uses → each ≡ share counts instances
    → named ≡ map (used_group xs each) uses → all ≡ named ++ executor_groups (min remote (remote_users xs)) → all ≡ groups_of xs (map local_key xs) keys instances remote
whole_groups xs keys numbers instances remote uses counts each named all of_keys of_numbers of_uses of_counts of_each of_named of_all =
    let held = map local_key xs in
    let last = executor_groups (min remote (remote_users xs)) in
    let are = of_uses ∙ uses_by_keys xs keys numbers of_keys of_numbers in
    let counted = of_counts ∙ users_by_keys xs keys uses are in
    let shared : each ≡ share (map (users held) keys) instances = of_each ∙ ap (λ cs. share cs instances) counted in
    of_all ∙ ap (λ gs. gs ++ last) (of_named ∙ groups_by_keys xs keys uses each are ∙ ap (λ n. map (key_group xs held n) keys) shared)
