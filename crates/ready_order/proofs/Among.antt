-- The least number in the queues of some groups is the least action that is queued in one of them.
use Rattle.std.proofs.Common.{◌≡◌, ℕ, zero, suc, ◌+◌, ◌<◌, ◌≤◌, ◌≢◌, ◌==◌, Bool, true, false, ◌&&◌, cond, List, [], ◌∷◌, length, map, get_or, Option, Some, None, is_some, option_map, unwrap_or, refl, ap, sym, subst, ◌∙◌, arith}
use Rattle.std.specs.Prelude.{slice_get}
use Rattle.std.proofs.lemmas.Bool.{and_parts, eq-eqb, eqb-true}
use Rattle.std.proofs.lemmas.List.{get_or-map, length-map}
use Rattle.std.proofs.lemmas.Option.{slice_get-map, slice_get_read, slice_get_within, same_Some}
use Rattle.exec_journal.proofs.Ruled.{by_bool}
use Rattle.list_lemmas.specs.Options.{or_else}
use Rattle.run_plan.specs.declared.plan.Branch.{Branch}
use Rattle.run_plan.specs.declared.plan.Branch.TheVariants.{Local, Remote}
use Rattle.ready_order.specs.Matches.{IsLeast, IsLeastAmong, MayAsk, least_number}
use Rattle.ready_order.specs.declared.winner_tree.TheConstants.{ABSENT}
use Rattle.ready_order.specs.declared.ActionState.{ActionState}
use Rattle.ready_order.specs.declared.BranchState.{BranchState}
use Rattle.ready_order.specs.Facts.{Facts}
use Rattle.ready_order.specs.Queue.{earliest_from, earliest_in, is_of, is_of_any, is_open, is_queued, is_ready, least_among, least_from, may_begin, may_begin_among, queued_among, queued_branch, seat_of}
use Rattle.ready_order.specs.Board.{IsNoted, has_queued, queued_among_if, queued_if, shape_of, shapes}
use Rattle.ready_order.proofs.Found.{first_there, named_from, none_and, none_before, small_enough}
use Rattle.ready_order.proofs.Firsts.{number_is_least}

-- ---- the search over the actions

module _ (all : List ActionState) (groups : ℕ → Bool) where
  none_from : (a : ℕ) (rest : List ActionState)
      → ((i : ℕ) (y : ActionState) → slice_get rest i ≡ Some y → queued_among all groups y ≡ None)
      → least_from all groups a rest ≡ None
  none_from a [] none = refl
  none_from a (x ∷ xs) none =
      ap (λ (o : Option Branch). or_else (option_map (λ b. (a, b)) o)
      (least_from all groups (a + 1) xs)) (none zero x refl)
      ∙ none_from (a + 1) xs (λ i y at. none (suc i) y at)

  first_from : (a : ℕ) (rest : List ActionState) (i : ℕ) (x : ActionState) (b : Branch)
      → slice_get rest i ≡ Some x → queued_among all groups x ≡ Some b
      → ((k : ℕ) (y : ActionState) → k < i → slice_get rest k ≡ Some y
      → queued_among all groups y ≡ None) → least_from all groups a rest ≡ Some (a + i, b)
  first_from a [] i x b at is none = absurd (cc)
  first_from a (y ∷ ys) zero x b at is none =
      let same : y ≡ x = same_Some y x at in
      let here : a ≡ a + 0 = omega arith in
      ap (λ (o : Option Branch). or_else (option_map (λ c. (a, c)) o)
      (least_from all groups (a + 1) ys)) (ap (queued_among all groups) same ∙ is)
      ∙ ap (λ n. Some (n, b)) here
  first_from a (y ∷ ys) (suc i) x b at is none =
      let there : a + 1 + i ≡ a + suc i = omega arith in
      ap (λ (o : Option Branch). or_else (option_map (λ c. (a, c)) o)
      (least_from all groups (a + 1) ys)) (none zero y (omega arith) refl)
      ∙ first_from (a + 1) ys i x b at is (λ k z lt h. none (suc k) z (omega arith) h)
      ∙ ap (λ n. Some (n, b)) there

-- ---- one branch, in one group and in several

pub named_own : (g : ℕ) (s : BranchState) → s.group ≡ Some g → is_of g s ≡ true
named_own g s runs =
    ap (λ (o : Option ℕ). unwrap_or (option_map (λ k. k == g) o) false) runs ∙ eq-eqb g g refl

module _ (states : List ActionState) (groups : ℕ → Bool) (x : ActionState) where
  -- a group of the set runs it
  run_by : (s : BranchState) → may_begin_among states groups x s ≡ true
      → (g : ℕ) × (s.group ≡ Some g) × (groups g ≡ true)
  run_by s h = by s.group refl
      (and_parts (s.free && (is_open x && is_ready states x)) (is_of_any groups s) h).1
    where
      by : (o : Option ℕ) → s.group ≡ o → unwrap_or (option_map groups o) false ≡ true
          → (g : ℕ) × (s.group ≡ Some g) × (groups g ≡ true)
      by None e k = absurd (cc)
      by (Some g) e k = (g, e, k)

  begins : (s : BranchState) (g : ℕ) → s.group ≡ Some g → may_begin_among states groups x s ≡ true
      → may_begin states g x s ≡ true
  begins s g runs h =
      ap (λ c. c && (s.free && (is_open x && is_ready states x))) (named_own g s runs)
      ∙ (and_parts (s.free && (is_open x && is_ready states x)) (is_of_any groups s) h).0

  begins_among : (s : BranchState) (g : ℕ) → groups g ≡ true → may_begin states g x s ≡ true
      → may_begin_among states groups x s ≡ true
  begins_among s g is h =
      let parts = and_parts (is_of g s) (s.free && (is_open x && is_ready states x)) h in
      ap (λ c. c && is_of_any groups s) parts.1 ∙ by s.group refl parts.0
    where
      by : (o : Option ℕ) → s.group ≡ o
          → unwrap_or (option_map (λ k. k == g) o) false ≡ true
          → is_of_any groups s ≡ true
      by None e k = absurd (cc)
      by (Some own) e k =
          ap (λ (o : Option ℕ). unwrap_or (option_map groups o) false) e
          ∙ ap groups (eqb-true own g k) ∙ is

  has_among : (g : ℕ) → groups g ≡ true → has_queued states g x ≡ true
      → is_some (queued_among states groups x) ≡ true
  has_among g is h =
      by_bool (may_begin states g x x.local)
      (λ v. is_some (cond v (Some Local) (cond (may_begin states g x x.remote) (Some Remote) None))
      ≡ true → is_some (queued_among states groups x) ≡ true)
      (λ left _. rw (begins_among x.local g is left) refl)
      (λ no_left. by_bool (may_begin states g x x.remote)
      (λ v. is_some (cond v (Some Remote) None) ≡ true
      → is_some (queued_among states groups x) ≡ true)
      (λ right _. some_remote (begins_among x.remote g is right)) (λ no_right k. absurd (cc))) h
    where
      some_remote : may_begin_among states groups x x.remote ≡ true
          → is_some (queued_among states groups x) ≡ true
      some_remote right =
          by_bool (may_begin_among states groups x x.local)
          (λ v. is_some (cond v (Some Local)
          (cond (may_begin_among states groups x x.remote) (Some Remote) None)) ≡ true)
          (λ _. refl) (λ _. rw right refl)

-- ---- the branch that is queued in a group

abbrev seat_begins : Bool → ℕ → ActionState → BranchState → Bool
seat_begins r g x s = is_of g s && (s.free && (is_open x && r))

pub local_queued : (r : Bool) (g : ℕ) (x : ActionState) → seat_begins r g x x.local ≡ true
    → is_some (queued_if r g x) ≡ true
local_queued r g x h = rw h refl

pub remote_queued : (r : Bool) (g : ℕ) (x : ActionState) → seat_begins r g x x.remote ≡ true
    → is_some (queued_if r g x) ≡ true
remote_queued r g x h =
    by_bool (seat_begins r g x x.local)
    (λ v. is_some (cond v (Some Local) (cond (seat_begins r g x x.remote) (Some Remote) None))
    ≡ true) (λ _. refl) (λ _. rw h refl)

which_queued : (r : Bool) (g : ℕ) (x : ActionState) → is_some (queued_if r g x) ≡ true
    → (b : Branch) × (seat_begins r g x (seat_of b x) ≡ true)
which_queued r g x h =
    by_bool (seat_begins r g x x.local)
    (λ v. is_some (cond v (Some Local) (cond (seat_begins r g x x.remote) (Some Remote) None))
    ≡ true → (b : Branch) × (seat_begins r g x (seat_of b x) ≡ true))
    (λ left _. (Local, left))
    (λ no_left. by_bool (seat_begins r g x x.remote)
    (λ v. is_some (cond v (Some Remote) None) ≡ true
    → (b : Branch) × (seat_begins r g x (seat_of b x) ≡ true))
    (λ right _. (Remote, right)) (λ no_right k. absurd (cc))) h

-- ---- whoever is queued in one of them is ready

unready_among : (groups : ℕ → Bool) (x : ActionState)
    → is_some (queued_among_if false groups x) ≡ false
unready_among groups x =
    rw (none_and (is_open x), none_and x.local.free, none_and x.remote.free) refl

ready_among : (r : Bool) (groups : ℕ → Bool) (x : ActionState)
    → is_some (queued_among_if r groups x) ≡ true → r ≡ true
ready_among true groups x h = refl
ready_among false groups x h = let no_one = unready_among groups x in absurd (cc)

-- ---- one group

and_turns : (b c : Bool) → (b && c) ≡ (c && b)
and_turns true true = refl
and_turns true false = refl
and_turns false true = refl
and_turns false false = refl

module _ (states : List ActionState) (g : ℕ) where
  one_queued : (x : ActionState) → queued_among states (λ k. k == g) x ≡ queued_branch states g x
  one_queued x = rw (
    and_turns (x.local.free && (is_open x && is_ready states x)) (is_of g x.local),
    and_turns (x.remote.free && (is_open x && is_ready states x)) (is_of g x.remote),
  ) refl

  one_from : (a : ℕ) (rest : List ActionState)
      → least_from states (λ k. k == g) a rest ≡ earliest_from states g a rest
  one_from a [] = refl
  one_from a (x ∷ xs) = λ i.
      or_else (option_map (λ b. (a, b)) (one_queued x i)) (one_from (a + 1) xs i)

  pub one_group : least_among states (λ k. k == g) ≡ earliest_in states g
  one_group = one_from 0 states

-- ---- which groups are asked about

module _ (states : List ActionState) (ask : ℕ → Type 0)
    (may : (g a : ℕ) (b : Branch) → is_queued states g a b ≡ true → ask g) where
  pub asked_at : (a g : ℕ) (x : ActionState) → slice_get states a ≡ Some x
      → has_queued states g x ≡ true → ask g
  asked_at a g x at has =
      let w = which_queued (is_ready states x) g x has in
      may g a w.0
      (ap (λ (o : Option ActionState). unwrap_or
      (option_map (λ y. may_begin states g y (seat_of w.0 y)) o) false) at ∙ w.1)

  pub asked_of : (users : List (List ℕ)) (f : Facts) → IsNoted states users f
      → MayAsk ask (map least_number f.queues)
  asked_of users f n g lt there =
      let size = length-map f.queues least_number in
      let queue = get_or f.queues g [] in
      let e = get_or-map least_number f.queues g [] 0 (omega arith) in
      let at = first_there states users f n g (least_number queue) (number_is_least queue)
      (λ absent. there (e ∙ absent)) in
      asked_at (least_number queue) g at.0 at.1 at.2

-- ---- what the least number says

module _ (states : List ActionState) (users : List (List ℕ)) (f : Facts)
    (n : IsNoted states users f) (groups : ℕ → Bool) (least : ℕ)
    (is : IsLeastAmong groups (map least_number f.queues) least) where
  no_less : (a : ℕ) (x : ActionState) (b : Branch) → slice_get states a ≡ Some x
      → may_begin_among states groups x (seat_of b x) ≡ true → least ≤ a
  no_less a x b at h =
      let w = run_by states groups x (seat_of b x) h in
      let g = w.0 in
      let begun = begins states groups x (seat_of b x) g w.1 h in
      let shape : slice_get (shapes states) a ≡ Some (shape_of x) =
      slice_get-map shape_of states a ∙ ap (option_map shape_of) at in
      let lt = n.fits.named a g (shape_of x) shape (named_from states g x b begun) in
      let size = length-map f.queues least_number in
      let queue = get_or f.queues g [] in
      let first = none_before states users f n g (least_number queue) (number_is_least queue)
      a b x at begun in
      let le = is.none_less g (omega arith) w.2 in
      let e = get_or-map least_number f.queues g [] 0 lt in
      omega arith

  none_queued : (a : ℕ) (x : ActionState) → slice_get states a ≡ Some x → (least ≤ a → ⊥)
      → queued_among states groups x ≡ None
  none_queued a x at before =
      by_bool (may_begin_among states groups x x.local)
      (λ v. cond v (Some Local) (cond (may_begin_among states groups x x.remote)
      (Some Remote) None) ≡ None)
      (λ left. absurd (before (no_less a x Local at left)))
      (λ no_left. by_bool (may_begin_among states groups x x.remote)
      (λ v. ◌≡◌ {A = Option Branch} (cond v (Some Remote) None) None)
      (λ right. absurd (before (no_less a x Remote at right))) (λ no_right. refl))

  pub least_none : least ≡ ABSENT → None ≡ least_among states groups
  least_none absent =
      sym (none_from states groups 0 states (λ i y at. none_queued i y at
      (λ le. let small = small_enough states users f n i y at in omega arith)))

  -- the state of the action of that number, a branch of which is queued
  least_there : least ≢ ABSENT → (x : ActionState) × (slice_get states least ≡ Some x) ×
      (is_some (queued_among states groups x) ≡ true)
  least_there there =
      let w = is.among there in
      let g = w.0 in
      let queue = get_or f.queues g [] in
      let low = w.1 in
      let size = length-map f.queues least_number in
      let e : least_number queue ≡ least =
      sym (get_or-map least_number f.queues g [] 0 (omega arith)) ∙ w.3 in
      let first = subst (IsLeast queue) e (number_is_least queue) in
      let at = first_there states users f n g least first there in
      (at.0, at.1, has_among states groups at.0 g w.2 at.2)

  pub least_within : least ≢ ABSENT → least < length states
  least_within there = let w = least_there there in slice_get_within states least w.0 w.1

  -- it is what stands at that place
  least_at : least ≢ ABSENT → (x : ActionState) → x ≡ get_or states least x
      → (slice_get states least ≡ Some x) × (is_some (queued_among states groups x) ≡ true)
  least_at there x read =
      let w = least_there there in
      let at = slice_get_read states (length states) least x refl (least_within there) read in
      let same : w.0 ≡ x = same_Some w.0 x (sym w.1 ∙ at) in
      (at, ap (λ y. is_some (queued_among states groups y)) (sym same) ∙ w.2)

  pub least_ready : least ≢ ABSENT → (x : ActionState) → x ≡ get_or states least x
      → (o : Option Branch) → o ≡ queued_among_if true groups x → is_some o ≡ true
  least_ready there x read o is =
      let has = (least_at there x read).1 in
      ap is_some is
      ∙ ap (λ r. is_some (queued_among_if r groups x))
      (sym (ready_among (is_ready states x) groups x has)) ∙ has

  pub least_asked : least ≢ ABSENT → (x : ActionState) → x ≡ get_or states least x
      → (ask : ℕ → Type 0)
      → ((g a : ℕ) (b : Branch) → is_queued states g a b ≡ true → ask g)
      → (g : ℕ) → is_some (queued_if true g x) ≡ true → ask g
  least_asked there x read ask may g has =
      let at = least_at there x read in
      let ready = ready_among (is_ready states x) groups x at.1 in
      asked_at states ask may least g x at.0
      (ap (λ r. is_some (queued_if r g x)) ready ∙ has)

  pub least_some : least ≢ ABSENT → (x : ActionState) → x ≡ get_or states least x
      → (o : Option Branch) (b : Branch) → o ≡ queued_among_if true groups x → o ≡ Some b
      → Some (least, b) ≡ least_among states groups
  least_some there x read o b is some =
      let at = least_at there x read in
      let ready = ready_among (is_ready states x) groups x at.1 in
      let zero_more : 0 + least ≡ least = omega arith in
      sym (first_from states groups 0 states least x b at.0
      (ap (λ r. queued_among_if r groups x) ready ∙ sym is ∙ some)
      (λ k y lt h. none_queued k y h (λ le. absurd (omega arith)))
      ∙ ap (λ m. Some (m, b)) zero_more)
