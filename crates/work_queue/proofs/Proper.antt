-- What holds of each state is kept by each call.
use Rattle.std.proofs.Common.{◌≡◌, ℕ, ℤ, suc, ◌+◌, ◌≤◌, ◌<◌, ◌==◌, ◌&&◌, ◌||◌, Bool, true, false, cond, max}
use Rattle.std.proofs.Common.{List, [], ◌∷◌, ◌++◌, length, map, Option, Some, None}
use Rattle.std.proofs.Common.{refl, ap, sym, ◌∙◌, subst, append_assoc, append-nil, length-append, arith}
use Rattle.std.specs.List.{list_any, AllByRecursion}
use Rattle.std.specs.Ordering.{int_eq}
use Rattle.std.proofs.Common.{eq-eqb, ne_eqb}
use Rattle.std.proofs.Math.Nat.{le-max_left, le-max_right}
use Rattle.std.proofs.lemmas.List.{map-append, length-map}
use Rattle.work_queue.specs.States.{State, Task, InHand, Reply, task_at, hands_without, task_marked}
use Rattle.work_queue.specs.States.{in_hand_marked, heard_by, taken_by, answered_by, has_cancel}
use Rattle.work_queue.specs.States.{reader, roomed, begun, new_task, IsTask, IsBegun, IsTaken, IsReply, IsProper, asked_from, times, places_waiting}
use Rattle.work_queue.specs.States.{places_answered, places_taken}

false_not_true : false ≡ true → ⊥
false_not_true e = cc

-- ---- lists

module _ {A : Type 0} (P Q : A → Type 0) where
  pub all_more : ((a : A) → P a → Q a) → (xs : List A) → AllByRecursion P xs → AllByRecursion Q xs
  all_more f [] all = tt
  all_more f (x ∷ xs) all = (f x all.0, all_more f xs all.1)

  pub all_mapped : (g : A → A) → ((a : A) → P a → Q (g a)) → (xs : List A)
      → AllByRecursion P xs → AllByRecursion Q (map g xs)
  all_mapped g f [] all = tt
  all_mapped g f (x ∷ xs) all = (f x all.0, all_mapped g f xs all.1)

module _ {A : Type 0} (P : A → Type 0) where
  pub all_last : (xs : List A) (x : A) → AllByRecursion P xs → P x
      → AllByRecursion P (xs ++ x ∷ [])
  all_last [] x all one = (one, tt)
  all_last (y ∷ ys) x all one = (all.0, all_last ys x all.1 one)

or_first : (a b c : Bool) → (a || b) ≡ true → (b ≡ true → c ≡ true) → (a || c) ≡ true
or_first true b c e f = refl
or_first false b c e f = f e

module _ {A : Type 0} (p : A → Bool) where
  any_more : (xs : List A) (x : A) → list_any p xs ≡ true → list_any p (xs ++ x ∷ []) ≡ true
  any_more [] x e = absurd (false_not_true e)
  any_more (y ∷ ys) x e =
      or_first (p y) (list_any p ys) (list_any p (ys ++ x ∷ [])) e (any_more ys x)

  or_false : (b : Bool) → (b || false) ≡ b
  or_false true = refl
  or_false false = refl

  or_on : (a b c : Bool) → (a || (b || c)) ≡ ((a || b) || c)
  or_on true b c = refl
  or_on false b c = refl

  any_on : (xs : List A) (x : A) → list_any p (xs ++ x ∷ []) ≡ (list_any p xs || p x)
  any_on [] x = or_false (p x)
  any_on (y ∷ ys) x = ap (λ (b : Bool). p y || b) (any_on ys x) ∙ or_on (p y) (list_any p ys) (p x)

-- ---- how often

times_on : (k : ℕ) (xs ys : List ℕ) → times k (xs ++ ys) ≡ times k xs + times k ys
times_on k [] ys = omega arith
times_on k (x ∷ xs) ys =
    let e = times_on k xs ys in
    let d : ℕ = cond (k == x) 1 0 in
    let goal : d + times k (xs ++ ys) ≡ d + times k xs + times k ys = omega (arith, e) in goal

abbrev head_or : ℕ → List ℕ → ℕ
head_or other [] = other
head_or other (x ∷ xs) = x

abbrev tail_of : List ℕ → List ℕ
tail_of [] = []
tail_of (x ∷ xs) = xs

not_once : (p x n : ℕ) → p ≡ x → cond (p == x) 1 0 + n ≡ 0 → ⊥
not_once p x n is e =
    let d = ap {B = ℕ} (λ (b : Bool). cond b 1 0) (eq-eqb p x is) in omega (arith, d, e)

more_none : (p x n : ℕ) → cond (p == x) 1 0 + n ≡ 0 → n ≡ 0
more_none p x n e = let d : ℕ = cond (p == x) 1 0 in let s : d + n ≡ 0 = e in omega (arith, s)

-- the same number stands once in each: as many stand behind it
same_rest : (p : ℕ) (us vs xs ys : List ℕ) → us ++ p ∷ xs ≡ vs ++ p ∷ ys → times p us ≡ 0
    → times p vs ≡ 0 → length xs ≡ length ys
same_rest p [] [] xs ys e a b =
    let l = ap (λ (zs : List ℕ). length zs) e in
    let k : suc (length xs) ≡ suc (length ys) = l in omega (arith, k)
same_rest p [] (y ∷ vs) xs ys e a b =
    absurd (not_once p y (times p vs) (ap (λ (zs : List ℕ). head_or p zs) e) b)
same_rest p (x ∷ us) [] xs ys e a b =
    absurd (not_once p x (times p us) (sym (ap (λ (zs : List ℕ). head_or p zs) e)) a)
same_rest p (x ∷ us) (y ∷ vs) xs ys e a b =
    same_rest p us vs xs ys (ap (λ (zs : List ℕ). tail_of zs) e) (more_none p x (times p us) a)
    (more_none p y (times p vs) b)

asked_none : (b : Bool) (k i : ℕ) (xs : List ℕ) → (k == i) ≡ false → times k xs ≡ 0
    → times k (cond b xs (i ∷ xs)) ≡ 0
asked_none true k i xs n e = e
asked_none false k i xs n e =
    let d = ap {B = ℕ} (λ (x : Bool). cond x 1 0) n in
    let goal : cond (k == i) 1 0 + times k xs ≡ 0 = omega (arith, d, e) in goal

long_step : (b : Bool) (i j : ℕ) (xs ys : List ℕ) → length xs ≡ length ys
    → length (cond b xs (i ∷ xs)) ≡ length (cond b ys (j ∷ ys))
long_step true i j xs ys e = e
long_step false i j xs ys e = ap suc e

module _ {X : Type 0} (number : X → ℤ) (cancels : X → Bool) where
  asked_first : (b : Bool) (k i : ℕ)
      → times k (cond b [] (i ∷ [])) ≡ 0 + cond b 0 (cond (k == i) 1 0)
  asked_first true k i = refl
  asked_first false k i =
      let d : ℕ = cond (k == i) 1 0 in
      let goal : d + 0 ≡ 0 + d = omega arith in goal

  asked_step : (b : Bool) (k i n : ℕ) (xs ys : List ℕ) → times k xs ≡ times k ys + n
      → times k (cond b xs (i ∷ xs)) ≡ times k (cond b ys (i ∷ ys)) + n
  asked_step true k i n xs ys e = e
  asked_step false k i n xs ys e =
      let d : ℕ = cond (k == i) 1 0 in
      let goal : d + times k xs ≡ d + times k ys + n = omega (arith, e) in goal

  asked_last : (k i : ℕ) (xs : List X) (m : X)
      → times k (asked_from number cancels i (xs ++ m ∷ []))
      ≡ times k (asked_from number cancels i xs)
      + cond (cancels m) 0 (cond (k == i + length xs) 1 0)
  asked_last k i [] m =
      let same : i ≡ i + 0 = omega arith in
      asked_first (cancels m) k i
      ∙ ap (λ n. 0 + cond (cancels m) 0 (cond (k == n) 1 0)) same
  asked_last k i (x ∷ xs) m =
      let same : i + 1 + length xs ≡ i + suc (length xs) = omega arith in
      asked_step (cancels x) k i (cond (cancels m) 0 (cond (k == i + suc (length xs)) 1 0))
      (asked_from number cancels (i + 1) (xs ++ m ∷ [])) (asked_from number cancels (i + 1) xs)
      (asked_last k (i + 1) xs m
      ∙ ap (λ n. times k (asked_from number cancels (i + 1) xs)
      + cond (cancels m) 0 (cond (k == n) 1 0)) same)

  asked_put : (b : Bool) (i : ℕ) (xs ys zs : List ℕ) → xs ≡ ys ++ zs
      → cond b xs (i ∷ xs) ≡ cond b ys (i ∷ ys) ++ zs
  asked_put true i xs ys zs e = e
  asked_put false i xs ys zs e = ap (λ (ws : List ℕ). i ∷ ws) e

  asked_on : (i : ℕ) (xs : List X) (m : X)
      → asked_from number cancels i (xs ++ m ∷ [])
      ≡ asked_from number cancels i xs ++ cond (cancels m) [] ((i + length xs) ∷ [])
  asked_on i [] m =
      let same : i ≡ i + 0 = omega arith in
      ap {B = List ℕ} (λ (n : ℕ). cond (cancels m) [] (n ∷ [])) same
  asked_on i (x ∷ xs) m =
      let same : i + 1 + length xs ≡ i + suc (length xs) = omega arith in
      asked_put (cancels x) i (asked_from number cancels (i + 1) (xs ++ m ∷ []))
      (asked_from number cancels (i + 1) xs)
      (cond (cancels m) [] ((i + suc (length xs)) ∷ []))
      (asked_on (i + 1) xs m
      ∙ ap {B = List ℕ} (λ (n : ℕ). asked_from number cancels (i + 1) xs
      ++ cond (cancels m) [] (n ∷ [])) same)

  -- ---- a task, once more was heard

  abbrev of_number : ℤ → X → Bool
  of_number n c = cancels c && int_eq n (number c)

  -- the mark of what has this number, once one more was heard that doesn't cancel
  stays_so : (x : Bool) (behind : List X) (m : X) (n : ℤ) → cancels m ≡ false
      → x ≡ has_cancel number cancels n behind
      → x ≡ has_cancel number cancels n (behind ++ m ∷ [])
  stays_so x behind m n c e =
      e ∙ (sym (or_false (of_number n) (has_cancel number cancels n behind))
      ∙ (ap (λ (b : Bool). has_cancel number cancels n behind || (b && int_eq n (number m))) (sym c)
      ∙ sym (any_on (of_number n) behind m)))

  -- and one that does
  marks_so : (x : Bool) (behind : List X) (m : X) (n : ℤ) → cancels m ≡ true
      → x ≡ has_cancel number cancels n behind
      → (x || int_eq n (number m)) ≡ has_cancel number cancels n (behind ++ m ∷ [])
  marks_so x behind m n c e =
      ap (λ (b : Bool). b || int_eq n (number m)) e
      ∙ (ap (λ (b : Bool). has_cancel number cancels n behind || (b && int_eq n (number m))) (sym c)
      ∙ sym (any_on (of_number n) behind m))

  stands_on : (heard before behind : List X) (r m : X) → heard ≡ before ++ r ∷ behind
      → heard ++ m ∷ [] ≡ before ++ r ∷ (behind ++ m ∷ [])
  stands_on heard before behind r m e =
      ap (λ (xs : List X). xs ++ m ∷ []) e ∙ append_assoc before (r ∷ behind) (m ∷ [])

  stands_both : (heard before between behind : List X) (r m : X)
      → heard ≡ before ++ r ∷ (between ++ behind)
      → heard ++ m ∷ [] ≡ before ++ r ∷ (between ++ (behind ++ m ∷ []))
  stands_both heard before between behind r m e =
      stands_on heard before (between ++ behind) r m e
      ∙ ap (λ (xs : List X). before ++ r ∷ xs) (append_assoc between behind (m ∷ []))

  task_more : (heard : List X) (m : X) → cancels m ≡ false → (t : Task X)
      → IsTask number cancels heard t → IsTask number cancels (heard ++ m ∷ []) t
  task_more heard m c t k = record {
    before = k.before;
    behind = k.behind ++ m ∷ [];
    stands = stands_on heard k.before k.behind t.work.request m k.stands;
    place = k.place;
    asks = k.asks;
    marked = stays_so t.work.cancelled k.behind m (number t.work.request) c k.marked;
  }

  task_marks : (heard : List X) (m : X) → cancels m ≡ true → (t : Task X)
      → IsTask number cancels heard t
      → IsTask number cancels (heard ++ m ∷ []) (task_marked number (number m) t)
  task_marks heard m c t k = record {
    before = k.before;
    behind = k.behind ++ m ∷ [];
    stands = stands_on heard k.before k.behind t.work.request m k.stands;
    place = k.place;
    asks = k.asks;
    marked = marks_so t.work.cancelled k.behind m (number t.work.request) c k.marked;
  }

  held_more : (heard : List X) (m : X) → cancels m ≡ false → (t : Task X)
      → IsBegun number cancels heard t → IsBegun number cancels (heard ++ m ∷ []) t
  held_more heard m c t k = record {
    before = k.before;
    between = k.between;
    behind = k.behind ++ m ∷ [];
    stands = stands_both heard k.before k.between k.behind t.work.request m k.stands;
    place = k.place;
    begun = k.begun;
    asks = k.asks;
    was = k.was;
    marked = stays_so t.work.cancelled (k.between ++ k.behind) m (number t.work.request) c k.marked
        ∙ ap (λ (xs : List X). has_cancel number cancels (number t.work.request) xs)
        (append_assoc k.between k.behind (m ∷ []));
  }

  held_marks : (heard : List X) (m : X) → cancels m ≡ true → (t : Task X)
      → IsBegun number cancels heard t
      → IsBegun number cancels (heard ++ m ∷ []) (task_marked number (number m) t)
  held_marks heard m c t k = record {
    before = k.before;
    between = k.between;
    behind = k.behind ++ m ∷ [];
    stands = stands_both heard k.before k.between k.behind t.work.request m k.stands;
    place = k.place;
    begun = k.begun;
    asks = k.asks;
    was = k.was;
    marked = marks_so t.work.cancelled (k.between ++ k.behind) m (number t.work.request) c k.marked
        ∙ ap (λ (xs : List X). has_cancel number cancels (number t.work.request) xs)
        (append_assoc k.between k.behind (m ∷ []));
  }

  taken_more : (heard : List X) (most more : ℕ) (m : X) → most ≤ more → (h : InHand X)
      → IsTaken number cancels heard most h
      → IsTaken number cancels (heard ++ m ∷ []) more h
  taken_more heard most more m up h k = record {
    hand = k.hand;
    before = k.before;
    between = k.between;
    behind = k.behind ++ m ∷ [];
    stands = stands_both heard k.before k.between k.behind h.task.work.request m k.stands;
    place = k.place;
    begun = k.begun;
    asks = k.asks;
    was = k.was;
    waited = let w = k.waited in omega (arith, w, up);
  }

  -- and once more may wait
  pub taken_up : (heard : List X) (most more : ℕ) → most ≤ more → (h : InHand X)
      → IsTaken number cancels heard most h → IsTaken number cancels heard more h
  taken_up heard most more up h k = record {
    hand = k.hand;
    before = k.before;
    between = k.between;
    behind = k.behind;
    stands = k.stands;
    place = k.place;
    begun = k.begun;
    asks = k.asks;
    was = k.was;
    waited = let w = k.waited in omega (arith, w, up);
  }

  -- a lane begins it
  task_begun : (heard : List X) (t : Task X) → IsTask number cancels heard t
      → IsBegun number cancels heard (begun (length heard) t)
  task_begun heard t k =
      let long = ap (λ (xs : List X). length xs) k.stands in
      let parts = length-append k.before (t.work.request ∷ k.behind) in
      let all : length k.before + 1 + length k.behind ≡ length heard = omega (arith, long, parts) in
      record {
        before = k.before;
        between = k.behind;
        behind = [];
        stands = k.stands
            ∙ ap (λ (xs : List X). k.before ++ t.work.request ∷ xs) (sym (append-nil k.behind));
        place = k.place;
        begun = all;
        asks = k.asks;
        was = k.marked;
        marked = k.marked
            ∙ ap (λ (xs : List X). has_cancel number cancels (number t.work.request) xs)
            (sym (append-nil k.behind));
      }

  -- ---- who waits behind the first that waits

  asked_below : (k i : ℕ) (xs : List X) → i + length xs ≤ k
      → times k (asked_from number cancels i xs) ≡ 0
  asked_below k i [] le = refl
  asked_below k i (x ∷ xs) le =
      let rest = asked_below k (i + 1) xs (let l : i + suc (length xs) ≤ k = le in omega (arith, l)) in
      let other : (k == i) ≡ false = ne_eqb k i (λ e.
      let l : i + suc (length xs) ≤ k = le in omega (arith, l, e)) in
      asked_none (cancels x) k i (asked_from number cancels (i + 1) xs) other rest

  asked_above : (k i : ℕ) (xs : List X) → k < i
      → times k (asked_from number cancels i xs) ≡ 0
  asked_above k i [] lt = refl
  asked_above k i (x ∷ xs) lt =
      let rest = asked_above k (i + 1) xs (omega (arith, lt)) in
      let other : (k == i) ≡ false = ne_eqb k i (λ e. omega (arith, lt, e)) in
      asked_none (cancels x) k i (asked_from number cancels (i + 1) xs) other rest

  asked_long : (i j : ℕ) (xs : List X)
      → length (asked_from number cancels i xs) ≡ length (asked_from number cancels j xs)
  asked_long i j [] = refl
  asked_long i j (x ∷ xs) = long_step (cancels x) i j (asked_from number cancels (i + 1) xs)
      (asked_from number cancels (j + 1) xs) (asked_long (i + 1) (j + 1) xs)

  asked_split : (i : ℕ) (xs : List X) (m : X) (ys : List X) → cancels m ≡ false
      → asked_from number cancels i (xs ++ m ∷ ys)
      ≡ asked_from number cancels i xs
      ++ (i + length xs) ∷ asked_from number cancels (i + length xs + 1) ys
  asked_split i [] m ys c =
      let same : i ≡ i + 0 = omega arith in
      ap {B = List ℕ} (λ (b : Bool). cond b (asked_from number cancels (i + 1) ys)
      (i ∷ asked_from number cancels (i + 1) ys)) c
      ∙ ap (λ (n : ℕ). n ∷ asked_from number cancels (n + 1) ys) same
  asked_split i (x ∷ xs) m ys c =
      let same : i + 1 + length xs ≡ i + suc (length xs) = omega arith in
      asked_put (cancels x) i (asked_from number cancels (i + 1) (xs ++ m ∷ ys))
      (asked_from number cancels (i + 1) xs)
      ((i + suc (length xs)) ∷ asked_from number cancels (i + suc (length xs) + 1) ys)
      (asked_split (i + 1) xs m ys c
      ∙ ap (λ (n : ℕ). asked_from number cancels (i + 1) xs
      ++ n ∷ asked_from number cancels (n + 1) ys) same)

  -- those that wait behind it are those that were heard behind it
  waits_behind : (heard : List X) (t : Task X) (took waits : List ℕ)
      → (k : IsTask number cancels heard t)
      → took ++ t.place ∷ waits ≡ asked_from number cancels 0 heard
      → length waits ≡ length (asked_from number cancels 0 k.behind)
  waits_behind heard t took waits k order =
      let p = t.place in
      let front = asked_from number cancels 0 k.before in
      let back = asked_from number cancels (length k.before + 1) k.behind in
      let here : 0 + length k.before ≡ length k.before = omega arith in
      let is : took ++ p ∷ waits ≡ front ++ p ∷ back =
      order ∙ (ap (λ (xs : List X). asked_from number cancels 0 xs) k.stands
      ∙ (asked_split 0 k.before t.work.request k.behind k.asks
      ∙ (ap (λ (n : ℕ). front ++ n ∷ asked_from number cancels (n + 1) k.behind) here
      ∙ ap (λ (n : ℕ). front ++ n ∷ back) k.place))) in
      let low = asked_below p 0 k.before (let e = k.place in omega (arith, e)) in
      let high = asked_above p (length k.before + 1) k.behind (let e = k.place in omega (arith, e)) in
      same_rest p took front waits back is
      (let all = ap (λ (xs : List ℕ). times p xs) is in
      let a = times_on p took (p ∷ waits) in
      let b = times_on p front (p ∷ back) in
      let one = eq-eqb p p refl in
      let c : times p (p ∷ waits) ≡ 1 + times p waits =
      ap (λ (x : Bool). cond x 1 0 + times p waits) one in
      let d : times p (p ∷ back) ≡ 1 + times p back =
      ap (λ (x : Bool). cond x 1 0 + times p back) one in
      omega (arith, all, a, b, c, d, low, high)) low
      ∙ asked_long (length k.before + 1) 0 k.behind

  -- what a lane takes, and how many waited
  taken_now : (heard : List X) (most lane : ℕ) (t : Task X) (took waits : List ℕ)
      → (lane ≡ reader → ⊥) → 1 + length waits ≤ most
      → took ++ t.place ∷ waits ≡ asked_from number cancels 0 heard
      → IsTask number cancels heard t
      → IsTaken number cancels heard most (record { lane = lane; task = begun (length heard) t })
  unfolding task_begun
  taken_now heard most lane t took waits hand fits order k =
      let b = task_begun heard t k in
      let same = waits_behind heard t took waits k order in record {
        hand = hand;
        before = b.before;
        between = k.behind;
        behind = b.behind;
        stands = b.stands;
        place = b.place;
        begun = b.begun;
        asks = b.asks;
        was = b.was;
        waited = omega (arith, same, fits);
      }

  task_new : (heard : List X) (m : X) → cancels m ≡ false
      → IsTask number cancels (heard ++ m ∷ []) (new_task number (length heard) m)
  task_new heard m c = record {
    before = heard;
    behind = [];
    stands = refl;
    place = refl;
    asks = c;
    marked = refl;
  }

  places_marked : (n : ℤ) (ts : List (Task X))
      → map (λ t. t.place) (map (task_marked number n) ts) ≡ map (λ t. t.place) ts
  places_marked n [] = refl
  places_marked n (t ∷ ts) = ap (λ (xs : List ℕ). t.place ∷ xs) (places_marked n ts)

  hands_marked_at : (n : ℤ) (hs : List (InHand X))
      → map (λ h. h.task.place) (map (in_hand_marked number n) hs) ≡ map (λ h. h.task.place) hs
  hands_marked_at n [] = refl
  hands_marked_at n (h ∷ hs) = ap (λ (xs : List ℕ). h.task.place ∷ xs) (hands_marked_at n hs)

  -- ---- what is taken out of a hand

  abbrev HandIs : List X → InHand X → Type 0
  HandIs heard h = IsBegun number cancels heard h.task

  abbrev task_or : Task X → Option (Task X) → Task X
  task_or other None = other
  task_or other (Some t) = t

  out_step : (b : Bool) (lane k : ℕ) (h : InHand X) (hs : List (InHand X)) (t : Task X)
      → cond b (Some h.task) (task_at lane hs) ≡ Some t
      → (task_at lane hs ≡ Some t → times k (map (λ x. x.task.place) hs)
      ≡ cond (k == t.place) 1 0 + times k (map (λ x. x.task.place) (hands_without lane hs)))
      → cond (k == h.task.place) 1 0 + times k (map (λ x. x.task.place) hs)
      ≡ cond (k == t.place) 1 0
      + times k (map (λ x. x.task.place) (cond b hs (h ∷ hands_without lane hs)))
  out_step true lane k h hs t e more =
      ap (λ (x : Task X). cond (k == x.place) 1 0 + times k (map (λ x. x.task.place) hs))
      (ap (task_or t) e)
  out_step false lane k h hs t e more =
      let i = more e in
      let a : ℕ = cond (k == h.task.place) 1 0 in
      let b : ℕ = cond (k == t.place) 1 0 in
      let c = times k (map (λ x. x.task.place) (hands_without lane hs)) in
      let goal : a + times k (map (λ x. x.task.place) hs) ≡ b + (a + c) = omega (arith, i) in goal

  none_some : (t : Task X) → None ≡ Some t → ⊥
  none_some t e = cc

  out_times : (lane k : ℕ) (hs : List (InHand X)) (t : Task X) → task_at lane hs ≡ Some t
      → times k (map (λ x. x.task.place) hs)
      ≡ cond (k == t.place) 1 0 + times k (map (λ x. x.task.place) (hands_without lane hs))
  out_times lane k [] t e = absurd (none_some t e)
  out_times lane k (h ∷ hs) t e =
      out_step (h.lane == lane) lane k h hs t e (out_times lane k hs t)

  module _ (heard : List X) where
    out_here : (b : Bool) (lane : ℕ) (h : InHand X) (hs : List (InHand X)) (t : Task X)
        → cond b (Some h.task) (task_at lane hs) ≡ Some t → HandIs heard h
        → AllByRecursion (HandIs heard) hs
        → (task_at lane hs ≡ Some t
        → IsBegun number cancels heard t × AllByRecursion (HandIs heard) (hands_without lane hs))
        → IsBegun number cancels heard t
        × AllByRecursion (HandIs heard) (cond b hs (h ∷ hands_without lane hs))
    out_here true lane h hs t e one all more =
        (subst (λ (x : Task X). IsBegun number cancels heard x) (ap (task_or t) e) one, all)
    out_here false lane h hs t e one all more = let m = more e in (m.0, (one, m.1))

    out_of_hand : (lane : ℕ) (hs : List (InHand X)) (t : Task X) → task_at lane hs ≡ Some t
        → AllByRecursion (HandIs heard) hs
        → IsBegun number cancels heard t × AllByRecursion (HandIs heard) (hands_without lane hs)
    out_of_hand lane [] t e all = absurd (none_some t e)
    out_of_hand lane (h ∷ hs) t e all =
        out_here (h.lane == lane) lane h hs t e all.0 all.1
        (λ x. out_of_hand lane hs t x all.1)

module _ {X Y : Type 0} (number : X → ℤ) (cancels : X → Bool) (Says : X → Bool → Y → Type 0) where
  reply_more : (heard : List X) (m : X) (r : Reply Y) → IsReply number cancels Says heard r
      → IsReply number cancels Says (heard ++ m ∷ []) r
  reply_more heard m r k = record {
    request = k.request;
    before = k.before;
    between = k.between;
    behind = k.behind ++ m ∷ [];
    stands = stands_both number cancels heard k.before k.between k.behind k.request m k.stands;
    place = k.place;
    begun = k.begun;
    asks = k.asks;
    cancelled = k.cancelled;
    given_up = k.given_up;
    marked = λ e.
        subst (λ (xs : List X). has_cancel number cancels (number k.request) xs ≡ true)
        (append_assoc k.between k.behind (m ∷ []))
        (any_more (λ (c : X). cancels c && int_eq (number k.request) (number c))
        (k.between ++ k.behind) m (k.marked e));
    says = k.says;
  }

  proper_heard : (s : State X Y) (m : X) (b : Bool) → cancels m ≡ b
      → IsProper number cancels Says s
      → IsProper number cancels Says (heard_by number cancels s m b)
  proper_heard s m true c p = record {
    waits = all_mapped (IsTask number cancels s.heard) (IsTask number cancels (s.heard ++ m ∷ []))
        (task_marked number (number m)) (task_marks number cancels s.heard m c) s.waiting p.waits;
    holds = all_mapped (λ h. IsBegun number cancels s.heard h.task)
        (λ h. IsBegun number cancels (s.heard ++ m ∷ []) h.task)
        (in_hand_marked number (number m))
        (λ h k. held_marks number cancels s.heard m c h.task k) s.hands p.holds;
    said = all_more (IsReply number cancels Says s.heard)
        (IsReply number cancels Says (s.heard ++ m ∷ [])) (reply_more s.heard m) s.replies p.said;
    each = λ k.
        let w = ap (λ xs. times k xs) (places_marked number cancels (number m) s.waiting) in
        let h = ap (λ xs. times k xs) (hands_marked_at number cancels (number m) s.hands) in
        let a = asked_last number cancels k 0 s.heard m in
        let z = ap {B = ℕ} (λ (x : Bool). cond x 0 (cond (k == 0 + length s.heard) 1 0)) c in
        let e = p.each k in omega (arith, w, h, a, z, e);
    took = all_more (IsTaken number cancels s.heard s.most)
        (IsTaken number cancels (s.heard ++ m ∷ []) s.most)
        (taken_more number cancels s.heard s.most s.most m (omega arith)) s.taken p.took;
    room = let l = length-map s.waiting (task_marked number (number m)) in
        let r = p.room in omega (arith, l, r);
    most = p.most;
    order =
        let old = asked_from number cancels 0 s.heard in
        ap (λ (xs : List ℕ). places_taken s ++ xs)
        (places_marked number cancels (number m) s.waiting)
        ∙ (p.order ∙ (sym (append-nil old)
        ∙ (ap {B = List ℕ} (λ (b : Bool). old ++ cond b [] ((0 + length s.heard) ∷ [])) (sym c)
        ∙ sym (asked_on number cancels 0 s.heard m))));
  }
  proper_heard s m false c p = record {
    waits = all_last (IsTask number cancels (s.heard ++ m ∷ [])) s.waiting
        (new_task number (length s.heard) m)
        (all_more (IsTask number cancels s.heard) (IsTask number cancels (s.heard ++ m ∷ []))
        (task_more number cancels s.heard m c) s.waiting p.waits)
        (task_new number cancels s.heard m c);
    holds = all_more (λ h. IsBegun number cancels s.heard h.task)
        (λ h. IsBegun number cancels (s.heard ++ m ∷ []) h.task)
        (λ h k. held_more number cancels s.heard m c h.task k) s.hands p.holds;
    said = all_more (IsReply number cancels Says s.heard)
        (IsReply number cancels Says (s.heard ++ m ∷ [])) (reply_more s.heard m) s.replies p.said;
    each = λ k.
        let new : Task X = new_task number (length s.heard) m in
        let w = ap (λ xs. times k xs) (map-append (λ (t : Task X). t.place) s.waiting (new ∷ []))
        ∙ times_on k (places_waiting s) (length s.heard ∷ []) in
        let a = asked_last number cancels k 0 s.heard m in
        let z = ap {B = ℕ} (λ (x : Bool). cond x 0 (cond (k == 0 + length s.heard) 1 0)) c in
        let n : 0 + length s.heard ≡ length s.heard = omega arith in
        let d = ap {B = ℕ} (λ i. cond (k == i) 1 0) n in
        let e = p.each k in omega (arith, w, a, z, d, e);
    took = all_more (IsTaken number cancels s.heard s.most)
        (IsTaken number cancels (s.heard ++ m ∷ []) (max s.most (s.room + 1)))
        (taken_more number cancels s.heard s.most (max s.most (s.room + 1)) m
        (le-max_left s.most (s.room + 1))) s.taken p.took;
    room =
        let new : Task X = new_task number (length s.heard) m in
        let l = length-append s.waiting (new ∷ []) in
        let r = p.room in omega (arith, l, r);
    most = le-max_right s.most (s.room + 1);
    order =
        let new : Task X = new_task number (length s.heard) m in
        let old = asked_from number cancels 0 s.heard in
        let n : length s.heard ≡ 0 + length s.heard = omega arith in
        ap (λ (xs : List ℕ). places_taken s ++ xs)
        (map-append (λ (t : Task X). t.place) s.waiting (new ∷ []))
        ∙ (sym (append_assoc (places_taken s) (places_waiting s) (length s.heard ∷ []))
        ∙ (ap (λ (xs : List ℕ). xs ++ length s.heard ∷ []) p.order
        ∙ (ap (λ (k : ℕ). old ++ k ∷ []) n
        ∙ (ap {B = List ℕ} (λ (b : Bool). old ++ cond b [] ((0 + length s.heard) ∷ [])) (sym c)
        ∙ sym (asked_on number cancels 0 s.heard m)))));
  }

  pub proper_hears : (s : State X Y) (m : X) → IsProper number cancels Says s
      → IsProper number cancels Says (heard_by number cancels s m (cancels m))
  proper_hears s m p = proper_heard s m (cancels m) refl p

  taken_first : (lane : ℕ) (s : State X Y) (ts : List (Task X)) → (lane ≡ reader → ⊥)
      → s.waiting ≡ ts
      → IsProper number cancels Says s → IsProper number cancels Says (taken_by lane s ts)
  taken_first lane s [] hand is p = p
  taken_first lane s (t ∷ ts) hand is p =
      let one : InHand X = record { lane = lane; task = begun (length s.heard) t } in
      let all = subst (λ (xs : List (Task X)). AllByRecursion (IsTask number cancels s.heard) xs)
      is p.waits in record {
        waits = all.1;
        holds = (task_begun number cancels s.heard t all.0, p.holds);
        said = p.said;
        each = λ k.
            let w = ap (λ (xs : List (Task X)). times k (map (λ t. t.place) xs)) is in
            let e = p.each k in omega (arith, w, e);
        order =
            let h : InHand X = record { lane = lane; task = begun (length s.heard) t } in
            ap (λ (xs : List ℕ). xs ++ map (λ (x : Task X). x.place) ts)
            (map-append (λ (x : InHand X). x.task.place) s.taken (h ∷ []))
            ∙ (append_assoc (places_taken s) (t.place ∷ []) (map (λ (x : Task X). x.place) ts)
            ∙ (sym (ap (λ (ws : List (Task X)). places_taken s ++ map (λ (x : Task X). x.place) ws)
            is) ∙ p.order));
        took = all_last (IsTaken number cancels s.heard s.most) s.taken one p.took
            (taken_now number cancels s.heard s.most lane t (places_taken s)
            (map (λ (x : Task X). x.place) ts) hand
            (let long = ap (λ (xs : List (Task X)). length xs) is in
            let l = length-map ts (λ (x : Task X). x.place) in
            let n : length s.waiting ≡ suc (length ts) = long in
            let r = p.room in let o = p.most in omega (arith, n, l, r, o))
            (sym (ap (λ (ws : List (Task X)). places_taken s ++ map (λ (x : Task X). x.place) ws) is)
            ∙ p.order) all.0);
        room =
            let long = ap (λ (xs : List (Task X)). length xs) is in
            let n : length s.waiting ≡ suc (length ts) = long in
            let r = p.room in omega (arith, n, r);
        most = p.most;
      }

  pub proper_taken : (lane : ℕ) (s : State X Y) → (lane ≡ reader → ⊥)
      → IsProper number cancels Says s → IsProper number cancels Says (taken_by lane s s.waiting)
  proper_taken lane s hand p = taken_first lane s s.waiting hand refl p

  pub proper_answered : (lane : ℕ) (s : State X Y) (t : Task X) (y : Y) (b : Bool)
      → task_at lane s.hands ≡ Some t → (b ≡ true → t.work.cancelled ≡ true)
      → Says t.work.request b y → (t.was ≡ true → b ≡ true) → IsProper number cancels Says s
      → IsProper number cancels Says (answered_by lane s y (Some t))
  proper_answered lane s t y b here mark says was p =
      let out = out_of_hand number cancels s.heard lane s.hands t here p.holds in
      let r : Reply Y = record { place = t.place; heard = t.heard; response = y } in record {
        waits = p.waits;
        holds = out.1;
        said = all_last (IsReply number cancels Says s.heard) s.replies r p.said
            (record {
              request = t.work.request;
              before = out.0.before;
              between = out.0.between;
              behind = out.0.behind;
              stands = out.0.stands;
              place = out.0.place;
              begun = out.0.begun;
              asks = out.0.asks;
              cancelled = b;
              given_up = λ e. was (out.0.was ∙ e);
              marked = λ e. sym out.0.marked ∙ mark e;
              says = says;
            });
        each = λ k.
            let h = out_times number cancels lane k s.hands t here in
            let w = ap (λ xs. times k xs) (map-append (λ (x : Reply Y). x.place) s.replies
            (r ∷ [])) ∙ times_on k (places_answered s) (t.place ∷ []) in
            let e = p.each k in omega (arith, h, w, e);
        took = p.took;
        order = p.order;
        room = p.room;
        most = p.most;
      }

  -- the reader was told that fewer than this wait
  pub proper_roomed : (depth : ℕ) (s : State X Y) → length s.waiting < depth
      → IsProper number cancels Says s → IsProper number cancels Says (roomed depth s)
  proper_roomed depth s lt p = record {
    waits = p.waits;
    holds = p.holds;
    said = p.said;
    each = p.each;
    took = all_more (IsTaken number cancels s.heard s.most)
        (IsTaken number cancels s.heard (max s.most depth))
        (taken_up number cancels s.heard s.most (max s.most depth) (le-max_left s.most depth))
        s.taken p.took;
    order = p.order;
    room = omega (arith, lt);
    most = le-max_right s.most depth;
  }
