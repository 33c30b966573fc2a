-- Calls on a berth, one run after another.
use Rattle.std.proofs.Common.{◌≡◌, ℕ, ◌+◌, ◌<◌, ◌≤◌, List, [], ◌∷◌, ◌++◌, length, take, drop, get_or, Bool, true, false, Option, refl, subst, sym, append_assoc, append-nil, ◌∙◌, ap, arith}
use Rattle.std.proofs.lemmas.List.{take_more, take-append-drop, take_all}
use Rattle.outside.specs.Causes.{Counts, Rose}
use Rattle.outside.specs.Lists.{Adds, Tells}
use Rattle.outside.specs.Told.{BerthTold, SameBerth}
use Rattle.outside.specs.declared.answers.Io.{Io}
use Rattle.outside.specs.declared.answers.Io.TheVariants as io
use Rattle.outside.specs.declared.berth.BerthCall.{BerthCall}
use Rattle.sandbox_rooms.specs.Calls.{Asked, asked, is_done, went_well, io_end, RunEnd, Whole, Stopped, Cut, EndsHere, GoesOn, Runs, Made, IsStopped, MakesRun}

-- ---- what is added, and counts

pub adds_on : {A : Type 0} (xs ys : List A) (old mid new : Option (List A)) → Adds xs old mid → Adds ys mid new → Adds (xs ++ ys) old new
adds_on {A = A} xs ys old mid new first second = λ zs holds. subst (λ (all : List A). Tells new all) (append_assoc zs xs ys) (second (zs ++ xs) (first zs holds))

pub adds_none : {A : Type 0} (old new : Option (List A)) → new ≡ old → Adds [] old new
adds_none {A = A} old new same = λ xs holds. subst (λ (ys : List A). Tells new ys) (sym (append-nil xs)) (subst (λ (o : Option (List A)). Tells o xs) (sym same) holds)

rose_on : (a b c : ℕ) → a ≤ b → Rose b c → Rose a c
rose_on a b c later rose = omega (arith, later, rose)

-- what failed in the end is what the second failed at
pub made_on : (xs ys : List BerthCall) (One Two : Type 0) (old mid new : BerthTold) → Made xs One old mid → Made ys Two mid new → Made (xs ++ ys) Two old new
made_on xs ys One Two old mid new first second = record {
  log = adds_on xs ys old.log mid.log new.log first.log second.log;
  count = record {
    later = omega (arith, first.count.later, second.count.later);
    rose = λ failed. rose_on old.faults mid.faults new.faults first.count.later (second.count.rose failed);
  };
  same = second.same ∙ first.same;
}

-- less is said to have failed
pub made_less : (xs : List BerthCall) (One Two : Type 0) (old new : BerthTold) → (Two → One) → Made xs One old new → Made xs Two old new
made_less xs One Two old new f m = record { log = m.log; count = record { later = m.count.later; rose = λ failed. m.count.rose (f failed) }; same = m.same }

pub made_still : (old new : BerthTold) → new.log ≡ old.log → old.faults ≤ new.faults → SameBerth old new → Made [] ⊥ old new
made_still old new log later same = record { log = adds_none old.log new.log log; count = record { later = later; rose = λ failed. absurd failed }; same = same }

pub made_none : (told : BerthTold) → Made [] ⊥ told told
made_none told = made_still told told refl (omega arith) refl

-- ---- two runs

-- a call that went well, and what follows
goes_both : (end : RunEnd) (b : Bool) (xs ys : List BerthCall) (One Two : Type 0) → (One → Two) → GoesOn Whole b xs One → GoesOn end b (xs ++ ys) Two
goes_both end true xs ys One Two f h = f h
goes_both end false xs ys One Two f h = absurd h

-- a run that was whole, and then another
pub both : (end : RunEnd) (ps qs : List Asked) (xs ys : List BerthCall) → Runs Whole ps xs → Runs end qs ys → Runs end (ps ++ qs) (xs ++ ys)
both end [] qs [] ys first second = second
both end (a ∷ ps) qs [] ys first second = absurd first
both end [] qs (c ∷ xs) ys first second = absurd first
both end (a ∷ ps) qs (c ∷ xs) ys first second = (first.0, goes_both end (went_well c) xs ys (Runs Whole ps xs) (Runs end (ps ++ qs) (xs ++ ys)) (λ h. both end ps qs xs ys h second) first.1)

pub run_then : (end : RunEnd) (ps qs : List Asked) (old mid new : BerthTold) → MakesRun Whole ps old mid → MakesRun end qs mid new → MakesRun end (ps ++ qs) old new
run_then end ps qs old mid new first second =
    (first.0 ++ second.0, both end ps qs first.0 second.0 first.1 second.1, made_on first.0 second.0 ⊥ (IsStopped end) old mid new first.2 second.2)

-- the end isn't that of a whole run
abbrev pub IsEarly : RunEnd → Type 0
IsEarly Whole = ⊥
IsEarly Stopped = Unit {0}
IsEarly Cut = Unit {0}

goes_wider : (end : RunEnd) (b : Bool) (xs : List BerthCall) (One Two : Type 0) → (One → Two) → GoesOn end b xs One → GoesOn end b xs Two
goes_wider end true xs One Two f h = f h
goes_wider end false xs One Two f h = h

ends_wider : (end : RunEnd) (ps qs : List Asked) → IsEarly end → EndsHere end ps → EndsHere end (ps ++ qs)
ends_wider Whole ps qs early h = absurd early
ends_wider Stopped ps qs early h = absurd h
ends_wider Cut ps qs early h = tt

pub wider : (end : RunEnd) (ps qs : List Asked) (xs : List BerthCall) → IsEarly end → Runs end ps xs → Runs end (ps ++ qs) xs
wider end ps qs [] early h = ends_wider end ps qs early h
wider end [] qs (c ∷ xs) early h = absurd h
wider end (a ∷ ps) qs (c ∷ xs) early h = (h.0, goes_wider end (went_well c) xs (Runs end ps xs) (Runs end (ps ++ qs) xs) (λ r. wider end ps qs xs early r) h.1)

-- a run that ended early is one of more calls too
pub run_wider : (end : RunEnd) (ps qs : List Asked) (old new : BerthTold) → IsEarly end → MakesRun end ps old new → MakesRun end (ps ++ qs) old new
run_wider end ps qs old new early h = (h.0, wider end ps qs h.0 early h.1, h.2)

-- ---- no call, and one call

pub run_none : (told : BerthTold) → MakesRun Whole [] told told
run_none told = ([], tt, made_none told)

pub run_cut : (asks : List Asked) (told : BerthTold) → MakesRun Cut asks told told
run_cut asks told = ([], tt, made_none told)

-- one call, by its answer
pub run_io : (a : Asked) (c : BerthCall) (r : Io) (old new : BerthTold) → asked c ≡ a → went_well c ≡ is_done r → Adds (c ∷ []) old.log new.log → Counts old.faults new.faults (r ≡ io.Failed) → SameBerth old new → MakesRun (io_end r) (a ∷ []) old new
run_io a c io.Done old new is well log count same =
    (c ∷ [], (is, subst (λ (b : Bool). GoesOn Whole b [] (EndsHere Whole [])) (sym well) tt), record { log = log; count = record { later = count.later; rose = λ failed. absurd failed }; same = same })
run_io a c io.Failed old new is unwell log count same =
    (c ∷ [], (is, subst (λ (b : Bool). GoesOn Stopped b [] (EndsHere Stopped [])) (sym unwell) refl), record { log = log; count = record { later = count.later; rose = λ failed. count.rose refl }; same = same })

-- ---- a run over the elements of a list

pub front_more : {X : Type 0} (xs : List X) (i : ℕ) (x : X) → i < length xs → x ≡ get_or xs i x → take (i + 1) xs ≡ take i xs ++ x ∷ []
front_more {X = X} xs i x below is = take_more xs i x below ∙ ap (λ (y : X). take i xs ++ y ∷ []) (sym is)

-- the list is its front, one element and what is behind it
pub split_at : {X : Type 0} (xs : List X) (i : ℕ) (x : X) → i < length xs → x ≡ get_or xs i x → xs ≡ (take i xs ++ x ∷ []) ++ drop (i + 1) xs
split_at {X = X} xs i x below is =
    sym (take-append-drop (i + 1) xs) ∙ ap (λ (ys : List X). ys ++ drop (i + 1) xs) (front_more xs i x below is)

module _ {X : Type 0} (F : List X → List Asked) (hom : (xs ys : List X) → F (xs ++ ys) ≡ F xs ++ F ys) where
  -- the element at which the run stands went well
  pub loop_go : (xs : List X) (i : ℕ) (x y : X) (old mid new : BerthTold) → i < length xs → x ≡ get_or xs i x → y ≡ x → MakesRun Whole (F (take i xs)) old mid → MakesRun Whole (F (y ∷ [])) mid new → MakesRun Whole (F (take (i + 1) xs)) old new
  loop_go xs i x y old mid new below is same first next =
      subst (λ (asks : List Asked). MakesRun Whole asks old new) (sym (ap F (front_more xs i x below is) ∙ hom (take i xs) (x ∷ [])))
      (run_then Whole (F (take i xs)) (F (x ∷ [])) old mid new first (subst (λ (z : X). MakesRun Whole (F (z ∷ [])) mid new) same next))

  -- it ended the run
  pub loop_ends : (end : RunEnd) → IsEarly end → (xs : List X) (i : ℕ) (x y : X) (old mid new : BerthTold) → i < length xs → x ≡ get_or xs i x → y ≡ x → MakesRun Whole (F (take i xs)) old mid → MakesRun end (F (y ∷ [])) mid new → MakesRun end (F xs) old new
  loop_ends end early xs i x y old mid new below is same first next =
      subst (λ (asks : List Asked). MakesRun end asks old new) (sym (ap F (split_at xs i x below is) ∙ hom (take i xs ++ x ∷ []) (drop (i + 1) xs)))
      (run_wider end (F (take i xs ++ x ∷ [])) (F (drop (i + 1) xs)) old new early
      (subst (λ (asks : List Asked). MakesRun end asks old new) (sym (hom (take i xs) (x ∷ []))) (run_then end (F (take i xs)) (F (x ∷ [])) old mid new first (subst (λ (z : X). MakesRun end (F (z ∷ [])) mid new) same next))))

  -- all of them went well
  pub loop_done : (xs : List X) (i : ℕ) (old new : BerthTold) → length xs ≤ i → MakesRun Whole (F (take i xs)) old new → MakesRun Whole (F xs) old new
  loop_done xs i old new past h = subst (λ (ys : List X). MakesRun Whole (F ys) old new) (take_all i xs past) h
