-- The works of a list get the words of their requests one by one.
use Rattle.std.proofs.Common.{◌≡◌, ℕ, zero, suc, ◌+◌, ◌<◌, ◌≤◌, List, [], ◌∷◌, ◌++◌, length, map, take, drop, set, get_or, Result, Ok, Err, refl, sym, ap, ◌∙◌, arith, add-one, append_assoc, length-take}
use Rattle.std.proofs.lemmas.List.{drop-set-lt, get_or-drop, map-append, take-append-drop, take_all, take_more, take_more_set}
use Rattle.build_report.specs.declared.fault.RunFault.{RunFault}
use Rattle.build_report.specs.declared.fault.RunFault.TheVariants as fault
use Rattle.flag_files.specs.declared.expanding.FlagFault.{FlagFault}
use Rattle.list_actions.specs.declared.types.ListAction.{ListAction}
use Rattle.remote_messages.specs.declared.work.WorkAction.{WorkAction}
use Rattle.run_loading.specs.Works.{Gives, Works}
use Rattle.spawn_strategies.specs.declared.types.Name.{Name}
use Rattle.spawn_tasks.specs.Wording.{all_worded, worded}

-- as many as there are actions
pub record AreAsMany (ns : List Name) (xs : List ListAction) (ws : List WorkAction) : Type 0 where
  pub named : length ns ≡ length xs
  pub worked : length ws ≡ length xs

pub rest_as_many : {n : Name} {ns : List Name} {x : ListAction} {xs : List ListAction}
    {w : WorkAction} {ws : List WorkAction} → AreAsMany (n ∷ ns) (x ∷ xs) (w ∷ ws)
    → AreAsMany ns xs ws
rest_as_many m = let a = m.named in let b = m.worked in record {
  named = omega arith;
  worked = omega arith;
}

length-all_worded : (ns : List Name) (xs : List ListAction) (ws : List WorkAction)
    → AreAsMany ns xs ws → length (all_worded ns xs ws) ≡ length xs
length-all_worded [] [] ws m = refl
length-all_worded [] (x ∷ xs) ws m = absurd (let e = m.named in omega arith)
length-all_worded (n ∷ ns) [] ws m = refl
length-all_worded (n ∷ ns) (x ∷ xs) [] m = absurd (let e = m.worked in omega arith)
length-all_worded (n ∷ ns) (x ∷ xs) (w ∷ ws) m =
    ap suc (length-all_worded ns xs ws (rest_as_many m))

-- what is due of one of them
due_at : (ns : List Name) (xs : List ListAction) (ws : List WorkAction) → AreAsMany ns xs ws
    → (i : ℕ) → i < length xs → (n m : Name) (x : ListAction) (w d : WorkAction) → n ≡ get_or ns i m
    → x ≡ get_or xs i x → w ≡ get_or ws i d → (r : Result WorkAction FlagFault)
    → get_or (all_worded ns xs ws) i r ≡ worded n x w
due_at ns [] ws many i below n m x w d is_n is_x is_w r = absurd (omega (arith, below))
due_at [] (y ∷ xs) ws many i below n m x w d is_n is_x is_w r =
    absurd (let e = many.named in omega arith)
due_at (k ∷ ns) (y ∷ xs) [] many i below n m x w d is_n is_x is_w r =
    absurd (let e = many.worked in omega arith)
due_at (k ∷ ns) (y ∷ xs) (v ∷ ws) many zero below n m x w d is_n is_x is_w r =
    ap (λ a. worded a y v) (sym is_n) ∙ ap (λ a. worded n a v) (sym is_x)
    ∙ ap (λ a. worded n x a) (sym is_w)
due_at (k ∷ ns) (y ∷ xs) (v ∷ ws) many (suc i) below n m x w d is_n is_x is_w r =
    due_at ns xs ws (rest_as_many many) i (omega (arith, below)) n m x w d is_n is_x is_w r

-- Of these works, those before i have their words, and the others are as they were.
pub record SoFar (dues : List (Result WorkAction FlagFault)) (start : List WorkAction) (i : ℕ)
    (now : List WorkAction) : Type 0 where
  pub done : take i dues ≡ map (λ w. Ok w) (take i now)
  pub rest : drop i now ≡ drop i start

one_less : {X : Type 0} (i : ℕ) (zs : List X) → drop (suc i) zs ≡ drop 1 (drop i zs)
one_less zero zs = refl
one_less (suc i) [] = refl
one_less (suc i) (z ∷ zs) = one_less i zs

drop_on : {X : Type 0} (i : ℕ) (xs ys : List X) → drop i xs ≡ drop i ys
    → drop (i + 1) xs ≡ drop (i + 1) ys
drop_on {X = X} i xs ys e =
    ap (λ k. drop k xs) (add-one i) ∙ one_less i xs ∙ ap (λ (zs : List X). drop 1 zs) e
    ∙ sym (one_less i ys) ∙ ap (λ k. drop k ys) (sym (add-one i))

module _ (ns : List Name) (xs : List ListAction) (start now : List WorkAction) (i : ℕ)
    (many : AreAsMany ns xs start) (below : i < length xs) (as_now : length now ≡ length xs)
    (n m : Name) (x : ListAction) (w d : WorkAction) (is_n : n ≡ get_or ns i m)
    (is_x : x ≡ get_or xs i x) (is_w : w ≡ get_or now i d)
    (so_far : SoFar (all_worded ns xs start) start i now) where
  abbrev dues : List (Result WorkAction FlagFault)
  dues = all_worded ns xs start

  -- it is as it was
  untouched : w ≡ get_or start i d
  untouched =
      let z : i ≡ i + 0 = omega arith in
      is_w ∙ ap (λ k. get_or now k d) z ∙ sym (get_or-drop i now 0 d)
      ∙ ap (λ (zs : List WorkAction). get_or zs 0 d) so_far.rest ∙ get_or-drop i start 0 d
      ∙ ap (λ k. get_or start k d) (sym z)

  within : i < length dues
  within = let e = length-all_worded ns xs start many in omega (arith, below, e)

  next : (r : Result WorkAction FlagFault) → worded n x w ≡ r
      → take (i + 1) dues ≡ map (λ w. Ok w) (take i now) ++ r ∷ []
  next r is =
      take_more dues i r within
      ∙ ap (λ front. front ++ get_or dues i r ∷ []) so_far.done
      ∙ ap (λ due. map (λ w. Ok w) (take i now) ++ due ∷ [])
      (due_at ns xs start many i below n m x w d is_n is_x untouched r ∙ is)

  -- one more of them has its words
  pub one_more : (v : WorkAction) → worded n x w ≡ Ok v → SoFar dues start (i + 1) (set now i v)
  one_more v is = record {
    done = next (Ok v) is ∙ sym (map-append (λ w. Ok w) (take i now) (v ∷ []))
        ∙ ap (map (λ w. Ok w)) (sym (take_more_set now i v (omega (arith, below, as_now))));
    rest = drop-set-lt (i + 1) now i v (omega arith) ∙ drop_on i now start so_far.rest;
  }

  -- its fault ends it
  pub ends : (number : ℕ) (f : RunFault) → number ≡ i → Gives number (worded n x w) (Err f)
      → Works dues (Err f)
  ends number (fault.Flags a y) counted h = record {
    earlier = take i now;
    later = drop (i + 1) dues;
    stands = sym (take-append-drop (i + 1) dues)
        ∙ ap (λ front. front ++ drop (i + 1) dues) (next (Err y) h.1)
        ∙ append_assoc (map (λ w. Ok w) (take i now)) (Err y ∷ []) (drop (i + 1) dues);
    numbered = let same = h.0 in
        omega (arith, same, counted, length-take i now, below, as_now);
    real = h.2;
  }
  ends number (fault.NoMemory when) counted h = h
  ends number (fault.Absent at) counted h = absurd h
  ends number (fault.FloorFailed at) counted h = absurd h
  ends number fault.SinkFailed counted h = absurd h
  ends number fault.Words counted h = absurd h
  ends number (fault.List y) counted h = absurd h

-- all of them have their words
pub all_done : (dues : List (Result WorkAction FlagFault)) (start now : List WorkAction) (i : ℕ)
    → length dues ≤ i → length now ≤ i → SoFar dues start i now → dues ≡ map (λ w. Ok w) now
all_done dues start now i past end so_far =
    sym (take_all i dues past) ∙ so_far.done ∙ ap (map (λ w. Ok w)) (take_all i now end)

pub ended : (ns : List Name) (xs : List ListAction) (start now : List WorkAction) (i : ℕ)
    → AreAsMany ns xs start → length now ≡ length xs → length xs ≤ i
    → SoFar (all_worded ns xs start) start i now
    → all_worded ns xs start ≡ map (λ w. Ok w) now
ended ns xs start now i many as_now past so_far =
    let e = length-all_worded ns xs start many in
    all_done (all_worded ns xs start) start now i (omega (arith, e, past))
    (omega (arith, as_now, past)) so_far
