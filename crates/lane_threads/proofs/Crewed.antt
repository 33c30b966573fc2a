-- Lanes of one kind and at most one of another, as one crew.
use Rattle.std.proofs.Common.{◌≡◌, ℕ, suc, ◌+◌, ◌≤◌, List, [], ◌∷◌, length, refl, sym, ap, subst}
use Rattle.std.proofs.Common.{arith, Option, None, Some}
use Rattle.seat_desk.specs.declared.machine.Machine.{Ghosts}
use Rattle.plain_values.specs.declared.entry.Entry.{Entry}
use Rattle.seat_desk.specs.declared.desk.Pass.{Pass}
use Rattle.seat_desk.specs.declared.desk.Desk.{Desk}
use Rattle.lane_threads.specs.declared.pair.Either.{Either}
use Rattle.lane_threads.specs.declared.pair.Either.TheVariants.{First, Second}
use Rattle.lane_threads.specs.Lanes.{FactBefore, FactOfRun}
use Rattle.lane_threads.specs.Pairs.{MayRunOfKind, HasRunOfKind}
use Rattle.lane_threads.specs.LaneJobs.{MayRunInOrder, KeepsPasses, LaneEnds, EachLane}
use Rattle.lane_threads.specs.Parts.{in_one_list, HasParts}
use Rattle.lane_threads.specs.Beside.{MayRunBeside, EndsBeside, count_of}

-- ---- how many there are

-- one at most stands beside
pub one_at_most : {X : Type 0} (beside : Option X) → count_of beside ≤ 1
one_at_most {X} None = omega arith
one_at_most {X} (Some x) = omega arith

module _ {L X : Type 0} where
  count : (lanes : List L) (beside : Option X)
      → length (in_one_list lanes beside) ≡ length lanes + count_of beside
  count [] None = refl
  count [] (Some x) = omega arith
  count (l ∷ ls) beside =
      let more = count ls beside in
      let whole : suc (length (in_one_list ls beside)) ≡ suc (length ls) + count_of beside =
      omega (arith, more) in whole

  -- so many lanes are in the list
  pub as_many : (lanes : List L) (beside : Option X) (laid : List (Either L X))
      → laid ≡ in_one_list lanes beside → length laid ≡ length lanes + count_of beside
  as_many lanes beside laid is =
      subst (λ (xs : List (Either L X)). length xs ≡ length lanes + count_of beside) (sym is)
      (count lanes beside)

module _ {M C R G Q : Type 0} {g : Ghosts M C R G Q} {L E : Type 0} where
  ends_from : (has : FactOfRun L E (Pass M C R G Q g)) (q : Q) (h : List (Entry C R)) (k : ℕ)
      (lanes : List L) (ends : List E) → EachLane has q h k lanes ends
      → length ends ≡ length lanes
  ends_from has q h k [] [] x = refl
  ends_from has q h k (l ∷ ls) (e ∷ es) x = ap suc (ends_from has q h (k + 1) ls es x.1)
  ends_from has q h k [] (e ∷ es) x = absurd x
  ends_from has q h k (l ∷ ls) [] x = absurd x

  -- there are as many ends as lanes
  pub as_many_ends : (has : FactOfRun L E (Pass M C R G Q g)) (q : Q) (h : List (Entry C R))
      (lanes : List L) (ends : List E) → EachLane has q h 0 lanes ends
      → length ends ≡ length lanes
  as_many_ends has q h lanes ends x = ends_from has q h 0 lanes ends x

-- ---- before they run

module _ {M C R G Q : Type 0} {g : Ghosts M C R G Q} {L X : Type 0}
    (may : FactBefore L (Desk M C R G Q) (Pass M C R G Q g))
    (may_beside : FactBefore X (Desk M C R G Q) (Pass M C R G Q g)) where
  may_from : (q : Q) (k n : ℕ) (lanes : List L) (beside : Option X) → n ≡ k + length lanes
      → MayRunInOrder may q k lanes → MayRunBeside may_beside q n beside
      → MayRunInOrder (MayRunOfKind may may_beside) q k (in_one_list lanes beside)
  may_from q k n [] None e fit last = tt
  may_from q k n [] (Some x) e fit last =
      let at : n ≡ k = omega (arith, e) in
      (subst (λ (i : ℕ). MayRunBeside may_beside q i (Some x)) at last, tt)
  may_from q k n (l ∷ ls) beside e fit last =
      (fit.0, may_from q (k + 1) n ls beside (omega (arith, e)) fit.1 last)

  -- all may run in order
  pub all_may : (q : Q) (lanes : List L) (beside : Option X) (laid : List (Either L X))
      → laid ≡ in_one_list lanes beside → MayRunInOrder may q 0 lanes
      → MayRunBeside may_beside q (length lanes) beside
      → MayRunInOrder (MayRunOfKind may may_beside) q 0 laid
  all_may q lanes beside laid is fit last =
      let Fits : List (Either L X) → Type 0 = MayRunInOrder (MayRunOfKind may may_beside) q 0 in
      subst Fits (sym is) (may_from q 0 (length lanes) lanes beside (omega arith) fit last)

-- ---- after they ran

module _ {M C R G Q : Type 0} {g : Ghosts M C R G Q} {L X E F : Type 0}
    (has : FactOfRun L E (Pass M C R G Q g)) (has_beside : FactOfRun X F (Pass M C R G Q g)) where
  -- a lane of either kind gives back its pass
  pub all_keep : KeepsPasses has → KeepsPasses has_beside
      → KeepsPasses (HasRunOfKind has has_beside)
  all_keep keeps keeps_beside (First l) p (First e) p' ran = keeps l p e p' ran
  all_keep keeps keeps_beside (First l) p (Second e) p' ran = absurd ran
  all_keep keeps keeps_beside (Second x) p (First e) p' ran = absurd ran
  all_keep keeps keeps_beside (Second x) p (Second e) p' ran = keeps_beside x p e p' ran

  module _ (q : Q) (h : List (Entry C R)) where
    -- lanes of both kinds ran to these ends
    abbrev Each : ℕ → List (Either L X) → List (Either E F) → Type 0
    Each k lanes ends = EachLane (HasRunOfKind has has_beside) q h k lanes ends

    -- what is said of a lane of either kind is what its own kind says
    first_ends : (k : ℕ) (l : L) (e : E)
        → LaneEnds (HasRunOfKind has has_beside) q h k (First l) (First e)
        → LaneEnds has q h k l e
    first_ends k l e x = record {
      before = x.before;
      after = x.after;
      fresh = x.fresh;
      number = x.number;
      by = x.by;
      same = x.same;
      ran = x.ran;
      saw = x.saw;
      made = x.made;
    }

    second_ends : (k : ℕ) (l : X) (e : F)
        → LaneEnds (HasRunOfKind has has_beside) q h k (Second l) (Second e)
        → LaneEnds has_beside q h k l e
    second_ends k l e x = record {
      before = x.before;
      after = x.after;
      fresh = x.fresh;
      number = x.number;
      by = x.by;
      same = x.same;
      ran = x.ran;
      saw = x.saw;
      made = x.made;
    }

    parts_from : (k : ℕ) (lanes : List L) (beside : Option X) (all : List (Either E F))
        → Each k (in_one_list lanes beside) all → HasParts all
    parts_from k [] None [] x = ([], None, refl)
    parts_from k [] None (e ∷ es) x = absurd x
    parts_from k [] (Some l) [] x = absurd x
    parts_from k [] (Some l) (First e ∷ es) x = absurd x.0.ran
    parts_from k [] (Some l) (Second e ∷ []) x = ([], Some e, refl)
    parts_from k [] (Some l) (Second e ∷ (f ∷ fs)) x = absurd x.1
    parts_from k (l ∷ ls) beside [] x = absurd x
    parts_from k (l ∷ ls) beside (First e ∷ es) x =
        let more = parts_from (k + 1) ls beside es x.1 in
        (e ∷ more.0, more.1, ap (λ (xs : List (Either E F)). First e ∷ xs) more.2)
    parts_from k (l ∷ ls) beside (Second e ∷ es) x = absurd x.0.ran

    ends_apart : (k n : ℕ) (lanes : List L) (beside : Option X) (ends : List E) (end : Option F)
        → n ≡ k + length lanes → Each k (in_one_list lanes beside) (in_one_list ends end)
        → EachLane has q h k lanes ends × EndsBeside has_beside q h n beside end
    ends_apart k n [] None [] None e x = (tt, tt)
    ends_apart k n [] None [] (Some f) e x = absurd x
    ends_apart k n [] (Some l) [] None e x = absurd x
    ends_apart k n [] (Some l) [] (Some f) e x =
        let at : k ≡ n = omega (arith, e) in
        (tt, subst (λ (i : ℕ). LaneEnds has_beside q h i l f) at (second_ends k l f x.0))
    ends_apart k n [] None (f ∷ fs) end e x = absurd x
    ends_apart k n [] (Some l) (f ∷ fs) end e x = absurd x.0.ran
    ends_apart k n (l ∷ ls) beside [] None e x = absurd x
    ends_apart k n (l ∷ ls) beside [] (Some f) e x = absurd x.0.ran
    ends_apart k n (l ∷ ls) beside (f ∷ fs) end e x =
        let more = ends_apart (k + 1) n ls beside fs end (omega (arith, e)) x.1 in
        ((first_ends k l f x.0, more.0), more.1)

    -- what a crew of the one list leaves has its parts
    pub all_have_parts : (lanes : List L) (beside : Option X) (laid : List (Either L X))
        (left : List (Either E F)) → laid ≡ in_one_list lanes beside → Each 0 laid left
        → HasParts left
    all_have_parts lanes beside laid left is x = parts_from 0 lanes beside left
        (subst (λ (xs : List (Either L X)). Each 0 xs left) is x)

    -- these are the ends of the lanes and of the one beside
    pub all_end : (lanes : List L) (beside : Option X) (laid : List (Either L X))
        (left : List (Either E F)) (ends : List E) (end : Option F)
        → laid ≡ in_one_list lanes beside → left ≡ in_one_list ends end → Each 0 laid left
        → EachLane has q h 0 lanes ends × EndsBeside has_beside q h (length lanes) beside end
    all_end lanes beside laid left ends end is apart x =
        ends_apart 0 (length lanes) lanes beside ends end (omega arith)
        (subst (λ (ys : List (Either E F)). Each 0 (in_one_list lanes beside) ys) apart
        (subst (λ (xs : List (Either L X)). Each 0 xs left) is x))
