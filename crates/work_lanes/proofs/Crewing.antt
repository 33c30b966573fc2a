-- The lanes, from their numbers to their ends.
use Rattle.std.proofs.Common.{◌≡◌, ℕ, ℤ, Bool, suc, ◌+◌, ◌<◌, ◌≤◌, List, [], ◌∷◌, ◌++◌, length, refl}
use Rattle.std.proofs.Common.{ap, sym, ◌∙◌, subst, append_assoc, append-nil, arith}
use Rattle.seat_desk.specs.declared.machine.Machine.{Ghosts}
use Rattle.plain_values.specs.declared.entry.Entry.{Entry}
use Rattle.seat_desk.specs.declared.desk.Pass.{Pass}
use Rattle.seat_desk.specs.declared.desk.Desk.{Desk}
use Rattle.seat_desk.specs.History.{StartsWith, calls_by}
use Rattle.seat_desk.specs.Passes.{IsPassOf, IsSamePass, mine, seen}
use Rattle.seat_desk.proofs.Calls.{others_only}
use Rattle.lane_threads.specs.declared.pair.Either.{Either}
use Rattle.lane_threads.specs.declared.pair.Either.TheVariants.{First, Second}
use Rattle.lane_threads.specs.Lanes.{IsFresh, FactBefore, FactOfRun}
use Rattle.lane_threads.specs.Pairs.{MayRunOfKind, HasRunOfKind}
use Rattle.lane_threads.specs.LaneJobs.{MayRunInOrder, KeepsPasses, EachLane, LaneEnds}
use Rattle.work_queue.specs.declared.queue.Ask.{Ask}
use Rattle.work_queue.specs.declared.queue.Told.{Told}
use Rattle.work_queue.specs.States.{begun_by, read_in}
use Rattle.work_queue.proofs.Sided.{read_on, begun_on}
use Rattle.work_lanes.specs.declared.reading.Reader.{Reader}
use Rattle.work_lanes.specs.declared.reading.ReaderLeft.{ReaderLeft}
use Rattle.work_lanes.specs.declared.handling.Hands.{Hands}
use Rattle.work_lanes.specs.Calls.{after_all, read_at, begun_at}
use Rattle.work_lanes.specs.Handles.{Follows, EachFollows}
use Rattle.work_lanes.specs.Crews.{AreHands, AreLanes, handlers_in}
use Rattle.work_lanes.proofs.Following.{follows_on}

abbrev pub LaneEntry : Type 0 → Type 0 → Type 0
LaneEntry X Y = Entry (Ask X Y) Told

-- what the reader had done in the end is all that it ever did
pub all_read : {X Y : Type 0} (number : X → ℤ) (cancels : X → Bool)
    (h seen mine : List (LaneEntry X Y)) (lane : ℕ) → lane ≡ 0 → StartsWith h seen
    → calls_by lane seen ≡ mine → mine ≡ calls_by 0 h
    → read_in (after_all number cancels h) ≡ read_in (after_all number cancels seen)
all_read number cancels h seen mine lane is starts idle made =
    read_on number cancels lane seen h is (
      starts.0,
      starts.1,
      others_only lane seen starts.0 h mine idle
          (subst (λ (k : ℕ). calls_by k h ≡ mine) (sym is) (sym made)) starts.1,
    )

-- what a lane had begun in the end is all that it ever has
pub all_begun : {X Y : Type 0} (number : X → ℤ) (cancels : X → Bool)
    (h seen mine : List (LaneEntry X Y)) (k lane : ℕ) → lane ≡ k → StartsWith h seen
    → calls_by lane seen ≡ mine → mine ≡ calls_by k h
    → begun_by k (after_all number cancels h).taken
    ≡ begun_by lane (after_all number cancels seen).taken
all_begun number cancels h seen mine k lane is starts idle made =
    subst (λ (i : ℕ). begun_by i (after_all number cancels h).taken
    ≡ begun_by lane (after_all number cancels seen).taken) is
    (begun_on number cancels lane seen h (
      starts.0,
      starts.1,
      others_only lane seen starts.0 h mine idle
          (subst (λ (i : ℕ). calls_by i h ≡ mine) (sym is) (sym made)) starts.1,
    ))

not_zero : (k : ℕ) → 1 ≤ k → k ≡ 0 → ⊥
not_zero k one none = omega (arith, one, none)

abbrev pub LanePass : {X Y M G Q : Type 0} → Ghosts M (Ask X Y) Told G Q → Type 0
LanePass {X} {Y} {M} {G} {Q} g = Pass M (Ask X Y) Told G Q g

abbrev pub LaneDesk : Type 0 → Type 0 → Type 0 → Type 0 → Type 0 → Type 0
LaneDesk X Y M G Q = Desk M (Ask X Y) Told G Q

module _ {X Y M G Q : Type 0} {g : Ghosts M (Ask X Y) Told G Q} {T H : Type 0} where
  module _ (reads : FactBefore (Reader T) (LaneDesk X Y M G Q) (LanePass g))
      (works : FactBefore (Hands H) (LaneDesk X Y M G Q) (LanePass g))
      (can_read : (r : Reader T) (desk : LaneDesk X Y M G Q) (bells : ℕ) (pass : LanePass g)
      → IsPassOf desk pass → IsFresh pass → pass.lane ≡ 0 → pass.lane < bells
      → reads r desk bells pass)
      (can_work : (h : Hands H) (desk : LaneDesk X Y M G Q) (bells : ℕ) (pass : LanePass g)
      → IsPassOf desk pass → IsFresh pass → pass.lane ≡ h.number → (pass.lane ≡ 0 → ⊥)
      → pass.lane < bells → works h desk bells pass) where
    hands_may : (q : Q) (k : ℕ) (xs : List H) (lanes : List (Either (Reader T) (Hands H)))
        → 1 ≤ k → AreHands k xs lanes → MayRunInOrder (MayRunOfKind reads works) q k lanes
    hands_may q k [] [] some a = tt
    hands_may q k [] (lane ∷ lanes) some a = absurd a
    hands_may q k (x ∷ xs) [] some a = absurd a
    hands_may q k (x ∷ xs) (First r ∷ lanes) some a = absurd a
    hands_may q k (x ∷ xs) (Second h ∷ lanes) some a = (
      λ desk bells pass of fresh lane bell by. can_work h desk bells pass of fresh (lane ∙ sym a.0)
          (λ e. not_zero k some (sym lane ∙ e)) (subst (λ (i : ℕ). i < bells) (sym lane) bell),
      hands_may q (k + 1) xs lanes (omega (arith, some)) a.2,
    )

    pub lanes_may : (q : Q) (input : T) (depth : ℕ) (xs : List H) (lanes : List (Either (Reader T) (Hands H)))
        → AreLanes input depth xs lanes → MayRunInOrder (MayRunOfKind reads works) q 0 lanes
    lanes_may q input depth xs [] a = absurd a
    lanes_may q input depth xs (First r ∷ lanes) a = (
      λ desk bells pass of fresh lane bell by. can_read r desk bells pass of fresh lane
          (subst (λ (i : ℕ). i < bells) (sym lane) bell),
      hands_may q 1 xs lanes (omega arith) a.2,
    )
    lanes_may q input depth xs (Second h ∷ lanes) a = absurd a

  module _ (number : X → ℤ) (cancels : X → Bool)
      (reads : FactOfRun (Reader T) (ReaderLeft T) (LanePass g))
      (works : FactOfRun (Hands H) H (LanePass g))
      (read_keeps : (r : Reader T) (p : LanePass g) (e : ReaderLeft T) (p' : LanePass g)
      → reads r p e p' → IsSamePass p p')
      (work_keeps : (h : Hands H) (p : LanePass g) (e : H) (p' : LanePass g)
      → works h p e p' → IsSamePass p p')
      (answers : H → X → Y → H → Type 0) (breaks : H → X → H → Type 0)
      (work_follows : (h : Hands H) (p : LanePass g) (e : H) (p' : LanePass g)
      → works h p e p'
      → Follows answers breaks h.handler (begun_at number cancels p') e) where
    pub lanes_keep : KeepsPasses (HasRunOfKind reads works)
    lanes_keep (First r) p (First e) p' h = read_keeps r p e p' h
    lanes_keep (First r) p (Second e) p' h = absurd h
    lanes_keep (Second w) p (First e) p' h = absurd h
    lanes_keep (Second w) p (Second e) p' h = work_keeps w p e p' h

    -- how the reader has ended, and what the whole history has of it
    pub record ReaderEnds (input : T) (depth : ℕ) (h : List (LaneEntry X Y)) (left : ReaderLeft T)
        : Type 0 where
      pub lane : Reader T
      pub is : lane.input ≡ input
      pub depth_is : lane.depth ≡ depth
      pub before : LanePass g
      pub after : LanePass g
      pub ran : reads lane before left after
      pub read : read_in (after_all number cancels h) ≡ read_at number cancels after

    first_ends : (q : Q) (input : T) (depth : ℕ) (h : List (LaneEntry X Y)) (r : Reader T)
        (e : Either (ReaderLeft T) H) → r.input ≡ input → r.depth ≡ depth
        → LaneEnds (HasRunOfKind reads works) q h 0 (First r) e
        → (left : ReaderLeft T) × (e ≡ First left) × ReaderEnds input depth h left
    first_ends q input depth h r (Second e) is deep x = absurd x.ran
    first_ends q input depth h r (First left) is deep x = (
      left,
      refl,
      record {
        lane = r;
        is = is;
        depth_is = deep;
        before = x.before;
        after = x.after;
        ran = x.ran;
        read = all_read number cancels h (seen x.after) (mine x.after) x.after.lane
            (x.same.1 ∙ x.number) x.saw x.after.idle.3 x.made;
      },
    )

    -- what one handler has done
    hand_ends : (q : Q) (k : ℕ) (h : List (LaneEntry X Y)) (w : Hands H) (left : H)
        → LaneEnds (HasRunOfKind reads works) q h k (Second w) (Second left)
        → Follows answers breaks w.handler (begun_by k (after_all number cancels h).taken)
        left
    hand_ends q k h w left x =
        follows_on answers breaks w.handler (begun_at number cancels x.after)
        (begun_by k (after_all number cancels h).taken) left
        (all_begun number cancels h (seen x.after) (mine x.after) k x.after.lane
        (x.same.1 ∙ x.number) x.saw x.after.idle.3 x.made)
        (work_follows w x.before left x.after x.ran)

    -- and each of them, in order from the number k on
    hands_end : (q : Q) (k : ℕ) (h : List (LaneEntry X Y)) (xs : List H)
        (lanes : List (Either (Reader T) (Hands H)))
        (ends : List (Either (ReaderLeft T) H))
        → AreHands k xs lanes → EachLane (HasRunOfKind reads works) q h k lanes ends
        → EachFollows answers breaks k (after_all number cancels h).taken xs (handlers_in ends)
        × (length ends ≡ length xs)
    hands_end q k h [] [] [] a x = (tt, refl)
    hands_end q k h [] [] (e ∷ ends) a x = absurd x
    hands_end q k h [] (lane ∷ lanes) ends a x = absurd a
    hands_end q k h (y ∷ ys) [] ends a x = absurd a
    hands_end q k h (y ∷ ys) (First r ∷ lanes) ends a x = absurd a
    hands_end q k h (y ∷ ys) (Second w ∷ lanes) [] a x = absurd x
    hands_end q k h (y ∷ ys) (Second w ∷ lanes) (First e ∷ ends) a x = absurd x.0.ran
    hands_end q k h (y ∷ ys) (Second w ∷ lanes) (Second left ∷ ends) a x =
        let rest = hands_end q (k + 1) h ys lanes ends a.2 x.1 in (
          (
            subst (λ (o : H). Follows answers breaks o
                (begun_by k (after_all number cancels h).taken) left) a.1
                (hand_ends q k h w left x.0),
            rest.0,
          ),
          ap suc rest.1,
        )

    pub crew_ends : (q : Q) (input : T) (depth : ℕ) (xs : List H) (h : List (LaneEntry X Y))
        (lanes : List (Either (Reader T) (Hands H)))
        (ends : List (Either (ReaderLeft T) H))
        → AreLanes input depth xs lanes → EachLane (HasRunOfKind reads works) q h 0 lanes ends
        → (left : ReaderLeft T) × (rest : List (Either (ReaderLeft T) H))
        × (ends ≡ First left ∷ rest) × ReaderEnds input depth h left
        × EachFollows answers breaks 1 (after_all number cancels h).taken xs (handlers_in rest)
        × (length rest ≡ length xs)
    crew_ends q input depth xs h [] ends a x = absurd a
    crew_ends q input depth xs h (Second w ∷ lanes) ends a x = absurd a
    crew_ends q input depth xs h (First r ∷ lanes) [] a x = absurd x
    crew_ends q input depth xs h (First r ∷ lanes) (e ∷ ends) a x =
        let f = first_ends q input depth h r e a.0 a.1 x.0 in
        let w = hands_end q 1 h xs lanes ends a.2 x.1 in (
          f.0,
          ends,
          ap (λ (y : Either (ReaderLeft T) H). y ∷ ends) f.1,
          f.2,
          w.0,
          w.1,
        )

-- ---- the lanes are made one after another

abbrev pub LanesOf : Type 0 → Type 0 → Type 0
LanesOf A B = List (Either (Reader A) (Hands B))

module _ {T H : Type 0} where
  -- whatever lanes the handlers to come have, these stand before them
  abbrev pub StandBefore : T → ℕ → List H → ℕ → List H → LanesOf T H → Type 0
  StandBefore input depth xs k left lanes =
      (more : List (Either (Reader T) (Hands H))) → AreHands k left more
      → AreLanes input depth xs (lanes ++ more)

  pub lanes_begin : (input : T) (depth : ℕ) (xs left : List H) (r : Reader T) (none lanes : LanesOf T H)
      → lanes ≡ none ++ First r ∷ [] → none ≡ [] → r.input ≡ input → r.depth ≡ depth → left ≡ xs
      → StandBefore input depth xs 1 left lanes
  lanes_begin input depth xs left r none lanes is empty from deep all more a =
      subst (λ (ls : LanesOf T H). AreLanes input depth xs (ls ++ more))
      (sym (is ∙ ap (λ (ls : LanesOf T H). ls ++ First r ∷ []) empty))
      (from, deep, subst (λ (ys : List H). AreHands 1 ys more) all a)

  pub lanes_go_on : (input : T) (depth : ℕ) (xs : List H) (k : ℕ) (left left' : List H) (h : Hands H)
      (lanes lanes' : LanesOf T H) → lanes' ≡ lanes ++ Second h ∷ [] → h.number ≡ k
      → left ≡ h.handler ∷ left' → StandBefore input depth xs k left lanes
      → StandBefore input depth xs (k + 1) left' lanes'
  lanes_go_on input depth xs k left left' h lanes lanes' is number fewer so_far more a =
      subst (λ (ls : LanesOf T H). AreLanes input depth xs ls)
      (sym (ap (λ (ls : LanesOf T H). ls ++ more) is
      ∙ append_assoc lanes (Second h ∷ []) more))
      (so_far (Second h ∷ more) (subst (λ (ys : List H). AreHands k ys (Second h ∷ more))
      (sym fewer) (number, refl, a)))

  pub lanes_end : (input : T) (depth : ℕ) (xs : List H) (k : ℕ) (left : List H) (lanes : LanesOf T H)
      → left ≡ [] → StandBefore input depth xs k left lanes → AreLanes input depth xs lanes
  lanes_end input depth xs k left lanes none so_far =
      subst (λ (ls : LanesOf T H). AreLanes input depth xs ls) (append-nil lanes)
      (so_far [] (subst (λ (ys : List H). AreHands {T = T} k ys []) (sym none) tt))

  hands_many : (k : ℕ) (xs : List H) (lanes : LanesOf T H) → AreHands k xs lanes
      → length lanes ≡ length xs
  hands_many k [] [] a = refl
  hands_many k [] (lane ∷ lanes) a = absurd a
  hands_many k (x ∷ xs) [] a = absurd a
  hands_many k (x ∷ xs) (First r ∷ lanes) a = absurd a
  hands_many k (x ∷ xs) (Second h ∷ lanes) a = ap suc (hands_many (k + 1) xs lanes a.2)

  -- how many there are
  pub lanes_many : (input : T) (depth : ℕ) (xs : List H) (lanes : LanesOf T H) → AreLanes input depth xs lanes
      → length lanes ≡ length xs + 1
  lanes_many input depth xs [] a = absurd a
  lanes_many input depth xs (Second h ∷ lanes) a = absurd a
  lanes_many input depth xs (First r ∷ lanes) a =
      let i = hands_many 1 xs lanes a.2 in
      let goal : suc (length lanes) ≡ length xs + 1 = omega (arith, i) in goal
