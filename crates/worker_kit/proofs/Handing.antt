-- From what lanes say of their handlers in a speech to the handlers.
use Rattle.std.proofs.Common.{◌≡◌, ◌⊎◌, ℕ, ℤ, ◌+◌, ◌≤◌, Bool, List, [], ◌∷◌, map, length, refl, ap, sym, subst}
use Rattle.std.proofs.Common.{◌∙◌, suc, inl, inr}
use Rattle.std.specs.List.{AllByRecursion}
use Rattle.delimited_framing.specs.Front.{Form}
use Rattle.message_service.specs.declared.finish.Finish.{Finish}
use Rattle.work_queue.specs.States.{InHand, begun_by}
use Rattle.work_lanes.specs.Handles.{AnswersAll, Follows, EachFollows}
use Rattle.work_lanes.specs.Serves.{Outside, ServesBy}

pub many_mapped : {W H : Type 0} (of : W → H) (ws : List W) → length (map of ws) ≡ length ws
many_mapped of [] = refl
many_mapped of (w ∷ ws) = ap suc (many_mapped of ws)

module _ {W H X Y : Type 0} (of : W → H) (answers : H → X → Y → H → Type 0)
    (breaks : H → X → H → Type 0) where
  abbrev AnswersOf : W → X → Y → W → Type 0
  AnswersOf old m y new = answers (of old) m y (of new)

  abbrev BreaksOf : W → X → W → Type 0
  BreaksOf old m new = breaks (of old) m (of new)

  all_of : (old : W) (ms : List X) (new : W) → AnswersAll AnswersOf old ms new
      → AnswersAll answers (of old) ms (of new)
  all_of old [] new a = ap of a
  all_of old (m ∷ ms) new a = (of a.0, a.1, all_of a.0 ms new a.2)

  follows_of : (old : W) (ms : List X) (new : W) → Follows AnswersOf BreaksOf old ms new
      → Follows answers breaks (of old) ms (of new)
  follows_of old ms new (inl a) = inl (all_of old ms new a)
  follows_of old ms new (inr b) = inr (record {
    front = b.front;
    last = b.last;
    mid = of b.mid;
    all = b.all;
    answered = all_of old b.front b.mid b.answered;
    broken = b.broken;
  })

  pub each_of : (k : ℕ) (taken : List (InHand X)) (olds news : List W)
      → EachFollows AnswersOf BreaksOf k taken olds news
      → EachFollows answers breaks k taken (map of olds) (map of news)
  each_of k taken [] [] e = tt
  each_of k taken (old ∷ olds) (new ∷ news) e =
      (follows_of old (begun_by k taken) new e.0, each_of (k + 1) taken olds news e.1)
  each_of k taken [] (new ∷ news) e = absurd e
  each_of k taken (old ∷ olds) [] e = absurd e

  pub each_many : (k : ℕ) (taken : List (InHand X)) (olds news : List W)
      → EachFollows AnswersOf BreaksOf k taken olds news → length news ≡ length olds
  each_many k taken [] [] e = refl
  each_many k taken (old ∷ olds) (new ∷ news) e = ap suc (each_many (k + 1) taken olds news e.1)
  each_many k taken [] (new ∷ news) e = absurd e
  each_many k taken (old ∷ olds) [] e = absurd e

module _ {X Y W H : Type 0} (number : X → ℤ) (cancels : X → Bool) (Says : X → Bool → Y → Type 0)
    (written : Y → List ℕ) (form : Form) (Spells : List ℕ → X → Type 0) (of : W → H)
    (answers : H → X → Y → H → Type 0) (breaks : H → X → H → Type 0) where
  -- what is said of lanes with such handlers is said of the handlers in them
  pub serves_of : (depth : ℕ) (f : Finish) (before : List ℕ) (olds news : List W) (xs ys : List H)
      (old new : Outside) → map of olds ≡ xs → ys ≡ map of news
      → ServesBy number cancels Says written form Spells
      (λ a m y b. answers (of a) m y (of b)) (λ a m b. breaks (of a) m (of b)) depth f before olds news
      old new
      → ServesBy number cancels Says written form Spells answers breaks depth f before xs ys old new
  serves_of depth f before olds news xs ys old new from back s = record {
    serves = s.serves;
    lanes = subst (λ (n : ℕ). AllByRecursion (λ (h : InHand X). h.lane ≤ n) s.serves.begun)
        (sym (many_mapped of olds) ∙ ap length from) s.lanes;
    each = subst (λ (hs : List H). EachFollows answers breaks 1 s.serves.begun hs ys) from
        (subst (λ (hs : List H). EachFollows answers breaks 1 s.serves.begun (map of olds) hs)
        (sym back) (each_of of answers breaks 1 s.serves.begun olds news s.each));
  }
