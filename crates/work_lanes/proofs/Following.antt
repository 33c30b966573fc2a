-- What a handler has done goes on with each request that its lane takes.
use Rattle.std.proofs.Common.{◌≡◌, ◌⊎◌, Bool, true, false, List, [], ◌∷◌, ◌++◌, refl, sym, subst}
use Rattle.std.proofs.Common.{inl, inr, append-nil, ◌∙◌}
use Rattle.work_queue.specs.States.{unless}
use Rattle.work_lanes.specs.Handles.{AnswersOne, AnswersAll, AnswersUnless, DidUnless, Follows}

module _ {H X Y : Type 0} (answers : H → X → Y → H → Type 0) where
  pub answers_more : (old : H) (ms : List X) (mid : H) (m : X) (new : H)
      → AnswersAll answers old ms mid → AnswersOne answers mid m new
      → AnswersAll answers old (ms ++ m ∷ []) new
  answers_more old [] mid m new so_far one =
      (new, subst (λ (h : H). AnswersOne answers h m new) so_far one, refl)
  answers_more old (x ∷ xs) mid m new so_far one =
      (so_far.0, so_far.1, answers_more so_far.0 xs mid m new so_far.2 one)

  pub answers_on : (old : H) (ms ms' : List X) (new : H) → ms' ≡ ms → AnswersAll answers old ms new
      → AnswersAll answers old ms' new
  answers_on old ms ms' new e so_far =
      subst (λ (xs : List X). AnswersAll answers old xs new) (sym e) so_far

  stays : (old : H) (ms : List X) (mid new : H) → AnswersAll answers old ms mid → new ≡ mid
      → AnswersAll answers old (ms ++ []) new
  stays old ms mid new so_far same =
      answers_on old ms (ms ++ []) new (append-nil ms)
      (subst (λ (h : H). AnswersAll answers old ms h) (sym same) so_far)

  pub answers_unless : (b : Bool) (old : H) (ms : List X) (mid : H) (m : X) (new : H)
      → AnswersAll answers old ms mid → AnswersUnless answers b mid m new
      → AnswersAll answers old (ms ++ unless b m) new
  answers_unless true old ms mid m new so_far same = stays old ms mid new so_far same
  answers_unless false old ms mid m new so_far one = answers_more old ms mid m new so_far one

  -- the same, where the lane has then begun those and this one
  pub answers_next : (b : Bool) (old : H) (ms ms' ms'' : List X) (mid : H) (m : X) (new : H)
      → AnswersAll answers old ms mid → ms' ≡ ms ++ unless b m → ms'' ≡ ms'
      → AnswersUnless answers b mid m new → AnswersAll answers old ms'' new
  answers_next b old ms ms' ms'' mid m new so_far more same did =
      answers_on old (ms ++ unless b m) ms'' new (same ∙ more)
      (answers_unless b old ms mid m new so_far did)

  module _ (breaks : H → X → H → Type 0) where
    did_one : (old : H) (ms : List X) (mid : H) (m : X) (new : H)
        → AnswersAll answers old ms mid → AnswersOne answers mid m new ⊎ breaks mid m new
        → Follows answers breaks old (ms ++ m ∷ []) new
    did_one old ms mid m new so_far (inl one) = inl (answers_more old ms mid m new so_far one)
    did_one old ms mid m new so_far (inr broken) =
        inr (record {
          front = ms;
          last = m;
          mid = mid;
          all = refl;
          answered = so_far;
          broken = broken;
        })

    pub did_unless : (b : Bool) (old : H) (ms : List X) (mid : H) (m : X) (new : H)
        → AnswersAll answers old ms mid → DidUnless answers breaks b mid m new
        → Follows answers breaks old (ms ++ unless b m) new
    did_unless true old ms mid m new so_far same = inl (stays old ms mid new so_far same)
    did_unless false old ms mid m new so_far did = did_one old ms mid m new so_far did

    pub follows_on : (old : H) (ms ms' : List X) (new : H) → ms' ≡ ms
        → Follows answers breaks old ms new → Follows answers breaks old ms' new
    follows_on old ms ms' new e so_far =
        subst (λ (xs : List X). Follows answers breaks old xs new) (sym e) so_far

    pub did_next : (b : Bool) (old : H) (ms ms' ms'' : List X) (mid : H) (m : X) (new : H)
        → AnswersAll answers old ms mid → ms' ≡ ms ++ unless b m → ms'' ≡ ms'
        → DidUnless answers breaks b mid m new → Follows answers breaks old ms'' new
    did_next b old ms ms' ms'' mid m new so_far more same did =
        follows_on old (ms ++ unless b m) ms'' new (same ∙ more)
        (did_unless b old ms mid m new so_far did)
