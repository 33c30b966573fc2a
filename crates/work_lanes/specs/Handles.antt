-- What handlers have done.
use Rattle.std.specs.Prelude.{◌≡◌, ◌⊎◌, ℕ, ◌+◌, Bool, true, false, List, [], ◌∷◌, ◌++◌}
use Rattle.work_queue.specs.States.{InHand, begun_by}

module _ {H X Y : Type 0} (answers : H → X → Y → H → Type 0) where
  -- it has answered this request
  abbrev pub AnswersOne : H → X → H → Type 0
  AnswersOne old m new = (y : Y) × answers old m y new

  -- nothing was asked of it where the request was cancelled by the time that it was begun
  abbrev pub AnswersUnless : Bool → H → X → H → Type 0
  AnswersUnless true old m new = new ≡ old
  AnswersUnless false old m new = AnswersOne old m new

  -- it has answered these, one after another, each once, and done nothing else
  abbrev pub AnswersAll : H → List X → H → Type 0
  AnswersAll old [] new = new ≡ old
  AnswersAll old (m ∷ ms) new = (mid : H) × AnswersOne old m mid × AnswersAll mid ms new

  module _ (breaks : H → X → H → Type 0) where
    -- it was asked for this request once: it has answered it, or broken off
    abbrev pub DidOne : H → X → H → Type 0
    DidOne old m new = AnswersOne old m new ⊎ breaks old m new

    abbrev pub DidUnless : Bool → H → X → H → Type 0
    DidUnless true old m new = new ≡ old
    DidUnless false old m new = DidOne old m new

    -- it has answered these but for the last, in which it has broken off
    pub record BreaksInLast (old : H) (ms : List X) (new : H) : Type 0 where
      pub front : List X
      pub last : X
      pub mid : H
      pub all : ms ≡ front ++ last ∷ []
      pub answered : AnswersAll old front mid
      pub broken : breaks mid last new

    -- It has answered these, one after another, each once, and done nothing else; or it has broken
    -- off in the last of them, and memory has run out.
    abbrev pub Follows : H → List X → H → Type 0
    Follows old ms new = AnswersAll old ms new ⊎ BreaksInLast old ms new

    -- So has each of these handlers, one for each lane from the number k on, whatever its lane has
    -- taken, in order, but for what was cancelled by then.
    abbrev pub EachFollows : ℕ → List (InHand X) → List H → List H → Type 0
    EachFollows k taken [] [] = Unit {0}
    EachFollows k taken (old ∷ olds) (new ∷ news) =
        Follows old (begun_by k taken) new × EachFollows (k + 1) taken olds news
    EachFollows k taken [] (new ∷ news) = ⊥
    EachFollows k taken (old ∷ olds) [] = ⊥
