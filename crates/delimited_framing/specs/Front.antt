-- A stream that is cut into frames, whatever marks their ends.
use Rattle.std.specs.Prelude.{◌≡◌, ◌⊎◌, ◌<◌, ℕ, List, [], ◌∷◌, ◌++◌, length}
use Rattle.delimited_framing.specs.declared.frame.FrameFault.{FrameFault}

-- what stands at the front of a stream
pub data Front : Type 0 where
  Whole : List ℕ → List ℕ → Front
  Unfinished : Front
  Bad : FrameFault → Front

-- the stream is these frames, one after the other, and then the rest
abbrev pub HoldsBy : (List ℕ → Front) → List ℕ → List (List ℕ) → List ℕ → Type 0
HoldsBy front stream [] rest = stream ≡ rest
HoldsBy front stream (frame ∷ frames) rest =
    (after : List ℕ) × (front stream ≡ Whole frame after) × HoldsBy front after frames rest

-- How frames are marked: what stands at the front, where frames have at most so many bytes, and
-- which frames a stream holds before a rest.
pub record Form : Type 1 where
  pub front : ℕ → List ℕ → Front
  pub Holds : ℕ → List ℕ → List (List ℕ) → List ℕ → Type 0

module _ (form : Form) where
  -- the stream is these frames, and then less than a whole one
  pub record FramesOf (stream : List ℕ) (limit : ℕ) (frames : List (List ℕ))
      (rest : List ℕ) : Type 0 where
    pub holds : form.Holds limit stream frames rest
    pub unfinished : form.front limit rest ≡ Unfinished

  -- after these frames stands a fault
  pub record FaultOf (stream : List ℕ) (limit : ℕ) (frames : List (List ℕ))
      (fault : FrameFault) : Type 0 where
    pub rest : List ℕ
    pub holds : form.Holds limit stream frames rest
    pub bad : form.front limit rest ≡ Bad fault

  -- some frames and a rest, or some frames and a fault
  abbrev pub HasReading : List ℕ → ℕ → Type 0
  HasReading stream limit =
      ((frames : List (List ℕ)) × ((rest : List ℕ) × FramesOf stream limit frames rest))
      ⊎ ((frames : List (List ℕ)) × ((fault : FrameFault) × FaultOf stream limit frames fault))

  -- Exactly one reading of a stream is there: one is there, two have the same frames and the same
  -- fault, and a fault is no rest.
  pub record OneReading : Type 0 where
    pub some : (stream : List ℕ) (limit : ℕ) → HasReading stream limit
    pub frames : (stream : List ℕ) (limit : ℕ) (fs gs : List (List ℕ)) (a b : List ℕ)
        → FramesOf stream limit fs a → FramesOf stream limit gs b → (fs ≡ gs) × (a ≡ b)
    pub faults : (stream : List ℕ) (limit : ℕ) (fs gs : List (List ℕ)) (x y : FrameFault)
        → FaultOf stream limit fs x → FaultOf stream limit gs y → (fs ≡ gs) × (x ≡ y)
    pub either : (stream : List ℕ) (limit : ℕ) (fs gs : List (List ℕ)) (a : List ℕ) (x : FrameFault)
        → FramesOf stream limit fs a → FaultOf stream limit gs x → ⊥

-- What comes later changes nothing of a frame that stands whole at the front, and each frame takes
-- bytes.
pub record IsMarked (front : List ℕ → Front) : Type 0 where
  pub goes_on : (bytes more frame rest : List ℕ) → front bytes ≡ Whole frame rest
      → front (bytes ++ more) ≡ Whole frame (rest ++ more)
  pub takes : (bytes frame rest : List ℕ) → front bytes ≡ Whole frame rest
      → length rest < length bytes
