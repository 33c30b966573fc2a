-- A splitter, as what it holds back.
use Rattle.std.specs.Prelude.{◌≡◌, ℕ, List, [], ◌∷◌, ◌++◌, Option, Some, None}
use Rattle.delimited_framing.specs.declared.frame.FrameFault.{FrameFault}
use Rattle.delimited_framing.specs.declared.frame.Next.{Next}
use Rattle.delimited_framing.specs.declared.frame.Next.TheVariants as next
use Rattle.delimited_framing.specs.Front.{Front, Bad, Form, FramesOf, FaultOf}
use Rattle.delimited_framing.specs.Frame.{delimited_form}

-- the limit, the bytes that are held back, and the fault that was met
pub record Held : Type 0 where
  pub limit : ℕ
  pub rest : List ℕ
  pub fault : Option FrameFault

abbrev pub IsFaultOf : Front → Option FrameFault → Type 0
IsFaultOf front None = Unit {0}
IsFaultOf front (Some fault) = front ≡ Bad fault

-- the bytes after one piece more: none where a fault was met
abbrev pub fed_more : Option FrameFault → List ℕ → List ℕ → List ℕ
fed_more None fed piece = fed ++ piece
fed_more (Some fault) fed piece = fed

module _ (form : Form) where
  -- The splitter was fed these bytes until it met a fault, and gave these frames of them.
  pub record StandsFor (fed : List ℕ) (given : List (List ℕ)) (s : Held) : Type 0 where
    pub holds : form.Holds s.limit fed given s.rest
    pub fault : IsFaultOf (form.front s.limit s.rest) s.fault

  -- what a splitter gives next, and what it is then
  abbrev pub Gives : List ℕ → List (List ℕ) → Held → Next → Held → Type 0
  Gives fed given old (next.Frame frame) new = StandsFor fed (given ++ frame.items ∷ []) new
      × (new.limit ≡ old.limit) × (new.fault ≡ old.fault)
  Gives fed given old next.NotYet new = StandsFor fed given new × (new.limit ≡ old.limit)
      × (new.fault ≡ old.fault) × FramesOf form fed old.limit given new.rest
  Gives fed given old (next.Bad fault) new = StandsFor fed given new × (new.limit ≡ old.limit)
      × (new.fault ≡ Some fault) × FaultOf form fed old.limit given fault

  -- Whatever follows what was fed, the frames that were given are the first of the whole stream's.
  pub record GivenFirst : Type 0 where
    pub frames : (fed more : List ℕ) (given frames : List (List ℕ)) (rest : List ℕ) (s : Held)
        → StandsFor fed given s → FramesOf form (fed ++ more) s.limit frames rest
        → (later : List (List ℕ)) × (frames ≡ given ++ later)
    pub faults : (fed more : List ℕ) (given frames : List (List ℕ)) (fault : FrameFault) (s : Held)
        → StandsFor fed given s → FaultOf form (fed ++ more) s.limit frames fault
        → (later : List (List ℕ)) × (frames ≡ given ++ later)

abbrev pub Stands : List ℕ → List (List ℕ) → Held → Type 0
Stands fed given s = StandsFor delimited_form fed given s
