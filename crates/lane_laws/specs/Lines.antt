-- The numbers of the lines that were started.
use Rattle.std.specs.Prelude.{◌≡◌, ℕ, zero, suc, ◌+◌, ◌<◌, List, [], ◌∷◌, All}
use Rattle.core_contract.specs.Ruled.{CameAbout}
use Rattle.core_contract.specs.Discipline.{Discipline}
use Rattle.core_contract.specs.Moves.{History}
use Rattle.core_contract.specs.Laws.{lines_in}
use Rattle.lane_laws.specs.Numbers.{In, Distinct}
use Rattle.lane_laws.specs.Numbers.{concat}
use Rattle.lane_laws.specs.Taps.{started_at}

-- the lines of so many berths from the berth w on, berth after berth
unfoldable pub started_from : History → ℕ → ℕ → List (List ℕ)
started_from h w zero = []
started_from h w (suc n) = started_at w h ∷ started_from h (w + 1) n

-- Lines that were started have numbers below that of the lines ordered; a berth has none of them
-- twice, and two berths have none in common. So it is with the lines of all berths together.
pub record AreApart (seats : ℕ) (h : History) : Type 0 where
  pub below : (w l : ℕ) → In l (started_at w h) → l < lines_in h
  pub once : (w : ℕ) → Distinct (started_at w h)
  pub apart : (w v l : ℕ) → In l (started_at w h) → In l (started_at v h) → w ≡ v
  pub all_once : Distinct (concat (started_from h 0 seats))
  pub all_below : All (λ l. l < lines_in h) (concat (started_from h 0 seats))

-- So it is with the lines of the first berths, however many of them are looked at.
abbrev pub StartedAreApart : {Q : Type 0} → (Q → Discipline) → Type 0
StartedAreApart {Q} rules = (b : Q) (h : History) (seats : ℕ) → CameAbout (rules b) h → AreApart seats h
