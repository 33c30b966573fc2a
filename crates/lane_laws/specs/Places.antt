-- No place is away once the proxy lanes have left.
use Rattle.std.specs.Prelude.{◌≡◌, ◌⊎◌, ℕ, ◌<◌, Bool, true, false, ◌&&◌, ◌||◌, List, [], ◌∷◌}
use Rattle.seat_desk.specs.History.{calls_by}
use Rattle.exec_journal.specs.Entries.{is_halt}
use Rattle.core_contract.specs.Ruled.{CameAbout}
use Rattle.core_contract.specs.Discipline.{Discipline}
use Rattle.core_contract.specs.Moves.{History}
use Rattle.core_contract.specs.Shelf.{place_at, Away}
use Rattle.core_contract.specs.Duties.{Duty, Asks, Launches, Sends, Cancels, Gathers, Commits, Kills, Left, duty_then, duty_of, proxy_lane}

-- the lane owes a Committed
abbrev pub owes_commit : Duty → Bool
owes_commit (Commits a b fs) = true
owes_commit Asks = false
owes_commit (Launches l t) = false
owes_commit (Sends l n t) = false
owes_commit (Cancels l n) = false
owes_commit (Gathers l n t exit refused) = false
owes_commit (Kills l) = false
owes_commit Left = false

-- of a lane with this duty: it made a Halt while it owed a Committed
abbrev pub halts_owing_from : Duty → History → Bool
halts_owing_from s [] = false
halts_owing_from s (e ∷ es) =
    (is_halt e.call && owes_commit s) || halts_owing_from (duty_then s e) es

-- by all its entries
abbrev pub halts_owing : History → Bool
halts_owing own = halts_owing_from Asks own

-- By its own entries a proxy lane has left, having made each Committed that it owed: the script
-- would let it halt before.
pub record HasLeft (own : History) : Type 0 where
  pub left : duty_of own ≡ Left
  pub paid : halts_owing own ≡ false

-- It has left so, or it never made an entry.
abbrev pub IsGone : History → Type 0
IsGone own = (own ≡ []) ⊎ HasLeft own

-- Where all proxy lanes are gone, no action's place is away.
abbrev pub PlacesAreBack : {Q : Type 0} → (Q → Discipline) → Type 0
PlacesAreBack {Q} rules =
    (b : Q) (h : History) → CameAbout (rules b) h
    → ((w : ℕ) → w < (rules b).seats → IsGone (calls_by (proxy_lane w) h))
    → (a : ℕ) (files : List (List ℕ)) → place_at a h ≡ Away files → ⊥
