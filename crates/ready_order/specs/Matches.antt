-- A tournament over numbers: which matches were played, and which number wins.
use Rattle.std.specs.Prelude.{◌≡◌, ℕ, zero, suc, ◌+◌, ◌*◌, ◌/◌, ◌^◌, ◌<◌, ◌≤◌, ◌≢◌, Bool, true, min, List, [], ◌∷◌, length, map, get_or}
use Rattle.ready_order.specs.declared.winner_tree.TheConstants.{ABSENT}

-- the node has the less of what the two nodes below it have
abbrev pub IsPlayedAt : List ℕ → ℕ → Type 0
IsPlayedAt nodes k = get_or nodes k 0 ≡ min (get_or nodes (2 * k) 0) (get_or nodes (2 * k + 1) 0)

-- there are two nodes for each place, and every match is played: that of each node of the first half, from 1 on
pub record IsPlayed (nodes : List ℕ) (places : ℕ) : Type 0 where
  pub size : length nodes ≡ 2 * places
  pub played : (k : ℕ) → 1 ≤ k → k < places → IsPlayedAt nodes k

-- every match but that of one node
pub record IsPlayedBut (nodes : List ℕ) (places but : ℕ) : Type 0 where
  pub size : length nodes ≡ 2 * places
  pub played : (k : ℕ) → 1 ≤ k → k < places → k ≢ but → IsPlayedAt nodes k

-- none of the numbers is less, and it is one of them; ABSENT where there are none
pub record IsLeast (numbers : List ℕ) (least : ℕ) : Type 0 where
  pub none_less : (k : ℕ) → k < length numbers → least ≤ get_or numbers k 0
  pub among : least ≢ ABSENT → (k : ℕ) × (k < length numbers) × (get_or numbers k 0 ≡ least)

-- so of the numbers at the places of a set
pub record IsLeastAmong (set : ℕ → Bool) (numbers : List ℕ) (least : ℕ) : Type 0 where
  pub none_less : (k : ℕ) → k < length numbers → set k ≡ true → least ≤ get_or numbers k 0
  pub among : least ≢ ABSENT
      → (k : ℕ) × (k < length numbers) × (set k ≡ true) × (get_or numbers k 0 ≡ least)

-- each place with a number may be asked about
abbrev pub MayAsk : (ℕ → Type 0) → List ℕ → Type 0
MayAsk ask numbers = (k : ℕ) → k < length numbers → get_or numbers k 0 ≢ ABSENT → ask k

-- ---- the search for it

-- the node that is so many matches above a node
abbrev pub above : ℕ → ℕ → ℕ
above zero k = k
above (suc n) k = above n k / 2

-- so of those of them that stand below the node; the bound where none of these is less
pub record IsLeastBelow (set : ℕ → Bool) (nodes : List ℕ) (places node bound least : ℕ) : Type 0
  where
    pub bounded : least ≤ bound
    pub none_less : (k n : ℕ) → k < places → set k ≡ true → above n (places + k) ≡ node
        → least ≤ get_or nodes (places + k) 0
    pub among : least ≢ bound
        → (k : ℕ) × (k < places) × (set k ≡ true) × (get_or nodes (places + k) 0 ≡ least)

-- ---- the least number of each queue

-- the least of the numbers; ABSENT where there are none
abbrev pub least_number : List ℕ → ℕ
least_number [] = ABSENT
least_number (x ∷ xs) = min x (least_number xs)

-- at the place of each queue stands its least number
pub record AreFirsts (queues : List (List ℕ)) (firsts : List ℕ) : Type 0 where
  pub few : length queues ≤ 2 ^ 32
  pub are : firsts ≡ map least_number queues
