-- Lists of slots, in each of which something lies or nothing does.
use Rattle.std.specs.Prelude.{◌≡◌, ℕ, ◌<◌, List, length, get_or, set, Option, Some, None}

module _ {X : Type 0} where
  -- what lies in the slot; nothing beyond the last
  abbrev pub lies_in : List (Option X) → ℕ → Option X
  lies_in slots i = get_or slots i None

  -- the slots after this was put into one of them, or nothing was
  abbrev pub put_in : Option X → ℕ → List (Option X) → List (Option X)
  put_in (Some x) i slots = set slots i (Some x)
  put_in None i slots = slots

  -- so many slots, and of what lies in each this holds
  pub record Hold (n : ℕ) (Has : ℕ → Option X → Type 0) (slots : List (Option X)) : Type 0 where
    pub as_many : length slots ≡ n
    pub each : (i : ℕ) → i < n → Has i (lies_in slots i)
