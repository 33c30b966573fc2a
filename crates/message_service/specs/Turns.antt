-- How messages were dealt with, one after another.
use Rattle.std.specs.Prelude.{◌≡◌, ◌⊎◌, ℕ, List, [], ◌∷◌, ◌++◌, Option, Some, None, Result, Ok, Err}
use Rattle.std.specs.List.{flat_map}
use Rattle.plain_values.specs.declared.no_memory.NoMemory.{NoMemory}
use Rattle.outside.specs.declared.shop.ShopCall.{ShopCall}

-- how a message was dealt with: the calls on the shop, and what was put for it, if anything was
pub record Turn : Type 0 where
  pub calls : List ShopCall
  pub reply : Option (List ℕ)

-- these messages were read, and then these turns were made before any more were read
pub record Span (M : Type 0) : Type 0 where
  pub came : List M
  pub turns : List Turn

abbrev pub said : Option (List ℕ) → List ℕ
said None = []
said (Some bytes) = bytes

-- what was put for all of them, and the calls that were made for them
abbrev pub put_by : List Turn → List ℕ
put_by turns = flat_map (λ t. said t.reply) turns

abbrev pub calls_by : List Turn → List ShopCall
calls_by turns = flat_map (λ t. t.calls) turns

-- all messages that were read, and all turns
abbrev pub came_in : {M : Type 0} → List (Span M) → List M
came_in spans = flat_map (λ s. s.came) spans

abbrev pub turns_in : {M : Type 0} → List (Span M) → List Turn
turns_in spans = flat_map (λ s. s.turns) spans

module _ {M : Type 0}
    (Answers : M → List M → List ShopCall → Result (Option (List ℕ)) NoMemory → Type 0) where
  -- These messages had been read. The first of them were dealt with so, one after another, each
  -- with all that had been read behind it in sight, and these are left.
  abbrev pub Follows : List M → List Turn → List M → Type 0
  Follows messages [] left = messages ≡ left
  Follows [] (t ∷ ts) left = ⊥
  Follows (m ∷ behind) (t ∷ ts) left =
      Answers m behind t.calls (Ok t.reply) × Follows behind ts left

  -- These were left to be done. Then came each span's messages, and its turns.
  abbrev pub Runs : List M → List (Span M) → List M → Type 0
  Runs waiting [] left = waiting ≡ left
  Runs waiting (s ∷ ss) left =
      (rest : List M) × Follows (waiting ++ s.came) s.turns rest × Runs rest ss left

  -- memory ran out for the next message, after these calls
  abbrev pub IsBrokenOff : List M → List ShopCall → Type 0
  IsBrokenOff [] calls = ⊥
  IsBrokenOff (m ∷ behind) calls = (e : NoMemory) × Answers m behind calls (Err e)

  -- nothing was done yet for what is left, or memory ran out in the middle of the next message
  abbrev pub IsBegun : List M → List ShopCall → Type 0
  IsBegun left calls = (calls ≡ []) ⊎ IsBrokenOff left calls
