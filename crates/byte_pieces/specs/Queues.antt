-- Bytes that wait in pieces.
use Rattle.std.specs.Prelude.{◌≡◌, ◌⊎◌, ℕ, ◌+◌, ◌≤◌, ◌<◌, ◌-◌, ◌^◌, All, [], ◌∷◌, cond, nat_eq, List, ◌++◌, length, take, drop}
use Rattle.std.specs.List.{flat_map}
use Rattle.std.specs.Vec.{vec_capacity}
use Rattle.std.specs.declared.alloc.Global.{Global}
use Rattle.std.specs.declared.vec.Vec.{Vec}

abbrev pub Piece : Type 0
Piece = Vec ℕ Global

-- the bytes of the pieces, one piece after the other
abbrev pub bytes_of : List Piece → List ℕ
bytes_of pieces = flat_map (λ piece. piece.items) pieces

abbrev pub IsFull : Piece → Type 0
IsFull piece = length piece.items ≡ 16384

-- the piece, if it has bytes
abbrev pub filled : Piece → List Piece
filled piece = cond (nat_eq (length piece.items) 0) [] (piece ∷ [])

-- no bytes yet, or room for those of a whole piece
abbrev pub HasRoom : Piece → Type 0
HasRoom piece = (length piece.items ≡ 0) ⊎ (16384 ≤ vec_capacity piece)

-- so many bytes more make a whole piece, for which it has room; or it has neither bytes nor room
abbrev pub IsFree : Piece → ℕ → Type 0
IsFree piece free = ((16384 ≤ vec_capacity piece) × (length piece.items + free ≡ 16384))
    ⊎ ((length piece.items ≡ 0) × (free ≡ 0))

-- Full pieces and a last one have so many bytes, of which so many at the front were read.
pub record AreHeld (full : List Piece) (last : Piece) (total read : ℕ) : Type 0 where
  pub each : All IsFull full
  pub last_fits : length last.items ≤ 16384
  pub room : HasRoom last
  pub counted : total ≡ length (bytes_of full ++ last.items)
  pub numbered : total < 2 ^ 64
  pub begun : read ≤ total

-- these are bytes from this place on, of which there is one at least where there is one
pub record IsPartAt (bytes : List ℕ) (place : ℕ) (part : List ℕ) : Type 0 where
  pub front : part ≡ take (length part) (drop place bytes)
  pub some : place < length bytes → 0 < length part
  pub within : length part ≤ length bytes - place
