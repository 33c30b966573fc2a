-- A list of entries that grows at its end, with how many more it takes in room that it has.
use Rattle.std.specs.Prelude.{◌≡◌, ℕ, ◌+◌, ◌≤◌, ◌⊎◌, List, length, vec_len}
use Rattle.std.specs.List.{flat_map}
use Rattle.std.specs.Vec.{vec_capacity}
use Rattle.std.specs.declared.alloc.Global.{Global}
use Rattle.std.specs.declared.vec.Vec.{Vec}

pub record Log (E : Type 0) : Type 0 where
  pub items : List E
  pub room : ℕ

module _ {E : Type 0} where
  abbrev pub log : List E → ℕ → Log E
  log items room = record { items = items; room = room }

  -- the entries of the pieces, one piece after the other
  abbrev pub entries_of : List (Vec E Global) → List E
  entries_of pieces = flat_map (λ piece. piece.items) pieces

  -- Behind full pieces stands the last one, and behind that there may be room for one more. The
  -- whole has room for all that may ever stand in these.
  pub record ArePieces (full : Vec (Vec E Global) Global) (behind : ℕ)
      (last spare whole : Vec E Global) : Type 0 where
    pub counted : behind ≡ length (entries_of full.items)
    pub spared : vec_len spare ≡ 0
    pub free : vec_len whole ≡ 0
    pub place : (vec_capacity spare ≡ 0) ⊎ (vec_len full + 1 ≤ vec_capacity full)
    pub fits : behind + vec_capacity last + vec_capacity spare ≤ vec_capacity whole
