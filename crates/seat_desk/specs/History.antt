-- Histories: lists of entries, the oldest first.
use Rattle.std.specs.Prelude.{◌≡◌, ℕ, ◌==◌, Bool, cond, List, [], ◌∷◌, ◌++◌, ◌⊎◌, true, Option}
use Rattle.std.specs.Int.Bits.{bit_or}
use Rattle.plain_values.specs.declared.entry.Entry.{Entry}

-- a reply to each call of a lane after a history
abbrev pub ReplyAfter : Type 0 → Type 0 → Type 0
ReplyAfter C R = List (Entry C R) → ℕ → C → R

-- a fact of each call of a lane after a history
abbrev pub FactOfCall : Type 0 → Type 0 → Type 1
FactOfCall C R = List (Entry C R) → ℕ → C → Type 0

-- a fact of what goes in with each call of a lane after a history
abbrev pub FactOfGoodIn : Type 0 → Type 0 → Type 0 → Type 1
FactOfGoodIn C R G = List (Entry C R) → ℕ → C → Option G → Type 0

-- a fact of what comes out with each reply to a call of a lane after a history
abbrev pub FactOfGoodOut : Type 0 → Type 0 → Type 0 → Type 1
FactOfGoodOut C R G = List (Entry C R) → ℕ → C → R → Option G → Type 0

-- a fact of work before, a reply, the good that came out, what follows and the work after
abbrev pub FactOfWork : Type 0 → Type 0 → Type 0 → Type 0 → Type 1
FactOfWork W C R G = W → R → Option G → Option (C × Option G) → W → Type 0

module _ {C R : Type 0} where
  -- the entry of a call
  abbrev pub entry : ℕ → C → R → Entry C R
  entry lane call reply = record { lane = lane; call = call; reply = reply }

  -- the entries of one lane, in order
  abbrev pub calls_by : ℕ → List (Entry C R) → List (Entry C R)
  calls_by lane [] = []
  calls_by lane (e ∷ es) = cond (lane == e.lane) (e ∷ calls_by lane es) (calls_by lane es)

  -- the history with the entry, where it is kept
  abbrev pub after : (Entry C R → Bool) → List (Entry C R) → Entry C R → List (Entry C R)
  after keeps h e = cond (keeps e) (h ++ e ∷ []) h

  -- a copy of a reply is the reply, where an entry with it is kept
  abbrev pub Copies : (Entry C R → Bool) → R → R → Type 0
  Copies keeps reply copy = (e : Entry C R) → e.reply ≡ reply → keeps e ≡ true → copy ≡ reply

  -- the reply is the one after h, or says lack of memory where that may be
  abbrev pub IsReply : ReplyAfter C R → (R → Bool) → FactOfCall C R → List (Entry C R) → ℕ → C → R
      → Type 0
  IsReply next short may_be_short h lane call r =
      (r ≡ next h lane call) ⊎ ((short r ≡ true) × may_be_short h lane call)

  -- h begins with seen
  abbrev pub StartsWith : List (Entry C R) → List (Entry C R) → Type 0
  StartsWith h seen = (rest : List (Entry C R)) × (h ≡ seen ++ rest)

  -- h goes on from seen, by calls of other lanes
  abbrev pub GoesOn : ℕ → List (Entry C R) → List (Entry C R) → Type 0
  GoesOn lane seen h = (rest : List (Entry C R)) × (h ≡ seen ++ rest) × (calls_by lane rest ≡ [])

-- What a call of a machine asks and gives, whatever history the machine stands for.
module _ {S C R G : Type 0} (stands : S → List (Entry C R) → Type 0)
    (goes_in : FactOfGoodIn C R G) where
  -- the good suits the call, after a history that the machine stands for
  abbrev pub Ready : S → ℕ → C → Option G → Type 0
  Ready m lane call put = (h : List (Entry C R)) × stands m h × goes_in h lane call put

  -- the reply is the one after each history that the machine stands for
  abbrev pub Replies : ReplyAfter C R → (R → Bool) → FactOfCall C R → S → ℕ → C → Option G → R
      → Type 0
  Replies next short may_be_short m lane call put r =
      (h : List (Entry C R)) → stands m h → goes_in h lane call put
      → IsReply next short may_be_short h lane call r

  -- afterwards the machine stands for each of these histories with the entry, where it is kept
  abbrev pub Stands : (Entry C R → Bool) → S → ℕ → C → Option G → R → S → Type 0
  Stands keeps m lane call put r m' =
      (h : List (Entry C R)) → stands m h → goes_in h lane call put
      → stands m' (after keeps h (entry lane call r))

  -- what comes out suits the reply after each of these histories
  abbrev pub ComesOut : FactOfGoodOut C R G → S → ℕ → C → Option G → R → Option G → Type 0
  ComesOut comes_out m lane call put r good =
      (h : List (Entry C R)) → stands m h → goes_in h lane call put → comes_out h lane call r good

-- n is what is owed after each history that the machine stands for
abbrev pub Owes : {S C R : Type 0} → (S → List (Entry C R) → Type 0) → (List (Entry C R) → ℕ) → S
    → ℕ
    → Type 0
Owes {S} {C} {R} stands owes m n = (h : List (Entry C R)) → stands m h → n ≡ owes h

-- the machine has the basis q and stands for the history
abbrev pub StandsUnder : {S C R Q : Type 0} → (S → Q) → (S → List (Entry C R) → Type 0) → Q → S
    → List (Entry C R) → Type 0
StandsUnder {S} {C} {R} {Q} basis stands q m h = stands m h × (basis m ≡ q)

-- a hint of a machine after a lane was answered so
abbrev pub FactOfHint : Type 0 → Type 0 → Type 1
FactOfHint S R = S → ℕ → R → ℕ → Type 0

-- some machine that stands for the history hints so
abbrev pub SomeHints : {S C R : Type 0} → (S → List (Entry C R) → Type 0) → FactOfHint S R
    → List (Entry C R) → ℕ → R → ℕ → Type 0
SomeHints {S} {C} {R} stands hints h lane reply lanes =
    (m : S) × stands m h × hints m lane reply lanes

-- The lanes are those of the hints after each of two replies, when the history was h and h'.
abbrev pub HintsBoth : {S C R : Type 0} → (S → List (Entry C R) → Type 0) → FactOfHint S R → ℕ
    → List (Entry C R) → R → List (Entry C R) → R → ℕ → Type 0
HintsBoth {S} {C} {R} stands hints lane h reply h' reply' lanes =
    (first : ℕ) × (second : ℕ) × SomeHints stands hints h lane reply first
    × SomeHints stands hints h' lane reply' second × (lanes ≡ bit_or first second)

-- some machine stands for the history
abbrev pub SomeStands : {S C R : Type 0} → (S → List (Entry C R) → Type 0) → List (Entry C R)
    → Type 0
SomeStands {S} {C} {R} stands h = (m : S) × stands m h
