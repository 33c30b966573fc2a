-- What the calls of a desk ask and give, said of views and of the functions that give a machine its
-- meaning. Their words for passes stand in Passes.
use Rattle.std.specs.Prelude.{◌≡◌, ◌⊎◌, ℕ, ◌≤◌, ◌%◌, ◌^◌, Bool, false, List, [], ◌∷◌, ◌++◌, Option, Some, None}
use Rattle.atomic_table.specs.Table.{Me}
use Rattle.plain_values.specs.declared.entry.Entry.{Entry}
use Rattle.seat_desk.specs.declared.view.Role.TheVariants.{Root, Lane}
use Rattle.seat_desk.specs.declared.view.Stage.TheVariants.{Idle, Waits, Turn}
use Rattle.seat_desk.specs.declared.view.View.{View}
use Rattle.seat_desk.specs.History.{ReplyAfter, FactOfCall, FactOfGoodIn, FactOfGoodOut, FactOfHint, FactOfWork, entry, after, calls_by, IsReply, GoesOn, SomeStands, HintsBoth}
use Rattle.seat_desk.specs.Turns.{view_at, view_in_turn, view_after_turn, Only, Finds}

-- a seat's view, and the slots that it holds
abbrev pub SeatState : Type 0 → Type 0 → Type 0 → Type 0 → Type 0
SeatState H C R Q = Me (Option H) (View C R Q)

module _ {H C R Q : Type 0} where
  -- a pass between two calls. Of its lane, what it has seen has just its own calls
  abbrev pub IsIdle : ℕ → SeatState H C R Q → Type 0
  IsIdle lane m =
      (m.0.role ≡ Lane lane) × (m.0.stage ≡ Idle) × (m.1 ≡ []) × (calls_by lane m.0.seen ≡ m.0.mine)

  -- the root between two calls. What it has seen has no call of a later lane
  abbrev pub IsRoot : ℕ → SeatState H C R Q → Type 0
  IsRoot made m =
      (m.0.role ≡ Root made) × (m.0.stage ≡ Idle) × (m.1 ≡ [])
      × ((k : ℕ) → made ≤ k → calls_by k m.0.seen ≡ [])

  -- the seat has drawn the ticket n
  abbrev pub Draws : SeatState H C R Q → ℕ → SeatState H C R Q → Type 0
  Draws m n m' = (m'.1 ≡ m.1) × ((t : ℕ) × (t % 2 ^ 64 ≡ n) × (m'.0 ≡ view_at m.0 (Waits t)))

  -- the seat waits for the ticket n
  abbrev pub WaitsFor : SeatState H C R Q → ℕ → Type 0
  WaitsFor m n = (m.1 ≡ []) × ((t : ℕ) × (t % 2 ^ 64 ≡ n) × (m.0.stage ≡ Waits t))

  module _ (log_of : H → List (Entry C R)) (good : Q → H → Type 0) where
    -- the turn has come, and y was found in the slot
    abbrev pub IsServed : SeatState H C R Q → H → (List (ℕ × Option (H)) → Type 0)
        → SeatState H C R Q → Type 0
    IsServed m y Carries m' =
        Finds log_of good m.0 y × ((t : ℕ) × (m'.0 ≡ view_in_turn m.0 t (log_of y))) × Carries m'.1

    -- the seat is in its turn of the lane, with an empty slot, and may put y back
    abbrev pub MayEnd : ℕ → SeatState H C R Q → H → Type 0
    MayEnd lane m y = (m.0.role ≡ Lane lane) × (m.1 ≡ (0, None) ∷ []) × good m.0.basis y
        × ((t : ℕ) × (m.0.stage ≡ Turn t))
        × ((news : List (Entry C R)) × (log_of y ≡ m.0.seen ++ news) × Only lane news)

module _ {H C R Q : Type 0} where
  -- the seat's turn has ended, whichever lane's it was, and it left the history h
  abbrev pub HasEnded : SeatState H C R Q → List (Entry C R) → SeatState H C R Q → Type 0
  HasEnded m h m' = (lane : ℕ) → m.0.role ≡ Lane lane → m' ≡ (view_after_turn m.0 lane h, [])

module _ {C R : Type 0} where
  -- what `then` may answer is paid for by the history, and its good suits there
  abbrev pub MayFollow : {W G : Type 0} → FactOfWork W C R G → FactOfCall C R → FactOfGoodIn C R G
      → ℕ → List (Entry C R) → W → R → Option G → Type 0
  MayFollow {W} {G} meets paid goes_in lane h work reply good =
      (call : C) (put : Option G) (work' : W) → meets work reply good (Some (call, put)) work'
      → paid h lane call × goes_in h lane call put

  -- one call more was made after the history h, or none
  abbrev pub Follows : {W G : Type 0} → FactOfWork W C R G → ReplyAfter C R → (R → Bool)
      → (Entry C R → Bool)
      → FactOfGoodOut C R G → ℕ → List (Entry C R) → W → R → Option G → R → Option G → W
      → List (Entry C R) → Type 0
  Follows {W} {G} meets next short keeps comes_out lane h work reply good reply' good' work' h' =
      (meets work reply good None work' × (reply' ≡ reply) × (good' ≡ None) × (h' ≡ h))
      ⊎ ((call : C) × (put : Option G) × meets work reply good (Some (call, put)) work'
      × (reply' ≡ next h lane call) × (short reply' ≡ false)
      × comes_out h lane call reply' good' × (h' ≡ after keeps h (entry lane call reply')))

  -- the same for whatever reply and good the first call of a turn may get, after what its pass has
  -- seen
  abbrev pub MayThen : {W S G : Type 0} → FactOfWork W C R G → (S → List (Entry C R) → Type 0)
      → ReplyAfter C R → (R → Bool) → FactOfCall C R → (Entry C R → Bool) → FactOfCall C R
      → FactOfGoodIn C R G → FactOfGoodOut C R G → ℕ → List (Entry C R) → C → W → Type 0
  MayThen {W} {S} {G} meets stands next short may_be_short keeps paid goes_in comes_out lane seen
      call work =
      (h rest : List (Entry C R)) (m : S) (reply : R) (good : Option G) → h ≡ seen ++ rest
      → calls_by lane rest ≡ []
      → stands m (after keeps h (entry lane call reply))
      → IsReply next short may_be_short h lane call reply → comes_out h lane call reply good
      → MayFollow meets paid goes_in lane (after keeps h (entry lane call reply)) work reply good

module _ {C R Q : Type 0} where
  -- the pass has seen the history h, with the entry where it is kept, and `mine` has grown by that
  -- entry
  abbrev pub Grows : (Entry C R → Bool) → ℕ → View C R Q → List (Entry C R) → Entry C R → View C R Q
      → Type 0
  Grows keeps lane v h e w = (w.seen ≡ after keeps h e) × (w.mine ≡ after keeps v.mine e)

  -- the reply is the machine's at a point h of the history, which goes on from what the pass had
  -- seen, and for which some machine stands
  abbrev pub Answers : {S : Type 0} → (S → List (Entry C R) → Type 0) → ReplyAfter C R → (R → Bool)
      → FactOfCall C R → (Entry C R → Bool) → {G : Type 0} → FactOfGoodOut C R G
      → ℕ → View C R Q → C → R → Option G → View C R Q → Type 0
  Answers stands next short may_be_short keeps comes_out lane v call reply good w =
      (h : List (Entry C R)) × GoesOn lane v.seen h
      × IsReply next short may_be_short h lane call reply
      × Grows keeps lane v h (entry lane call reply) w × comes_out h lane call reply good
      × SomeStands stands h

  -- One call or two in one turn, at a point h of the history, which goes on from what the pass had
  -- seen, and for which some machine stands. The lanes are those at which it hints after either.
  abbrev pub AnswersThen : {W S G : Type 0} → FactOfWork W C R G → (S → List (Entry C R) → Type 0)
      → ReplyAfter C R → (R → Bool) → FactOfCall C R → (Entry C R → Bool)
      → FactOfGoodOut C R G → FactOfHint S R → ℕ → View C R Q → C → W → R → Option G → W
      → View C R Q → ℕ → Type 0
  AnswersThen {W} {S} {G} meets stands next short may_be_short keeps comes_out hints lane v call
      work
      reply' good' work' w lanes =
      (h : List (Entry C R)) × (reply : R) × (good : Option G) × GoesOn lane v.seen h
      × IsReply next short may_be_short h lane call reply × comes_out h lane call reply good
      × Follows meets next short keeps comes_out lane
      (after keeps h (entry lane call reply)) work reply good reply' good' work' w.seen
      × (calls_by lane w.seen ≡ w.mine)
      × ((news : List (Entry C R)) × (w.seen ≡ h ++ news) × (w.mine ≡ v.mine ++ news))
      × SomeStands stands h
      × HintsBoth stands hints lane
      (after keeps h (entry lane call reply)) reply w.seen reply' lanes
