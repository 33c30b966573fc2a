-- The rule of the desk's table, and what each step on it tells.  Word 0 is the number of tickets
-- drawn, word 1 the number of turns that have ended, both modulo 2^64, and the slot has the machine
-- with its history. So a ticket is served where word 1 is its number. The slot is out with the seat
-- whose ticket is served, or at home.
use Rattle.std.specs.Prelude.{◌≡◌, ◌≢◌, ℕ, ◌+◌, ◌%◌, ◌^◌, ◌<◌, ◌≤◌, Bool, true, false, List, [], ◌∷◌, ◌++◌, length, Option, Some}
use mathlib.Core.Option as maybe
use lib.ListN.{get_elem?}
use Rattle.atomic_table.specs.Table.{State, Me}
use Rattle.plain_values.specs.declared.entry.Entry.{Entry}
use Rattle.seat_desk.specs.declared.view.Role.{Role}
use Rattle.seat_desk.specs.declared.view.Role.TheVariants.{Root, Lane, Gone}
use Rattle.seat_desk.specs.declared.view.Stage.{Stage}
use Rattle.seat_desk.specs.declared.view.Stage.TheVariants.{Idle, Waits, Turn}
use Rattle.seat_desk.specs.declared.view.Joined.{Joined}
use Rattle.seat_desk.specs.declared.view.View.{View}
use Rattle.seat_desk.specs.History.{calls_by, StartsWith}

-- 1 where the seat has a ticket
abbrev pub tickets_at : Stage → ℕ
tickets_at Idle = 0
tickets_at (Waits t) = 1
tickets_at (Turn t) = 1

-- 1 where the seat is a pass's
abbrev pub passes_at : Role → ℕ
passes_at (Root made) = 0
passes_at (Lane k) = 1
passes_at Gone = 0

-- how many passes the root has split
abbrev pub passes_made : Role → ℕ
passes_made (Root made) = made
passes_made (Lane k) = 0
passes_made Gone = 0

-- the lane of a pass
abbrev pub lane_of : Role → ℕ
lane_of (Root made) = 0
lane_of (Lane k) = k
lane_of Gone = 0

module _ {C R Q : Type 0} where
  -- how many passes are not joined
  abbrev pub passes_open : List (View C R Q) → ℕ
  passes_open [] = 0
  passes_open (v ∷ vs) = passes_at v.role + passes_open vs

  -- how many seats have a ticket
  abbrev pub tickets_out : List (View C R Q) → ℕ
  tickets_out [] = 0
  tickets_out (v ∷ vs) = tickets_at v.stage + tickets_out vs

  -- the first seat, at a machine of the basis q
  abbrev pub first_view : Q → View C R Q
  first_view q =
      record {
        role = Root 0;
        basis = q;
        stage = Idle;
        seen = [];
        told = [];
        mine = [];
        joined = [];
      }

  -- the view at this place in the line
  abbrev pub view_at : View C R Q → Stage → View C R Q
  view_at v stage =
      record {
        role = v.role;
        basis = v.basis;
        stage = stage;
        seen = v.seen;
        told = v.told;
        mine = v.mine;
        joined = v.joined;
      }

  -- the view in its turn, where the history is h
  abbrev pub view_in_turn : View C R Q → ℕ → List (Entry C R) → View C R Q
  view_in_turn v t h =
      record {
        role = v.role;
        basis = v.basis;
        stage = Turn t;
        seen = h;
        told = v.told;
        mine = v.mine;
        joined = v.joined;
      }

  -- the view after a turn of the lane k that left the history h
  abbrev pub view_after_turn : View C R Q → ℕ → List (Entry C R) → View C R Q
  view_after_turn v k h =
      record {
        role = v.role;
        basis = v.basis;
        stage = Idle;
        seen = h;
        told = v.told;
        mine = calls_by k h;
        joined = v.joined;
      }

  -- the view where the history is h
  abbrev pub view_with : View C R Q → List (Entry C R) → View C R Q
  view_with v h =
      record {
        role = v.role;
        basis = v.basis;
        stage = v.stage;
        seen = h;
        told = v.told;
        mine = v.mine;
        joined = v.joined;
      }

  -- the root after one more split
  abbrev pub root_after_split : View C R Q → View C R Q
  root_after_split v =
      record {
        role = Root
            (passes_made v.role + 1);
        basis = v.basis;
        stage = v.stage;
        seen = v.seen;
        told = v.told;
        mine = v.mine;
        joined = v.joined;
      }

  -- the new pass, which has seen what the root has
  abbrev pub new_pass_view : View C R Q → View C R Q
  new_pass_view v =
      record {
        role = Lane
            (passes_made v.role);
        basis = v.basis;
        stage = Idle;
        seen = v.seen;
        told = [];
        mine = [];
        joined = [];
      }

  -- the lane of a pass, with its calls
  abbrev pub joined_of : View C R Q → Joined C R
  joined_of w = record { lane = lane_of w.role; calls = w.mine }

  -- the root after a join: it is told what the pass has seen, and keeps its calls
  abbrev pub root_after_join : View C R Q → View C R Q → View C R Q
  root_after_join v w =
      record {
        role = v.role;
        basis = v.basis;
        stage = v.stage;
        seen = v.seen;
        told = w.seen;
        mine =
            v.mine;
        joined = v.joined ++ joined_of w ∷ [];
      }

  -- what is left of a pass that was joined
  abbrev pub view_gone : Q → View C R Q
  view_gone q =
      record { role = Gone; basis = q; stage = Idle; seen = []; told = []; mine = []; joined = [] }

module _ {C R : Type 0} where
  -- the joined lanes are among the first n seats
  abbrev pub Below : ℕ → List (Joined C R) → Type 0
  Below n [] = Unit {0}
  Below n (x ∷ xs) = (x.lane + 1 < n) × Below n xs

  -- each entry is of the lane k
  abbrev pub Only : ℕ → List (Entry C R) → Type 0
  Only k [] = Unit {0}
  Only k (e ∷ es) = (e.lane ≡ k) × Only k es

  -- the calls of each joined pass are all that the history has of its lane
  abbrev pub AllJoined : List (Entry C R) → List (Joined C R) → Type 0
  AllJoined log [] = Unit {0}
  AllJoined log (x ∷ xs) = (calls_by x.lane log ≡ x.calls) × AllJoined log xs

  -- no lane from n on has a call in the history
  abbrev pub NoneFrom : ℕ → List (Entry C R) → Type 0
  NoneFrom n log = (k : ℕ) → n ≤ k → calls_by k log ≡ []

  -- the lane k was not joined
  abbrev pub Apart : ℕ → List (Joined C R) → Type 0
  Apart k [] = Unit {0}
  Apart k (x ∷ xs) = (x.lane ≢ k) × Apart k xs

-- where a seat stands, with these tickets out
module _ {C R : Type 0} (log : List (Entry C R)) (done drawn : ℕ) (owner : ℕ → ℕ) (busy : Bool)
    (seat : ℕ) (seen : List (Entry C R)) where
  abbrev pub Queued : Stage → Type 0
  Queued Idle = Unit {0}
  Queued (Waits t) = (done ≤ t) × (t < drawn) × (owner t ≡ seat) × (busy ≡ true → t ≢ done)
  Queued (Turn t) = (t ≡ done) × (owner t ≡ seat) × (busy ≡ true) × (seen ≡ log)

-- what a seat knows by its role, among n seats
module _ {C R Q : Type 0} (basis : Q) (log : List (Entry C R)) (joined : List (Joined C R))
    (n seat : ℕ) (v : View C R Q) where
  abbrev pub Plays : Role → Type 0
  Plays (Root made) = (seat ≡ 0) × (n ≡ made + 1) × (v.joined ≡ joined) × (v.basis ≡ basis)
  Plays (Lane k) = (seat ≡ k + 1) × (calls_by k log ≡ v.mine) × Apart k joined × (v.basis ≡ basis)
  Plays Gone = v.stage ≡ Idle

-- H is what lies in the slot, log_of its history, and good what holds of it under the basis of the machine
module _ {H C R Q : Type 0} (log_of : H → List (Entry C R)) (good : Q → H → Type 0) where
  -- the slot is out with the seat that is served (busy), or at home with the history so far
  abbrev pub Lies : Q → Bool → List (Entry C R) → List (maybe.Option (Option (H))) → Type 0
  Lies basis true log homes = homes ≡ maybe.none ∷ []
  Lies basis false log homes =
      (y : H) × (homes ≡ maybe.some (Some y) ∷ []) × (log_of y ≡ log) × good basis y

  -- the rule: there are a history, numbers of tickets and an owner of each ticket for which all of
  -- this holds
  pub record Kept (s : State (Option (H)) (View C R Q)) : Type 0 where
    -- what the machine goes by
    pub basis : Q
    -- the one history
    pub log : List (Entry C R)
    -- how many turns have ended
    pub done : ℕ
    -- how many tickets were drawn
    pub drawn : ℕ
    -- which seat drew a ticket
    pub owner : ℕ → ℕ
    -- the slot is out
    pub busy : Bool
    -- the passes that were joined
    pub joined : List (Joined C R)
    pub words : s.words ≡ drawn % 2 ^ 64 ∷ done % 2 ^ 64 ∷ []
    pub count : done + tickets_out s.views ≡ drawn
    pub few : length s.views ≤ 2 ^ 32
    pub turn : busy ≡ true → done < drawn
    pub lies : Lies basis busy log s.homes
    pub lines : (j : ℕ) (v : View C R Q) → get_elem? s.views j ≡ maybe.some v
        → Queued log done drawn owner busy j v.seen v.stage
    pub fronts : (j : ℕ) (v : View C R Q) → get_elem? s.views j ≡ maybe.some v
        → StartsWith log v.seen × StartsWith log v.told
    pub roles : (j : ℕ) (v : View C R Q) → get_elem? s.views j ≡ maybe.some v
        → Plays basis log joined (length s.views) j v v.role
    pub ends : AllJoined log joined
    pub below : Below (length s.views) joined
    pub passes : passes_open s.views + length joined + 1 ≡ length s.views
    pub later : (k : ℕ) → length s.views ≤ k + 1 → calls_by k log ≡ []

  -- a seat's view, and the slots that it holds
  abbrev pub SeatState : Type 0
  SeatState = Me (Option (H)) (View C R Q)

  -- drawing a ticket: the word had its number modulo 2^64
  abbrev pub TellsDraw : SeatState → ℕ → SeatState → Type 0
  TellsDraw m n m' = (m'.1 ≡ m.1) × ((t : ℕ) × (t % 2 ^ 64 ≡ n) × (m'.0 ≡ view_at m.0 (Waits t)))

  -- the history that was found in the slot: it begins with all that was seen, and of this lane it
  -- has just its own calls
  abbrev pub Finds : View C R Q → H → Type 0
  Finds v y =
      good v.basis y × StartsWith (log_of y) v.seen
      × ((k : ℕ) → v.role ≡ Lane k → calls_by k (log_of y) ≡ v.mine)

  -- looking at the served word: where it is the seat's ticket, the slot is taken, and else nothing
  -- changes
  abbrev pub TellsLook : SeatState → ℕ → SeatState → Type 0
  TellsLook m n m' = (t : ℕ) → m.0.stage ≡ Waits t
      → (n ≡ t % 2 ^ 64 → (y : H) × Finds m.0 y × (m'.0 ≡ view_in_turn m.0 t (log_of y))
      × (m'.1 ≡ (0, Some y) ∷ m.1))
      × (n ≢ t % 2 ^ 64 → m' ≡ m)

  -- ending the turn: the slot is at home, and the pass has seen the history that the turn left
  abbrev pub TellsEnd : SeatState → ℕ → SeatState → Type 0
  TellsEnd m n m' =
      (m'.1 ≡ [])
      × ((k : ℕ) (y : H) → m.0.role ≡ Lane k → m.1 ≡ (0, Some y) ∷ []
      → m'.0 ≡ view_after_turn m.0 k (log_of y))

  -- the root sees the history so far: it begins with all that it had seen and was told of, and no
  -- later lane has a call in it
  abbrev pub TellsGather : SeatState → ℕ → SeatState → Type 0
  TellsGather m n m' =
      (m'.1 ≡ m.1)
      × ((h : List (Entry C R)) × (m'.0 ≡ view_with m.0 h) × StartsWith h m.0.seen
      × StartsWith h m.0.told
      × ((made : ℕ) → m.0.role ≡ Root made → (k : ℕ) → made ≤ k → calls_by k h ≡ []))
