-- What a clause reads of a desk, its root and its passes.
use Rattle.std.specs.Prelude.{◌≡◌, ◌+◌, List, Option}
use Rattle.seat_desk.specs.declared.machine.Machine.{Ghosts}
use Rattle.plain_values.specs.declared.entry.Entry.{Entry}
use Rattle.seat_desk.specs.declared.view.Joined.{Joined}
use Rattle.seat_desk.specs.declared.desk.Pass.{Pass}
use Rattle.seat_desk.specs.declared.desk.Root.{Root}
use Rattle.seat_desk.specs.declared.desk.Desk.{Desk}
use Rattle.seat_desk.specs.History.{FactOfWork, GoesOn, StandsUnder, SomeHints}
use Rattle.seat_desk.specs.Turns.{first_view, root_after_split, new_pass_view}
use Rattle.seat_desk.specs.Desks.{Answers, AnswersThen, MayThen}

module _ {M C R G Q : Type 0} {g : Ghosts M C R G Q} where
  -- what the pass has seen: a front of the one history
  abbrev pub seen : Pass M C R G Q g → List (Entry C R)
  seen p = p.seat.me.0.seen

  -- the calls that were made with the pass: all that the history has of its lane
  abbrev pub mine : Pass M C R G Q g → List (Entry C R)
  mine p = p.seat.me.0.mine

  -- what the machine of the pass's desk goes by
  abbrev pub basis : Pass M C R G Q g → Q
  basis p = p.seat.me.0.basis

  -- what the machine of the root's desk goes by
  abbrev pub root_basis : Root M C R G Q g → Q
  root_basis r = r.seat.me.0.basis

  -- what the root has seen: a front of the one history
  abbrev pub root_seen : Root M C R G Q g → List (Entry C R)
  root_seen r = r.seat.me.0.seen

  -- the lanes of the passes that were joined, with the calls of each
  abbrev pub joined : Root M C R G Q g → List (Joined C R)
  joined r = r.seat.me.0.joined

  -- the pass is this desk's
  abbrev pub IsPassOf : Desk M C R G Q → Pass M C R G Q g → Type 0
  IsPassOf d p = p.seat.table_id ≡ d.table.shared.table_id

  -- the root is this desk's
  abbrev pub IsRootOf : Desk M C R G Q → Root M C R G Q g → Type 0
  IsRootOf d r = r.seat.table_id ≡ d.table.shared.table_id

  -- the pass has the desk, the lane and the basis that it had
  abbrev pub IsSamePass : Pass M C R G Q g → Pass M C R G Q g → Type 0
  IsSamePass p p' = (p'.seat.table_id ≡ p.seat.table_id) × (p'.lane ≡ p.lane) × (basis p' ≡ basis p)

  -- the root has the desk, the number of passes and the basis that it had
  abbrev pub IsSameRoot : Root M C R G Q g → Root M C R G Q g → Type 0
  IsSameRoot r r' =
      (r'.seat.table_id ≡ r.seat.table_id) × (r'.made ≡ r.made) × (root_basis r' ≡ root_basis r)

  -- the root of a desk whose machine has this basis: it has split no pass, seen nothing and joined
  -- nothing
  abbrev pub IsNewRoot : Q → Root M C R G Q g → Type 0
  IsNewRoot basis r = (r.made ≡ 0) × (r.seat.me.0 ≡ first_view basis)

  -- the root has split one pass more, and is else as it was
  abbrev pub SplitsOne : Root M C R G Q g → Root M C R G Q g → Type 0
  SplitsOne r r' =
      (r'.seat.table_id ≡ r.seat.table_id) × (r'.made ≡ r.made + 1)
      × (r'.seat.me.0 ≡ root_after_split r.seat.me.0)

  -- the pass is of the root's desk and of the next lane, has seen what the root has, and made no
  -- call
  abbrev pub IsNewPass : Root M C R G Q g → Pass M C R G Q g → Type 0
  IsNewPass r p =
      (p.seat.table_id ≡ r.seat.table_id) × (p.lane ≡ r.made)
      × (p.seat.me.0 ≡ new_pass_view r.seat.me.0)

  -- this may go in with the call, a good or none, after what the pass has seen
  abbrev pub Suits : Pass M C R G Q g → C → Option G → Type 0
  Suits p call put = g.goes_in (basis p) (seen p) p.lane call put

  -- what the pass has seen pays for the call
  abbrev pub IsPaidFor : Pass M C R G Q g → C → Type 0
  IsPaidFor p call = g.paid (basis p) (seen p) p.lane call

  -- the call was made in one turn, by the basis of the machine: the reply is its reply at a point
  -- of the history that begins with all that the pass had seen, and for which some machine stands
  abbrev pub MakesCall : Pass M C R G Q g → C → R → Option G → Pass M C R G Q g → Type 0
  MakesCall p call reply good p' =
      Answers (StandsUnder g.basis g.stands (basis p)) (g.next (basis p)) g.short
      (g.may_be_short (basis p)) g.keeps (g.comes_out (basis p)) p.lane p.seat.me.0 call reply good
      p'.seat.me.0

  -- the same, and the reply is not short
  abbrev pub MakesPaidCall : Pass M C R G Q g → C → R → Option G → Pass M C R G Q g → Type 0
  MakesPaidCall p call reply good p' =
      Answers (StandsUnder g.basis g.stands (basis p)) (g.next (basis p)) g.short
      (λ _ _ _. ⊥) g.keeps
      (g.comes_out (basis p)) p.lane p.seat.me.0 call reply good p'.seat.me.0

  -- the pass stirs the lanes at which the machine hints after this reply
  abbrev pub Stirs : Pass M C R G Q g → R → Pass M C R G Q g → Type 0
  Stirs p reply p' =
      SomeHints (StandsUnder g.basis g.stands (basis p)) g.hints (seen p') p.lane reply p'.stirs

  -- no call was made: the history that the pass has seen may have grown by calls of other lanes,
  -- and its own list stays
  abbrev pub MakesNoCall : Pass M C R G Q g → Pass M C R G Q g → Type 0
  MakesNoCall p p' = GoesOn p.lane (seen p) (seen p') × (mine p' ≡ mine p)

  -- whatever the work answers to the call's reply is paid for by the history with the call's entry,
  -- and its good suits there
  abbrev pub MayMakeThen : {W : Type 0} → FactOfWork W C R G → Pass M C R G Q g → C → W → Type 0
  MayMakeThen meets p call work =
      MayThen meets (StandsUnder g.basis g.stands (basis p)) (g.next (basis p)) g.short
      (g.may_be_short (basis p)) g.keeps (g.paid (basis p)) (g.goes_in (basis p))
      (g.comes_out (basis p))
      p.lane (seen p) call work

  -- The call, and the one that the work answered, were made in one turn, at such a point of the
  -- history. The pass stirs the lanes at which the machine hints after either.
  abbrev pub MakesCallThen : {W : Type 0} → FactOfWork W C R G → Pass M C R G Q g → C → W → R
      → Option G → W → Pass M C R G Q g → Type 0
  MakesCallThen meets p call work reply good work' p' =
      AnswersThen meets (StandsUnder g.basis g.stands (basis p)) (g.next (basis p)) g.short
      (g.may_be_short (basis p)) g.keeps
      (g.comes_out (basis p)) g.hints p.lane p.seat.me.0 call work
      reply good work' p'.seat.me.0 p'.stirs
