-- Berths where nothing is to be done: the lanes rest, and the last line's process owes nothing.
use Rattle.std.specs.Prelude.{◌≡◌, ◌/◌, ◌%◌, ◌==◌, ℕ, true, ◌⊎◌, Some, None, List, []}
use Rattle.run_plan.specs.declared.plan.Plan.{Plan}
use Rattle.exec_journal.specs.declared.call.Call.TheVariants as call
use Rattle.exec_journal.specs.Entry.{Entry}
use Rattle.exec_journal.specs.Facts.{IsOfBerth}
use Rattle.exec_journal.specs.Lawful.{in_script}
use Rattle.exec_journal.specs.Rules.{gathers_next, is_vacant}
use Rattle.exec_journal.specs.Settled.{bound}
use Rattle.exec_journal.specs.Scripts.{may_ask_after}
use Rattle.exec_journal.specs.Words.{last_line, last_work, live, pending}

-- the line makes its berth vacant, or it is live and nothing is pending there
abbrev pub IsFree : List Entry → ℕ → Type 0
IsFree j l = (is_vacant j (Some l) ≡ true) ⊎ ((live j l ≡ true) × (pending j l ≡ []))

-- The proxy lane may Ask. Nothing of its berth is to be gathered, its last line is free, and no
-- attempt is bound to a live one.
pub record IsQuietLane (p : Plan) (j : List Entry) (lane : ℕ) : Type 0 where
  pub may : in_script p j lane call.Ask ≡ true
  pub ungathered : gathers_next j (lane / 2) ≡ None
  pub free : (l : ℕ) → last_line j (lane / 2) ≡ Some l → IsFree j l
  pub unbound : (l : ℕ) → last_line j (lane / 2) ≡ Some l → live j l ≡ true → bound p j l ≡ None

-- the berth has such a lane
pub record IsQuietBerth (p : Plan) (j : List Entry) (w : ℕ) : Type 0 where
  pub lane : ℕ
  pub same : lane / 2 ≡ w
  pub is : IsQuietLane p j lane

-- so has each berth that was ever given a line
abbrev pub AllQuiet : Plan → List Entry → Type 0
AllQuiet p j = (l w : ℕ) → IsOfBerth j l w → IsQuietBerth p j w

-- no proxy lane owes the call that its newest work asks for
abbrev pub NoneOwes : List Entry → Type 0
NoneOwes j = (lane : ℕ) (d : Entry) → last_work j lane ≡ Some d → (lane % 2 == 0) ≡ true
    → may_ask_after d.call d.reply ≡ true
