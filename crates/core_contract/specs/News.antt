-- For whom a call was news, by a discipline and the history alone.
use Rattle.std.specs.Prelude.{◌≡◌, ◌≢◌, ℕ, ◌%◌, ◌==◌, Bool, true, ◌∷◌, ◌++◌, [], if◌then◌else◌}
use Rattle.std.specs.Int.{bit_at}
use Rattle.exec_journal.specs.declared.call.Call.{Call}
use Rattle.exec_journal.specs.declared.call.Call.TheVariants as call
use Rattle.exec_journal.specs.declared.reply.Reply.{Reply}
use Rattle.exec_journal.specs.declared.reply.Reply.TheVariants as reply
use Rattle.core_contract.specs.Laws.{InScript}
use Rattle.core_contract.specs.Discipline.{Discipline}
use Rattle.core_contract.specs.Moves.{Past, History}
use Rattle.core_contract.specs.Ruled.{answer_after}

-- what a lane asks that owes nothing, where these make Ticks: such a lane a Tick, any other proxy
-- lane an order, a tap lane a line
abbrev pub question : (ℕ → Bool) → ℕ → Call
question ticks lane =
    if ticks lane then call.Tick else (if lane % 2 == 0 then call.Ask else call.Take)

-- the hint names the lane: its bit k names each lane whose number is k modulo 128
abbrev pub Names : ℕ → ℕ → Type 0
Names hint lane = bit_at hint (lane % 128) ≡ 1

-- by a discipline
module _ (q : Discipline) where
  -- after the history the lane would be told Idle
  abbrev pub IsQuiet : History → ℕ → Type 0
  IsQuiet h lane = answer_after q h lane (question q.ticks lane) ≡ reply.Idle

  -- after the history the lane may ask, and would be told more than Idle
  abbrev pub HasNews : History → ℕ → Type 0
  HasNews h lane =
      InScript (answer_after q) h lane (question q.ticks lane)
      × (answer_after q h lane (question q.ticks lane) ≢ reply.Idle)

  -- the answer to whether it has
  pub record SaysNews (h : History) (lane : ℕ) (news : Bool) : Type 0 where
    pub said : HasNews h lane → news ≡ true
    pub so : news ≡ true → HasNews h lane

  -- the hint, if the history h went on by the entry e
  pub record NamesNews (h : History) (e : Past) (hint : ℕ) : Type 0 where
    -- it names each other lane that would have been told Idle before, and has news now
    pub all : (lane : ℕ) → lane ≢ e.lane → IsQuiet h lane → HasNews (h ++ e ∷ []) lane
        → Names hint lane
    -- and each of its bits names another lane that has news
    pub only : (bit : ℕ) → bit_at hint bit ≡ 1
        → (lane : ℕ) × (lane % 128 ≡ bit) × (lane ≢ e.lane) × HasNews (h ++ e ∷ []) lane
