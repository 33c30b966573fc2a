-- When every lane of a run rests.
use Rattle.std.specs.Prelude.{◌≡◌, ◌<◌, ℕ, Bool, true, ◌||◌, List}
use Rattle.exec_journal.specs.Entry.{Entry}
use Rattle.exec_journal.specs.declared.call.Call.TheVariants as call
use Rattle.exec_journal.specs.declared.call.HowEnded.TheVariants as end
use Rattle.exec_journal.specs.declared.reply.Reply.TheVariants as reply
use Rattle.exec_journal.specs.Words.{has_halted, stopped}
use Rattle.core_contract.specs.Disciplines.{script_of}
use Rattle.core_contract.specs.Discipline.{Discipline}
use Rattle.core_contract.specs.News.{question}

-- the lane was told to stop, or it has halted
abbrev pub has_left : List Entry → ℕ → Bool
has_left j lane = stopped j lane || has_halted j lane

-- The lane has left; or it may report on a line, so it waits for what the line's process says; or
-- it may ask what a lane asks that owes no call, and would be told Idle.
pub data IsResting (q : Discipline) (j : List Entry) (lane : ℕ) : Type 0 where
  Left : has_left j lane ≡ true → IsResting q j lane
  Hears : (l : ℕ) → script_of q j lane (call.Ended l end.End) ≡ true → IsResting q j lane
  Idles : script_of q j lane (question q.ticks lane) ≡ true
      → q.rule j lane (question q.ticks lane) ≡ reply.Idle → IsResting q j lane

-- so does each of the first lanes, `lanes` of them
abbrev pub AllRest : Discipline → ℕ → List Entry → Type 0
AllRest q lanes j = (lane : ℕ) → lane < lanes → IsResting q j lane

-- each of them has left
abbrev pub AllLeft : ℕ → List Entry → Type 0
AllLeft lanes j = (lane : ℕ) → lane < lanes → has_left j lane ≡ true
