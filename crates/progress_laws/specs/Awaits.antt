-- What a run waits for: a line's process, which owes an answer or its end.
use Rattle.std.specs.Prelude.{◌≡◌, ◌/◌, ◌%◌, ◌==◌, ℕ, Bool, true, false, ◌||◌, ◌⊎◌, Some, List}
use Rattle.std.specs.List.{list_any}
use Rattle.exec_journal.specs.Entry.{Entry}
use Rattle.exec_journal.specs.Words.{last_line, pending, wrote, says_done, has_ended, has_halted, was_killed, was_taken}

-- a request that was written to the line whole is pending
abbrev pub owes_answer : List Entry → ℕ → Bool
owes_answer j l = list_any (λ r. says_done (wrote j r.attempt)) (pending j l)

-- The line was given to its tap lane and hasn't Ended. It was killed, so its process owes its end;
-- or its process owes an answer.
pub record Awaits (j : List Entry) (l : ℕ) : Type 0 where
  pub given : was_taken j l ≡ true
  pub unended : has_ended j l ≡ false
  pub owed : (was_killed j l || owes_answer j l) ≡ true

-- the line is the last of its berth, whose proxy lane has halted: on its way out that lane ends the
-- process
pub record IsLeftBehind (j : List Entry) (l : ℕ) : Type 0 where
  pub lane : ℕ
  pub proxy : (lane % 2 == 0) ≡ true
  pub last : last_line j (lane / 2) ≡ Some l
  pub halts : has_halted j lane ≡ true

-- The line was given to its tap lane and hasn't Ended, and its process owes its end.
pub record AwaitsEnd (j : List Entry) (l : ℕ) : Type 0 where
  pub given : was_taken j l ≡ true
  pub unended : has_ended j l ≡ false
  pub ends : (was_killed j l ≡ true) ⊎ IsLeftBehind j l

-- the line's process owes something
abbrev pub Owes : List Entry → ℕ → Type 0
Owes j l = Awaits j l ⊎ AwaitsEnd j l
