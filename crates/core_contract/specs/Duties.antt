-- What a proxy lane owes, by its own entries, and which calls it may make then.
use Rattle.std.specs.Prelude.{ℕ, ◌*◌, ◌==◌, ℤ, pos, nat_lt, Bool, true, false, ◌&&◌, ◌||◌, not, List, length}
use Rattle.std.specs.List.{fold, list_any}
use Rattle.std.specs.Ordering.{int_eq}
use Rattle.run_plan.specs.declared.plan.Branch.{Branch}
use Rattle.run_plan.specs.declared.plan.Maker.{Maker}
use Rattle.run_plan.specs.Groups.{is_remote}
use Rattle.exec_journal.specs.declared.attempt.Attempt.{Attempt}
use Rattle.exec_journal.specs.declared.call.Call.{Call}
use Rattle.exec_journal.specs.declared.call.Call.TheVariants as call
use Rattle.exec_journal.specs.declared.call.Found.{Found}
use Rattle.exec_journal.specs.declared.call.Found.TheVariants as found
use Rattle.exec_journal.specs.declared.call.Wanted.{Wanted}
use Rattle.exec_journal.specs.declared.call.Wanted.TheVariants as wanted
use Rattle.exec_journal.specs.declared.reply.Reply.{Reply}
use Rattle.exec_journal.specs.declared.reply.Reply.TheVariants as reply
use Rattle.exec_journal.specs.Entries.{attempt_of, same_attempt, same_branch}
use Rattle.exec_journal.specs.Scripts.{is_made, is_whole_or_fault, may_find}
use Rattle.core_contract.specs.Moves.{Past, History}
use Rattle.core_contract.specs.Discipline.{Discipline, makers_in, outputs_in}

abbrev pub proxy_lane : ℕ → ℕ
proxy_lane w = 2 * w

pub data Duty : Type 0 where
  -- it owes nothing: it may ask
  Asks : Duty
  -- Launched of this line, for this attempt
  Launches : ℕ → Attempt → Duty
  -- Wrote of this line and number, for a request of this attempt
  Sends : ℕ → ℤ → Attempt → Duty
  -- Wrote of this line and number, for a Cancel
  Cancels : ℕ → ℤ → Duty
  -- a Claim of this attempt, whose answer came on this line with this number; its exit code, and
  -- whether it was refused
  Gathers : ℕ → ℤ → Attempt → ℤ → Bool → Duty
  -- Committed of this action's branch, which was granted these files
  Commits : ℕ → Branch → List (List ℕ) → Duty
  -- Killed of this line
  Kills : ℕ → Duty
  -- it was told to stop, or has halted
  Left : Duty

-- what a reply orders
abbrev pub ordered : Reply → Duty
ordered (reply.Launch l a b t) = Launches l (attempt_of a b t)
ordered (reply.Send l n a b t) = Sends l n (attempt_of a b t)
ordered (reply.Cancel l n) = Cancels l n
ordered (reply.Gather l n a b t exit refused) = Gathers l n (attempt_of a b t) exit refused
ordered (reply.Kill l y) = Kills l
ordered reply.Stop = Left
ordered _ = Asks

abbrev pub duty_of_claim : ℕ → Branch → Found → Reply → Duty
duty_of_claim a b (found.Files fs) reply.Granted = Commits a b fs
duty_of_claim a b _ r = ordered r

-- after a call whose reply doesn't stop the lane: a Look changes nothing
abbrev pub duty_by_call : Duty → Call → Reply → Duty
duty_by_call s (call.Look w) r = s
duty_by_call s call.Halt r = Left
duty_by_call s (call.Claim a b t f) r = duty_of_claim a b f r
duty_by_call s _ r = ordered r

abbrev pub duty_from : Duty → Call → Reply → Duty
duty_from s c reply.Stop = Left
duty_from s c r = duty_by_call s c r

-- the same, and a lane that has left stays away
abbrev pub duty_by : Duty → Call → Reply → Duty
duty_by Left c r = Left
duty_by s c r = duty_from s c r

abbrev pub duty_then : Duty → Past → Duty
duty_then s e = duty_by s e.call e.reply

-- after the lane's entries, the oldest first
abbrev pub duty_of : History → Duty
duty_of own = fold duty_then Asks own

-- the list has this output of this action
abbrev pub is_maker : List Maker → ℕ → ℕ → Bool
is_maker makers c o = list_any (λ m. is_made m c o) makers

-- A lane that owes a Committed may halt before it makes it, and so make it once it has left. A lane
-- that owes nothing may make a Tick. No duty asks for that.
abbrev pub may_besides : Duty → Call → Bool
may_besides (Commits a b fs) call.Halt = true
may_besides Left (call.Committed a b how) = true
may_besides Asks call.Tick = true
may_besides _ _ = false

-- ---- which calls the proxy lane of this berth may make, by a discipline
module _ (q : Discipline) (berth : ℕ) where
  -- while it sends a request, it looks at the made inputs
  abbrev pub may_look : ℕ → Wanted → Bool
  may_look a (wanted.Made c o) = is_maker (makers_in q.plan a) c o
  may_look a (wanted.Answered l n o) = false

  -- while it gathers an answer that holds files, it looks at those of its action's outputs
  abbrev pub may_look_at : ℕ → ℤ → ℕ → ℤ → Bool → Wanted → Bool
  may_look_at l n a exit refused (wanted.Made c o) = false
  may_look_at l n a exit refused (wanted.Answered k m o) =
      ((k == l) && int_eq m n)
      && (int_eq exit (pos 0) && (not refused && nat_lt o (length (outputs_in q.plan a))))

  abbrev pub may_claim : Attempt → ℤ → Bool → Attempt → Found → Bool
  may_claim t exit refused u f =
      same_attempt u t && may_find (length (outputs_in q.plan u.action)) (is_remote (q.kinds berth)) exit refused f

  abbrev pub may_do : Duty → Call → Bool
  may_do Asks call.Ask = true
  may_do Asks call.Halt = true
  may_do (Launches m t) (call.Launched l how) = m == l
  may_do (Launches m t) call.Halt = true
  may_do (Sends m o t) (call.Wrote l n how) = (m == l) && int_eq o n
  may_do (Sends m o t) (call.Look w) = may_look t.action w
  may_do (Sends m o t) call.Halt = true
  may_do (Cancels m o) (call.Wrote l n how) = (m == l) && (int_eq o n && is_whole_or_fault how)
  may_do (Cancels m o) call.Halt = true
  may_do (Gathers l n t exit refused) (call.Claim a b u f) =
      may_claim t exit refused (attempt_of a b u) f
  may_do (Gathers l n t exit refused) (call.Look w) =
      may_look_at l n t.action exit refused w
  may_do (Gathers l n t exit refused) call.Halt = true
  may_do (Commits c d fs) (call.Committed a b how) = (c == a) && same_branch d b
  may_do (Kills m) (call.Killed l) = m == l
  may_do (Kills m) call.Halt = true
  may_do _ _ = false

  -- what its duty asks for, or what it may do besides
  abbrev pub may_make : Duty → Call → Bool
  may_make s c = may_do s c || may_besides s c
