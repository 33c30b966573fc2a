-- What every core keeps to: the words of its laws.
use Rattle.std.specs.Prelude.{◌≡◌, ℕ, ◌*◌, ◌+◌, ◌<◌, ◌==◌, Bool, true, false, List, [], length, filter, Option, Some, None, is_some}
use Rattle.std.specs.List.{fold, list_any}
use Rattle.run_plan.specs.declared.plan.Plan.{Plan}
use Rattle.run_plan.specs.Groups.{is_remote}
use Rattle.exec_journal.specs.declared.attempt.Attempt.{Attempt}
use Rattle.exec_journal.specs.declared.call.Call.{Call}
use Rattle.exec_journal.specs.declared.call.Call.TheVariants as call
use Rattle.exec_journal.specs.declared.reply.Reply.{Reply}
use Rattle.exec_journal.specs.declared.reply.Reply.TheVariants as reply
use Rattle.core_contract.specs.Moves.{Past, History, Move, TakePlace, move_of}
use Rattle.exec_journal.specs.Entries.{attempt_of, is_kept, takes, launch_in}
use Rattle.exec_journal.specs.Seated.{group_for, kind_in}
use Rattle.seat_desk.specs.History.{entry, after, IsReply}

-- the reply says lack of memory
abbrev pub is_short : Reply → Bool
is_short reply.NoMemory = true
is_short _ = false

abbrev pub says_file : Reply → Bool
says_file (reply.File b) = true
says_file _ = false

-- ---- which replies a call may get

abbrev pub fits_ask : Reply → Bool
fits_ask (reply.Launch l a b t) = true
fits_ask (reply.Send l n a b t) = true
fits_ask (reply.Cancel l n) = true
fits_ask (reply.Gather l n a b t e r) = true
fits_ask (reply.Kill l y) = true
fits_ask reply.Stop = true
fits_ask reply.Idle = true
fits_ask _ = false

abbrev pub fits_noted : Reply → Bool
fits_noted reply.Noted = true
fits_noted _ = false

abbrev pub fits_look : Reply → Bool
fits_look (reply.File b) = true
fits_look reply.NoFile = true
fits_look _ = false

abbrev pub fits_claim : Reply → Bool
fits_claim reply.Granted = true
fits_claim reply.Lost = true
fits_claim reply.AgainLater = true
fits_claim reply.Dropped = true
fits_claim _ = false

abbrev pub fits_take : Reply → Bool
fits_take (reply.Line l) = true
fits_take reply.Stop = true
fits_take reply.Idle = true
fits_take _ = false

abbrev pub fits_tick : Reply → Bool
fits_tick reply.Noted = true
fits_tick reply.Stop = true
fits_tick reply.Idle = true
fits_tick _ = false

abbrev pub fits_answer : Reply → Bool
fits_answer (reply.Matched a b t) = true
fits_answer (reply.Late a b t) = true
fits_answer reply.Greeted = true
fits_answer (reply.Stray y) = true
fits_answer (reply.Breach y) = true
fits_answer _ = false

-- in its lane's script the call may be answered so
abbrev pub fits : Call → Reply → Bool
fits call.Ask r = fits_ask r
fits (call.Look w) r = fits_look r
fits (call.Claim a b t f) r = fits_claim r
fits call.Take r = fits_take r
fits (call.Answer l x) r = fits_answer r
fits (call.Launched l how) r = fits_noted r
fits (call.Wrote l n how) r = fits_noted r
fits (call.Committed a b how) r = fits_noted r
fits (call.Killed l) r = fits_noted r
fits (call.Ended l how) r = fits_noted r
fits call.Halt r = fits_noted r
fits call.Tick r = fits_tick r

-- off its lane's script a call is answered Astray
abbrev pub Fits : Call → Reply → Type 0
Fits c r = (r ≡ reply.Astray → ⊥) → fits c r ≡ true

-- after this history the call is in its lane's script
abbrev pub InScript : (History → ℕ → Call → Reply) → History → ℕ → Call → Type 0
InScript rule h lane c = rule h lane c ≡ reply.Astray → ⊥

-- ---- the script of a tap lane, by its own entries

abbrev pub tap_lane : ℕ → ℕ
tap_lane w = 2 * w + 1

-- where a tap lane stands
pub data Hearing : Type 0 where
  -- it hears nothing: it may take a line
  Free : Hearing
  -- it was given this line, whose Ended it hasn't made
  Hears : ℕ → Hearing
  -- it was told to stop, or has halted
  Over : Hearing

-- after a call whose reply gives no line: an Answer still hears its line, and a Look changes nothing
abbrev pub leads_by_call : Hearing → Call → Hearing
leads_by_call s (call.Look w) = s
leads_by_call s (call.Answer l x) = Hears l
leads_by_call s call.Halt = Over
leads_by_call s _ = Free

-- after a call whose reply gives the line l
abbrev pub leads_by_line : ℕ → Hearing → Call → Hearing
leads_by_line l s (call.Look w) = s
leads_by_line l s call.Halt = Over
leads_by_line l s _ = Hears l

-- after a call and its reply
abbrev pub hearing_from : Hearing → Call → Reply → Hearing
hearing_from s c reply.Stop = Over
hearing_from s c (reply.Line l) = leads_by_line l s c
hearing_from s c _ = leads_by_call s c

-- the same, and what is over stays over
abbrev pub hearing_by : Hearing → Call → Reply → Hearing
hearing_by Over c r = Over
hearing_by Free c r = hearing_from Free c r
hearing_by (Hears l) c r = hearing_from (Hears l) c r

abbrev pub hearing_then : Hearing → Past → Hearing
hearing_then s e = hearing_by s e.call e.reply

-- after its entries, the oldest first
abbrev pub hearing_of : History → Hearing
hearing_of own = fold hearing_then Free own

-- a tap lane that stands there may make the call
abbrev pub may_hear : Hearing → Call → Bool
may_hear Free call.Take = true
may_hear Free call.Halt = true
may_hear Free _ = false
may_hear (Hears l) (call.Answer k x) = k == l
may_hear (Hears l) (call.Ended k how) = k == l
may_hear (Hears l) call.Halt = true
may_hear (Hears l) _ = false
may_hear Over c = false

-- it tells an answer, or the end, of this line
abbrev pub tells_of : ℕ → Call → Bool
tells_of l (call.Answer k x) = k == l
tells_of l (call.Ended k how) = k == l
tells_of l _ = false

-- ---- a proxy lane's own last claim

-- the files that were granted last, after a move
abbrev pub claimed_by : List (List ℕ) → Move → List (List ℕ)
claimed_by fs (TakePlace a gs) = gs
claimed_by fs _ = fs

-- the files of the newest Claim that was granted files, of these entries
abbrev pub claimed : History → List (List ℕ)
claimed own = fold (λ fs e. claimed_by fs (move_of e)) [] own

-- ---- lines

-- how many lines were ordered
abbrev pub lines_in : History → ℕ
lines_in h = length (filter (λ e. is_some (launch_in e.reply)) h)

-- some tap lane was given the line
abbrev pub is_taken : ℕ → History → Bool
is_taken l h = list_any (λ e. takes l e.reply) h

-- What holds where a lane is ordered so, with so many actions, the line whose child lies on the
-- shelf for its berth, and so many lines before. A line is launched, and a lane is told to stop,
-- where no child lies there; what is sent, cancelled or killed is of the line whose child does.
abbrev pub OrderHolds : ℕ → Option ℕ → ℕ → Reply → Type 0
OrderHolds actions child lines (reply.Launch l a b t) = (l ≡ lines) × (child ≡ None)
OrderHolds actions child lines (reply.Send l n a b t) = (a < actions) × (child ≡ Some l)
OrderHolds actions child lines (reply.Cancel l n) = child ≡ Some l
OrderHolds actions child lines (reply.Gather l n a b t exit refused) = a < actions
OrderHolds actions child lines (reply.Kill l y) = child ≡ Some l
OrderHolds actions child lines reply.Stop = child ≡ None
OrderHolds actions child lines _ = Unit {0}

-- The attempt is run by a group of the plan, which is an executor's exactly so.
pub record RunsOn (p : Plan) (remote : Bool) (t : Attempt) : Type 0 where
  pub group : ℕ
  pub there : group < length p.groups
  pub of_branch : group_for p t ≡ Some group
  pub executor : is_remote (kind_in p (Some group)) ≡ remote

-- An order is of an attempt whose group is an executor's exactly where the berth is.
abbrev pub OrderFits : Plan → Bool → Reply → Type 0
OrderFits p remote (reply.Launch l a b t) = RunsOn p remote (attempt_of a b t)
OrderFits p remote (reply.Send l n a b t) = RunsOn p remote (attempt_of a b t)
OrderFits p remote (reply.Gather l n a b t exit refused) = RunsOn p remote (attempt_of a b t)
OrderFits p remote _ = Unit {0}

-- ---- a step of a core, whatever history it stands for
module _ {S : Type 0} (stands : S → History → Type 0) where
  -- the reply is the rule's, or says lack of memory in place of a file
  abbrev pub StepReplies : (History → ℕ → Call → Reply) → S → ℕ → Call → Reply → Type 0
  StepReplies rule m lane c r = (h : History) → stands m h
      → IsReply rule is_short (λ h lane c. says_file (rule h lane c) ≡ true) h lane c r

  -- afterwards the core stands for the history with the entry, where it is kept
  abbrev pub StepStands : S → ℕ → Call → Reply → S → Type 0
  StepStands m lane c r m' = (h : History) → stands m h
      → stands m' (after (λ e. is_kept e.reply) h (entry lane c r))
