-- What an entry of a history moves on the shelf.
use Rattle.std.specs.Prelude.{ℕ, ◌%◌, ◌==◌, List, if◌then◌else◌}
use Rattle.plain_values.specs.declared.entry.Entry.{Entry}
use Rattle.exec_journal.specs.declared.call.Call.{Call}
use Rattle.exec_journal.specs.declared.call.Call.TheVariants as call
use Rattle.exec_journal.specs.declared.call.Started.TheVariants as start
use Rattle.exec_journal.specs.declared.call.Found.{Found}
use Rattle.exec_journal.specs.declared.call.Found.TheVariants as found
use Rattle.exec_journal.specs.declared.call.CommitEnd.{CommitEnd}
use Rattle.exec_journal.specs.declared.reply.Reply.{Reply}
use Rattle.exec_journal.specs.declared.reply.Reply.TheVariants as reply
use Rattle.core_contract.specs.declared.shift.Shift.{Shift}
use Rattle.core_contract.specs.declared.shift.Shift.TheVariants as shift

-- a call with its reply
abbrev pub Past : Type 0
Past = Entry Call Reply

-- a history, the oldest entry first
abbrev pub History : Type 0
History = List Past

pub data Move : Type 0 where
  -- the child and the tap of this line are put on the shelf
  PutLine : ℕ → Move
  -- the tap of this line is taken
  TakeTap : ℕ → Move
  -- the child of this line is taken
  TakeChild : ℕ → Move
  -- the berth's child is taken, where one is there
  GiveUp : Move
  -- the place of this action is taken, for these files
  TakePlace : ℕ → List (List ℕ) → Move
  -- the place of this action is put back, after this end of its commit
  PutPlace : ℕ → CommitEnd → Move
  Nothing : Move

abbrev pub claim_moves : ℕ → Found → Reply → Move
claim_moves a (found.Files fs) reply.Granted = TakePlace a fs
claim_moves a _ _ = Nothing

abbrev pub ask_moves : Reply → Move
ask_moves (reply.Kill l y) = TakeChild l
ask_moves _ = Nothing

abbrev pub take_moves : Reply → Move
take_moves (reply.Line l) = TakeTap l
take_moves _ = Nothing

abbrev pub noted_moves : Move → Reply → Move
noted_moves m reply.Noted = m
noted_moves m _ = Nothing

-- what a call of a tap lane moves, where it was answered so
abbrev pub tap_move : Call → Reply → Move
tap_move call.Take r = take_moves r
tap_move _ r = Nothing

-- what a call of a proxy lane does
abbrev pub proxy_move : Call → Reply → Move
proxy_move call.Ask r = ask_moves r
proxy_move (call.Launched l start.Done) r = noted_moves (PutLine l) r
proxy_move (call.Committed a b how) r = noted_moves (PutPlace a how) r
proxy_move (call.Claim a b t f) r = claim_moves a f r
proxy_move call.Halt r = noted_moves GiveUp r
proxy_move _ r = Nothing

abbrev pub move_in : ℕ → Call → Reply → Move
move_in lane c r = if lane % 2 == 0 then proxy_move c r else tap_move c r

abbrev pub move_of : Past → Move
move_of e = move_in e.lane e.call e.reply

abbrev pub shift_for : Move → Shift
shift_for (PutLine l) = shift.PutLine
shift_for (TakeTap l) = shift.TakeTap
shift_for (TakeChild l) = shift.TakeChild
shift_for GiveUp = shift.TakeChild
shift_for (TakePlace a fs) = shift.TakePlace a
shift_for (PutPlace a how) = shift.PutPlace a
shift_for Nothing = shift.Nothing
