-- What is known of a lane before it calls.
use Rattle.std.specs.Prelude.{ℕ, ◌+◌, ◌/◌, ◌%◌, ◌==◌, Bool, true, false, ◌&&◌, not, if◌then◌else◌, List, Option, Some, None}
use Rattle.exec_journal.specs.Entry.{Entry}
use Rattle.exec_journal.specs.declared.reply.Reply.{Reply}
use Rattle.exec_journal.specs.declared.reply.Reply.TheVariants as reply
use Rattle.journal_laws.specs.Paid.{count}
use Rattle.core_tables.specs.declared.lanes.LaneState.{LaneState}
use Rattle.core_tables.specs.declared.berth_group.BerthGroup.{BerthGroup}
use Rattle.core_tables.specs.Lanes.{is_won}
use Rattle.core_state.specs.declared.state.State.{State}
use Rattle.core_state.specs.Machine.{carried_reply, take_reply, takeable}
use Rattle.core_contract.specs.Disciplines.{script_of}
use Rattle.core_contract.specs.Discipline.{Discipline}
use Rattle.core_contract.specs.News.{question}
use Rattle.spawn_core.specs.Turns.{Orders, may_make}

-- its Halt, unless it was told to stop or has halted, and the Committed of what it was granted
abbrev pub owes_by : LaneState → ℕ
owes_by x = count (not x.stopped && not x.halted) + count (is_won x.said)

abbrev pub is_idle : Reply → Bool
is_idle reply.Idle = true
is_idle _ = false

-- What the tables answer a lane that owes nothing and asks, where so is ordered of it: one that
-- makes Ticks, or another.
abbrev pub told_by : State → Orders → Bool → ℕ → Reply
told_by s x ticks lane =
    if ticks then x.tick
    else (if lane % 2 == 0 then carried_reply s (lane / 2) x.ask
    else take_reply s (takeable s (lane / 2)))

-- of a lane of this seat, where these make Ticks: it may ask, and isn't answered Idle
abbrev pub has_news_at : State → Orders → (ℕ → Bool) → ℕ → Option BerthGroup → Bool
has_news_at s x ticks lane None = false
has_news_at s x ticks lane (Some seat) =
    may_make s seat.kind (ticks lane) lane (question ticks lane)
    && not (is_idle (told_by s x (ticks lane) lane))

-- the lane has a seat, may ask, and isn't answered Idle
abbrev pub has_news_by : State → (ℕ → Option BerthGroup) → Orders → (ℕ → Bool) → ℕ → Bool
has_news_by s seated x ticks lane = has_news_at s x ticks lane (seated (lane / 2))

-- the lane may ask after this journal, and the discipline has more for it than Idle
abbrev pub has_news : Discipline → List Entry → ℕ → Bool
has_news q j lane =
    script_of q j lane (question q.ticks lane)
    && not (is_idle (q.rule j lane (question q.ticks lane)))
