-- What a report of a tap lane or of a write makes of the tables.
use Rattle.std.specs.Prelude.{◌≡◌, ℕ, ◌^◌, ◌<◌, ◌==◌, nat_lt, Bool, true, false, not, ◌&&◌, Option, Some, None, is_some, option_and_then, if◌then◌else◌, List, [], ◌∷◌, length, slice_get, ℤ, pos, int_le}
use Rattle.std.specs.List.{list_any}
use Rattle.std.specs.Ordering.{int_eq}
use Rattle.run_plan.specs.declared.plan.Branch.{Branch}
use Rattle.run_plan.specs.declared.plan.Branch.TheVariants.{Local, Remote}
use Rattle.run_plan.specs.declared.plan.Plan.{Plan}
use Rattle.exec_journal.specs.declared.attempt.Attempt.{Attempt}
use Rattle.exec_journal.specs.declared.ends.Cause.TheVariants as cause
use Rattle.exec_journal.specs.declared.call.Answer.{Answer}
use Rattle.exec_journal.specs.declared.call.HowEnded.{HowEnded}
use Rattle.exec_journal.specs.declared.call.Written.{Written}
use Rattle.exec_journal.specs.declared.call.Written.TheVariants as write
use Rattle.exec_journal.specs.declared.reply.Reply.{Reply}
use Rattle.exec_journal.specs.declared.reply.Reply.TheVariants as reply
use Rattle.exec_journal.specs.declared.reply.BreachWhy.TheVariants as breach
use Rattle.exec_journal.specs.declared.reply.StrayWhy.{StrayWhy}
use Rattle.exec_journal.specs.declared.reply.StrayWhy.TheVariants as stray
use Rattle.exec_journal.specs.Entries.{attempt_of}
use Rattle.run_plan.specs.Groups.{is_single, is_remote}
use Rattle.exec_journal.specs.Words as words
use Rattle.list_lemmas.specs.Places.{update}
use Rattle.race_core.specs.declared.Won.{Won}
use Rattle.race_core.specs.Rows.{winner_of}
use Rattle.ready_order.specs.declared.ActionState.{ActionState}
use Rattle.request_table.specs.declared.Matching.{Matching}
use Rattle.request_table.specs.declared.Matching.TheVariants as found
use Rattle.request_table.specs.declared.RequestRow.{RequestRow}
use Rattle.request_table.specs.Rows as asks
use Rattle.cancel_rules.specs.Marks as marks
use Rattle.retry_rules.specs.Counts as counts
use Rattle.worker_pool.specs.Rows as rows
use Rattle.core_tables.specs.declared.lanes.Owed.{Owed}
use Rattle.core_tables.specs.declared.lanes.Owed.TheVariants as order
use Rattle.core_tables.specs.declared.greetings.Greeting.{Greeting}
use Rattle.core_tables.specs.declared.last.LastLine.{LastLine}
use Rattle.core_tables.specs.declared.matches.Match.{Match}
use Rattle.core_tables.specs.declared.berth_group.BerthGroup.{BerthGroup}
use Rattle.core_state.specs.declared.state.State.{State}
use Rattle.core_state.specs.Choices.{row_at, attempt_on}
use Rattle.core_tables.specs.Last.{set_cause, set_fed}
use Rattle.core_state.specs.Machine.{CanEnd, EndFits, counts_after, states_after, with_end, order_at, end_of_some}
use Rattle.core_tables.specs.Matches.{matches_of, with_match, with_spent}

-- ---- which attempt

-- the branch of the action that this group runs
abbrev pub branch_of_group : Option ℕ → ℕ → Branch
branch_of_group (Some k) g = if k == g then Local else Remote
branch_of_group None g = Remote

abbrev pub branch_in : Plan → ℕ → ℕ → Branch
branch_in p a g = branch_of_group (option_and_then (λ x. x.local) (slice_get p.actions a)) g

abbrev pub attempt_in : Plan → BerthGroup → ℕ → ℕ → Attempt
attempt_in p seat a t = attempt_of a (branch_in p a seat.group) t

-- ---- Answer

abbrev pub breached : State → ℕ → ℕ → State
breached s w l = record s {
  pool = rows.change s.pool l rows.set_broken;
  last = update (set_cause cause.Breach) s.last w;
}

abbrev pub unmatched_reply : BerthGroup → StrayWhy → Reply
unmatched_reply seat y = if is_single seat.kind then reply.Breach breach.Unasked else reply.Stray y

abbrev pub unmatched_with : State → ℕ → BerthGroup → ℕ → State
unmatched_with s w seat l = if is_single seat.kind then breached s w l else s

abbrev pub is_won : State → Attempt → Bool
is_won s t = is_some (winner_of s.race t.action)

abbrev pub consumed_reply : State → Attempt → Reply
consumed_reply s t = if is_won s t then reply.Late t.action t.branch t.number else reply.Matched
    t.action t.branch t.number

abbrev pub new_match : ℕ → Answer → Attempt → Match
new_match l x t = record {
  line = l;
  number = x.number;
  attempt = t;
  exit = x.exit;
  refused = nat_lt 0 (length x.refusal);
  spent = false;
}

abbrev pub consumed_with : State → ℕ → ℕ → Answer → Attempt → State
consumed_with s w l x t = record s {
  pool = rows.change s.pool l rows.one_fewer;
  cancels = marks.with_gone s.cancels l x.number;
  matches = if is_won s t then s.matches else with_match s.matches w (new_match l x t);
}

-- the answer of a request whose action has a grant, and of one whose action has none
abbrev pub heard_late : State → ℕ → ℤ → State
heard_late s l n = record s {
  pool = rows.change s.pool l rows.one_fewer;
  requests = asks.with_answer s.requests l n;
  cancels = marks.with_gone s.cancels l n;
}

abbrev pub heard_match : State → ℕ → ℕ → Answer → Attempt → State
heard_match s w l x t = record s {
  pool = rows.change s.pool l rows.one_fewer;
  requests = asks.with_answer s.requests l x.number;
  cancels = marks.with_gone s.cancels l x.number;
  matches =
      with_match s.matches w (new_match l x t);
}

abbrev pub heard : State → ℕ → ℤ → State
heard s l n = record s { requests = asks.with_answer s.requests l n }

abbrev pub reopened : State → ℕ → ℤ → State
reopened s l n = record s { requests = asks.with_reopened s.requests l n }

abbrev pub matching_reply : State → BerthGroup → Answer → Matching → Reply
matching_reply s seat x (found.Pending a t) = if x.cancelled then reply.Breach breach.NotCancelled
    else consumed_reply s (attempt_in s.plan seat a t)
matching_reply s seat x (found.Cancelled a t) = consumed_reply s (attempt_in s.plan seat a t)
matching_reply s seat x found.Closed = unmatched_reply seat stray.Closed
matching_reply s seat x found.Never = unmatched_reply seat stray.Never

abbrev pub matching_with : State → ℕ → BerthGroup → ℕ → Answer → Matching → State
matching_with s w seat l x (found.Pending a t) = if x.cancelled then breached
    (reopened (heard s l x.number) l x.number) w l else consumed_with (heard s l x.number) w l x
    (attempt_in s.plan seat a t)
matching_with s w seat l x (found.Cancelled a t) =
    consumed_with (heard s l x.number) w l x (attempt_in s.plan seat a t)
matching_with s w seat l x found.Closed = unmatched_with (heard s l x.number) w seat l
matching_with s w seat l x found.Never = unmatched_with (heard s l x.number) w seat l

abbrev pub is_wrong : BerthGroup → Answer → Bool
is_wrong seat x = is_single seat.kind && not (int_eq x.number (pos 0))

-- of a line that isn't broken, an answer that is no greeting
abbrev pub told_reply : State → BerthGroup → ℕ → Answer → Reply
told_reply s seat l x =
    if is_wrong seat x then reply.Breach breach.WrongNumber
    else matching_reply s seat x (asks.matching_of s.requests l x.number)

abbrev pub told_with : State → ℕ → BerthGroup → ℕ → Answer → State
told_with s w seat l x =
    if is_wrong seat x then breached s w l
    else matching_with s w seat l x (asks.matching_of s.requests l x.number)

abbrev pub spoken_on : Option Greeting → Bool
spoken_on (Some y) = y.spoken
spoken_on None = false

-- an executor's first answer, with the number 0 and the version 2 or more
abbrev pub is_greeting_by : BerthGroup → Option Greeting → Answer → Bool
is_greeting_by seat said x = is_remote seat.kind &&
    (int_eq x.number (pos 0) && (int_le (pos 2) x.version && not (spoken_on said)))

abbrev pub answer_reply_by : State → ℕ → BerthGroup → ℕ → Answer → Reply
answer_reply_by s w seat l x =
    if (row_at s l).broken then reply.Breach breach.Broken
    else if is_greeting_by seat (slice_get s.greetings w) x then reply.Greeted
    else told_reply s seat l x

abbrev pub answered_with : State → ℕ → BerthGroup → ℕ → Answer → State
answered_with s w seat l x =
    if (row_at s l).broken then breached s w l
    else if is_greeting_by seat (slice_get s.greetings w) x then s
    else told_with s w seat l x

pub record CanHear (s : State) (w l : ℕ) (n : ℤ) (t : Attempt) : Type 0 where
  pub natural : ℕ
  pub is : n ≡ pos natural
  pub small : natural < 2 ^ 31
  pub line : l < length s.pool.lines
  pub pending : 0 < rows.pending_of s.pool l
  pub cancels : l < length s.cancels.lines
  pub race : t.action < length s.race
  pub matches : w < length s.matches
  pub room : length (matches_of s.matches w) < 8

abbrev pub CanHearBy : State → ℕ → BerthGroup → ℕ → ℤ → Matching → Type 0
CanHearBy s w seat l n (found.Pending a t) = CanHear s w l n (attempt_in s.plan seat a t)
CanHearBy s w seat l n (found.Cancelled a t) = CanHear s w l n (attempt_in s.plan seat a t)
CanHearBy s w seat l n _ = Unit {0}

pub record CanAnswer (s : State) (w : ℕ) (seat : BerthGroup) (l : ℕ) (n : ℤ) : Type 0 where
  pub line : l < length s.pool.lines
  pub last : w < length s.last
  pub greetings : w < length s.greetings
  pub requests : l < length s.requests.lines
  pub found : CanHearBy s w seat l n (asks.matching_of s.requests l n)

-- ---- Wrote

abbrev pub sent_in : Owed → Option Attempt
sent_in (order.Send l n t) = Some t
sent_in _ = None

abbrev pub broken_by_feed : State → ℕ → ℕ → State
broken_by_feed s w l = record s {
  pool = rows.change s.pool l rows.set_broken;
  last = update (set_cause cause.Feed) s.last w;
}

abbrev pub ended_if : Bool → State → Attempt → State
ended_if over s t = if over then with_end s t else s

abbrev pub fed_attempt : State → ℕ → Attempt → State
fed_attempt s w t = record s {
  last = update (set_fed t) s.last w;
  matches = with_spent s.matches t;
}

abbrev pub fed_by : State → ℕ → ℕ → Option Attempt → State
fed_by s w l (Some t) = ended_if (row_at (broken_by_feed s w l) l).ended
    (fed_attempt (broken_by_feed s w l) w t) t
fed_by s w l None = broken_by_feed s w l

abbrev pub fed_with : State → ℕ → ℕ → ℕ → State
fed_with s lane w l = fed_by s w l (sent_in (order_at s lane))

abbrev pub is_open_for : Attempt → RequestRow → Bool
is_open_for t x = x.pending && ((x.action == t.action) && (x.attempt == t.number))

abbrev pub is_pending_at : State → ℕ → Attempt → Bool
is_pending_at s l t = list_any (is_open_for t) (asks.places_of s.requests l)

abbrev pub dropped_from : State → ℕ → ℤ → State
dropped_from s l n = record s {
  requests = asks.with_unwritten s.requests l n;
  cancels = marks.with_gone s.cancels l n;
  pool = rows.change s.pool l rows.one_fewer;
}

abbrev pub spent_for : State → Attempt → State
spent_for s t = record s { matches = with_spent s.matches t }

abbrev pub lost_from : State → ℕ → ℕ → ℤ → Attempt → State
lost_from s w l n t = if is_pending_at s l t then dropped_from s l n else breached s w l

abbrev pub unwritten_with : State → ℕ → ℕ → ℤ → Attempt → State
unwritten_with s w l n t = with_end (spent_for (lost_from s w l n t) t) t

abbrev pub unwritten_by : State → ℕ → ℕ → ℤ → Option Attempt → State
unwritten_by s w l n (Some t) = unwritten_with s w l n t
unwritten_by s w l n None = s

abbrev pub wrote_with : State → ℕ → ℕ → ℕ → ℤ → Written → State
wrote_with s lane w l n write.Done = s
wrote_with s lane w l n write.FeedFault = fed_with s lane w l
wrote_with s lane w l n _ = unwritten_by s w l n (sent_in (order_at s lane))

abbrev pub CanEndSome : State → Option Attempt → Type 0
CanEndSome s (Some t) = CanEnd s t
CanEndSome s None = Unit {0}

pub record CanWrite (s : State) (lane w l : ℕ) (t : Option Attempt) : Type 0 where
  pub lane_known : lane < length s.lanes
  pub line : l < length s.pool.lines
  pub last : w < length s.last
  pub requests : l < length s.requests.lines
  pub cancels : l < length s.cancels.lines
  pub pending : (u : Attempt) → t ≡ Some u → is_pending_at s l u ≡ true
      → 0 < rows.pending_of s.pool l
  pub ends : CanEndSome s t

-- ---- Ended

abbrev pub place_counts : Plan → List Won → counts.Facts → BerthGroup → RequestRow → counts.Facts
place_counts p race f seat x = if x.pending then counts_after race f
    (attempt_in p seat x.action x.attempt) else f

abbrev pub place_states : Plan → List Won → counts.Facts → List ActionState → BerthGroup → RequestRow
    → List ActionState
place_states p race f states seat x = if x.pending then states_after p race f states
    (attempt_in p seat x.action x.attempt) else states

abbrev pub places_counts : Plan → List Won → counts.Facts → BerthGroup → List RequestRow → counts.Facts
places_counts p race f seat [] = f
places_counts p race f seat (x ∷ xs) = places_counts p race (place_counts p race f seat x) seat xs

abbrev pub places_states : Plan → List Won → counts.Facts → List ActionState → BerthGroup
    → List RequestRow → List ActionState
places_states p race f states seat [] = states
places_states p race f states seat (x ∷ xs) = places_states p race (place_counts p race f seat x)
    (place_states p race f states seat x) seat xs

abbrev pub PlaceFits : Plan → List Won → counts.Facts → List ActionState → BerthGroup → RequestRow
    → Type 0
PlaceFits p race f states seat x = x.pending ≡ true
    → EndFits race f states (attempt_in p seat x.action x.attempt)

abbrev pub CanEndPlaces : Plan → List Won → counts.Facts → List ActionState → BerthGroup → List RequestRow
    → Type 0
CanEndPlaces p race f states seat [] = Unit {0}
CanEndPlaces p race f states seat (x ∷ xs) = PlaceFits p race f states seat x
    × CanEndPlaces p race f states seat xs

abbrev pub end_all : State → BerthGroup → List RequestRow → State
end_all s seat xs = record s {
  attempts = places_counts s.plan s.race s.attempts seat xs;
  ready = places_states s.plan s.race s.attempts s.ready seat xs;
}

abbrev pub fed_on : Option LastLine → Option Attempt
fed_on (Some x) = x.fed
fed_on None = None

abbrev pub bound_on : State → ℕ → ℕ → Option Attempt
bound_on s w l = if (row_at s l).bound then attempt_on (slice_get s.last w) else None

abbrev pub closed : State → ℕ → ℕ → HowEnded → State
closed s w l how = record s {
  pool = rows.change s.pool l rows.set_ended;
  requests = asks.with_ended s.requests l;
  cancels = marks.with_ended s.cancels l;
  last = update (set_cause (words.end_cause how)) s.last w;
}

abbrev pub ended_with : State → ℕ → BerthGroup → ℕ → HowEnded → State
ended_with s w seat l how =
    closed (end_of_some (end_of_some (end_all s seat (asks.places_of s.requests l))
    (fed_on (slice_get s.last w))) (bound_on s w l)) w l how

pub record CanEndAll (s : State) (w : ℕ) (seat : BerthGroup) (l : ℕ) : Type 0 where
  pub line : l < length s.pool.lines
  pub last : w < length s.last
  pub requests : l < length s.requests.lines
  pub cancels : l < length s.cancels.lines
  pub places : CanEndPlaces s.plan s.race s.attempts s.ready seat (asks.places_of s.requests l)
  pub fed : CanEndSome (end_all s seat (asks.places_of s.requests l)) (fed_on (slice_get s.last w))
  pub bound : CanEndSome (end_of_some (end_all s seat (asks.places_of s.requests l))
      (fed_on (slice_get s.last w))) (bound_on s w l)
