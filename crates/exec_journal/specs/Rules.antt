-- The reply to each call, as a function of the plan and of the journal so far.
use Rattle.std.specs.Prelude.{ℕ, ◌+◌, ◌/◌, ◌==◌, nat_lt, bytes_eq, Bool, true, false, ◌&&◌, ◌||◌, not, Option, Some, None, unwrap_or, option_map, option_and_then, if◌then◌else◌, List, [], ◌∷◌, length, filter, slice_get, ℤ, pos, int_le}
use Rattle.std.specs.List.{list_any, find}
use Rattle.std.specs.Ordering.{int_eq}
use Rattle.run_plan.specs.declared.plan.Branch.{Branch}
use Rattle.run_plan.specs.declared.plan.Kind.{Kind}
use Rattle.run_plan.specs.declared.plan.Plan.{Plan}
use Rattle.exec_journal.specs.declared.attempt.Attempt.{Attempt}
use Rattle.exec_journal.specs.Entry.{Entry}
use Rattle.exec_journal.specs.declared.call.Answer.{Answer}
use Rattle.exec_journal.specs.declared.call.NamedFile.{NamedFile}
use Rattle.exec_journal.specs.declared.call.Call.{Call}
use Rattle.exec_journal.specs.declared.call.Call.TheVariants as call
use Rattle.exec_journal.specs.declared.call.Found.{Found}
use Rattle.exec_journal.specs.declared.call.Found.TheVariants as found
use Rattle.exec_journal.specs.declared.call.Wanted.{Wanted}
use Rattle.exec_journal.specs.declared.call.Wanted.TheVariants as look
use Rattle.exec_journal.specs.declared.reply.Reply.{Reply}
use Rattle.exec_journal.specs.declared.reply.Reply.TheVariants as reply
use Rattle.exec_journal.specs.declared.reply.BreachWhy.TheVariants as breach
use Rattle.exec_journal.specs.declared.reply.StrayWhy.TheVariants as stray
use Rattle.exec_journal.specs.declared.reply.Why.TheVariants as why
use Rattle.exec_journal.specs.History.{ever, first}
use Rattle.list_lemmas.specs.Options.{or_else}
use Rattle.exec_journal.specs.Entries.{Request, attempt_of, same_branch, is_for, gather_in, gather_of_entry}
use Rattle.exec_journal.specs.Words.{last_work, halted, line_count, started, failed, has_ended, was_killed, was_taken, last_line, sends, pending, is_pending, wrote, says_done, has_cancel, has_spoken, has_greeted, line_cause, why_of, broke, live, granted, grant_of, match_of}
use Rattle.exec_journal.specs.Settled.{all_settled, wanted, bound, earliest, free_places, some_free}
use Rattle.run_plan.specs.Groups.{berth_group, kind_of, first_berth, berths_of, has_cancellation, is_single, is_remote}

-- a reply, where the test holds
abbrev pub when : {X : Type 0} → Bool → X → Option X
when true x = Some x
when false x = None

abbrev pub head : {X : Type 0} → List X → Option X
head [] = None
head (x ∷ xs) = Some x

-- the last of a list: the earliest, where the newest stands first
abbrev pub oldest : {X : Type 0} → List X → Option X
oldest [] = None
oldest (x ∷ xs) = or_else (oldest xs) (Some x)

-- ---- Ask: on the proxy lane of the berth w of group g. The berth's last line, where there is one, is the line here

-- all is over: all actions are settled, or some lane has halted
abbrev pub is_over : Plan → List Entry → Bool
is_over p j = all_settled p j || halted j

-- the line here runs: it was launched with Done, and isn't killed
abbrev pub runs : List Entry → ℕ → Bool
runs j l = started j l && not (was_killed j l)

-- then the line here is killed, or the lane stops
abbrev pub leave : List Entry → Option ℕ → Reply
leave j (Some l) = if runs j l then reply.Kill l why.Quit else reply.Stop
leave j None = reply.Stop

-- quit: where all is over
abbrev pub quits : Plan → List Entry → Option ℕ → Option Reply
quits p j last = when (is_over p j) (leave j last)

-- kill a broken line: the reply says why it broke first
abbrev pub kills_broken : List Entry → Option ℕ → Option Reply
kills_broken j None = None
kills_broken j (Some l) =
    if runs j l then option_map (λ y. reply.Kill l (why_of y)) (line_cause j l) else None

abbrev pub is_unwanted : Plan → List Entry → Request → Bool
is_unwanted p j r = not (wanted p j r.attempt.action r.attempt.branch)

-- a pending request of the line isn't wanted
abbrev pub has_unwanted : Plan → List Entry → ℕ → Bool
has_unwanted p j l = list_any (is_unwanted p j) (pending j l)

-- kill an unwanted request's line: a Single line without cancellation, with a pending request that
-- isn't wanted
abbrev pub kills_unwanted_of : Plan → List Entry → Kind → ℕ → Option ℕ → Option Reply
kills_unwanted_of p j k g None = None
kills_unwanted_of p j k g (Some l) =
    when (runs j l && ((is_single k && not (has_cancellation p g)) && has_unwanted p j l))
    (reply.Kill l why.Unwanted)

abbrev pub kills_unwanted : Plan → List Entry → ℕ → ℕ → Option ℕ → Option Reply
kills_unwanted p j w g last = kills_unwanted_of p j (kind_of p w) g last

-- a Gather of the attempt was ordered
unfoldable pub gathered : List Entry → Attempt → Bool
gathered j t = ever (λ _ e. is_for t (gather_in e.reply)) j

-- a match that waits for its Gather: its Wrote says Done, it has no Gather yet, and its action has
-- no grant
abbrev pub waits : List Entry → Attempt → Bool
waits j t = says_done (wrote j t) && (not (gathered j t) && not (granted j t.action))

abbrev pub gather_for : List Entry → Call → Reply → Option Reply
gather_for j (call.Answer l x) (reply.Matched a b t) =
    when (waits j (attempt_of a b t))
    (reply.Gather l x.number a b t x.exit (nat_lt 0 (length x.refusal)))
gather_for j _ _ = None

-- gather: the match of the berth's lines that waits and whose Answer stands first
abbrev pub gathers_next : List Entry → ℕ → Option Reply
gathers_next j w = first (λ _ e. if e.lane / 2 == w then gather_for j e.call e.reply else None) j

abbrev pub cancel_for : Request → Reply
cancel_for r = reply.Cancel r.line r.number

-- the line's group has cancellation, or it is an executor's line and has greeted
abbrev pub may_cancel_of : Plan → List Entry → Kind → ℕ → ℕ → Bool
may_cancel_of p j k g l = has_cancellation p g || (is_remote k && has_greeted j l)

abbrev pub may_cancel : Plan → List Entry → ℕ → ℕ → ℕ → Bool
may_cancel p j w g l = may_cancel_of p j (kind_of p w) g l

-- cancel: a live line that can be asked to; the earliest sent of its pending requests that aren't
-- wanted and have no Cancel
abbrev pub cancels_next_of : Plan → List Entry → Kind → ℕ → Option ℕ → Option Reply
cancels_next_of p j k g None = None
cancels_next_of p j k g (Some l) =
    if live j l && may_cancel_of p j k g l
    then option_map cancel_for
    (oldest (filter (λ r. is_unwanted p j r && not (has_cancel j r)) (pending j l)))
    else None

abbrev pub cancels_next : Plan → List Entry → ℕ → ℕ → Option ℕ → Option Reply
cancels_next p j w g last = cancels_next_of p j (kind_of p w) g last

-- the bound branch, or else, where there is a free place, the one that is next in the group
abbrev pub next_of : Plan → List Entry → Kind → Option Attempt → ℕ → Option Attempt
next_of p j k next l = or_else (bound p j l)
    (if nat_lt 0 (free_places p j k l) then next else None)

abbrev pub next_for : Plan → List Entry → ℕ → ℕ → ℕ → Option Attempt
next_for p j w g l = next_of p j (kind_of p w) (earliest p j g) l

-- 0 on a Single line, else one more than the number of earlier Sends on that line
abbrev pub number_of : List Entry → Kind → ℕ → ℤ
number_of j k l = if is_single k then pos 0 else pos (length (sends j l) + 1)

abbrev pub number_on : Plan → List Entry → ℕ → ℕ → ℤ
number_on p j w l = number_of j (kind_of p w) l

abbrev pub send_order_of : List Entry → Kind → ℕ → Attempt → Reply
send_order_of j k l t = reply.Send l (number_of j k l) t.action t.branch t.number

abbrev pub send_order : Plan → List Entry → ℕ → ℕ → Attempt → Reply
send_order p j w l t = send_order_of j (kind_of p w) l t

-- send: to a live line
abbrev pub sends_next_of : Plan → List Entry → Kind → Option Attempt → Option ℕ → Option Reply
sends_next_of p j k next None = None
sends_next_of p j k next (Some l) =
    if live j l then option_map (send_order_of j k l) (next_of p j k next l) else None

abbrev pub sends_next : Plan → List Entry → ℕ → ℕ → Option ℕ → Option Reply
sends_next p j w g last = sends_next_of p j (kind_of p w) (earliest p j g) last

-- the berth has no line, or its last failed to launch, or has Ended and was killed
abbrev pub is_vacant : List Entry → Option ℕ → Bool
is_vacant j None = true
is_vacant j (Some l) = failed j l || (has_ended j l && was_killed j l)

-- launch: a new line for the group's earliest, where no live line of the group has a free place
abbrev pub launch_order : List Entry → Attempt → Reply
launch_order j t = reply.Launch (line_count j) t.action t.branch t.number

abbrev pub launches_of : Plan → List Entry → ℕ → ℕ → Option Attempt → Option ℕ → Option Reply
launches_of p j w g next last =
    if is_vacant j last && not (some_free p j (kind_of p w) (first_berth p g) (berths_of p g))
    then option_map (launch_order j) next
    else None

abbrev pub launches : Plan → List Entry → ℕ → ℕ → Option ℕ → Option Reply
launches p j w g last = launches_of p j w g (earliest p j g) last

-- the first of these rules that fits, else Idle: of each scheduling discipline, which says what is
-- next in the line's group, and what more is ordered where nothing is sent
abbrev pub ask_of : Plan → List Entry → ℕ → Kind → ℕ → Option ℕ → Option Attempt → Option Reply → Reply
ask_of p j w k g last next more =
    unwrap_or
    (or_else (quits p j last)
    (or_else (kills_broken j last)
    (or_else (kills_unwanted_of p j k g last)
    (or_else (gathers_next j w)
    (or_else (cancels_next_of p j k g last)
    (or_else (sends_next_of p j k next last)
    more))))))
    reply.Idle

abbrev pub ask : Plan → List Entry → ℕ → ℕ → Option ℕ → Reply
ask p j w g last = ask_of p j w (kind_of p w) g last (earliest p j g) (launches p j w g last)

-- ---- Take, Answer, Claim, Look

-- the line here, where it was launched with Done and isn't taken; else Stop where all is over; else
-- Idle
abbrev pub take_reply : Plan → List Entry → Option ℕ → Reply
take_reply p j (Some l) = if started j l && not (was_taken j l) then reply.Line l
    else (if is_over p j then reply.Stop else reply.Idle)
take_reply p j None = if is_over p j then reply.Stop else reply.Idle

abbrev pub consume : List Entry → Answer → Request → Reply
consume j x r =
    if x.cancelled && not (has_cancel j r) then reply.Breach breach.NotCancelled
    else if granted j r.attempt.action
    then reply.Late r.attempt.action r.attempt.branch r.attempt.number
    else reply.Matched r.attempt.action r.attempt.branch r.attempt.number

-- on a Single line: its pending request
abbrev pub answer_single : List Entry → Answer → Option Request → Reply
answer_single j x None = reply.Breach breach.Unasked
answer_single j x (Some r) = consume j x r

-- on every other line: the request with the answer's number
abbrev pub answer_multi : List Entry → Answer → Option Request → Reply
answer_multi j x None = reply.Stray stray.Never
answer_multi j x (Some r) = if is_pending j r then consume j x r else reply.Stray stray.Closed

-- an executor's first answer, with the number 0 and the version 2 or more
abbrev pub is_greeting_of : List Entry → Kind → ℕ → Answer → Bool
is_greeting_of j k l x = is_remote k
    && (int_eq x.number (pos 0) && (int_le (pos 2) x.version && not (has_spoken j l)))

abbrev pub is_greeting : Plan → List Entry → ℕ → ℕ → Answer → Bool
is_greeting p j w l x = is_greeting_of j (kind_of p w) l x

abbrev pub answer_reply_of : List Entry → Kind → ℕ → Answer → Reply
answer_reply_of j k l x =
    if broke j l then reply.Breach breach.Broken
    else if is_greeting_of j k l x then reply.Greeted
    else if is_single k then
    (if int_eq x.number (pos 0) then answer_single j x (head (pending j l))
    else reply.Breach breach.WrongNumber)
    else answer_multi j x (find (λ r. int_eq r.number x.number) (sends j l))

abbrev pub answer_reply : Plan → List Entry → ℕ → ℕ → Answer → Reply
answer_reply p j w l x = answer_reply_of j (kind_of p w) l x

abbrev pub is_other : Branch → Option (Attempt × Found) → Bool
is_other b (Some g) = not (same_branch g.0.branch b)
is_other b None = false

abbrev pub by_found : Plan → ℕ → Found → Reply
by_found p t (found.Files b) = reply.Granted
by_found p t (found.Exit n) = reply.Granted
by_found p t _ = if nat_lt t p.limit then reply.AgainLater else reply.Dropped

-- Lost where the other branch was granted; else Granted for files and an exit code; else AgainLater
-- below the limit; else Dropped
abbrev pub claim_reply : Plan → List Entry → ℕ → Branch → ℕ → Found → Reply
claim_reply p j a b t f = if is_other b (grant_of j a) then reply.Lost else by_found p t f

abbrev pub file_reply : Option (List ℕ) → Reply
file_reply (Some content) = reply.File content
file_reply None = reply.NoFile

-- the files that the action was granted, in the order of its outputs
abbrev pub files_of_grant : Option (Attempt × Found) → List (List ℕ)
files_of_grant (Some (t, found.Files fs)) = fs
files_of_grant _ = []

abbrev pub path_of : Plan → ℕ → ℕ → Option (List ℕ)
path_of p a o = option_and_then (λ x. slice_get x.outputs o) (slice_get p.actions a)

-- the content of the last file with this path
abbrev pub last_file : List NamedFile → List ℕ → Option (List ℕ)
last_file [] path = None
last_file (f ∷ fs) path =
    or_else (last_file fs path) (if bytes_eq f.path path then Some f.content else None)

-- what the answer of this attempt holds for an output of its action
abbrev pub answered_file : Plan → List Entry → Option Attempt → ℕ → Option (List ℕ)
answered_file p j (Some t) o =
    option_and_then (λ x. option_and_then (λ path. last_file x.files path) (path_of p t.action o))
    (match_of j t)
answered_file p j None o = None

-- an output that an action made, or one that the answer has for which the lane is to gather
abbrev pub look_reply : Plan → List Entry → ℕ → Wanted → Reply
look_reply p j lane (look.Made a o) = file_reply (slice_get (files_of_grant (grant_of j a)) o)
look_reply p j lane (look.Answered l n o) =
    file_reply (answered_file p j (gather_of_entry (last_work j lane)) o)

-- the reply to each call
abbrev pub rule : Plan → List Entry → ℕ → Call → Reply
rule p j lane call.Ask =
    ask p j (lane / 2) (unwrap_or (berth_group p (lane / 2)) 0) (last_line j (lane / 2))
rule p j lane (call.Look w) = look_reply p j lane w
rule p j lane (call.Claim a b t f) = claim_reply p j a b t f
rule p j lane call.Take = take_reply p j (last_line j (lane / 2))
rule p j lane (call.Answer l x) = answer_reply p j (lane / 2) l x
rule p j lane _ = reply.Noted
