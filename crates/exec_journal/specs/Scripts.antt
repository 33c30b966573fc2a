-- Which calls a lane may make next. Lane 2w is the proxy lane of the berth w, lane 2w + 1 its tap
-- lane.
use Rattle.std.specs.Prelude.{ℕ, ◌*◌, ◌/◌, ◌%◌, ◌==◌, nat_lt, Bool, true, false, ◌&&◌, ◌||◌, not, Option, Some, None, unwrap_or, option_map, if◌then◌else◌, List, length, slice_get, ℤ, pos}
use Rattle.std.specs.List.{list_any}
use Rattle.std.specs.Ordering.{int_eq}
use Rattle.run_plan.specs.declared.plan.Branch.{Branch}
use Rattle.run_plan.specs.declared.plan.Kind.{Kind}
use Rattle.run_plan.specs.declared.plan.Maker.{Maker}
use Rattle.run_plan.specs.declared.plan.Plan.{Plan}
use Rattle.exec_journal.specs.Entry.{Entry}
use Rattle.exec_journal.specs.declared.call.Call.{Call}
use Rattle.exec_journal.specs.declared.call.Call.TheVariants as call
use Rattle.exec_journal.specs.declared.call.Found.{Found}
use Rattle.exec_journal.specs.declared.call.Found.TheVariants as found
use Rattle.exec_journal.specs.declared.call.Wanted.{Wanted}
use Rattle.exec_journal.specs.declared.call.Wanted.TheVariants as look
use Rattle.exec_journal.specs.declared.call.Written.{Written}
use Rattle.exec_journal.specs.declared.call.Written.TheVariants as write
use Rattle.exec_journal.specs.declared.reply.Reply.{Reply}
use Rattle.exec_journal.specs.declared.reply.Reply.TheVariants as reply
use Rattle.exec_journal.specs.Entries.{attempt_of, same_attempt, same_branch}
use Rattle.exec_journal.specs.Words.{last_work, stopped, has_halted}
use Rattle.run_plan.specs.Groups.{kind_of, is_remote, berths}

-- ---- what a lane owes

-- after an order the lane owes the call that answers it, after Granted to files a Committed: it may
-- not Ask. After Stop neither
abbrev pub may_ask_after : Call → Reply → Bool
may_ask_after _ (reply.Launch l a b t) = false
may_ask_after _ (reply.Send l n a b t) = false
may_ask_after _ (reply.Cancel l n) = false
may_ask_after _ (reply.Gather l n a b t e r) = false
may_ask_after _ (reply.Kill l y) = false
may_ask_after _ reply.Stop = false
may_ask_after (call.Claim a b t (found.Files f)) reply.Granted = false
may_ask_after _ _ = true

abbrev pub may_ask : Option Entry → Bool
may_ask None = true
may_ask (Some e) = may_ask_after e.call e.reply

-- the Committed of a branch that was granted files
abbrev pub is_commit_of : ℕ → Branch → Call → Reply → Bool
is_commit_of a b (call.Claim c d t (found.Files f)) reply.Granted = (c == a) && same_branch d b
is_commit_of a b _ _ = false

abbrev pub owes_commit : ℕ → Branch → Option Entry → Bool
owes_commit a b (Some e) = is_commit_of a b e.call e.reply
owes_commit a b None = false

abbrev pub is_owed_commit : Call → Option Entry → Bool
is_owed_commit (call.Committed a b how) last = owes_commit a b last
is_owed_commit _ last = false

abbrev pub is_whole_or_fault : Written → Bool
is_whole_or_fault write.Done = true
is_whole_or_fault write.FeedFault = true
is_whole_or_fault _ = false

-- ---- what a lane may have found

abbrev pub outputs_of : Plan → ℕ → ℕ
outputs_of p a = unwrap_or (option_map (λ x. length x.outputs) (slice_get p.actions a)) 0

abbrev pub is_exit : ℤ → Found → Bool
is_exit exit (found.Exit n) = int_eq n exit
is_exit exit _ = false

abbrev pub is_refusal : Found → Bool
is_refusal found.Refused = true
is_refusal _ = false

-- a file for each output, or the first that is missing, or, on a line with a room, its fault
abbrev pub is_gathered : ℕ → Bool → Found → Bool
is_gathered outputs remote (found.Files fs) = length fs == outputs
is_gathered outputs remote (found.Missing k) = nat_lt k outputs
is_gathered outputs remote found.RoomFault = not remote
is_gathered outputs remote _ = false

-- an exit code other than 0 goes before a refusal, and that before the files
abbrev pub may_find : ℕ → Bool → ℤ → Bool → Found → Bool
may_find outputs remote exit refused f =
    if not (int_eq exit (pos 0)) then is_exit exit f
    else if refused then is_refusal f
    else is_gathered outputs remote f

-- ---- Looks

abbrev pub is_made : Maker → ℕ → ℕ → Bool
is_made m a o = (m.action == a) && (m.output == o)

-- this output of the action c is an input of the action a
abbrev pub makes : Plan → ℕ → ℕ → ℕ → Bool
makes p a c o = unwrap_or
    (option_map (λ x. list_any (λ m. is_made m c o) x.makers) (slice_get p.actions a)) false

-- at the made inputs after a Send; at the answered outputs after a Gather of an answer that holds
-- files
abbrev pub may_look : Plan → Wanted → Reply → Bool
may_look p (look.Made c o) (reply.Send l n a b t) = makes p a c o
may_look p (look.Answered k m o) (reply.Gather l n a b t exit refused) =
    ((k == l) && int_eq m n) && (int_eq exit (pos 0) && (not refused && nat_lt o (outputs_of p a)))
may_look p _ _ = false

-- ---- scripts

-- what this order asks of the lane
abbrev pub is_owed : Plan → Kind → Call → Reply → Bool
is_owed p k (call.Launched l how) (reply.Launch m a b t) = m == l
is_owed p k (call.Wrote l n how) (reply.Send m o a b t) = (m == l) && int_eq o n
is_owed p k (call.Wrote l n how) (reply.Cancel m o) =
    (m == l) && (int_eq o n && is_whole_or_fault how)
is_owed p k (call.Claim a b t f) (reply.Gather l n c d u e r) =
    same_attempt (attempt_of a b t) (attempt_of c d u)
    && may_find (outputs_of p a) (is_remote k) e r f
is_owed p k (call.Killed l) (reply.Kill m y) = m == l
is_owed p k (call.Look w) r = may_look p w r
is_owed p k _ _ = false

abbrev pub is_owed_after : Plan → Kind → Call → Option Entry → Bool
is_owed_after p k c (Some e) = is_owed p k c e.reply || is_owed_commit c (Some e)
is_owed_after p k c None = false

-- a tap lane hears the line that it was given, until it has made its Ended
abbrev pub hears_after : ℕ → Call → Reply → Bool
hears_after l _ (reply.Line k) = k == l
hears_after l (call.Answer k x) _ = k == l
hears_after l _ _ = false

abbrev pub hears : Option Entry → ℕ → Bool
hears (Some e) l = hears_after l e.call e.reply
hears None l = false

abbrev pub may_take_after : Call → Reply → Bool
may_take_after _ (reply.Line l) = false
may_take_after _ reply.Stop = false
may_take_after (call.Answer l x) _ = false
may_take_after _ _ = true

abbrev pub may_take : Option Entry → Bool
may_take None = true
may_take (Some e) = may_take_after e.call e.reply

abbrev pub allowed : Plan → Kind → Bool → Option Entry → Call → Bool
allowed p k proxy last call.Ask = proxy && may_ask last
allowed p k proxy last call.Take = not proxy && may_take last
allowed p k proxy last (call.Answer l x) = not proxy && hears last l
allowed p k proxy last (call.Ended l how) = not proxy && hears last l
allowed p k proxy last call.Halt = true
allowed p k proxy last c = proxy && is_owed_after p k c last

-- a lane of so many berths, each with its kind of line; nothing after Stop; after a Halt nothing but
-- an owed Committed; else as its newest work says
abbrev pub seat_script : ℕ → (ℕ → Kind) → Plan → List Entry → ℕ → Call → Bool
seat_script seats kinds p j lane c =
    nat_lt lane (2 * seats) && (not (stopped j lane) &&
    (if has_halted j lane then is_owed_commit c (last_work j lane)
    else allowed p (kinds (lane / 2)) (lane % 2 == 0) (last_work j lane) c))

-- of the plan's own berths
abbrev pub script : Plan → List Entry → ℕ → Call → Bool
script p j lane c = seat_script (berths p) (kind_of p) p j lane c
