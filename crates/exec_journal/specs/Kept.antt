-- What holds where a lane is given an order.
use Rattle.std.specs.Prelude.{◌≡◌, ℕ, ◌/◌, ◌==◌, nat_le, Bool, true, false, ◌&&◌, not, Option, None, is_none, unwrap_or, option_map, if◌then◌else◌, List, [], ◌∷◌, length, filter, slice_get, ℤ}
use Rattle.std.specs.List.{list_any}
use Rattle.std.specs.Ordering.{int_eq}
use Rattle.run_plan.specs.declared.plan.Branch.{Branch}
use Rattle.run_plan.specs.declared.plan.Plan.{Plan}
use Rattle.exec_journal.specs.Entry.{Entry}
use Rattle.exec_journal.specs.declared.reply.Reply.{Reply}
use Rattle.exec_journal.specs.declared.reply.Reply.TheVariants as reply
use Rattle.exec_journal.specs.declared.reply.Why.{Why}
use Rattle.exec_journal.specs.declared.reply.Why.TheVariants as why
use Rattle.exec_journal.specs.History.{each, AtEach}
use Rattle.exec_journal.specs.Entries.{Request, send_in}
use Rattle.exec_journal.specs.Words.{last_line, lines_of, is_pending, pending, has_cancel, line_cause, why_of, live}
use Rattle.exec_journal.specs.Settled.{ready, wanted, bound, some_free}
use Rattle.exec_journal.specs.Seated.{line_group, line_kind, may_be_asked}
use Rattle.run_plan.specs.Groups.{berth_group, berths_of, first_berth, kind_of, has_cancellation, is_single, capacity}
use Rattle.exec_journal.specs.Rules.{gathers_next, has_unwanted, is_over, is_unwanted, is_vacant}
use Rattle.exec_journal.specs.Paired.{is_new_number}

abbrev pub group_at : Plan → ℕ → ℕ
group_at p w = unwrap_or (berth_group p w) 0

abbrev pub sent_by : ℕ → Entry → Option Request
sent_by w e = if e.lane / 2 == w then send_in e.reply else None

-- the requests of all lines of a berth
abbrev pub requests_of : List Entry → ℕ → List Request
requests_of j w = each (λ _ e. sent_by w e) j

-- no request of the berth is pending: so nobody uses its room
abbrev pub is_room_free : List Entry → ℕ → Bool
is_room_free j w = not (list_any (is_pending j) (requests_of j w))

-- no match of the berth waits for its Gather: so no output in its room is still to be read
abbrev pub is_gathered_out : List Entry → ℕ → Bool
is_gathered_out j w = is_none (gathers_next j w)

-- a Launch: the berth is vacant, and its room is free
abbrev pub launch_kept : List Entry → ℕ → Bool
launch_kept j w =
    is_vacant j (last_line j w) && (is_room_free j w && is_gathered_out j w)

abbrev pub is_ready : Plan → List Entry → ℕ → Bool
is_ready p j a = unwrap_or (option_map (ready p j) (slice_get p.actions a)) false

-- no other request of the action is pending on the line
abbrev pub is_alone : List Entry → ℕ → ℕ → Bool
is_alone j l a = not (list_any (λ r. r.attempt.action == a) (pending j l))

-- a Send: its line is live, its action ready and its branch wanted; off Single lines its number is
-- new there and the action has no other request there; on a Single line the berth's room is free.
-- With it the line has room for its pending requests
abbrev pub send_kept : Plan → List Entry → Entry → ℕ → ℤ → ℕ → Branch → Bool
send_kept p j e l n a b =
    (live j l && (is_ready p j a && wanted p j a b))
    && ((if is_single (line_kind p j l) then is_room_free j (e.lane / 2)
    else is_new_number j l n && is_alone j l a)
    && (is_gathered_out j (e.lane / 2)
    && nat_le (length (pending (e ∷ j) l)) (capacity (line_kind p j l))))

-- the cause of a line's break is the Kill's reason; a break has no other cause than these three
abbrev pub is_cause_of_kill : Why → Why → Bool
is_cause_of_kill why.Ended why.Ended = true
is_cause_of_kill why.Breach why.Breach = true
is_cause_of_kill why.Feed why.Feed = true
is_cause_of_kill _ _ = false

abbrev pub is_none_pending : List Entry → ℕ → Bool
is_none_pending j l = length (pending j l) == 0

-- an idle line that is given up: nothing of it is pending or bound
abbrev pub evict_kept : Plan → List Entry → ℕ → Bool
evict_kept p j l = live j l && (is_none_pending j l && is_none (bound p j l))

-- a Kill names the line's first break; or, for Unwanted, a Single line without cancellation has a
-- pending request that isn't wanted; or, for Quit, all is over;
-- or, for Evicted, nothing of the line is pending or bound
abbrev pub kill_kept : Plan → List Entry → ℕ → Why → Bool
kill_kept p j l why.Unwanted =
    is_single (line_kind p j l) && (not (has_cancellation p (line_group p j l)) && has_unwanted p j l)
kill_kept p j l why.Quit = is_over p j
kill_kept p j l why.Evicted = evict_kept p j l
kill_kept p j l y = unwrap_or (option_map (λ c. is_cause_of_kill (why_of c) y) (line_cause j l)) false

-- a Cancel: its group has cancellation or its line has greeted, and its request is pending, isn't
-- wanted and has no earlier Cancel
abbrev pub cancel_kept : Plan → List Entry → ℕ → ℤ → Bool
cancel_kept p j l n =
    may_be_asked p j l
    && list_any (λ r. int_eq r.number n && (is_unwanted p j r && not (has_cancel j r)))
    (pending j l)

abbrev pub order_kept : Plan → List Entry → Entry → Reply → Bool
order_kept p j e (reply.Launch l a b t) = launch_kept j (e.lane / 2)
order_kept p j e (reply.Send l n a b t) = send_kept p j e l n a b
order_kept p j e (reply.Kill l y) = kill_kept p j l y
order_kept p j e (reply.Cancel l n) = cancel_kept p j l n
order_kept p j e _ = true

-- at most one line of each berth is live
abbrev pub OneLive : List Entry → Type 0
OneLive j = (w : ℕ) → nat_le (length (filter (live j) (lines_of j w))) 1 ≡ true

-- what each scheduling discipline keeps
abbrev pub OrdersKept : Plan → List Entry → Type 0
OrdersKept p [] = Unit {0}
OrdersKept p (e ∷ j) = OrdersKept p j × (order_kept p j e e.reply ≡ true) × OneLive (e ∷ j)

-- beside that, where each group has berths of its own: a Launch comes where no live line of the
-- berth's group has a free place, and no line is evicted
abbrev pub own_berths_kept : Plan → List Entry → ℕ → Reply → Bool
own_berths_kept p j w (reply.Launch l a b t) =
    not (some_free p j (kind_of p w) (first_berth p (group_at p w)) (berths_of p (group_at p w)))
own_berths_kept p j w (reply.Kill l why.Evicted) = false
own_berths_kept p j w _ = true

pub record Kept (p : Plan) (j : List Entry) : Type 0 where
  pub orders : OrdersKept p j
  pub own_berths : AtEach (λ before e. own_berths_kept p before (e.lane / 2) e.reply ≡ true) j
