-- Which lines of a pool are idle, which of its groups are starved, and which line is given up for
-- one.
use Rattle.std.specs.Prelude.{ℕ, suc, zero, ◌/◌, ◌==◌, nat_lt, Bool, false, ◌&&◌, ◌||◌, not, Option, Some, None, is_some, is_none, unwrap_or, option_map, if◌then◌else◌, List, [], ◌∷◌, length, filter}
use Rattle.std.specs.List.{list_any}
use Rattle.run_plan.specs.declared.plan.Plan.{Plan}
use Rattle.exec_journal.specs.declared.attempt.Attempt.{Attempt}
use Rattle.exec_journal.specs.declared.call.Call.{Call}
use Rattle.exec_journal.specs.declared.call.Call.TheVariants as call
use Rattle.exec_journal.specs.Entry.{Entry}
use Rattle.exec_journal.specs.declared.reply.Reply.{Reply}
use Rattle.exec_journal.specs.declared.reply.Reply.TheVariants as reply
use Rattle.exec_journal.specs.History.{ever, each}
use Rattle.exec_journal.specs.Entries.{attempt_of, launch_in, speaks}
use Rattle.exec_journal.specs.Words.{last_line, failed, has_ended, was_killed, live, pending}
use Rattle.exec_journal.specs.Settled.{bound, has_room}
use Rattle.exec_journal.specs.Seated.{group_on, line_group, line_kind}
use Rattle.exec_journal.specs.Rules.{gathered, is_vacant}
use Rattle.journal_laws.specs.Invariant.{claimed}
use Rattle.call_laws.specs.Matches.{is_spent}
use Rattle.placed_rules.specs.declared.pools.SharedPlan.{SharedPlan}
use Rattle.placed_rules.specs.declared.pools.SharedPool.{SharedPool}
use Rattle.placed_rules.specs.Due.{next_due}
use Rattle.placed_rules.specs.Pools.{seats, same_pool, is_of_executor}

-- ---- lines

-- the berth and the line that an entry orders to launch
abbrev pub line_with : Entry → Option (ℕ × ℕ)
line_with e = option_map (λ x. (e.lane / 2, x.0)) (launch_in e.reply)

-- all lines that were ordered, with their berths, the newest first
unfoldable pub all_lines : List Entry → List (ℕ × ℕ)
all_lines j = each (λ _ e. line_with e) j

-- it may still have a process: it didn't fail to launch, and hasn't both Ended and been killed
abbrev pub is_held : List Entry → ℕ → Bool
is_held j l = not (failed j l) && not (has_ended j l && was_killed j l)

abbrev pub matches_line : ℕ → Call → Reply → Option Attempt
matches_line l (call.Answer k x) (reply.Matched a b t) =
    if k == l then Some (attempt_of a b t) else None
matches_line l _ _ = None

-- a match that waits for its Claim, which it hasn't: a Gather of it was ordered; or one may be yet,
-- since its action has no grant and its request's Wrote says no fault
abbrev pub waits_for_claim : List Entry → Option Attempt → Bool
waits_for_claim j (Some t) = not (claimed j t) && (gathered j t || not (is_spent j t))
waits_for_claim j None = false

unfoldable pub has_match_waiting : List Entry → ℕ → Bool
has_match_waiting j l = ever (λ _ e. waits_for_claim j (matches_line l e.call e.reply)) j

-- live, nothing of it is pending or bound, and no match of it waits for its Claim
abbrev pub is_idle : Plan → List Entry → ℕ → Bool
is_idle p j l = live j l
    && ((length (pending j l) == 0) && (is_none (bound p j l) && not (has_match_waiting j l)))

-- an Answer or the Launched of the line
abbrev pub says_something : ℕ → Call → Bool
says_something l (call.Launched k how) = k == l
says_something l c = speaks l c

-- how many entries came since the last of these
unfoldable pub silent_for : List Entry → ℕ → ℕ
silent_for [] l = 0
silent_for (e ∷ j) l = if says_something l e.call then 0 else suc (silent_for j l)

-- ---- groups

abbrev pub is_in_group : SharedPlan → List Entry → ℕ → ℕ × ℕ → Bool
is_in_group s j g x = unwrap_or (option_map (λ k. k == g) (group_on s.plan j x.1)) false

abbrev pub lines_in_group : SharedPlan → List Entry → ℕ → List (ℕ × ℕ)
lines_in_group s j g = filter (is_in_group s j g) (all_lines j)

-- no live line of the group has a free place
abbrev pub none_free : SharedPlan → List Entry → ℕ → Bool
none_free s j g =
    not (list_any (λ x. has_room s.plan j (line_kind s.plan j x.1) x.1) (lines_in_group s j g))

abbrev pub lines_held : SharedPlan → List Entry → ℕ → ℕ
lines_held s j g = length (filter (λ x. is_held j x.1) (lines_in_group s j g))

-- so many lines a group may hold: an executor's as many as its pool has berths
abbrev pub most_lines : SharedPlan → SharedPool → ℕ → ℕ
most_lines s pool g = if is_of_executor s g then pool.berths else s.instances

-- it has a branch that is due, no live line with a free place, and holds fewer lines than it may
unfoldable pub is_starved : SharedPlan → Option ℕ → List Entry → SharedPool → ℕ → Bool
is_starved s ticks j pool g =
    is_some (next_due s.plan ticks j g)
    && (none_free s j g && nat_lt (lines_held s j g) (most_lines s pool g))

-- ---- the line that is given up

-- an idle line whose group has no branch that is due
abbrev pub may_go : SharedPlan → Option ℕ → List Entry → ℕ → Bool
may_go s ticks j l = is_idle s.plan j l && is_none (next_due s.plan ticks j (line_group s.plan j l))

-- of the first n berths of all one is of the pool of w, and vacant
abbrev pub some_vacant : SharedPlan → List Entry → ℕ → ℕ → Bool
some_vacant s j w zero = false
some_vacant s j w (suc n) =
    (same_pool s n w && is_vacant j (last_line j n)) || some_vacant s j w n

-- a killed line that hasn't Ended, or one that may go and has been silent for longer than l
abbrev pub goes_before : SharedPlan → Option ℕ → List Entry → ℕ → ℕ → Bool
goes_before s ticks j l k =
    (was_killed j k && not (has_ended j k))
    || (may_go s ticks j k && nat_lt (silent_for j l) (silent_for j k))

-- the line l of the berth w may go, a group of the pool is starved, no berth of the pool is vacant,
-- every killed line of the pool has Ended, and no line of it that may go has been silent for longer
unfoldable pub may_evict : SharedPlan → Option ℕ → List Entry → ℕ → SharedPool → ℕ → Bool
may_evict s ticks j w pool l =
    (may_go s ticks j l && list_any (is_starved s ticks j pool) pool.groups)
    && (not (some_vacant s j w (seats s))
    && not (list_any (λ x. same_pool s x.0 w && goes_before s ticks j l x.1) (all_lines j)))
