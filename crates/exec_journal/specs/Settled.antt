-- The plan's parts; which actions are settled, and which branches are wanted, bound and queued.
use Rattle.std.specs.Prelude.{ℕ, zero, suc, ◌+◌, ◌-◌, ◌==◌, nat_lt, Bool, true, false, ◌&&◌, ◌||◌, not, Option, Some, None, unwrap_or, option_map, option_and_then, if◌then◌else◌, List, [], ◌∷◌, ◌++◌, length, slice_get, sum_by, take}
use Rattle.std.specs.List.{list_any, list_all}
use Rattle.run_plan.specs.declared.plan.Branch.{Branch}
use Rattle.run_plan.specs.declared.plan.Branch.TheVariants.{Local, Remote}
use Rattle.run_plan.specs.declared.plan.Kind.{Kind}
use Rattle.run_plan.specs.declared.plan.Kind.TheVariants as kind
use Rattle.run_plan.specs.declared.plan.Group.{Group}
use Rattle.run_plan.specs.declared.plan.Plan.{Plan}
use Rattle.run_plan.specs.declared.plan.PlanAction.{PlanAction}
use Rattle.exec_journal.specs.declared.attempt.Attempt.{Attempt}
use Rattle.exec_journal.specs.Entry.{Entry}
use Rattle.exec_journal.specs.declared.ends.Standing.{Standing}
use Rattle.exec_journal.specs.declared.ends.Standing.TheVariants.{Open, Succeeded, Unsuccessful}
use Rattle.exec_journal.specs.declared.call.Found.{Found}
use Rattle.exec_journal.specs.declared.call.Found.TheVariants as found
use Rattle.exec_journal.specs.declared.call.CommitEnd.{CommitEnd}
use Rattle.exec_journal.specs.declared.call.CommitEnd.TheVariants as commit
use Rattle.list_lemmas.specs.Options.{or_else}
use Rattle.exec_journal.specs.Entries.{attempt_of}
use Rattle.exec_journal.specs.Words.{launch_of, lines_of, live, pending, was_sent, grant_of, granted, commit_of}
use Rattle.exec_journal.specs.Attempts.{attempt, ended, dropped}
use Rattle.run_plan.specs.Groups.{group_of, berths, capacity}

-- ---- settled actions

abbrev pub is_unsuccessful : Option Standing → Bool
is_unsuccessful (Some Unsuccessful) = true
is_unsuccessful _ = false

abbrev pub is_success : Option Standing → Bool
is_success (Some Succeeded) = true
is_success _ = false

abbrev pub is_settled : Standing → Bool
is_settled Open = false
is_settled Succeeded = true
is_settled Unsuccessful = true

abbrev pub by_commit : Option CommitEnd → Option Standing
by_commit (Some commit.Done) = Some Succeeded
by_commit (Some (commit.PlaceFault k)) = Some Unsuccessful
by_commit None = None

-- a grant to an exit code settles the action without success; a grant to files does with its
-- Committed, as that says
abbrev pub by_grant : List Entry → Option (Attempt × Found) → Option Standing
by_grant j (Some (t, found.Exit n)) = Some Unsuccessful
by_grant j (Some (t, found.Files fs)) = by_commit (commit_of j t.action t.branch)
by_grant j _ = None

abbrev pub unused_or_dropped : Plan → List Entry → ℕ → Branch → Option ℕ → Bool
unused_or_dropped p j a b None = true
unused_or_dropped p j a b (Some g) = dropped p j a b

-- every branch that the action uses is dropped
abbrev pub all_dropped : Plan → List Entry → ℕ → PlanAction → Bool
all_dropped p j a x =
    unused_or_dropped p j a Local x.local && unused_or_dropped p j a Remote x.remote

-- some producer of the action's inputs is settled without success
abbrev pub is_starved : PlanAction → List Standing → Bool
is_starved x earlier = list_any (λ m. is_unsuccessful (slice_get earlier m.action)) x.makers

-- the action's standing, where those of the actions before it are known
abbrev pub standing_after : Plan → List Entry → ℕ → PlanAction → List Standing → Standing
standing_after p j a x earlier =
    unwrap_or (by_grant j (grant_of j a))
    (if all_dropped p j a x || is_starved x earlier then Unsuccessful else Open)

-- those of the first actions, and then those of the rest, one by one
abbrev pub standings_from : Plan → List Entry → List Standing → List PlanAction → List Standing
standings_from p j earlier [] = earlier
standings_from p j earlier (x ∷ xs) =
    standings_from p j (earlier ++ standing_after p j (length earlier) x earlier ∷ []) xs

unfoldable pub standings : Plan → List Entry → List Standing
standings p j = standings_from p j [] p.actions

unfoldable pub settled : Plan → List Entry → ℕ → Bool
settled p j a = unwrap_or (option_map is_settled (slice_get (standings p j) a)) false

unfoldable pub all_settled : Plan → List Entry → Bool
all_settled p j = list_all is_settled (standings p j)

-- every producer of its inputs has success
unfoldable pub ready : Plan → List Entry → PlanAction → Bool
ready p j x = list_all (λ m. is_success (slice_get (standings p j) m.action)) x.makers

-- ---- branches

-- its action isn't settled and has no grant, and it isn't dropped
unfoldable pub wanted : Plan → List Entry → ℕ → Branch → Bool
wanted p j a b = not (settled p j a) && (not (granted j a) && not (dropped p j a b))

-- from its Launch until its Send, the end of its attempt, or until it isn't wanted
abbrev pub still_bound : Plan → List Entry → Attempt → Bool
still_bound p j t = wanted p j t.action t.branch && (not (was_sent j t) && not (ended j t))

abbrev pub if_bound : Plan → List Entry → Option (ℕ × Attempt) → Option Attempt
if_bound p j (Some (lane, t)) = if still_bound p j t then Some t else None
if_bound p j None = None

-- the attempt that is bound to a line
unfoldable pub bound : Plan → List Entry → ℕ → Option Attempt
bound p j l = if_bound p j (launch_of j l)

-- its latest attempt hasn't ended: it is bound or was sent
abbrev pub is_under_way : List Entry → ℕ → Branch → Bool
is_under_way j a b = nat_lt 0 (attempt j a b) && not (ended j (attempt_of a b (attempt j a b)))

abbrev pub uses : PlanAction → Branch → ℕ → Bool
uses x b g = unwrap_or (option_map (λ k. k == g) (group_of x b)) false

-- wanted, its action ready, and no attempt of it under way
unfoldable pub queued : Plan → List Entry → ℕ → Branch → PlanAction → Bool
queued p j a b x = wanted p j a b && (ready p j x && not (is_under_way j a b))

abbrev pub queued_in : Plan → List Entry → ℕ → ℕ → PlanAction → Option Attempt
queued_in p j g a x =
    if uses x Local g && queued p j a Local x then Some (attempt_of a Local (attempt j a Local + 1))
    else if uses x Remote g && queued p j a Remote x
    then Some (attempt_of a Remote (attempt j a Remote + 1))
    else None

abbrev pub earliest_from : Plan → List Entry → ℕ → ℕ → List PlanAction → Option Attempt
earliest_from p j g a [] = None
earliest_from p j g a (x ∷ xs) = or_else (queued_in p j g a x) (earliest_from p j g (a + 1) xs)

-- the next attempt of the group's queued branch of the least action
unfoldable pub earliest : Plan → List Entry → ℕ → Option Attempt
earliest p j g = earliest_from p j g 0 p.actions

-- ---- places on a line

abbrev pub one_if : {X : Type 0} → Option X → ℕ
one_if (Some x) = 1
one_if None = 0

-- the capacity less the pending requests and the bound branch
unfoldable pub free_places : Plan → List Entry → Kind → ℕ → ℕ
free_places p j k l = capacity k - (length (pending j l) + one_if (bound p j l))

abbrev pub has_room : Plan → List Entry → Kind → ℕ → Bool
has_room p j k l = live j l && nat_lt 0 (free_places p j k l)

-- some live line of the berths from w on, n of them, has a free place
abbrev pub some_free : Plan → List Entry → Kind → ℕ → ℕ → Bool
some_free p j k w zero = false
some_free p j k w (suc n) = list_any (has_room p j k) (lines_of j (w + n)) || some_free p j k w n
