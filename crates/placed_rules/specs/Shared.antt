-- The rule of shared berths, with Ticks and without.
use Rattle.std.specs.Prelude.{ℕ, ◌+◌, ◌/◌, Bool, ◌&&◌, Option, Some, None, option_map, if◌then◌else◌, List, [], ◌∷◌}
use Rattle.run_plan.specs.declared.plan.Branch.{Branch}
use Rattle.run_plan.specs.declared.plan.Branch.TheVariants.{Local, Remote}
use Rattle.run_plan.specs.declared.plan.Kind.{Kind}
use Rattle.run_plan.specs.declared.plan.Kind.TheVariants as kind
use Rattle.run_plan.specs.declared.plan.Plan.{Plan}
use Rattle.run_plan.specs.declared.plan.PlanAction.{PlanAction}
use Rattle.list_lemmas.specs.Options.{or_else}
use Rattle.exec_journal.specs.declared.attempt.Attempt.{Attempt}
use Rattle.exec_journal.specs.declared.call.Call.{Call}
use Rattle.exec_journal.specs.declared.call.Call.TheVariants as call
use Rattle.exec_journal.specs.Entry.{Entry}
use Rattle.exec_journal.specs.declared.reply.Reply.{Reply}
use Rattle.exec_journal.specs.declared.reply.Reply.TheVariants as reply
use Rattle.exec_journal.specs.declared.reply.Why.TheVariants as why
use Rattle.exec_journal.specs.Entries.{attempt_of}
use Rattle.exec_journal.specs.Words.{last_line}
use Rattle.exec_journal.specs.Attempts.{attempt}
use Rattle.exec_journal.specs.Seated.{line_group, line_kind}
use Rattle.exec_journal.specs.Rules.{ask_of, when, is_vacant, launch_order}
use Rattle.exec_journal.specs.Lawful.{plain_reply}
use Rattle.placed_rules.specs.declared.pools.SharedPlan.{SharedPlan}
use Rattle.placed_rules.specs.declared.pools.SharedPool.{SharedPool}
use Rattle.placed_rules.specs.Pools.{pool_of, has_group}
use Rattle.placed_rules.specs.Due.{is_due, next_due, ticked}
use Rattle.placed_rules.specs.Needs.{is_starved, may_evict}

-- ---- the kind and the group of the line here, where the berth has one

abbrev pub kind_here : Plan → List Entry → Option ℕ → Kind
kind_here p j (Some l) = line_kind p j l
kind_here p j None = kind.Single

abbrev pub group_here : Plan → List Entry → Option ℕ → ℕ
group_here p j (Some l) = line_group p j l
group_here p j None = 0

-- ---- evict: the line here, where it is given up

abbrev pub evicts : SharedPlan → Option ℕ → List Entry → ℕ → SharedPool → Option ℕ → Option Reply
evicts s ticks j w pool (Some l) = when (may_evict s ticks j w pool l) (reply.Kill l why.Evicted)
evicts s ticks j w pool None = None

-- ---- launch: for the least action that is due in a starved group of the pool

abbrev pub starved_by : SharedPlan → Option ℕ → List Entry → SharedPool → ℕ → Branch → PlanAction → ℕ → Bool
starved_by s ticks j pool a b x g =
    has_group pool g && (is_due s.plan ticks j a b x && is_starved s ticks j pool g)

-- the next attempt of the branch, where its group is one of the pool's and starved
abbrev pub starved_branch : SharedPlan → Option ℕ → List Entry → SharedPool → ℕ → Branch → PlanAction
    → Option ℕ → Option Attempt
starved_branch s ticks j pool a b x (Some g) =
    when (starved_by s ticks j pool a b x g) (attempt_of a b (attempt j a b + 1))
starved_branch s ticks j pool a b x None = None

-- its local branch before its remote one
abbrev pub starved_in : SharedPlan → Option ℕ → List Entry → SharedPool → ℕ → PlanAction → Option Attempt
starved_in s ticks j pool a x =
    or_else (starved_branch s ticks j pool a Local x x.local)
    (starved_branch s ticks j pool a Remote x x.remote)

abbrev pub starved_from : SharedPlan → Option ℕ → List Entry → SharedPool → ℕ → List PlanAction
    → Option Attempt
starved_from s ticks j pool a [] = None
starved_from s ticks j pool a (x ∷ xs) =
    or_else (starved_in s ticks j pool a x) (starved_from s ticks j pool (a + 1) xs)

unfoldable pub next_starved : SharedPlan → Option ℕ → List Entry → SharedPool → Option Attempt
next_starved s ticks j pool = starved_from s ticks j pool 0 s.plan.actions

abbrev pub shared_launches : SharedPlan → Option ℕ → List Entry → SharedPool → Option ℕ → Option Reply
shared_launches s ticks j pool last =
    if is_vacant j last then option_map (launch_order j) (next_starved s ticks j pool) else None

-- ---- the rule

-- what comes after a Send
abbrev pub pool_orders : SharedPlan → Option ℕ → List Entry → ℕ → Option ℕ → Option SharedPool → Option Reply
pool_orders s ticks j w last (Some pool) =
    or_else (evicts s ticks j w pool last) (shared_launches s ticks j pool last)
pool_orders s ticks j w last None = None

-- on the proxy lane of the berth w, whose last line is the line here
abbrev pub ask_shared : SharedPlan → Option ℕ → List Entry → ℕ → Option ℕ → Reply
ask_shared s ticks j w last =
    ask_of s.plan j w (kind_here s.plan j last) (group_here s.plan j last) last
    (next_due s.plan ticks j (group_here s.plan j last)) (pool_orders s ticks j w last (pool_of s w))

abbrev pub pooled_rule : SharedPlan → Option ℕ → List Entry → ℕ → Call → Reply
pooled_rule s ticks j lane call.Ask = ask_shared s ticks j (lane / 2) (last_line j (lane / 2))
pooled_rule s ticks j lane call.Tick = ticked s.plan ticks j
pooled_rule s ticks j lane c = plain_reply s.plan j lane c

-- where no branch waits
abbrev pub shared_rule : SharedPlan → List Entry → ℕ → Call → Reply
shared_rule s j lane c = pooled_rule s None j lane c
