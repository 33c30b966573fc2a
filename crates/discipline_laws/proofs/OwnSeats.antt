-- Where each group has berths of its own, an order's attempt is run by its berth's group.
use Rattle.std.proofs.Common.{◌≡◌, ℕ, ◌+◌, ◌-◌, ◌/◌, ◌<◌, nat_lt, true, cond, List, [], ◌∷◌, length, Option, Some, sym, ap, ◌∙◌, suc, arith}
use Rattle.run_plan.specs.declared.plan.Group.{Group}
use Rattle.run_plan.specs.declared.plan.Plan.{Plan}
use Rattle.run_plan.specs.Groups.{berth_group, berths, group_from, is_remote, kind_of}
use Rattle.exec_journal.specs.declared.attempt.Attempt.{Attempt}
use Rattle.exec_journal.specs.declared.call.Call.TheVariants as call
use Rattle.exec_journal.specs.Entry.{Entry}
use Rattle.exec_journal.specs.Lawful.{Lawful}
use Rattle.exec_journal.specs.Legal.{Legal}
use Rattle.exec_journal.specs.Rules.{rule}
use Rattle.exec_journal.specs.Scripts as sc
use Rattle.exec_journal.specs.Seated.{group_for, kind_in}
use Rattle.exec_journal.specs.Settled.{earliest}
use Rattle.exec_journal.proofs.Begins.{earliest_next}
use Rattle.exec_journal.proofs.Ruled as ru
use Rattle.exec_journal.proofs.Ruled.{by_bool}
use Rattle.journal_laws.proofs.Berths as own
use Rattle.journal_laws.proofs.Ours as ours
use Rattle.core_contract.specs.Laws.{OrderFits, RunsOn}
use Rattle.discipline_laws.proofs.Seating.{order_fits}

-- ---- a berth's group is one of the plan

below : (n : ℕ) (gs : List Group) (w m : ℕ) → group_from n gs w ≡ Some m → m < n + length gs
below n [] w m h = absurd (cc)
below n (x ∷ xs) w m h =
    by_bool (nat_lt w x.berths)
    (λ b. cond b (Some n) (group_from (n + 1) xs (w - x.berths)) ≡ Some m → m < n + suc (length xs))
    (λ _ g. let here : n ≡ m = cc in omega (arith, here))
    (λ _ g. let more = below (n + 1) xs (w - x.berths) m g in omega (arith, more)) h

pub runs_on : (p : Plan) (w : ℕ) (t : Attempt) → w < berths p → group_for p t ≡ berth_group p w
    → RunsOn p (is_remote (kind_of p w)) t
runs_on p w t lt runs =
    let is = ours.berth_group_is p w lt in
    record {
      group = ru.group_at p w;
      there = let low = below 0 p.groups w (ru.group_at p w) is in omega (arith, low);
      of_branch = runs ∙ is;
      executor = ap (λ (o : Option ℕ). is_remote (kind_in p o)) (sym is);
    }

-- ---- so each order fits, whatever is next in each group

pub next_orders_fit : (p : Plan) (j : List Entry) (lane : ℕ) (next : ℕ → Option Attempt)
    → own.Nexts p j next → Lawful p j → ours.SeatedAt p j → sc.script p j lane call.Ask ≡ true
    → OrderFits p (is_remote (kind_of p (lane / 2))) (own.own_ask p j (lane / 2) next)
unfolding ours.SeatedAt
next_orders_fit p j lane next nexts lawful seated may =
    let w = lane / 2 in
    let lt = ours.lane_of_plan p j lane call.Ask may in
    order_fits p j w (is_remote (kind_of p w)) lawful
    (λ t on. runs_on p w t lt (on.group ∙ seated on.line w on.own))
    (own.own_ask p j w next) (own.asked_own p j w next nexts lawful seated)
    (λ y is. runs_on p w y.1 lt ((own.ask_own p j w next nexts).group y is
    ∙ sym (ours.berth_group_is p w lt)))

pub own_orders_fit : (p : Plan) (j : List Entry) (lane : ℕ) → Legal p j
    → sc.script p j lane call.Ask ≡ true
    → OrderFits p (is_remote (kind_of p (lane / 2))) (rule p j lane call.Ask)
own_orders_fit p j lane legal may =
    let both = ours.both_ours p j legal in
    next_orders_fit p j lane (earliest p j) (record { is = λ g t. earliest_next p j g t }) both.0
    both.1 may
