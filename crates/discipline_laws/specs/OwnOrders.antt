-- Disciplines of berths that groups have of their own, in whatever order a group's queued branches
-- are called.
use Rattle.std.specs.Prelude.{◌≡◌, ℕ, ◌/◌, false, Option, Some, List}
use Rattle.run_plan.specs.declared.plan.Plan.{Plan}
use Rattle.run_plan.specs.Groups.{berths, kind_of}
use Rattle.exec_journal.specs.declared.attempt.Attempt.{Attempt}
use Rattle.exec_journal.specs.declared.call.Call.{Call}
use Rattle.exec_journal.specs.declared.call.Call.TheVariants as call
use Rattle.exec_journal.specs.declared.reply.Reply.{Reply}
use Rattle.exec_journal.specs.Entry.{Entry}
use Rattle.exec_journal.specs.Kept.{group_at}
use Rattle.exec_journal.specs.Lawful.{IsNextOf, Lawful}
use Rattle.exec_journal.specs.Rules.{ask_of, launches_of, rule}
use Rattle.exec_journal.specs.Words.{last_line}
use Rattle.core_contract.specs.Discipline.{Discipline}

-- of each group the attempt that is next, if one is queued there
abbrev pub Order : Type 0
Order = Plan → List Entry → ℕ → Option Attempt

-- after each lawful journal it is the next attempt of a queued branch, which the group runs
pub record IsOrder (next : Order) : Type 0 where
  pub is : (p : Plan) (j : List Entry) (g : ℕ) (t : Attempt) → Lawful p j → next p j g ≡ Some t
      → IsNextOf p j g t

-- where a line may be given something new, it is what is next in its berth's group; and a line is
-- launched for that where no live one of the group has a free place
abbrev pub ask_by : Order → Plan → List Entry → ℕ → Reply
ask_by next p j w =
    ask_of p j w (kind_of p w) (group_at p w) (last_line j w) (next p j (group_at p w))
    (launches_of p j w (group_at p w) (next p j (group_at p w)) (last_line j w))

abbrev pub rule_by : Order → Plan → List Entry → ℕ → Call → Reply
rule_by next p j lane call.Ask = ask_by next p j (lane / 2)
rule_by next p j lane c = rule p j lane c

abbrev pub discipline_by : Order → Plan → Discipline
discipline_by next p = record {
  plan = p;
  seats = berths p;
  served = berths p;
  kinds = kind_of p;
  ticks = λ _. false;
  rule = rule_by next p;
}
