-- What an Ask is answered, and what it leaves.
use Rattle.std.specs.Prelude.{length}
use Rattle.run_plan.specs.Groups.{is_remote}
use Rattle.std.specs.Prelude.{◌≡◌, ◌≤◌, ℕ, ◌+◌, is_some, if◌then◌else◌, Option, Some, None}
use Rattle.seat_desk.specs.declared.machine.Machine.{Ghosts}
use Rattle.seat_desk.specs.declared.desk.Pass.{Pass}
use Rattle.seat_desk.specs.Passes.{mine, basis, seen}
use Rattle.exec_journal.specs.declared.call.Call.{Call}
use Rattle.exec_journal.specs.declared.call.Call.TheVariants as call
use Rattle.exec_journal.specs.declared.reply.Reply.{Reply}
use Rattle.exec_journal.specs.declared.reply.Reply.TheVariants as reply
use Rattle.exec_journal.specs.declared.reply.Why.{Why}
use Rattle.exec_journal.specs.Entries.{launch_in}
use Rattle.outside.specs.Launches.{IsNewChild}
use Rattle.outside.specs.Told.{ChildTold}
use Rattle.core_contract.specs.Discipline.{Discipline}
use Rattle.core_contract.specs.Shelf.{child_at}
use Rattle.core_contract.specs.Laws.{OrderFits, OrderHolds, lines_in}
use Rattle.core_machine.specs.declared.shelf.Good.{Good}
use Rattle.proxy_calls.specs.declared.asking.Order.{Order}
use Rattle.proxy_calls.specs.declared.asking.Order.TheVariants as order
use Rattle.proxy_calls.specs.Calls.{MakesOne}
use Rattle.proxy_calls.specs.Goods.{IsChildThere, child_good}

module _ {K : Type 0} (told : K → ChildTold) where
  -- with a Kill the line's child comes out
  abbrev pub GivesChild : {T P : Type 0} → Reply → Option (Good K T P) → Type 0
  GivesChild (reply.Kill l y) g = IsChildThere told (Some l) (child_good g)
  GivesChild _ g = Unit {0}

  -- this is what the reply orders; nothing, where it says Stop
  abbrev pub IsOrdered : Reply → Option (Order K) → Type 0
  IsOrdered r None = r ≡ reply.Stop
  IsOrdered r (Some (order.Launch l t)) = r ≡ reply.Launch l t.action t.branch t.number
  IsOrdered r (Some (order.Send l n t)) = r ≡ reply.Send l n t.action t.branch t.number
  IsOrdered r (Some (order.Cancel l n)) = r ≡ reply.Cancel l n
  IsOrdered r (Some (order.Gather x)) = r ≡ reply.Gather x.line x.number x.attempt.action
      x.attempt.branch x.attempt.number x.exit x.refused
  IsOrdered r (Some (order.Kill l k)) =
      ((y : Why) × (r ≡ reply.Kill l y)) × IsNewChild l (told k)

-- so many lines were ordered, with what the reply orders
abbrev pub lines_with : Reply → ℕ → ℕ
lines_with r lines = if is_some (launch_in r) then lines + 1 else lines

-- The Ask was answered so, when so many lines had been ordered. What the order says holds, and its
-- attempt's group is an executor's exactly where the berth is.
pub record HasAsked {M G Q K : Type 0} {g : Ghosts M Call Reply G Q} (rules : Q → Discipline)
    (told : K → ChildTold) (berth : ℕ) (order : Option (Order K))
    (p p' : Pass M Call Reply G Q g) : Type 0 where
  pub reply : Reply
  pub lines : ℕ
  pub is_ordered : IsOrdered told reply order
  pub made : MakesOne call.Ask reply p p'
  pub holds : OrderHolds (length (rules (basis p)).plan.actions) (child_at berth (mine p)) lines reply
  pub fits : OrderFits (rules (basis p)).plan (is_remote ((rules (basis p)).kinds berth)) reply
  pub later : lines_in (seen p) ≤ lines
  pub lines_then : lines_in (seen p') ≡ lines_with reply lines
