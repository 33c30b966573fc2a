use Rattle.std.proofs.Common.{◌≡◌, ℕ, List, length}
use Rattle.ready_order.specs.declared.ActionState.{ActionState}
use Rattle.placed_berths.specs.declared.delay.Delay.TheInside.{Inside}
use Rattle.placed_berths.proofs.Counting.{CountedBelow}
use Rattle.placed_berths.proofs.Marking.{MarkedBelow}
use Rattle.placed_berths.proofs.delay.Delay.count_tick.Given as goal

-- the first n are counted, and those of them that wait for no more Ticks are marked
pub record CountedTo (states : List ActionState) (old : Inside) (n : ℕ) (now : Inside) : Type 0 where
  pub ticks : now.ticks ≡ old.ticks
  pub size : length now.counts.items ≡ length now.marks.items
  pub counts : CountedBelow states old.ticks n old.counts.items now.counts.items
  pub marks : MarkedBelow (record {
    ticks = old.ticks;
    counts = now.counts.items;
    marks = old.marks.items;
  }) n now.marks.items

abbrev pub invariant-loop-number : goal.invariant-loop-number
invariant-loop-number l = CountedTo l.ready l.initial.self-inside l.number l.self-inside
