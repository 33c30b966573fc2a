use Rattle.std.proofs.Common.{◌≡◌, ℕ, ◌<◌, ◌+◌, Some, length, refl, subst, sym, ◌∙◌, arith, length-set}
use Rattle.std.specs.Prelude.{slice_get, slice_set}
use Rattle.std.proofs.lemmas.Bool.{lt-leb}
use Rattle.std.proofs.lemmas.Option.{slice_get_read}
use Rattle.ready_order.specs.Queue.{is_ready_at}
use Rattle.placed_berths.specs.Counts.{Facts, IsCounted, more}
use Rattle.placed_berths.specs.declared.delay.Delay.TheInside.{Inside}
use Rattle.placed_berths.proofs.Counting.{CountedBelow, all_counted, next_counted}
use Rattle.placed_berths.proofs.Marking.{MarkedBelow, all_marked, counted_marked, counted_unmarked}
use Rattle.placed_berths.proofs.delay.Delay.count_tick.Invariants.{CountedTo}
use Rattle.placed_berths.proofs.delay.Delay.count_tick.Goals as goal
use Rattle.placed_berths.proofs.delay.Delay.count_tick.Goals.{then-count-self, else-count-self}

-- the counts with one more, and the count that it is
module _ (c : goal.Joined-count-self) where
  abbrev n : ℕ
  n = c.loop-number.number

  abbrev now : Inside
  now = c.loop-number.self-inside

  abbrev facts : Facts
  facts = record {
    ticks = c.self.inside.ticks;
    counts = c.self.inside.counts.items;
    marks = c.self.inside.marks.items;
  }

  abbrev v : ℕ
  v = c.more-count.result

  lt : n < length now.counts.items
  lt = let test = c.loop-number-test.true in
      let many = c.len-number-end.ensures in
      let size = c.loop-number.invariant.counts.size in omega (arith, test, many, size)

  counts : CountedBelow c.args.ready.now c.self.inside.ticks (n + 1) c.self.inside.counts.items
      (slice_set now.counts.items n v)
  counts =
      let states = c.args.ready.now in
      let at : slice_get now.counts.items n ≡ Some c.index.result.now =
      slice_get_read now.counts.items (length now.counts.items) n c.index.result.now refl lt
      c.index.ensures in
      subst (λ m. CountedBelow states c.self.inside.ticks (n + 1) c.self.inside.counts.items
      (slice_set now.counts.items n m))
      (sym (c.more-count.ensures ∙ (λ i. more (is_ready_at states n)
      (c.loop-number.invariant.ticks i) c.index.result.now)))
      (next_counted states c.self.inside.ticks n c.self.inside.counts.items now.counts.items
      c.loop-number.invariant.counts lt c.index.result.now at)

  sizes : length (slice_set now.counts.items n v) ≡ length now.marks.items
  sizes = length-set now.counts.items n v ∙ c.loop-number.invariant.size

  abbrev marked : MarkedBelow (record facts { counts = now.counts.items }) n now.marks.items
  marked = c.loop-number.invariant.marks

  -- what it is then is so far counted
  abbrev Next : Inside → Type 0
  Next s = CountedTo c.args.ready.now c.self.inside (n + 1) s

pub loop-number-preserved : goal.loop-number-preserved
loop-number-preserved c = elim c.if-count-self.branch [
  | then-count-self w ↦ subst (Next c) (sym w.self-inside-is) (record {
    ticks = c.loop-number.invariant.ticks;
    size = sizes c ∙ sym (length-set (now c).marks.items (n c) 1);
    counts = counts c;
    marks = counted_marked (facts c) (n c) (now c).counts.items (now c).marks.items (v c)
        (marked c) (lt c) c.loop-number.invariant.size;
  })
  | else-count-self w ↦ subst (Next c) (sym w.self-inside-is) (record {
    ticks = c.loop-number.invariant.ticks;
    size = sizes c;
    counts = counts c;
    marks = counted_unmarked (facts c) (n c) (now c).counts.items (now c).marks.items (v c)
        (marked c) (lt c) c.loop-number.invariant.size
        (lt-leb c.self.inside.ticks (v c) (let short = w.if-count-self.false in
        let same = c.loop-number.invariant.ticks in omega (arith, short, same)));
  })
]

pub returns : goal.returns
returns c =
    let end = c.loop-number.invariant in
    let now = c.loop-number.self-inside in
    let test = c.loop-number-test.false in
    let many = c.len-number-end.ensures in
    let size = end.size in
    let whole = end.marks.size in
    let marked = all_marked (record {
      ticks = c.self.inside.ticks;
      counts = now.counts.items;
      marks = c.self.inside.marks.items;
    }) c.loop-number.number now.marks.items end.marks (omega (arith, test, many, size, whole)) in
    subst (λ (f : Facts). IsCounted c.args.ready.now f (record {
      ticks = now.ticks;
      counts = now.counts.items;
      marks = now.marks.items;
    })) c.self.view_is (record {
      ticks = end.ticks;
      each = all_counted c.args.ready.now c.self.inside.ticks c.loop-number.number
          c.self.inside.counts.items now.counts.items end.counts (omega (arith, test, many));
      marks = record { size = marked.size; each = marked.each };
    })
