use Rattle.std.proofs.Common.{◌≡◌, length, ap, sym, ◌∙◌, ◌-◌, arith}
use Rattle.placed_berths.specs.Basis.{shared_by}
use Rattle.placed_berths.specs.Due.{first_among}
use Rattle.placed_berths.specs.Pooled.{lacking_at}
use Rattle.placed_berths.proofs.Searches.{none_lacks}
use Rattle.placed_berths.proofs.starved.first_lacking.Goals as goal

pub first_of_all-requires : goal.first_of_all-requires
first_of_all-requires c = λ a lt. record {
  pool_there = c.requires.pool;
  reads = c.requires.due;
  known = (let states = c.requires.due.states in let slice = ap length c.as_slice.ensures in
      omega (arith, states, slice, lt));
}

pub first_marked-requires-clause-asked : goal.first_marked-requires-clause-asked
first_marked-requires-clause-asked c = λ a lt. record {
  pool_there = c.requires.pool;
  reads = c.requires.due;
  known = (let states = c.requires.due.states in let marks = c.requires.due.marks in
      omega (arith, states, marks, lt));
}

pub first_marked-requires-clause-unmarked : goal.first_marked-requires-clause-unmarked
first_marked-requires-clause-unmarked c = λ a un.
    let x = c.args.groups.now in
    none_lacks (shared_by x.shared.now x.state.now.plan) c.args.delay.now x.state.now x.pool.now
    c.requires.due (sym c.has_executor.ensures ∙ c.if-has_executor.false) a un

pub returns-else-has_executor : goal.returns-else-has_executor
returns-else-has_executor c =
    let x = c.args.groups.now in
    let marks = c.requires.due.marks in
    let same : length c.args.delay.now.marks - 0 ≡ length x.state.now.plan.actions =
    omega (arith, marks) in
    c.first_marked.ensures
    ∙ ap (first_among (lacking_at (shared_by x.shared.now x.state.now.plan) c.args.delay.now
    x.state.now x.pool.now) 0) same

pub first_marked-requires-clause-few : goal.first_marked-requires-clause-few
first_marked-requires-clause-few c =
    let few = c.requires.due.few in let marks = c.requires.due.marks in omega (arith, few, marks)
