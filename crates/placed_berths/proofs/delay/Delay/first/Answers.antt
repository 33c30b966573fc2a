use Rattle.std.proofs.Common.{length, ap, sym, ◌∙◌, ◌-◌, arith}
use Rattle.ready_order.proofs.Earliest.{queued_within}
use Rattle.placed_berths.specs.Due.{branch_at, first_among}
use Rattle.placed_berths.specs.Walked.{first_from, none_among, none_goes}
use Rattle.placed_berths.proofs.delay.Delay.first.Goals as goal

pub returns-in_err-earliest : goal.returns-in_err-earliest
returns-in_err-earliest c =
    let f = c.args.self.now in let s = c.args.state.now in let g = c.args.group in
    c.from_residual.ensures ∙ sym (none_among (branch_at f s g) 0 (length s.plan.actions)
    (λ a. none_goes f s g a (λ b. c.in_err-earliest.ensures.first a b)))

pub first_of_all-requires : goal.first_of_all-requires
first_of_all-requires c = λ a lt. record {
  reads = c.requires;
  known = (let states = c.requires.states in let slice = ap length c.as_slice.ensures in
      omega (arith, states, slice, lt));
}

pub first_marked-requires-clause-asked : goal.first_marked-requires-clause-asked
first_marked-requires-clause-asked c = λ a lt. record {
  reads = c.requires;
  known = (let states = c.requires.states in let marks = c.requires.marks in
      omega (arith, states, marks, lt));
}

pub first_marked-requires-clause-unmarked : goal.first_marked-requires-clause-unmarked
first_marked-requires-clause-unmarked c = λ a un.
    c.requires.unmarked c.args.group a (sym c.runs_executors.ensures ∙ c.if-runs_executors.false) un

pub first_marked-requires-clause-from : goal.first_marked-requires-clause-from
first_marked-requires-clause-from c =
    let found = c.in_ok-earliest.ensures.first in
    let within = queued_within c.args.state.now.ready c.args.group c.in_ok-earliest.earliest
    c.in_ok-earliest.field-0-1 found.queued in
    let states = c.requires.states in let marks = c.requires.marks in
    omega (arith, within, states, marks)

pub returns-then-runs_executors : goal.returns-then-runs_executors
returns-then-runs_executors c =
    let s = c.args.state.now in let g = c.args.group in
    let found = c.in_ok-earliest.ensures.first in
    let within = queued_within s.ready g c.in_ok-earliest.earliest c.in_ok-earliest.field-0-1
    found.queued in
    let states = c.requires.states in
    c.first_of_all.ensures
    ∙ ap (λ n. first_among (branch_at c.args.self.now s g) c.in_ok-earliest.earliest
    (n - c.in_ok-earliest.earliest)) (ap length c.as_slice.ensures)
    ∙ first_from (branch_at c.args.self.now s g) c.in_ok-earliest.earliest (length s.plan.actions)
    (omega (arith, within, states))
    (λ a lt. none_goes c.args.self.now s g a (λ b. found.least a b lt))

pub returns-else-runs_executors : goal.returns-else-runs_executors
returns-else-runs_executors c =
    let s = c.args.state.now in let g = c.args.group in
    let found = c.in_ok-earliest.ensures.first in
    let within = queued_within s.ready g c.in_ok-earliest.earliest c.in_ok-earliest.field-0-1
    found.queued in
    let states = c.requires.states in
    c.first_marked.ensures
    ∙ ap (λ n. first_among (branch_at c.args.self.now s g) c.in_ok-earliest.earliest
    (n - c.in_ok-earliest.earliest)) c.requires.marks
    ∙ first_from (branch_at c.args.self.now s g) c.in_ok-earliest.earliest (length s.plan.actions)
    (omega (arith, within, states))
    (λ a lt. none_goes c.args.self.now s g a (λ b. found.least a b lt))

pub first_marked-requires-clause-few : goal.first_marked-requires-clause-few
first_marked-requires-clause-few c =
    let few = c.requires.few in let marks = c.requires.marks in omega (arith, few, marks)
