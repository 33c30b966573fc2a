use Rattle.std.proofs.Common.{length, ap, sym, ◌∙◌, arith}
use Rattle.worker_pool.specs.Rows.{Facts, last_of}
use Rattle.core_state.proofs.Unbound.{for_keeps, last_kept}
use Rattle.core_state.proofs.state.unbind.Goals as goal

pub unbind_at-requires-clause-seat : goal.unbind_at-requires-clause-seat
unbind_at-requires-clause-seat c =
    let keeps = for_keeps c.args.pool.now c.args.last.now c.args.action c.loop-berth.berth in
    let seats = ap (λ (f : Facts). length f.seats) c.loop-berth.invariant ∙ ap length keeps.seats in
    let le = c.requires.seats in
    let lt = c.loop-berth-test.true in
    let len = c.len-berth-end.ensures in
    omega arith

pub unbind_at-requires-clause-lines : goal.unbind_at-requires-clause-lines
unbind_at-requires-clause-lines c = λ v l h.
    let keeps = for_keeps c.args.pool.now c.args.last.now c.args.action c.loop-berth.berth in
    let lines = ap (λ (f : Facts). length f.lines) c.loop-berth.invariant ∙ keeps.lines in
    let lt = c.requires.lines v l (sym (last_kept c.args.pool.now _ v keeps)
    ∙ ap (λ (f : Facts). last_of f v) (sym c.loop-berth.invariant) ∙ h) in
    omega arith
