use Rattle.std.proofs.Common.{ℕ, ◌*◌, length, ap, arith}
use Rattle.spawn_core.proofs.Outlooks.{attempts_kept, journal_kept, sound_kept}
use Rattle.spawn_core.proofs.scheduler.CoreRules.most_lines.Goals as goal

pub overflow_cast-actions : goal.overflow_cast-actions
overflow_cast-actions g c =
    let h = journal_kept g.P.Policy.discipline g.P.Policy.stands _ c.self.invariant in
    let few = attempts_kept c.self.inside.state.plan
    (sound_kept (g.P.Policy.discipline h.basis) c.self.inside.state h.journal h.stands) in
    let slice = ap length c.as_slice.ensures in
    omega (arith, few.0, slice)

pub overflow_mul-result : goal.overflow_mul-result
overflow_mul-result g c =
    let h = journal_kept g.P.Policy.discipline g.P.Policy.stands _ c.self.invariant in
    let few = attempts_kept c.self.inside.state.plan
    (sound_kept (g.P.Policy.discipline h.basis) c.self.inside.state h.journal h.stands) in
    let slice = ap length c.as_slice.ensures in
    omega (arith, few.0, slice)

pub overflow_mul-result-2 : goal.overflow_mul-result-2
overflow_mul-result-2 g c =
    let h = journal_kept g.P.Policy.discipline g.P.Policy.stands _ c.self.invariant in
    let few = attempts_kept c.self.inside.state.plan
    (sound_kept (g.P.Policy.discipline h.basis) c.self.inside.state h.journal h.stands) in
    let slice = ap length c.as_slice.ensures in
    let same = ap (λ (n : ℕ). 2 * n * c.self.inside.state.plan.limit) slice in
    omega (arith, few.1, same)
