use Rattle.spawn_core.proofs.Outlooks.{journal_kept, sound_kept}
use Rattle.spawn_core.proofs.scheduler.CoreRules.berths.Goals as goal

pub berths-requires : goal.berths-requires
berths-requires g c =
    let h = journal_kept g.P.Policy.discipline g.P.Policy.stands _ c.self.invariant in
    sound_kept (g.P.Policy.discipline h.basis) c.self.inside.state h.journal h.stands
