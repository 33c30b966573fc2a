use Rattle.std.proofs.Common.{Bool, cond, refl, ap, sym, ◌∙◌}
use Rattle.work_queue.specs.declared.queue.Told.TheVariants as told
use Rattle.work_queue.proofs.Turning.{turn_look}
use Rattle.work_queue.proofs.queue.WorkQueue.look.Goals as goal

pub returns-then-is_cancelled-clause-turns : goal.returns-then-is_cancelled-clause-turns
returns-then-is_cancelled-clause-turns g c =
    turn_look g.K.Kind.number g.K.Kind.cancels g.K.Kind.says g.K.Kind.written g.O.Sink.told
    c.args.self.now _ c.args.lane c.args.put told.Open refl refl refl
    (ap (λ (b : Bool). cond b told.Open told.Done)
    (sym c.if-is_cancelled.true ∙ c.is_cancelled.ensures))
    c.args.call.now c.requires

pub returns-else-is_cancelled-clause-turns : goal.returns-else-is_cancelled-clause-turns
returns-else-is_cancelled-clause-turns g c =
    turn_look g.K.Kind.number g.K.Kind.cancels g.K.Kind.says g.K.Kind.written g.O.Sink.told
    c.args.self.now _ c.args.lane c.args.put told.Done refl refl refl
    (ap (λ (b : Bool). cond b told.Open told.Done)
    (sym c.if-is_cancelled.false ∙ c.is_cancelled.ensures))
    c.args.call.now c.requires
