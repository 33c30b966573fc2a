-- When a lane is told to stop and none has halted, the run is finished.
use Rattle.std.specs.Prelude.{◌≡◌, ℕ, true, false, List}
use Rattle.run_plan.specs.declared.plan.Plan.{Plan}
use Rattle.run_plan.specs.Sound.{Sound}
use Rattle.exec_journal.specs.declared.call.Call.{Call}
use Rattle.exec_journal.specs.Entry.{Entry}
use Rattle.exec_journal.specs.declared.reply.Reply.TheVariants as reply
use Rattle.exec_journal.specs.Lawful.{Lawful, Told}
use Rattle.exec_journal.specs.Settled.{all_settled}
use Rattle.exec_journal.specs.Words.{halted}
use Rattle.journal_laws.specs.Finished.{Finished}
use Rattle.journal_laws.proofs.Stops.{stop_settles, each_settled, settled_accounted}
use Rattle.journal_laws.proofs.Known.{outcome_known}

pub finished : (p : Plan) (j : List Entry) → Sound p → Lawful p j → all_settled p j ≡ true → Finished p j
finished p j sound legal all = record {
  settled_all = all;
  known = λ a x at. outcome_known p j a x at (each_settled p j a x all at);
  accounted = settled_accounted p j sound legal all;
}

pub stop_finishes : (p : Plan) (j : List Entry) (lane : ℕ) (d : Call) → Sound p → Lawful p j → Told p j lane d reply.Stop → halted j ≡ false → Finished p j
stop_finishes p j lane d sound legal h none = finished p j sound legal (stop_settles p j lane d h none)
