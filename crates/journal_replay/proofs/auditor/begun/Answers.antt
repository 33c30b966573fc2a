use Rattle.std.proofs.Common.{[], refl, subst}
use Rattle.std.specs.Prelude.{ℕ}
use Rattle.journal_replay.specs.Bounds.{AreBounds}
use Rattle.journal_replay.proofs.Steps.{one_line}
use Rattle.journal_replay.proofs.auditor.begun.Goals as goal

pub returns : goal.returns
returns g c = λ line k.
    record {
      basis = k.basis;
      journal = [];
      spelled = one_line g.C.Replayed.rules.spelled line k.basis k.spelled;
      sound = k.sound;
      stood = k.stood;
      legal = g.met.C.Replayed.none k.basis;
      race = tt;
      paired = tt;
      plan_is = k.plan_is;
      bounds_are = subst (λ (n : ℕ). AreBounds c.bounds_of-bounds.result n c.args.plan) k.lanes_are c.bounds_of-bounds.ensures;
      entries_are = refl;
    }
