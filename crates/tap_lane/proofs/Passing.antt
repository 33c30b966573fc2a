-- What stays of a lane from call to call.
use Rattle.std.proofs.Common.{◌≡◌, ℕ, ◌<◌, ◌∙◌, refl, sym, subst}
use Rattle.seat_desk.specs.declared.machine.Machine.{Ghosts}
use Rattle.exec_journal.specs.declared.call.Call.{Call}
use Rattle.exec_journal.specs.declared.reply.Reply.{Reply}
use Rattle.core_contract.specs.Discipline.{Discipline}
use Rattle.core_contract.specs.Laws.{Hearing, hearing_of}
use Rattle.tap_lane.specs.declared.lane.TapLane.{TapLane}
use Rattle.tap_lane.specs.Working.{IsOfBerth, IsAt, IsSameLane, own}

module _ {M G Q : Type 0} {g : Ghosts M Call Reply G Q} where
  pub same_now : (x : TapLane M Call Reply G Q g) → IsSameLane x x
  same_now x = record { same = (refl, refl, refl); speech = refl }

  pub same_then : (x x' x'' : TapLane M Call Reply G Q g) → IsSameLane x x' → IsSameLane x' x''
      → IsSameLane x x''
  same_then x x' x'' first second = record {
    same = (
      second.same.0 ∙ first.same.0,
      second.same.1 ∙ first.same.1,
      second.same.2 ∙ first.same.2,
    );
    speech = second.speech ∙ first.speech;
  }

  pub still_of : (rules : Q → Discipline) (x x' : TapLane M Call Reply G Q g) → IsSameLane x x'
      → IsOfBerth rules x → IsOfBerth rules x'
  still_of rules x x' kept is = (
    is.0,
    kept.same.1 ∙ is.1,
    subst (λ (q : Q). is.0 < (rules q).seats) (sym kept.same.2) is.2,
  )

  -- it hears this now
  pub now_at : (rules : Q → Discipline) (before now : Hearing) (x x' : TapLane M Call Reply G Q g)
      → IsSameLane x x' → IsAt rules before x → hearing_of (own x') ≡ now → IsAt rules now x'
  now_at rules before now x x' kept at hears =
      record { lane = still_of rules x x' kept at.lane; hears = hears }
