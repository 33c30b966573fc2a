-- What a policy's laws say of tables that stand, as one fact of its tables.
use Rattle.std.proofs.Common.{◌≡◌, ◌<◌, ◌/◌, ℕ, true, List, Option}
use Rattle.exec_journal.specs.declared.call.Call.TheVariants as call
use Rattle.exec_journal.specs.Entry.{Entry}
use Rattle.exec_journal.specs.declared.reply.Reply.{Reply}
use Rattle.core_tables.specs.declared.berth_group.BerthGroup.{BerthGroup}
use Rattle.core_state.specs.declared.choice.Choice.{Choice}
use Rattle.core_state.specs.declared.state.State.{State}
use Rattle.core_state.specs.Machine.{carried_reply}
use Rattle.core_contract.specs.Disciplines.{IsDiscipline, script_of}
use Rattle.core_contract.specs.Discipline.{Discipline}
use Rattle.spawn_core.specs.Policies.{SaysSeat, Serves, StandsBy}

module _ {M B : Type 0} (rules : B → Discipline) (owns : B → M → List Entry → Type 0)
    (seated : M → State → ℕ → Option BerthGroup) (chosen : M → State → ℕ → Choice)
    (ticked : M → State → Reply) (is : (b : B) → IsDiscipline (rules b))
    (seats : (b : B) (m : M) (s : State) (j : List Entry) (w : ℕ) → StandsBy (rules b) s j
    → owns b m j → w < (rules b).seats → SaysSeat (rules b) j w (seated m s w))
    (choices : (b : B) (m : M) (s : State) (j : List Entry) (lane : ℕ) → StandsBy (rules b) s j
    → owns b m j → script_of (rules b) j lane call.Ask ≡ true
    → carried_reply s (lane / 2) (chosen m s (lane / 2)) ≡ (rules b).rule j lane call.Ask)
    (ticks : (b : B) (m : M) (s : State) (j : List Entry) (lane : ℕ) → StandsBy (rules b) s j
    → owns b m j → (rules b).ticks lane ≡ true
    → ticked m s ≡ (rules b).rule j lane call.Tick) where
  pub serves : (b : B) (m : M) (s : State) (j : List Entry) → StandsBy (rules b) s j → owns b m j
      → Serves (rules b) s j (seated m s) (chosen m s) (ticked m s)
  serves b m s j st own = record {
    is = is b;
    seats = λ w lt. seats b m s j w st own lt;
    choices = λ lane may. choices b m s j lane st own may;
    ticks = λ lane yes. ticks b m s j lane st own yes;
  }
