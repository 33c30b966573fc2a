-- A Tick that its lane's script has: the state stands for the journal with its entry.
use Rattle.std.proofs.Common.{◌≡◌, ℕ, true, List, ◌∷◌, refl}
use Rattle.run_plan.specs.declared.plan.Plan.{Plan}
use Rattle.exec_journal.specs.declared.call.Call.TheVariants as call
use Rattle.exec_journal.specs.Entry.{Entry}
use Rattle.exec_journal.specs.declared.reply.Reply.{Reply}
use Rattle.exec_journal.specs.declared.reply.Reply.TheVariants as reply
use Rattle.exec_journal.specs.Entries.{is_kept}
use Rattle.exec_journal.specs.Lawful.{Counts, Ends, Ticked, Waits}
use Rattle.exec_journal.specs.Rules.{gathered}
use Rattle.exec_journal.specs.Words.{wrote, granted, grant_of}
use Rattle.core_state.specs.declared.state.State.{State}
use Rattle.core_state.specs.Noted.{noted_after}
use Rattle.core_laws.specs.Stands.{MayCall, Stands}
use Rattle.core_laws.proofs.Greeted.{quiet_greetings}
use Rattle.core_laws.proofs.Orders.{quiet_stands}
use Rattle.core_laws.proofs.Own.{IsQuiet, SpendsNone}
use Rattle.core_laws.proofs.Reported as reported

module _ (p : Plan) (seats : ℕ) (s : State) (j : List Entry) (lane : ℕ) (st : Stands p seats s j)
    (may : MayCall p seats j lane call.Tick) where
  abbrev stop_entry : Entry
  stop_entry = record { lane = lane; call = call.Tick; reply = reply.Stop }

  stop_quiet : IsQuiet seats j stop_entry
  unfolding wrote
  stop_quiet = record {
    no_launch = refl;
    no_send = refl;
    no_take = λ m. refl;
    no_break = λ m. refl;
    no_feed = λ t. refl;
  }

  stop_spends : SpendsNone seats j stop_entry
  unfolding wrote granted grant_of gathered
  stop_spends = record { no_send = refl; no_match = refl; same = λ t. refl }

  pub tick_stands : (x : Reply) → Ticked p j x → is_kept x ≡ true
      → Stands p seats (noted_after s lane call.Tick x)
      (record { lane = lane; call = call.Tick; reply = x } ∷ j)
  tick_stands x Counts kept = reported.tick_stands p seats s j lane st may
  tick_stands x (Ends over) kept = quiet_stands p seats s j stop_entry st
      (record { scripted = may.scripted; told = Ends over; kept = refl }) may.berth
      refl refl refl refl refl refl
      (quiet_greetings seats j stop_entry refl refl s.greetings st.greetings) stop_quiet stop_spends
  tick_stands x Waits kept = absurd (cc)
