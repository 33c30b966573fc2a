-- The laws of a policy, of the one that orders the earliest queued action of the berth's group first.
use Rattle.std.proofs.Common.{◌≡◌, ◌<◌, ◌≤◌, ◌/◌, ℕ, List, true, length, ap, arith, sym, ◌∙◌}
use Rattle.run_plan.specs.declared.plan.Plan.{Plan}
use Rattle.run_plan.specs.Groups.{berths, is_remote}
use Rattle.run_plan.specs.Sound.{Sound}
use Rattle.exec_journal.specs.declared.call.Call.TheVariants as call
use Rattle.exec_journal.specs.Entry.{Entry}
use Rattle.exec_journal.specs.declared.reply.Reply.TheVariants as reply
use Rattle.exec_journal.specs.Kept.{Kept}
use Rattle.journal_laws.proofs.Ours as ours
use Rattle.core_tables.specs.Seats.{seat_at}
use Rattle.core_tables.proofs.Seated.{seat_is}
use Rattle.core_state.specs.declared.state.State.{State}
use Rattle.core_state.specs.Machine.{carried_reply}
use Rattle.core_contract.specs.Disciplines.{IsDiscipline, LegalBy, own_discipline, script_of}
use Rattle.core_laws.specs.Stands.{Stands}
use Rattle.core_laws.proofs.AllOf.{all_of}
use Rattle.core_laws.proofs.Read as read
use Rattle.discipline_laws.proofs.OwnDiscipline.{own_is_discipline, own_legal}
use Rattle.earliest_first.specs.Choices.{ReadsOwn, chosen}
use Rattle.earliest_first.proofs.AtBerths.{seat_fits}
use Rattle.earliest_first.proofs.Chosen.{choice_is}
use Rattle.spawn_core.specs.Policies.{ReadsEach, SaysSeat, StandsBy}

pub own_is : (p : Plan) → IsDiscipline (own_discipline p)
own_is p = own_is_discipline p

pub few_berths : (p : Plan) → Sound p → berths p ≤ 128
few_berths p sound = let few = sound.seats in omega (arith, few)

pub seats_are : (p : Plan) (s : State) (j : List Entry) (w : ℕ) → StandsBy (own_discipline p) s j
    → w < berths p → SaysSeat (own_discipline p) j w (seat_at s.plan w)
seats_are p s j w st lt =
    let y = seat_is p w lt in record {
      seat = y.0;
      is = ap (λ (q : Plan). seat_at q w) st.tables.plan ∙ y.1.is;
      fits = seat_fits p j w y.0 st.tables.lawful (ours.both_ours p j (own_legal p j st.legal)).1 lt
          y.1.is;
      remote = sym (ap is_remote y.1.kind);
    }

pub choices_are : (p : Plan) (s : State) (j : List Entry) (lane : ℕ)
    → StandsBy (own_discipline p) s j → script_of (own_discipline p) j lane call.Ask ≡ true
    → carried_reply s (lane / 2) (chosen s (lane / 2)) ≡ (own_discipline p).rule j lane call.Ask
choices_are p s j lane st may = choice_is p s j lane st.tables (own_legal p j st.legal)
    (all_of p (berths p) s j st.tables).facts may

-- no lane makes Ticks
pub ticks_are : (p : Plan) (j : List Entry) (lane : ℕ) → (own_discipline p).ticks lane ≡ true
    → reply.Idle ≡ (own_discipline p).rule j lane call.Tick
ticks_are p j lane ticks = absurd (cc)

reads_own : (p : Plan) (s : State) (j : List Entry) (w : ℕ) → Stands p (berths p) s j
    → w < berths p → ReadsOwn s w
reads_own p s j w st lt =
    let all = all_of p (berths p) s j st in record {
      reads = read.reads p (berths p) s j st all.facts w lt;
      groups = (let g : length s.plan.groups ≡ length p.groups =
          ap (λ (x : Plan). length x.groups) st.plan in let few = st.sound.groups in omega arith);
      seats = (let there = read.seats_are p (berths p) s j st all.facts in
          let same = ap berths st.plan in omega (arith, there, same));
    }

pub reads_each : (p : Plan) (s : State) (j : List Entry) → StandsBy (own_discipline p) s j
    → ReadsEach s
reads_each p s j st = record {
  groups = (let g : length s.plan.groups ≡ length p.groups =
      ap (λ (x : Plan). length x.groups) st.tables.plan in
      let few = st.tables.sound.groups in omega arith);
  each = λ w lt. reads_own p s j w st.tables
      (let same = ap berths st.tables.plan in omega (arith, same, lt));
}

pub kept_is : (p : Plan) (j : List Entry) → Sound p → LegalBy (own_discipline p) j → Kept p j
kept_is p j sound legal = ours.kept p j sound (own_legal p j legal)
