-- What a call but a Look makes of tables that stand for a legal journal, and its reply.
use Rattle.std.proofs.Common.{◌≡◌, ℕ, ◌/◌, ◌<◌, Bool, true, false, List, ◌∷◌, refl, sym, subst, ◌∙◌}
use Rattle.run_plan.specs.Groups.{is_remote}
use Rattle.exec_journal.specs.declared.call.Call.{Call}
use Rattle.exec_journal.specs.declared.call.Call.TheVariants as call
use Rattle.exec_journal.specs.Entry.{Entry}
use Rattle.exec_journal.specs.declared.reply.Reply.{Reply}
use Rattle.exec_journal.specs.Entries.{is_kept, is_look}
use Rattle.exec_journal.specs.Lawful.{Asked, Ticked}
use Rattle.table_laws.specs.Moments.{LawfulMore}
use Rattle.core_contract.specs.Disciplines.{IsDiscipline, LegalBy, script_of}
use Rattle.core_contract.specs.Discipline.{Discipline}
use Rattle.discipline_laws.proofs.Fitting.{anywhere}
use Rattle.core_tables.specs.declared.berth_group.BerthGroup.{BerthGroup}
use Rattle.core_state.specs.declared.state.State.{State}
use Rattle.core_state.specs.Machine.{carried_reply}
use Rattle.core_state.specs.Noted.{noted_after}
use Rattle.core_state.specs.Steps.{CanMake, is_report, made, made_reply}
use Rattle.core_laws.specs.Stands.{MayCall, SeatFits, Stands}
use Rattle.core_laws.proofs.Asks.{ask_stands}
use Rattle.core_laws.proofs.Calls.{call_is_told, call_stands}
use Rattle.core_laws.proofs.Can.{can_carry, can_make}
use Rattle.spawn_core.specs.Allowed.{lane_within, ticks_there}
use Rattle.spawn_core.specs.Ticking.{tick_stands}
use Rattle.spawn_core.specs.Turns.{CanTurn, Orders, turned, turned_reply}

pub may_call : (q : Discipline) (j : List Entry) (lane : ℕ) (c : Call)
    → script_of q j lane c ≡ true → MayCall q.plan q.seats j lane c
may_call q j lane c may = record {
  berth = lane_within q j lane c may;
  scripted = anywhere q j lane c may;
}

-- any call but an Ask, a Look and a Tick
abbrev is_plain : Call → Bool
is_plain call.Ask = false
is_plain (call.Look y) = false
is_plain call.Tick = false
is_plain _ = true

-- what is said of the lane's berth is so, and what is ordered of it is what the discipline orders
pub record IsServed (q : Discipline) (s : State) (j : List Entry) (lane : ℕ) (seat : BerthGroup)
    (x : Orders) : Type 0 where
  pub is : IsDiscipline q
  pub fits : lane / 2 < q.seats → SeatFits q.plan j (lane / 2) seat
  pub remote : lane / 2 < q.seats → is_remote seat.kind ≡ is_remote (q.kinds (lane / 2))
  pub carried : script_of q j lane call.Ask ≡ true
      → carried_reply s (lane / 2) x.ask ≡ q.rule j lane call.Ask
  pub ticked : q.ticks lane ≡ true → x.tick ≡ q.rule j lane call.Tick

module _ (q : Discipline) (s : State) (j : List Entry) (lane : ℕ) (seat : BerthGroup) (x : Orders)
    (st : Stands q.plan q.seats s j) (legal : LegalBy q j) (all : LawfulMore q.plan j)
    (v : IsServed q s j lane seat x) where
  fits : (c : Call) → script_of q j lane c ≡ true → SeatFits q.plan j (lane / 2) seat
  fits c may = v.fits (lane_within q j lane c may)

  report_is : (c : Call) → is_plain c ≡ true → script_of q j lane c ≡ true
      → made_reply s lane seat c ≡ q.rule j lane c
  report_is call.Ask h may = absurd (cc)
  report_is (call.Look y) h may = absurd (cc)
  report_is call.Tick h may = absurd (cc)
  report_is (call.Launched l how) h may =
      call_is_told q.plan q.seats s j lane seat (call.Launched l how) st all
      (fits (call.Launched l how) may) refl (may_call q j lane (call.Launched l how) may)
      ∙ sym (v.is.told j lane (call.Launched l how) legal may)
  report_is (call.Wrote l n how) h may =
      call_is_told q.plan q.seats s j lane seat (call.Wrote l n how) st all
      (fits (call.Wrote l n how) may) refl (may_call q j lane (call.Wrote l n how) may)
      ∙ sym (v.is.told j lane (call.Wrote l n how) legal may)
  report_is (call.Claim a b n f) h may =
      call_is_told q.plan q.seats s j lane seat (call.Claim a b n f) st all
      (fits (call.Claim a b n f) may) refl (may_call q j lane (call.Claim a b n f) may)
      ∙ sym (v.is.told j lane (call.Claim a b n f) legal may)
  report_is (call.Committed a b how) h may =
      call_is_told q.plan q.seats s j lane seat (call.Committed a b how) st all
      (fits (call.Committed a b how) may) refl (may_call q j lane (call.Committed a b how) may)
      ∙ sym (v.is.told j lane (call.Committed a b how) legal may)
  report_is (call.Killed l) h may =
      call_is_told q.plan q.seats s j lane seat (call.Killed l) st all
      (fits (call.Killed l) may) refl (may_call q j lane (call.Killed l) may)
      ∙ sym (v.is.told j lane (call.Killed l) legal may)
  report_is call.Take h may =
      call_is_told q.plan q.seats s j lane seat call.Take st all
      (fits call.Take may) refl (may_call q j lane call.Take may)
      ∙ sym (v.is.told j lane call.Take legal may)
  report_is (call.Answer l y) h may =
      call_is_told q.plan q.seats s j lane seat (call.Answer l y) st all
      (fits (call.Answer l y) may) refl (may_call q j lane (call.Answer l y) may)
      ∙ sym (v.is.told j lane (call.Answer l y) legal may)
  report_is (call.Ended l how) h may =
      call_is_told q.plan q.seats s j lane seat (call.Ended l how) st all
      (fits (call.Ended l how) may) refl (may_call q j lane (call.Ended l how) may)
      ∙ sym (v.is.told j lane (call.Ended l how) legal may)
  report_is call.Halt h may =
      call_is_told q.plan q.seats s j lane seat call.Halt st all
      (fits call.Halt may) refl (may_call q j lane call.Halt may)
      ∙ sym (v.is.told j lane call.Halt legal may)

  asked : script_of q j lane call.Ask ≡ true
      → Asked q.plan j (lane / 2) (carried_reply s (lane / 2) x.ask)
  asked may = subst (λ (y : Reply). Asked q.plan j (lane / 2) y) (sym (v.carried may))
      (v.is.told j lane call.Ask legal may)

  tick_is : script_of q j lane call.Tick ≡ true → x.tick ≡ q.rule j lane call.Tick
  tick_is may = v.ticked (ticks_there q j lane may)

  ticked : script_of q j lane call.Tick ≡ true → Ticked q.plan j x.tick
  ticked may = subst (λ (y : Reply). Ticked q.plan j y) (sym (tick_is may))
      (v.is.told j lane call.Tick legal may)

  pub turn_is : (c : Call) → is_look c ≡ false → script_of q j lane c ≡ true
      → turned_reply s lane seat x c ≡ q.rule j lane c
  turn_is call.Ask h may = v.carried may
  turn_is (call.Look y) h may = absurd (cc)
  turn_is (call.Launched l how) h may = report_is (call.Launched l how) refl may
  turn_is (call.Wrote l n how) h may = report_is (call.Wrote l n how) refl may
  turn_is (call.Claim a b n f) h may = report_is (call.Claim a b n f) refl may
  turn_is (call.Committed a b how) h may = report_is (call.Committed a b how) refl may
  turn_is (call.Killed l) h may = report_is (call.Killed l) refl may
  turn_is call.Take h may = report_is call.Take refl may
  turn_is (call.Answer l y) h may = report_is (call.Answer l y) refl may
  turn_is (call.Ended l how) h may = report_is (call.Ended l how) refl may
  turn_is call.Halt h may = report_is call.Halt refl may
  turn_is call.Tick h may = tick_is may

  Keeps : Call → Type 0
  Keeps c = is_kept (turned_reply s lane seat x c) ≡ true → Stands q.plan q.seats
      (noted_after (turned s lane seat x c) lane c (turned_reply s lane seat x c))
      (record { lane = lane; call = c; reply = turned_reply s lane seat x c } ∷ j)

  report_keeps : (c : Call) → is_report c ≡ true → script_of q j lane c ≡ true
      → is_kept (made_reply s lane seat c) ≡ true → Stands q.plan q.seats
      (noted_after (made s lane seat c) lane c (made_reply s lane seat c))
      (record { lane = lane; call = c; reply = made_reply s lane seat c } ∷ j)
  report_keeps c h may kept = call_stands q.plan q.seats s j lane seat c st all (fits c may) h
      (may_call q j lane c may) kept

  keeps : (c : Call) → is_look c ≡ false → script_of q j lane c ≡ true → Keeps c
  unfolding Keeps
  keeps call.Ask h may = λ kept. ask_stands q.plan q.seats s j lane st all
      (may_call q j lane call.Ask may) x.ask (asked may) kept
  keeps (call.Look y) h may = absurd (cc)
  keeps (call.Launched l how) h may = report_keeps (call.Launched l how) refl may
  keeps (call.Wrote l n how) h may = report_keeps (call.Wrote l n how) refl may
  keeps (call.Claim a b n f) h may = report_keeps (call.Claim a b n f) refl may
  keeps (call.Committed a b how) h may = report_keeps (call.Committed a b how) refl may
  keeps (call.Killed l) h may = report_keeps (call.Killed l) refl may
  keeps call.Take h may = report_keeps call.Take refl may
  keeps (call.Answer l y) h may = report_keeps (call.Answer l y) refl may
  keeps (call.Ended l how) h may = report_keeps (call.Ended l how) refl may
  keeps call.Halt h may = report_keeps call.Halt refl may
  keeps call.Tick h may = λ kept. tick_stands q.plan q.seats s j lane st
      (may_call q j lane call.Tick may) x.tick (ticked may) kept

  pub turn_stands : (c : Call) → is_look c ≡ false → script_of q j lane c ≡ true
      → is_kept (turned_reply s lane seat x c) ≡ true → Stands q.plan q.seats
      (noted_after (turned s lane seat x c) lane c (turned_reply s lane seat x c))
      (record { lane = lane; call = c; reply = turned_reply s lane seat x c } ∷ j)
  unfolding Keeps
  turn_stands c h may = keeps c h may

  report_can : (c : Call) → script_of q j lane c ≡ true → CanMake s lane seat c
  report_can c may = can_make q.plan q.seats s j lane seat c st all (may_call q j lane c may)

  pub turn_can : (c : Call) → script_of q j lane c ≡ true → CanTurn s lane seat x c
  turn_can call.Ask may = can_carry q.plan q.seats s j lane x.ask st all
      (may_call q j lane call.Ask may) (asked may)
  turn_can (call.Look y) may = report_can (call.Look y) may
  turn_can (call.Launched l how) may = report_can (call.Launched l how) may
  turn_can (call.Wrote l n how) may = report_can (call.Wrote l n how) may
  turn_can (call.Claim a b n f) may = report_can (call.Claim a b n f) may
  turn_can (call.Committed a b how) may = report_can (call.Committed a b how) may
  turn_can (call.Killed l) may = report_can (call.Killed l) may
  turn_can call.Take may = report_can call.Take may
  turn_can (call.Answer l y) may = report_can (call.Answer l y) may
  turn_can (call.Ended l how) may = report_can (call.Ended l how) may
  turn_can call.Halt may = report_can call.Halt may
  turn_can call.Tick may = report_can call.Tick may
