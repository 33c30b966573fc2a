-- Disciplines of scheduling: whatever a lane is told when it asks, its scripts and its other replies
-- are the journal's.
use Rattle.std.specs.Prelude.{◌≡◌, ◌/◌, ℕ, Bool, true, false, ◌&&◌, ◌||◌, Option, None, List, [], ◌∷◌}
use Rattle.run_plan.specs.declared.plan.Kind.{Kind}
use Rattle.run_plan.specs.declared.plan.Plan.{Plan}
use Rattle.exec_journal.specs.declared.call.Call.{Call}
use Rattle.exec_journal.specs.declared.call.Call.TheVariants as call
use Rattle.exec_journal.specs.Entry.{Entry}
use Rattle.exec_journal.specs.declared.reply.Reply.{Reply}
use Rattle.exec_journal.specs.Entries.{is_kept}
use Rattle.exec_journal.specs.Lawful.{Told, plain_reply, may_tick}
use Rattle.exec_journal.specs.Rules.{rule}
use Rattle.exec_journal.specs.Scripts.{seat_script}
use Rattle.run_plan.specs.Groups.{berths, is_remote, kind_of}
use Rattle.run_plan.specs.Sound.{Sound}
use Rattle.core_contract.specs.Discipline.{Discipline}
use Rattle.core_contract.specs.Laws.{OrderFits, fits}

abbrev pub berth_script : Discipline → List Entry → ℕ → Call → Bool
berth_script q j lane c = seat_script q.seats q.kinds q.plan j lane c

-- a lane that makes Ticks may make one wherever it may ask
abbrev pub script_of : Discipline → List Entry → ℕ → Call → Bool
script_of q j lane c =
    (q.ticks lane && may_tick (berth_script q j lane call.Ask) None c) || berth_script q j lane c

pub record LegalEntryBy (q : Discipline) (j : List Entry) (e : Entry) : Type 0 where
  pub scripted : script_of q j e.lane e.call ≡ true
  pub replied : e.reply ≡ q.rule j e.lane e.call
  pub kept : is_kept e.reply ≡ true

abbrev pub LegalBy : Discipline → List Entry → Type 0
LegalBy q [] = Unit {0}
LegalBy q (e ∷ j) = LegalBy q j × LegalEntryBy q j e

-- a call whose reply is the same in each discipline, after any entries
abbrev pub is_plain : Call → Bool
is_plain call.Ask = false
is_plain call.Tick = false
is_plain (call.Answer l x) = false
is_plain _ = true

-- What a discipline keeps: each order has its reasons, each other reply is the journal's, and an order
-- is of an attempt whose group is an executor's exactly if the berth is.
pub record IsDiscipline (q : Discipline) : Type 0 where
  pub told : (j : List Entry) (lane : ℕ) (c : Call) → LegalBy q j
      → script_of q j lane c ≡ true → Told q.plan j lane c (q.rule j lane c)
  pub plain : (j : List Entry) (lane : ℕ) (c : Call) → is_plain c ≡ true
      → q.rule j lane c ≡ plain_reply q.plan j lane c
  pub fitting : (j : List Entry) (lane : ℕ) (c : Call) → fits c (q.rule j lane c) ≡ true
  pub seated : (j : List Entry) (lane : ℕ) → Sound q.plan → LegalBy q j
      → script_of q j lane call.Ask ≡ true
      → OrderFits q.plan (is_remote (q.kinds (lane / 2))) (q.rule j lane call.Ask)

-- ---- of the plan's own berths

abbrev pub own_rule : Plan → List Entry → ℕ → Call → Reply
own_rule p j lane c = rule p j lane c

abbrev pub own_discipline : Plan → Discipline
own_discipline p = record {
  plan = p;
  seats = berths p;
  served = berths p;
  kinds = kind_of p;
  ticks = λ _. false;
  rule = own_rule p;
}
