-- The laws of a policy, on own berths and on those of pools.
use Rattle.std.proofs.Common.{◌≡◌, ℕ, ◌*◌, ◌/◌, ◌<◌, ◌≤◌, ◌==◌, true, false, List, [], Option, Some, None, ap, refl, sym, subst, ◌∙◌}
use Rattle.run_plan.specs.declared.plan.Plan.{Plan}
use Rattle.run_plan.specs.Groups.{berths}
use Rattle.run_plan.specs.Sound.{Sound}
use Rattle.exec_journal.specs.declared.call.Call.TheVariants as call
use Rattle.exec_journal.specs.Entry.{Entry}
use Rattle.core_state.specs.declared.state.State.{State}
use Rattle.core_state.specs.Machine.{carried_reply}
use Rattle.core_contract.specs.Disciplines.{IsDiscipline, LegalBy, script_of}
use Rattle.spawn_core.specs.Plans.{no_plan}
use Rattle.spawn_core.specs.Policies as policies
use Rattle.spawn_core.specs.Policies.{SaysSeat}
use Rattle.placed_rules.specs.declared.placed.Placed.{Placed}
use Rattle.placed_rules.specs.declared.placed.Seating.{Seating}
use Rattle.placed_rules.specs.declared.placed.Seating.TheVariants as seating
use Rattle.placed_rules.specs.Due as rules
use Rattle.placed_rules.specs.Kept.{PlacedKept}
use Rattle.placed_rules.specs.Placed.{on_own, placed, placed_discipline, seats_with, served_in, shared_by, ticks_with}
use Rattle.placed_rules.specs.Pools.{usable}
use Rattle.placed_rules.proofs.Usable.{usable_is_discipline}
use Rattle.placed_rules.proofs.Whole.{kept, own_is_discipline}
use Rattle.placed_berths.specs.declared.policy.PlacedBerths.{PlacedBerths}
use Rattle.placed_berths.specs.declared.policy.Berths.{Berths}
use Rattle.placed_berths.specs.declared.policy.Berths.TheVariants as own
use Rattle.placed_berths.specs.Basis.{placed_by, seating_in, ticks_in, usable_in, usable_placed}
use Rattle.placed_berths.specs.Choices.{ReadsOn, ReadsPlaced, choice_at, chosen, seat_on, seated}
use Rattle.placed_berths.specs.Counts.{Facts}
use Rattle.placed_berths.specs.Due as due
use Rattle.placed_berths.specs.DueTold as told
use Rattle.placed_berths.specs.OwnLaws as owns
use Rattle.placed_berths.specs.PoolLaws as pools
use Rattle.placed_berths.specs.Stands.{BerthsStand, DelayStands, StandsBy}

pub nothing : Placed
nothing = on_own no_plan None

-- ---- of the discipline

abbrev ruled : Plan → Seating → Option ℕ → Placed
ruled p y ticks = placed p (usable_in p y) ticks

discipline_in : (p : Plan) (y : Seating) (ticks : Option ℕ)
    → IsDiscipline (placed_discipline (ruled p y ticks))
discipline_in p seating.Own ticks = own_is_discipline p ticks
discipline_in p (seating.Pools xs instances) ticks =
    usable_is_discipline (shared_by p xs instances) ticks

pub is_placed : (b : Placed) → IsDiscipline (placed_discipline (usable_placed b))
is_placed b = discipline_in b.plan b.seating b.ticks

pub few_in : (p : Plan) (y : Seating) (ticks : Option ℕ) → Sound p
    → seats_with ticks (served_in p (usable_in p y)) ≤ 128
few_in p seating.Own ticks sound = owns.few_berths p ticks sound
few_in p (seating.Pools xs instances) ticks sound =
    pools.few_berths (shared_by p xs instances) ticks

pub few_berths : (b : Placed) → Sound b.plan
    → (placed_discipline (usable_placed b)).seats ≤ 128
few_berths b sound = few_in b.plan b.seating b.ticks sound

pub kept_is : (b : Placed) (j : List Entry) → Sound b.plan
    → LegalBy (placed_discipline (usable_placed b)) j → PlacedKept (usable_placed b) j
kept_is b j sound legal = kept (usable_placed b) j sound legal

-- ---- of the basis

seating_is : (p : Plan) (y : Seating) (m : Berths) (j : List Entry) → BerthsStand p y m j
    → seating_in m ≡ y
seating_is p seating.Own own.Own j stands = refl
seating_is p (seating.Pools xs instances) (own.Shared x) j stands =
    λ i. seating.Pools (stands.pools i) (stands.instances i)
seating_is p seating.Own (own.Shared x) j stands = absurd stands
seating_is p (seating.Pools xs instances) own.Own j stands = absurd stands

ticks_is : (p : Plan) (ticks : Option ℕ) (d : Option Facts) (j : List Entry)
    → DelayStands p ticks d j → ticks_in d ≡ ticks
ticks_is p None None j stands = refl
ticks_is p (Some n) (Some f) j stands = ap Some stands.ticks
ticks_is p None (Some f) j stands = absurd stands
ticks_is p (Some n) None j stands = absurd stands

pub basis_is : (b : Placed) (m : PlacedBerths) (j : List Entry) → StandsBy b m j
    → placed_by m b.plan ≡ b
basis_is b m j stands =
    let seat = seating_is b.plan b.seating m.seating j stands.seating in
    let ticks = ticks_is b.plan b.ticks m.delay j stands.delay in
    λ i. placed b.plan (seat i) (ticks i)

-- ---- of what it says and chooses

module _ (p : Plan) (ticks : Option ℕ) (d : Option Facts) (s : State) (j : List Entry)
    (so : DelayStands p ticks d j) where
  abbrev Stood : Seating → Type 0
  Stood y = policies.StandsBy (placed_discipline (ruled p y ticks)) s j

  reads_on : (y : Seating) (m : Berths) → BerthsStand p y m j → Stood y → ReadsOn m d s
  reads_on seating.Own own.Own stands st = owns.own_reads p d s j ticks st
  reads_on (seating.Pools xs instances) (own.Shared x) stands st =
      pools.pool_reads (shared_by p xs instances) ticks x d j stands so s st
  reads_on seating.Own (own.Shared x) stands st = absurd stands
  reads_on (seating.Pools xs instances) own.Own stands st = absurd stands

  seats_on : (y : Seating) (m : Berths) → BerthsStand p y m j → Stood y → (w : ℕ)
      → w < (placed_discipline (ruled p y ticks)).seats
      → SaysSeat (placed_discipline (ruled p y ticks)) j w (seat_on m d s w)
  seats_on seating.Own own.Own stands st w lt = owns.own_seats p d s j ticks so w st lt
  seats_on (seating.Pools xs instances) (own.Shared x) stands st w lt =
      pools.pool_seats (shared_by p xs instances) ticks x d j stands so s st w lt
  seats_on seating.Own (own.Shared x) stands st w lt = absurd stands
  seats_on (seating.Pools xs instances) own.Own stands st w lt = absurd stands

  choices_on : (y : Seating) (m : Berths) → BerthsStand p y m j → Stood y → (lane : ℕ)
      → script_of (placed_discipline (ruled p y ticks)) j lane call.Ask ≡ true
      → carried_reply s (lane / 2) (choice_at m d s (lane / 2))
      ≡ (placed_discipline (ruled p y ticks)).rule j lane call.Ask
  choices_on seating.Own own.Own stands st lane may =
      owns.own_choices p d s j ticks so lane st may
  choices_on (seating.Pools xs instances) (own.Shared x) stands st lane may =
      pools.pool_choices (shared_by p xs instances) ticks x d j stands so s st lane may
  choices_on seating.Own (own.Shared x) stands st lane may = absurd stands
  choices_on (seating.Pools xs instances) own.Own stands st lane may = absurd stands

  -- a Tick is answered alike on berths of either kind, where a lane makes them
  rule_ticked : (y : Seating) (t : Option ℕ) (lane : ℕ) → (t ≡ None → ⊥)
      → rules.ticked p t j ≡ (placed_discipline (ruled p y t)).rule j lane call.Tick
  rule_ticked y None lane some = absurd (some refl)
  rule_ticked seating.Own (Some n) lane some = refl
  rule_ticked (seating.Pools xs instances) (Some n) lane some = refl

module _ (b : Placed) (m : PlacedBerths) (s : State) (j : List Entry)
    (st : policies.StandsBy (placed_discipline (usable_placed b)) s j) (own : StandsBy b m j) where
  abbrev n : ℕ
  n = (placed_discipline (usable_placed b)).seats

  pub reads_are : ReadsPlaced m s
  reads_are = record {
    berths = reads_on b.plan b.ticks m.delay s j own.delay b.seating m.seating own.seating st;
    due = told.reads_due b.plan n s j st.tables b.ticks m.delay own.delay;
  }

  pub seats_of : (w : ℕ) → w < n → SaysSeat (placed_discipline (usable_placed b)) j w (seated m s w)
  seats_of w lt =
      seats_on b.plan b.ticks m.delay s j own.delay b.seating m.seating own.seating st w lt

  pub choices_of : (lane : ℕ)
      → script_of (placed_discipline (usable_placed b)) j lane call.Ask ≡ true
      → carried_reply s (lane / 2) (chosen m s (lane / 2))
      ≡ (placed_discipline (usable_placed b)).rule j lane call.Ask
  choices_of lane may =
      choices_on b.plan b.ticks m.delay s j own.delay b.seating m.seating own.seating st lane may

  pub ticks_of : (lane : ℕ) → (placed_discipline (usable_placed b)).ticks lane ≡ true
      → due.ticked_by m.delay s ≡ (placed_discipline (usable_placed b)).rule j lane call.Tick
  ticks_of lane makes =
      told.ticked_by b.plan n s j st.tables b.ticks m.delay own.delay some
      ∙ rule_ticked b.plan b.ticks m.delay s j own.delay b.seating b.ticks lane some
    where
      some : b.ticks ≡ None → ⊥
      some none = let clash = sym makes
          ∙ ap (λ t. ticks_with t (served_in b.plan (usable_in b.plan b.seating)) lane) none in cc

pub seats_are : (b : Placed) (m : PlacedBerths) (s : State) (j : List Entry) (w : ℕ)
    → policies.StandsBy (placed_discipline (usable_placed b)) s j → StandsBy b m j
    → w < (placed_discipline (usable_placed b)).seats
    → SaysSeat (placed_discipline (usable_placed b)) j w (seated m s w)
seats_are b m s j w st own lt = seats_of b m s j st own w lt

pub choices_are : (b : Placed) (m : PlacedBerths) (s : State) (j : List Entry) (lane : ℕ)
    → policies.StandsBy (placed_discipline (usable_placed b)) s j → StandsBy b m j
    → script_of (placed_discipline (usable_placed b)) j lane call.Ask ≡ true
    → carried_reply s (lane / 2) (chosen m s (lane / 2))
    ≡ (placed_discipline (usable_placed b)).rule j lane call.Ask
choices_are b m s j lane st own may = choices_of b m s j st own lane may

pub ticks_are : (b : Placed) (m : PlacedBerths) (s : State) (j : List Entry) (lane : ℕ)
    → policies.StandsBy (placed_discipline (usable_placed b)) s j → StandsBy b m j
    → (placed_discipline (usable_placed b)).ticks lane ≡ true
    → due.ticked_by m.delay s ≡ (placed_discipline (usable_placed b)).rule j lane call.Tick
ticks_are b m s j lane st own makes = ticks_of b m s j st own lane makes
