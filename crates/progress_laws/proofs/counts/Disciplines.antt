-- In each scheduling discipline calls are few.
use Rattle.std.proofs.Common.{ℕ, ◌*◌, List, [], ◌∷◌, Some, None, refl, arith}
use Rattle.std.proofs.lemmas.Bool.{ltb-true}
use Rattle.run_plan.specs.declared.plan.Plan.{Plan}
use Rattle.run_plan.specs.Groups.{berths}
use Rattle.run_plan.specs.Sound.{Sound}
use Rattle.exec_journal.specs.Entry.{Entry}
use Rattle.journal_laws.proofs.Ours as ours
use Rattle.core_contract.specs.Disciplines.{LegalBy, own_discipline}
use Rattle.core_contract.specs.Discipline.{Discipline}
use Rattle.discipline_laws.proofs.Fitting as fi
use Rattle.discipline_laws.proofs.OwnDiscipline as od
use Rattle.placed_rules.specs.Placed.{delayed_discipline, on_own}
use Rattle.placed_rules.specs.Own.{delayed_seats}
use Rattle.placed_rules.proofs.Bounded as db
use Rattle.placed_rules.proofs.Ticking.{no_ticks}
use Rattle.placed_rules.proofs.OwnLawful as dl
use Rattle.placed_rules.specs.declared.pools.SharedPlan.{SharedPlan}
use Rattle.placed_rules.specs.Pools.{seats}
use Rattle.placed_rules.specs.Placed.{shared_discipline}
use Rattle.placed_rules.proofs.PoolLawful as sl
use Rattle.progress_laws.specs.Few.{AllWithin, CallsAreFew, DelayedCallsAreFew}
use Rattle.progress_laws.proofs.counts.AllCalls.{calls_few}

-- each entry is of a lane of the discipline's berths
within_seats : (q : Discipline) (j : List Entry) → LegalBy q j → AllWithin (2 * q.seats) j
within_seats q [] legal = tt
within_seats q (e ∷ j) legal = (
  within_seats q j legal.0,
  ltb-true e.lane (2 * q.seats) (fi.in_seats q j e.lane e.call legal.1.scripted),
)

-- ---- the three

pub own_few : (p : Plan) (j : List Entry) → Sound p → LegalBy (own_discipline p) j
    → CallsAreFew p (2 * berths p) j
own_few p j sound legal =
    let few = calls_few p (2 * berths p) j sound.least (ours.lawful p j (od.own_legal p j legal))
    (within_seats (own_discipline p) j legal) in
    let none = no_ticks (own_discipline p) (λ _. refl) j legal in
    omega (arith, few, none)

pub delayed_few : (p : Plan) (n : ℕ) (j : List Entry) → Sound p → LegalBy (delayed_discipline p n) j
    → DelayedCallsAreFew p n (2 * delayed_seats p) j
delayed_few p n j sound legal =
    let few = calls_few p (2 * delayed_seats p) j sound.least (dl.lawful p n j legal)
    (within_seats (delayed_discipline p n) j legal) in
    let ticks = db.few (on_own p (Some n)) j legal in
    omega (arith, few, ticks)

pub shared_few : (s : SharedPlan) (j : List Entry) → Sound s.plan → LegalBy (shared_discipline s) j
    → CallsAreFew s.plan (2 * seats s) j
shared_few s j sound legal =
    let few = calls_few s.plan (2 * seats s) j sound.least (sl.lawful s None j legal)
    (within_seats (shared_discipline s) j legal) in
    let none = no_ticks (shared_discipline s) (λ _. refl) j legal in
    omega (arith, few, none)
