-- Two worker keys on the one berth of a pool: the first one's worker was asked, the second one's
-- branch is queued, every lane rests, and the answer is owed.
use Rattle.std.proofs.Common.{◌≡◌, ◌*◌, ◌⊎◌, ℕ, zero, suc, refl, ◌∙◌, true, false, Some, None, [], ◌∷◌, ap, subst, arith}
use Rattle.run_plan.specs.declared.plan.Branch.TheVariants.{Local, Remote}
use Rattle.run_plan.specs.declared.plan.PlanAction.{PlanAction}
use Rattle.run_plan.specs.Sound.{Sound}
use Rattle.exec_journal.specs.Settled.{all_settled, queued}
use Rattle.exec_journal.specs.Words.{halted}
use Rattle.exec_journal.proofs.Parts.{plan_of, single, worker}
use Rattle.journal_laws.specs.Invariant.{claimed}
use Rattle.journal_laws.proofs.rows.Opened.{words}
use Rattle.core_contract.specs.Disciplines.{LegalBy}
use Rattle.placed_rules.specs.Pools.{seats}
use Rattle.placed_rules.specs.Shared.{next_starved}
use Rattle.placed_rules.specs.Placed.{shared_discipline}
use Rattle.placed_rules.specs.Needs.{all_lines, has_match_waiting, is_starved, may_evict, silent_for}
use Rattle.placed_rules.proofs.PoolRows.{one_pool, second}
use Rattle.progress_laws.specs.Awaits.{Awaits}
use Rattle.progress_laws.specs.Rests.{AllRest, Hears, Idles}
use Rattle.placed_rules.specs.Runnable.{EachHasPool, HasPool}
use Rattle.progress_laws.proofs.Options.{some_same}
use Rattle.progress_laws.proofs.Shared.{never_stuck}
use Rattle.progress_laws.proofs.rows.OwnBerths.{asked_5}

unfoldable pub shared_words : Unit {0}
unfolding words claimed all_lines has_match_waiting is_starved may_evict silent_for next_starved
shared_words = tt

-- ---- the premises

sound : Sound one_pool.plan
unfolding one_pool plan_of worker second single
sound = record {
  least = omega arith;
  most = omega arith;
  actions = omega arith;
  seats = omega arith;
  groups = omega arith;
  each_group = refl;
  each_action = refl;
}

first_has : HasPool one_pool 0
unfolding one_pool plan_of worker second single
first_has = record {
  berth = 0;
  within = omega arith;
  pool = record { groups = 0 ∷ 1 ∷ []; berths = 1 };
  is = refl;
  member = refl;
  room = refl;
}

second_has : HasPool one_pool 1
unfolding one_pool plan_of worker second single
second_has = record {
  berth = 0;
  within = omega arith;
  pool = record { groups = 0 ∷ 1 ∷ []; berths = 1 };
  is = refl;
  member = refl;
  room = refl;
}

seated : EachHasPool one_pool
unfolding one_pool plan_of worker second
seated zero x Local g at runs =
    let named : Some 0 ≡ Some g = ap (λ (y : PlanAction). y.local) (some_same worker x at) ∙ runs in
    subst (HasPool one_pool) (some_same 0 g named) first_has
seated zero x Remote g at runs =
    let named : None ≡ Some g = ap (λ (y : PlanAction). y.remote) (some_same worker x at) ∙ runs in
    absurd (cc)
seated (suc zero) x Local g at runs =
    let named : Some 1 ≡ Some g = ap (λ (y : PlanAction). y.local) (some_same second x at) ∙ runs in
    subst (HasPool one_pool) (some_same 1 g named) second_has
seated (suc zero) x Remote g at runs =
    let named : None ≡ Some g = ap (λ (y : PlanAction). y.remote) (some_same second x at) ∙ runs in
    absurd (cc)
seated (suc (suc a)) x b g at runs = absurd (cc)

legal : LegalBy (shared_discipline one_pool) asked_5
unfolding one_pool asked_5 shared_words
legal = (
  (
    (
      (
        (tt, record { scripted = refl; replied = refl; kept = refl }),
        record { scripted = refl; replied = refl; kept = refl },
      ),
      record { scripted = refl; replied = refl; kept = refl },
    ),
    record { scripted = refl; replied = refl; kept = refl },
  ),
  record { scripted = refl; replied = refl; kept = refl },
)

unhalted : halted asked_5 ≡ false
unfolding asked_5 shared_words
unhalted = refl

rests : AllRest (shared_discipline one_pool) (2 * seats one_pool) asked_5
unfolding one_pool asked_5 shared_words
rests zero lt = Idles refl refl
rests (suc zero) lt = Hears 0 refl
rests (suc (suc lane)) lt = absurd (omega (arith, lt))

-- ---- the conclusion: not all is settled, and the process of the pool's one line owes its answer

concludes : (all_settled one_pool.plan asked_5 ≡ true) ⊎ ((l : ℕ) × Awaits asked_5 l)
concludes = never_stuck one_pool asked_5 sound seated legal unhalted rests

unsettled : all_settled one_pool.plan asked_5 ≡ false
unfolding one_pool asked_5 shared_words
unsettled = refl

waiting : queued one_pool.plan asked_5 1 Local second ≡ true
unfolding one_pool asked_5 second shared_words
waiting = refl
