-- Plans with a branch that has nowhere to run: every lane rests, no process owes anything, and the
-- action is never settled. Each misses one premise.
use Rattle.std.proofs.Common.{◌≡◌, ◌+◌, ◌*◌, ◌⊎◌, ℕ, zero, suc, inl, inr, refl, true, List, [], ◌∷◌, arith}
use Rattle.run_plan.specs.declared.plan.Branch.TheVariants.{Remote}
use Rattle.run_plan.specs.declared.plan.Plan.{Plan}
use Rattle.run_plan.specs.Groups.{berths}
use Rattle.run_plan.specs.Sound.{Sound}
use Rattle.exec_journal.specs.declared.call.Call.TheVariants as call
use Rattle.exec_journal.specs.declared.call.Started.TheVariants as start
use Rattle.exec_journal.specs.declared.reply.Reply.TheVariants as reply
use Rattle.exec_journal.specs.Entry.{Entry}
use Rattle.exec_journal.specs.Settled.{all_settled}
use Rattle.exec_journal.proofs.Parts.{dynamic, entry, plan_of, remote, single, worker}
use Rattle.journal_laws.specs.IsLegal.{is_legal}
use Rattle.journal_laws.proofs.Decided.{legal_by}
use Rattle.journal_laws.proofs.rows.Opened.{words}
use Rattle.discipline_laws.proofs.OwnDiscipline.{legal_own}
use Rattle.core_contract.specs.Disciplines.{LegalBy, own_discipline}
use Rattle.placed_rules.specs.Placed.{delayed_discipline}
use Rattle.placed_rules.specs.declared.pools.SharedPlan.{SharedPlan}
use Rattle.placed_rules.specs.Pools.{seats}
use Rattle.placed_rules.specs.Placed.{shared_discipline}
use Rattle.progress_laws.specs.Awaits.{Awaits}
use Rattle.progress_laws.specs.Rests.{AllRest, Idles}
use Rattle.progress_laws.proofs.rows.Delay.{delayed_words}
use Rattle.progress_laws.proofs.rows.SharedBerths.{shared_words}

-- neither is all settled, nor does a process owe anything
abbrev IsStuck : Plan → List Entry → Type 0
IsStuck p j = (all_settled p j ≡ true) ⊎ ((l : ℕ) × Awaits j l) → ⊥

-- ---- a group without a berth: nothing ever happens

unfoldable no_berth : Plan
unfolding plan_of worker single
no_berth = plan_of (worker ∷ []) (single 0 ∷ []) 1

no_berth_sound : Sound no_berth
unfolding no_berth plan_of worker single
no_berth_sound = record {
  least = omega arith;
  most = omega arith;
  actions = omega arith;
  seats = omega arith;
  groups = omega arith;
  each_group = refl;
  each_action = refl;
}

no_berth_rests : AllRest (own_discipline no_berth) (2 * berths no_berth) []
unfolding no_berth plan_of worker single
no_berth_rests lane lt = absurd (omega (arith, lt))

-- with a delay there is the lane that makes Ticks, and it has none to make
no_berth_ticks : AllRest (delayed_discipline no_berth 3) (2 * berths no_berth + 1) []
unfolding no_berth delayed_words
no_berth_ticks zero lt = Idles refl refl
no_berth_ticks (suc lane) lt = absurd (omega (arith, lt))

no_berth_stuck : IsStuck no_berth []
unfolding no_berth words
no_berth_stuck (inl all) = cc
no_berth_stuck (inr owes) = let given = owes.1.given in cc

-- ---- the executor failed to start, and the worker's group has no berth

unfoldable one_side : Plan
unfolding plan_of dynamic single remote
one_side = plan_of (dynamic ∷ []) (single 0 ∷ remote ∷ []) 1

unfoldable failed_2 : List Entry
unfolding entry
failed_2 =
    entry 0 (call.Launched 0 start.LaunchFault) reply.Noted
    ∷ entry 0 call.Ask (reply.Launch 0 0 Remote 1)
    ∷ []

one_side_legal : is_legal one_side failed_2 ≡ true
unfolding one_side failed_2 words
one_side_legal = refl

legal : LegalBy (own_discipline one_side) failed_2
legal = legal_own one_side failed_2 (legal_by one_side failed_2 one_side_legal)

one_side_rests : AllRest (own_discipline one_side) (2 * berths one_side) failed_2
unfolding one_side failed_2 words
one_side_rests zero lt = Idles refl refl
one_side_rests (suc zero) lt = Idles refl refl
one_side_rests (suc (suc lane)) lt = absurd (omega (arith, lt))

one_side_stuck : IsStuck one_side failed_2
unfolding one_side failed_2 words
one_side_stuck (inl all) = cc
one_side_stuck (inr owes) = let given = owes.1.given in cc

-- ---- a pool without a berth, and a group that may hold no line

unfoldable one_group : Plan
unfolding plan_of worker single
one_group = plan_of (worker ∷ []) (single 0 ∷ []) 1

unfoldable empty_pool : SharedPlan
unfolding one_group
empty_pool = record {
  plan = one_group;
  pools = record { groups = 0 ∷ []; berths = 0 } ∷ [];
  instances = 1;
}

empty_pool_rests : AllRest (shared_discipline empty_pool) (2 * seats empty_pool) []
unfolding empty_pool
empty_pool_rests lane lt = absurd (omega (arith, lt))

empty_pool_stuck : IsStuck empty_pool.plan []
unfolding empty_pool one_group words
empty_pool_stuck (inl all) = cc
empty_pool_stuck (inr owes) = let given = owes.1.given in cc

unfoldable no_instance : SharedPlan
unfolding one_group
no_instance = record {
  plan = one_group;
  pools = record { groups = 0 ∷ []; berths = 1 } ∷ [];
  instances = 0;
}

no_instance_rests : AllRest (shared_discipline no_instance) (2 * seats no_instance) []
unfolding no_instance one_group shared_words
no_instance_rests zero lt = Idles refl refl
no_instance_rests (suc zero) lt = Idles refl refl
no_instance_rests (suc (suc lane)) lt = absurd (omega (arith, lt))

no_instance_stuck : IsStuck no_instance.plan []
unfolding no_instance one_group words
no_instance_stuck (inl all) = cc
no_instance_stuck (inr owes) = let given = owes.1.given in cc
