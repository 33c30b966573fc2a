-- What the rule of shared berths gives is what a discipline gives.
use Rattle.std.proofs.Common.{◌≡◌, ℕ, ◌/◌, true, List, Option, refl}
use Rattle.exec_journal.specs.declared.call.Call.{Call}
use Rattle.exec_journal.specs.declared.call.Call.TheVariants as call
use Rattle.exec_journal.specs.Entry.{Entry}
use Rattle.exec_journal.specs.Lawful.{plain_reply}
use Rattle.core_contract.specs.Disciplines.{IsDiscipline, is_plain}
use Rattle.core_contract.specs.Laws.{fits}
use Rattle.discipline_laws.proofs.Fitting.{plain_fits, told_fits}
use Rattle.placed_rules.specs.declared.pools.SharedPlan.{SharedPlan}
use Rattle.placed_rules.specs.Pools.{pools_fit}
use Rattle.placed_rules.specs.Shared.{pooled_rule}
use Rattle.placed_rules.specs.Placed.{pooled_discipline}
use Rattle.placed_rules.proofs.PoolLawful as lf
use Rattle.placed_rules.proofs.Pooled.{orders_fit}
use Rattle.placed_rules.proofs.Ticking.{ticked_fits}

rule_fits : (s : SharedPlan) (ticks : Option ℕ) (j : List Entry) (lane : ℕ) (c : Call)
    → fits c (pooled_rule s ticks j lane c) ≡ true
rule_fits s ticks j lane call.Ask =
    told_fits s.plan j lane call.Ask (pooled_rule s ticks j lane call.Ask)
    (lf.ask_told s ticks j (lane / 2))
rule_fits s ticks j lane call.Tick = ticked_fits s.plan ticks j
rule_fits s ticks j lane c = plain_fits s.plan j lane c (λ e. cc)

rule_plain : (s : SharedPlan) (ticks : Option ℕ) (j : List Entry) (lane : ℕ) (c : Call)
    → is_plain c ≡ true → pooled_rule s ticks j lane c ≡ plain_reply s.plan j lane c
rule_plain s ticks j lane call.Ask h = absurd (cc)
rule_plain s ticks j lane call.Tick h = absurd (cc)
rule_plain s ticks j lane _ h = refl

pub pooled_is_discipline : (s : SharedPlan) (ticks : Option ℕ) → pools_fit s ≡ true
    → IsDiscipline (pooled_discipline s ticks)
pooled_is_discipline s ticks fit = record {
  told = λ j lane d legal may. lf.told s ticks j lane d may;
  plain = λ j lane d h. rule_plain s ticks j lane d h;
  fitting = λ j lane d. rule_fits s ticks j lane d;
  seated = λ j lane sound legal may. orders_fit s ticks j lane fit legal;
}
