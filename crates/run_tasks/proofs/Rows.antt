-- A few cases, worked through.
use Rattle.std.proofs.Common.{◌≡◌, zero, suc, false, [], ◌∷◌, None, Err, refl, ap, sym}
use Rattle.build_report.specs.declared.fault.RunFault.TheVariants as fault
use Rattle.run_values.specs.Settings.{speaks_remote}
use Rattle.run_plan.specs.declared.plan.Kind.TheVariants as kind
use Rattle.run_plan.specs.declared.plan.Plan.{Plan}
use Rattle.run_plan.specs.declared.plan.Speech.TheVariants as speech
use Rattle.run_tasks.specs.Course.{Course}
use Rattle.run_tasks.specs.Tasks.{SpeechesFit}

-- words that aren't accepted
nothing_read : Course None [] (Err fault.Words)
nothing_read = (refl, refl)

-- a berth of a worker and one of an executor
abbrev two_berths : Plan
two_berths = record {
  actions = [];
  groups = record { kind = kind.Single; cancel = false; berths = 1 }
      ∷ record { kind = kind.Remote; cancel = false; berths = 1 } ∷ [];
  limit = 1;
}

in_order : SpeechesFit two_berths (speech.Json ∷ speech.Remote ∷ [])
in_order zero s at = let e : speech.Json ≡ s = cc in ap speaks_remote (sym e)
in_order (suc zero) s at = let e : speech.Remote ≡ s = cc in ap speaks_remote (sym e)
in_order (suc (suc w)) s at = absurd (cc)

turned : SpeechesFit two_berths (speech.Remote ∷ speech.Json ∷ []) → ⊥
turned fit = let e = fit 0 speech.Remote refl in cc
