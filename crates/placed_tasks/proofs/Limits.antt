-- What holds of all options that words give.
use Rattle.std.proofs.Common.{◌≡◌, ◌≤◌, ℕ, ◌+◌, Bool, true, false, cond, List, [], ◌∷◌, Option, Some, None, IfSome, refl, arith}
use Rattle.std.specs.Prelude.{codes, filter_map}
use Rattle.std.specs.List.{cons_option}
use Rattle.std.proofs.lemmas.Bool.{leb-true}
use Rattle.run_plan.specs.Limits.{most_actions, most_local_berths}
use Rattle.tool_words.specs.Options.{first_of}
use Rattle.tool_words.specs.Words.{behind}
use Rattle.tool_words.proofs.Limits.{in_option}
use Rattle.shared_tasks.specs.Words.{IsWithin, workers_in}
use Rattle.spawn_strategies.specs.declared.types.SpawnOptions.{SpawnOptions}
use Rattle.spawn_strategies.specs.Choices.{AreLimits, sandboxes}
use Rattle.spawn_strategies.specs.SpawnOptions.{AreGiven}
use Rattle.placed_tasks.specs.declared.words.RunOptions.{RunOptions}
use Rattle.placed_tasks.specs.Tasks.{instances_by, keys_by, limits_of}
use Rattle.placed_tasks.specs.Words.{AreRunOptions, fits, if_fitting}

first_by : (P : ℕ → Type 0) (o : Option ℕ) (ys : List ℕ) → IfSome o P → IfSome (first_of ys) P
    → IfSome (first_of (cons_option o ys)) P
first_by P None ys h rest = rest
first_by P (Some y) ys h rest = h

pub within : (words : List (List ℕ)) → IfSome (first_of (filter_map workers_in words)) (IsWithin 1 24)
within [] = tt
within (w ∷ ws) =
    first_by (IsWithin 1 24) (workers_in w) (filter_map workers_in ws)
    (in_option 1 24 (behind (codes "--max_workers=") w)) (within ws)

pub when_fitting : (workers : List ℕ) (s : SpawnOptions) → AreGiven s
    → IfSome (first_of workers) (IsWithin 1 24) → IfSome (if_fitting workers s) AreRunOptions
when_fitting workers s given some = by (fits s) refl
  where
    by : (b : Bool) → fits s ≡ b
        → IfSome (cond b (Some (record { given = s; workers = first_of workers })) None)
        AreRunOptions
    by true e =
        let sum = leb-true (sandboxes s.strategies + s.options.remote) 16 e in
        record { fitting = record { given = given; few = sum }; workers = some }
    by false e = tt

-- ---- the chosen plan may be made by its limits

few_keys : (w : Option ℕ) → keys_by w ≤ most_actions
few_keys None = omega arith
few_keys (Some n) = omega arith

few_instances : (w : Option ℕ) (n : ℕ) → n ≤ most_local_berths → instances_by w n ≤ most_local_berths
few_instances None n few = few
few_instances (Some m) n few = omega arith

pub are_limits : (o : RunOptions) → AreRunOptions o → AreLimits (limits_of o)
are_limits o limits = record {
  keys = few_keys o.workers;
  instances = few_instances o.workers o.given.options.instances limits.fitting.given.options.instances.1;
  remote = limits.fitting.given.options.remote.0;
  retries = limits.fitting.given.options.retries;
}
