-- The pools of a plan: the groups that speak protobuf, those that speak JSON, and each executor's group.
use Rattle.std.specs.Prelude.{ℕ, suc, Bool, true, false, ◌++◌, if◌then◌else◌, List, [], ◌∷◌, flat_map, map, replicate}
use Rattle.action_list.specs.declared.parts.GroupPart.{GroupPart}
use Rattle.run_plan.specs.declared.plan.Group.{Group}
use Rattle.run_plan.specs.declared.plan.Speech.{Speech}
use Rattle.run_plan.specs.declared.plan.Speech.TheVariants as speech
use Rattle.run_plan.specs.Groups.{is_remote}
use Rattle.placed_rules.specs.declared.pools.SharedPool.{SharedPool}

abbrev pub is_same : Speech → Speech → Bool
is_same speech.Proto speech.Proto = true
is_same speech.Json speech.Json = true
is_same speech.Remote speech.Remote = true
is_same _ _ = false

-- of the groups with these parts, the first of which has this number, those with this speech
abbrev pub speaking_from : Speech → ℕ → List GroupPart → List ℕ
speaking_from s g [] = []
speaking_from s g (x ∷ xs) =
    if is_same x.speech s then g ∷ speaking_from s (suc g) xs else speaking_from s (suc g) xs

-- the pool of these groups with its speech, where there are any
abbrev pub pool_if : Speech → List ℕ → ℕ → List (Speech × SharedPool)
pool_if s [] n = []
pool_if s (g ∷ gs) n = (s, record { groups = g ∷ gs; berths = n }) ∷ []

abbrev pub pool_of : Speech → List GroupPart → ℕ → List (Speech × SharedPool)
pool_of s parts n = pool_if s (speaking_from s 0 parts) n

-- of the groups, the first of which has this number, each executor's with its own berths
abbrev pub executors_from : ℕ → List Group → List (Speech × SharedPool)
executors_from g [] = []
executors_from g (x ∷ xs) =
    if is_remote x.kind
    then (speech.Remote, record { groups = g ∷ []; berths = x.berths }) ∷ executors_from (suc g) xs
    else executors_from (suc g) xs

-- so many workers for each protocol, and the executors of these groups
abbrev pub spoken_pools : List Group → List GroupPart → ℕ → List (Speech × SharedPool)
spoken_pools groups parts workers =
    pool_of speech.Proto parts workers
    ++ (pool_of speech.Json parts workers ++ executors_from 0 groups)

abbrev pub pools_in : List (Speech × SharedPool) → List SharedPool
pools_in xs = map (λ x. x.1) xs

-- the speech of each berth, in the order of the berths
abbrev pub speeches_in : List (Speech × SharedPool) → List Speech
speeches_in xs = flat_map (λ x. replicate x.1.berths x.0) xs
