-- Lanes of two kinds.
use Rattle.lane_threads.specs.declared.pair.Either.{Either}
use Rattle.lane_threads.specs.declared.pair.Either.TheVariants.{First, Second}
use Rattle.lane_threads.specs.Lanes.{FactBefore, FactOfRun}

-- what the lane's kind asks
abbrev pub MayRunOfKind : {A B D P : Type 0} → FactBefore A D P → FactBefore B D P
    → FactBefore (Either A B) D P
MayRunOfKind first second (First lane) desk bells pass = first lane desk bells pass
MayRunOfKind first second (Second lane) desk bells pass = second lane desk bells pass

-- the end is of the lane's kind, and what that kind says of it holds
abbrev pub HasRunOfKind : {A B X Y P : Type 0} → FactOfRun A X P → FactOfRun B Y P
    → FactOfRun (Either A B) (Either X Y) P
HasRunOfKind first second (First lane) pass (First end) after = first lane pass end after
HasRunOfKind first second (Second lane) pass (Second end) after = second lane pass end after
HasRunOfKind first second (First lane) pass (Second end) after = ⊥
HasRunOfKind first second (Second lane) pass (First end) after = ⊥
