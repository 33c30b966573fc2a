-- Three berths, in the order in which they have said something.
use Rattle.std.proofs.Common.{◌≡◌, true, false, refl, [], ◌∷◌}
use Rattle.run_plan.specs.declared.plan.Branch.TheVariants.{Local}
use Rattle.exec_journal.specs.declared.call.Call.TheVariants as call
use Rattle.exec_journal.specs.declared.call.Started.TheVariants as start
use Rattle.exec_journal.specs.declared.reply.Reply.TheVariants as reply
use Rattle.exec_journal.proofs.Parts.{answer}
use Rattle.shared_laws.specs.Spoken.{berths_from, is_before, noted}

begin : berths_from 0 3 ≡ 0 ∷ 1 ∷ 2 ∷ []
begin = refl

-- a Launched of the proxy lane of the berth 0, then an Answer on the tap lane of the berth 1
launched : noted (0 ∷ 1 ∷ 2 ∷ []) 0 (call.Launched 0 start.Done) reply.Noted ≡ 1 ∷ 2 ∷ 0 ∷ []
launched = refl

answered : noted (1 ∷ 2 ∷ 0 ∷ []) 3 (call.Answer 1 answer) reply.Greeted ≡ 2 ∷ 0 ∷ 1 ∷ []
answered = refl

-- an Answer for which there was no memory isn't one yet, and an Ask is none
unkept : noted (2 ∷ 0 ∷ 1 ∷ []) 1 (call.Answer 0 answer) reply.NoMemory ≡ 2 ∷ 0 ∷ 1 ∷ []
unkept = refl

asked : noted (2 ∷ 0 ∷ 1 ∷ []) 4 call.Ask (reply.Launch 2 0 Local 1) ≡ 2 ∷ 0 ∷ 1 ∷ []
asked = refl

-- the berth 0 was silent for longer than the berth 1, and a berth that isn't there is behind each
first : is_before 0 1 (2 ∷ 0 ∷ 1 ∷ []) ≡ true
first = refl

second : is_before 1 0 (2 ∷ 0 ∷ 1 ∷ []) ≡ false
second = refl

last : is_before 1 3 (2 ∷ 0 ∷ 1 ∷ []) ≡ true
last = refl

absent : is_before 3 1 (2 ∷ 0 ∷ 1 ∷ []) ≡ false
absent = refl
