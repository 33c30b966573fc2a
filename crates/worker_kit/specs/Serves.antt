-- What a worker does from its start to its end.
use Rattle.std.specs.Prelude.{ℕ, List, [], map}
use Rattle.delimited_framing.specs.Front.{Form}
use Rattle.message_service.specs.declared.finish.Finish.{Finish}
use Rattle.message_service.specs.declared.finish.Finish.TheVariants as finish
use Rattle.wire_messages.specs.declared.request.WorkRequest.{WorkRequest}
use Rattle.wire_messages.specs.declared.response.WorkResponse.{WorkResponse}
use Rattle.work_lanes.specs.Serves as lanes
use Rattle.work_lanes.specs.Serves.{Outside}
use Rattle.worker_kit.specs.declared.handler.Handled.{Handled}
use Rattle.worker_kit.specs.declared.end.KitEnd.{KitEnd}
use Rattle.worker_kit.specs.declared.end.KitEnd.TheVariants as kit_end
use Rattle.worker_kit.specs.declared.handler.Works.{Works}
use Rattle.worker_kit.specs.Responses.{Says, Makes, number_of, cancels_in}

-- as a program that reads messages has finished
abbrev pub finish_of : KitEnd → Finish
finish_of kit_end.End = finish.AtEnd
finish_of kit_end.TapFault = finish.InputFault
finish_of kit_end.BadFrame = finish.BadInput
finish_of kit_end.Long = finish.TooLong
finish_of kit_end.SinkFault = finish.OutputFault
finish_of kit_end.NoMemory = finish.NoMemory

-- The bytes taken spell these requests. What was put are these responses, each whole, one after
-- another. Each is said to the request at its place, under its number: what it was answered, or
-- that it was cancelled, and then a request that cancels its number stands behind it. No more waited
-- than the depth and the requests of one read.
abbrev pub Serves : Form → (List ℕ → WorkRequest → Type 0) → (WorkRequest → Handled → Type 0)
    → (WorkResponse → List ℕ) → ℕ → Finish → Outside → Outside → Type 0
Serves form Spells answers written depth f old new =
    lanes.Serves number_of cancels_in (Says answers) written form Spells depth f [] old new

-- So does one with a handler for each lane. Each request that was taken was taken by a lane of one of
-- these, and each handler has made what was answered of those that its lane took, in order, each once,
-- and done nothing else.
abbrev pub ServesEach : {H : Type 0} → Form → (List ℕ → WorkRequest → Type 0)
    → (WorkRequest → Handled → Type 0) → (H → WorkRequest → Handled → H → Type 0)
    → (H → WorkRequest → H → Type 0) → (WorkResponse → List ℕ) → ℕ → Finish → List H → List H
    → Outside → Outside → Type 0
ServesEach form Spells answers does breaks written depth f olds news old new =
    lanes.ServesBy number_of cancels_in (Says answers) written form Spells (Makes does) breaks depth f
    [] olds news old new

abbrev pub handlers_of : {H V : Type 0} → List (Works H V) → List H
handlers_of works = map (λ w. w.handler) works
