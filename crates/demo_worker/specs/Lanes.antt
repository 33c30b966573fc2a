-- What a lane makes of a request in its shop.
use Rattle.std.specs.Prelude.{◌≡◌, pos, false, List, Result, Ok, Err}
use Rattle.plain_values.specs.declared.no_memory.NoMemory.{NoMemory}
use Rattle.outside.specs.Told.{ShopTold}
use Rattle.outside.specs.declared.shop.ShopCall.{ShopCall}
use Rattle.message_service.specs.Calls.{Made}
use Rattle.wire_messages.specs.declared.request.WorkRequest.{WorkRequest}
use Rattle.worker_kit.specs.declared.handler.Handled.{Handled}
use Rattle.demo_worker.specs.declared.running.Answer.{Answer}
use Rattle.demo_worker.specs.declared.lane.DemoLane.{DemoLane}
use Rattle.demo_worker.specs.Answers.{words_of}
use Rattle.demo_worker.specs.Does.{Does, Comes}

-- a command's answer, as a worker's library takes it
abbrev pub handled_as : Answer → Handled
handled_as a = record { exit = pos a.exit_code; output = a.text; stopped = false }

-- A request's words were done by these calls, and this came of it.
abbrev pub Handles : WorkRequest → Result Handled NoMemory → List ShopCall → Type 0
Handles m (Ok h) calls = (a : Answer) × Does (words_of m) a calls × (h ≡ handled_as a)
Handles m (Err e) calls = Comes (words_of m) (Err e) calls

-- A request's words were done by some calls, which had these answers, and this came of it.
abbrev pub IsHandled : WorkRequest → Handled → Type 0
IsHandled m h = (calls : List ShopCall) × Handles m (Ok h) calls

-- The calls of its words stand at the end of the shop's log, and this came of it.
abbrev pub HasHandled : WorkRequest → Handled → ShopTold → ShopTold → Type 0
HasHandled m h old new = (calls : List ShopCall) × Handles m (Ok h) calls × Made calls old new

-- So do the first of its calls, and memory ran out.
abbrev pub HasBrokenOff : WorkRequest → ShopTold → ShopTold → Type 0
HasBrokenOff m old new =
    (calls : List ShopCall) × Handles m (Err (record {})) calls × Made calls old new

module _ {S : Type 0} (told : S → ShopTold) where
  -- a lane's shop before and after a request of which this came, or one in which memory has run out
  abbrev pub DoesRequest : DemoLane S → WorkRequest → Handled → DemoLane S → Type 0
  DoesRequest old m h new = HasHandled m h (told old.shop) (told new.shop)

  abbrev pub BreaksRequest : DemoLane S → WorkRequest → DemoLane S → Type 0
  BreaksRequest old m new = HasBrokenOff m (told old.shop) (told new.shop)
