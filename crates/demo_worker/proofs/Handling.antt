-- From what is done on the shop to what is made of the request.
use Rattle.std.specs.Prelude.{List, Result, Ok, Err, IfOk, OnErr}
use Rattle.plain_values.specs.declared.no_memory.NoMemory.{NoMemory}
use Rattle.outside.specs.Told.{ShopTold}
use Rattle.outside.specs.declared.shop.ShopCall.{ShopCall}
use Rattle.message_service.specs.Calls.{Made}
use Rattle.wire_messages.specs.declared.request.WorkRequest.{WorkRequest}
use Rattle.worker_kit.specs.declared.handler.Handled.{Handled}
use Rattle.demo_worker.specs.Lanes.{Handles, IsHandled, HasHandled, HasBrokenOff}

pub handled : (m : WorkRequest) (r : Result Handled NoMemory) (old new : ShopTold)
    → ((calls : List ShopCall) × Handles m r calls × Made calls old new)
    → IfOk r (IsHandled m)
handled m (Ok h) old new done = (done.0, done.1)
handled m (Err e) old new done = tt

pub done : (m : WorkRequest) (r : Result Handled NoMemory) (old new : ShopTold)
    → ((calls : List ShopCall) × Handles m r calls × Made calls old new)
    → IfOk r (λ h. HasHandled m h old new)
done m (Ok h) old new by = by
done m (Err e) old new by = tt

pub broken : (m : WorkRequest) (r : Result Handled NoMemory) (old new : ShopTold)
    → ((calls : List ShopCall) × Handles m r calls × Made calls old new)
    → OnErr r (HasBrokenOff m old new)
broken m (Ok h) old new by = tt
broken m (Err e) old new by = by
