-- From a response to what is put.
use Rattle.std.proofs.Common.{◌≡◌, ℕ, List, Option, Some, None, refl, sym, subst}
use Rattle.std.specs.Prelude.{Result, Ok, Err, IfOk}
use Rattle.plain_values.specs.declared.no_memory.NoMemory.{NoMemory}
use Rattle.outside.specs.Told.{ShopTold}
use Rattle.outside.specs.declared.shop.ShopCall.{ShopCall}
use Rattle.wire_messages.specs.declared.request.WorkRequest.{WorkRequest}
use Rattle.wire_messages.specs.declared.response.WorkResponse.{WorkResponse}
use Rattle.message_service.specs.Calls.{Made}
use Rattle.demo_worker.specs.Answers.{Responds, Answers, words_of}
use Rattle.demo_worker.proofs.Doing.{begins_whole}

pub answers_so : (form : WorkResponse → List ℕ) (m : WorkRequest) (behind : List WorkRequest)
    (r : WorkResponse) (reply : Result (Option (List ℕ)) NoMemory) (old new : ShopTold)
    → ((calls : List ShopCall) × Responds m (Ok (Some r)) calls × Made calls old new)
    → IfOk reply (λ o. o ≡ Some (form r))
    → (calls : List ShopCall) × Answers form m behind calls reply × Made calls old new
answers_so form m behind r (Ok o) old new h says = (
  h.0,
  subst (λ (p : Option (List ℕ)). Answers form m behind h.0 (Ok p)) (sym says) (r, h.1, refl),
  h.2,
)
answers_so form m behind r (Err e) old new h says =
    (h.0, (h.1.0, begins_whole (words_of m) h.1.1.0 h.0 h.1.1.1), h.2)
