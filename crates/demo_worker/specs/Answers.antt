-- What is answered to a request.
use Rattle.std.specs.Prelude.{◌≡◌, ℕ, pos, List, [], ◌∷◌, ◌++◌, true, false, Option, Some, None}
use Rattle.std.specs.Prelude.{Result, Ok, Err}
use Rattle.plain_values.specs.declared.no_memory.NoMemory.{NoMemory}
use Rattle.outside.specs.declared.shop.ShopCall.{ShopCall}
use Rattle.wire_messages.specs.declared.request.WorkRequest.{WorkRequest}
use Rattle.wire_messages.specs.declared.response.WorkResponse.{WorkResponse}
use Rattle.json_messages.specs.Messages.{request_of}
use Rattle.json_messages.specs.Writing.{response_text}
use Rattle.demo_worker.specs.declared.running.Answer.{Answer}
use Rattle.demo_worker.specs.Folders.{words_in}
use Rattle.demo_worker.specs.Does.{Does, Begins}

abbrev pub response_to : WorkRequest → Answer → WorkResponse
response_to m a = record {
  exit_code = pos a.exit_code;
  output = a.text;
  request_id = m.request_id;
  was_cancelled = false;
}

-- the words of a request, whose paths lie in its folder
abbrev pub words_of : WorkRequest → List (List ℕ)
words_of m = words_in m.sandbox_dir m.arguments

-- A request's words are done, and a request that cancels another is passed over.
abbrev pub Responds : WorkRequest → Result (Option WorkResponse) NoMemory → List ShopCall → Type 0
Responds m (Ok None) calls = (m.cancel ≡ true) × (calls ≡ [])
Responds m (Ok (Some r)) calls =
    (m.cancel ≡ false) × ((a : Answer) × Does (words_of m) a calls × (r ≡ response_to m a))
Responds m (Err e) calls = (m.cancel ≡ false) × Begins (words_of m) calls

-- the same, where the response is put in this form
abbrev pub Answers : (WorkResponse → List ℕ) → WorkRequest → List WorkRequest → List ShopCall
    → Result (Option (List ℕ)) NoMemory → Type 0
Answers form m behind calls (Ok None) = Responds m (Ok None) calls
Answers form m behind calls (Ok (Some bytes)) =
    (r : WorkResponse) × Responds m (Ok (Some r)) calls × (bytes ≡ form r)
Answers form m behind calls (Err e) = Responds m (Err e) calls

-- a response as a line, with its line feed
abbrev pub as_line : WorkResponse → List ℕ
as_line r = response_text r ++ 10 ∷ []

-- the line is this request
abbrev pub SpellsLine : List ℕ → WorkRequest → Type 0
SpellsLine line m = request_of line ≡ Ok m
