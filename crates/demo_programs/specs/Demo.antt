-- What the demonstration worker does from its start to its end.
use Rattle.std.specs.Prelude.{◌≡◌, ℕ, Bool, true, false, List, [], codes, Option, Some, None}
use Rattle.std.specs.Prelude.{Result, Ok, Err}
use Rattle.std.specs.List.{list_any}
use Rattle.std.specs.Str.{bytes_eq}
use Rattle.outside.specs.Told.{TapTold, SinkTold, ShopTold}
use Rattle.outside.specs.declared.shop.ShopCall.{ShopCall}
use Rattle.delimited_framing.specs.Frame.{delimited_form}
use Rattle.json_framing.specs.Lines.{line_form}
use Rattle.wire_messages.specs.Request.{SpellsRequest}
use Rattle.message_service.specs.declared.finish.Finish.{Finish}
use Rattle.message_service.specs.declared.finish.Finish.TheVariants as finish
use Rattle.message_service.specs.Calls.{Made}
use Rattle.message_service.specs.Ends.{status_of, PutAll, PutFront}
use Rattle.message_service.specs.Serves.{Outside, Serves}
use Rattle.demo_worker.specs.declared.running.Answer.{Answer}
use Rattle.demo_worker.specs.Once as once
use Rattle.worker_kit.specs.Responses.{framed}
use Rattle.work_lanes.specs.Serves as lanes
use Rattle.worker_kit.specs.Serves as kit
use Rattle.demo_worker.specs.Answers.{Answers, as_line, SpellsLine}
use Rattle.demo_worker.specs.declared.lane.DemoLane.{DemoLane}
use Rattle.demo_worker.specs.Lanes.{IsHandled, DoesRequest, BreaksRequest}
use Rattle.demo_programs.specs.declared.site.DemoEnd.{DemoEnd}
use Rattle.demo_programs.specs.declared.site.DemoSite.{DemoSite}

abbrev pub is_word : List ℕ → List (List ℕ) → Bool
is_word wanted words = list_any (λ word. bytes_eq word wanted) words

-- what the input, the output and the shop tell at one moment
abbrev pub told_at : {T O S : Type 0} → (T → TapTold) → (O → SinkTold) → (S → ShopTold)
    → DemoSite T O S → Outside
told_at tap_told sink_told shop_told site =
    record { input = tap_told site.input; out = sink_told site.out; shop = shop_told site.shop }

-- ---- as a worker

abbrev pub streams_of : Outside → lanes.Outside
streams_of o = record { tap = o.input; sink = o.out }

-- so many messages may wait
abbrev pub depth : ℕ
depth = 64

module _ {S : Type 0} (told : S → ShopTold) where
  -- As lines: the bytes taken are lines that spell requests. What was put is, request by request in
  -- order, the responses that the shop's answers give, and its log is the calls for these requests. The
  -- lanes are as they were.
  --
  -- As messages: the bytes taken are frames that spell requests. What was put are responses, each whole
  -- and under its request's number: by the calls of the request's words and their answers, the exit code
  -- and the text are what these give; or the request was cancelled. Each lane has done the commands that
  -- it took in its shop, in order, each once, and nothing else. No more waited than the depth and the
  -- requests of one read. The other shop is as it was.
  abbrev pub Works : Bool → Finish → Outside → Outside → List (DemoLane S) → List (DemoLane S) → Type 0
  Works true f old new lanes left =
      Serves line_form SpellsLine (Answers as_line) f [] old new × (left ≡ lanes)
  Works false f old new lanes left =
      kit.ServesEach delimited_form SpellsRequest IsHandled (DoesRequest told) (BreaksRequest told)
      framed depth f lanes left (streams_of old) (streams_of new) × (new.shop ≡ old.shop)

-- ---- once

-- The words were done, and the text was put whole; or a front of it, where the sink failed; or
-- memory ran out, and nothing was put.
abbrev pub DoesOnce : List (List ℕ) → Result ℕ Finish → SinkTold → SinkTold → ShopTold → ShopTold
    → Type 0
DoesOnce words (Ok exit) out out' shop shop' =
    (calls : List ShopCall) × (a : Answer) × once.DoesOnce words a calls × (exit ≡ a.exit_code)
    × PutAll a.text out out' × Made calls shop shop'
DoesOnce words (Err finish.OutputFault) out out' shop shop' =
    (calls : List ShopCall) × (a : Answer) × once.DoesOnce words a calls
    × PutFront a.text out out' × Made calls shop shop'
DoesOnce words (Err finish.NoMemory) out out' shop shop' =
    (calls : List ShopCall) × once.BeginsOnce words calls × (out' ≡ out) × Made calls shop shop'
DoesOnce words (Err finish.AtEnd) out out' shop shop' = ⊥
DoesOnce words (Err finish.BadInput) out out' shop shop' = ⊥
DoesOnce words (Err finish.InputFault) out out' shop shop' = ⊥
DoesOnce words (Err finish.TooLong) out out' shop shop' = ⊥

-- ---- either

abbrev pub ended : Finish → DemoEnd
ended f = record { status = status_of f; exit = None }

abbrev pub exited : Result ℕ Finish → DemoEnd
exited (Ok exit) = record { status = exit; exit = Some exit }
exited (Err f) = ended f

-- the words were done once, and nothing was read
abbrev pub DoesOnceAt : List (List ℕ) → DemoEnd → Outside → Outside → Type 0
DoesOnceAt words end old new = (r : Result ℕ Finish) × (end ≡ exited r)
    × (new.input ≡ old.input) × DoesOnce words r old.out new.out old.shop new.shop

module _ {S : Type 0} (told : S → ShopTold) where
  abbrev pub DemonstratesAs : Bool → List (List ℕ) → DemoEnd → Outside → Outside → List (DemoLane S)
      → List (DemoLane S) → Type 0
  DemonstratesAs true words end old new lanes left = (f : Finish) × (end ≡ ended f)
      × Works told (is_word (codes "--json") words) f old new lanes left
  DemonstratesAs false words end old new lanes left =
      DoesOnceAt words end old new × (left ≡ lanes)

  -- It is a worker exactly where it is told so.
  abbrev pub Demonstrates : List (List ℕ) → DemoEnd → Outside → Outside → List (DemoLane S)
      → List (DemoLane S) → Type 0
  Demonstrates words end old new lanes left =
      DemonstratesAs (is_word (codes "--persistent_worker") words) words end old new lanes left
