-- A worker that has done nothing.
use Rattle.std.proofs.Common.{◌≡◌, List, [], sym, subst}
use Rattle.outside.specs.Told.{TapTold, SinkTold, ShopTold}
use Rattle.delimited_framing.specs.Frame.{delimited_form}
use Rattle.json_framing.specs.declared.cutter.Framing.TheVariants as framing
use Rattle.wire_messages.specs.Request.{SpellsRequest}
use Rattle.message_service.specs.declared.finish.Finish.TheVariants as finish
use Rattle.message_service.specs.Ends.{PutAll}
use Rattle.work_lanes.specs.Serves.{told_by}
use Rattle.work_lanes.proofs.Idle.{nothing_served}
use Rattle.worker_kit.specs.Responses.{Says, Makes, framed, number_of, cancels_in}
use Rattle.worker_kit.specs.Serves.{ServesEach}
use Rattle.demo_worker.specs.declared.lane.DemoLane.{DemoLane}
use Rattle.demo_worker.specs.Lanes.{IsHandled, DoesRequest, BreaksRequest}
use Rattle.demo_programs.specs.Demo.{depth}

module _ {S : Type 0} (told : S → ShopTold) {T O : Type 0} (tap_told : T → TapTold)
    (sink_told : O → SinkTold) where
  abbrev Served : T → O → List (DemoLane S) → T → O → List (DemoLane S) → Type 0
  Served tap sink lanes tap' sink' left =
      ServesEach delimited_form SpellsRequest IsHandled (DoesRequest told) (BreaksRequest told) framed
      depth finish.NoMemory lanes left (told_by tap_told sink_told tap sink)
      (told_by tap_told sink_told tap' sink')

  -- nothing was read, and no request answered
  pub none_done : (tap tap' : T) (old new : O) (lanes left : List (DemoLane S)) → tap' ≡ tap
      → left ≡ lanes → PutAll [] (sink_told old) (sink_told new)
      → Served tap old lanes tap' new left
  none_done tap tap' old new lanes left same all put =
      subst (λ (x : T). Served tap old lanes x new left) (sym same)
      (subst (λ (xs : List (DemoLane S)). Served tap old lanes tap new xs) (sym all)
      (nothing_served number_of cancels_in (Says IsHandled) framed framing.Delimited SpellsRequest
      (Makes (DoesRequest told)) (BreaksRequest told) depth (tap_told tap) (sink_told old)
      (sink_told new) lanes put))
