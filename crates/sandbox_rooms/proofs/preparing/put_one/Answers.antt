use Rattle.std.proofs.Common.{◌≡◌, ap, ◌∙◌, refl}
use Rattle.outside.specs.declared.berth.BerthCall.TheVariants as call
use Rattle.sandbox_rooms.specs.Rooms.{in_room, put_ask}
use Rattle.sandbox_rooms.specs.Calls.{Put}
use Rattle.sandbox_rooms.proofs.Runs.{run_io}
use Rattle.sandbox_rooms.proofs.preparing.put_one.Goals as goal

pub returns : goal.returns
returns g c =
    let told = g.B.Berth.told in
    let path = c.as_str-2.ensures ∙ c.in_ok-path.ensures ∙ ap (in_room c.args.room) c.as_str.ensures in
    let same : Put c.as_str-2.result.now c.args.input.now.content ≡ put_ask c.args.room c.args.input.now = λ i. Put (path i) c.args.input.now.content in
    run_io (put_ask c.args.room c.args.input.now) (call.Put c.as_str-2.result.now c.args.input.now.content c.room_put.result) c.room_put.result (told c.args.berth.now) (told c.room_put.new.self) same refl c.room_put.ensures.log c.room_put.ensures.count c.room_put.ensures.number
