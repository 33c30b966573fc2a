use Rattle.std.proofs.Common.{refl}
use Rattle.message_service.specs.declared.finish.Finish.TheVariants as finish
use Rattle.worker_kit.specs.Serves.{finish_of}
use Rattle.demo_programs.proofs.Idle.{none_done}
use Rattle.demo_programs.proofs.demonstrating.at_once.Goals as goal

pub returns-in-Ok : goal.returns-in-Ok
returns-in-Ok g c =
    (finish_of c.in-Ok.ended.end, c.of_kit.ensures, (c.in-Ok.ensures.serves, refl))

pub returns-in-Err : goal.returns-in-Err
returns-in-Err g c =
    let u = c.in-Err.unbegun in
    let back = c.in-Err.ensures.back in
    let site = c.args.site in (
      finish.NoMemory,
      c.of.ensures,
      (
        none_done g.S.Shop.told g.T.Tap.told g.O.Sink.told site.input u.streams.tap site.out
            u.streams.sink site.lanes.items u.handlers.items back.0 back.1 back.2,
        refl,
      ),
    )
