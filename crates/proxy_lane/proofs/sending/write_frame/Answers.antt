use Rattle.std.proofs.Common.{List, ℕ, ap, sym, ◌∙◌}
use Rattle.sandbox_rooms.specs.Rooms.{prepare_asks}
use Rattle.proxy_laws.proofs.Acting.{gives_writes, send_writes, executor_asks, local_asks}
use Rattle.proxy_lane.specs.Writing.{asks_in}
use Rattle.proxy_lane.proofs.sending.write_frame.Goals as goal

pub returns-then-is_executor : goal.returns-then-is_executor
returns-then-is_executor g c =
    let speech = c.args.site.now.speech in
    let work = c.args.work.now in
    gives_writes (asks_in speech c.args.room work) c.args.frame.now c.give.result
    (g.B.Berth.told c.args.berth.now) (g.B.Feed.Feed.told c.args.feed.now)
    (g.B.Feed.Feed.told c.give.new.feed)
    (executor_asks speech (prepare_asks c.args.room work.action.now.outputs work.inputs.now)
    (sym c.is_executor.ensures ∙ c.if-is_executor.true))
    c.give.ensures

pub returns : goal.returns
returns g c =
    let speech = c.args.site.now.speech in
    let room = c.args.room in
    let work = c.args.work.now in
    let files = work.inputs.now in
    send_writes (asks_in speech room work) (prepare_asks room c.as_slice-outputs.result.now files) c.args.frame.now
    c.send_line.result (g.B.Berth.told c.args.berth.now) (g.B.Berth.told c.send_line.new.berth)
    (g.B.Feed.Feed.told c.args.feed.now) (g.B.Feed.Feed.told c.send_line.new.feed)
    (local_asks speech (prepare_asks room work.action.now.outputs files)
    (sym c.is_executor.ensures ∙ c.if-is_executor.false)
    ∙ ap (λ (outputs : List (List ℕ)). prepare_asks room outputs files) (sym c.as_slice-outputs.ensures))
    c.send_line.ensures
