use Rattle.std.proofs.Common.{rules, map}
use Rattle.std.proofs.lemmas.List.{map-append}
use Rattle.sandbox_rooms.specs.Calls.{Clear, Stopped}
use Rattle.sandbox_rooms.proofs.Runs.{run_none, loop_go, loop_ends, loop_done}
use Rattle.sandbox_rooms.proofs.preparing.clear_all.Goals as goal

pub loop-output-init : goal.loop-output-init
loop-output-init g c = run_none (g.B.Berth.told c.args.berth.now)

pub returns-in-Failed : goal.returns-in-Failed
returns-in-Failed g c =
    let told = g.B.Berth.told in
    loop_ends (map Clear) (map-append Clear) Stopped tt c.args.outputs.now c.loop-output.output-index c.output-item.result c.as_str.result.now (told c.args.berth.now) (told c.loop-output.berth) (told c.clear_one.new.berth) (search rules) c.output-item.is c.as_str.ensures c.loop-output.invariant c.in-Failed.ensures

pub loop-output-preserved : goal.loop-output-preserved
loop-output-preserved g c =
    let told = g.B.Berth.told in
    loop_go (map Clear) (map-append Clear) c.args.outputs.now c.loop-output.output-index c.output-item.result c.as_str.result.now (told c.args.berth.now) (told c.loop-output.berth) (told c.clear_one.new.berth) (search rules) c.output-item.is c.as_str.ensures c.loop-output.invariant c.in_default.ensures

pub returns : goal.returns
returns g c =
    let told = g.B.Berth.told in
    loop_done (map Clear) (map-append Clear) c.args.outputs.now c.loop-output.output-index (told c.args.berth.now) (told c.loop-output.berth) c.loop-output-test.false c.loop-output.invariant
