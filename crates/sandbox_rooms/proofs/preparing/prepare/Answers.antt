use Rattle.std.proofs.lemmas.Result.{err_from_is_err_and}
use Rattle.sandbox_rooms.specs.Calls.{Stopped, Cut, run_end}
use Rattle.sandbox_rooms.specs.Rooms.{clear_asks, fill_asks}
use Rattle.sandbox_rooms.proofs.Runs.{run_then, run_wider}
use Rattle.sandbox_rooms.proofs.preparing.prepare.Goals as goal

pub returns-in_err-clear : goal.returns-in_err-clear
returns-in_err-clear g c =
    let told = g.B.Berth.told in
    let p = err_from_is_err_and c.from_residual.result c.from_residual.ensures.1 in
    rw (p.1) (run_wider Cut (clear_asks c.args.room c.args.outputs.now) (fill_asks c.args.room c.args.outputs.now c.args.inputs.now) (told c.args.berth.now) (told c.clear.new.berth) tt c.in_err-clear.ensures)

pub returns-in-Done : goal.returns-in-Done
returns-in-Done g c =
    let told = g.B.Berth.told in
    let is = c.in-Done.is in
    run_then (run_end c.fill.result) (clear_asks c.args.room c.args.outputs.now) (fill_asks c.args.room c.args.outputs.now c.args.inputs.now) (told c.args.berth.now) (told c.clear.new.berth) (told c.fill.new.berth) (rw is at c.in_ok-clear.ensures) c.fill.ensures

pub returns-in-Failed : goal.returns-in-Failed
returns-in-Failed g c =
    let told = g.B.Berth.told in
    let is = c.in-Failed.is in
    run_wider Stopped (clear_asks c.args.room c.args.outputs.now) (fill_asks c.args.room c.args.outputs.now c.args.inputs.now) (told c.args.berth.now) (told c.clear.new.berth) tt (rw is at c.in_ok-clear.ensures)
