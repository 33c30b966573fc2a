use Rattle.std.proofs.Common.{rules}
use Rattle.std.proofs.lemmas.Result.{err_from_is_err_and}
use Rattle.std.proofs.lemmas.List.Elements.{filter_map-append}
use Rattle.job_runner.specs.Jobs.{folder_ask, folder_asks}
use Rattle.job_runner.specs.Calls.{Stopped, Cut, cannot_write}
use Rattle.job_runner.proofs.Does.{does_none, loop_go, loop_ends, loop_done}
use Rattle.job_runner.proofs.filling.make_folders.Goals as goal

pub loop-output-init : goal.loop-output-init
loop-output-init g c = does_none (g.S.Shop.told c.args.shop.now)

pub returns-in_err-make_folder : goal.returns-in_err-make_folder
returns-in_err-make_folder g c =
    let told = g.S.Shop.told in
    let p = err_from_is_err_and c.from_residual.result c.from_residual.ensures.1 in
    rw (p.1) (loop_ends (folder_asks c.args.folder.now) (filter_map-append (folder_ask
    c.args.folder.now)) Cut tt c.args.outputs.now c.loop-output.output-index
    c.output-item.result c.as_str.result.now (told c.args.shop.now) (told c.loop-output.shop)
    (told c.make_folder.new.shop) (search rules) c.output-item.is c.as_str.ensures
    c.loop-output.invariant c.in_err-make_folder.ensures)

pub returns-in-Failed : goal.returns-in-Failed
returns-in-Failed g c =
    let told = g.S.Shop.told in
    let is = c.in-Failed.is in
    loop_ends (folder_asks c.args.folder.now) (filter_map-append (folder_ask c.args.folder.now))
    (Stopped cannot_write) tt c.args.outputs.now c.loop-output.output-index
    c.output-item.result c.as_str.result.now (told c.args.shop.now) (told c.loop-output.shop)
    (told c.make_folder.new.shop) (search rules) c.output-item.is c.as_str.ensures
    c.loop-output.invariant (rw is at c.in_ok-make_folder.ensures)

pub loop-output-preserved : goal.loop-output-preserved
loop-output-preserved g c =
    let told = g.S.Shop.told in
    let is = c.in-Done.is in
    loop_go (folder_asks c.args.folder.now) (filter_map-append (folder_ask c.args.folder.now))
    c.args.outputs.now c.loop-output.output-index c.output-item.result c.as_str.result.now
    (told c.args.shop.now) (told c.loop-output.shop) (told c.make_folder.new.shop) (search
    rules) c.output-item.is c.as_str.ensures c.loop-output.invariant (rw is at
    c.in_ok-make_folder.ensures)

pub returns : goal.returns
returns g c =
    let told = g.S.Shop.told in
    loop_done (folder_asks c.args.folder.now) (filter_map-append (folder_ask c.args.folder.now))
    c.args.outputs.now c.loop-output.output-index (told c.args.shop.now) (told
    c.loop-output.shop) c.loop-output-test.false c.loop-output.invariant
