use Rattle.std.proofs.Common.{map}
use Rattle.std.proofs.lemmas.Result.{err_from_is_err_and}
use Rattle.job_runner.specs.Calls.{Stopped, Cut, cannot_write}
use Rattle.job_runner.specs.Jobs.{put_ask, folder_asks, fill_way}
use Rattle.job_runner.proofs.Does.{does_then, does_wider}
use Rattle.job_runner.proofs.filling.fill.Goals as goal

pub returns-in_err-put_all : goal.returns-in_err-put_all
returns-in_err-put_all g c =
    let told = g.S.Shop.told in
    let job = c.args.job.now in
    let p = err_from_is_err_and c.from_residual.result c.from_residual.ensures.1 in
    rw (p.1) (does_wider Cut (map (put_ask c.args.folder.now) job.inputs) (folder_asks
    c.args.folder.now job.outputs)
    (told c.args.shop.now) (told c.put_all.new.shop) tt
    (rw (c.as_slice.ensures) at c.in_err-put_all.ensures))

pub returns-in-Done : goal.returns-in-Done
returns-in-Done g c =
    let told = g.S.Shop.told in
    let job = c.args.job.now in
    let is = c.in-Done.is in
    does_then (fill_way c.make_folders.result) (map (put_ask c.args.folder.now) job.inputs)
    (folder_asks c.args.folder.now job.outputs) (told c.args.shop.now) (told c.put_all.new.shop)
    (told c.make_folders.new.shop) (rw (c.as_slice.ensures) at (rw is at c.in_ok-put_all.ensures))
    (rw (c.as_slice-in-Done.ensures) at c.make_folders.ensures)

pub returns-in-Failed : goal.returns-in-Failed
returns-in-Failed g c =
    let told = g.S.Shop.told in
    let job = c.args.job.now in
    let is = c.in-Failed.is in
    does_wider (Stopped cannot_write) (map (put_ask c.args.folder.now) job.inputs)
    (folder_asks c.args.folder.now job.outputs) (told c.args.shop.now) (told c.put_all.new.shop) tt
    (rw (c.as_slice.ensures) at (rw is at c.in_ok-put_all.ensures))
