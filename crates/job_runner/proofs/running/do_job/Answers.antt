use Rattle.std.proofs.Common.{◌∙◌, sym}
use Rattle.std.specs.Prelude.{Err}
use Rattle.std.proofs.lemmas.Result.{err_from_is_err_and}
use Rattle.job_runner.specs.Calls.{cannot_write}
use Rattle.job_runner.proofs.Coming.{fill_stops, fill_whole, fill_cut, in_its_folder}
use Rattle.job_runner.proofs.running.do_job.Goals as goal

pub returns-in_err-fill : goal.returns-in_err-fill
returns-in_err-fill g c =
    let told = g.S.Shop.told in
    let p = err_from_is_err_and c.from_residual-in_err-fill.result
    c.from_residual-in_err-fill.ensures.1 in
    rw (p.1)
    (in_its_folder c.as_str.result.now c.args.job.now (Err p.0) (told c.args.shop.now) (told
    c.fill.new.shop)
    (c.as_str.ensures ∙ c.in_ok-folder.ensures)
    (fill_cut c.as_str.result.now c.args.job.now p.0 (told c.args.shop.now) (told c.fill.new.shop)
    c.in_err-fill.ensures))

pub returns-in-Done : goal.returns-in-Done
returns-in-Done g c =
    let told = g.S.Shop.told in
    let is = c.in-Done.is in
    let folder = c.as_str.ensures ∙ c.in_ok-folder.ensures in
    in_its_folder c.as_str.result.now c.args.job.now c.start.result (told c.args.shop.now)
    (told c.start.new.shop) folder
    (fill_whole c.as_str.result.now c.args.job.now c.start.result (told c.args.shop.now)
    (told c.fill.new.shop) (told c.start.new.shop) (rw is at c.in_ok-fill.ensures)
    (rw (c.as_str-in-Done.ensures ∙ sym c.as_str.ensures) at c.start.ensures))

pub returns : goal.returns
unfolding cannot_write
returns g c =
    let told = g.S.Shop.told in
    let is = c.in-Failed.is in
    let folder = c.as_str.ensures ∙ c.in_ok-folder.ensures in
    in_its_folder c.as_str.result.now c.args.job.now c.refused.result (told c.args.shop.now)
    (told c.fill.new.shop) folder
    (fill_stops c.as_str.result.now c.args.job.now c.refused.result (told c.args.shop.now)
    (told c.fill.new.shop) (rw is at c.in_ok-fill.ensures) c.refused.ensures)
