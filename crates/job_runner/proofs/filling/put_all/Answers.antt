use Rattle.std.proofs.Common.{rules, refl, map}
use Rattle.std.proofs.lemmas.Result.{err_from_is_err_and}
use Rattle.std.proofs.lemmas.List.{map-append}
use Rattle.job_runner.specs.Jobs.{put_ask}
use Rattle.job_runner.specs.Calls.{Stopped, Cut, cannot_write}
use Rattle.job_runner.proofs.Does.{does_none, loop_go, loop_ends, loop_done}
use Rattle.job_runner.proofs.filling.put_all.Goals as goal

pub loop-input-init : goal.loop-input-init
loop-input-init g c = does_none (g.S.Shop.told c.args.shop.now)

pub returns-in_err-put_one : goal.returns-in_err-put_one
returns-in_err-put_one g c =
    let told = g.S.Shop.told in
    let p = err_from_is_err_and c.from_residual.result c.from_residual.ensures.1 in
    rw (p.1) (loop_ends (map (put_ask c.args.folder.now)) (map-append (put_ask c.args.folder.now))
    Cut tt c.args.inputs.now c.loop-input.input-index c.input-item.result c.input-item.result
    (told c.args.shop.now) (told c.loop-input.shop) (told c.put_one.new.shop) (search rules)
    c.input-item.is refl c.loop-input.invariant c.in_err-put_one.ensures)

pub returns-in-Failed : goal.returns-in-Failed
returns-in-Failed g c =
    let told = g.S.Shop.told in
    let is = c.in-Failed.is in
    loop_ends (map (put_ask c.args.folder.now)) (map-append (put_ask c.args.folder.now)) (Stopped
    cannot_write) tt c.args.inputs.now c.loop-input.input-index c.input-item.result
    c.input-item.result (told c.args.shop.now) (told c.loop-input.shop) (told
    c.put_one.new.shop) (search rules) c.input-item.is refl c.loop-input.invariant (rw is at
    c.in_ok-put_one.ensures)

pub loop-input-preserved : goal.loop-input-preserved
loop-input-preserved g c =
    let told = g.S.Shop.told in
    let is = c.in-Done.is in
    loop_go (map (put_ask c.args.folder.now)) (map-append (put_ask c.args.folder.now))
    c.args.inputs.now c.loop-input.input-index c.input-item.result c.input-item.result (told
    c.args.shop.now) (told c.loop-input.shop) (told c.put_one.new.shop) (search rules)
    c.input-item.is refl c.loop-input.invariant (rw is at c.in_ok-put_one.ensures)

pub returns : goal.returns
returns g c =
    let told = g.S.Shop.told in
    loop_done (map (put_ask c.args.folder.now)) (map-append (put_ask c.args.folder.now))
    c.args.inputs.now c.loop-input.input-index (told c.args.shop.now) (told c.loop-input.shop)
    c.loop-input-test.false c.loop-input.invariant
