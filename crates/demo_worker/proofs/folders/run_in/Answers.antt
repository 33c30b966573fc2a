use Rattle.std.proofs.lemmas.Result.{err_from_is_err_and}
use Rattle.demo_worker.specs.Folders.{words_in}
use Rattle.demo_worker.proofs.Doing.{not_begun}
use Rattle.demo_worker.proofs.folders.run_in.Goals as goal

pub returns-in_err-placed : goal.returns-in_err-placed
returns-in_err-placed g c =
    let told = g.S.Shop.told in
    let p = err_from_is_err_and c.from_residual.result c.from_residual.ensures.1 in
    rw p.1 (not_begun (words_in c.args.folder.now c.args.words.now) p.0 (told c.args.shop.now))
