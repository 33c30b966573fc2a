use Rattle.std.proofs.Common.{[], ◌∷◌, ◌∙◌, subst}
use Rattle.std.proofs.lemmas.Result.{err_from_is_err_and}
use Rattle.job_runner.specs.Calls.{Way, Does}
use Rattle.job_runner.specs.Jobs.{folder_asks}
use Rattle.job_runner.proofs.Does.{folder_made, does_cut, done_fill}
use Rattle.job_runner.proofs.filling.make_folder.Goals as goal

pub returns-in_ok-path-in-Some : goal.returns-in_ok-path-in-Some
returns-in_ok-path-in-Some g c =
    let told = g.S.Shop.told in
    subst (λ (way : Way). Does way (folder_asks c.args.folder.now (c.args.output.now ∷ []))
    (told c.args.shop.now) (told c.folder.new.self)) (done_fill c.folder.result)
    (folder_made c.args.folder.now c.args.output.now c.in-Some.part.now c.as_str.result.now
    c.folder.result
    (told c.args.shop.now) (told c.folder.new.self) c.in-Some.ensures
    (c.as_str.ensures ∙ c.in_ok-path-in-Some.ensures) c.folder.ensures.log c.folder.ensures.count)

pub returns-in_err-path-in-Some : goal.returns-in_err-path-in-Some
returns-in_err-path-in-Some g c =
    let p = err_from_is_err_and c.from_residual.result c.from_residual.ensures.1 in
    rw (p.1) (does_cut (folder_asks c.args.folder.now (c.args.output.now ∷ [])) (g.S.Shop.told
    c.args.shop.now))
