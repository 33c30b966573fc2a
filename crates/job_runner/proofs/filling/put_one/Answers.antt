use Rattle.std.proofs.Common.{◌≡◌, ap, ◌∙◌, subst, [], ◌∷◌}
use Rattle.job_runner.specs.Calls.{Put, Way, Does}
use Rattle.job_runner.specs.Jobs.{in_folder, put_ask}
use Rattle.job_runner.proofs.Does.{does_put, done_fill}
use Rattle.job_runner.proofs.filling.put_one.Goals as goal

pub returns : goal.returns
returns g c =
    let told = g.S.Shop.told in
    let path = c.as_str-2.ensures ∙ c.in_ok-path.ensures ∙ ap (in_folder c.args.folder.now)
    c.as_str.ensures in
    let same : Put c.as_str-2.result.now c.bytes.result.now ≡ put_ask c.args.folder.now
    c.args.input.now = λ i. Put (path i) (c.bytes.ensures i) in
    subst (λ (way : Way). Does way (put_ask c.args.folder.now c.args.input.now ∷ []) (told
    c.args.shop.now) (told c.put.new.self)) (done_fill c.put.result)
    (does_put c.as_str-2.result.now c.bytes.result.now c.put.result (put_ask c.args.folder.now
    c.args.input.now) (told c.args.shop.now) (told c.put.new.self) same c.put.ensures.log
    c.put.ensures.count)
