use Rattle.std.proofs.Common.{sym}
use Rattle.std.proofs.lemmas.Result.{err_from_is_err_and}
use Rattle.demo_worker.proofs.Doing.{not_gathered, then_put, nothing_to_put}
use Rattle.demo_worker.proofs.running.copy.Goals as goal

pub returns-in_err-contents : goal.returns-in_err-contents
returns-in_err-contents g c =
    let told = g.S.Shop.told in
    let p = err_from_is_err_and c.from_residual.result c.from_residual.ensures.1 in
    rw (p.1, p.2) (not_gathered c.args.words.now c.in_err-contents.field-0.0 (told
    c.args.shop.now) (told c.gather.new.shop) c.in_err-contents.ensures)

pub returns-in-Some : goal.returns-in-Some
returns-in-Some g c =
    let told = g.S.Shop.told in
    then_put c.args.words.now c.in_ok-contents.contents.items c.in-Some.path.now c.put.result (told
    c.args.shop.now) (told c.gather.new.shop) (told c.put.new.shop) c.in_ok-contents.ensures (sym
    c.in-Some.ensures) (rw c.deref.ensures.value at c.put.ensures)

pub returns : goal.returns
returns g c =
    let told = g.S.Shop.told in
    nothing_to_put c.args.words.now c.in_ok-contents.contents.items (told c.args.shop.now) (told
    c.gather.new.shop) c.in_ok-contents.ensures (sym c.in-None.ensures)
