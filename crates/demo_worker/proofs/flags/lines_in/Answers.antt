use Rattle.std.proofs.lemmas.Result.{err_from_is_err_and}
use Rattle.std.proofs.Common.{inl, inr}
use Rattle.demo_worker.specs.Looks.{missing}
use Rattle.demo_worker.proofs.Texts.{not_had, has_no_text}
use Rattle.demo_worker.proofs.flags.lines_in.Goals as goal

pub returns-in_err-content : goal.returns-in_err-content
returns-in_err-content g c =
    let told = g.S.Shop.told in
    let p = err_from_is_err_and c.from_residual.result c.from_residual.ensures.1 in
    rw (p.1, p.2) (not_had c.args.path.now c.in_err-content.field-0.0 (told c.args.shop.now) (told
    c.look.new.shop) c.in_err-content.ensures)

pub returns-in_err-missing-in-None : goal.returns-in_err-missing-in-None
returns-in_err-missing-in-None g c =
    let p = err_from_is_err_and c.from_residual-in_err-missing-in-None.result
    c.from_residual-in_err-missing-in-None.ensures.1 in
    let h = c.in_ok-content.ensures in
    let no' = rw c.bytes.ensures at c.in-None.ensures in
    rw (p.1, p.2) (
      h.0,
      inr (inr (
        missing c.args.path.now,
        has_no_text c.args.path.now
            c.in_ok-content.content h.0 no' h.1,
      )),
      h.2,
    )
