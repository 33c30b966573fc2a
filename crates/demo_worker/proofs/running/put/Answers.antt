use Rattle.std.proofs.Common.{[], ◌∷◌, refl, ap, sym, subst}
use Rattle.std.proofs.lemmas.Result.{err_from_is_err_and}
use Rattle.outside.specs.declared.answers.Io.{Io}
use Rattle.outside.specs.declared.answers.Io.TheVariants as io
use Rattle.outside.specs.declared.shop.ShopCall.TheVariants as call
use Rattle.message_service.specs.Calls.{Made}
use Rattle.demo_worker.proofs.Finding.{cannot_be_put}
use Rattle.demo_worker.proofs.running.put.Goals as goal

pub returns-in_err-cannot_write-in-Failed : goal.returns-in_err-cannot_write-in-Failed
returns-in_err-cannot_write-in-Failed g c =
    let told = g.S.Shop.told in
    let p = err_from_is_err_and c.from_residual.result c.from_residual.ensures.1 in
    rw (p.1, p.2) (
      call.Put c.args.path.now c.args.bytes.now io.Failed ∷ [],
      refl,
      cannot_be_put c.args.path.now c.args.bytes.now (told c.args.shop.now) (told c.put.new.self)
          (c.in-Failed.ensures.count.later) (c.in-Failed.ensures.count.rose refl)
          c.in-Failed.ensures.log,
    )
