use Rattle.std.proofs.Common.{List, [], ◌∷◌, Some, refl, ap, sym, inl, inr, subst}
use Rattle.std.proofs.lemmas.Result.{err_from_is_err_and}
use Rattle.outside.specs.declared.answers.Read.{Read}
use Rattle.outside.specs.declared.answers.Read.TheVariants as read
use Rattle.outside.specs.declared.shop.ShopCall.TheVariants as call
use Rattle.message_service.specs.Calls.{Made}
use Rattle.demo_worker.specs.Looks.{missing, cannot_read}
use Rattle.demo_worker.proofs.Finding.{got}
use Rattle.demo_worker.proofs.looking.look.Goals as goal

pub returns-in_err-missing-in-Absent : goal.returns-in_err-missing-in-Absent
returns-in_err-missing-in-Absent g c =
    let told = g.S.Shop.told in
    let path = c.args.path.now in
    let p = err_from_is_err_and c.from_residual-in_err-missing-in-Absent.result
    c.from_residual-in_err-missing-in-Absent.ensures.1 in
    let made = subst (λ (a : Read). Made (call.Get path a ∷ []) (told c.args.shop.now) (told
    c.get.new.self)) c.in-Absent.is (got path c.in_ok-content.field-0 c.get.result (told
    c.args.shop.now) (told c.get.new.self) c.in_ok-content.was c.get.ensures.count
    c.in_ok-content.ensures.log) in
    rw (p.1, p.2) (
      call.Get path read.Absent ∷ [],
      inr (inr (
        missing path,
        (
          read.Absent,
          refl,
          refl,
        ),
      )),
      made,
    )

pub returns-in_err-cannot_read-in-Failed : goal.returns-in_err-cannot_read-in-Failed
returns-in_err-cannot_read-in-Failed g c =
    let told = g.S.Shop.told in
    let path = c.args.path.now in
    let p = err_from_is_err_and c.from_residual-in_err-cannot_read-in-Failed.result
    c.from_residual-in_err-cannot_read-in-Failed.ensures.1 in
    let made = subst (λ (a : Read). Made (call.Get path a ∷ []) (told c.args.shop.now) (told
    c.get.new.self)) c.in-Failed.is (got path c.in_ok-content.field-0 c.get.result (told
    c.args.shop.now) (told c.get.new.self) c.in_ok-content.was c.get.ensures.count
    c.in_ok-content.ensures.log) in
    rw (p.1, p.2) (
      call.Get path read.Failed ∷ [],
      inr (inr (
        cannot_read path,
        (
          read.Failed,
          refl,
          refl,
        ),
      )),
      made,
    )

pub returns-in_ok-missing-in-Absent : goal.returns-in_ok-missing-in-Absent
returns-in_ok-missing-in-Absent g c =
    let told = g.S.Shop.told in
    let path = c.args.path.now in
    let made = subst (λ (a : Read). Made (call.Get path a ∷ []) (told c.args.shop.now) (told
    c.get.new.self)) c.in-Absent.is (got path c.in_ok-content.field-0 c.get.result (told
    c.args.shop.now) (told c.get.new.self) c.in_ok-content.was c.get.ensures.count
    c.in_ok-content.ensures.log) in (
      call.Get path read.Absent ∷ [],
      (
        read.Absent,
        ap Some (sym
            c.in_ok-missing-in-Absent.ensures),
        refl,
      ),
      made,
    )

pub returns-in_ok-cannot_read-in-Failed : goal.returns-in_ok-cannot_read-in-Failed
returns-in_ok-cannot_read-in-Failed g c =
    let told = g.S.Shop.told in
    let path = c.args.path.now in
    let made = subst (λ (a : Read). Made (call.Get path a ∷ []) (told c.args.shop.now) (told
    c.get.new.self)) c.in-Failed.is (got path c.in_ok-content.field-0 c.get.result (told
    c.args.shop.now) (told c.get.new.self) c.in_ok-content.was c.get.ensures.count
    c.in_ok-content.ensures.log) in (
      call.Get path read.Failed ∷ [],
      (
        read.Failed,
        ap Some (sym
            c.in_ok-cannot_read-in-Failed.ensures),
        refl,
      ),
      made,
    )
