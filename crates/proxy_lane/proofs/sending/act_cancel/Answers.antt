use Rattle.request_frames.specs.Frames.{cancel_due}
use Rattle.std.proofs.Math.Facts.{to_z-of_z}
use Rattle.std.proofs.lemmas.Result.{err_from_is_err_and}
use Rattle.std.specs.Prelude.{ℤ}
use Rattle.std.proofs.Common.{ap, ◌∙◌}
use Rattle.proxy_laws.proofs.Acting.{gives_cancel, no_cancel}
use Rattle.proxy_lane.proofs.sending.act_cancel.Goals as goal

pub returns : goal.returns
returns g c = gives_cancel c.args.site.now.speech c.args.number c.as_slice.result.now c.give.result
    (g.D.Feed.told c.args.feed.now) (g.D.Feed.told c.give.new.feed)
    (c.as_slice.ensures ∙ (c.in_ok-frame.ensures
    ∙ ap (λ (n : ℤ). cancel_due c.args.site.now.speech n) (to_z-of_z c.ranges.number))) c.give.ensures

pub returns-in_err-frame : goal.returns-in_err-frame
returns-in_err-frame g c =
    let e = err_from_is_err_and c.from_residual.result c.from_residual.ensures.1 in
    rw (e.1) (no_cancel c.args.site.now.speech c.args.number e.0 (g.D.Feed.told c.args.feed.now))
