use Rattle.std.proofs.lemmas.Result.{err_from_is_err_and}
use Rattle.berth_acts.specs.Files.{preparing}
use Rattle.berth_acts.proofs.Steps.{send_cut, send_stopped, send_given}
use Rattle.berth_acts.proofs.sending.send_line.Goals as goal

pub returns-in_err-prepare : goal.returns-in_err-prepare
returns-in_err-prepare g c =
    let told = g.B.Berth.told in
    let p = err_from_is_err_and c.from_residual.result c.from_residual.ensures.1 in
    rw (p.1) (send_cut (preparing c.args.files.now) c.args.frame.now p.0 (told c.args.berth.now) (told c.prepare.new.berth) (g.B.Feed.Feed.told c.args.feed.now) c.in_err-prepare.ensures)

pub returns-in-Done : goal.returns-in-Done
returns-in-Done g c =
    let told = g.B.Berth.told in
    let feed = g.B.Feed.Feed.told in
    let is = c.in-Done.is in
    send_given (preparing c.args.files.now) c.args.frame.now c.give.result (told c.args.berth.now) (told c.prepare.new.berth) (feed c.args.feed.now) (feed c.give.new.feed) (rw is at c.in_ok-prepare.ensures) c.give.ensures

pub returns-in-Failed : goal.returns-in-Failed
returns-in-Failed g c =
    let told = g.B.Berth.told in
    let is = c.in-Failed.is in
    send_stopped (preparing c.args.files.now) c.args.frame.now (told c.args.berth.now) (told c.prepare.new.berth) (g.B.Feed.Feed.told c.args.feed.now) (rw is at c.in_ok-prepare.ensures)
