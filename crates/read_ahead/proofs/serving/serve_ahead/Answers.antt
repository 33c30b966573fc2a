use Rattle.std.proofs.Common.{ap, sym, ◌∙◌}
use Rattle.message_service.specs.Serves.{Outside}
use Rattle.message_box.specs.Sides.{state_at}
use Rattle.read_ahead.proofs.Ahead.{serves_nothing, serves_so}
use Rattle.read_ahead.proofs.serving.serve_ahead.Goals as goal

pub returns-in_default : goal.returns-in_default
returns-in_default g c =
    serves_nothing g.V.Service.framing g.V.Service.spells g.V.Service.answers (record {
      input = g.T.Tap.told c.args.input.now;
      out = g.O.Sink.told c.args.out.now;
      shop = g.S.Shop.told c.args.shop.now;
    })

pub returns-in_default-open : goal.returns-in_default-open
returns-in_default-open g c =
    serves_nothing g.V.Service.framing g.V.Service.spells g.V.Service.answers (record {
      input = g.T.Tap.told c.args.input.now;
      out = g.O.Sink.told c.args.out.now;
      shop = g.S.Shop.told c.args.shop.now;
    })

pub returns : goal.returns
returns g c =
    let old : Outside = record {
      input = g.T.Tap.told c.args.input.now;
      out = g.O.Sink.told c.args.out.now;
      shop = g.S.Shop.told c.args.shop.now;
    } in
    let new : Outside = record {
      input = g.T.Tap.told c.run_both-finish.new.input;
      out = g.O.Sink.told c.run_both-finish.new.out;
      shop = g.S.Shop.told c.run_both-finish.new.shop;
    } in
    serves_so g.V.Service.framing g.V.Service.spells g.V.Service.answers
    c.run_both-finish.result.1 c.run_both-finish.result.0
    (state_at c.run_both-finish.new.callers.reading.pass) (state_at c.run_both-finish.new.callers.working.pass)
    old new
    (ap state_at (sym c.into_pass-reading.ensures) ∙ c.settle.ensures
    ∙ ap state_at c.into_pass-working.ensures)
    c.run_both-finish.ensures.read.1 c.run_both-finish.ensures.worked.1
