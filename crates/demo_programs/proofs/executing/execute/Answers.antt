use Rattle.std.proofs.Common.{refl}
use Rattle.message_service.specs.declared.finish.Finish.TheVariants as finish
use Rattle.demo_programs.proofs.Greeted.{greeted, not_greeted}
use Rattle.demo_programs.proofs.InOrder.{in_order}
use Rattle.demo_programs.proofs.executing.execute.Goals as goal

pub returns-in-Done-clause-executes : goal.returns-in-Done-clause-executes
returns-in-Done-clause-executes g c =
    let e = c.in-Done.ensures in
    greeted c.serve_ahead.result (g.T.Tap.told c.args.input.now)
    (g.T.Tap.told c.serve_ahead.new.input) (g.O.Sink.told c.args.out.now)
    (g.O.Sink.told c.put.new.self) (g.O.Sink.told c.serve_ahead.new.out)
    (g.S.Shop.told c.args.shop.now) (g.S.Shop.told c.serve_ahead.new.shop)
    (record { given = e.put; count = e.count.later }) c.serve_ahead.ensures

pub returns-in-Done-clause-in_order : goal.returns-in-Done-clause-in_order
returns-in-Done-clause-in_order g c =
    let e = c.in-Done.ensures in
    in_order c.serve_ahead.result
    (record {
      input = g.T.Tap.told c.args.input.now;
      out = g.O.Sink.told c.args.out.now;
      shop = g.S.Shop.told c.args.shop.now;
    })
    (record {
      input = g.T.Tap.told c.serve_ahead.new.input;
      out = g.O.Sink.told c.serve_ahead.new.out;
      shop = g.S.Shop.told c.serve_ahead.new.shop;
    })
    (greeted c.serve_ahead.result (g.T.Tap.told c.args.input.now)
    (g.T.Tap.told c.serve_ahead.new.input) (g.O.Sink.told c.args.out.now)
    (g.O.Sink.told c.put.new.self) (g.O.Sink.told c.serve_ahead.new.out)
    (g.S.Shop.told c.args.shop.now) (g.S.Shop.told c.serve_ahead.new.shop)
    (record { given = e.put; count = e.count.later }) c.serve_ahead.ensures)

pub returns-in-Failed-clause-executes : goal.returns-in-Failed-clause-executes
returns-in-Failed-clause-executes g c =
    let e = c.in-Failed.ensures in
    not_greeted (g.T.Tap.told c.args.input.now) (g.O.Sink.told c.args.out.now)
    (g.O.Sink.told c.put.new.self) (g.S.Shop.told c.args.shop.now) e.put (e.count.rose refl)

pub returns-in-Failed-clause-in_order : goal.returns-in-Failed-clause-in_order
returns-in-Failed-clause-in_order g c =
    let e = c.in-Failed.ensures in
    in_order finish.OutputFault
    (record {
      input = g.T.Tap.told c.args.input.now;
      out = g.O.Sink.told c.args.out.now;
      shop = g.S.Shop.told c.args.shop.now;
    })
    (record {
      input = g.T.Tap.told c.args.input.now;
      out = g.O.Sink.told c.put.new.self;
      shop = g.S.Shop.told c.args.shop.now;
    })
    (not_greeted (g.T.Tap.told c.args.input.now) (g.O.Sink.told c.args.out.now)
    (g.O.Sink.told c.put.new.self) (g.S.Shop.told c.args.shop.now) e.put (e.count.rose refl))
