use Rattle.core_contract.specs.Ruled.{CameAbout, answer_after}
use Rattle.std.specs.Prelude.{length}
use Rattle.exec_journal.specs.declared.call.Call.TheVariants as call
use Rattle.core_contract.specs.Laws.{lines_in}
use Rattle.core_contract.specs.Duties.{duty_of}
use Rattle.core_machine.proofs.Own.{child_is_own}
use Rattle.proxy_calls.proofs.Replies.{never_asked}
use Rattle.proxy_calls.proofs.Entries.{legal_at}
use Rattle.proxy_calls.proofs.Askings.{asked, lines_before, lines_after, order_holds, order_fits, ask_may, gives_child}
use Rattle.proxy_calls.proofs.Making.{makes}
use Rattle.proxy_calls.proofs.asking.ask.Goals as goal

pub order_of-requires-clause-fits : goal.order_of-requires-clause-fits
order_of-requires-clause-fits g c =
    let p = c.args.caller.now.pass in
    let rules = g.C.Rules.discipline in
    let law = g.met.C.Rules in
    let a = c.in-Ok.ensures.answer.0 in
    let k = makes rules law.keeps c.args.berth p c.ask.new.self.pass a.0
    c.requires.lane call.Ask c.in-Ok.answer.0
    (ask_may (rules p.seat.me.0.basis) c.args.berth (duty_of p.seat.me.0.mine) c.requires.asks)
    (a.1, a.2, a.3) never_asked in
    k.fitting

pub order_of-requires-clause-child : goal.order_of-requires-clause-child
order_of-requires-clause-child g c =
    let p = c.args.caller.now.pass in
    let a = c.in-Ok.ensures.answer.0 in
    gives_child g.B.Child.Child.told g.B.Tap.Tap.told g.P.Place.told
    (g.C.Rules.discipline p.seat.me.0.basis) a.0 p.lane c.args.berth c.in-Ok.answer.0 c.in-Ok.answer.1
    c.requires.lane.0 a.4

pub returns-in-Ok-clause-ordered : goal.returns-in-Ok-clause-ordered
returns-in-Ok-clause-ordered g c =
    let p = c.args.caller.now.pass in
    let q = p.seat.me.0.basis in
    let w = c.args.berth in
    let rules = g.C.Rules.discipline in
    let law = g.met.C.Rules in
    let rule = answer_after (g.C.Rules.discipline q) in
    let v = p.seat.me.0 in
    let v' = c.ask.new.self.pass.seat.me.0 in
    let a = c.in-Ok.ensures.answer.0 in
    let r = c.in-Ok.answer.0 in
    let k = makes rules law.keeps w p c.ask.new.self.pass a.0
    c.requires.lane call.Ask r (ask_may (rules q) w (duty_of v.mine) c.requires.asks)
    (a.1, a.2, a.3) never_asked in
    let busy = c.in-Ok.ensures.answer.1 in
    let legal = legal_at p a.0 (λ x h. CameAbout (g.C.Rules.discipline x) h) a.5
    (λ m h s. law.came m.core h s.0) in
    record {
      reply = r;
      lines = lines_in a.0;
      is_ordered = c.order_of.ensures;
      made = asked rule p.lane w a.0 v.seen v.mine v'.seen v'.mine r k busy c.requires.lane.0;
      holds = order_holds rule p.lane w a.0 v.seen v.mine v'.seen v'.mine r k busy c.requires.lane.0
          (length (rules q).plan.actions) ((law.keeps q).orders_hold a.0 p.lane legal) (child_is_own w);
      fits = order_fits rule p.lane w a.0 v.seen v.mine v'.seen v'.mine r k busy c.requires.lane.0
          (rules q) ((law.keeps q).orders_fit a.0 p.lane legal);
      later = lines_before rule p.lane w a.0 v.seen v.mine v'.seen v'.mine r k busy c.requires.lane.0;
      lines_then = lines_after rule p.lane w a.0 v.seen v.mine v'.seen v'.mine r k busy c.requires.lane.0;
    }
