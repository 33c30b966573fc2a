use Rattle.proxy_calls.proofs.Making.{look_none, look_said}
use Rattle.proxy_calls.proofs.looking.look.Goals as goal

pub returns-in-Ok-clause-told : goal.returns-in-Ok-clause-told
returns-in-Ok-clause-told g c =
    let law = g.met.C.Rules in
    let a = c.in-Ok.ensures.answer in
    look_said g.C.Rules.discipline law.keeps c.args.berth c.args.caller.now.pass
    c.call.new.self.pass a.0 c.requires.lane c.args.wanted c.in-Ok.answer.0 c.requires.may (a.1, a.2, a.3)
    c.found_in.result c.found_in.ensures

pub returns-in-Ok-clause-stays : goal.returns-in-Ok-clause-stays
returns-in-Ok-clause-stays g c =
    let law = g.met.C.Rules in
    let a = c.in-Ok.ensures.answer in
    record {
      same = c.call.ensures.same;
      none = look_none g.C.Rules.discipline law.keeps c.args.berth
          c.args.caller.now.pass c.call.new.self.pass a.0 c.requires.lane c.args.wanted c.in-Ok.answer.0
          c.requires.may (a.1, a.2, a.3);
    }
