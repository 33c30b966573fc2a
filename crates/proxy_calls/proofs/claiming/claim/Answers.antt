use Rattle.core_contract.specs.Discipline.{outputs_in}
use Rattle.core_contract.specs.Ruled.{answer_after}
use Rattle.std.proofs.Common.{Option, sym, subst}
use Rattle.proxy_calls.specs.Claims.{claim_of, IsGranted}
use Rattle.proxy_calls.proofs.Replies.{never_claimed}
use Rattle.proxy_calls.proofs.Claimings.{claim_made, claim_granted}
use Rattle.proxy_calls.proofs.Making.{makes}
use Rattle.proxy_calls.proofs.claiming.claim.Goals as goal

pub returns-in-Ok-clause-claimed : goal.returns-in-Ok-clause-claimed
returns-in-Ok-clause-claimed g c =
    let p = c.args.caller.now.pass in
    let q = p.seat.me.0.basis in
    let w = c.args.berth in
    let rules = g.C.Rules.discipline in
    let law = g.met.C.Rules in
    let rule = answer_after (g.C.Rules.discipline q) in
    let v = p.seat.me.0 in
    let v' = c.call.new.self.pass.seat.me.0 in
    let a = c.in-Ok.ensures.answer in
    let t = c.args.attempt in
    let f = c.args.found in
    let r = c.in-Ok.answer.0 in
    let k = makes rules law.keeps w p c.call.new.self.pass a.0
    c.requires.lane (claim_of t f) r c.requires.may (a.1, a.2, a.3) never_claimed in
    let child = g.B.Child.Child.told in
    let tap = g.B.Tap.Tap.told in
    let place = g.P.Place.told in
    let good = c.in-Ok.answer.1 in
    record {
      reply = r;
      made = claim_made rule child tap place (rules q) p.lane w
          a.0 v.seen v.mine v'.seen v'.mine t f r good c.requires.lane.0 c.requires.may k a.4;
      granted = subst (λ (o : Option g.row.P.Denot). IsGranted place (outputs_in (rules q).plan t.action) t o f r v'.mine)
          (sym c.place_in.ensures)
          (claim_granted rule child tap place (rules q) p.lane w
          a.0 v.seen v.mine v'.seen v'.mine t f r good c.requires.lane.0 c.requires.may k a.4);
    }
