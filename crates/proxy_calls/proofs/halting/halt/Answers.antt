use Rattle.core_contract.specs.Ruled.{IsPaidAfter, answer_after}
use Rattle.std.proofs.Common.{◌≡◌, ℕ, Option, ap, sym, subst, ◌∙◌}
use Rattle.seat_desk.specs.History.{calls_by}
use Rattle.exec_journal.specs.declared.call.Call.TheVariants as call
use Rattle.core_contract.specs.Duties.{duty_of, proxy_lane}
use Rattle.core_contract.specs.Shelf.{child_at}
use Rattle.proxy_calls.specs.Goods.{IsChildThere}
use Rattle.proxy_calls.proofs.Replies.{is_noted}
use Rattle.proxy_calls.proofs.Askings.{halted_child}
use Rattle.proxy_calls.proofs.Reportings.{noted_made, may_make_halt, not_left}
use Rattle.proxy_calls.proofs.Making.{makes_paid}
use Rattle.proxy_calls.proofs.halting.halt.Goals as goal

pub call_paid-answer-requires-clause-paid : goal.call_paid-answer-requires-clause-paid
call_paid-answer-requires-clause-paid g c =
    let p = c.args.caller.now.pass in
    let q = p.seat.me.0.basis in
    let v = p.seat.me.0 in
    let own : duty_of (calls_by (proxy_lane c.args.berth) v.seen) ≡ duty_of v.mine =
    ap (λ (n : ℕ). duty_of (calls_by n v.seen)) (sym c.requires.lane.0) ∙ ap duty_of p.idle.3 in
    subst (λ (n : ℕ). IsPaidAfter (g.C.Rules.discipline q) v.seen n call.Halt) (sym c.requires.lane.0)
    ((g.met.C.Rules.keeps q).proxies_may_halt v.seen c.args.berth c.requires.lane.1
    (λ e. not_left (duty_of v.mine) c.requires.may (sym own ∙ e)))

pub returns-clause-halted : goal.returns-clause-halted
returns-clause-halted g c =
    let p = c.args.caller.now.pass in
    let q = p.seat.me.0.basis in
    let law = g.met.C.Rules in
    let v = p.seat.me.0 in
    let v' = c.call_paid-answer.new.self.pass.seat.me.0 in
    let a = c.call_paid-answer.ensures.answer in
    let r = c.call_paid-answer.result.0 in
    let k = makes_paid g.C.Rules.discipline law.keeps c.args.berth p
    c.call_paid-answer.new.self.pass a.0 c.requires.lane call.Halt r
    (may_make_halt (g.C.Rules.discipline q) c.args.berth (duty_of v.mine) c.requires.may) (a.1, a.2, a.3) in
    noted_made (answer_after (g.C.Rules.discipline q)) p.lane a.0 v.seen v.mine v'.seen v'.mine call.Halt r k (is_noted r k.fitting)

pub returns-clause-child : goal.returns-clause-child
returns-clause-child g c =
    let p = c.args.caller.now.pass in
    let q = p.seat.me.0.basis in
    let law = g.met.C.Rules in
    let v = p.seat.me.0 in
    let a = c.call_paid-answer.ensures.answer in
    let r = c.call_paid-answer.result.0 in
    let k = makes_paid g.C.Rules.discipline law.keeps c.args.berth p
    c.call_paid-answer.new.self.pass a.0 c.requires.lane call.Halt r
    (may_make_halt (g.C.Rules.discipline q) c.args.berth (duty_of v.mine) c.requires.may) (a.1, a.2, a.3) in
    let child = g.B.Child.Child.told in
    subst (λ (o : Option g.row.B-Child.Denot). IsChildThere child (child_at c.args.berth v.mine) o)
    (sym c.child_in.ensures)
    (halted_child child g.B.Tap.Tap.told g.P.Place.told (g.C.Rules.discipline q) a.0 p.lane c.args.berth v.mine r
    c.call_paid-answer.result.1 c.requires.lane.0 k.own_then (is_noted r k.fitting) a.4)
