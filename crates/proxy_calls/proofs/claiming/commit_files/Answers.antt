use Rattle.core_contract.specs.Ruled.{IsPaidAfter, answer_after}
use Rattle.std.proofs.Common.{◌≡◌, ℕ, List, ap, sym, subst, ◌∙◌}
use Rattle.seat_desk.specs.History.{calls_by}
use Rattle.exec_journal.specs.declared.call.Call.{Call}
use Rattle.exec_journal.specs.declared.call.Call.TheVariants as call
use Rattle.core_contract.specs.Duties.{Commits, duty_of, proxy_lane}
use Rattle.core_contract.specs.Shelf.{Back}
use Rattle.core_contract.specs.Laws.{InScript, claimed}
use Rattle.core_machine.specs.Objects.{IsPlaceAt}
use Rattle.proxy_calls.proofs.Claimings.{may_commit, commit_made, commit_asks}
use Rattle.proxy_calls.proofs.Making.{makes_paid}
use Rattle.proxy_calls.proofs.claiming.commit_files.Goals as goal

pub call_paid-answer-requires-clause-paid : goal.call_paid-answer-requires-clause-paid
call_paid-answer-requires-clause-paid g c =
    let p = c.args.caller.now.pass in
    let q = p.seat.me.0.basis in
    let v = p.seat.me.0 in
    let t = c.args.grant.attempt in
    let fs = c.args.grant.files.now in
    let how = c.write_out-how.result in
    let own : duty_of (calls_by (proxy_lane c.args.berth) v.seen) ≡ Commits t.action t.branch fs =
    ap (λ (n : ℕ). duty_of (calls_by n v.seen)) (sym c.requires.lane.0)
    ∙ (ap duty_of p.idle.3 ∙ c.requires.may.owes.duty) in
    subst (λ (n : ℕ). IsPaidAfter (g.C.Rules.discipline q) v.seen n (call.Committed t.action t.branch how))
    (sym c.requires.lane.0)
    ((g.met.C.Rules.keeps q).commits_are_paid v.seen c.args.berth t.action t.branch fs how c.requires.lane.1 own)

pub call_paid-answer-requires-clause-suits : goal.call_paid-answer-requires-clause-suits
call_paid-answer-requires-clause-suits g c =
    let p = c.args.caller.now.pass in
    let q = p.seat.me.0.basis in
    let v = p.seat.me.0 in
    let t = c.args.grant.attempt in
    let fs = c.args.grant.files.now in
    let how = c.write_out-how.result in
    let own : duty_of (calls_by (proxy_lane c.args.berth) v.seen) ≡ Commits t.action t.branch fs =
    ap (λ (n : ℕ). duty_of (calls_by n v.seen)) (sym c.requires.lane.0)
    ∙ (ap duty_of p.idle.3 ∙ c.requires.may.owes.duty) in
    let rule = answer_after (g.C.Rules.discipline q) in
    let asks : Call = call.Committed t.action t.branch how in
    let may = may_commit (g.C.Rules.discipline q) c.args.berth
    (duty_of (calls_by (proxy_lane c.args.berth) v.seen)) t.action t.branch fs how own in
    let files : claimed (calls_by p.lane v.seen) ≡ fs =
    ap claimed p.idle.3 ∙ c.requires.may.owes.granted in
    let told = g.P.Place.told c.write_out-how.new.place in (
      subst (λ (n : ℕ). InScript rule v.seen n asks) (sym c.requires.lane.0)
          ((g.met.C.Rules.keeps q).proxies_do v.seen c.args.berth asks c.requires.lane.1 may),
      subst (λ (os : List (List ℕ)). IsPlaceAt t.action os (Back (claimed (calls_by p.lane v.seen)) how) told)
          (sym c.requires.may.outputs)
          (subst (λ (x : List (List ℕ)). IsPlaceAt t.action c.args.grant.outputs.now (Back x how) told) (sym files)
          c.write_out-how.ensures),
    )

pub returns-clause-committed : goal.returns-clause-committed
returns-clause-committed g c =
    let p = c.args.caller.now.pass in
    let q = p.seat.me.0.basis in
    let law = g.met.C.Rules in
    let v = p.seat.me.0 in
    let v' = c.call_paid-answer.new.self.pass.seat.me.0 in
    let a = c.call_paid-answer.ensures.answer in
    let t = c.args.grant.attempt in
    let fs = c.args.grant.files.now in
    let how = c.write_out-how.result in
    let duty = c.requires.may.owes.duty in
    let r = c.call_paid-answer.result.0 in
    let k = makes_paid g.C.Rules.discipline law.keeps c.args.berth p
    c.call_paid-answer.new.self.pass a.0 c.requires.lane (call.Committed t.action t.branch how) r
    (may_commit (g.C.Rules.discipline q) c.args.berth (duty_of v.mine) t.action t.branch fs how duty)
    (a.1, a.2, a.3) in
    (how, commit_made (answer_after (g.C.Rules.discipline q)) p.lane a.0 v.seen v.mine v'.seen v'.mine t.action t.branch fs how r duty k)

pub returns-clause-asks : goal.returns-clause-asks
returns-clause-asks g c =
    let p = c.args.caller.now.pass in
    let q = p.seat.me.0.basis in
    let law = g.met.C.Rules in
    let v = p.seat.me.0 in
    let v' = c.call_paid-answer.new.self.pass.seat.me.0 in
    let a = c.call_paid-answer.ensures.answer in
    let t = c.args.grant.attempt in
    let fs = c.args.grant.files.now in
    let how = c.write_out-how.result in
    let duty = c.requires.may.owes.duty in
    let r = c.call_paid-answer.result.0 in
    let k = makes_paid g.C.Rules.discipline law.keeps c.args.berth p
    c.call_paid-answer.new.self.pass a.0 c.requires.lane (call.Committed t.action t.branch how) r
    (may_commit (g.C.Rules.discipline q) c.args.berth (duty_of v.mine) t.action t.branch fs how duty)
    (a.1, a.2, a.3) in
    commit_asks (answer_after (g.C.Rules.discipline q)) p.lane a.0 v.seen v.mine v'.seen v'.mine t.action t.branch fs how r duty k
