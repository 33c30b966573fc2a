use Rattle.std.proofs.Common.{ap}
use Rattle.exec_journal.specs.declared.call.Call.{Call}
use Rattle.exec_journal.specs.declared.call.Call.TheVariants as call
use Rattle.exec_journal.specs.declared.call.Started.TheVariants as start
use Rattle.exec_journal.specs.declared.reply.Reply.TheVariants as reply
use Rattle.core_contract.specs.Duties.{Duty, duty_by, duty_of}
use Rattle.proxy_calls.proofs.Replies.{is_noted, never_noted}
use Rattle.proxy_calls.proofs.Reportings.{may_launch}
use Rattle.proxy_calls.proofs.Making.{makes, reports}
use Rattle.proxy_calls.proofs.reporting.tell_started.Goals as goal

pub returns-in-Ok-clause-told : goal.returns-in-Ok-clause-told
returns-in-Ok-clause-told g c =
    let p = c.args.caller.now.pass in
    let p' = c.call.new.self.pass in
    let rules = g.C.Rules.discipline in
    let law = g.met.C.Rules in
    let a = c.in-Ok.ensures.answer in
    let r = c.in-Ok._answer.0 in
    let report : Call = call.Launched c.args.line start.Done in
    let k = makes rules law.keeps c.args.berth p p' a.0 c.requires.lane report r
    (may_launch (rules p.seat.me.0.basis) c.args.berth (duty_of p.seat.me.0.mine) c.args.line start.Done
    c.requires.owes) (a.1, a.2, a.3) never_noted in
    reports rules law.keeps c.args.berth p p' a.0 c.requires.lane report r k
    (is_noted r k.fitting) (ap (λ (s : Duty). duty_by s report reply.Noted) c.requires.owes.1)
