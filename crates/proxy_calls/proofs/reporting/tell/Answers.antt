use Rattle.std.proofs.Common.{ap, sym, ◌∙◌}
use Rattle.exec_journal.specs.declared.call.Call.{Call}
use Rattle.proxy_words.specs.declared.halt.ProxyHalt.TheVariants as cause
use Rattle.core_contract.specs.Duties.{duty_of}
use Rattle.proxy_calls.proofs.Replies.{is_noted}
use Rattle.proxy_calls.proofs.Entries.{goes_front}
use Rattle.proxy_calls.proofs.Reportings.{report_fits, never_reported, by_report}
use Rattle.proxy_calls.proofs.Making.{makes, reports}
use Rattle.proxy_calls.proofs.reporting.tell.Goals as goal

pub returns-in-Ok : goal.returns-in-Ok
returns-in-Ok g c =
    let p = c.args.caller.now.pass in
    let p' = c.call.new.self.pass in
    let rules = g.C.Rules.discipline in
    let law = g.met.C.Rules in
    let a = c.in-Ok.ensures.answer in
    let r = c.in-Ok._answer.0 in
    let report = c.args.report in
    let k = makes rules law.keeps c.args.berth p p' a.0 c.requires.lane report r
    c.requires.may (a.1, a.2, a.3) (λ s. never_reported report s c.requires.report) in
    record {
      same = c.call.ensures.same;
      told = reports rules law.keeps c.args.berth p p' a.0 c.requires.lane report r k
          (is_noted r (sym (report_fits report r c.requires.report) ∙ k.fitting))
          (by_report (rules p.seat.me.0.basis) c.args.berth (duty_of p.seat.me.0.mine) report c.requires.report
          c.requires.may);
    }

pub returns-in-Err : goal.returns-in-Err
returns-in-Err g c =
    let p = c.args.caller.now.pass in
    let p' = c.call.new.self.pass in
    let x = c.in-Err.ensures.refused in
    record {
      same = c.call.ensures.same;
      told = (
        ap (λ (y : Call). cause.Refused y) x.0,
        (goes_front p.lane p.seat.me.0.seen p'.seat.me.0.seen x.2.0, x.2.1),
      );
    }
