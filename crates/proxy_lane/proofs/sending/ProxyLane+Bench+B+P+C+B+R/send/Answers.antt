use Rattle.core_contract.specs.Ruled.{answer_after}
use Rattle.std.specs.Prelude.{ℤ}
use Rattle.std.proofs.Common.{◌≡◌, ap, sym, subst, ◌∙◌}
use Rattle.std.proofs.Math.Facts.{to_z-of_z}
use Rattle.seat_desk.specs.Passes.{mine, basis, seen}
use Rattle.core_contract.specs.Duties.{Asks, Sends, duty_of}
use Rattle.proxy_calls.specs.Calls.{MakesNone}
use Rattle.proxy_laws.specs.Acts.{SendActs}
use Rattle.proxy_laws.specs.Lanes.{open_line}
use Rattle.proxy_laws.specs.Steps.{OwesWrote, TellsWrote, IsCauseOf}
use Rattle.proxy_laws.proofs.Acting.{wrote_owed}
use Rattle.proxy_laws.proofs.Shelving.{wrote_shelved}
use Rattle.proxy_laws.proofs.Sends.{send_goes, send_halts}
use Rattle.proxy_lane.specs.Held.{ByOpenLine, with_feed}
use Rattle.proxy_lane.specs.Sites.{means_at, ReportsWrote}
use Rattle.proxy_lane.proofs.Siting.{is_open, now_at_site, obeys_by, obeys_with, open_is, same_on, work_at}
use Rattle.proxy_lane.proofs.sending.ProxyLane+Bench+B+P+C+B+R.send.Goals as goal

pub action_at-work-requires : goal.action_at-work-requires
action_at-work-requires g c = c.requires.may.3

pub act_send-wrote-requires-clause-due : goal.act_send-wrote-requires-clause-due
act_send-wrote-requires-clause-due g c =
    let x = c.args.self.now in
    record {
      at_site = c.requires.at_site;
      owes = subst (λ (n : ℤ). duty_of (mine x.caller.pass) ≡ Sends c.args.line n c.args.attempt)
          (sym (to_z-of_z c.ranges.number)) c.requires.may.0;
      group = c.requires.may.4;
      of_action = work_at (g.C.Rules.discipline (basis x.caller.pass)).plan x.site.actions.now
          c.args.attempt.action c.action_at-work.result.now c.requires.at_site.work c.action_at-work.ensures;
    }

pub act_send-wrote-requires-clause-opened : goal.act_send-wrote-requires-clause-opened
act_send-wrote-requires-clause-opened g c = is_open c.args.self.now.hands c.args.line c.requires.may.1

pub report-requires-clause-site : goal.report-requires-clause-site
report-requires-clause-site g c = now_at_site g.C.Rules.discipline c.args.self.now c.act_send-wrote.new.self
    c.act_send-wrote.ensures.stays c.requires.at_site

pub report-requires-clause-owes : goal.report-requires-clause-owes
report-requires-clause-owes g c =
    let own = c.args.self.now.caller.pass.seat.me.0.mine in
    let own1 = c.act_send-wrote.new.self.caller.pass.seat.me.0.mine in
    subst (λ (n : ℤ). OwesWrote c.args.line n c.act_send-wrote.result own1) (sym (to_z-of_z c.ranges.number))
    (wrote_owed c.args.line c.args.number c.args.attempt c.act_send-wrote.result own own1 c.requires.may.0
    c.act_send-wrote.ensures.stays.stays.none.1)

pub returns : goal.returns
returns g c =
    let means = means_at c.args.self.now.site in
    let rules = g.C.Rules.discipline in
    let x0 = c.args.self.now in
    let x1 = c.act_send-wrote.new.self in
    let x2 = c.report.new.self in
    let p = x0.caller.pass in
    let p1 = x1.caller.pass in
    let p2 = x2.caller.pass in
    let h = x0.hands in
    let l = c.args.line in
    let n = c.args.number in
    let t = c.args.attempt in
    let order = c.requires.may in
    let wrote = c.act_send-wrote.result in
    let here = c.act_send-wrote.ensures.stays in
    let stays = here.stays in
    let new = x1.hands.berth in
    let work = c.action_at-work.result.now in
    let found = c.action_at-work.ensures in
    let acts = subst (λ (m : ℤ). ByOpenLine (SendActs means t (answer_after (rules (basis p))) p.lane l m work
    wrote (seen p1)) h x1.hands) (to_z-of_z c.ranges.number) c.act_send-wrote.ensures.acts in
    let o = acts.was_open in
    let of = open_is h o l order.1 acts.was in
    let then = with_feed new o acts.feed h in
    let reports = subst (λ (m : ℤ). ReportsWrote c.report.result x1 x2 l m wrote) (to_z-of_z c.ranges.number)
    c.report.ensures in
    obeys_with rules c.report.result x0 x2 then
    (record { pass = same_on p p1 p2 stays.same reports.same.pass; site = reports.same.site ∙ here.site })
    (reports.hands ∙ acts.is)
    (wrote_shelved x0.site.berth l n wrote p p1 p2 c.report.result c.requires.at_site.lane.0
    stays.none stays.same.1 reports.told reports.refused ∙ (order.2 ∙ ap open_line acts.was))
    (obeys_by means rules c.report.result p h p2 then
    ((duty_of (mine p2) ≡ Asks) × TellsWrote l n wrote p1 p2)
    (λ by. MakesNone p1 p2 × IsCauseOf l n wrote by)
    (λ x. (
      x.0,
      send_goes means rules p p1 p2 h o acts.was l n of stays.none stays.same.1 new acts.feed
          t order.0 work found wrote acts.done x.1,
    ))
    (λ by x. send_halts means rules p p1 p2 h o acts.was l n of stays.none stays.same.1 new acts.feed
    t order.0 work found wrote by acts.done x.0 x.1)
    reports.told reports.refused)
