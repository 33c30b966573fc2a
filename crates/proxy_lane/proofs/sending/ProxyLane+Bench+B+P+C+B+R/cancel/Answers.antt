use Rattle.std.specs.Prelude.{ℤ}
use Rattle.std.proofs.Common.{◌≡◌, ap, refl, sym, subst, ◌∙◌}
use Rattle.std.proofs.Math.Facts.{to_z-of_z}
use Rattle.seat_desk.specs.Passes.{mine}
use Rattle.core_contract.specs.Duties.{Asks, duty_of}
use Rattle.proxy_calls.specs.Calls.{MakesNone}
use Rattle.proxy_laws.specs.Lanes.{open_line}
use Rattle.proxy_laws.specs.Steps.{OwesWrote, TellsWrote, IsCauseOf}
use Rattle.proxy_laws.proofs.Acting.{cancel_owed}
use Rattle.proxy_laws.proofs.Shelving.{wrote_shelved}
use Rattle.proxy_laws.proofs.Sends.{cancel_goes, cancel_halts}
use Rattle.proxy_lane.specs.Held.{ByOpenLine, with_feed}
use Rattle.proxy_lane.specs.Sites.{means_at, ReportsWrote}
use Rattle.proxy_lane.specs.Writing.{CancelsBy}
use Rattle.proxy_lane.proofs.Siting.{is_open, obeys_by, obeys_with, open_is, stays_at}
use Rattle.proxy_lane.proofs.sending.ProxyLane+Bench+B+P+C+B+R.cancel.Goals as goal

pub cancel-wrote-requires : goal.cancel-wrote-requires
cancel-wrote-requires g c = is_open c.args.self.now.hands c.args.line c.requires.may.1

pub report-requires-clause-owes : goal.report-requires-clause-owes
report-requires-clause-owes g c =
    let speech = c.args.self.now.site.speech in
    let own = c.args.self.now.caller.pass.seat.me.0.mine in
    let wrote = c.cancel-wrote.result in
    let done = c.cancel-wrote.ensures in
    subst (λ (n : ℤ). OwesWrote c.args.line n wrote own) (sym (to_z-of_z c.ranges.number))
    (cancel_owed speech c.args.number c.args.line wrote own done.was_open.feed done.feed c.requires.may.0
    (subst (λ (n : ℤ). CancelsBy speech n wrote c.args.self.now.hands.berth c.cancel-wrote.new.self.berth
    done.was_open.feed done.feed) (to_z-of_z c.ranges.number) done.done).1)

pub returns : goal.returns
returns g c =
    let rules = g.C.Rules.discipline in
    let x0 = c.args.self.now in
    let x1 = record x0 { hands = c.cancel-wrote.new.self } in
    let x2 = c.report.new.self in
    let means = means_at x0.site in
    let p = x0.caller.pass in
    let p2 = x2.caller.pass in
    let h = x0.hands in
    let l = c.args.line in
    let n = c.args.number in
    let order = c.requires.may in
    let wrote = c.cancel-wrote.result in
    let none = (stays_at p).none in
    let new = c.cancel-wrote.new.self.berth in
    let acts = subst (λ (m : ℤ). ByOpenLine (CancelsBy means.speech m wrote) h c.cancel-wrote.new.self)
    (to_z-of_z c.ranges.number) c.cancel-wrote.ensures in
    let o = acts.was_open in
    let of = open_is h o l order.1 acts.was in
    let then = with_feed new o acts.feed h in
    let reports = subst (λ (m : ℤ). ReportsWrote c.report.result x1 x2 l m wrote) (to_z-of_z c.ranges.number)
    c.report.ensures in
    obeys_with rules c.report.result x0 x2 then
    (record { pass = reports.same.pass; site = reports.same.site })
    (reports.hands ∙ acts.is)
    (wrote_shelved x0.site.berth l n wrote p p p2 c.report.result c.requires.at_site.lane.0
    none refl reports.told reports.refused ∙ (order.2 ∙ ap open_line acts.was))
    (obeys_by means rules c.report.result p h p2 then
    ((duty_of (mine p2) ≡ Asks) × TellsWrote l n wrote p p2)
    (λ by. MakesNone p p2 × IsCauseOf l n wrote by)
    (λ x. (
      x.0,
      cancel_goes means rules p p p2 h o acts.was l n of none refl new acts.feed order.0 acts.done.0 wrote
          acts.done.1 x.1,
    ))
    (λ by x. cancel_halts means rules p p p2 h o acts.was l n of none refl new acts.feed order.0 acts.done.0
    wrote by acts.done.1 x.0 x.1)
    reports.told reports.refused)
