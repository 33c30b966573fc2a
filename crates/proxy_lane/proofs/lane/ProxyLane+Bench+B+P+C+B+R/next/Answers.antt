use Rattle.std.proofs.Common.{refl, ap, sym, subst, ◌∙◌}
use Rattle.std.proofs.lemmas.Result.{err_from_is_err_and}
use Rattle.core_contract.specs.Shelf.{child_at}
use Rattle.proxy_words.specs.declared.halt.ProxyHalt.{ProxyHalt}
use Rattle.proxy_laws.specs.Steps.{Halts, open_in}
use Rattle.proxy_laws.proofs.Acting.{none_open}
use Rattle.proxy_laws.proofs.Rounds.{ask_goes, ask_halts, may_obey, stopped}
use Rattle.proxy_laws.proofs.Serving.{goes_on, halts_on}
use Rattle.proxy_lane.proofs.Siting.{same_on, site_on}
use Rattle.proxy_lane.specs.Sites.{means_at}
use Rattle.proxy_lane.proofs.lane.ProxyLane+Bench+B+P+C+B+R.next.Goals as goal

pub obey-requires : goal.obey-requires
obey-requires g c =
    let site = c.args.self.now.site in
    let p = c.args.self.now.caller.pass in
    let h = c.args.self.now.hands in
    let p1 = c.ask.new.caller.pass in
    let x = rw c.in-Some.is at c.in_ok-order.ensures.ordered in
    let line = open_in c.args.self.now.hands in
    let at_site = c.requires.at_site in
    record {
      at_site = site_on g.C.Rules.discipline site p p1 c.ask.ensures.same at_site;
      may = may_obey (means_at site) g.C.Rules.discipline p p1 h c.requires.asks
          g.B.Child.Child.told site.berth line at_site.lane.0 c.requires.tidy c.requires.kept.1.holds.below
          at_site.work.as_many at_site.settings.of_plan c.in-Some.order x;
    }

pub returns-in_ok-obey-in-Some : goal.returns-in_ok-obey-in-Some
returns-in_ok-obey-in-Some g c =
    let means = means_at c.args.self.now.site in
    let rules = g.C.Rules.discipline in
    let p = c.args.self.now.caller.pass in
    let h = c.args.self.now.hands in
    let p1 = c.ask.new.caller.pass in
    let x = rw c.in-Some.is at c.in_ok-order.ensures.ordered in
    let p2 = c.obey.new.self.caller.pass in
    let went = c.in_ok-obey-in-Some.ensures.goes in
    record {
      same = record { pass = same_on p p1 p2 c.ask.ensures.same c.obey.ensures.same.pass; site = c.obey.ensures.same.site };
      tidy = c.obey.ensures.tidy;
      goes = (
        went.0,
        goes_on means rules p p1 p2 h h c.obey.new.self.hands c.ask.ensures.same
            (ask_goes means rules p p1 h c.requires.asks x.reply x.made) went.1,
      );
    }

pub returns-in_err-obey-in-Some : goal.returns-in_err-obey-in-Some
returns-in_err-obey-in-Some g c =
    let means = means_at c.args.self.now.site in
    let rules = g.C.Rules.discipline in
    let p = c.args.self.now.caller.pass in
    let h = c.args.self.now.hands in
    let p1 = c.ask.new.caller.pass in
    let x = rw c.in-Some.is at c.in_ok-order.ensures.ordered in
    let p2 = c.obey.new.self.caller.pass in
    let e = err_from_is_err_and c.from_residual-in_err-obey-in-Some.result c.from_residual-in_err-obey-in-Some.ensures.1 in
    rw (e.1, e.2) (record {
      same = record { pass = same_on p p1 p2 c.ask.ensures.same c.obey.ensures.same.pass; site = c.obey.ensures.same.site };
      tidy = c.obey.ensures.tidy;
      goes = halts_on means rules p p1 p2 h h c.obey.new.self.hands c.ask.ensures.same c.in_err-obey-in-Some.field-0.0
          (ask_goes means rules p p1 h c.requires.asks x.reply x.made) c.in_err-obey-in-Some.ensures.goes;
    })

pub returns-in-None : goal.returns-in-None
returns-in-None g c =
    let means = means_at c.args.self.now.site in
    let rules = g.C.Rules.discipline in
    let p = c.args.self.now.caller.pass in
    let h = c.args.self.now.hands in
    let p1 = c.ask.new.caller.pass in
    let x = rw c.in-None.is at c.in_ok-order.ensures.ordered in
    let y = stopped means rules p p1 h c.requires.asks g.B.Child.Child.told
    c.args.self.now.site.berth (open_in c.args.self.now.hands) c.requires.at_site.lane.0 c.requires.tidy
    c.requires.kept.1.holds.below x in
    record {
      same = record { pass = c.ask.ensures.same; site = refl };
      tidy = y.2;
      goes = (
        y.0,
        none_open h.opened y.1,
        ask_goes means rules p p1 h c.requires.asks x.reply x.made,
      );
    }

pub returns-in_err-order : goal.returns-in_err-order
returns-in_err-order g c =
    let means = means_at c.args.self.now.site in
    let rules = g.C.Rules.discipline in
    let p = c.args.self.now.caller.pass in
    let h = c.args.self.now.hands in
    let p1 = c.ask.new.caller.pass in
    let refused = c.in_err-order.ensures.refused in
    let e = err_from_is_err_and c.from_residual.result c.from_residual.ensures.1 in
    rw (e.1, e.2) (record {
      same = record { pass = c.ask.ensures.same; site = refl };
      tidy = ap (child_at c.args.self.now.site.berth) refused.1.1 ∙ c.requires.tidy;
      goes = subst (λ (by : ProxyHalt). Halts means rules by p h p1 h) (sym refused.0)
          (ask_halts means rules p p1 h c.requires.asks refused.1);
    })
