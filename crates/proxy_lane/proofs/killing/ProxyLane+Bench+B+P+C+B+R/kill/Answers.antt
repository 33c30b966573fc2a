use Rattle.std.proofs.Common.{◌≡◌, None, refl, ap, sym, ◌∙◌, eq-eqb}
use Rattle.exec_journal.specs.declared.call.Call.TheVariants as call
use Rattle.core_contract.specs.Duties.{Duty, may_do}
use Rattle.proxy_laws.specs.Lanes.{open_line}
use Rattle.proxy_laws.specs.Steps.{open_in}
use Rattle.proxy_laws.proofs.Shelving.{told_shelved}
use Rattle.proxy_laws.proofs.Ending.{kill_goes, kill_halts}
use Rattle.proxy_lane.proofs.Siting.{obeys_told}
use Rattle.proxy_lane.specs.Sites.{means_at}
use Rattle.proxy_lane.proofs.killing.ProxyLane+Bench+B+P+C+B+R.kill.Goals as goal

pub tell-requires-clause-may : goal.tell-requires-clause-may
tell-requires-clause-may g c =
    let q = g.C.Rules.discipline c.args.self.now.caller.pass.seat.me.0.basis in
    ap (λ (s : Duty). may_do q c.args.self.now.site.berth s (call.Killed c.args.line)) c.requires.may.0
    ∙ eq-eqb c.args.line c.args.line refl

pub returns : goal.returns
returns g c =
    let means = means_at c.args.self.now.site in
    let rules = g.C.Rules.discipline in
    let p = c.args.self.now.caller.pass in
    let p2 = c.tell.new.caller.pass in
    let l = c.args.line in
    let h = c.args.self.now.hands in
    let h1 = c.lay_by.new.self in
    let told = c.tell.ensures.told in
    let closed : open_in h1 ≡ None = ap open_line c.lay_by.ensures.rest.0 in
    record {
      same = record { pass = c.tell.ensures.same; site = refl };
      tidy = told_shelved c.args.self.now.site.berth (call.Killed l) p p2 c.tell.result
          c.requires.at_site.lane.0 (λ o. refl) told ∙ (c.requires.may.2 ∙ sym closed);
      goes = obeys_told means rules c.tell.result p h p2 h1
          (call.Killed l) (λ made. kill_goes means rules p p2 h h1 l c.requires.may.0 c.lay_by.ensures made)
          (λ by is none. kill_halts means rules p p2 h h1 l c.requires.may.0 c.lay_by.ensures by none is)
          told;
    }
