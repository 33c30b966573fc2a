use Rattle.std.proofs.Common.{refl, sym, subst, ◌∙◌}
use Rattle.proxy_laws.specs.Steps.{open_in, SomeKeeps}
use Rattle.proxy_laws.proofs.Shelving.{at_half}
use Rattle.proxy_laws.proofs.Serving.{goes_on, some_on, halts_on, halts_may, ends_halted, ends_stopped}
use Rattle.proxy_lane.proofs.Siting.{same_on, site_on}
use Rattle.proxy_lane.specs.declared.site.Site.{Site}
use Rattle.proxy_lane.specs.Sites.{means_at, IsSite}
use Rattle.proxy_lane.proofs.lane.ProxyLane+Bench+B+P+C+B+R.serve.Goals as goal

pub loop-init : goal.loop-init
loop-init g c = record {
  same = record { pass = (refl, refl, refl); site = refl };
  ready = c.requires;
  goes = λ first k. k;
}

pub next-requires-in-loop : goal.next-requires-in-loop
next-requires-in-loop g c = c.loop.invariant.ready

pub give_up-requires : goal.give_up-requires
give_up-requires g c =
    let rules = g.C.Rules.discipline in
    let x1 = c.loop.self in
    let x2 = c.next-in-loop.new.self in
    let p1 = x1.caller.pass in
    let p2 = x2.caller.pass in
    let ready = c.loop.invariant.ready in
    let more = c.next-in-loop.ensures.same in
    record {
      at_site = subst (λ (s : Site g.row.R.Denot). IsSite rules s p2) (sym more.site)
          (site_on rules x1.site p1 p2 more.pass ready.at_site);
      may = halts_may (means_at x1.site) rules p1 p2 p2 x1.hands x2.hands x2.hands more.pass
          c.in-Err.cause ready.kept c.in-Err.ensures.goes;
      tidy = c.next-in-loop.ensures.tidy;
    }

pub returns-in-Ok-false : goal.returns-in-Ok-false
returns-in-Ok-false g c =
    let rules = g.C.Rules.discipline in
    let x = c.args.self.now in
    let x1 = c.loop.self in
    let x2 = c.next-in-loop.new.self in
    let means = means_at x.site in
    let p = x.caller.pass in
    let p1 = x1.caller.pass in
    let p2 = x2.caller.pass in
    let i = c.loop.invariant in
    let more = c.next-in-loop.ensures.same in
    let went = rw (c.in-Ok-false.field-0-test, i.same.site) at c.in-Ok-false.ensures.goes in
    let same = same_on p p1 p2 i.same.pass more.pass in
    record {
      same = record { pass = same; site = more.site ∙ i.same.site };
      ends = ends_stopped means rules p p2 p2 x.hands x2.hands x2.hands same
          (goes_on means rules p p1 p2 x.hands x1.hands x2.hands i.same.pass i.goes went.2) went.0 went.1;
    }

pub returns-in-Err : goal.returns-in-Err
returns-in-Err g c =
    let rules = g.C.Rules.discipline in
    let x = c.args.self.now in
    let x1 = c.loop.self in
    let x2 = c.next-in-loop.new.self in
    let x3 = c.give_up.new.self in
    let means = means_at x.site in
    let p = x.caller.pass in
    let p1 = x1.caller.pass in
    let p2 = x2.caller.pass in
    let p3 = x3.caller.pass in
    let i = c.loop.invariant in
    let more = c.next-in-loop.ensures.same in
    let same = same_on p p1 p2 i.same.pass more.pass in
    let left = c.give_up.ensures in
    let halts = rw i.same.site at c.in-Err.ensures.goes in
    let shelved = rw more.site at c.next-in-loop.ensures.tidy in
    record {
      same = record {
        pass = same_on p p2 p3 same left.same.pass;
        site = left.same.site ∙ (more.site ∙ i.same.site);
      };
      ends = ends_halted means rules p p2 p3 x.hands x2.hands x3.hands same
          c.in-Err.cause (open_in x2.hands)
          (halts_on means rules p p1 p2 x.hands x1.hands x2.hands i.same.pass c.in-Err.cause i.goes halts)
          refl
          (at_half x1.site.berth p2 (open_in x2.hands) (more.pass.1 ∙ i.ready.at_site.lane.0) shelved)
          left.halted left.laid_by;
    }

pub loop-preserved : goal.loop-preserved
loop-preserved g c =
    let rules = g.C.Rules.discipline in
    let x = c.args.self.now in
    let x1 = c.loop.self in
    let x2 = c.next-in-loop.new.self in
    let p = x.caller.pass in
    let p1 = x1.caller.pass in
    let p2 = x2.caller.pass in
    let i = c.loop.invariant in
    let more = c.next-in-loop.ensures.same in
    let went = rw c.in-Ok-true.field-0-test at c.in-Ok-true.ensures.goes in
    let at_first = rw i.same.site at went.1 in
    record {
      same = record { pass = same_on p p1 p2 i.same.pass more.pass; site = more.site ∙ i.same.site };
      ready = record {
        at_site = subst (λ (s : Site g.row.R.Denot). IsSite rules s p2) (sym more.site)
            (site_on rules x1.site p1 p2 more.pass i.ready.at_site);
        asks = went.0;
        tidy = c.next-in-loop.ensures.tidy;
        kept = subst (λ (s : Site g.row.R.Denot). SomeKeeps (means_at s) rules p2 x2.hands) (sym more.site)
            (some_on (means_at x1.site) rules p1 p2 p2 x1.hands x2.hands x2.hands more.pass i.ready.kept went.1);
      };
      goes = goes_on (means_at x.site) rules p p1 p2 x.hands x1.hands x2.hands i.same.pass i.goes at_first;
    }
