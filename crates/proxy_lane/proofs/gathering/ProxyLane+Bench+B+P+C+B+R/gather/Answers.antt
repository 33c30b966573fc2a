use Rattle.std.specs.Prelude.{OnOk, IfErr}
use Rattle.std.proofs.Common.{◌≡◌, ℕ, Result, ap, sym, subst, ◌∙◌}
use Rattle.seat_desk.specs.declared.machine.Machine.{Ghosts}
use Rattle.seat_desk.specs.declared.desk.Pass.{Pass}
use Rattle.seat_desk.specs.Passes.{basis, mine}
use Rattle.exec_journal.specs.declared.attempt.Attempt.{Attempt}
use Rattle.exec_journal.specs.declared.call.Call.{Call}
use Rattle.exec_journal.specs.declared.call.Found.{Found}
use Rattle.exec_journal.specs.declared.reply.Reply.{Reply}
use Rattle.proxy_words.specs.declared.halt.ProxyHalt.{ProxyHalt}
use Rattle.core_contract.specs.Shelf.{child_at}
use Rattle.core_contract.specs.Duties.{Asks, duty_of, proxy_lane}
use Rattle.proxy_calls.specs.Calls.{MakesNone}
use Rattle.proxy_laws.specs.Steps.{ClaimsFound, IsCauseOfClaim, OwesClaim}
use Rattle.proxy_laws.proofs.Shelving.{claim_shelved}
use Rattle.proxy_laws.proofs.Founds.{gather_goes, gather_cut, claim_halts}
use Rattle.proxy_lane.proofs.Siting.{now_at_site, obeys_by, obeys_with, same_on, stays_at, work_at, work_on}
use Rattle.proxy_lane.specs.Held.{with_berth}
use Rattle.proxy_lane.specs.declared.site.Site.{Site}
use Rattle.proxy_lane.specs.Sites.{means_at}
use Rattle.proxy_lane.proofs.gathering.ProxyLane+Bench+B+P+C+B+R.gather.Goals as goal

-- a Claim and a Committed leave the child on the shelf
claimed_shelved : {M G Q A : Type 0} {g : Ghosts M Call Reply G Q} (w : ℕ) (t : Attempt) (f : Found)
    (p p1 p2 : Pass M Call Reply G Q g) (r : Result A ProxyHalt) → p.lane ≡ proxy_lane w
    → MakesNone p p1 → p1.lane ≡ p.lane
    → OnOk r ((duty_of (mine p2) ≡ Asks) × ClaimsFound t f p1 p2)
    → IfErr r (λ by. MakesNone p1 p2 × IsCauseOfClaim t f by)
    → child_at w (mine p2) ≡ child_at w (mine p)
claimed_shelved w t f p p1 p2 (Result.Ok u) is none lane claims refused =
    claim_shelved w t f p p1 p2 is none lane claims.1
claimed_shelved w t f p p1 p2 (Result.Err by) is none lane claims refused =
    ap (child_at w) (refused.0.1 ∙ none.1)

pub action_at-work-requires : goal.action_at-work-requires
action_at-work-requires g c = c.requires.may.2

pub act_gather-requires : goal.act_gather-requires
act_gather-requires g c =
    let x = c.args.self.now in
    record {
      at_site = c.requires.at_site;
      owes = c.requires.may.0;
      group = c.requires.may.3;
      of_action = work_at (g.C.Rules.discipline (basis x.caller.pass)).plan x.site.actions.now
          c.args.answer.now.attempt.action c.action_at-work.result.now c.requires.at_site.work
          c.action_at-work.ensures;
    }

pub claim_found-requires : goal.claim_found-requires
claim_found-requires g c =
    let rules = g.C.Rules.discipline in
    let x = c.args.self.now in
    let x1 = c.act_gather.new.self in
    let t = c.args.answer.now.attempt in
    let here = c.act_gather.ensures.stays in
    let work = c.action_at-work.result.now in
    record {
      at_site = now_at_site rules x x1 here c.requires.at_site;
      may = subst (λ (s : Site g.row.R.Denot). OwesClaim rules s.berth t c.in-Ok.found x1.caller.pass)
          (sym here.site) c.in-Ok.ensures.may;
      of_action = work_on rules x x1 t.action work here.stays.same
          (work_at (rules (basis x.caller.pass)).plan x.site.actions.now t.action work
          c.requires.at_site.work c.action_at-work.ensures);
    }

pub returns-in-Err : goal.returns-in-Err
returns-in-Err g c =
    let x0 = c.args.self.now in
    let x1 = c.act_gather.new.self in
    let p = x0.caller.pass in
    let p1 = x1.caller.pass in
    let h = x0.hands in
    let x = c.args.answer.now in
    let here = c.act_gather.ensures.stays in
    let stays = here.stays in
    obeys_with g.C.Rules.discipline _ x0 x1 (with_berth x1.hands.berth h)
    (record { pass = stays.same; site = here.site }) c.act_gather.ensures.hands
    (ap (child_at x0.site.berth) stays.none.1 ∙ c.requires.may.1)
    (gather_cut (means_at x0.site) g.C.Rules.discipline p p1 p1 h x.line x.number
    x.attempt x.exit x.refused c.requires.may.0 c.action_at-work.result.now c.action_at-work.ensures stays.none
    stays.same.1 x1.hands.berth c.in-Err.field-0 c.in-Err.ensures.acts (stays_at p1).none)

pub returns-in-Ok : goal.returns-in-Ok
returns-in-Ok g c =
    let rules = g.C.Rules.discipline in
    let x0 = c.args.self.now in
    let x1 = c.act_gather.new.self in
    let x2 = c.claim_found.new.self in
    let means = means_at x0.site in
    let p = x0.caller.pass in
    let p1 = x1.caller.pass in
    let p2 = x2.caller.pass in
    let h = x0.hands in
    let x = c.args.answer.now in
    let duty = c.requires.may.0 in
    let here = c.act_gather.ensures.stays in
    let stays = here.stays in
    let work = c.action_at-work.result.now in
    let of = c.action_at-work.ensures in
    let new = x1.hands.berth in
    let f = c.in-Ok.found in
    let acts = c.in-Ok.ensures.acts in
    let claims = c.claim_found.ensures in
    obeys_with rules c.claim_found.result x0 x2 (with_berth new h)
    (record { pass = same_on p p1 p2 stays.same claims.same.pass; site = claims.same.site ∙ here.site })
    (claims.hands ∙ c.act_gather.ensures.hands)
    (claimed_shelved x0.site.berth x.attempt f p p1 p2 c.claim_found.result c.requires.at_site.lane.0
    stays.none stays.same.1 claims.claims claims.refused ∙ c.requires.may.1)
    (obeys_by means rules c.claim_found.result p h p2 (with_berth new h)
    ((duty_of (mine p2) ≡ Asks) × ClaimsFound x.attempt f p1 p2)
    (λ by. MakesNone p1 p2 × IsCauseOfClaim x.attempt f by)
    (λ y. (
      y.0,
      gather_goes means rules p p1 p2 h x.line x.number x.attempt x.exit x.refused duty work of
          stays.none stays.same.1 new f acts y.1,
    ))
    (λ by y. claim_halts means rules p p1 p2 h x.line x.number x.attempt x.exit x.refused duty work of
    stays.none stays.same.1 new f by acts y.0 y.1)
    claims.claims claims.refused)
