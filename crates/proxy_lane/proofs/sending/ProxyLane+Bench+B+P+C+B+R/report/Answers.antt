use Rattle.std.specs.Prelude.{ℤ, true}
use Rattle.std.proofs.Common.{◌≡◌, Result, refl, sym, subst}
use Rattle.std.proofs.Math.Facts.{to_z-of_z}
use Rattle.plain_values.specs.declared.no_memory.NoMemory.{NoMemory}
use Rattle.exec_journal.specs.declared.call.Call.TheVariants as call
use Rattle.exec_journal.specs.declared.call.Written.{Written}
use Rattle.proxy_words.specs.declared.halt.ProxyHalt.TheVariants.{NoMemory as Short}
use Rattle.core_contract.specs.Duties.{duty_of, may_do}
use Rattle.proxy_calls.specs.Reports.{Told}
use Rattle.proxy_laws.specs.Steps.{OwesWrote, IsCauseOf}
use Rattle.proxy_laws.proofs.Acting.{may_wrote}
use Rattle.proxy_lane.proofs.Siting.{reports_wrote, stays_at}
use Rattle.proxy_lane.proofs.sending.ProxyLane+Bench+B+P+C+B+R.report.Goals as goal

pub tell-requires-clause-may : goal.tell-requires-clause-may
tell-requires-clause-may g c =
    let p = c.args.self.now.caller.pass in
    let q = g.C.Rules.discipline p.seat.me.0.basis in
    let w = c.args.self.now.site.berth in
    subst (λ (n : ℤ). may_do q w (duty_of p.seat.me.0.mine) (call.Wrote c.args.line n c.in-Ok.how) ≡ true)
    (sym (to_z-of_z c.ranges.number))
    (may_wrote q w p.seat.me.0.mine c.args.line c.args.number c.in-Ok.how
    (subst (λ (r : Result Written NoMemory). OwesWrote c.args.line c.args.number r p.seat.me.0.mine)
    c.in-Ok.is c.requires.owes))

pub returns-in-Ok : goal.returns-in-Ok
returns-in-Ok g c =
    let x = c.args.self.now in
    reports_wrote c.args.line c.args.number c.in-Ok.how c.args.wrote c.tell.result x _ c.in-Ok.is
    (record { pass = c.tell.ensures.same; site = refl }) refl
    (subst (λ (n : ℤ). Told (call.Wrote c.args.line n c.in-Ok.how) c.tell.result x.caller.pass
    c.tell.new.caller.pass) (to_z-of_z c.ranges.number) c.tell.ensures.told)

pub returns-in-Err : goal.returns-in-Err
returns-in-Err g c =
    let stays = stays_at c.args.self.now.caller.pass in
    record {
      same = record { pass = stays.same; site = refl };
      hands = refl;
      told = tt;
      refused = (
        stays.none,
        subst (λ (r : Result Written NoMemory). IsCauseOf c.args.line c.args.number r Short) (sym c.in-Err.is) refl,
      );
    }
