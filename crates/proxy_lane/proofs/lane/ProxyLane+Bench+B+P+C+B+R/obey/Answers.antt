use Rattle.std.proofs.Common.{w32, SFits, rules as facts, ℤ, sym, subst}
use Rattle.std.proofs.Math.Facts.{to_z-of_z}
use Rattle.proxy_calls.specs.declared.asking.Order.TheVariants as asked
use Rattle.proxy_lane.specs.Sites.{IsOrdered}
use Rattle.proxy_lane.proofs.lane.ProxyLane+Bench+B+P+C+B+R.obey.Goals as goal

pub launch-requires : goal.launch-requires
launch-requires g c = rw c.in-Launch.is at c.requires

pub send-requires : goal.send-requires
send-requires g c =
    let fits : SFits w32 c.in-Send.number = search facts in
    subst (λ (n : ℤ). IsOrdered g.C.Rules.discipline g.B.Child.Child.told
    (asked.Send c.in-Send.line n c.in-Send.attempt) c.args.self.now)
    (sym (to_z-of_z fits)) (rw c.in-Send.is at c.requires)

pub cancel-requires : goal.cancel-requires
cancel-requires g c =
    let fits : SFits w32 c.in-Cancel.number = search facts in
    subst (λ (n : ℤ). IsOrdered g.C.Rules.discipline g.B.Child.Child.told
    (asked.Cancel c.in-Cancel.line n) c.args.self.now)
    (sym (to_z-of_z fits)) (rw c.in-Cancel.is at c.requires)

pub gather-requires : goal.gather-requires
gather-requires g c = rw c.in-Gather.is at c.requires

pub kill-requires : goal.kill-requires
kill-requires g c = rw c.in-Kill.is at c.requires
