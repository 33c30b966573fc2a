use Rattle.call_laws.proofs.Fulfilled as me
use Rattle.call_laws.proofs.laws.orders_are_met.Goals as goal

pub returns : goal.returns
returns c = record {
  launches = me.launch_met;
  sends = me.send_met;
  gathers = me.gather_met;
  kills = me.kill_met;
  grants = me.grant_met;
  reads = me.read_met;
}
