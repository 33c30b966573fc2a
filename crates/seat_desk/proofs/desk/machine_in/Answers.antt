use Rattle.seat_desk.proofs.Slots.{took_alone}
use Rattle.seat_desk.proofs.desk.machine_in.Goals as goal

pub returns : goal.returns
returns g c = took_alone c.requires.0 c.args.slots.items c.pop.new.self.items c.in-Some-Some.field-0 c.in-Some-Some.held c.requires.1
    c.in-Some-Some.ensures.items c.in-Some-Some.field-0-is
