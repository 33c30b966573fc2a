use Rattle.std.proofs.Common.{[], ◌∙◌}
use Rattle.proxy_calls.proofs.Claimings.{below_writes, risen, wrote_all}
use Rattle.proxy_calls.proofs.claiming.write_out.Goals as goal

pub returns-in-Done : goal.returns-in-Done
returns-in-Done g c = record {
  of_action = c.commit.ensures.same ∙ c.requires.place.of_action;
  wrote = wrote_all c.args.outputs.now c.args.files.now (g.P.Place.told c.commit.new.place).log
      (c.in-Done.ensures.log [] c.requires.place.wrote);
}

pub returns-in-PlaceFault : goal.returns-in-PlaceFault
returns-in-PlaceFault g c =
    let did = c.in-PlaceFault.ensures in
    let told = g.P.Place.told in
    record {
      of_action = c.commit.ensures.same ∙ c.requires.place.of_action;
      wrote = (
        did.log [] c.requires.place.wrote,
        below_writes c.in-PlaceFault.written c.args.outputs.now c.args.files.now (did.fewer tt)
            c.requires.fits,
        risen (told c.args.place.now).faults (told c.commit.new.place).faults (did.count.rose tt),
      );
    }
