-- One more berth is made.
use Rattle.std.proofs.Common.{arith, ◌∙◌}
use Rattle.worker_run.proofs.Making.{makes_on}
use Rattle.worker_run.proofs.Numbered.{one_more_berth}
use Rattle.worker_run.proofs.objects.make_berths.Goals as goal

pub loop-number-preserved : goal.loop-number-preserved
loop-number-preserved g c =
    let made = c.in-Ok-make_berth.ensures in
    let were = c.loop-number.invariant in
    record {
      within = omega (arith, c.loop-number-test.true);
      berths = rw (c.push_reserved.ensures.items) (one_more_berth g.F.Berth.Berth.told
          c.loop-number.number c.loop-number.berths.items c.in-Ok-make_berth.berth were.berths
          made.number made.log made.faults);
      len = omega (arith, were.len, c.push_reserved.ensures.len);
      room = omega (arith, were.room, c.push_reserved.ensures.capacity);
      made = makes_on c.loop-number.number 0 1 0 (g.F.Floor.told c.args.floor.now)
          (g.F.Floor.told c.loop-number.floor) (g.F.Floor.told c.make_berth.new.self) were.made
          made.made;
      log = c.make_berth.ensures.told ∙ were.log;
      count = omega (arith, c.make_berth.ensures.count, were.count);
    }
