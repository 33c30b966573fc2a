use Rattle.std.proofs.Common.{refl}
use Rattle.lane_runs.proofs.Seating.{two_more}
use Rattle.lane_runs.proofs.lanes.push_seats.Goals as goal

pub returns-clause-seats : goal.returns-clause-seats
returns-clause-seats g c =
    record {
      proxy = record {
        alloc = c.args.alloc;
        berth = c.args.berth;
        number = c.args.number;
        speech = c.args.speech;
        settings = c.args.means.now.settings;
        actions = c.args.means.now.actions;
      };
      heard = record {
        alloc = c.args.alloc;
        berth = c.args.number;
        speech = c.args.speech;
      };
      is_proxy = (refl, refl, refl);
      is_tap = (refl, refl);
      grown = two_more c.args.lanes.now.items c.push_reserved.new.self.items
          c.push_reserved-2.new.self.items _ _ c.push_reserved.ensures.items
          c.push_reserved-2.ensures.items;
    }
