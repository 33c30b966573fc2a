use Rattle.list_actions.specs.Producers.{producer_of}
use Rattle.run_loading.specs.Reads.{end_of}
use Rattle.run_loading.specs.Sources.{held}
use Rattle.run_loading.proofs.Courses.{input_made, input_read}
use Rattle.run_loading.proofs.sources.Sources.read_input.Goals as goal

pub returns-in-Some-clause-course : goal.returns-in-Some-clause-course
returns-in-Some-clause-course g c = input_made (producer_of c.args.producers.now) (g.F.Floor.told c.args.floor.now) (held c.args.self.now) c.args.path.now c.in-Some.field-0 c.in-Some.ensures

pub returns-in-None-clause-course : goal.returns-in-None-clause-course
returns-in-None-clause-course g c =
    input_read (producer_of c.args.producers.now) (end_of c.read_new.result) (g.F.Floor.told c.args.floor.now) (g.F.Floor.told c.read_new.new.floor) (held c.args.self.now) (held c.read_new.new.self) c.args.path.now c.read_new.result c.in-None.ensures c.read_new.ensures.course
