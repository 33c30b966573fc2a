-- Some plan.
use Rattle.std.specs.Prelude.{[]}
use Rattle.run_plan.specs.declared.plan.Plan.{Plan}

abbrev pub no_plan : Plan
no_plan = record { actions = []; groups = []; limit = 0 }
