-- A few cases, worked through.
use Rattle.std.specs.Prelude.{◌≡◌, refl, Bool, true, false, ℕ, Some, None, Ok, Err, List, [], ◌∷◌, codes}
use Rattle.action_list.specs.Parts.{executor_part}
use Rattle.build_report.specs.declared.fault.RunFault.TheVariants as fault
use Rattle.flag_files.specs.Expand.{steps}
use Rattle.flag_files.specs.declared.expanding.FlagFault.TheVariants as flag
use Rattle.list_actions.specs.declared.faults.ListFault.TheVariants as list_fault
use Rattle.list_actions.specs.declared.faults.What.TheVariants as what
use Rattle.list_actions.specs.declared.types.ListAction.{ListAction}
use Rattle.list_actions.specs.declared.types.Needs.{Needs}
use Rattle.list_actions.specs.declared.types.Strategy.{Strategy}
use Rattle.list_actions.specs.declared.types.Strategy.TheVariants as strategy
use Rattle.remote_messages.specs.declared.work.WorkAction.{WorkAction}
use Rattle.run_plan.specs.declared.plan.Kind.TheVariants as kind
use Rattle.run_plan.specs.declared.plan.Plan.{Plan}
use Rattle.spawn_strategies.specs.declared.types.ChoiceFault.TheVariants as choice_fault
use Rattle.spawn_strategies.specs.declared.types.Name.{Name}
use Rattle.spawn_strategies.specs.declared.types.Name.TheVariants as name
use Rattle.spawn_strategies.specs.declared.types.SpawnOptions.{SpawnOptions}
use Rattle.spawn_strategies.specs.Choices.{choice_of, chosen_names}
use Rattle.spawn_tasks.specs.declared.faults.NoSpawn.TheVariants as no
use Rattle.spawn_tasks.specs.Faults.{refused}
use Rattle.spawn_tasks.specs.Tasks.{choice_by, parts_by, sandbox_group}
use Rattle.spawn_tasks.specs.Wording.{worded}

abbrev needs : Bool → Needs
needs workers = record {
  workers = workers;
  multiplex = false;
  cancel = false;
  sandboxing = false;
  json = false;
  key_mnemonic = None;
}

-- an action of its own strategy that makes this output
abbrev action : List ℕ → Bool → Strategy → ListAction
action name workers own = record {
  name = name;
  mnemonic = codes "T";
  argv = codes "t" ∷ codes "@f" ∷ [];
  env = [];
  tools = [];
  inputs = [];
  outputs = name ∷ [];
  needs = needs workers;
  strategy = own;
}

-- it can't go to a worker
abbrev plain : ListAction
plain = action (codes "a") false strategy.Remote

-- it may
abbrev working : ListAction
working = action (codes "b") true strategy.Remote

-- every action by the first of these names that supports it
abbrev options : List Name → SpawnOptions
options names = record {
  options = record {
    list = Some (codes "l");
    generate = None;
    instances = 4;
    remote = 1;
    retries = 1;
    executor = codes "e";
    extra = [];
    verbose = false;
  };
  strategies = record { rules = []; common = names; sandboxed = 1 };
  sandbox_executor = codes "s";
  local_delay = 5;
}

abbrev worker_first : SpawnOptions
worker_first = options (name.Worker ∷ name.Sandboxed ∷ [])

-- a remote action that no worker takes is sandboxed
sandboxed : chosen_names worker_first.strategies (plain ∷ []) ≡ name.Sandboxed ∷ []
sandboxed = refl

abbrev one_sandbox : Plan
one_sandbox = record {
  actions = record {
    name = codes "a";
    outputs = codes "a" ∷ [];
    makers = [];
    local = Some 0;
    remote = None;
  } ∷ [];
  groups = record { kind = kind.Remote; cancel = false; berths = 1 } ∷ [];
  limit = 2;
}

planned : choice_by worker_first (plain ∷ []) ≡ Ok one_sandbox
unfolding choice_of
planned = refl

-- on the sandbox executor
on_sandbox : parts_by worker_first (plain ∷ []) one_sandbox
    ≡ executor_part (codes "s") ∷ []
on_sandbox = refl

-- the executor of the other group stays
abbrev both : Plan
both = record {
  actions = [];
  groups = record { kind = kind.Remote; cancel = false; berths = 1 }
      ∷ record { kind = kind.Remote; cancel = false; berths = 1 } ∷ [];
  limit = 2;
}

other_stays : parts_by worker_first (plain ∷ []) both
    ≡ executor_part (codes "s") ∷ executor_part (codes "e") ∷ []
other_stays = refl

-- where none is sandboxed there is no such group
none_sandboxed : sandbox_group both.groups (name.Remote ∷ []) ≡ None
none_sandboxed = refl

-- ---- words

-- the work as it was loaded: a remote action has no words of a request
abbrev loaded : WorkAction
loaded = record {
  request_words = [];
  arguments = [];
  env = [];
  outputs = [];
  inputs = [];
}

-- a word that begins so stays as it is
abbrev escaped : ListAction
escaped = record working { argv = codes "t" ∷ codes "@@f" ∷ [] }

gets_words : worded name.Worker escaped loaded
    ≡ Ok (record loaded { request_words = codes "@@f" ∷ [] })
unfolding steps
gets_words = refl

-- the file isn't among its inputs
no_file : worded name.Dynamic working loaded ≡ Err (flag.NoSuchFile (codes "f"))
unfolding steps
no_file = refl

stays_remote : worded name.Remote working loaded ≡ Ok loaded
stays_remote = refl

-- one that has its words by its own strategy keeps them
keeps_words : worded name.Worker (action (codes "b") true strategy.Dynamic) loaded ≡ Ok loaded
keeps_words = refl

-- ---- faults

many_keys : refused (choice_fault.TooManyKeys 49)
    ≡ no.Fault (fault.List (list_fault.TooMany what.Keys 49))
many_keys = refl
