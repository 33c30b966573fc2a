-- A few commands, worked through.
use Rattle.std.specs.Prelude.{◌≡◌, refl, Bool, true, false, ℕ, zero, suc, is_some, Option, Some, None, Result, Ok, Err, List, [], ◌∷◌, codes, length}
use Rattle.action_list.specs.Keys.{key_bytes}
use Rattle.build_report.specs.declared.fault.RunFault.TheVariants as fault
use Rattle.list_actions.specs.declared.faults.ListFault.TheVariants as list_fault
use Rattle.list_actions.specs.declared.faults.What.TheVariants as what
use Rattle.list_actions.specs.declared.types.ListAction.{ListAction}
use Rattle.list_actions.specs.declared.types.Needs.{Needs}
use Rattle.list_actions.specs.declared.types.Strategy.TheVariants as strategy
use Rattle.outside.specs.declared.answers.Read.TheVariants as read
use Rattle.placed_rules.specs.declared.placed.Seating.TheVariants.{Own, Pools}
use Rattle.run_plan.specs.declared.plan.Kind.TheVariants as kind
use Rattle.run_plan.specs.declared.plan.Plan.{Plan}
use Rattle.run_plan.specs.declared.plan.Speech.TheVariants as speech
use Rattle.spawn_strategies.specs.declared.types.ChoiceFault.{ChoiceFault}
use Rattle.spawn_strategies.specs.declared.types.Name.{Name}
use Rattle.spawn_strategies.specs.declared.types.Name.TheVariants as name
use Rattle.spawn_strategies.specs.Choices.{choice_of}
use Rattle.spawn_tasks.specs.declared.faults.NoSpawn.TheVariants as no
use Rattle.spawn_tasks.specs.Tasks.{parts_by}
use Rattle.worker_key.specs.Keys.{counted}
use Rattle.placed_tasks.specs.declared.words.RunOptions.{RunOptions}
use Rattle.placed_tasks.specs.Course.{ListLeads, LoadLeads, PlacedCourse, Sourced}
use Rattle.placed_tasks.specs.Tasks.{choice_by, limits_of, seated_on, speeches_by}
use Rattle.placed_tasks.specs.Words.{run_options_of}

-- ---- words

-- all options stand together
all_together : run_options_of (
    codes "--max_workers=8" ∷ codes "--generate=3" ∷
    codes "--strategy=T=worker,sandboxed" ∷ codes "--spawn_strategy=remote" ∷
    codes "--sandboxed=2" ∷ codes "--sandbox_executor=s" ∷ codes "--local_delay=100" ∷
    codes "--worker_verbose" ∷ codes "--instances=2" ∷ codes "--remote=14" ∷
    codes "--retries=0" ∷ codes "--executor=e" ∷ codes "--extra_flag=x" ∷
    codes "--extra_flag=y" ∷ []
    ) ≡ Some (record {
      given = record {
        options = record {
          list = None;
          generate = Some 3;
          verbose = true;
          instances = 2;
          remote = 14;
          retries = 0;
          executor = codes "e";
          extra = codes "x" ∷ codes "y" ∷ [];
        };
        strategies = record {
          rules = record { mnemonic = codes "T"; names = name.Worker ∷ name.Sandboxed ∷ [] } ∷ [];
          common = name.Remote ∷ [];
          sandboxed = 2;
        };
        sandbox_executor = codes "s";
        local_delay = 100;
      };
      workers = Some 8;
    })
all_together = refl

-- a list alone
abbrev plainly : RunOptions
plainly = record {
  given = record {
    options = record {
      list = Some (codes "l");
      generate = None;
      verbose = false;
      instances = 4;
      remote = 1;
      retries = 1;
      executor = codes "remote_exec";
      extra = [];
    };
    strategies = record { rules = []; common = []; sandboxed = 1 };
    sandbox_executor = codes "remote_exec";
    local_delay = 0;
  };
  workers = None;
}

list_alone : run_options_of (codes "l" ∷ []) ≡ Some plainly
list_alone = refl

-- a list with these options
abbrev with_list : List (List ℕ) → Option RunOptions
with_list words = run_options_of (codes "l" ∷ words)

no_source : run_options_of (codes "--max_workers=8" ∷ []) ≡ None
no_source = refl

both_sources : with_list (codes "--generate=3" ∷ []) ≡ None
both_sources = refl

workers_twice : with_list (codes "--max_workers=8" ∷ codes "--max_workers=8" ∷ []) ≡ None
workers_twice = refl

no_worker : with_list (codes "--max_workers=0" ∷ []) ≡ None
no_worker = refl

many_workers : with_list (codes "--max_workers=25" ∷ []) ≡ None
many_workers = refl

unknown : with_list (codes "--help" ∷ []) ≡ None
unknown = refl

-- without a list of names that has `sandboxed` the number of sandboxes counts for nothing
all_executors : is_some (with_list (codes "--remote=16" ∷ codes "--sandboxed=16" ∷ [])) ≡ true
all_executors = refl

-- with one there is a sandbox too
one_more : with_list (codes "--remote=16" ∷ codes "--spawn_strategy=sandboxed" ∷ []) ≡ None
one_more = refl

one_less : is_some (with_list (codes "--remote=15" ∷ codes "--spawn_strategy=sandboxed" ∷ []))
    ≡ true
one_less = refl

of_a_mnemonic : with_list (codes "--remote=15" ∷ codes "--sandboxed=2" ∷
    codes "--strategy=T=worker,sandboxed" ∷ []) ≡ None
of_a_mnemonic = refl

-- ---- the list

-- nothing is read
refused : PlacedCourse (with_list (codes "--max_workers=0" ∷ [])) []
    (Err (no.Fault fault.Words))
refused = (refl, refl)

absent : Sourced (Some (codes "l")) None
    (record { path = codes "l"; answer = read.Absent } ∷ []) (Err (fault.Absent (codes "l")))
absent = (refl, (refl, refl))

-- what can't be read with its work ends it, whatever the strategies
unread : (o : RunOptions) → LoadLeads o (Err (fault.Absent (codes "l")))
    (Err (no.Fault (fault.Absent (codes "l"))))
unread o = refl

-- ---- its choice

abbrev needs : Bool → Needs
needs workers = record {
  workers = workers;
  multiplex = false;
  cancel = false;
  sandboxing = false;
  json = false;
  key_mnemonic = None;
}

-- a remote action that makes this output, with a key of its own if it may go to a worker
abbrev action : List ℕ → Bool → ListAction
action name workers = record {
  name = name;
  mnemonic = name;
  argv = name ∷ codes "@f" ∷ [];
  env = [];
  tools = [];
  inputs = [];
  outputs = name ∷ [];
  needs = needs workers;
  strategy = strategy.Remote;
}

-- so many actions that may go to a worker
abbrev working : ℕ → List ListAction
working zero = []
working (suc n) = action (n ∷ []) true ∷ working n

-- every action by the first of these names that supports it
abbrev by_names : List Name → Option ℕ → ℕ → RunOptions
by_names names workers delay = record plainly {
  given = record (plainly.given) {
    strategies = record { rules = []; common = names; sandboxed = 1 };
    local_delay = delay;
  };
  workers = workers;
}

abbrev on_workers : Option ℕ → RunOptions
on_workers workers = by_names (name.Worker ∷ []) workers 0

-- no name supports the first, and that is told before too many keys
none_supports : ListLeads (on_workers None) (action (codes "a") false ∷ working 49) []
    (Err (no.NoStrategy 0))
unfolding choice_of
none_supports = refl

-- without shared berths a key too many is told, before the words of any request
many_keys : ListLeads (on_workers None) (working 49) []
    (Err (no.Fault (fault.List (list_fault.TooMany what.Keys 49))))
unfolding choice_of key_bytes counted
many_keys = refl

abbrev groups_in : Result Plan ChoiceFault → ℕ
groups_in (Ok p) = length p.groups
groups_in (Err f) = 0

-- with them it isn't one too many
shared_keys : groups_in (choice_by (on_workers (Some 1)) (working 49)) ≡ 49
unfolding choice_of key_bytes counted
shared_keys = refl

-- ---- its berths

-- a key, and the executor
abbrev two_groups : Plan
two_groups = record {
  actions = record {
    name = codes "a";
    outputs = codes "a" ∷ [];
    makers = [];
    local = Some 0;
    remote = Some 1;
  } ∷ [];
  groups = record { kind = kind.Single; cancel = false; berths = 0 }
      ∷ record { kind = kind.Remote; cancel = false; berths = 1 } ∷ [];
  limit = 2;
}

abbrev xs : List ListAction
xs = action (codes "a") true ∷ []

abbrev raced : Option ℕ → ℕ → RunOptions
raced workers delay = by_names (name.Dynamic ∷ []) workers delay

-- the key's group has the berths of a pool
on_pools : seated_on (raced (Some 2) 100) two_groups
    (parts_by (raced (Some 2) 100).given xs two_groups) ≡ record {
      plan = record {
        actions = two_groups.actions;
        groups = record { kind = kind.Single; cancel = false; berths = 0 }
            ∷ record { kind = kind.Remote; cancel = false; berths = 0 } ∷ [];
        limit = 2;
      };
      seating = Pools (record { groups = 0 ∷ []; berths = 2 }
          ∷ record { groups = 1 ∷ []; berths = 1 } ∷ []) 4;
      ticks = Some 100;
    }
on_pools = refl

pools_speak : speeches_by (Some 2) two_groups (parts_by (raced (Some 2) 100).given xs two_groups)
    ≡ speech.Proto ∷ speech.Proto ∷ speech.Remote ∷ []
pools_speak = refl

-- sandboxes and the executor have a pool each
abbrev two_executors : Plan
two_executors = record {
  actions = [];
  groups = record { kind = kind.Remote; cancel = false; berths = 2 }
      ∷ record { kind = kind.Remote; cancel = false; berths = 3 } ∷ [];
  limit = 2;
}

a_pool_each : (seated_on (raced (Some 2) 0) two_executors
    (parts_by (raced (Some 2) 0).given [] two_executors)).seating
    ≡ Pools (record { groups = 0 ∷ []; berths = 2 } ∷ record { groups = 1 ∷ []; berths = 3 } ∷ []) 4
a_pool_each = refl

-- without a delay there are no Ticks
on_own : seated_on (raced None 0) two_groups (parts_by (raced None 0).given xs two_groups)
    ≡ record { plan = two_groups; seating = Own; ticks = None }
on_own = refl

own_limits : limits_of (raced None 0)
    ≡ record { keys = 48; instances = 4; remote = 1; retries = 1 }
own_limits = refl

shared_limits : limits_of (raced (Some 2) 0)
    ≡ record { keys = 4096; instances = 0; remote = 1; retries = 1 }
shared_limits = refl
