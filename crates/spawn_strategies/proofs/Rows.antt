-- A few choices and plans, worked through.
use Rattle.std.specs.Prelude.{◌≡◌, refl, Bool, true, false, ℕ, Some, None, Ok, Err, List, [], ◌∷◌, codes}
use Rattle.run_plan.specs.declared.plan.Kind.TheVariants as kind
use Rattle.list_actions.specs.declared.types.ListAction.{ListAction}
use Rattle.list_actions.specs.declared.types.Needs.{Needs}
use Rattle.list_actions.specs.declared.types.Strategy.{Strategy}
use Rattle.list_actions.specs.declared.types.Strategy.TheVariants as strategy
use Rattle.spawn_strategies.specs.declared.types.ChoiceFault.TheVariants as fault
use Rattle.spawn_strategies.specs.declared.types.Name.{Name}
use Rattle.spawn_strategies.specs.declared.types.Name.TheVariants as name
use Rattle.spawn_strategies.specs.declared.types.PlanLimits.{PlanLimits}
use Rattle.spawn_strategies.specs.declared.types.Strategies.{Strategies}
use Rattle.spawn_strategies.specs.Chosen.{chosen}
use Rattle.spawn_strategies.specs.Choices.{choice_of, sandboxes}
use Rattle.spawn_strategies.specs.SpawnWords.{common_in, names_of, rule_in}

abbrev needs : Bool → Needs
needs workers = record {
  workers = workers;
  multiplex = false;
  cancel = false;
  sandboxing = false;
  json = false;
  key_mnemonic = None;
}

-- an action that makes this output, without tools or inputs
abbrev action : List ℕ → List ℕ → List (List ℕ) → Bool → Strategy → ListAction
action name mnemonic words workers own = record {
  name = name;
  mnemonic = mnemonic;
  argv = words;
  env = [];
  tools = [];
  inputs = [];
  outputs = name ∷ [];
  needs = needs workers;
  strategy = own;
}

-- it has no requirements
abbrev plain : ListAction
plain = action (codes "a") (codes "T") (codes "t" ∷ []) false strategy.Remote

-- it may go to a worker
abbrev working : ListAction
working = action (codes "b") (codes "T") (codes "t" ∷ codes "@f" ∷ []) true strategy.Remote

-- its mnemonic has no rule
abbrev other : ListAction
other = action (codes "c") (codes "U") (codes "t" ∷ []) false strategy.Remote

abbrev words_of : List Name → List Name → Strategies
words_of names common = record {
  rules = record { mnemonic = codes "T"; names = names } ∷ [];
  common = common;
  sandboxed = 1;
}

abbrev worker_first : List Name
worker_first = name.Worker ∷ name.Sandboxed ∷ []

abbrev limits : PlanLimits
limits = record { keys = 48; instances = 4; remote = 1; retries = 1 }

takes_sandbox : chosen (words_of worker_first []) plain ≡ Some name.Sandboxed
takes_sandbox = refl

takes_worker : chosen (words_of worker_first []) working ≡ Some name.Worker
takes_worker = refl

takes_first : chosen (words_of (name.Dynamic ∷ name.Worker ∷ []) []) working ≡ Some name.Dynamic
takes_first = refl

takes_none : chosen (words_of (name.Worker ∷ []) []) plain ≡ None
takes_none = refl

takes_common : chosen (words_of worker_first (name.Sandboxed ∷ [])) other ≡ Some name.Sandboxed
takes_common = refl

takes_own : chosen (words_of worker_first []) other ≡ Some name.Remote
takes_own = refl

none_supports : choice_of (plain ∷ []) (words_of (name.Worker ∷ []) []) limits
    ≡ Err (fault.NoneSupports 0)
unfolding choice_of
none_supports = refl

-- the first such action is told
first_is_told : choice_of (other ∷ plain ∷ plain ∷ []) (words_of (name.Worker ∷ []) []) limits
    ≡ Err (fault.NoneSupports 1)
unfolding choice_of
first_is_told = refl

-- a sandboxed action has a local branch, before the executor of the other
both_sorts : choice_of (plain ∷ other ∷ []) (words_of worker_first []) limits ≡ Ok (record {
  actions = record {
    name = codes "a";
    outputs = codes "a" ∷ [];
    makers = [];
    local = Some 0;
    remote = None;
  } ∷ record {
    name = codes "c";
    outputs = codes "c" ∷ [];
    makers = [];
    local = None;
    remote = Some 1;
  } ∷ [];
  groups = record { kind = kind.Remote; cancel = false; berths = 1 }
      ∷ record { kind = kind.Remote; cancel = false; berths = 1 } ∷ [];
  limit = 2;
})
unfolding choice_of
both_sorts = refl

-- a plan without a berth for a worker has keys nevertheless
no_key : choice_of (working ∷ []) (words_of worker_first []) (record limits { keys = 0 })
    ≡ Err (fault.TooManyKeys 1)
unfolding choice_of
no_key = refl

-- sandboxes are wanted where a list has them
some_sandboxes : sandboxes (words_of worker_first []) ≡ 1
some_sandboxes = refl

no_sandboxes : sandboxes (words_of (name.Worker ∷ []) (name.Remote ∷ [])) ≡ 0
no_sandboxes = refl

-- ---- words

reads_rule : rule_in (codes "--strategy=T=worker,sandboxed")
    ≡ Some (record { mnemonic = codes "T"; names = worker_first })
reads_rule = refl

no_mnemonic : rule_in (codes "--strategy==worker") ≡ None
no_mnemonic = refl

no_list : rule_in (codes "--strategy=T") ≡ None
no_list = refl

mnemonic_without_equals : rule_in (codes "--strategy=T=U=worker") ≡ None
mnemonic_without_equals = refl

reads_common : common_in (codes "--spawn_strategy=dynamic") ≡ Some (name.Dynamic ∷ [])
reads_common = refl

twice : names_of (codes "worker,remote,worker") ≡ None
twice = refl

empty_piece : names_of (codes "worker,") ≡ None
empty_piece = refl

nothing : names_of [] ≡ None
nothing = refl
