-- What the reads of a list led to, and that a run of it asks no more.
use Rattle.std.proofs.Common.{◌≡◌, ◌≤◌, ℕ, zero, suc, List, [], length, false, Option, Some, None, Result, Ok, Err, IfOk, IfSome, unwrap_or, refl, sym, ap, subst, ◌∙◌, arith}
use Rattle.std.proofs.lemmas.List.{length-map}
use Rattle.action_list.specs.declared.parts.GroupPart.{GroupPart}
use Rattle.action_list.specs.Lists.{list_of}
use Rattle.build_report.specs.declared.fault.RunFault.TheVariants as fault
use Rattle.generated_list.specs.Generated.{generated_text}
use Rattle.list_actions.specs.declared.types.ActionList.{ActionList}
use Rattle.list_actions.specs.declared.types.ListAction.{ListAction}
use Rattle.list_actions.specs.Whole.{IsWhole}
use Rattle.outside.specs.declared.floor.FloorRead.{FloorRead}
use Rattle.outside.specs.Told.{FloorTold}
use Rattle.placed_rules.specs.declared.placed.Placed.{Placed}
use Rattle.placed_rules.specs.declared.placed.Seating.{Seating}
use Rattle.placed_rules.specs.declared.pools.SharedPlan.{SharedPlan}
use Rattle.placed_rules.specs.Placed.{on_own, on_pools}
use Rattle.remote_messages.specs.declared.work.Work.{Work}
use Rattle.run_loading.specs.declared.loading.Loaded.{Loaded}
use Rattle.run_loading.specs.Reads.{Reads}
use Rattle.run_loading.proofs.Logged.{reads_none}
use Rattle.run_plan.specs.declared.plan.Plan.{Plan}
use Rattle.run_plan.specs.Sound.{Sound}
use Rattle.run_tasks.proofs.AtBerths.{commands_law}
use Rattle.run_values.specs.Work.{IsWorkOf}
use Rattle.shared_tasks.specs.Course.{most_keys}
use Rattle.shared_tasks.specs.Pools.{speeches_in, spoken_pools}
use Rattle.shared_tasks.specs.Tasks.{MayBeShared, SpeechesFit, pooled, without_berths}
use Rattle.shared_tasks.proofs.Drawn.{IsDrawn, as_many, no_actions, pools, runnable, sound_own, speeches}
use Rattle.spawn_strategies.specs.declared.types.ChoiceFault.{ChoiceFault}
use Rattle.spawn_strategies.specs.Choices.{choice_of}
use Rattle.spawn_strategies.proofs.Sounds.{sound_answer}
use Rattle.spawn_tasks.specs.declared.faults.NoSpawn.TheVariants as no
use Rattle.spawn_tasks.specs.declared.tasks.SpawnTask.{SpawnTask}
use Rattle.spawn_tasks.specs.Course as spawn_course
use Rattle.spawn_tasks.specs.Course.{UnlessMemory}
use Rattle.spawn_tasks.specs.Tasks as spawn
use Rattle.spawn_tasks.specs.Tasks.{IsSpawnTask, MayBeSpawned, parts_by}
use Rattle.spawn_tasks.proofs.Placing.{are_parts}
use Rattle.spawn_tasks.proofs.Told.{IsLoaded, by_bytes, by_reads, may_be_spawned}
use Rattle.spawn_tasks.proofs.Worked.{works}
use Rattle.placed_tasks.specs.declared.tasks.PlacedTask.{PlacedTask}
use Rattle.placed_tasks.specs.declared.words.RunOptions.{RunOptions}
use Rattle.placed_tasks.specs.Course.{ChoiceLeads, ListLeads, Made, PlacedCourse, Sourced, Worded}
use Rattle.placed_tasks.specs.Tasks.{IsPlacedTask, MayBeOn, MayBePlaced, choice_by, instances_by, keys_by, limits_of, seated_by, speeches_by, ticks_for}
use Rattle.placed_tasks.specs.Words.{AreRunOptions}
use Rattle.placed_tasks.proofs.Limits.{are_limits}
use Rattle.placed_tasks.proofs.Seated.{berthed, few}

-- ---- a list with its work

by_source : (loaded : Loaded) (list : Option (List ℕ)) (generate : Option ℕ)
    (reads : List FloorRead) → Sourced list generate reads (Ok loaded)
    → IsLoaded loaded.list loaded.work
by_source loaded (Some path) None reads h = by_reads most_keys loaded path reads h
by_source loaded None (Some actions) reads h =
    by_bytes most_keys loaded (list_of most_keys (generated_text actions)) reads h
by_source loaded None None reads h = absurd h
by_source loaded (Some path) (Some actions) reads h = absurd h

pub is_loaded : (o : RunOptions) (loaded : Loaded) (old new : FloorTold)
    → Reads old new (λ reads. Sourced o.given.options.list o.given.options.generate reads (Ok loaded))
    → IsLoaded loaded.list loaded.work
is_loaded o loaded old new l =
    by_source loaded o.given.options.list o.given.options.generate l.0 l.3

-- ---- the Ticks

same_delay : (d : ℕ) → unwrap_or (ticks_for d) 0 ≡ d
same_delay zero = refl
same_delay (suc d) = refl

few_ticks : (d : ℕ) → d ≤ 9999 → IfSome (ticks_for d) (λ n. (1 ≤ n) × (n ≤ 9999))
few_ticks zero most = tt
few_ticks (suc d) most = (omega arith, most)

-- whatever the berths, these are its Ticks
ticks_of : (w : Option ℕ) (instances : ℕ) (ticks : Option ℕ) (p : Plan) (parts : List GroupPart)
    → (seated_by w instances ticks p parts).ticks ≡ ticks
ticks_of None instances ticks p parts = refl
ticks_of (Some n) instances ticks p parts = refl

module _ (o : RunOptions) (limits : AreRunOptions o) (list : ActionList)
    (whole : IsWhole list.actions) (work : Work) (loaded : IsLoaded list work) where
  abbrev xs : List ListAction
  xs = list.actions

  -- ---- on berths of its own

  module _ (own : o.workers ≡ None) (p : Plan) (chosen : choice_by o xs ≡ Ok p) (made : PlacedTask)
      (of_list : IsPlacedTask o xs p made) (worded : Worded o xs work.actions (Ok made)) where
    -- a list with strategies is never generated, so that its report is whole
    abbrev spawned : SpawnTask
    spawned = record {
      task = record (made.task) { short = false };
      twin = made.placed.plan;
      delay = unwrap_or made.placed.ticks 0;
    }

    on : made.placed ≡ on_own p (ticks_for o.given.local_delay)
    on = of_list.placed
        ∙ ap (λ w. seated_by w o.given.options.instances (ticks_for o.given.local_delay) p
        (parts_by o.given xs p)) own

    own_choice : spawn.choice_by o.given xs ≡ Ok p
    own_choice =
        sym (ap (λ w. choice_of xs o.given.strategies (record {
          keys = keys_by w;
          instances = instances_by w o.given.options.instances;
          remote = o.given.options.remote;
          retries = o.given.options.retries;
        })) own) ∙ chosen

    is_spawned : IsSpawnTask o.given xs p spawned
    is_spawned = record {
      plan = of_list.plan ∙ ap (λ (x : Placed). x.plan) on;
      twin = ap (λ (x : Placed). x.plan) on;
      commands = of_list.commands;
      speeches = of_list.speeches ∙ ap (λ w. speeches_by w p (parts_by o.given xs p)) own;
      verbose = of_list.verbose;
      report = refl;
      delay = ap (λ (x : Placed). unwrap_or x.ticks 0) on ∙ same_delay o.given.local_delay;
    }

    may_be : MayBeSpawned spawned
    may_be =
        may_be_spawned o.given limits.fitting list whole work loaded (Ok spawned)
        (subst (λ due. spawn_course.ChoiceLeads o.given xs work.actions due (Ok spawned))
        (sym own_choice) (is_spawned, worded))

    on_own_berths : MayBeOn made.placed.seating made
    on_own_berths =
        subst (λ (s : Seating). MayBeOn s made) (sym (ap (λ (x : Placed). x.seating) on)) (record {
          sound = may_be.sound;
          twin = may_be.twin;
          berths = may_be.berths;
          runnable = may_be.runnable;
          work = may_be.work;
          settings = record {
            commanded = may_be.settings.commanded;
            as_many = may_be.settings.as_many;
            fit = may_be.settings.fit;
          };
          delay = may_be.delay;
        })

  -- ---- on those of pools

  module _ (n : ℕ) (shared : o.workers ≡ Some n) (p : Plan) (chosen : choice_by o xs ≡ Ok p)
      (made : PlacedTask) (of_list : IsPlacedTask o xs p made)
      (worded : Worded o xs work.actions (Ok made)) where
    abbrev parts : List GroupPart
    parts = parts_by o.given xs p

    abbrev q : SharedPlan
    q = pooled p parts n o.given.options.instances

    -- the limits of the number, and of the plan
    some : (1 ≤ n) × (n ≤ 24)
    some = subst (λ w. IfSome w (λ m. (1 ≤ m) × (m ≤ 24))) shared limits.workers

    on_them : made.placed ≡ on_pools q (ticks_for o.given.local_delay)
    on_them = of_list.placed
        ∙ ap (λ w. seated_by w o.given.options.instances (ticks_for o.given.local_delay) p parts) shared

    shared_choice : choice_of xs o.given.strategies (record {
      keys = 4096;
      instances = 0;
      remote = o.given.options.remote;
      retries = o.given.options.retries;
    }) ≡ Ok p
    shared_choice =
        sym (ap (λ w. choice_of xs o.given.strategies (record {
          keys = keys_by w;
          instances = instances_by w o.given.options.instances;
          remote = o.given.options.remote;
          retries = o.given.options.retries;
        })) shared) ∙ chosen

    is_drawn : IsDrawn p parts
    is_drawn = record {
      sound = sound_answer xs o.given.strategies (limits_of o) (Ok p)
          limits.fitting.given.some_sandboxed limits.fitting.few (are_limits o limits) whole chosen;
      as_many = (are_parts o.given xs p).as_many;
      fit = (are_parts o.given xs p).fit;
      few = few o.given.strategies xs 4096 o.given.options.remote o.given.options.retries p
          shared_choice limits.fitting.few;
      berthed = berthed o.given.strategies xs 4096 o.given.options.remote o.given.options.retries p
          shared_choice;
    }

    same_plan : made.task.plan ≡ q.plan
    same_plan = of_list.plan ∙ ap (λ (x : Placed). x.plan) on_them

    works_are : IsWorkOf q.plan made.task.work.actions
    works_are =
        let of_plan = works o.given xs whole loaded.files work.actions loaded.loaded (limits_of o) p
        made.task.work.actions chosen worded in
        record { as_many = of_plan.as_many; each = of_plan.each }

    of_pools : MayBeShared (record { task = made.task; shared = q })
    of_pools =
        let lines = limits.fitting.given.options.instances in record {
          plan = sym same_plan;
          sound = subst Sound (sym same_plan)
              (sound_own p parts is_drawn n o.given.options.instances some.0 some.1 lines.0);
          pools = pools p parts is_drawn n o.given.options.instances some.0 some.1 lines.0;
          runnable = runnable p parts is_drawn n o.given.options.instances some.0 some.1 lines.0;
          commanded = ap length of_list.commands
              ∙ (commands_law p parts is_drawn.as_many).0
              ∙ sym (length-map p.groups without_berths)
              ∙ sym (ap (λ (x : Plan). length x.groups) same_plan);
          as_many = ap length said
              ∙ as_many p parts is_drawn n o.given.options.instances some.0 some.1 lines.0;
          speeches = subst (SpeechesFit q) (sym said)
              (speeches p parts is_drawn n o.given.options.instances some.0 some.1 lines.0);
          work = works_are;
          actions = λ none. ap (λ (x : Plan). x.actions) same_plan
              ∙ no_actions p parts is_drawn n o.given.options.instances some.0 some.1 lines.0 none;
        }
      where
        said : made.task.speeches.items ≡ speeches_in (spoken_pools p.groups parts n)
        said = of_list.speeches ∙ ap (λ w. speeches_by w p parts) shared

    on_shared_berths : MayBeOn made.placed.seating made
    on_shared_berths =
        subst (λ (s : Seating). MayBeOn s made) (sym (ap (λ (x : Placed). x.seating) on_them))
        (subst (λ (r : Plan). MayBeShared (record {
          task = made.task;
          shared = record { plan = r; pools = q.pools; instances = q.instances };
        })) (sym (ap (λ (x : Placed). x.plan) on_them)) of_pools)

  -- ---- on both

  by_workers : (w : Option ℕ) → o.workers ≡ w → (p : Plan) → choice_by o xs ≡ Ok p
      → (made : PlacedTask) → IsPlacedTask o xs p made → Worded o xs work.actions (Ok made)
      → MayBeOn made.placed.seating made
  by_workers None e p chosen made of_list worded = on_own_berths e p chosen made of_list worded
  by_workers (Some n) e p chosen made of_list worded =
      on_shared_berths n e p chosen made of_list worded

  by_choice : (made : PlacedTask) (due : Result Plan ChoiceFault) → choice_by o xs ≡ due
      → ChoiceLeads o xs work.actions due (Ok made) → MayBePlaced made
  by_choice made (Ok p) chosen h = record {
    seated = by_workers o.workers refl p chosen made h.0 h.1;
    ticks = subst (λ t. IfSome t (λ n. (1 ≤ n) × (n ≤ 9999)))
        (sym (ap (λ (x : Placed). x.ticks) h.0.placed
        ∙ ticks_of o.workers o.given.options.instances (ticks_for o.given.local_delay) p
        (parts_by o.given xs p)))
        (few_ticks o.given.local_delay limits.fitting.given.delay);
  }
  by_choice made (Err f) chosen h = absurd (cc)

  pub may_be_placed : (made : Made) → UnlessMemory made (ListLeads o xs work.actions made)
      → IfOk made MayBePlaced
  may_be_placed (Ok made) h = by_choice made (choice_by o xs) refl h
  may_be_placed (Err f) h = tt

-- ---- where the words aren't accepted

pub words_refused : (options : Option RunOptions) (told : FloorTold) → options ≡ None
    → Reads told told (λ reads. PlacedCourse options reads (Err (no.Fault fault.Words)))
words_refused options told none =
    reads_none told (λ reads. PlacedCourse options reads (Err (no.Fault fault.Words)))
    (subst (λ (o : Option RunOptions). PlacedCourse o [] (Err (no.Fault fault.Words))) (sym none)
    (refl, refl))
