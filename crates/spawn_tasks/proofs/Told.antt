-- What the reads of a list led to, and that a run of it asks no more.
use Rattle.std.proofs.Common.{◌≡◌, ℕ, ◌≤◌, List, [], ◌∷◌, length, map, Option, None, Result, Ok, Err, IfOk, refl, sym, ap, subst, ◌∙◌}
use Rattle.action_list.specs.Lists.{list_of}
use Rattle.build_report.specs.declared.fault.RunFault.TheVariants as fault
use Rattle.run_values.specs.Runnable.{EachHasBerth}
use Rattle.list_actions.specs.declared.faults.ListFault.{ListFault}
use Rattle.list_actions.specs.declared.types.ActionList.{ActionList}
use Rattle.list_actions.specs.Made.{maker_of}
use Rattle.list_actions.specs.Whole.{IsWhole}
use Rattle.outside.specs.declared.answers.Read.{Read}
use Rattle.outside.specs.declared.answers.Read.TheVariants as read
use Rattle.outside.specs.declared.floor.FloorRead.{FloorRead}
use Rattle.outside.specs.declared.floor.SourceFile.{SourceFile}
use Rattle.outside.specs.Told.{FloorTold}
use Rattle.run_values.specs.Work.{IsWorkOf}
use Rattle.remote_messages.specs.declared.work.Work.{Work}
use Rattle.run_loading.specs.declared.loading.Loaded.{Loaded}
use Rattle.run_loading.specs.Course.{AfterList, BytesRead, ListFirst, Loads}
use Rattle.run_loading.specs.Reads.{Reads}
use Rattle.run_loading.specs.Works.{due_work}
use Rattle.run_loading.proofs.Logged.{reads_none}
use Rattle.run_plan.specs.declared.plan.Plan.{Plan}
use Rattle.run_plan.specs.Groups.{berths}
use Rattle.run_plan.specs.Sound.{Sound}
use Rattle.run_tasks.specs.Tasks.{HasBerths, HasSettings, SpeechesFit}
use Rattle.spawn_strategies.specs.declared.types.ChoiceFault.{ChoiceFault}
use Rattle.spawn_strategies.specs.declared.types.SpawnOptions.{SpawnOptions}
use Rattle.spawn_strategies.specs.SpawnOptions.{AreFitting}
use Rattle.spawn_strategies.proofs.Sounds.{sound_answer}
use Rattle.spawn_tasks.specs.declared.faults.NoSpawn.TheVariants as no
use Rattle.spawn_tasks.specs.declared.tasks.SpawnTask.{SpawnTask}
use Rattle.spawn_tasks.specs.Course.{ChoiceLeads, ListLeads, Made, PlanLeads, SpawnCourse, UnlessMemory}
use Rattle.spawn_tasks.specs.Tasks.{IsSpawnTask, MayBeSpawned, choice_by, own_limits, parts_by}
use Rattle.spawn_tasks.proofs.Berthed.{are_own_limits, has_berths}
use Rattle.spawn_tasks.proofs.Placing.{are_parts, fits}
use Rattle.spawn_tasks.proofs.Runnable.{each_has_berth}
use Rattle.spawn_tasks.proofs.Worked.{works}

-- ---- a list with its work

-- this is the work of the list by its own strategies
pub record IsLoaded (list : ActionList) (work : Work) : Type 0 where
  pub files : List SourceFile
  pub loaded : map (due_work (maker_of list.actions) files) list.actions
      ≡ map (λ w. Ok w) work.actions

module _ (keys : ℕ) (loaded : Loaded) where
  pub by_bytes : (due : Result ActionList ListFault) (reads : List FloorRead)
      → BytesRead Loads due reads (Ok loaded) → IsLoaded loaded.list loaded.work
  by_bytes (Err f) reads h = absurd (let e = h.1 in cc)
  by_bytes (Ok list) reads h =
      subst (λ (l : ActionList). IsLoaded l loaded.work) (sym h.0)
      (record { files = h.1.0; loaded = h.1.2 })

  by_answer : (path : List ℕ) (answer : Read) (reads : List FloorRead)
      → AfterList Loads keys path answer reads (Ok loaded) → IsLoaded loaded.list loaded.work
  by_answer path read.Absent reads h = absurd (let e = h.1 in cc)
  by_answer path read.Failed reads h = absurd (let e = h.1 in cc)
  by_answer path (read.Found bytes) reads h = by_bytes (list_of keys bytes) reads h

  pub by_reads : (path : List ℕ) (reads : List FloorRead)
      → ListFirst Loads keys path reads (Ok loaded) → IsLoaded loaded.list loaded.work
  by_reads path [] h = absurd h
  by_reads path (first ∷ rest) h = by_answer path first.answer rest h.1

  pub is_loaded : (path : List ℕ) (old new : FloorTold)
      → Reads old new (λ reads. ListFirst Loads keys path reads (Ok loaded))
      → IsLoaded loaded.list loaded.work
  is_loaded path old new l = by_reads path l.0 l.3

-- ---- what a run asks

module _ (o : SpawnOptions) (limits : AreFitting o) (list : ActionList)
    (whole : IsWhole list.actions) (work : Work) (loaded : IsLoaded list work) where
  sound : (p : Plan) → choice_by o list.actions ≡ Ok p → Sound p
  sound p chosen =
      sound_answer list.actions o.strategies (own_limits o) (Ok p) limits.given.some_sandboxed
      limits.few (are_own_limits o limits.given) whole chosen

  settled : (p : Plan) (made : SpawnTask) → IsSpawnTask o list.actions p made
      → HasSettings made.task
  settled p made is =
      let fit = fits p (parts_by o list.actions p) (are_parts o list.actions p)
      made.task.commands.items made.task.speeches.items is.commands is.speeches in
      let same = sym is.plan in record {
        commanded = fit.commanded ∙ ap (λ (q : Plan). length q.groups) same;
        as_many = subst (λ (q : Plan). length made.task.speeches.items ≡ berths q) same fit.as_many;
        fit = subst (λ (q : Plan). SpeechesFit q made.task.speeches.items) same fit.fit;
      }

  planned : (p : Plan) (made : SpawnTask) → choice_by o list.actions ≡ Ok p
      → PlanLeads o list.actions work.actions p (Ok made) → MayBeSpawned made
  planned p made chosen h =
      let is = h.0 in
      let same = sym is.plan in record {
        sound = subst Sound same (sound p chosen);
        twin = is.twin ∙ same;
        berths = subst HasBerths same (has_berths o list.actions p limits chosen);
        runnable = subst EachHasBerth same (each_has_berth o list.actions p limits chosen);
        work = subst (λ (q : Plan). IsWorkOf q made.task.work.actions)
            same (works o list.actions whole loaded.files work.actions loaded.loaded
            (own_limits o) p made.task.work.actions chosen h.1);
        settings = settled p made is;
        delay = subst (λ d. d ≤ 9999) (sym is.delay) limits.given.delay;
      }

  by_choice : (made : SpawnTask) (due : Result Plan ChoiceFault) → choice_by o list.actions ≡ due
      → ChoiceLeads o list.actions work.actions due (Ok made) → MayBeSpawned made
  by_choice made (Ok p) chosen h = planned p made chosen h
  by_choice made (Err f) chosen h = absurd (cc)

  pub may_be_spawned : (made : Made)
      → UnlessMemory made (ListLeads o list.actions work.actions made)
      → IfOk made MayBeSpawned
  may_be_spawned (Ok made) h = by_choice made (choice_by o list.actions) refl h
  may_be_spawned (Err f) h = tt

-- ---- where the words aren't accepted

pub words_refused : (options : Option SpawnOptions) (told : FloorTold) → options ≡ None
    → Reads told told (λ reads. SpawnCourse options reads (Err (no.Fault fault.Words)))
words_refused options told none =
    reads_none told (λ reads. SpawnCourse options reads (Err (no.Fault fault.Words)))
    (subst (λ (o : Option SpawnOptions). SpawnCourse o [] (Err (no.Fault fault.Words))) (sym none)
    (refl, refl))
