-- What a list comes to may be run by a core of shared berths.
use Rattle.std.proofs.Common.{◌≡◌, List, length, option_map, Ok, ap, sym, subst, ◌∙◌, arith}
use Rattle.std.proofs.lemmas.List.{length-map}
use Rattle.std.proofs.lemmas.Option.{slice_get-map}
use Rattle.action_list.specs.declared.parts.GroupPart.{GroupPart}
use Rattle.action_list.specs.Keys.{keys_of}
use Rattle.action_list.specs.Plans.{plan_of}
use Rattle.action_list.proofs.SoundActions.{sound_plan}
use Rattle.list_actions.specs.Whole.{IsWhole}
use Rattle.list_actions.specs.declared.types.ListAction.{ListAction}
use Rattle.outside.specs.Told.{FloorTold}
use Rattle.run_values.specs.Work.{IsWorkOf}
use Rattle.remote_messages.specs.declared.work.Work.{Work}
use Rattle.run_loading.specs.Course.{WorkRead}
use Rattle.run_loading.specs.Reads.{Reads}
use Rattle.run_plan.specs.declared.plan.Plan.{Plan}
use Rattle.run_plan.specs.Sound.{Sound}
use Rattle.run_tasks.proofs.AtBerths.{commands_law}
use Rattle.run_tasks.proofs.Spoken.{part_speaks, parts_law}
use Rattle.run_tasks.proofs.Works.{all_work}
use Rattle.placed_rules.specs.declared.pools.SharedPlan.{SharedPlan}
use Rattle.placed_rules.specs.Pools.{SoundPools, seats}
use Rattle.placed_rules.specs.Runnable.{EachHasPool}
use Rattle.shared_tasks.specs.declared.words.SharedOptions.{SharedOptions}
use Rattle.shared_tasks.specs.declared.reading.SharedTask.{SharedTask}
use Rattle.shared_tasks.specs.Words.{AreShared}
use Rattle.shared_tasks.specs.Tasks.{IsSharedTask, MayBeShared, SpeechesFit, bare_plan, drawn, parts_by, shared_plan, without_berths}
use Rattle.shared_tasks.proofs.Bare.{berthed, executors, sound_bare}
use Rattle.shared_tasks.proofs.Drawn.{IsDrawn, as_many, no_actions, pools, runnable, speeches}

module _ (o : SharedOptions) (limits : AreShared o) (xs : List ListAction) (whole : IsWhole xs) where
  abbrev q : SharedPlan
  q = shared_plan o xs

  abbrev parts : List GroupPart
  parts = parts_by o xs

  sound_drawn : Sound (drawn o xs)
  unfolding plan_of
  sound_drawn = sound_plan xs 0 o.options.remote o.options.retries whole
      limits.options.remote.0 limits.options.remote.1 limits.options.retries

  sound_own : Sound q.plan
  sound_own = sound_bare (drawn o xs) sound_drawn

  many : length parts ≡ length q.plan.groups
  many = parts_law xs (bare_plan o xs) o.options.extra o.options.executor

  is_drawn : IsDrawn (drawn o xs) parts
  is_drawn = record {
    sound = sound_drawn;
    as_many = many ∙ length-map (drawn o xs).groups without_berths;
    fit = λ i g part here at. part_speaks xs q.plan.actions o.options.extra o.options.executor 0
        q.plan.groups i (without_berths g) part
        (slice_get-map without_berths (drawn o xs).groups i ∙ ap (option_map without_berths) here) at;
    few = (let e = executors xs o.options.remote o.options.retries in
        let few = limits.options.remote.1 in omega (arith, e, few));
    berthed = berthed xs o.options.remote o.options.retries;
  }

  module _ (old new : FloorTold) (made : SharedTask) (work : Work)
      (of_list : IsSharedTask o xs made) (same : made.task.work ≡ work)
      (read : Reads old new (λ reads. WorkRead xs reads (Ok work))) where
    works : IsWorkOf q.plan work.actions
    unfolding plan_of
    works =
        let all = all_work (keys_of xs) read.3.0 xs work.actions whole.ordered whole.few_outputs
        read.3.2 in
        record { as_many = all.0; each = all.1 }

    pub may_be_shared : MayBeShared made
    may_be_shared = record {
      plan = ap (λ (s : SharedPlan). s.plan) of_list.shared ∙ sym of_list.plan;
      sound = subst Sound (sym of_list.plan) sound_own;
      pools = subst SoundPools (sym of_list.shared)
          (pools (drawn o xs) parts is_drawn o.workers o.options.instances limits.workers.0
          limits.workers.1 limits.options.instances.0);
      runnable = subst EachHasPool (sym of_list.shared)
          (runnable (drawn o xs) parts is_drawn o.workers o.options.instances limits.workers.0
          limits.workers.1 limits.options.instances.0);
      commanded = ap length of_list.commands
          ∙ (commands_law q.plan parts many).0 ∙ sym (ap (λ (p : Plan). length p.groups) of_list.plan);
      as_many = ap length of_list.speeches
          ∙ as_many (drawn o xs) parts is_drawn o.workers o.options.instances limits.workers.0
          limits.workers.1 limits.options.instances.0
          ∙ sym (ap seats of_list.shared);
      speeches = subst (λ (s : SharedPlan). SpeechesFit s made.task.speeches.items)
          (sym of_list.shared) (subst (SpeechesFit q) (sym of_list.speeches)
          (speeches (drawn o xs) parts is_drawn o.workers o.options.instances limits.workers.0
          limits.workers.1 limits.options.instances.0));
      work = subst (λ (s : SharedPlan). IsWorkOf s.plan
          made.task.work.actions) (sym of_list.shared)
          (subst (λ (v : Work). IsWorkOf q.plan v.actions) (sym same) works);
      actions = λ none. ap (λ (p : Plan). p.actions) of_list.plan
          ∙ no_actions (drawn o xs) parts is_drawn o.workers o.options.instances limits.workers.0
          limits.workers.1 limits.options.instances.0 (ap seats (sym of_list.shared) ∙ none);
    }
