-- A list that was read has at most 48 keys, so its plan has a berth for its first action.
use Rattle.std.proofs.Common.{◌≡◌, ℕ, zero, suc, ◌+◌, ◌≤◌, Bool, true, false, cond, List, [], ◌∷◌, ◌++◌, length, map, sum_by, min, leb, eqb, Option, Some, None, Result, Ok, Err, IfOk, refl, sym, ap, subst, ◌∙◌, arith}
use Rattle.std.proofs.lemmas.Bool.{leb-true}
use Rattle.std.proofs.lemmas.Bool.Decides.{nat_tests}
use Rattle.std.proofs.lemmas.List.{length-map}
use Rattle.std.proofs.lemmas.List.Sums.{sum_by-append, sum_by-cons}
use Rattle.std.proofs.lemmas.Slice.Eq.{bytes_eq-Decides}
use Rattle.std.specs.Str.{bytes_eq}
use Rattle.list_actions.specs.declared.faults.ListFault.{ListFault}
use Rattle.list_actions.specs.declared.faults.ListFault.TheVariants as fault
use Rattle.list_actions.specs.declared.faults.What.{What}
use Rattle.list_actions.specs.declared.faults.What.TheVariants as what
use Rattle.list_actions.specs.declared.types.ActionList.{ActionList}
use Rattle.list_actions.specs.declared.types.ListAction.{ListAction}
use Rattle.list_actions.specs.declared.types.Strategy.TheVariants as strategy
use Rattle.action_list.specs.Actions.{action_in}
use Rattle.list_actions.specs.Answers.{Check, and_then, first}
use Rattle.action_list.specs.Checks.{actions_check, count_check, has_local, has_remote}
use Rattle.action_list.specs.Keys.{key_bytes, keys_check, keys_from, keys_of, with_bytes}
use Rattle.action_list.specs.Lists.{list_check, list_of, list_of_datas, list_of_top}
use Rattle.list_actions.specs.Order.{is_among, orders_check}
use Rattle.action_list.specs.Plans.{berths_at, executor_groups, first_user, group_by, groups_of, is_key, key_group, local_key, plan_of, remote_users, share, users}
use Rattle.action_list.specs.Top.{actions_in, json_in}
use Rattle.generated_list.specs.Generated.{generated_text}
use Rattle.outside.specs.declared.answers.Read.{Read}
use Rattle.outside.specs.declared.answers.Read.TheVariants as read
use Rattle.outside.specs.declared.floor.FloorRead.{FloorRead}
use Rattle.outside.specs.Told.{FloorTold}
use Rattle.run_loading.specs.Course.{AfterList, BytesRead}
use Rattle.run_loading.specs.Reads.{Leads}
use Rattle.run_plan.specs.declared.plan.Kind.TheVariants as kind
use Rattle.run_plan.specs.declared.plan.Group.{Group}
use Rattle.run_plan.specs.declared.plan.Plan.{Plan}
use Rattle.tool_words.specs.Options.{AreInLimits}
use Rattle.tool_words.specs.declared.options.Options.{Options}
use Rattle.run_tasks.specs.Course.{GeneratedRead, ListRead, Made, TaskRead}
use Rattle.run_tasks.specs.Tasks.{HasBerths, plan_by}
use Rattle.run_tasks.specs.declared.task.Task.{Task}
use Rattle.run_tasks.proofs.Works.{head_fine, rest_fine}
use Rattle.run_plan.specs.Limits.{most_local_berths}

-- ---- a list that was read has few keys

passed : {A B : Type 0} (r : Result A ListFault) (f : A → Result B ListFault) (y : B)
    → and_then r f ≡ Ok y → (x : A) × (r ≡ Ok x) × (f x ≡ Ok y)
passed (Ok x) f y e = (x, refl, e)
passed (Err fault) f y e = absurd (cc)

abbrev fine_if : Bool → ListFault → Check
fine_if b f = cond b (Ok tt) (Err f)

fine_or : (b : Bool) (f : ListFault) → fine_if b f ≡ Ok tt → b ≡ true
fine_or true f e = refl
fine_or false f e = absurd (cc)

counted : (w : What) (limit count : ℕ) → count_check w limit count ≡ Ok tt → count ≤ limit
counted w limit count e =
    leb-true count limit (fine_or (leb count limit) (fault.TooMany w count) e)

pub few_keys : (bytes : List ℕ) (list : ActionList) → list_of 48 bytes ≡ Ok list
    → length (keys_of list.actions) ≤ 48
few_keys bytes list e =
    let top = passed (json_in bytes) (list_of_top 48) list e in
    let datas = passed (actions_in top.0) (list_of_datas 48) list top.2 in
    let xs = map action_in datas.0 in
    let fine = passed (first (actions_check 0 datas.0 ∷ list_check 48 xs ∷ [])) _ list datas.2 in
    let both = head_fine (list_check 48 xs) [] (rest_fine (actions_check 0 datas.0) _ fine.1) in
    let keys = head_fine (keys_check 48 xs) [] (rest_fine (orders_check [] xs) _ both) in
    let made : xs ≡ list.actions = let is = fine.2 in cc in
    subst (λ ys. length (keys_of ys) ≤ 48) made (counted what.Keys 48 (length (keys_of xs)) keys)

-- ---- the share of a key

at_most_one : (counts : List ℕ) → berths_at counts 1 ≤ length counts
at_most_one [] = omega arith
at_most_one (count ∷ counts) =
    omega (arith, at_most_one counts, sum_by-cons (λ c. min 1 c) count counts)

share_some : (counts : List ℕ) (n : ℕ) → length counts ≤ 48 → 1 ≤ share counts (suc n)
share_some counts zero few =
    let fits : leb (berths_at counts 1) 48 ≡ true =
    let least = at_most_one counts in grind (arith, nat_tests) in
    subst (λ b. 1 ≤ cond b 1 0) (sym fits) (omega arith)
share_some counts (suc n) few =
    elim (leb (berths_at counts (suc (suc n))) 48)
    as (λ b. 1 ≤ cond b (suc (suc n)) (share counts (suc n)))
    [ true ↦ omega arith | false ↦ share_some counts n few ]

pub shares : (counts : List ℕ) (n : ℕ) → 1 ≤ n → length counts ≤ 48 → 1 ≤ share counts n
shares counts zero some few = absurd (omega (arith, some))
shares counts (suc n) some few = share_some counts n few

-- ---- the first action's berth

-- the keys begin with this one, whatever comes behind
keys_go_on : (key : List ℕ) (keys : List (List ℕ)) (xs : List ListAction)
    → (more : List (List ℕ)) × (keys_from (key ∷ keys) xs ≡ key ∷ more)
keys_go_on key keys [] = (keys, refl)
keys_go_on key keys (x ∷ xs) =
    let Goes : List (List ℕ) → Type 0 =
    λ now. (more : List (List ℕ)) × (keys_from now xs ≡ key ∷ more) in
    let b = key_bytes x in
    let added : Goes (with_bytes (key ∷ keys) b) =
    elim (is_among (key ∷ keys) b) as (λ known. Goes (cond known (key ∷ keys) ((key ∷ keys) ++ b ∷ [])))
    [ true ↦ keys_go_on key keys xs | false ↦ keys_go_on key (keys ++ b ∷ []) xs ] in
    elim (has_local x.strategy)
    as (λ local. Goes (cond local (with_bytes (key ∷ keys) b) (key ∷ keys)))
    [ true ↦ added | false ↦ keys_go_on key keys xs ]

-- what its number of berths is
pub berths_by : (o : Option ListAction) (n : ℕ) → (group_by o n).berths ≡ n
berths_by None n = refl
berths_by (Some x) n = refl

executor_some : (n : ℕ) → 1 ≤ n → 1 ≤ sum_by (λ g. g.berths) (executor_groups n)
executor_some n some =
    let one : Group = record { kind = kind.Remote; cancel = false; berths = n } in
    let is : eqb n 0 ≡ false = grind (arith, nat_tests) in
    subst (λ b. 1 ≤ sum_by (λ g. g.berths) (cond b [] (one ∷ []))) (sym is) (omega (arith, some))

itself : (key : List ℕ) → bytes_eq key key ≡ true
itself key = (bytes_eq-Decides key key).1 refl

module _ (x : ListAction) (rest : List ListAction) (instances remote : ℕ) where
  abbrev xs : List ListAction
  xs = x ∷ rest

  abbrev held : List (Option (List ℕ))
  held = map local_key xs

  abbrev sum : List Group → ℕ
  sum gs = sum_by (λ g. g.berths) gs

  abbrev named : List (List ℕ) → List Group
  named keys = map (key_group xs held (share (map (users held) (keys_of xs)) instances)) keys

  abbrev executors : List Group
  executors = executor_groups (min remote (remote_users xs))

  in_all : sum (groups_of xs held (keys_of xs) instances remote)
      ≡ sum (named (keys_of xs)) + sum executors
  in_all = sum_by-append (λ g. g.berths) (named (keys_of xs)) executors

  one_user : has_local x.strategy ≡ true → 1 ≤ users held (key_bytes x)
  one_user local =
      let key = key_bytes x in
      let weight : Option (List ℕ) → ℕ = λ k. cond (is_key key k) 1 0 in
      let own : local_key x ≡ Some key = ap (λ b. cond b (Some key) None) local in
      let one : weight (local_key x) ≡ 1 = ap weight own ∙ ap (λ b. cond b 1 0) (itself key) in
      omega (arith, sum_by-cons weight (local_key x) (map local_key rest), one)

  local_berth : 1 ≤ instances → length (keys_of xs) ≤ 48 → has_local x.strategy ≡ true
      → 1 ≤ sum (named (keys_of xs))
  local_berth some few local =
      let key = key_bytes x in
      let counts = map (users held) (keys_of xs) in
      let each = share counts instances in
      let begins : keys_of xs ≡ keys_from (key ∷ []) rest =
      ap (λ b. keys_from (cond b (with_bytes [] key) []) rest) local in
      let more = keys_go_on key [] rest in
      let split : named (keys_of xs) ≡ key_group xs held each key ∷ named more.0 =
      ap named (begins ∙ more.1) in
      let as_many : length counts ≤ 48 = omega (arith, length-map (keys_of xs) (users held), few) in
      let shared : 1 ≤ each = shares counts instances some as_many in
      let own : (key_group xs held each key).berths ≡ min each (users held key) =
      berths_by (first_user xs held key) (min each (users held key)) in
      omega (
        arith,
        ap sum split,
        sum_by-cons (λ (g : Group). g.berths) (key_group xs held each key)
            (named more.0),
        own,
        shared,
        one_user local,
      )

  remote_berth : 1 ≤ remote → has_remote x.strategy ≡ true → 1 ≤ sum executors
  remote_berth some is =
      let weight : ListAction → ℕ = λ y. cond (has_remote y.strategy) 1 0 in
      let one : weight x ≡ 1 = ap (λ b. cond b 1 0) is in
      let users : 1 ≤ remote_users xs = omega (arith, sum_by-cons weight x rest, one) in
      executor_some (min remote (remote_users xs)) (omega (arith, some, users))

  pub first_berth : 1 ≤ instances → 1 ≤ remote → length (keys_of xs) ≤ 48
      → 1 ≤ sum (groups_of xs held (keys_of xs) instances remote)
  first_berth some others few =
      let local : has_local x.strategy ≡ true
      → 1 ≤ sum (groups_of xs held (keys_of xs) instances remote) =
      λ is. omega (arith, in_all, local_berth some few is) in
      elim x.strategy
      as (λ s. x.strategy ≡ s → 1 ≤ sum (groups_of xs held (keys_of xs) instances remote)) [
        | strategy.Worker ↦ (λ is. local (ap has_local is))
        | strategy.Dynamic ↦ (λ is. local (ap has_local is))
        | strategy.Remote ↦ (λ is. omega (arith, in_all, remote_berth others (ap has_remote is)))
      ]
      refl

pub has_berths : (o : Options) (xs : List ListAction) → AreInLimits o
    → length (keys_of xs) ≤ 48 → HasBerths (plan_by o xs)
unfolding plan_of
has_berths o [] limits few none = refl
has_berths o (x ∷ rest) limits few none =
    let some = first_berth x rest o.instances o.remote limits.instances.0 limits.remote.0 few in
    absurd (omega (arith, some, none))

-- ---- what was read

-- what holds of the plan of each list with so few keys
module _ (o : Options) (P : Plan → Type 0)
    (holds : (xs : List ListAction) → length (keys_of xs) ≤ 48 → P (plan_by o xs)) where
  module _ (made : Task × Plan) where
    by_bytes : (short : Bool) (bytes : List ℕ) (due : Result ActionList ListFault)
        (reads : List FloorRead) → list_of 48 bytes ≡ due
        → BytesRead (TaskRead o short) due reads (Ok made) → P made.0.plan
    by_bytes short bytes (Ok list) reads is then =
        subst P (sym then.1.plan) (holds list.actions (few_keys bytes list is))
    by_bytes short bytes (Err f) reads is ends = absurd (let e = ends.1 in cc)

    by_answer : (path : List ℕ) (answer : Read) (reads : List FloorRead)
        → AfterList (TaskRead o false) most_local_berths path answer reads (Ok made)
        → P made.0.plan
    by_answer path read.Absent reads ends = absurd (let e = ends.1 in cc)
    by_answer path read.Failed reads ends = absurd (let e = ends.1 in cc)
    by_answer path (read.Found bytes) reads then =
        by_bytes false bytes (list_of 48 bytes) reads refl then

    by_list : (path : List ℕ) (reads : List FloorRead) → ListRead o path reads (Ok made)
        → P made.0.plan
    by_list path [] none = absurd none
    by_list path (first ∷ rest) then = by_answer path first.answer rest then.1

  -- holds of a task's plan, where its list was read at a path
  pub list_plan : (old new : FloorTold) (path : List ℕ) (result : Made)
      → Leads old new result (ListRead o path) → IfOk result (λ made. P made.0.plan)
  list_plan old new path (Ok made) l = by_list made path l.0 l.3
  list_plan old new path (Err f) l = tt

  -- and where it was generated
  pub generated_plan : (old new : FloorTold) (actions : ℕ) (result : Made)
      → Leads old new result (GeneratedRead o actions) → IfOk result (λ made. P made.0.plan)
  generated_plan old new actions (Ok made) l =
      by_bytes made true (generated_text actions) _ l.0 refl l.3
  generated_plan old new actions (Err f) l = tt

-- a task has berths for its actions, where its list was read at a path
pub list_has_berths : (o : Options) (old new : FloorTold) (path : List ℕ) (result : Made)
    → AreInLimits o → Leads old new result (ListRead o path)
    → IfOk result (λ made. HasBerths made.0.plan)
list_has_berths o old new path result limits l =
    list_plan o HasBerths (λ xs few. has_berths o xs limits few) old new path result l

-- and where it was generated
pub generated_has_berths : (o : Options) (old new : FloorTold) (actions : ℕ) (result : Made)
    → AreInLimits o → Leads old new result (GeneratedRead o actions)
    → IfOk result (λ made. HasBerths made.0.plan)
generated_has_berths o old new actions result limits l =
    generated_plan o HasBerths (λ xs few. has_berths o xs limits few) old new actions result l
