-- What is chosen on the berths of pools is what their rule orders.
use Rattle.std.proofs.Common.{◌≡◌, ℕ, ◌*◌, ◌/◌, ◌<◌, nat_lt, Bool, true, false, ◌&&◌, ◌||◌, not, cond, List, Option, Some, None, option_map, unwrap_or, refl, ap, sym, ◌∙◌, arith}
use Rattle.std.proofs.lemmas.Bool.{and_parts, ltb-true}
use Rattle.run_plan.specs.declared.plan.Kind.TheVariants as kind
use Rattle.list_lemmas.specs.Options.{or_else}
use Rattle.exec_journal.specs.declared.attempt.Attempt.{Attempt}
use Rattle.exec_journal.specs.declared.call.Call.TheVariants as call
use Rattle.exec_journal.specs.declared.reply.Reply.{Reply}
use Rattle.exec_journal.specs.declared.reply.Reply.TheVariants as reply
use Rattle.exec_journal.specs.declared.reply.Why.TheVariants as why
use Rattle.exec_journal.specs.Entry.{Entry}
use Rattle.exec_journal.specs.Lawful.{in_script}
use Rattle.exec_journal.specs.Rules as r
use Rattle.exec_journal.specs.Seated.{line_group, line_kind}
use Rattle.exec_journal.specs.Words.{last_line}
use Rattle.journal_laws.proofs.Ours.{runs_script}
use Rattle.worker_pool.proofs.Answered.{last_is}
use Rattle.core_tables.specs.declared.berth_group.BerthGroup.{BerthGroup}
use Rattle.core_state.specs.declared.choice.Choice.{Choice}
use Rattle.core_state.specs.declared.choice.Choice.TheVariants as choice
use Rattle.core_state.specs.declared.state.State.{State}
use Rattle.core_state.specs.Machine.{carried_reply}
use Rattle.core_contract.specs.Disciplines.{berth_script, script_of}
use Rattle.core_laws.specs.Stands.{SeatFits, Stands}
use Rattle.core_laws.proofs.AllOf.{all_of}
use Rattle.earliest_first.specs.Choices.{first_choice}
use Rattle.earliest_first.proofs.First.{first_is}
use Rattle.placed_rules.specs.declared.pools.SharedPlan.{SharedPlan}
use Rattle.placed_rules.specs.declared.pools.SharedPool.{SharedPool}
use Rattle.placed_rules.specs.Needs as needs
use Rattle.placed_rules.specs.Pools.{berth_kind, pool_of, seats}
use Rattle.placed_rules.specs.Shared as rule
use Rattle.placed_rules.specs.Placed.{pooled_discipline, seats_with}
use Rattle.placed_rules.specs.Due.{next_due}
use Rattle.placed_rules.proofs.Nexts.{due_nexts}
use Rattle.shared_laws.specs.Berths.{holds}
use Rattle.placed_berths.specs.Counts.{Facts}
use Rattle.placed_berths.specs.Due.{next_in}
use Rattle.placed_berths.specs.Pooled as told
use Rattle.placed_berths.specs.Choices as own

-- what the tables say of a berth and of pools is so
pub record AreTold (q : SharedPlan) (ticks : Option ℕ) (d : Option Facts) (s : State)
    (j : List Entry) (spoken : List ℕ) (w : ℕ) : Type 0 where
  pub due : (g : ℕ) → next_in d s g ≡ next_due q.plan ticks j g
  pub vacant : not (holds s w) ≡ r.is_vacant j (last_line j w)
  pub evicts : (l : ℕ) (pool : SharedPool) → last_line j w ≡ Some l
      → told.may_evict q d s spoken w pool ≡ needs.may_evict q ticks j w pool l
  pub next : (pool : SharedPool) → told.next_starved q d s pool ≡ rule.next_starved q ticks j pool

map_else : {X Y : Type 0} (f : X → Y) (o n : Option X)
    → option_map f (or_else o n) ≡ or_else (option_map f o) (option_map f n)
map_else f (Some x) n = refl
map_else f None n = refl

or_idle : (f : Choice → Reply) (o : Option Choice) (x : Choice)
    → f (unwrap_or o x) ≡ unwrap_or (option_map f o) (f x)
or_idle f (Some y) x = refl
or_idle f None x = refl

-- the script of an Ask, where a lane may make Ticks too
pub asks_on : (b rest : Bool) → ((b && false) || rest) ≡ true → rest ≡ true
asks_on true rest h = h
asks_on false rest h = h

pub asks_within : (q : SharedPlan) (ticks : Option ℕ) (j : List Entry) (lane : ℕ)
    → script_of (pooled_discipline q ticks) j lane call.Ask ≡ true
    → lane / 2 < seats_with ticks (seats q)
asks_within q ticks j lane may =
    let seated = asks_on _ (berth_script (pooled_discipline q ticks) j lane call.Ask) may in
    let below = ltb-true lane (2 * seats_with ticks (seats q)) (and_parts
    (nat_lt lane (2 * seats_with ticks (seats q))) _ seated).0 in omega (arith, below)

module _ (q : SharedPlan) (ticks : Option ℕ) (d : Option Facts) (s : State) (j : List Entry)
    (lane : ℕ) (st : Stands q.plan (seats_with ticks (seats q)) s j)
    (may : script_of (pooled_discipline q ticks) j lane call.Ask ≡ true)
    (seat : BerthGroup) (fits : SeatFits q.plan j (lane / 2) seat) (spoken : List ℕ)
    (so : AreTold q ticks d s j spoken (lane / 2)) where
  abbrev w : ℕ
  w = lane / 2

  abbrev f : Choice → Reply
  f = carried_reply s w

  lt : lane / 2 < seats_with ticks (seats q)
  lt = asks_within q ticks j lane may

  anywhere : in_script q.plan j lane call.Ask ≡ true
  anywhere = runs_script q.plan (berth_kind q (lane / 2)) j lane call.Ask
      (and_parts (nat_lt lane (2 * seats_with ticks (seats q))) _ (asks_on _ _ may)).1

  abbrev last : Option ℕ
  last = last_line j w

  -- ---- what the pool orders

  kills : (l : ℕ) (b : Bool) → option_map f (r.when b (choice.Kill l why.Evicted))
      ≡ r.when b (reply.Kill l why.Evicted)
  kills l true = refl
  kills l false = refl

  starts : (o : Option Attempt) → option_map f (option_map choice.Launch o)
      ≡ option_map (r.launch_order j) o
  starts None = refl
  starts (Some t) = ap (λ n. Some (reply.Launch n t.action t.branch t.number)) st.pool.count

  starts_if : (b : Bool) (o : Option Attempt)
      → option_map f (cond b (option_map choice.Launch o) None)
      ≡ cond b (option_map (r.launch_order j) o) None
  starts_if true o = starts o
  starts_if false o = refl

  evicts_eq : (pool : SharedPool)
      → option_map f (own.evicts q d s spoken w pool) ≡ rule.evicts q ticks j w pool last
  evicts_eq pool =
      ap (λ o. option_map f (own.evicts_line q d s spoken w pool o))
      (last_is q.plan (seats_with ticks (seats q)) s.pool j st.pool w lt)
      ∙ by last refl
    where
      by : (o : Option ℕ) → last_line j w ≡ o
          → option_map f (own.evicts_line q d s spoken w pool o) ≡ rule.evicts q ticks j w pool o
      by None here = refl
      by (Some l) here =
          kills l (told.may_evict q d s spoken w pool)
          ∙ ap (λ b. r.when b (reply.Kill l why.Evicted)) (so.evicts l pool here)

  launches_eq : (pool : SharedPool)
      → option_map f (own.launches q d s w pool) ≡ rule.shared_launches q ticks j pool last
  launches_eq pool =
      starts_if (not (holds s w)) (told.next_starved q d s pool)
      ∙ (λ i. cond (so.vacant i) (option_map (r.launch_order j) (so.next pool i)) None)

  more_eq : option_map f (own.pool_choice q d s spoken w (pool_of q w))
      ≡ rule.pool_orders q ticks j w last (pool_of q w)
  more_eq = by (pool_of q w)
    where
      by : (o : Option SharedPool) → option_map f (own.pool_choice q d s spoken w o)
          ≡ rule.pool_orders q ticks j w last o
      by None = refl
      by (Some pool) =
          map_else f (own.evicts q d s spoken w pool) (own.launches q d s w pool)
          ∙ (λ i. or_else (evicts_eq pool i) (launches_eq pool i))

  -- ---- so all of it

  abbrev more : Option Reply
  more = option_map f (own.pool_choice q d s spoken w (pool_of q w))

  abbrev ordered : Option Reply
  ordered = rule.pool_orders q ticks j w last (pool_of q w)

  -- the kind and the group of the seat are those of the line, where there is one
  asked_eq : r.ask_of q.plan j w seat.kind seat.group last (next_due q.plan ticks j seat.group) more
      ≡ rule.ask_shared q ticks j w last
  asked_eq = by last refl
    where
      by : (o : Option ℕ) → last_line j w ≡ o
          → r.ask_of q.plan j w seat.kind seat.group o (next_due q.plan ticks j seat.group) more
          ≡ r.ask_of q.plan j w (rule.kind_here q.plan j o) (rule.group_here q.plan j o) o
          (next_due q.plan ticks j (rule.group_here q.plan j o)) ordered
      by None here =
          ap (λ x. r.ask_of q.plan j w kind.Single 0 None (next_due q.plan ticks j 0) x) more_eq
      by (Some l) here =
          let k : seat.kind ≡ line_kind q.plan j l = sym (fits.kind l here) in
          let g : seat.group ≡ line_group q.plan j l =
          sym (ap (λ (o : Option ℕ). unwrap_or o 0) (fits.group l here)) in
          λ i. r.ask_of q.plan j w (k i) (g i) (Some l) (next_due q.plan ticks j (g i)) (more_eq i)

  pub chosen_is : carried_reply s (lane / 2) (own.shared_choice_at q d s spoken (lane / 2) seat)
      ≡ rule.pooled_rule q ticks j lane call.Ask
  chosen_is =
      or_idle f (or_else (first_choice s w seat (next_in d s seat.group))
      (own.pool_choice q d s spoken w (pool_of q w))) choice.Idle
      ∙ ap (λ o. unwrap_or o reply.Idle)
      (map_else f (first_choice s w seat (next_in d s seat.group))
      (own.pool_choice q d s spoken w (pool_of q w)))
      ∙ ap (λ o. unwrap_or (or_else (option_map f (first_choice s w seat o)) more) reply.Idle)
      (so.due seat.group)
      ∙ first_is q.plan (seats_with ticks (seats q)) s j lane st
      (all_of q.plan (seats_with ticks (seats q)) s j st).facts anywhere lt
      seat (next_due q.plan ticks j seat.group) more fits
      (λ t h. (due_nexts q.plan ticks j).is seat.group t h)
      ∙ asked_eq
