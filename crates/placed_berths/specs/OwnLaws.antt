-- The laws of a policy, of the one on the plan's own berths, with Ticks and without.
use Rattle.std.proofs.Common.{◌≡◌, ℕ, ◌+◌, ◌-◌, ◌*◌, ◌/◌, ◌<◌, ◌≤◌, nat_lt, Bool, true, false, ◌&&◌, ◌||◌, cond, List, [], ◌∷◌, length, Option, Some, None, option_map, unwrap_or, refl, ap, sym, ◌∙◌, arith}
use Rattle.std.specs.Prelude.{option_and_then, slice_get, sum_by}
use Rattle.std.proofs.lemmas.Bool.{and_from, and_parts, lt-ltb, ltb-false, ltb-true}
use Rattle.std.proofs.lemmas.List.Sums.{sum_by-cons}
use Rattle.std.proofs.lemmas.Option.{slice_get_past}
use Rattle.run_plan.specs.declared.plan.Group.{Group}
use Rattle.run_plan.specs.declared.plan.Kind.TheVariants as kind
use Rattle.run_plan.specs.declared.plan.Plan.{Plan}
use Rattle.run_plan.specs.declared.plan.PlanAction.{PlanAction}
use Rattle.run_plan.specs.Groups.{berth_group, berths, group_from, group_of, has_cancellation, is_remote, kind_of}
use Rattle.run_plan.specs.Sound.{Sound}
use Rattle.exec_journal.specs.declared.call.Call.TheVariants as call
use Rattle.exec_journal.specs.declared.reply.Reply.TheVariants as reply
use Rattle.exec_journal.specs.Entry.{Entry}
use Rattle.exec_journal.specs.Kept.{group_at}
use Rattle.exec_journal.specs.Rules as r
use Rattle.exec_journal.specs.Scripts.{script}
use Rattle.exec_journal.specs.Seated.{group_for, group_on}
use Rattle.exec_journal.specs.Words.{last_line}
use Rattle.exec_journal.proofs.Begins.{launched_begun}
use Rattle.exec_journal.proofs.Ruled.{by_bool}
use Rattle.core_tables.specs.declared.berth_group.BerthGroup.{BerthGroup}
use Rattle.core_tables.specs.Seats.{seat_at}
use Rattle.core_tables.proofs.Seated.{seat_is}
use Rattle.core_state.specs.declared.choice.Choice.TheVariants as choice
use Rattle.core_state.specs.declared.state.State.{State}
use Rattle.core_state.specs.Choices.{is_over}
use Rattle.core_state.specs.Machine.{carried_reply}
use Rattle.core_contract.specs.Disciplines.{berth_script, own_discipline, script_of}
use Rattle.core_laws.specs.Stands.{Stands}
use Rattle.core_laws.proofs.AllOf.{all_of}
use Rattle.core_laws.proofs.Read as read
use Rattle.core_laws.proofs.Rowed.{berth_of}
use Rattle.earliest_first.specs.Choices.{ReadsOwn, choice_for, chosen, chosen_by, earliest_of}
use Rattle.earliest_first.proofs.AtBerths.{group_is, lane_within, seat_fits, seat_within}
use Rattle.earliest_first.proofs.Chosen.{choice_among}
use Rattle.placed_rules.specs.Due as de
use Rattle.placed_rules.specs.Own as ow
use Rattle.placed_rules.specs.Placed.{delayed_discipline, on_own, placed_discipline, seats_with}
use Rattle.placed_rules.proofs.OwnLawful.{stands_so}
use Rattle.placed_rules.proofs.Nexts.{nexts}
use Rattle.spawn_core.specs.Earliest as plain
use Rattle.spawn_core.specs.Policies.{ReadsEach, SaysSeat, StandsBy}
use Rattle.placed_berths.specs.Choices as c
use Rattle.placed_berths.specs.Due as du
use Rattle.placed_berths.specs.Chosen.{asks_on}
use Rattle.placed_berths.specs.Counts.{Facts}
use Rattle.placed_berths.specs.DueTold.{next_is, over_is}
use Rattle.placed_berths.specs.Stands.{DelayStands, StandsFor}

pub few_berths : (p : Plan) (ticks : Option ℕ) → Sound p → seats_with ticks (berths p) ≤ 128
few_berths p None sound = let few = sound.seats in omega (arith, few)
few_berths p (Some n) sound = let few = sound.seats in omega (arith, few)

-- ---- the berth behind the plan's

groups_past : (g : ℕ) (xs : List Group) (w : ℕ) → sum_by (λ (y : Group). y.berths) xs ≤ w
    → group_from g xs w ≡ None
groups_past g [] w le = refl
groups_past g (x ∷ xs) w le =
    let all = sum_by-cons (λ (y : Group). y.berths) x xs in
    by_bool (nat_lt w x.berths) (λ b. nat_lt w x.berths ≡ b
    → cond b (Some g) (group_from (g + 1) xs (w - x.berths)) ≡ None)
    (λ yes _. absurd (let lt = ltb-true w x.berths yes in omega (arith, lt, le, all)))
    (λ no _. let ge = ltb-false w x.berths no in
    groups_past (g + 1) xs (w - x.berths) (omega (arith, ge, le, all))) refl

group_past : (p : Plan) (w : ℕ) → berths p ≤ w → berth_group p w ≡ None
group_past p w past = groups_past 0 p.groups w past

seat_past : (p : Plan) (w : ℕ) → berths p ≤ w → (o : Option BerthGroup) → seat_at p w ≡ o
    → o ≡ None
seat_past p w past None at = refl
seat_past p w past (Some seat) at =
    absurd (let lt = seat_within p w seat at in omega (arith, past, lt))

module _ (p : Plan) (n : ℕ) (s : State) (j : List Entry) (w : ℕ)
    (st : StandsBy (delayed_discipline p n) s j) where
  -- a line runs a group
  in_group : (l : ℕ) → last_line j w ≡ Some l → group_on p j l ≡ None → ⊥
  unfolding group_on
  in_group l here none =
      let own = (berth_of p (ow.delayed_seats p) s j w l st.tables here).owner in
      let run = (all_of p (ow.delayed_seats p) s j st.tables).more.used own.1
      (launched_begun j l own.0 own.1 own.2) in
      let group : group_on p j l ≡ Some run.group =
      ap (option_and_then (λ x. group_for p x.1)) own.2
      ∙ ap (option_and_then (λ x. group_of x own.1.branch)) run.place ∙ run.runs in
      let clash = sym none ∙ group in cc

  pub line_past : berths p ≤ w → (o : Option ℕ) → last_line j w ≡ o → o ≡ None
  line_past past None here = refl
  line_past past (Some l) here =
      let so = stands_so p n j st.legal in
      absurd (in_group l here (group_is p j so.lawful so.seated w l here ∙ group_past p w past))

-- ---- what stands at a berth

kind_past : (p : Plan) (w : ℕ) → berths p ≤ w → kind_of p w ≡ kind.Single
kind_past p w past = ap (λ (o : Option ℕ). unwrap_or (option_map (λ g. g.kind)
    (option_and_then (λ k. slice_get p.groups k) o)) kind.Single) (group_past p w past)

uncancelled : (p : Plan) → has_cancellation p (length p.groups) ≡ false
uncancelled p = ap (λ (o : Option Group). unwrap_or (option_map (λ x. x.cancel) o) false)
    (slice_get_past p.groups (length p.groups) (omega arith))

seat_here : (p : Plan) (n : ℕ) (f : Facts) (s : State) (j : List Entry) (w : ℕ)
    → StandsBy (delayed_discipline p n) s j → w < berths p
    → SaysSeat (delayed_discipline p n) j w (c.own_seat (Some f) s w)
seat_here p n f s j w st lt =
    let y = seat_is p w lt in
    let at = ap (λ (q : Plan). seat_at q w) st.tables.plan ∙ y.1.is in record {
      seat = y.0;
      is = ap (c.seat_or_spare (Some f) s.plan) at;
      fits = seat_fits p j w y.0 st.tables.lawful (stands_so p n j st.legal).seated lt y.1.is;
      remote = sym (ap is_remote y.1.kind);
    }

seat_behind : (p : Plan) (n : ℕ) (f : Facts) (s : State) (j : List Entry) (w : ℕ)
    → StandsBy (delayed_discipline p n) s j → berths p ≤ w
    → SaysSeat (delayed_discipline p n) j w (c.own_seat (Some f) s w)
seat_behind p n f s j w st past =
    let at = ap (λ (q : Plan). seat_at q w) st.tables.plan
    ∙ seat_past p w past (seat_at p w) refl in
    let none = line_past p n s j w st past (last_line j w) refl in record {
      seat = c.spare p;
      is = ap (c.seat_or_spare (Some f) s.plan) at ∙ ap (λ (q : Plan). Some (c.spare q)) st.tables.plan;
      fits = record {
        kind = λ l here. absurd (let clash = sym none ∙ here in cc);
        group = λ l here. absurd (let clash = sym none ∙ here in cc);
        cancel = uncancelled p;
      };
      remote = sym (ap is_remote (kind_past p w past));
    }

delayed_seats : (p : Plan) (n : ℕ) (f : Facts) (s : State) (j : List Entry) (w : ℕ)
    → StandsBy (delayed_discipline p n) s j → w < ow.delayed_seats p
    → SaysSeat (delayed_discipline p n) j w (c.own_seat (Some f) s w)
delayed_seats p n f s j w st lt =
    by_bool (nat_lt w (berths p)) (λ _. SaysSeat (delayed_discipline p n) j w (c.own_seat (Some f) s w))
    (λ yes. seat_here p n f s j w st (ltb-true w (berths p) yes))
    (λ no. seat_behind p n f s j w st (ltb-false w (berths p) no))

-- ---- what is chosen

module _ (p : Plan) (n : ℕ) (f : Facts) (s : State) (j : List Entry) (lane : ℕ)
    (st : StandsBy (delayed_discipline p n) s j) (own : StandsFor p n f j) where
  abbrev w : ℕ
  w = lane / 2

  -- of a lane of the plan's berths the script is that of the plan
  in_plan : script_of (delayed_discipline p n) j lane call.Ask ≡ true → w < berths p
      → script p j lane call.Ask ≡ true
  in_plan may lt =
      let here = and_parts (nat_lt lane (2 * ow.delayed_seats p)) _
      (asks_on (ow.is_ticker p lane) (berth_script (delayed_discipline p n) j lane call.Ask) may) in
      and_from (nat_lt lane (2 * berths p)) _ (lt-ltb lane (2 * berths p) (omega (arith, lt)))
      here.1

  on_plan : script_of (delayed_discipline p n) j lane call.Ask ≡ true → w < berths p
      → carried_reply s w (c.own_choice (Some f) s w)
      ≡ ow.ask_delayed p n j w (group_at p w) (last_line j w)
  on_plan may lt =
      let y = seat_is p w lt in
      let at : seat_at s.plan w ≡ Some y.0 =
      ap (λ (q : Plan). seat_at q w) st.tables.plan ∙ y.1.is in
      let same : c.own_choice (Some f) s w ≡ chosen_by (du.next_in (Some f) s) s w =
      ap (c.own_choice_at (Some f) s w) at ∙ sym (ap (choice_for s w (du.next_in (Some f) s)) at) in
      ap (carried_reply s w) same
      ∙ choice_among p (ow.delayed_seats p) (omega arith) s j lane (de.delayed_earliest p n j)
      (du.next_in (Some f) s) st.tables (stands_so p n j st.legal).seated
      (all_of p (ow.delayed_seats p) s j st.tables).facts (in_plan may lt)
      (record {
        nexts = nexts p n j;
        same = λ g. next_is p (ow.delayed_seats p) s j st.tables (Some n) (Some f) own g;
      })

  leaves : (b : Bool) → carried_reply s w (cond b choice.Stop choice.Idle)
      ≡ cond b (r.leave j None) reply.Idle
  leaves true = refl
  leaves false = refl

  behind : berths p ≤ w
      → carried_reply s w (c.own_choice (Some f) s w) ≡ ow.ask_idly p j (last_line j w)
  behind past =
      let at = ap (λ (q : Plan). seat_at q w) st.tables.plan
      ∙ seat_past p w past (seat_at p w) refl in
      let none = line_past p n s j w st past (last_line j w) refl in
      ap (λ (o : Option BerthGroup). carried_reply s w (c.own_choice_at (Some f) s w o)) at
      ∙ leaves (is_over s)
      ∙ (λ i. cond (over_is p n (ow.delayed_seats p) f s j st.tables own i)
      (r.leave j (sym none i)) reply.Idle)

  delayed_choices : script_of (delayed_discipline p n) j lane call.Ask ≡ true
      → carried_reply s w (c.own_choice (Some f) s w) ≡ (delayed_discipline p n).rule j lane call.Ask
  delayed_choices may =
      by_bool (nat_lt w (berths p)) (λ b. carried_reply s w (c.own_choice (Some f) s w)
      ≡ cond b (ow.ask_delayed p n j w (group_at p w) (last_line j w))
      (ow.ask_idly p j (last_line j w)))
      (λ yes. on_plan may (ltb-true w (berths p) yes))
      (λ no. behind (ltb-false w (berths p) no))

-- ---- what is read

reads_own : (p : Plan) (s : State) (j : List Entry) (w : ℕ) → Stands p (ow.delayed_seats p) s j
    → w < berths p → ReadsOwn s w
reads_own p s j w st lt =
    let all = all_of p (ow.delayed_seats p) s j st in record {
      reads = read.reads p (ow.delayed_seats p) s j st all.facts w (omega (arith, lt));
      groups = (let g : length s.plan.groups ≡ length p.groups =
          ap (λ (x : Plan). length x.groups) st.plan in let few = st.sound.groups in omega arith);
      seats = (let there = read.seats_are p (ow.delayed_seats p) s j st all.facts in
          let same = ap berths st.plan in omega (arith, there, same));
    }

delayed_reads : (p : Plan) (n : ℕ) (s : State) (j : List Entry)
    → StandsBy (delayed_discipline p n) s j → ReadsEach s
delayed_reads p n s j st = record {
  groups = (let g : length s.plan.groups ≡ length p.groups =
      ap (λ (x : Plan). length x.groups) st.tables.plan in
      let few = st.tables.sound.groups in omega arith);
  each = λ w lt. reads_own p s j w st.tables
      (let seats = ap berths st.tables.plan in omega (arith, seats, lt));
}

-- ---- with Ticks and without

module _ (p : Plan) (d : Option Facts) (s : State) (j : List Entry) where
  pub own_reads : (ticks : Option ℕ) → StandsBy (placed_discipline (on_own p ticks)) s j
      → ReadsEach s
  own_reads None st = plain.reads_each p s j st
  own_reads (Some n) st = delayed_reads p n s j st

  plain_seat : (w : ℕ) → SaysSeat (own_discipline p) j w (seat_at s.plan w)
      → SaysSeat (own_discipline p) j w (c.own_seat None s w)
  plain_seat w says = record {
    seat = says.seat;
    is = ap (c.seat_or_spare None s.plan) says.is;
    fits = says.fits;
    remote = says.remote;
  }

  pub own_seats : (ticks : Option ℕ) → DelayStands p ticks d j → (w : ℕ)
      → StandsBy (placed_discipline (on_own p ticks)) s j → w < seats_with ticks (berths p)
      → SaysSeat (placed_discipline (on_own p ticks)) j w (c.own_seat d s w)
  own_seats ticks so w st lt = by ticks d so st lt
    where
      by : (t : Option ℕ) (e : Option Facts) → DelayStands p t e j
          → StandsBy (placed_discipline (on_own p t)) s j → w < seats_with t (berths p)
          → SaysSeat (placed_discipline (on_own p t)) j w (c.own_seat e s w)
      by None None o here low = plain_seat w (plain.seats_are p s j w here low)
      by (Some n) (Some f) o here low = delayed_seats p n f s j w here low
      by None (Some f) o here low = absurd o
      by (Some n) None o here low = absurd o

  -- on the plan's own berths the choice is the one that is known
  plain_choice : (w : ℕ) → w < berths p → StandsBy (own_discipline p) s j
      → c.own_choice None s w ≡ chosen s w
  plain_choice w lt st =
      let y = seat_is p w lt in
      let at : seat_at s.plan w ≡ Some y.0 =
      ap (λ (q : Plan). seat_at q w) st.tables.plan ∙ y.1.is in
      ap (c.own_choice_at None s w) at ∙ sym (ap (choice_for s w (earliest_of s)) at)

  pub own_choices : (ticks : Option ℕ) → DelayStands p ticks d j → (lane : ℕ)
      → StandsBy (placed_discipline (on_own p ticks)) s j
      → script_of (placed_discipline (on_own p ticks)) j lane call.Ask ≡ true
      → carried_reply s (lane / 2) (c.own_choice d s (lane / 2))
      ≡ (placed_discipline (on_own p ticks)).rule j lane call.Ask
  own_choices ticks so lane st may = by ticks d so st may
    where
      by : (t : Option ℕ) (e : Option Facts) → DelayStands p t e j
          → StandsBy (placed_discipline (on_own p t)) s j
          → script_of (placed_discipline (on_own p t)) j lane call.Ask ≡ true
          → carried_reply s (lane / 2) (c.own_choice e s (lane / 2))
          ≡ (placed_discipline (on_own p t)).rule j lane call.Ask
      by None None o here h =
          ap (carried_reply s (lane / 2)) (plain_choice (lane / 2) (lane_within p j lane call.Ask h)
          here) ∙ plain.choices_are p s j lane here h
      by (Some n) (Some f) o here h = delayed_choices p n f s j lane here o h
      by None (Some f) o here h = absurd o
      by (Some n) None o here h = absurd o
