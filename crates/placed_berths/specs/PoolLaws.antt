-- The laws of a policy, of the one whose groups share the berths of pools.
use Rattle.std.proofs.Common.{◌≡◌, ℕ, suc, ◌*◌, ◌/◌, ◌<◌, ◌≤◌, nat_lt, true, cond, List, length, Option, Some, None, ap, refl, sym, subst, ◌∙◌, arith}
use Rattle.std.proofs.lemmas.Bool.{le-leb, lt-ltb}
use Rattle.run_plan.specs.Limits.{most_berths}
use Rattle.run_plan.specs.declared.plan.Plan.{Plan}
use Rattle.exec_journal.specs.declared.call.Call.TheVariants as call
use Rattle.exec_journal.specs.Entry.{Entry}
use Rattle.exec_journal.specs.Words.{last_work, stopped, has_halted}
use Rattle.core_tables.specs.Lanes.{lane_in, state_by}
use Rattle.core_tables.proofs.Lengths.{length_is}
use Rattle.core_state.specs.declared.state.State.{State}
use Rattle.core_state.specs.Machine.{carried_reply}
use Rattle.core_contract.specs.Disciplines.{script_of}
use Rattle.core_laws.proofs.AllOf.{all_of}
use Rattle.core_laws.proofs.Read as read
use Rattle.spawn_core.specs.Policies as policies
use Rattle.spawn_core.specs.Policies.{SaysSeat}
use Rattle.placed_rules.specs.declared.pools.SharedPlan.{SharedPlan}
use Rattle.placed_rules.specs.Pools.{seats, usable}
use Rattle.placed_rules.specs.Placed.{pooled_discipline, seats_with}
use Rattle.placed_rules.proofs.Usable.{few_usable, sound_fits, usable_berths, usable_is}
use Rattle.placed_berths.specs.declared.shared.SharedBerths.{SharedBerths}
use Rattle.placed_berths.specs.Basis.{shared_by, ticks_in}
use Rattle.placed_berths.specs.Choices.{ReadsShared, all_seats, seat_here, shared_choice, shared_seat}
use Rattle.placed_berths.specs.Chosen.{asks_within, chosen_is}
use Rattle.placed_berths.specs.Counts.{Facts}
use Rattle.placed_berths.specs.Due.{ReadsDue}
use Rattle.placed_berths.specs.DueTold.{reads_due, ticks_same}
use Rattle.placed_berths.specs.PoolsTold.{are_told}
use Rattle.placed_berths.specs.Seats.{is_seated}
use Rattle.placed_berths.specs.Stands.{DelayStands, PoolsStand}

pub few_berths : (q : SharedPlan) (ticks : Option ℕ) → seats_with ticks (seats (usable q)) ≤ 128
few_berths q None = let same = usable_berths q in let few = few_usable q.pools in omega arith
few_berths q (Some n) = let same = usable_berths q in let few = few_usable q.pools in omega arith

-- the pools' own are some of all berths
pub few_of_all : (ticks : Option ℕ) (n : ℕ) → n ≤ seats_with ticks n
few_of_all None n = omega arith
few_of_all (Some k) n = omega arith

module _ (q : SharedPlan) (ticks : Option ℕ) (x : SharedBerths) (d : Option Facts) (j : List Entry)
    (own : PoolsStand q x j) (so : DelayStands q.plan ticks d j) where
  pub pools_are : shared_by x q.plan ≡ q
  pools_are = λ i. record { plan = q.plan; pools = own.pools i; instances = own.instances i }

  module _ (s : State) (stands : policies.StandsBy (pooled_discipline (usable q) ticks) s j) where
    abbrev Stood : SharedPlan → Type 0
    Stood z = policies.StandsBy (pooled_discipline z ticks) s j

    stood : Stood q
    stood = subst Stood (usable_is q own.sound) stands

    abbrev n : ℕ
    n = seats_with ticks (seats q)

    goes_by : shared_by x s.plan ≡ q
    goes_by = ap (shared_by x) stood.tables.plan ∙ pools_are

    reads : ReadsShared q d s
    unfolding lane_in
    reads =
        let lanes = length_is s.lanes (2 * n)
        (λ m. state_by (last_work j m) (stopped j m) (has_halted j m)) stood.tables.lanes in
        let each = read.reads q.plan n s j stood.tables
        (all_of q.plan n s j stood.tables).facts in
        let more = few_of_all ticks (seats q) in
        let same = ap (λ t. seats_with t (seats q)) (ticks_same q.plan n s j stood.tables ticks d so)
        in record {
          pools = record {
            few = own.sound.berths;
            berths = record {
              lanes = omega (arith, lanes, more);
              each = λ w lt. each w (omega (arith, lt, more));
            };
          };
          all = record {
            lanes = omega (arith, lanes, same);
            each = λ w lt. each w (omega (arith, lt, same));
          };
          due = reads_due q.plan n s j stood.tables ticks d so;
        }

    pub pool_reads : ReadsShared (shared_by x s.plan) d s
    pool_reads = subst (λ z. ReadsShared z d s) (sym goes_by) reads

    abbrev seats_by : SharedPlan → ℕ → Type 0
    seats_by z w = SaysSeat (pooled_discipline z ticks) j w (shared_seat (shared_by x s.plan) d s w)

    says : (w : ℕ) → w < n → seats_by q w
    says w lt =
        let is = is_seated q ticks s j stood.tables (sound_fits q own.sound) stood.legal w lt in
        let same = ticks_same q.plan n s j stood.tables ticks d so in
        record {
          seat = seat_here q s w;
          is = ap (λ z. shared_seat z d s w) goes_by
              ∙ ap (λ t. cond (nat_lt w (seats_with t (seats q))) (Some (seat_here q s w)) None) same
              ∙ ap (λ b. cond b (Some (seat_here q s w)) None) (lt-ltb w n lt);
          fits = is.fits;
          remote = is.remote;
        }

    pub pool_seats : (w : ℕ) → w < seats_with ticks (seats (usable q)) → seats_by (usable q) w
    pool_seats w lt =
        subst (λ z. seats_by z w) (sym (usable_is q own.sound))
        (says w (subst (λ z. w < seats_with ticks (seats z)) (usable_is q own.sound) lt))

    abbrev Chooses : SharedPlan → ℕ → Type 0
    Chooses z lane = script_of (pooled_discipline z ticks) j lane call.Ask ≡ true
        → carried_reply s (lane / 2)
        (shared_choice (shared_by x s.plan) d s x.spoken.items (lane / 2))
        ≡ (pooled_discipline z ticks).rule j lane call.Ask

    chooses : (lane : ℕ) → Chooses q lane
    chooses lane may =
        let w = lane / 2 in
        let lt = asks_within q ticks j lane may in
        let is = is_seated q ticks s j stood.tables (sound_fits q own.sound) stood.legal w lt in
        ap (λ z. carried_reply s w (shared_choice z d s x.spoken.items w)) goes_by
        ∙ chosen_is q ticks d s j lane stood.tables may (seat_here q s w) is.fits x.spoken.items
        (are_told q ticks d s j x.spoken.items w stood.tables stood.legal so own.spoken)

    pub pool_choices : (lane : ℕ) → Chooses (usable q) lane
    pool_choices lane = subst (λ z. Chooses z lane) (sym (usable_is q own.sound)) (chooses lane)

-- a berth of the discipline is one of the pools, or the one that is more, where these are few
pub own_berth : (q : SharedPlan) (ticks : Option ℕ) (w : ℕ) → seats q ≤ most_berths
    → w < seats_with ticks (seats (usable q)) → w < seats_with ticks (seats q)
own_berth q ticks w few lt =
    let same = usable_berths q ∙ ap (λ b. cond b (seats q) 0) (le-leb (seats q) most_berths few) in
    subst (λ k. w < seats_with ticks k) same lt
