-- What the tables say of a lane before it calls is what the journal says.
use Rattle.std.proofs.Common.{◌≡◌, ℕ, ◌*◌, ◌+◌, ◌/◌, ◌%◌, ◌<◌, ◌≤◌, ◌==◌, ◌&&◌, not, Bool, true, false, cond, List, length, Option, Some, None, refl, ap, sym, subst, ◌∙◌, arith, lt-ltb}
use Rattle.std.proofs.Math.Nat.{mul-le-mul_right}
use Rattle.std.specs.Prelude.{slice_get}
use Rattle.std.proofs.lemmas.Option.{slice_get_within}
use Rattle.run_plan.specs.declared.plan.Kind.{Kind}
use Rattle.run_plan.specs.declared.plan.Plan.{Plan}
use Rattle.run_plan.specs.Sound.{Sound}
use Rattle.exec_journal.specs.declared.call.Call.{Call}
use Rattle.exec_journal.specs.declared.call.Call.TheVariants as call
use Rattle.exec_journal.specs.declared.call.Found.TheVariants as found
use Rattle.exec_journal.specs.Entry.{Entry}
use Rattle.exec_journal.specs.declared.reply.Reply.{Reply}
use Rattle.exec_journal.specs.declared.reply.Reply.TheVariants as reply
use Rattle.exec_journal.specs.Words.{last_line, last_work, stopped, has_halted}
use Rattle.journal_laws.specs.Paid.{count, lane_owes, may_halt, owes_files, wins_files}
use Rattle.core_tables.specs.declared.lanes.LaneState.{LaneState}
use Rattle.core_tables.specs.declared.berth_group.BerthGroup.{BerthGroup}
use Rattle.core_tables.specs.Lanes.{is_won, lane_in, may_some, said_after, said_of_work, state_by}
use Rattle.core_tables.specs.Last.{last_in, row_of}
use Rattle.core_tables.proofs.Lengths.{length_is}
use Rattle.core_state.specs.declared.state.State.{State}
use Rattle.core_state.specs.Choices.{Reads}
use Rattle.core_contract.specs.Discipline.{Discipline}
use Rattle.core_laws.specs.Stands as tables
use Rattle.core_laws.proofs.AllOf.{all_of}
use Rattle.core_laws.proofs.Read as read
use Rattle.spawn_core.specs.Policies.{StandsBy}
use Rattle.core_contract.specs.News.{question}
use Rattle.spawn_core.specs.Turns.{Orders, asked_for, may_make}
use Rattle.spawn_core.specs.Outlook.{has_news_at, is_idle, owes_by, told_by}
use Rattle.spawn_core.specs.Stands.{HasHistory, HasJournal, HasTables, KeptBy}

-- ---- what a lane owes

won_by : (c : Call) (x : Reply) → is_won (said_after c x) ≡ wins_files c x
won_by (call.Claim a b t (found.Files fs)) reply.Granted = refl
won_by (call.Claim a b t (found.Files fs)) _ = refl
won_by (call.Claim a b t (found.Exit n)) x = refl
won_by (call.Claim a b t (found.Missing k)) x = refl
won_by (call.Claim a b t found.RoomFault) x = refl
won_by (call.Claim a b t found.Refused) x = refl
won_by _ x = refl

won_work : (o : Option Entry) → is_won (said_of_work o) ≡ owes_files o
won_work None = refl
won_work (Some e) = won_by e.call e.reply

pub owes_is : (seats : ℕ) (p : Plan) (s : State) (j : List Entry) (lane : ℕ) (x : LaneState)
    → tables.Stands p seats s j → lane < 2 * seats → slice_get s.lanes lane ≡ Some x
    → owes_by x ≡ lane_owes j lane
unfolding lane_in lane_owes
owes_is seats p s j lane x st lt at =
    let there : Some x ≡ Some (state_by (last_work j lane) (stopped j lane) (has_halted j lane)) =
    sym at ∙ (st.lanes lane ∙ ap (λ (b : Bool). cond b (Some (state_by (last_work j lane)
    (stopped j lane) (has_halted j lane))) None) (lt-ltb lane (2 * seats) lt)) in
    let same : x ≡ state_by (last_work j lane) (stopped j lane) (has_halted j lane) = cc in
    ap owes_by same
    ∙ ap (λ (b : Bool). count (may_halt j lane) + count b) (won_work (last_work j lane))

pub lanes_are : (seats : ℕ) (p : Plan) (s : State) (j : List Entry) → tables.Stands p seats s j
    → length s.lanes ≡ 2 * seats
unfolding lane_in
lanes_are seats p s j st = length_is s.lanes (2 * seats)
    (λ k. state_by (last_work j k) (stopped j k) (has_halted j k)) st.lanes

pub lasts_are : (seats : ℕ) (p : Plan) (s : State) (j : List Entry) → tables.Stands p seats s j
    → length s.last ≡ seats
unfolding last_in
lasts_are seats p s j st = length_is s.last seats (λ w. row_of j (last_line j w)) st.last

-- ---- what a policy goes by on a state is what it stands by

pub goes_by : {M B : Type 0} (rules : B → Discipline) (basis : M → Plan → B) (m : M) (s : State)
    (j : List Entry) (b : B) → tables.Stands (rules b).plan (rules b).seats s j
    → basis m (rules b).plan ≡ b → basis m s.plan ≡ b
goes_by rules basis m s j b st is = ap (basis m) st.plan ∙ is

-- so it is with what its lanes may make
pub allowed_so : {M B : Type 0} (rules : B → Discipline) (basis : M → Plan → B) (m : M) (s : State)
    (j : List Entry) (b : B) → tables.Stands (rules b).plan (rules b).seats s j
    → basis m (rules b).plan ≡ b → (k : Kind) (lane : ℕ) (c : Call) (v : Bool)
    → may_make s k ((rules (basis m s.plan)).ticks lane) lane c ≡ v
    → may_make s k ((rules b).ticks lane) lane c ≡ v
allowed_so {M} {B} rules basis m s j b st is k lane c v may =
    subst (λ (x : B). may_make s k ((rules x).ticks lane) lane c ≡ v)
    (goes_by rules basis m s j b st is) may

-- ---- of what stands for some journal

pub journal_kept : {M B : Type 0} (rules : B → Discipline) (own : B → M → List Entry → Type 0)
    (c : KeptBy M) → HasHistory rules own c → HasJournal rules own c.policy c.state
journal_kept rules own c h = record {
  basis = h.basis;
  journal = h.journal;
  stands = record { tables = h.stands.both.tables; legal = h.stands.both.legal };
  own = h.stands.both.own;
}

pub tables_kept : {M B : Type 0} (rules : B → Discipline) (own : B → M → List Entry → Type 0)
    (c : KeptBy M) → HasHistory rules own c → HasTables c.state
tables_kept rules own c h = record {
  plan = (rules h.basis).plan;
  seats = (rules h.basis).seats;
  journal = h.journal;
  stands = h.stands.both.tables;
}

pub sound_kept : (q : Discipline) (s : State) (j : List Entry) → StandsBy q s j → Sound s.plan
sound_kept q s j st = subst Sound (sym st.tables.plan) st.tables.sound

-- how few actions there are, and how few attempts of their branches
pub attempts_kept : (p : Plan) → Sound p → (length p.actions ≤ 4096)
    × (2 * length p.actions * p.limit ≤ 81920)
attempts_kept p sound =
    let few = sound.actions in
    let less = sound.most in
    let both = mul-le-mul_right p.limit few in
    (few, omega (arith, both, less))

-- what is read of a berth of the discipline is there
pub reads_berth : (q : Discipline) (s : State) (j : List Entry) (w : ℕ) → StandsBy q s j
    → w < q.seats → Reads s w
reads_berth q s j w st within =
    read.reads q.plan q.seats s j st.tables (all_of q.plan q.seats s j st.tables).facts w within

-- ---- a lane that may make a call by the tables

pub lane_listed : (s : State) (k : Kind) (ticks : Bool) (lane : ℕ) (c : Call)
    → may_make s k ticks lane c ≡ true → lane < length s.lanes
lane_listed s k ticks lane c may = here (slice_get s.lanes lane) refl may
  where
    here : (o : Option LaneState) → slice_get s.lanes lane ≡ o
        → may_some s.plan k (lane % 2 == 0) o (asked_for ticks c) ≡ true → lane < length s.lanes
    here (Some x) at m = slice_get_within s.lanes lane x at
    here None at m = let no : false ≡ true = m in cc

-- its berth is one of the discipline's
pub berth_of_lane : (q : Discipline) (s : State) (j : List Entry) (k : Kind) (ticks : Bool)
    (lane : ℕ) (c : Call) → tables.Stands q.plan q.seats s j → may_make s k ticks lane c ≡ true
    → lane / 2 < q.seats
berth_of_lane q s j k ticks lane c st may =
    let listed = lane_listed s k ticks lane c may in
    let all = lanes_are q.seats q.plan s j st in omega (arith, listed, all)

-- one that may not make its question has no news, whatever stands at its berth
pub no_news : (s : State) (x : Orders) (ticks : ℕ → Bool) (lane : ℕ) (o : Option BerthGroup)
    → ((k : Kind) → may_make s k (ticks lane) lane (question ticks lane) ≡ false)
    → has_news_at s x ticks lane o ≡ false
no_news s x ticks lane None may = refl
no_news s x ticks lane (Some seat) may =
    ap (λ b. b && not (is_idle (told_by s x (ticks lane) lane))) (may seat.kind)

-- and one that may has news where it isn't answered Idle
pub news_of_asking : (s : State) (x : Orders) (ticks : ℕ → Bool) (lane : ℕ) (seat : BerthGroup)
    → may_make s seat.kind (ticks lane) lane (question ticks lane) ≡ true
    → has_news_at s x ticks lane (Some seat) ≡ not (is_idle (told_by s x (ticks lane) lane))
news_of_asking s x ticks lane seat may =
    ap (λ b. b && not (is_idle (told_by s x (ticks lane) lane))) may
