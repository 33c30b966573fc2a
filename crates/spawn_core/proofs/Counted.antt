-- One call: how many paid entries are still to come after it.
use Rattle.std.proofs.Common.{◌≡◌, ℕ, ◌*◌, ◌+◌, ◌-◌, ◌^◌, ◌<◌, ◌≤◌, List, inl, inr, arith}
use Rattle.std.proofs.lemmas.Bool.{cases_lt}
use Rattle.run_plan.specs.declared.plan.Plan.{Plan}
use Rattle.exec_journal.specs.declared.call.Call.{Call}
use Rattle.exec_journal.specs.Entry.{Entry}
use Rattle.exec_journal.specs.declared.reply.Reply.{Reply}
use Rattle.exec_journal.specs.Legal.{after}
use Rattle.journal_laws.specs.Paid.{lane_owes, seats_owe}
use Rattle.core_contract.specs.Discipline.{Discipline}
use Rattle.core_state.specs.declared.state.State.{State}
use Rattle.core_laws.specs.Stands as tables
use Rattle.core_tables.specs.Slots.{Facts}
use Rattle.discipline_laws.proofs.Counting.{counted, owes_most, uncounted}
use Rattle.spawn_core.specs.Stands.{HasHistory, KeptBy, StandsIn, TablesStand}

-- what a lane owes by these tables
pub record Owing (s : State) (lane n : ℕ) : Type 0 where
  pub owed : (p : Plan) (seats : ℕ) (j : List Entry) → tables.Stands p seats s j
      → lane < 2 * seats → n ≡ lane_owes j lane
  pub none : (p : Plan) (seats : ℕ) (j : List Entry) → tables.Stands p seats s j
      → 2 * seats ≤ lane → n ≡ 0

record Sums (owed before now later : ℕ) : Type 0 where
  enough : before ≤ owed
  sum : later + before ≡ owed + now

module _ {M B : Type 0} (rules : B → Discipline) (own : B → M → List Entry → Type 0)
    (m : KeptBy M) (n : M) (t : State) (g : Facts) (lane : ℕ) (c : Call) (x : Reply)
    (before now : ℕ)
    (next : (b : B) (j : List Entry) → TablesStand (rules b) (own b m.policy) m.state m.files j
    → TablesStand (rules b) (own b n) t g (after j lane c x))
    (old : Owing m.state lane before) (new : Owing t lane now) where
  count : (b : B) (j : List Entry) → StandsIn (rules b) (own b) m j
      → Sums (seats_owe (rules b).seats j) before now
      (seats_owe (rules b).seats (after j lane c x))
  count b j st =
      let seats : ℕ = (rules b).seats in
      let plan = (rules b).plan in
      let later = next b j st.both in
      elim (cases_lt lane (2 * seats)) [
        | inl low ↦ (let k = counted seats j lane c x low in
            let a = old.owed plan seats j st.both.tables low in
            let d = new.owed plan seats (after j lane c x) later.tables low in
            let among = k.among in let goes = k.goes in
            record { enough = omega (arith, among, a); sum = omega (arith, goes, a, d) })
        | inr high ↦ (let same = uncounted seats j lane c x high in
            let a = old.none plan seats j st.both.tables high in
            let d = new.none plan seats (after j lane c x) later.tables high in
            record { enough = omega (arith, a); sum = omega (arith, same, a, d) })
      ]

  -- ---- no number is too small or too great

  pub enough : HasHistory rules own m → before ≤ m.owed
  enough h = let k = count h.basis h.journal h.stands in let enough = k.enough in
      let was = h.stands.owed in omega (arith, enough, was)

  pub few : HasHistory rules own m → m.owed - before + now < 2 ^ 64
  few h =
      let k = count h.basis h.journal h.stands in let enough = k.enough in let sum = k.sum in
      let was = h.stands.owed in
      let later = owes_most (rules h.basis).seats (after h.journal lane c x) in
      let seats = h.stands.both.tables.few in
      omega (arith, enough, sum, was, later, seats)

  -- ---- what is kept afterwards

  pub stands_next : (owed : ℕ) → owed ≡ m.owed - before + now → (b : B) (j : List Entry)
      → StandsIn (rules b) (own b) m j → StandsIn (rules b) (own b)
      (record { policy = n; state = t; files = g; owed = owed }) (after j lane c x)
  stands_next owed is b j st = record {
    both = next b j st.both;
    owed = let k = count b j st in let enough = k.enough in let sum = k.sum in
        let was = st.owed in omega (arith, enough, sum, was, is);
  }

  pub history_next : (owed : ℕ) → owed ≡ m.owed - before + now → HasHistory rules own m
      → HasHistory rules own (record { policy = n; state = t; files = g; owed = owed })
  history_next owed is h = record {
    basis = h.basis;
    journal = after h.journal lane c x;
    stands = stands_next owed is h.basis h.journal h.stands;
  }
