-- The rows of last lines after an entry that says something of one berth's last line alone; and
-- what a lane is to write.
use Rattle.std.proofs.Common.{◌≡◌, ℕ, ◌*◌, ◌/◌, ◌<◌, ◌==◌, nat_lt, Bool, true, false, cond, List, [], ◌∷◌, Option, Some, None, option_map, refl, ap, sym, subst, ◌∙◌, arith, lt-ltb}
use Rattle.std.specs.Prelude.{slice_get}
use Rattle.std.proofs.lemmas.Bool.{eqb-true, eq-eqb}
use Rattle.list_lemmas.specs.Options.{or_else}
use Rattle.run_plan.specs.declared.plan.Plan.{Plan}
use Rattle.exec_journal.specs.declared.attempt.Attempt.{Attempt}
use Rattle.exec_journal.specs.declared.call.Call.{Call}
use Rattle.exec_journal.specs.Entry.{Entry}
use Rattle.exec_journal.specs.declared.reply.Reply.{Reply}
use Rattle.exec_journal.specs.declared.reply.Reply.TheVariants as reply
use Rattle.exec_journal.specs.Entries.{launch_in, send_in, send_of_entry}
use Rattle.exec_journal.specs.Facts.{OfBerth, IsOfBerth}
use Rattle.exec_journal.specs.Words.{last_line, order_of, last_work, stopped, has_halted}
use Rattle.exec_journal.proofs.Lines.{last_line_own, lines_named}
use Rattle.exec_journal.proofs.Ruled.{by_bool}
use Rattle.worker_pool.proofs.Words.{last_same}
use Rattle.core_tables.specs.declared.lanes.LaneState.{LaneState}
use Rattle.core_tables.specs.declared.last.LastLine.{LastLine}
use Rattle.core_state.specs.declared.state.State.{State}
use Rattle.core_tables.specs.Lanes.{lane_in, order_after, order_of_work, state_by}
use Rattle.core_tables.specs.Last.{last_in, row_of}
use Rattle.core_state.specs.Machine.{order_at, order_on}
use Rattle.core_state.specs.Reports.{sent_in}
use Rattle.core_laws.specs.Stands.{Stands, MayCall, AreSeated}

-- a berth that has a line is one of those of whose lanes the entries are
seated_below : (seats w : ℕ) (j : List Entry) (l : ℕ) → AreSeated seats j → last_line j w ≡ Some l
    → w < seats
unfolding last_line
seated_below seats w [] l all h = absurd (cc)
seated_below seats w (e ∷ j) l all h =
    by_bool (e.lane / 2 == w) (λ b. (e.lane / 2 == w) ≡ b → or_else (cond b (option_map (λ x. x.0)
    (launch_in e.reply)) None) (last_line j w) ≡ Some l → w < seats)
    (λ yes _ _. subst (λ v. v < seats) (eqb-true (e.lane / 2) w yes) all.1)
    (λ _ _ k. seated_below seats w j l all.0 k) refl h

-- a line is of one berth
pub berth_of : (p : Plan) (seats : ℕ) (s : State) (j : List Entry) (w l : ℕ) → Stands p seats s j
    → last_line j w ≡ Some l → IsOfBerth j l w
berth_of p seats s j w l st h = subst (λ (o : Option ℕ). OfBerth j o w) h
    (last_line_own w j (lines_named p j st.lawful))

-- which is one of those that the table has
pub berth_below : (p : Plan) (seats : ℕ) (s : State) (j : List Entry) (w l : ℕ)
    → Stands p seats s j → last_line j w ≡ Some l → w < seats
berth_below p seats s j w l st h = seated_below seats w j l st.seated h

-- rows by berth that are said of its last line, as `row` says it of any line
module _ (p : Plan) (seats : ℕ) (s : State) (j : List Entry) (e : Entry) (l : ℕ) (st : Stands p seats s j)
    (here : last_line j (e.lane / 2) ≡ Some l) (plain : launch_in e.reply ≡ None)
    {R : Type 0} (row : List Entry → Option ℕ → R) (g : R → R)
    (own : row (e ∷ j) (Some l) ≡ g (row j (Some l))) (others : (k : ℕ) → (l == k) ≡ false
    → row (e ∷ j) (Some k) ≡ row j (Some k)) (nothing : row (e ∷ j) None ≡ row j None) where
  abbrev lane_of : Option (ℕ × Attempt) → ℕ
  lane_of (Some z) = z.0
  lane_of None = 0

  one_berth : (v : ℕ) → last_line j v ≡ Some l → e.lane / 2 ≡ v
  one_berth v h =
      let a = berth_of p seats s j (e.lane / 2) l st here in
      let b = berth_of p seats s j v l st h in
      let even = ap lane_of (sym a.owner.2 ∙ b.owner.2) in
      sym a.owner.3 ∙ ap (λ m. m / 2) even ∙ b.owner.3

  changed_by : (v : ℕ) (o : Option ℕ) (b known : Bool) → last_line j v ≡ o → (e.lane / 2 == v) ≡ b
      → cond b (option_map g (cond known (Some (row j o)) None)) (cond known (Some (row j o)) None)
      ≡ cond known (Some (row (e ∷ j) o)) None
  changed_by v o true false h k = refl
  changed_by v o false false h k = refl
  changed_by v None false true h k = ap Some (sym nothing)
  changed_by v None true true h k = absurd (let even = eqb-true (e.lane / 2) v k in
      let q = sym here ∙ ap (last_line j) even ∙ h in cc)
  changed_by v (Some m) true true h k =
      let even = eqb-true (e.lane / 2) v k in
      let line : l ≡ m = (let q = sym here ∙ ap (last_line j) even ∙ h in cc) in
      ap Some (subst (λ i. g (row j (Some i)) ≡ row (e ∷ j) (Some i)) line (sym own))
  changed_by v (Some m) false true h k =
      ap Some (sym (others m (by_bool (l == m) (λ b. (l == m) ≡ b → (l == m) ≡ false)
      (λ yes q. absurd (let line = eqb-true l m yes in let w =
      one_berth v (h ∙ ap Some (sym line)) in let z = eq-eqb (e.lane / 2) v w in cc))
      (λ ne q. q) refl)))

  pub changed_rows : (before rows : List R) → ((v : ℕ)
      → slice_get before v ≡ cond (nat_lt v seats) (Some (row j (last_line j v))) None)
      → ((v : ℕ) → slice_get rows v ≡ cond (e.lane / 2 == v) (option_map g (slice_get before v))
      (slice_get before v))
      → (v : ℕ) → slice_get rows v ≡ cond (nat_lt v seats)
      (Some (row (e ∷ j) (last_line (e ∷ j) v))) None
  changed_rows before rows old h v =
      h v ∙ ap (λ (o : Option R). cond (e.lane / 2 == v) (option_map g o) o) (old v)
      ∙ changed_by v (last_line j v) (e.lane / 2 == v) (nat_lt v seats) refl refl
      ∙ ap (λ o. cond (nat_lt v seats) (Some (row (e ∷ j) o)) None)
      (sym (last_same e j plain v))

module _ (p : Plan) (seats : ℕ) (s : State) (j : List Entry) (e : Entry) (l : ℕ) (st : Stands p seats s j)
    (here : last_line j (e.lane / 2) ≡ Some l) (g : LastLine → LastLine)
    (plain : launch_in e.reply ≡ None)
    (own : row_of (e ∷ j) (Some l) ≡ g (row_of j (Some l))) (others : (k : ℕ) → (l == k) ≡ false
    → row_of (e ∷ j) (Some k) ≡ row_of j (Some k)) where
  pub changed_last : (rows : List LastLine) → ((v : ℕ)
      → slice_get rows v ≡ cond (e.lane / 2 == v) (option_map g (slice_get s.last v))
      (slice_get s.last v)) → (v : ℕ) → slice_get rows v ≡ last_in seats (e ∷ j) v
  unfolding last_in
  changed_last rows h = changed_rows p seats s j e l st here plain row_of g own others refl s.last rows
      st.last h

-- ---- what the lane's newest work orders to send

order_sends : (x : Reply) → sent_in (order_after x) ≡ option_map (λ r. r.attempt) (send_in x)
order_sends (reply.Send l n a b t) = refl
order_sends (reply.Launch l a b t) = refl
order_sends (reply.Cancel l n) = refl
order_sends (reply.Gather l n a b t x v) = refl
order_sends (reply.Kill l y) = refl
order_sends (reply.Line l) = refl
order_sends reply.Stop = refl
order_sends _ = refl

work_sends : (o : Option Entry) → sent_in (order_of_work o) ≡ option_map
    (λ r. r.attempt) (send_of_entry o)
work_sends None = refl
work_sends (Some e) = order_sends e.reply

-- both lanes of a berth are among those of all
pub lane_inside : (seats lane : ℕ) → lane / 2 < seats → nat_lt lane (2 * seats) ≡ true
lane_inside seats lane lt = lt-ltb lane (2 * seats) (omega arith)

pub sent_is : (p : Plan) (seats : ℕ) (s : State) (j : List Entry) (lane : ℕ) (c : Call) → Stands p seats s j
    → MayCall p seats j lane c → sent_in (order_at s lane) ≡ option_map
    (λ r. r.attempt) (order_of j lane)
unfolding lane_in
sent_is p seats s j lane c st may =
    ap (λ (o : Option LaneState). sent_in (order_on o))
    (st.lanes lane ∙ ap (λ b. cond b (Some (state_by (last_work j lane) (stopped j lane)
    (has_halted j lane))) None) (lane_inside seats lane may.berth))
    ∙ work_sends (last_work j lane)
