-- What is said of a berth of pools is so of its last line.
use Rattle.std.proofs.Common.{◌≡◌, ℕ, ◌<◌, true, cond, List, Option, Some, None, option_map, refl, ap, sym, subst, ◌∙◌}
use Rattle.std.specs.Prelude.{slice_get, option_and_then}
use Rattle.std.proofs.lemmas.Bool.{lt-ltb}
use Rattle.run_plan.specs.Groups.{is_remote}
use Rattle.exec_journal.specs.Entry.{Entry}
use Rattle.exec_journal.specs.Facts.{OfBerth, IsOfBerth}
use Rattle.exec_journal.specs.Seated.{group_for, group_on, kind_in, line_kind}
use Rattle.exec_journal.specs.Words.{last_line, launch_of}
use Rattle.exec_journal.proofs.Lines.{last_line_own, lines_named}
use Rattle.core_contract.specs.Disciplines.{LegalBy}
use Rattle.core_contract.specs.Laws.{RunsOn}
use Rattle.core_tables.specs.declared.berth_group.BerthGroup.{BerthGroup}
use Rattle.core_tables.specs.Last.{last_in, row_of}
use Rattle.core_state.specs.declared.state.State.{State}
use Rattle.core_state.specs.Choices.{attempt_at, attempt_on}
use Rattle.core_laws.specs.Stands.{SeatFits, Stands}
use Rattle.placed_rules.specs.declared.pools.SharedPlan.{SharedPlan}
use Rattle.placed_rules.specs.Pools.{berth_kind, pools_fit, seats}
use Rattle.placed_rules.specs.Placed.{pooled_discipline, seats_with}
use Rattle.placed_rules.proofs.Pooled.{launched_runs}
use Rattle.placed_berths.specs.Choices.{seat_here, seat_of}

-- the seat fits, and is an executor's exactly where the berth is
pub record IsSeated (q : SharedPlan) (j : List Entry) (w : ℕ) (seat : BerthGroup) : Type 0 where
  pub fits : SeatFits q.plan j w seat
  pub remote : is_remote seat.kind ≡ is_remote (berth_kind q w)

module _ (q : SharedPlan) (ticks : Option ℕ) (s : State) (j : List Entry)
    (st : Stands q.plan (seats_with ticks (seats q)) s j) (fit : pools_fit q ≡ true)
    (legal : LegalBy (pooled_discipline q ticks) j) (w : ℕ)
    (lt : w < seats_with ticks (seats q)) where
  last_eq : slice_get s.last w ≡ Some (row_of j (last_line j w))
  unfolding last_in
  last_eq = st.last w ∙ ap (λ b. cond b (Some (row_of j (last_line j w))) None)
      (lt-ltb w (seats_with ticks (seats q)) lt)

  attempt_eq : attempt_at s w ≡ (row_of j (last_line j w)).attempt
  attempt_eq = ap attempt_on last_eq

  -- the seat by the plan and by the group of the line
  here_eq : seat_here q s w ≡ seat_of q.plan (berth_kind q w)
      (option_and_then (group_for q.plan) (row_of j (last_line j w)).attempt)
  here_eq = λ i. seat_of (st.plan i) (berth_kind q w)
      (option_and_then (group_for (st.plan i)) (attempt_eq i))

  abbrev Fits : BerthGroup → Type 0
  Fits seat = IsSeated q j w seat

  without : last_line j w ≡ None → Fits (seat_of q.plan (berth_kind q w) None)
  without none = record {
    fits = record {
      kind = λ l here. absurd (let both = sym none ∙ here in cc);
      group = λ l here. absurd (let both = sym none ∙ here in cc);
      cancel = refl;
    };
    remote = refl;
  }

  of_line : (l : ℕ) → last_line j w ≡ Some l
      → Fits (seat_of q.plan (berth_kind q w)
      (option_and_then (group_for q.plan) (row_of j (Some l)).attempt))
  unfolding group_on
  of_line l here =
      let names = lines_named q.plan j st.lawful in
      let own : IsOfBerth j l w = subst (λ (o : Option ℕ). OfBerth j o w) here
      (last_line_own w j names) in
      let at = own.owner.2 in
      let runs : RunsOn q.plan (is_remote (berth_kind q w)) own.owner.1 =
      subst (λ v. RunsOn q.plan (is_remote (berth_kind q v)) own.owner.1) own.owner.3
      (launched_runs q ticks j l own.owner.0 own.owner.1 fit legal at) in
      let group : group_on q.plan j l ≡ Some runs.group =
      ap (option_and_then (λ x. group_for q.plan x.1)) at ∙ runs.of_branch in
      let same : option_and_then (group_for q.plan) (option_map (λ x. x.1) (launch_of j l))
      ≡ Some runs.group =
      ap (λ o. option_and_then (group_for q.plan) (option_map (λ x. x.1) o)) at ∙ runs.of_branch in
      let only : (k : ℕ) → last_line j w ≡ Some k → l ≡ k =
      λ k at_k. let both = sym here ∙ at_k in cc in
      subst (λ o. Fits (seat_of q.plan (berth_kind q w) o)) (sym same) (record {
        fits = record {
          kind = λ k at_k. ap (line_kind q.plan j) (sym (only k at_k)) ∙ ap (kind_in q.plan) group;
          group = λ k at_k. ap (group_on q.plan j) (sym (only k at_k)) ∙ group;
          cancel = refl;
        };
        remote = runs.executor;
      })

  pub is_seated : Fits (seat_here q s w)
  is_seated =
      subst Fits (sym here_eq) (by (last_line j w) refl)
    where
      by : (o : Option ℕ) → last_line j w ≡ o
          → Fits (seat_of q.plan (berth_kind q w)
          (option_and_then (group_for q.plan) (row_of j o).attempt))
      by None none = without none
      by (Some l) here = of_line l here
