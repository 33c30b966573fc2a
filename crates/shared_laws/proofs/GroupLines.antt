-- What the tables say of a berth's last line and of its group is what the journal says.
use Rattle.std.proofs.Common.{◌≡◌, ℕ, ◌/◌, ◌<◌, ◌==◌, nat_lt, Bool, true, false, ◌&&◌, cond, List, Option, Some, None, option_map, unwrap_or, refl, ap, subst, ◌∙◌}
use Rattle.std.specs.Prelude.{option_and_then}
use Rattle.std.proofs.lemmas.Bool.{lt-ltb}
use Rattle.run_plan.specs.declared.plan.Plan.{Plan}
use Rattle.exec_journal.specs.declared.attempt.Attempt.{Attempt}
use Rattle.exec_journal.specs.Entry.{Entry}
use Rattle.exec_journal.specs.Facts.{NameTheirLines, OfBerth, IsOfBerth}
use Rattle.exec_journal.specs.Seated.{group_for, group_on, line_kind}
use Rattle.exec_journal.specs.Settled.{free_places, has_room}
use Rattle.exec_journal.specs.Words.{last_line, launch_of, live}
use Rattle.exec_journal.proofs.Lines.{last_line_own, lines_named}
use Rattle.worker_pool.proofs.Answered.{live_is, free_is}
use Rattle.core_tables.specs.Last.{last_in, row_of}
use Rattle.core_state.specs.declared.state.State.{State}
use Rattle.core_state.specs.Choices.{attempt_at, attempt_on}
use Rattle.core_laws.specs.Stands.{Stands}
use Rattle.earliest_first.specs.Choices as choices
use Rattle.shared_laws.specs.Berths.{group_at, holds, is_of_group}
use Rattle.placed_rules.specs.Needs.{is_held}
use Rattle.shared_laws.proofs.LastLines.{passes}

-- which last lines may still have a process is as the journal says
pub record HeldAt (s : State) (j : List Entry) : Type 0 where
  pub held : (w l : ℕ) → last_line j w ≡ Some l → holds s w ≡ is_held j l

-- the line is of the group
abbrev pub is_in : Plan → List Entry → ℕ → ℕ → Bool
is_in p j g l = unwrap_or (option_map (λ k. k == g) (group_on p j l)) false

-- it is, and live with a free place
abbrev pub is_roomy : Plan → List Entry → ℕ → ℕ → Bool
is_roomy p j g l = is_in p j g l && has_room p j (line_kind p j l) l

-- it is, and may still have a process
abbrev pub is_held_in : Plan → List Entry → ℕ → ℕ → Bool
is_held_in p j g l = is_in p j g l && is_held j l

group_by : (p : Plan) (o : Option (ℕ × Attempt))
    → option_and_then (group_for p) (option_map (λ x. x.1) o)
    ≡ option_and_then (λ x. group_for p x.1) o
group_by p None = refl
group_by p (Some x) = refl

module _ (p : Plan) (seats : ℕ) (s : State) (j : List Entry) (st : Stands p seats s j) (w : ℕ)
    (lt : w < seats) where
  row_is : attempt_at s w ≡ attempt_on (Some (row_of j (last_line j w)))
  unfolding last_in
  row_is = ap attempt_on (st.last w
      ∙ ap (λ b. cond b (Some (row_of j (last_line j w))) None) (lt-ltb w seats lt))

  -- the group of what was launched there last
  pub group_is : (o : Option ℕ) → last_line j w ≡ o
      → group_at s w ≡ option_and_then (group_on p j) o
  unfolding group_on
  group_is None h =
      (λ i. option_and_then (group_for (st.plan i)) (row_is i))
      ∙ ap (λ o. option_and_then (group_for p) (attempt_on (Some (row_of j o)))) h
  group_is (Some l) h =
      (λ i. option_and_then (group_for (st.plan i)) (row_is i))
      ∙ ap (λ o. option_and_then (group_for p) (attempt_on (Some (row_of j o)))) h
      ∙ group_by p (launch_of j l)

  of_group : (g : ℕ) (o : Option ℕ) → last_line j w ≡ o
      → is_of_group s g w ≡ passes (is_in p j g) o
  of_group g None h = ap (λ k. unwrap_or (option_map (λ n. n == g) k) false) (group_is None h)
  of_group g (Some l) h =
      ap (λ k. unwrap_or (option_map (λ n. n == g) k) false) (group_is (Some l) h)

  names : NameTheirLines j
  names = lines_named p j st.lawful

  room_some : (l : ℕ) → last_line j w ≡ Some l
      → choices.line_has_room s.pool (cond (live j l) (Some l) None)
      ≡ has_room p j (line_kind p j l) l
  room_some l h = by (live j l) own.owner.1 (own.owner.2, own.owner.3)
    where
      own : IsOfBerth j l w
      own = subst (λ (o : Option ℕ). OfBerth j o w) h (last_line_own w j names)

      by : (b : Bool) (t : Attempt) → (launch_of j l ≡ Some (own.owner.0, t))
          × (own.owner.0 / 2 ≡ w) → choices.line_has_room s.pool (cond b (Some l) None)
          ≡ (b && nat_lt 0 (free_places p j (line_kind p j l) l))
      by true t e = ap (nat_lt 0) (free_is p seats s.pool j st.pool l own.owner.0 t e.0)
      by false t e = refl

  room_is : (o : Option ℕ) → last_line j w ≡ o
      → choices.has_room s.pool w ≡ passes (λ l. has_room p j (line_kind p j l) l) o
  room_is None h = ap (choices.line_has_room s.pool) (live_is p seats s.pool j st.pool w lt names)
      ∙ ap (λ o. choices.line_has_room s.pool
      (option_and_then (λ l. cond (live j l) (Some l) None) o)) h
  room_is (Some l) h =
      ap (choices.line_has_room s.pool) (live_is p seats s.pool j st.pool w lt names)
      ∙ ap (λ o. choices.line_has_room s.pool
      (option_and_then (λ l. cond (live j l) (Some l) None) o)) h
      ∙ room_some l h

  -- a berth whose last line is of the group and has room
  pub roomy_is : (g : ℕ) → (is_of_group s g w && choices.has_room s.pool w)
      ≡ passes (is_roomy p j g) (last_line j w)
  roomy_is g = by (last_line j w) refl
    where
      by : (o : Option ℕ) → last_line j w ≡ o
          → (is_of_group s g w && choices.has_room s.pool w) ≡ passes (is_roomy p j g) o
      by None h = λ i. of_group g None h i && room_is None h i
      by (Some l) h = λ i. of_group g (Some l) h i && room_is (Some l) h i

  -- a berth whose last line is of the group and may still have a process
  pub held_is : HeldAt s j → (g : ℕ)
      → (is_of_group s g w && holds s w) ≡ passes (is_held_in p j g) (last_line j w)
  held_is at g = by (last_line j w) refl
    where
      by : (o : Option ℕ) → last_line j w ≡ o
          → (is_of_group s g w && holds s w) ≡ passes (is_held_in p j g) o
      by None h = ap (λ b. b && holds s w) (of_group g None h)
      by (Some l) h = λ i. of_group g (Some l) h i && at.held w l h i
