-- What is read from a table that stands for a journal.
use Rattle.std.proofs.Common.{◌≡◌, ℕ, ◌+◌, ◌-◌, ◌<◌, ◌==◌, nat_lt, Bool, true, cond, List, [], ◌∷◌, length, Option, Some, None, is_some, option_map, option_and_then, unwrap_or, refl, ap, sym, ◌∙◌, arith}
use Rattle.std.specs.Prelude.{slice_get}
use Rattle.std.specs.List.{filter}
use Rattle.std.proofs.lemmas.Option.{slice_get_within}
use Rattle.std.proofs.lemmas.Bool.{lt-ltb, eq-eqb}
use Rattle.run_plan.specs.declared.plan.Plan.{Plan}
use Rattle.exec_journal.specs.declared.attempt.Attempt.{Attempt}
use Rattle.exec_journal.specs.Entry.{Entry}
use Rattle.exec_journal.specs.Words.{launch_of, last_line, started, broke, has_ended, was_killed, pending, live}
use Rattle.exec_journal.specs.Seated.{group_for, group_on, kind_for, kind_in, line_kind}
use Rattle.exec_journal.specs.Settled.{bound, one_if, free_places}
use Rattle.run_plan.specs.Groups.{capacity}
use Rattle.exec_journal.specs.Facts.{NameTheirLines, OfBerth}
use Rattle.exec_journal.proofs.Lines.{last_line_own}
use Rattle.worker_pool.specs.declared.LineRow.{LineRow}
use Rattle.worker_pool.specs.Rows.{Facts, pending_of, capacity_of, last_of, is_live_row, if_live, live_of, free_in, free_of}
use Rattle.worker_pool.specs.Entries.{is_of, IsPendingOn}
use Rattle.worker_pool.specs.Stands.{Stands, row_of, line_in, seat_in, live_in}

module _ (p : Plan) (seats : ℕ) (f : Facts) (j : List Entry) (s : Stands p seats f j) where
  module _ (l lane : ℕ) (t : Attempt) (launched : launch_of j l ≡ Some (lane, t)) where
    abbrev row : LineRow
    row = record { capacity = capacity (kind_for p t); started = started j l; broken = broke j l; ended = has_ended j l; killed = was_killed j l; bound = is_some (bound p j l); pending = length (pending j l) }

    row_is : slice_get f.lines l ≡ Some row
    unfolding line_in
    row_is = s.each_line l ∙ ap (λ (o : Option (ℕ × Attempt)). row_of p o (started j l) (broke j l) (has_ended j l) (was_killed j l) (is_some (bound p j l)) (length (pending j l))) launched

    one_is : (o : Option Attempt) → cond (is_some o) 1 0 ≡ one_if o
    one_is None = refl
    one_is (Some u) = refl

    -- the line's kind is that of the group for whose attempt it was launched
    kind_is : line_kind p j l ≡ kind_for p t
    unfolding group_on
    kind_is = ap (λ (o : Option (ℕ × Attempt)). kind_in p (option_and_then (λ x. group_for p x.1) o)) launched

    pub free_is : free_of f l ≡ free_places p j (line_kind p j l) l
    unfolding free_places
    free_is =
        ap (λ (o : Option LineRow). unwrap_or (option_map free_in o) 0) row_is
        ∙ ap (λ n. capacity (kind_for p t) - (length (pending j l) + n)) (one_is (bound p j l))
        ∙ ap (λ k. capacity k - (length (pending j l) + one_if (bound p j l))) (sym kind_is)

    pub pending_is : pending_of f l ≡ length (pending j l)
    pending_is = ap (λ (o : Option LineRow). unwrap_or (option_map (λ x. x.pending) o) 0) row_is

    pub capacity_is : capacity_of f l ≡ capacity (line_kind p j l)
    capacity_is = ap (λ (o : Option LineRow). unwrap_or (option_map (λ x. x.capacity) o) 0) row_is ∙ ap capacity (sym kind_is)

    pub within : l < length f.lines
    within = slice_get_within f.lines l row row_is

    pub sent_fits : length (pending j l) < capacity (line_kind p j l) → pending_of f l < capacity_of f l
    sent_fits h = rw (pending_is, capacity_is) h

    filter_least : {X : Type 0} (test : X → Bool) (xs : List X) → length (filter test xs) ≡ 1 → 0 < length xs
    filter_least test [] h = absurd (omega arith)
    filter_least test (x ∷ xs) h = omega arith

    pub freed_fits : (u : Attempt) → IsPendingOn j u l → 0 < pending_of f l
    freed_fits u on =
        let same : (l == l) ≡ true = eq-eqb l l refl in
        rw pending_is (filter_least (is_of u) (pending j l) (on.each l ∙ ap (λ b. cond b 1 0) same))

    if_live_is : if_live f l ≡ cond (live j l) (Some l) None
    unfolding live
    if_live_is = ap (λ (o : Option LineRow). option_and_then (λ x. cond (is_live_row x) (Some l) None) o) row_is

  module _ (w : ℕ) (known : w < seats) where
    seat_is : slice_get f.seats w ≡ Some (last_line j w)
    unfolding seat_in
    seat_is =
        let inside : nat_lt w seats ≡ true = lt-ltb w seats known in
        s.each_seat w ∙ ap (λ b. cond b (Some (last_line j w)) None) inside

    pub seat_within : w < length f.seats
    seat_within = slice_get_within f.seats w _ seat_is

    pub last_is : last_of f w ≡ last_line j w
    last_is = ap (λ (o : Option (Option ℕ)). unwrap_or o None) seat_is

    live_by : (o : Option ℕ) → OfBerth j o w → option_and_then (if_live f) o ≡ option_and_then (λ l. cond (live j l) (Some l) None) o
    live_by None own = refl
    live_by (Some l) own = if_live_is l own.owner.0 own.owner.1 own.owner.2

    pub live_is : NameTheirLines j → live_of f w ≡ live_in j w
    live_is names = ap (option_and_then (if_live f)) last_is ∙ live_by (last_line j w) (last_line_own w j names)
