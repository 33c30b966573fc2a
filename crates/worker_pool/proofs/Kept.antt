-- How the table's rows follow a journal.
use Rattle.std.proofs.Common.{◌≡◌, ℕ, zero, suc, ◌+◌, ◌-◌, ◌==◌, Bool, true, false, ◌&&◌, ◌||◌, not, cond, List, [], ◌∷◌, length, Option, Some, None, is_some, option_map, refl, ap, sym, ◌∙◌}
use Rattle.std.specs.Prelude.{slice_get}
use Rattle.run_plan.specs.declared.plan.Plan.{Plan}
use Rattle.exec_journal.specs.declared.attempt.Attempt.{Attempt}
use Rattle.exec_journal.specs.Entry.{Entry}
use Rattle.exec_journal.specs.Entries.{launch_in}
use Rattle.exec_journal.specs.Words.{launch_of, started, broke, has_ended, was_killed, pending}
use Rattle.exec_journal.specs.Settled.{bound}
use Rattle.list_lemmas.specs.Places.{update}
use Rattle.list_lemmas.proofs.Updates.{get_update}
use Rattle.worker_pool.specs.declared.LineRow.{LineRow}
use Rattle.worker_pool.specs.Rows.{Facts, change, set_started, set_broken, set_ended, set_killed, set_unbound, one_more, one_fewer, with_unbound}
use Rattle.worker_pool.specs.Stands.{Stands, row_of, line_in, seat_with, seat_in}
use Rattle.worker_pool.specs.Entries.{is_among, is_aside, ends_nothing}
use Rattle.worker_pool.proofs.Words.{Unbinds, launch_same, last_same, count_same, aside_launch, by_reply, aside_started, aside_ended, aside_killed, aside_cause, aside_pending, aside_unbinds, quiet_actions}

length-update : {X : Type 0} (g : X → X) (xs : List X) (k : ℕ) → length (update g xs k) ≡ length xs
length-update g [] k = refl
length-update g (x ∷ xs) zero = refl
length-update g (x ∷ xs) (suc k) = ap suc (length-update g xs k)

-- ---- a row that a call changes, where its line is meant

module _ (p : Plan) where
  pub started_row : (c : Bool) (o : Option (ℕ × Attempt)) (s b e d u : Bool) (n : ℕ) → cond c (option_map set_started (row_of p o s b e d u n)) (row_of p o s b e d u n) ≡ row_of p o (c || s) b e d u n
  started_row true None s b e d u n = refl
  started_row true (Some x) s b e d u n = refl
  started_row false o s b e d u n = refl

  pub broken_row : (c : Bool) (o : Option (ℕ × Attempt)) (s b e d u : Bool) (n : ℕ) → cond c (option_map set_broken (row_of p o s b e d u n)) (row_of p o s b e d u n) ≡ row_of p o s (c || b) e d u n
  broken_row true None s b e d u n = refl
  broken_row true (Some x) s b e d u n = refl
  broken_row false o s b e d u n = refl

  pub ended_row : (c : Bool) (o : Option (ℕ × Attempt)) (s b e d u : Bool) (n : ℕ) → cond c (option_map set_ended (row_of p o s b e d u n)) (row_of p o s b e d u n) ≡ row_of p o s (c || b) (c || e) d (not c && u) (cond c 0 n)
  ended_row true None s b e d u n = refl
  ended_row true (Some x) s b e d u n = refl
  ended_row false o s b e d u n = refl

  pub killed_row : (c : Bool) (o : Option (ℕ × Attempt)) (s b e d u : Bool) (n : ℕ) → cond c (option_map set_killed (row_of p o s b e d u n)) (row_of p o s b e d u n) ≡ row_of p o s b e (c || d) u n
  killed_row true None s b e d u n = refl
  killed_row true (Some x) s b e d u n = refl
  killed_row false o s b e d u n = refl

  pub unbound_row : (c : Bool) (o : Option (ℕ × Attempt)) (s b e d u : Bool) (n : ℕ) → cond c (option_map set_unbound (row_of p o s b e d u n)) (row_of p o s b e d u n) ≡ row_of p o s b e d (not c && u) n
  unbound_row true None s b e d u n = refl
  unbound_row true (Some x) s b e d u n = refl
  unbound_row false o s b e d u n = refl

  pub more_row : (c : Bool) (o : Option (ℕ × Attempt)) (s b e d u : Bool) (n : ℕ) → cond c (option_map one_more (row_of p o s b e d u n)) (row_of p o s b e d u n) ≡ row_of p o s b e d u (cond c (n + 1) n)
  more_row true None s b e d u n = refl
  more_row true (Some x) s b e d u n = refl
  more_row false o s b e d u n = refl

  pub fewer_row : (c : Bool) (o : Option (ℕ × Attempt)) (s b e d u : Bool) (n : ℕ) → cond c (option_map one_fewer (row_of p o s b e d u n)) (row_of p o s b e d u n) ≡ row_of p o s b e d u (cond c (n - 1) n)
  fewer_row true None s b e d u n = refl
  fewer_row true (Some x) s b e d u n = refl
  fewer_row false o s b e d u n = refl

-- ---- lines that are bound no longer

unbound_room : (f : Facts) (ls : List ℕ) → (with_unbound f ls).room ≡ f.room
unbound_room f [] = refl
unbound_room f (k ∷ ks) = unbound_room (change f k set_unbound) ks

unbound_seats : (f : Facts) (ls : List ℕ) → (with_unbound f ls).seats ≡ f.seats
unbound_seats f [] = refl
unbound_seats f (k ∷ ks) = unbound_seats (change f k set_unbound) ks

unbound_count : (f : Facts) (ls : List ℕ) → length ((with_unbound f ls).lines) ≡ length f.lines
unbound_count f [] = refl
unbound_count f (k ∷ ks) = unbound_count (change f k set_unbound) ks ∙ length-update set_unbound f.lines k

regroup : (x y u : Bool) → (not y && (not x && u)) ≡ (not (x || y) && u)
regroup true true u = refl
regroup true false u = refl
regroup false y u = refl

unbound_get : (p : Plan) (f : Facts) (ls : List ℕ) (l : ℕ) (o : Option (ℕ × Attempt)) (s b e d u : Bool) (n : ℕ) → slice_get f.lines l ≡ row_of p o s b e d u n → slice_get ((with_unbound f ls).lines) l ≡ row_of p o s b e d (not (is_among l ls) && u) n
unbound_get p f [] l o s b e d u n h = h
unbound_get p f (k ∷ ks) l o s b e d u n h =
    unbound_get p (change f k set_unbound) ks l o s b e d (not (k == l) && u) n
    (get_update set_unbound f.lines k l ∙ ap (λ (q : Option LineRow). cond (k == l) (option_map set_unbound q) q) h ∙ unbound_row p (k == l) o s b e d u n)
    ∙ ap (λ v. row_of p o s b e d v n) (regroup (k == l) (is_among l ks) u)

-- ---- a table that stands for a journal, and its next entry, which launches nothing

module _ (p : Plan) (seats : ℕ) (f : Facts) (j : List Entry) (e : Entry) (s : Stands p seats f j) (plain : launch_in e.reply ≡ None) where
  abbrev pub row_before : ℕ → Option LineRow
  row_before l = row_of p (launch_of j l) (started j l) (broke j l) (has_ended j l) (was_killed j l) (is_some (bound p j l)) (length (pending j l))

  abbrev pub row_after : ℕ → Option LineRow
  row_after l = row_of p (launch_of j l) (started (e ∷ j) l) (broke (e ∷ j) l) (has_ended (e ∷ j) l) (was_killed (e ∷ j) l) (is_some (bound p (e ∷ j) l)) (length (pending (e ∷ j) l))

  stands_after : (g : Facts) → g.room ≡ f.room → g.seats ≡ f.seats → length g.lines ≡ length f.lines → ((l : ℕ) → slice_get g.lines l ≡ row_after l) → Stands p seats g (e ∷ j)
  unfolding line_in seat_in
  stands_after g room same count rows = record {
    room = room ∙ s.room;
    count = count ∙ s.count ∙ sym (count_same e j plain);
    each_line = λ l. rows l ∙ ap (λ (o : Option (ℕ × Attempt)). row_of p o (started (e ∷ j) l) (broke (e ∷ j) l) (has_ended (e ∷ j) l) (was_killed (e ∷ j) l) (is_some (bound p (e ∷ j) l)) (length (pending (e ∷ j) l))) (sym (launch_same e j plain l));
    each_seat = λ w. ap (λ xs. slice_get xs w) same ∙ s.each_seat w ∙ ap (seat_with seats w) (sym (last_same e j plain w));
  }

  row_is : (l : ℕ) → slice_get f.lines l ≡ row_before l
  unfolding line_in
  row_is l = s.each_line l

  row_changed : (g : LineRow → LineRow) (k l : ℕ) → slice_get (update g f.lines k) l ≡ cond (k == l) (option_map g (row_before l)) (row_before l)
  row_changed g k l = get_update g f.lines k l ∙ ap (λ (o : Option LineRow). cond (k == l) (option_map g o) o) (row_is l)

  -- one line changes
  pub one_changes : (k : ℕ) (g : LineRow → LineRow) → ((l : ℕ) → cond (k == l) (option_map g (row_before l)) (row_before l) ≡ row_after l) → Stands p seats (change f k g) (e ∷ j)
  one_changes k g h = stands_after (change f k g) refl refl (length-update g f.lines k) (λ l. row_changed g k l ∙ h l)

  -- none does
  pub none_changes : ((l : ℕ) → row_before l ≡ row_after l) → Stands p seats f (e ∷ j)
  none_changes h = stands_after f refl refl refl (λ l. row_is l ∙ h l)

  -- and changes again
  pub twice_changes : (k : ℕ) (g h : LineRow → LineRow) → ((l : ℕ) → cond (k == l) (option_map h (cond (k == l) (option_map g (row_before l)) (row_before l))) (cond (k == l) (option_map g (row_before l)) (row_before l)) ≡ row_after l)
      → Stands p seats (change (change f k g) k h) (e ∷ j)
  twice_changes k g h same =
      stands_after (change (change f k g) k h) refl refl (length-update h (update g f.lines k) k ∙ length-update g f.lines k)
      (λ l. get_update h (update g f.lines k) k l ∙ ap (λ (o : Option LineRow). cond (k == l) (option_map h o) o) (row_changed g k l) ∙ same l)

  pub only_unbinds : (ls : List ℕ) → ((l : ℕ) → row_of p (launch_of j l) (started j l) (broke j l) (has_ended j l) (was_killed j l) (not (is_among l ls) && is_some (bound p j l)) (length (pending j l)) ≡ row_after l) → Stands p seats (with_unbound f ls) (e ∷ j)
  only_unbinds ls h =
      stands_after (with_unbound f ls) (unbound_room f ls) (unbound_seats f ls) (unbound_count f ls)
      (λ l. unbound_get p f ls l (launch_of j l) (started j l) (broke j l) (has_ended j l) (was_killed j l) (is_some (bound p j l)) (length (pending j l)) (row_is l) ∙ h l)

  -- the row, where the words are these
  pub row_by : (l : ℕ) (st br en ki bo : Bool) (n : ℕ) → st ≡ started (e ∷ j) l → br ≡ broke (e ∷ j) l → en ≡ has_ended (e ∷ j) l → ki ≡ was_killed (e ∷ j) l → bo ≡ is_some (bound p (e ∷ j) l) → n ≡ length (pending (e ∷ j) l)
      → row_of p (launch_of j l) st br en ki bo n ≡ row_after l
  row_by l st br en ki bo n a b c d u v = λ i. row_of p (launch_of j l) (a i) (b i) (c i) (d i) (u i) (v i)

-- ---- entries that say nothing of lines and requests

module _ (p : Plan) (seats : ℕ) (f : Facts) (j : List Entry) (e : Entry) (s : Stands p seats f j) (aside : is_aside e ≡ true) where
  pub aside_kept : (ls : List ℕ) → Unbinds p j e ls → Stands p seats (with_unbound f ls) (e ∷ j)
  aside_kept ls u =
      only_unbinds p seats f j e s (aside_launch e.reply (by_reply e j aside)) ls (λ l.
      row_by p seats f j e s (aside_launch e.reply (by_reply e j aside)) l _ _ _ _ _ _
      (sym (aside_started e j aside l)) (sym (ap is_some (aside_cause e j aside l))) (sym (aside_ended e j aside l)) (sym (aside_killed e j aside l))
      (sym (u.each l)) (sym (ap length (aside_pending e j aside l))))

  pub quiet_kept : ends_nothing e.call ≡ true → Stands p seats f (e ∷ j)
  quiet_kept nothing = aside_kept [] (aside_unbinds e j aside p (quiet_actions e j aside nothing))
