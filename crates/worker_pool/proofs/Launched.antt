-- What is kept of a new line.
use Rattle.std.proofs.Common.{◌≡◌, ℕ, zero, suc, ◌+◌, ◌/◌, ◌==◌, eqb, nat_lt, Bool, true, false, ◌&&◌, not, cond, List, [], ◌∷◌, ◌++◌, length, Option, Some, None, is_some, option_map, refl, ap, sym, subst, ◌∙◌, add-one, length-append, arith}
use Rattle.std.specs.Prelude.{slice_get}
use Rattle.std.proofs.lemmas.Bool.{ne_eqb, eqb-true, or_parts}
use Prim.Native.Nat.compare
use Rattle.run_plan.specs.declared.plan.Plan.{Plan}
use Rattle.exec_journal.specs.declared.attempt.Attempt.{Attempt}
use Rattle.exec_journal.specs.declared.ends.Cause.{Cause}
use Rattle.exec_journal.specs.Entry.{Entry}
use Rattle.exec_journal.specs.declared.call.Call.TheVariants as call
use Rattle.exec_journal.specs.declared.reply.Reply.{Reply}
use Rattle.exec_journal.specs.declared.reply.Reply.TheVariants as reply
use Rattle.list_lemmas.specs.Options.{or_else}
use Rattle.exec_journal.specs.Entries.{same_attempt, is_for, send_in}
use Rattle.exec_journal.specs.Words.{line_count, launch_of, last_line, started, broke, has_ended, was_killed, sends, was_sent, answered, wrote, is_pending, pending, line_cause}
use Rattle.exec_journal.specs.Attempts.{begun_in, carrier_in, line_of, fault_of, lost_cause, over}
use Rattle.exec_journal.specs.Settled.{still_bound, if_bound, bound}
use Rattle.exec_journal.specs.Seated.{kind_for}
use Rattle.run_plan.specs.Groups.{capacity}
use Rattle.exec_journal.specs.Facts.{SameActions, IsFresh, begun}
use Rattle.exec_journal.proofs.Begins.{same_attempt_eq}
use Rattle.exec_journal.proofs.Quiet.{ended_same, wanted_same}
use Rattle.list_lemmas.proofs.Updates.{get_update}
use Rattle.worker_pool.specs.declared.LineRow.{LineRow}
use Rattle.worker_pool.specs.Rows.{Facts, new_line, set_last, with_launch}
use Rattle.worker_pool.specs.Stands.{Stands, row_of, line_in, seat_in}
use Rattle.worker_pool.specs.Entries.{IsNew}
use Rattle.worker_pool.proofs.Words.{same_actions, granted_same}

get_push : {X : Type 0} (xs : List X) (x : X) (l : ℕ) → slice_get (xs ++ x ∷ []) l ≡ cond (length xs == l) (Some x) (slice_get xs l)
get_push [] x zero = refl
get_push [] x (suc l) = let apart : eqb 0 (suc l) ≡ false = ne_eqb 0 (suc l) (λ e. omega arith) in rw apart refl
get_push (y ∷ ys) x zero = let apart : eqb (suc (length ys)) 0 ≡ false = ne_eqb (suc (length ys)) 0 (λ e. omega arith) in rw apart refl
get_push (y ∷ ys) x (suc l) = rw (compare.suc-suc) (get_push ys x l)

-- ---- an attempt that wasn't begun was never sent, and no line carries it

unsent : (x : Reply) (t : Attempt) → is_for t (begun_in x) ≡ false → is_for t (option_map (λ q. q.attempt) (send_in x)) ≡ false
unsent (reply.Send l n a b m) t h = h
unsent _ t h = refl

uncarried : (x : Reply) (t : Attempt) → is_for t (begun_in x) ≡ false → carrier_in t x ≡ None
uncarried (reply.Launch l a b m) t h = rw h refl
uncarried (reply.Send l n a b m) t h = rw h refl
uncarried _ t h = refl

pub never_sent : (j : List Entry) (t : Attempt) → begun j t ≡ false → was_sent j t ≡ false
unfolding begun was_sent
never_sent [] t h = refl
never_sent (e ∷ j) t h =
    let parts = or_parts (is_for t (begun_in e.reply)) (begun j t) h in
    rw (unsent e.reply t parts.0) (never_sent j t parts.1)

pub never_carried : (j : List Entry) (t : Attempt) → begun j t ≡ false → line_of j t ≡ None
unfolding begun line_of
never_carried [] t h = refl
never_carried (e ∷ j) t h =
    let parts = or_parts (is_for t (begun_in e.reply)) (begun j t) h in
    rw (uncarried e.reply t parts.0) (never_carried j t parts.1)

module _ (p : Plan) (seats : ℕ) (f : Facts) (j : List Entry) (lane : ℕ) (t : Attempt) (s : Stands p seats f j) (free : IsFresh j (line_count j)) (new : IsNew p j t) where
  abbrev pub launch_entry : Entry
  launch_entry = record { lane = lane; call = call.Ask; reply = reply.Launch (line_count j) t.action t.branch t.number }

  -- ---- no attempt ends

  none_lost : (u : Attempt) → same_attempt t u ≡ true → lost_cause j u (line_of j u) ≡ None
  none_lost u h =
      let e = same_attempt_eq t u h in
      let none : line_of j u ≡ None = ap (line_of j) (sym e) ∙ never_carried j t new.unbegun in
      ap (lost_cause j u) none

  lost_same : (u : Attempt) (b : Bool) → same_attempt t u ≡ b → lost_cause j u (or_else (cond b (Some (line_count j)) None) (line_of j u)) ≡ lost_cause j u (line_of j u)
  lost_same u true h = rw free.end (sym (none_lost u h))
  lost_same u false h = refl

  over_same : (u : Attempt) → over (launch_entry ∷ j) u ≡ over j u
  unfolding fault_of line_of has_ended answered wrote line_cause
  over_same u = ap (λ (o : Option Cause). or_else (fault_of j u) o) (lost_same u (same_attempt t u) refl)

  pub launch_actions : SameActions j (launch_entry ∷ j)
  launch_actions = same_actions launch_entry j (λ u. ended_same launch_entry j u (over_same u) (granted_same launch_entry j u.action refl)) refl (λ a b. refl)

  -- ---- what is bound

  still_same : (u : Attempt) → still_bound p (launch_entry ∷ j) u ≡ still_bound p j u
  unfolding was_sent
  still_same u = λ i. wanted_same p j (launch_entry ∷ j) launch_actions u.action u.branch i && (not (was_sent j u) && not (launch_actions.ended_too u i))

  elsewhere : (o : Option (ℕ × Attempt)) → if_bound p (launch_entry ∷ j) o ≡ if_bound p j o
  elsewhere None = refl
  elsewhere (Some x) = ap (λ b. cond b (Some x.1) None) (still_same x.1)

  is_bound : if_bound p (launch_entry ∷ j) (Some (lane, t)) ≡ Some t
  is_bound =
      let unsent : was_sent j t ≡ false = never_sent j t new.unbegun in
      let still : still_bound p j t ≡ true = rw (new.wish, unsent, new.going) refl in
      ap (λ b. cond b (Some t) None) (still_same t ∙ still)

  -- ---- the new line's row

  abbrev row_now : ℕ → Bool → Option LineRow
  row_now l b =
      row_of p (or_else (cond b (Some (lane, t)) None) (launch_of j l)) (started j l) (broke j l) (has_ended j l) (was_killed j l)
      (is_some (if_bound p (launch_entry ∷ j) (or_else (cond b (Some (lane, t)) None) (launch_of j l)))) (length (pending j l))

  line_now : (l : ℕ) (b : Bool) → (line_count j == l) ≡ b → cond b (Some (new_line (capacity (kind_for p t)))) (line_in p j l) ≡ row_now l b
  unfolding line_in pending bound
  line_now l true h =
      let e : line_count j ≡ l = eqb-true (line_count j) l h in
      let g : IsFresh j l = (let P : ℕ → Type 0 = IsFresh j in subst P e free) in
      rw (g.start, g.break, g.end, g.kill, g.send, is_bound) refl
  line_now l false h = ap (λ (o : Option Attempt). row_of p (launch_of j l) (started j l) (broke j l) (has_ended j l) (was_killed j l) (is_some o) (length (pending j l))) (sym (elsewhere (launch_of j l)))

  -- ---- the berth's row

  seat_now : (b known : Bool) (o : Option ℕ) → cond b (option_map (set_last (line_count j)) (cond known (Some o) None)) (cond known (Some o) None)
      ≡ cond known (Some (or_else (cond b (Some (line_count j)) None) o)) None
  seat_now true true o = refl
  seat_now true false o = refl
  seat_now false known o = refl

  pub launches_kept : Stands p seats (with_launch f (lane / 2) (kind_for p t)) (launch_entry ∷ j)
  unfolding line_in seat_in line_count launch_of last_line started has_ended was_killed line_cause pending sends is_pending answered wrote bound
  launches_kept = record {
    room = s.room;
    count = length-append f.lines _ ∙ ap (λ n. n + 1) s.count ∙ add-one (line_count j);
    each_line = λ l.
        get_push f.lines (new_line (capacity (kind_for p t))) l
        ∙ (λ i. cond (s.count i == l) (Some (new_line (capacity (kind_for p t)))) (s.each_line l i))
        ∙ line_now l (line_count j == l) refl;
    each_seat = λ w.
        get_update (set_last (length f.lines)) f.seats (lane / 2) w
        ∙ (λ i. cond (lane / 2 == w) (option_map (set_last (s.count i)) (s.each_seat w i)) (s.each_seat w i))
        ∙ seat_now (lane / 2 == w) (nat_lt w seats) (last_line j w);
  }
