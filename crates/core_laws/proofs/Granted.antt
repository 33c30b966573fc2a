-- What a Claim that is granted makes of a state that stands for a journal.
use Rattle.std.proofs.Common.{◌≡◌, ℕ, zero, suc, ◌/◌, ◌<◌, ◌==◌, nat_lt, Bool, true, false, ◌&&◌, ◌||◌, cond, List, [], ◌∷◌, ◌++◌, length, map, reverse, Option, Some, None, is_some, option_map, ◌⊎◌, inl, inr, refl, ap, sym, subst, ◌∙◌, arith}
use Rattle.std.specs.Prelude.{slice_get}
use Rattle.std.proofs.lemmas.Bool.{eqb-true, eq-eqb, lt-ltb, ltb-true, ltb-false}
use Rattle.arrayvec.specs.ArrayVec.{ArrayVec}
use Rattle.run_plan.specs.declared.plan.Branch.{Branch}
use Rattle.run_plan.specs.declared.plan.Plan.{Plan}
use Rattle.exec_journal.specs.declared.attempt.Attempt.{Attempt}
use Rattle.exec_journal.specs.Entry.{Entry}
use Rattle.exec_journal.specs.declared.ends.Cause.{Cause}
use Rattle.exec_journal.specs.declared.call.Call.TheVariants as call
use Rattle.exec_journal.specs.declared.call.Found.{Found}
use Rattle.exec_journal.specs.declared.reply.Reply.TheVariants as reply
use Rattle.exec_journal.specs.Entries.{attempt_of}
use Rattle.list_lemmas.specs.Options.{or_else, and_more, unless_before}
use Rattle.exec_journal.specs.Attempts.{ended, end_of, over, attempt}
use Rattle.exec_journal.specs.Rules.{gathered}
use Rattle.exec_journal.specs.Settled.{bound}
use Rattle.exec_journal.specs.Words.{halted, last_line, has_ended, answered, line_cause, wrote, granted, grant_of, commit_of}
use Rattle.ready_order.specs.declared.ActionState.{ActionState}
use Rattle.ready_order.specs.Stands as queue-stands
use Rattle.worker_pool.specs.Stands as pools
use Rattle.exec_journal.proofs.Begins.{attempt_other, bound_is}
use Rattle.exec_journal.proofs.Quiet.{end_same}
use Rattle.exec_journal.proofs.Ruled.{by_bool}
use Rattle.worker_pool.specs.Entries.{WantedStays, AreOfAction, is_among}
use Rattle.worker_pool.specs.Rows as rows
use Rattle.worker_pool.proofs.Answered.{last_is}
use Rattle.worker_pool.proofs.Bound.{grants_unbind}
use Rattle.worker_pool.proofs.Kept.{aside_kept}
use Rattle.worker_pool.proofs.Words.{over_same}
use Rattle.request_table.proofs.Kept as asks
use Rattle.request_table.proofs.Lists.{map_map, map_reverse}
use Rattle.cancel_rules.proofs.Followed as marks
use Rattle.race_core.proofs.Kept as races
use Rattle.retry_rules.proofs.Counted as tallies
use Rattle.core_tables.specs.declared.last.LastLine.{LastLine}
use Rattle.core_tables.specs.declared.matches.Match.{Match}
use Rattle.core_state.specs.declared.state.State.{State}
use Rattle.core_tables.specs.Last.{last_in, row_of}
use Rattle.core_state.specs.Machine.{unbound_line, unbound_for, is_of_action, row_or_none, granted_with}
use Rattle.core_tables.specs.Matches.{match_in, matches_in, spend_won, won_row, with_won}
use Rattle.call_laws.specs.Matches.{Matched, recent, is_spent, is_faulty}
use Rattle.core_state.specs.Noted.{noted_after}
use Rattle.core_laws.specs.Stands.{Stands, MayCall}
use Rattle.core_tables.proofs.Lengths.{length_is}
use Rattle.core_laws.proofs.Orders.{get_map}
use Rattle.core_laws.proofs.Own.{lanes_kept, last_kept, IsQuiet, map_matches}
use Rattle.core_state.proofs.Unbound.{for_keeps, last_kept as same_last}
use Rattle.core_laws.proofs.Greeted.{quiet_greetings}
use Rattle.exec_journal.specs.Lawful.{LawfulEntry, plain_reply}

-- ---- the lines that are unbound, as a list

module _ (f : rows.Facts) (last : List LastLine) (a : ℕ) where
  abbrev its : ℕ → Bool
  its n = is_of_action ((row_or_none (slice_get last n)).attempt) a

  line_if : Bool → Option ℕ → List ℕ
  line_if true (Some l) = l ∷ []
  line_if true None = []
  line_if false o = []

  lines : ℕ → List ℕ
  lines zero = []
  lines (suc n) = lines n ++ line_if (its n) (rows.last_of f n)

unbound_more : (f : rows.Facts) (ls : List ℕ) (l : ℕ)
    → rows.with_unbound f (ls ++ l ∷ []) ≡ rows.change (rows.with_unbound f ls) l rows.set_unbound
unbound_more f [] l = refl
unbound_more f (k ∷ ks) l = unbound_more (rows.change f k rows.set_unbound) ks l

append_none : (ls : List ℕ) → ls ++ [] ≡ ls
append_none [] = refl
append_none (l ∷ ls) = ap (λ xs. l ∷ xs) (append_none ls)

module _ (f : rows.Facts) (last : List LastLine) (a : ℕ) where
  unbound_is : (n : ℕ) → unbound_for f last a n ≡ rows.with_unbound f (lines f last a n)
  unfolding lines line_if
  unbound_is zero = refl
  unbound_is (suc n) =
      ap (λ o. cond (its f last a n) (unbound_line (unbound_for f last a n) o)
      (unbound_for f last a n)) (same_last f (unbound_for f last a n) n (for_keeps f last a n))
      ∙ ap (λ g. cond (its f last a n) (unbound_line g (rows.last_of f n)) g) (unbound_is n)
      ∙ by (its f last a n) (rows.last_of f n)
    where
      by : (b : Bool) (o : Option ℕ) → cond b (unbound_line
          (rows.with_unbound f (lines f last a n)) o) (rows.with_unbound f (lines f last a n))
          ≡ rows.with_unbound f (lines f last a n ++ line_if f last a b o)
      by true (Some l) = sym (unbound_more f (lines f last a n) l)
      by true None = ap (rows.with_unbound f) (sym (append_none (lines f last a n)))
      by false o = ap (rows.with_unbound f) (sym (append_none (lines f last a n)))

  among_append : (l : ℕ) (xs ys : List ℕ) → is_among l (xs ++ ys) ≡ (is_among l xs || is_among l ys)
  among_append l [] ys = refl
  among_append l (x ∷ xs) ys = ap (λ b. (x == l) || b) (among_append l xs ys)
      ∙ assoc (x == l) (is_among l xs) (is_among l ys)
    where
      assoc : (p q s : Bool) → (p || (q || s)) ≡ ((p || q) || s)
      assoc true q s = refl
      assoc false q s = refl

  or_right : (x y : Bool) → y ≡ true → (x || y) ≡ true
  or_right true y h = refl
  or_right false y h = h

  or_left : (x y : Bool) → x ≡ true → (x || y) ≡ true
  or_left true y h = refl
  or_left false y h = absurd (cc)

  or_cases : (x y : Bool) → (x || y) ≡ true → (x ≡ true) ⊎ (y ≡ true)
  or_cases true y h = inl refl
  or_cases false y h = inr h

  here_among : (b : Bool) (o : Option ℕ) (l : ℕ) → b ≡ true → o ≡ Some l
      → is_among l (line_if f last a b o) ≡ true
  unfolding line_if
  here_among true (Some k) l h e = let same : k ≡ l = cc in or_left (k == l) false (eq-eqb k l same)
  here_among true None l h e = absurd (cc)
  here_among false o l h e = absurd (cc)

  among_here : (b : Bool) (o : Option ℕ) (l : ℕ) → is_among l (line_if f last a b o) ≡ true
      → (b ≡ true) × (o ≡ Some l)
  unfolding line_if
  among_here true (Some k) l h = (refl, ap Some (eqb-true k l (only (k == l) h)))
    where
      only : (x : Bool) → (x || false) ≡ true → x ≡ true
      only true g = refl
      only false g = absurd (cc)
  among_here true None l h = absurd (cc)
  among_here false o l h = absurd (cc)

  among_from : (n w l : ℕ) → w < n → its f last a w ≡ true → rows.last_of f w ≡ Some l
      → is_among l (lines f last a n) ≡ true
  unfolding lines
  among_from zero w l lt h e = absurd (omega arith)
  among_from (suc n) w l lt h e =
      among_append l (lines f last a n) (line_if f last a (its f last a n) (rows.last_of f n))
      ∙ by_bool (nat_lt w n) (λ _. (is_among l (lines f last a n)
      || is_among l (line_if f last a (its f last a n) (rows.last_of f n))) ≡ true)
      (λ yes. or_left _ _ (among_from n w l (ltb-true w n yes) h e))
      (λ ne. let ge = ltb-false w n ne in let same : w ≡ n = omega arith in
      or_right (is_among l (lines f last a n)) _ (here_among (its f last a n) (rows.last_of f n) l
      (ap (its f last a) (sym same) ∙ h) (ap (rows.last_of f) (sym same) ∙ e)))

  record Found_at (n l : ℕ) : Type 0 where
    berth : ℕ
    below : berth < n
    own : its f last a berth ≡ true
    is : rows.last_of f berth ≡ Some l

  among_to : (n l : ℕ) → is_among l (lines f last a n) ≡ true → Found_at n l
  unfolding lines
  among_to zero l h = absurd (cc)
  among_to (suc n) l h =
      elim (or_cases (is_among l (lines f last a n)) (is_among l
      (line_if f last a (its f last a n) (rows.last_of f n)))
      (sym (among_append l (lines f last a n) (line_if f last a (its f last a n)
      (rows.last_of f n))) ∙ h)) [
        | inl before ↦ (let at = among_to n l before in let lt = at.below in
            record { berth = at.berth; below = omega arith; own = at.own; is = at.is })
        | inr now ↦ (let at = among_here (its f last a n) (rows.last_of f n) l now in
            record { berth = n; below = omega arith; own = at.0; is = at.1 })
      ]

-- ---- the entry

module _ (p : Plan) (seats : ℕ) (s : State) (j : List Entry) (lane a n : ℕ) (b : Branch) (f : Found)
    (st : Stands p seats s j) (may : MayCall p seats j lane (call.Claim a b n f))
    (is : reply.Granted ≡ plain_reply p j lane (call.Claim a b n f)) (ungranted : grant_of j a ≡ None)
    (uncommitted : (c : Branch) → commit_of j a c ≡ None)
    (stays : WantedStays p j (record {
      lane = lane;
      call = call.Claim a b n f;
      reply = reply.Granted;
    }))
    (bound_last : (l : ℕ) (t : Attempt) → bound p j l ≡ Some t
    → (w : ℕ) × (w < seats) × (last_line j w ≡ Some l)) where
  abbrev e : Entry
  e = record { lane = lane; call = call.Claim a b n f; reply = reply.Granted }

  joins : LawfulEntry p j e
  joins = record { scripted = may.scripted; told = is; kept = refl }

  -- ---- no attempt ends

  none_more : (o : Option Cause) → or_else o None ≡ o
  none_more None = refl
  none_more (Some c) = refl

  over_too : (u : Attempt) → over (e ∷ j) u ≡ over j u
  unfolding has_ended answered wrote line_cause
  over_too u = over_same e j u refl refl (λ l. refl) refl refl (λ l h. refl)

  granted_after : (u : ℕ) (x : Bool) → (a == u) ≡ x → granted (e ∷ j) u ≡ (x || granted j u)
  unfolding granted grant_of
  granted_after u true h = rw h (first_is (grant_of j u))
    where
      first_is : (o : Option (Attempt × Found)) → is_some
          (unless_before (Some (attempt_of a b n, f)) o) ≡ true
      first_is None = refl
      first_is (Some y) = refl
  granted_after u false h = rw h refl

  closed : (v : Attempt) → granted (e ∷ j) v.action ≡ true → end_of (e ∷ j) v ≡ end_of j v
  unfolding end_of
  closed v h = ap (λ x. or_else (end_of j v) (cond x None (over (e ∷ j) v))) h
      ∙ none_more (end_of j v)

  ends_same : (u : Attempt) → end_of (e ∷ j) u ≡ end_of j u
  ends_same u = by_bool (a == u.action) (λ x. (a == u.action) ≡ x → end_of (e ∷ j) u ≡ end_of j u)
      (λ yes h. closed u (granted_after u.action true h))
      (λ ne h. end_same e j u (over_too u) (granted_after u.action false h)) refl

  ended_same : (u : Attempt) → ended (e ∷ j) u ≡ ended j u
  unfolding ended
  ended_same u = ap is_some (ends_same u)

  none_begins : (c : ℕ) (d : Branch) → attempt (e ∷ j) c d ≡ attempt j c d
  none_begins c d = attempt_other e j c d refl

  -- ---- the lines

  lasts : length s.last ≡ seats
  unfolding last_in
  lasts = length_is s.last seats (λ w. row_of j (last_line j w)) st.last

  row_is : (w l : ℕ) → w < seats → last_line j w ≡ Some l
      → slice_get s.last w ≡ Some (row_of j (Some l))
  unfolding last_in
  row_is w l lt h =
      let inside : nat_lt w seats ≡ true = lt-ltb w seats lt in
      st.last w ∙ ap (λ x. cond x (Some (row_of j (last_line j w))) None) inside
      ∙ ap (λ o. Some (row_of j o)) h

  of_line : (w l : ℕ) (t : Attempt) → w < seats → last_line j w ≡ Some l → bound p j l ≡ Some t
      → its s.pool s.last a w ≡ (t.action == a)
  of_line w l t lt h was =
      ap (λ o. is_of_action ((row_or_none o).attempt) a) (row_is w l lt h)
      ∙ ap (λ (o : Option (ℕ × Attempt)). is_of_action (option_map (λ x. x.1) o) a)
      (bound_is p j l t was).launched

  these : AreOfAction p j a (lines s.pool s.last a (length s.last))
  these = record {
    each = λ l t was. by_bool (a == t.action) (λ x. (a == t.action) ≡ x
        → is_among l (lines s.pool s.last a (length s.last)) ≡ x)
        (λ yes h. let at = bound_last l t was in
        among_from s.pool s.last a (length s.last) at.0 l (let len = lasts in let lt = at.1 in
        omega arith)
        (of_line at.0 l t at.1 at.2 was ∙ eq-eqb t.action a (sym (eqb-true a t.action h)))
        (last_is p seats s.pool j st.pool at.0 at.1 ∙ at.2))
        (λ ne h. by_bool (is_among l (lines s.pool s.last a (length s.last)))
        (λ y. is_among l (lines s.pool s.last a (length s.last)) ≡ y → y ≡ false)
        (λ yes k. absurd (let at = among_to s.pool s.last a (length s.last) l k in
        let len = lasts in let below = at.below in let lt : at.berth < seats = omega arith in
        let here = sym (last_is p seats s.pool j st.pool at.berth lt) ∙ at.is in
        let own = sym (of_line at.berth l t lt here was) ∙ at.own in
        let same = eq-eqb a t.action (sym (eqb-true t.action a own)) in cc))
        (λ _ k. refl) refl) refl;
  }

  -- ---- the matches

  shuffle : (x g w q : Bool) → (x || (g || (w || q))) ≡ (g || (w || (x || q)))
  shuffle true true w q = refl
  shuffle true false true q = refl
  shuffle true false false q = refl
  shuffle false g w q = refl

  eqb_sym : (x y : ℕ) → (x == y) ≡ (y == x)
  eqb_sym x y = by_bool (x == y) (λ v. (x == y) ≡ v → v ≡ (y == x))
      (λ _ h. sym (eq-eqb y x (sym (eqb-true x y h))))
      (λ _ h. by_bool (y == x) (λ v. (y == x) ≡ v → false ≡ v)
      (λ _ k. absurd (let z = eq-eqb x y (sym (eqb-true y x k)) in cc)) (λ _ k. refl) refl) refl

  won_match : (m : Matched) → spend_won a (match_in j m) ≡ match_in (e ∷ j) m
  unfolding wrote gathered
  won_match m =
      ap (λ v. record {
        line = m.line;
        number = m.number;
        attempt = m.attempt;
        exit = m.exit;
        refused = m.refused;
        spent = v;
      })
      (ap (λ v. v || is_spent j m.attempt) (eqb_sym m.attempt.action a)
      ∙ shuffle (a == m.attempt.action) (gathered j m.attempt) (is_faulty (wrote j m.attempt))
      (granted j m.attempt.action)
      ∙ ap (λ v. gathered j m.attempt || (is_faulty (wrote j m.attempt) || v))
      (sym (granted_after m.attempt.action (a == m.attempt.action) refl)))

  abbrev rec : List Match → ArrayVec Match
  rec xs = record { items = xs }

  recent_by : (w : ℕ) (x : Bool) → cond (x && false) [] (and_more (cond x None None) (recent j w))
      ≡ recent j w
  recent_by w true = refl
  recent_by w false = refl

  recent_after : (w : ℕ) → recent (e ∷ j) w ≡ recent j w
  unfolding recent
  recent_after w = recent_by w (lane / 2 == w)

  won_by : (w : ℕ) (x : Bool) → option_map (won_row a)
      (cond x (Some (rec (reverse (map (match_in j) (recent j w))))) None) ≡ cond x
      (Some (rec (reverse (map (match_in (e ∷ j)) (recent (e ∷ j) w))))) None
  won_by w false = refl
  won_by w true =
      ap (λ xs. Some (rec xs)) (map_reverse (spend_won a) (map (match_in j) (recent j w))
      ∙ ap reverse (map_map (spend_won a) (match_in j) (recent j w)
      ∙ map_matches seats j e (λ m. spend_won a (match_in j m)) (match_in (e ∷ j))
      (recent j w) won_match))
      ∙ ap (λ xs. Some (rec (reverse (map (match_in (e ∷ j)) xs)))) (sym (recent_after w))

  matches_is : (w : ℕ) → slice_get (with_won s.matches a) w ≡ matches_in seats (e ∷ j) w
  unfolding matches_in
  matches_is w = get_map (won_row a) s.matches w ∙ ap (option_map (won_row a)) (st.matches w)
      ∙ won_by w (nat_lt w seats)

  quiet : IsQuiet seats j e
  unfolding wrote
  quiet = record {
    no_launch = refl;
    no_send = refl;
    no_take = λ m. refl;
    no_break = λ m. refl;
    no_feed = λ u. refl;
  }

  module _ (states : List ActionState) (ready : queue-stands.Stands p states (e ∷ j)) where
    pub granted_stands : Stands p seats (noted_after (record
        (granted_with s (attempt_of a b n)) { ready = states }) lane
        (call.Claim a b n f) reply.Granted) (e ∷ j)
    unfolding halted
    granted_stands = record {
      plan = st.plan;
      sound = st.sound;
      lawful = (st.lawful, joins);
      seated = (st.seated, may.berth);
      few = st.few;
      pool = subst (λ q. pools.Stands p seats q (e ∷ j)) (sym (unbound_is s.pool s.last a
          (length s.last)))
          (aside_kept p seats s.pool j e st.pool refl (lines s.pool s.last a (length s.last))
          (grants_unbind p j lane a n b f (lines s.pool s.last a (length s.last)) stays these));
      requests = asks.others p s.requests j e st.requests refl refl;
      cancels = marks.grants_kept p s.cancels j lane a b n f st.cancels;
      ready = ready;
      race = races.grants p s.race j lane a n b f st.race
          (record { ungranted = ungranted; uncommitted = uncommitted });
      attempts = tallies.others_count p s.attempts j e st.attempts none_begins ended_same;
      lanes = lanes_kept seats j e s.lanes st.lanes;
      greetings = quiet_greetings seats j e refl refl s.greetings st.greetings;
      last = last_kept seats j e quiet s.last st.last;
      matches = matches_is;
      halted = st.halted;
    }
