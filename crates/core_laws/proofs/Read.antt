-- What an Ask reads is there.
use Rattle.std.proofs.Common.{◌≡◌, ℕ, ◌-◌, ◌<◌, ◌≤◌, nat_lt, Bool, true, false, cond, List, length, Option, Some, None, option_map, unwrap_or, ap, sym, subst, ◌∙◌, arith}
use Rattle.std.specs.Prelude.{slice_get, map, reverse}
use Rattle.std.proofs.lemmas.Bool.{ltb-true}
use Rattle.run_plan.specs.declared.plan.Branch.{Branch}
use Rattle.run_plan.specs.declared.plan.Plan.{Plan}
use Rattle.exec_journal.specs.Entry.{Entry}
use Rattle.exec_journal.specs.Entries.{attempt_of}
use Rattle.exec_journal.specs.Facts.{OfBerth}
use Rattle.exec_journal.specs.Attempts.{attempt, ended}
use Rattle.exec_journal.specs.Words.{last_line}
use Rattle.exec_journal.proofs.Begins.{attempts_in_order}
use Rattle.exec_journal.proofs.Lines.{last_line_own, lines_named}
use Rattle.exec_journal.proofs.Ruled.{by_bool}
use Rattle.worker_pool.specs.Rows as rows
use Rattle.worker_pool.specs.Stands.{seat_in}
use Rattle.worker_pool.proofs.Answered.{last_is}
use Rattle.request_table.specs.Rows.{line_room}
use Rattle.cancel_rules.specs.Stands.{row_in}
use Rattle.ready_order.specs.Stands.{state_in}
use Rattle.retry_rules.specs.declared.EndedCounts.{EndedCounts}
use Rattle.retry_rules.specs.Counts.{ended_of, count_of}
use Rattle.retry_rules.specs.Stands.{ended_count, ended_in}
use Rattle.core_state.specs.declared.state.State.{State}
use Rattle.core_state.specs.Choices.{Reads}
use Rattle.table_laws.specs.Moments.{JournalFacts}
use Rattle.core_tables.specs.Greetings.{greeting_in, greeting_of}
use Rattle.core_tables.specs.Last.{last_in, row_of}
use Rattle.core_tables.specs.Matches.{matches_in, match_in}
use Rattle.call_laws.specs.Matches.{recent}
use Rattle.core_laws.specs.Stands.{Stands}
use Rattle.retry_rules.proofs.Told.{ended_at}
use Rattle.core_tables.proofs.Lengths.{length_is, length_as}

module _ (p : Plan) (seats : ℕ) (s : State) (j : List Entry) (st : Stands p seats s j)
    (facts : JournalFacts p j) where
  pub seats_are : length s.pool.seats ≡ seats
  unfolding seat_in
  seats_are = length_is s.pool.seats seats (last_line j) st.pool.each_seat

  pub lasts_are : length s.last ≡ seats
  unfolding last_in
  lasts_are = length_is s.last seats (λ w. row_of j (last_line j w)) st.last

  pub matches_are : length s.matches ≡ seats
  unfolding matches_in
  matches_are = length_is s.matches seats (λ w. record {
    items =
        reverse (map (match_in j) (recent j w));
  }) st.matches

  pub greetings_are : length s.greetings ≡ seats
  unfolding greeting_in
  greetings_are = length_is s.greetings seats (λ w. greeting_of j (last_line j w)) st.greetings

  pub cancels_are : length s.cancels.lines ≡ line_room p
  cancels_are = length_is s.cancels.lines (line_room p) (row_in j) st.cancels.lines

  pub counts_are : length s.attempts.ended ≡ length p.actions
  counts_are = length_is s.attempts.ended (length p.actions) (ended_in j) st.attempts.each

  pub states_are : length s.ready ≡ length p.actions
  states_are = length_as (state_in p j) s.ready p.actions st.ready.each

  seat_none : (v : ℕ) → nat_lt v seats ≡ false → slice_get s.pool.seats v ≡ None
  unfolding seat_in
  seat_none v ne = st.pool.each_seat v ∙ ap (λ b. cond b (Some (last_line j v)) None) ne

  pub line_below : (v l : ℕ) → rows.last_of s.pool v ≡ Some l → l < length s.pool.lines
  line_below v l h =
      by_bool (nat_lt v seats) (λ _. l < length s.pool.lines)
      (λ yes. let lt = ltb-true v seats yes in
      let here = sym (last_is p seats s.pool j st.pool v lt) ∙ h in
      let own = subst (λ (o : Option ℕ). OfBerth j o v) here
      (last_line_own v j (lines_named p j st.lawful)) in
      let below = own.below in let count = st.pool.count in omega arith)
      (λ ne. absurd (let none = seat_none v ne in let k =
      sym (ap (λ (o : Option (Option ℕ)). unwrap_or o None) none) ∙ h in cc))

  count_below : (over : Bool) (n : ℕ) → cond over n (n - 1) ≤ n
  count_below true n = omega arith
  count_below false n = omega arith

  number_small : (a : ℕ) (b : Branch) → ended_of s.attempts a b ≤ 10
  unfolding ended_count
  number_small a b =
      by_bool (nat_lt a (length p.actions)) (λ _. ended_of s.attempts a b ≤ 10)
      (λ yes. let e = ended_at p j s.attempts a b st.attempts (ltb-true a (length p.actions) yes) in
      let c = count_below (ended j (attempt_of a b (attempt j a b))) (attempt j a b) in
      let limit = (attempts_in_order p j st.lawful).limited a b st.sound.least in
      let most = st.sound.most in omega arith)
      (λ ne. let none = st.attempts.each a ∙ ap (λ x. cond x (Some (ended_in j a)) None) ne in
      let e = ap (λ (o : Option EndedCounts). unwrap_or (option_map (count_of b) o) 0) none in
      omega arith)

  pub reads : (w : ℕ) → w < seats → Reads s w
  reads w lt =
      let own = seats_are in
      record {
        berth = omega arith;
        last = lasts_are ∙ sym own;
        matches = matches_are ∙ sym own;
        greetings = greetings_are ∙ sym own;
        lines = line_below;
        cancels = (let count = st.pool.count in let fit = facts.lines_fit in
            let room = cancels_are in omega arith);
        actions = counts_are ∙ sym states_are;
        numbers = λ a c. (let small = number_small a c in omega arith);
        few = (let few = st.few in omega arith);
      }
