-- All that the calls of the tables ask is there.
use Rattle.std.proofs.Common.{◌≡◌, ℕ, ◌+◌, ◌*◌, ◌/◌, ◌<◌, ◌≤◌, ◌^◌, ◌==◌, nat_lt, nat_le, Bool, true, false, ◌&&◌, ◌||◌, not, cond, List, [], ◌∷◌, ◌++◌, length, filter, map, reverse, Option, Some, None, option_map, ℤ, pos, negsuc, refl, ap, sym, subst, ◌∙◌, arith}
use Rattle.std.specs.Prelude.{slice_get}
use Rattle.std.specs.List.{find, list_any}
use Rattle.std.proofs.lemmas.Bool.{and_parts, eqb-true, lt-ltb, ltb-true}
use Rattle.std.proofs.lemmas.List.{length-map, length-reverse}
use Rattle.std.proofs.lemmas.Nat.{column_fits}
use Rattle.arrayvec.specs.ArrayVec.{ArrayVec}
use Rattle.std.proofs.lemmas.Option.{slice_get_within}
use Rattle.run_plan.specs.declared.plan.Branch.{Branch}
use Rattle.run_plan.specs.declared.plan.Kind.{Kind}
use Rattle.run_plan.specs.declared.plan.Kind.TheVariants as kind
use Rattle.run_plan.specs.declared.plan.Plan.{Plan}
use Rattle.exec_journal.specs.declared.attempt.Attempt.{Attempt}
use Rattle.exec_journal.specs.Entry.{Entry}
use Rattle.exec_journal.specs.declared.call.Call.{Call}
use Rattle.exec_journal.specs.declared.call.Call.TheVariants as call
use Rattle.exec_journal.specs.declared.call.Found.{Found}
use Rattle.exec_journal.specs.declared.reply.Reply.{Reply}
use Rattle.exec_journal.specs.declared.reply.Reply.TheVariants as reply
use Rattle.exec_journal.specs.Entries.{Request, attempt_of, same_branch}
use Rattle.exec_journal.specs.Facts.{begun}
use Rattle.list_lemmas.specs.Options.{or_else, and_more}
use Rattle.exec_journal.specs.Rules as r
use Rattle.run_plan.specs.Groups.{capacity, is_single}
use Rattle.exec_journal.specs.Words.{launch_of, last_line, last_work, order_of, sends, sent_on, pending, is_pending, stopped, has_halted, granted, grant_of, wrote, says_feed_fault, has_cancel}
use Rattle.exec_journal.proofs.Begins.{attempts_in_order, bound_is, launched_begun, same_branch_refl}
use Rattle.exec_journal.proofs.Ruled.{by_bool}
use Rattle.worker_pool.specs.Rows as rows
use Rattle.worker_pool.proofs.Answered.{pending_is, sent_fits}
use Rattle.request_table.specs.declared.Matching.TheVariants as found
use Rattle.request_table.specs.declared.RequestRow.{RequestRow}
use Rattle.request_table.specs.declared.LineRow.{LineRow}
use Rattle.request_table.specs.Entries.{EachOf}
use Rattle.request_table.specs.Rows as asks
use Rattle.request_table.specs.Rows.{line_room, is_open, waits_at, row_matching, matching_by, open_matching, was_sent_by}
use Rattle.request_table.specs.Stands.{request_row, natural, Numbered}
use Rattle.request_table.proofs.Lists.{reverse_front, each_filter}
use Rattle.request_table.proofs.Kept.{pending_natural, IsNatural}
use Rattle.request_table.proofs.Sent as ask-laws
use Rattle.cancel_rules.proofs.Followed.{count_is}
use Rattle.race_core.specs.declared.Won.{Won}
use Rattle.ready_order.specs.declared.ActionState.{ActionState}
use Rattle.ready_order.specs.Queue as queue
use Rattle.retry_rules.specs.Counts as counts
use Rattle.request_table.proofs.Lists.{update_length}
use Rattle.race_core.specs.Stands.{won_in, branch_in}
use Rattle.race_core.proofs.Kept.{winner_is}
use Rattle.core_state.specs.declared.choice.Choice.{Choice}
use Rattle.core_state.specs.declared.choice.Choice.TheVariants as choice
use Rattle.core_tables.specs.declared.berth_group.BerthGroup.{BerthGroup}
use Rattle.core_state.specs.declared.state.State.{State}
use Rattle.core_state.specs.Choices.{row_at, attempt_on}
use Rattle.call_laws.specs.Moments.{BranchOf}
use Rattle.core_tables.specs.Lanes.{lane_in, state_by}
use Rattle.core_tables.specs.Last.{fed_of, last_in, row_of}
use Rattle.core_state.specs.Machine.{CanEnd, CanEndOf, EndFits, CanCarry, CanCancel, CanSend, CanLaunch, CanClaim, carried_reply, launch_by, number_of, order_at, end_of_some, counts_after, states_after, states_ended, ends_yet, uses_branch, other_branch}
use Rattle.core_tables.specs.declared.matches.Match.{Match}
use Rattle.core_tables.specs.Matches.{matches_of, matches_on, matches_in, match_in}
use Rattle.call_laws.specs.Matches.{recent}
use Rattle.table_laws.specs.Moments.{LawfulMore}
use Rattle.core_state.specs.Reports.{CanEndSome, CanWrite, CanHear, CanHearBy, CanAnswer, CanEndPlaces, CanEndAll, attempt_in, is_pending_at, sent_in, end_all, fed_on, bound_on, places_counts, places_states, place_counts, place_states}
use Rattle.core_laws.specs.Stands.{Stands, MayCall}
use Rattle.core_state.specs.Steps.{CanLaunched, CanMake}
use Rattle.core_laws.proofs.Asked.{each_place, each_with, sends_begun}
use Rattle.request_table.proofs.Sent.{open_is}
use Rattle.core_laws.proofs.Asks.{launch_why, next_branch, send_why}
use Rattle.exec_journal.specs.Lawful.{Asked, Cancels, KillsBroken, NextOn, FromBound, FromQueue}
use Rattle.core_laws.proofs.Calls.{launch_is}
use Rattle.core_tables.proofs.Lengths.{length_is}
use Rattle.core_state.proofs.Places.{SameRoom, moved, same_room, chained, place_keeps}
use Rattle.core_laws.proofs.Read.{reads, seats_are, lasts_are, greetings_are, matches_are, cancels_are, counts_are, states_are, line_below}
use Rattle.core_laws.proofs.Rowed.{berth_of, lane_inside, sent_is}
use Rattle.exec_journal.specs.Seated.{group_on, line_kind}

module _ (p : Plan) (seats : ℕ) (s : State) (j : List Entry) (st : Stands p seats s j) (all : LawfulMore p j) where
  -- ---- the rooms of the tables

  lanes_are : length s.lanes ≡ 2 * seats
  unfolding lane_in
  lanes_are = length_is s.lanes (2 * seats) (λ n. state_by (last_work j n) (stopped j n)
      (has_halted j n)) st.lanes

  race_is : length s.race ≡ length p.actions
  race_is = length_is s.race (length p.actions) (won_in j) st.race.each

  unwanted_are : length s.cancels.unwanted ≡ length p.actions
  unwanted_are = length_is s.cancels.unwanted (length p.actions) (granted j) st.cancels.grants

  singles_are : length s.requests.singles ≡ length p.actions
  singles_are = ap length st.requests.kinds ∙ length-map p.actions (asks.singles_of p)

  fits : (t : Attempt) → t.action < length p.actions → t.number ≤ p.limit → CanEnd s t
  fits t known few =
      let a = race_is in
      let b = counts_are p seats s j st all.facts in
      let c = states_are p seats s j st all.facts in
      let d = st.attempts.limit in
      record {
        race_known = omega arith;
        counts_known = omega arith;
        states_known = omega arith;
        limited = omega arith;
      }

  in_plan : (t : Attempt) → begun j t ≡ true → t.action < length p.actions
  in_plan t h = let u = all.more.used t h in slice_get_within p.actions t.action u.action u.place

  limited : (t : Attempt) → begun j t ≡ true → t.number ≤ p.limit
  limited t h =
      let order = attempts_in_order p j st.lawful in
      let a = (order.numbered t h).1 in
      let b = order.limited t.action t.branch st.sound.least in
      omega arith

  can_end : (t : Attempt) → begun j t ≡ true → CanEnd s t
  can_end t h = fits t (in_plan t h) (limited t h)

  record Inside (l : ℕ) : Type 0 where
    pool : l < length s.pool.lines
    table : l < line_room p
    requests : l < length s.requests.lines
    cancels : l < length s.cancels.lines

  inside : (w l : ℕ) → last_line j w ≡ Some l → Inside l
  inside w l here =
      let below = (berth_of p seats s j w l st here).below in
      let count = st.pool.count in
      let fit = all.facts.lines_fit in
      let table : l < line_room p = omega arith in
      let a = st.requests.room in
      let b = cancels_are p seats s j st all.facts in
      record { pool = omega arith; table = table; requests = omega arith; cancels = omega arith }

  in_last : (w : ℕ) → w < seats → w < length s.last
  in_last w lt = let a = lasts_are p seats s j st all.facts in omega arith

  in_greetings : (w : ℕ) → w < seats → w < length s.greetings
  in_greetings w lt = let a = greetings_are p seats s j st all.facts in omega arith

  waiting : (w l : ℕ) → last_line j w ≡ Some l → rows.pending_of s.pool l ≡ length (pending j l)
  waiting w l here = let own = (berth_of p seats s j w l st here).owner in
      pending_is p seats s.pool j st.pool l own.0 own.1 own.2

  module _ (lane : ℕ) where
    in_lanes : (c : Call) → MayCall p seats j lane c → lane < length s.lanes
    in_lanes c may = let a = lanes_are in let b = ltb-true lane (2 * seats)
        (lane_inside seats lane may.berth) in omega arith

    -- ---- Launched

    launched_can : (l : ℕ) (c : Call) → MayCall p seats j lane c → last_line j (lane / 2) ≡ Some l
        → ((m : ℕ) (t : Attempt) → launch_of j l ≡ Some (m, t) → launch_by s lane ≡ Some t)
        → CanLaunched s lane l
    launched_can l c may here newest =
        let own = (berth_of p seats s j (lane / 2) l st here).owner in
        record {
          lane_known = in_lanes c may;
          line = (inside (lane / 2) l here).pool;
          ends = subst (CanEndOf s) (sym (newest own.0 own.1 own.2))
              (can_end own.1 (launched_begun j l own.0 own.1 own.2));
        }

    -- ---- Wrote

    none_open : (t : Attempt) (l : ℕ) → l < line_room p → is_pending_at s l t ≡ true
        → 0 < length (pending j l)
    none_open t l lt h = by (pending j l) (open_is p s.requests j l st.requests lt)
      where
        any_open : (f : RequestRow → Bool) (xs : List RequestRow)
            → list_any (λ x. x.pending && f x) xs ≡ true → 0 < length (filter is_open xs)
        any_open f [] g = absurd (cc)
        any_open f (x ∷ xs) g = by_bool x.pending (λ b. ((b && f x) || list_any
            (λ y. y.pending && f y) xs) ≡ true → 0 < length (cond b (x ∷ filter is_open xs)
            (filter is_open xs))) (λ _ _. omega arith) (λ _ k. any_open f xs k) g

        by : (rs : List Request) → filter is_open (asks.places_of s.requests l) ≡ reverse
            (map (request_row j) rs) → 0 < length rs
        by [] e = absurd (let n = any_open (λ x. (x.action == t.action) && (x.attempt == t.number))
            (asks.places_of s.requests l) h in let k = ap length e in omega arith)
        by (r ∷ rs) e = omega arith

    wrote_can : (l : ℕ) (c : Call) → MayCall p seats j lane c → last_line j (lane / 2) ≡ Some l
        → ((q : Request) → order_of j lane ≡ Some q → begun j q.attempt ≡ true)
        → CanWrite s lane (lane / 2) l (sent_in (order_at s lane))
    wrote_can l c may here start =
        let at = inside (lane / 2) l here in
        record {
          lane_known = in_lanes c may;
          line = at.pool;
          last = in_last (lane / 2) (may.berth);
          requests = at.requests;
          cancels = at.cancels;
          pending = λ u is h. (let n = none_open u l at.table h in
              let e = waiting (lane / 2) l here in omega arith);
          ends = subst (CanEndSome s) (sym (sent_is p seats s j lane c st may))
              (by (order_of j lane) refl);
        }
      where
        by : (o : Option Request) → order_of j lane ≡ o → CanEndSome s
            (option_map (λ q. q.attempt) o)
        by None h = tt
        by (Some q) h = can_end q.attempt (start q h)

    -- ---- Claim

    claim_can : (a n : ℕ) (b : Branch) → begun j (attempt_of a b n) ≡ true
        → ((x : Attempt × Found) → grant_of j a ≡ Some x → same_branch x.0.branch b ≡ false)
        → CanClaim s (attempt_of a b n)
    claim_can a n b start apart =
        let u = unwanted_are in
        let k = in_plan (attempt_of a b n) start in
        let x = seats_are p seats s j st all.facts in
        let y = lasts_are p seats s j st all.facts in
        let few = st.few in
        record {
          ends = can_end (attempt_of a b n) start;
          cancels = omega arith;
          other = λ h. other_by (grant_of j a) refl (sym (winner_is p s.race j a st.race k) ∙ h);
          seats = omega arith;
          few = omega arith;
          lines = line_below p seats s j st all.facts;
        }
      where
        other_by : (o : Option (Attempt × Found)) → grant_of j a ≡ o → branch_in o ≡ Some b → ⊥
        other_by None at h = cc
        other_by (Some x) at h = (let same : x.0.branch ≡ b = cc in let off = apart x at in
            let on : same_branch x.0.branch b ≡ true = ap (same_branch x.0.branch) (sym same)
            ∙ same_branch_refl x.0.branch in cc)

    -- ---- Answer

    AllPlaces : (RequestRow → Type 0) → List RequestRow → Type 0
    AllPlaces P [] = Unit {0}
    AllPlaces P (x ∷ xs) = P x × AllPlaces P xs

    places_append : (P : RequestRow → Type 0) (xs ys : List RequestRow) → AllPlaces P xs
        → AllPlaces P ys → AllPlaces P (xs ++ ys)
    unfolding AllPlaces
    places_append P [] ys a b = b
    places_append P (x ∷ xs) ys a b = (a.0, places_append P xs ys a.1 b)

    places_of_requests : (P : RequestRow → Type 0) (rs : List Request)
        → EachOf (λ q. P (request_row j q)) rs → AllPlaces P (reverse (map (request_row j) rs))
    unfolding AllPlaces
    places_of_requests P [] h = tt
    places_of_requests P (q ∷ rs) h = subst (AllPlaces P)
        (sym (reverse_front (request_row j q) (map (request_row j) rs)))
        (places_append P (reverse (map (request_row j) rs)) (request_row j q ∷ [])
        (places_of_requests P rs h.1) (h.0, tt))

    -- of all open places of a row
    open_places : (P : RequestRow → Type 0) (xs : List RequestRow) → AllPlaces P (filter is_open xs)
        → AllPlaces (λ x. x.pending ≡ true → P x) xs
    unfolding AllPlaces
    open_places P [] h = tt
    open_places P (x ∷ xs) h = by_bool x.pending (λ b. AllPlaces P
        (cond b (x ∷ filter is_open xs) (filter is_open xs))
        → (b ≡ true → P x) × AllPlaces (λ y. y.pending ≡ true → P y) xs)
        (λ _ k. (λ _. k.0, open_places P xs k.1)) (λ _ k. (λ z. absurd (cc), open_places P xs k)) h

    row_places : (P : RequestRow → Type 0) (l : ℕ) → l < line_room p
        → EachOf (λ q. P (request_row j q)) (pending j l) → AllPlaces
        (λ x. x.pending ≡ true → P x) (asks.places_of s.requests l)
    row_places P l lt h = open_places P (asks.places_of s.requests l)
        (subst (AllPlaces P) (sym (open_is p s.requests j l st.requests lt))
        (places_of_requests P (pending j l) h))

    found_place : (P : RequestRow → Type 0) (n : ℕ) (xs : List RequestRow) (x : RequestRow)
        → AllPlaces (λ y. y.pending ≡ true → P y) xs → find (waits_at n) xs ≡ Some x
        → P x × (x.number ≡ n)
    unfolding AllPlaces
    found_place P n [] x h e = absurd (cc)
    found_place P n (y ∷ xs) x h e = by_bool (waits_at n y)
        (λ b. waits_at n y ≡ b → cond b (Some y) (find (waits_at n) xs) ≡ Some x
        → P x × (x.number ≡ n))
        (λ _ is k. let same : y ≡ x = cc in let parts = and_parts y.pending _ is in
        subst (λ z. P z × (z.number ≡ n)) same (h.0 parts.0, eqb-true y.number n parts.1))
        (λ _ _ k. found_place P n xs x h.1 k) refl e

    -- what is known of the place of a pending request
    record Known (l : ℕ) (x : RequestRow) : Type 0 where
      action : x.action < length p.actions
      attempt : x.attempt ≤ p.limit
      number : x.number ≤ 2 * length p.actions * p.limit
      some : 0 < length (pending j l)

    numbered_most : (single : Bool) (rs : List Request) → Numbered single rs
        → EachOf (λ q. natural q.number ≤ length rs) rs
    numbered_most single [] h = tt
    numbered_most single (q ∷ rs) h = (
      most single h.0,
      each_with
          (λ y. natural y.number ≤ length rs) (λ y. natural y.number ≤ length (q ∷ rs)) rs
          (λ y k. omega arith) (numbered_most single rs h.1),
    )
      where
        most : (b : Bool) → q.number ≡ cond b (pos 0) (pos (length rs + 1))
            → natural q.number ≤ length (q ∷ rs)
        most true e = let z : natural q.number ≡ 0 = ap natural e in omega arith
        most false e = let z : natural q.number ≡ length rs + 1 = ap natural e in omega arith

    some_each : (l : ℕ) (rs : List Request) → ((q : Request) → begun j q.attempt ≡ true
        → natural q.number ≤ length (sends j l) → 0 < length rs → Known l (request_row j q))
        → EachOf (λ q. begun j q.attempt ≡ true) rs → EachOf
        (λ q. natural q.number ≤ length (sends j l)) rs → EachOf (λ q. Known l (request_row j q)) rs
    some_each l [] f a b = tt
    some_each l (q ∷ rs) f a b = (
      f q a.0 b.0 (omega arith),
      some_each l rs
          (λ x y z g. f x y z (omega arith)) a.1 b.1,
    )

    known_pending : (l : ℕ) → EachOf (λ q. Known l (request_row j q)) (pending j l)
    unfolding pending
    known_pending l =
        some_each l (filter (is_pending j) (sends j l)) (λ q start few some. record {
          action =
              in_plan q.attempt start;
          attempt = limited q.attempt start;
          number = (let fit = all.more.sends_fit l in omega arith);
          some = some;
        })
        (each_filter (λ q. begun j q.attempt ≡ true) (is_pending j) (sends j l) (sends_begun j l))
        (each_filter (λ q. natural q.number ≤ length (sends j l)) (is_pending j) (sends j l)
        (numbered_most (st.requests.numbered l).single (sends j l)
        (st.requests.numbered l).numbers))

    small : (n : ℕ) → n ≤ 2 * length p.actions * p.limit + 1 → n < 2 ^ 31
    small n few =
        let most = st.sound.most in
        let actions = st.sound.actions in
        let c = column_fits (2 * length p.actions) p.limit 8192 11 (omega arith) (omega arith) in
        omega arith

    row_length : (v : ℕ) → v < seats → length (matches_of s.matches v) ≡ length (recent j v)
    unfolding matches_in
    row_length v lt =
        let within : nat_lt v seats ≡ true = lt-ltb v seats lt in
        ap (λ (o : Option (ArrayVec Match)). length (matches_on o))
        (st.matches v ∙ ap (λ b. cond b (Some (record {
          items =
              reverse (map (match_in j) (recent j v));
        })) None) within)
        ∙ length-reverse (map (match_in j) (recent j v)) ∙ length-map (recent j v) (match_in j)

    hear_can : (w l : ℕ) (n : ℕ) (t : Attempt) → w < seats → last_line j w ≡ Some l
        → t.action < length p.actions → n ≤ 2 * length p.actions * p.limit
        → 0 < length (pending j l) → CanHear s w l (pos n) t
    hear_can w l n t lt here known few some =
        let at = inside w l here in
        let race = race_is in
        let matches = matches_are p seats s j st all.facts in
        let fit = all.more.matches_fit w l here in
        let wait = waiting w l here in
        record {
          natural = n;
          is = refl;
          small = small n (omega arith);
          line = at.pool;
          pending = omega arith;
          cancels = at.cancels;
          race = omega arith;
          matches = omega arith;
          room = subst (λ m. m < 8) (sym (row_length w lt)) (omega arith);
        }

    answer_can : (c : Call) (seat : BerthGroup) (l : ℕ) (n : ℤ) → MayCall p seats j lane c
        → last_line j (lane / 2) ≡ Some l → CanAnswer s (lane / 2) seat l n
    answer_can c seat l n may here =
        let at = inside (lane / 2) l here in
        record {
          line = at.pool;
          last = in_last (lane / 2) (may.berth);
          greetings = in_greetings (lane / 2) (may.berth);
          requests = at.requests;
          found = by n;
        }
      where
        place_by : (m : ℕ) (y : RequestRow) → Known l y × (y.number ≡ m) → (b : Bool)
            → CanHearBy s (lane / 2) seat l (pos m) (cond b (found.Cancelled y.action y.attempt)
            (found.Pending y.action y.attempt))
        place_by m y h true = (let e = h.1 in let few = h.0.number in
            hear_can (lane / 2) l m (attempt_in s.plan seat y.action y.attempt)
            (may.berth) here h.0.action (omega arith) h.0.some)
        place_by m y h false = (let e = h.1 in let few = h.0.number in
            hear_can (lane / 2) l m (attempt_in s.plan seat y.action y.attempt)
            (may.berth) here h.0.action (omega arith) h.0.some)

        none_by : (m : ℕ) (b : Bool) → CanHearBy s (lane / 2) seat l (pos m)
            (cond b found.Closed found.Never)
        none_by m true = tt
        none_by m false = tt

        found_by : (m : ℕ) (last : Option ℕ) (xs : List RequestRow)
            → AllPlaces (λ x. x.pending ≡ true → Known l x) xs → (o : Option RequestRow)
            → find (waits_at m) xs ≡ o → CanHearBy s (lane / 2) seat l (pos m)
            (matching_by last m o)
        found_by m last xs h (Some y) e = place_by m y (found_place (Known l) m xs y h e)
            y.cancelled
        found_by m last xs h None e = none_by m (was_sent_by last m)

        line_by : (m : ℕ) (o : Option LineRow) → AllPlaces
            (λ x. x.pending ≡ true → Known l x) (asks.places_on o)
            → CanHearBy s (lane / 2) seat l (pos m) (asks.line_matching (pos m) o)
        line_by m None h = tt
        line_by m (Some x) h = found_by m x.last x.places.items h
            (find (waits_at m) x.places.items) refl

        by : (z : ℤ) → CanHearBy s (lane / 2) seat l z (asks.matching_of s.requests l z)
        by (pos m) = line_by m (slice_get s.requests.lines l)
            (row_places (Known l) l (inside (lane / 2) l here).table (known_pending l))
        by (negsuc m) = tt

    -- ---- Ended

    all_fit : (seat : BerthGroup) (l : ℕ) (xs : List RequestRow)
        → AllPlaces (λ x. x.pending ≡ true → Known l x) xs
        → CanEndPlaces s.plan s.race s.attempts s.ready seat xs
    unfolding AllPlaces
    all_fit seat l [] h = tt
    all_fit seat l (x ∷ xs) h = (
      λ yet. (let k = h.0 yet in
          fits (attempt_in s.plan seat x.action x.attempt) k.action k.attempt),
      all_fit seat l xs h.1,
    )

    counts_by : (f : counts.Facts) (t : Attempt) (b : Bool)
        → (length (cond b (counts.with_end f t.action t.branch) f).ended ≡ length f.ended)
        × ((cond b (counts.with_end f t.action t.branch) f).limit ≡ f.limit)
    counts_by f t true = (update_length (counts.one_more t.branch) f.ended t.action, refl)
    counts_by f t false = (refl, refl)

    settled_by : (xs : List ActionState) (a : ℕ) (b : Bool)
        → length (cond b (queue.with_settled xs a false) xs) ≡ length xs
    settled_by xs a true = update_length (queue.settled_state false) xs a
    settled_by xs a false = refl

    states_by : (g : counts.Facts) (xs : List ActionState) (t : Attempt) (again free : Bool)
        → length (cond again (queue.with_again xs t.action t.branch)
        (cond free (queue.with_settled xs t.action false) xs)) ≡ length xs
    states_by g xs t true free = update_length (queue.state_with t.branch true) xs t.action
    states_by g xs t false free = settled_by xs t.action free

    now_by : (q : Plan) (f : counts.Facts) (xs : List ActionState) (t : Attempt) (b : Bool)
        → length (cond b (states_ended q f xs t) xs) ≡ length xs
    now_by q f xs t true = states_by f xs t (nat_lt (counts.ended_of f t.action t.branch + 1)
        f.limit) (not (uses_branch q t.action (other_branch t.branch))
        || nat_le q.limit (counts.ended_of (counts.with_end f t.action t.branch) t.action
        (other_branch t.branch)))
    now_by q f xs t false = refl

    after_some : (t : State) (o : Option Attempt) → SameRoom s.attempts t.attempts s.ready t.ready
        → SameRoom s.attempts (end_of_some t o).attempts s.ready (end_of_some t o).ready
    after_some t None same = same
    after_some t (Some u) same = chained s.attempts t.attempts
        (counts_after t.race t.attempts u) s.ready t.ready
        (states_after t.plan t.race t.attempts t.ready u) same
        (record {
          counts_too = (counts_by t.attempts u (ends_yet t.race t.attempts u)).0;
          limit_too = (counts_by t.attempts u (ends_yet t.race t.attempts u)).1;
          states_too = now_by t.plan t.attempts t.ready u (ends_yet t.race t.attempts u);
        })

    race_after : (t : State) (o : Option Attempt) → (end_of_some t o).race ≡ t.race
    race_after t None = refl
    race_after t (Some u) = refl

    places_keep : (q : Plan) (race : List Won) (seat : BerthGroup) (xs : List RequestRow)
        (f : counts.Facts) (states : List ActionState) → SameRoom f
        (places_counts q race f seat xs) states (places_states q race f states seat xs)
    places_keep q race seat [] f states = same_room f states
    places_keep q race seat (x ∷ xs) f states =
        chained f (place_counts q race f seat x) (places_counts q race
        (place_counts q race f seat x) seat xs) states (place_states q race f states seat x)
        (places_states q race (place_counts q race f seat x)
        (place_states q race f states seat x) seat xs)
        (place_keeps q race f states seat x) (places_keep q race seat xs
        (place_counts q race f seat x) (place_states q race f states seat x))

    some_can : (t : State) (o : Option Attempt) → SameRoom s.attempts t.attempts s.ready t.ready
        → t.race ≡ s.race → ((u : Attempt) → o ≡ Some u → begun j u ≡ true) → CanEndSome t o
    some_can t None same race start = tt
    some_can t (Some u) same race start = subst (λ x. EndFits x t.attempts t.ready u) (sym race)
        (moved s.race s.attempts t.attempts s.ready t.ready u same (can_end u (start u refl)))

    ended_can : (c : Call) (seat : BerthGroup) (l : ℕ) → MayCall p seats j lane c
        → last_line j (lane / 2) ≡ Some l → CanEndAll s (lane / 2) seat l
    unfolding last_in fed_of
    ended_can c seat l may here =
        let at = inside (lane / 2) l here in
        let lt = may.berth in
        record {
          line = at.pool;
          last = in_last (lane / 2) lt;
          requests = at.requests;
          cancels = at.cancels;
          places = all_fit seat l (asks.places_of s.requests l)
              (row_places (Known l) l at.table (known_pending l));
          fed = some_can (end_all s seat (asks.places_of s.requests l))
              (fed_on (slice_get s.last (lane / 2))) same refl fed_start;
          bound = some_can (end_of_some (end_all s seat (asks.places_of s.requests l))
              (fed_on (slice_get s.last (lane / 2)))) (bound_on s (lane / 2) l)
              (after_some (end_all s seat (asks.places_of s.requests l))
              (fed_on (slice_get s.last (lane / 2))) same) (race_after
              (end_all s seat (asks.places_of s.requests l)) (fed_on (slice_get s.last (lane / 2))))
              bound_start;
        }
      where
        row : slice_get s.last (lane / 2) ≡ Some (row_of j (Some l))
        row =
            let within : nat_lt (lane / 2) seats ≡ true =
            lt-ltb (lane / 2) seats (may.berth) in
            st.last (lane / 2) ∙ ap (λ b. cond b (Some (row_of j (last_line j (lane / 2)))) None)
            within ∙ ap (λ o. Some (row_of j o)) here

        same : SameRoom s.attempts (places_counts s.plan s.race s.attempts seat
            (asks.places_of s.requests l)) s.ready (places_states s.plan s.race s.attempts s.ready
            seat (asks.places_of s.requests l))
        same = places_keep s.plan s.race seat (asks.places_of s.requests l) s.attempts s.ready

        find_begun : (f : Request → Bool) (rs : List Request)
            → EachOf (λ q. begun j q.attempt ≡ true) rs → (u : Attempt)
            → option_map (λ q. q.attempt) (find f rs) ≡ Some u → begun j u ≡ true
        find_begun f [] h u e = absurd (cc)
        find_begun f (q ∷ rs) h u e = by_bool (f q) (λ b. option_map
            (λ x. x.attempt) (cond b (Some q) (find f rs)) ≡ Some u → begun j u ≡ true)
            (λ _ k. let z : q.attempt ≡ u = cc in subst (λ v. begun j v ≡ true) z h.0)
            (λ _ k. find_begun f rs h.1 u k) e

        fed_start : (u : Attempt) → fed_on (slice_get s.last (lane / 2)) ≡ Some u → begun j u ≡ true
        fed_start u e = find_begun (λ q. says_feed_fault (wrote j q.attempt)) (sends j l)
            (sends_begun j l) u (sym (ap fed_on row) ∙ e)

        bound_start : (u : Attempt) → bound_on s (lane / 2) l ≡ Some u → begun j u ≡ true
        bound_start u e =
            let own = (berth_of p seats s j (lane / 2) l st here).owner in
            by_bool ((row_at s l).bound) (λ b. cond b (attempt_on (slice_get s.last (lane / 2)))
            None ≡ Some u → begun j u ≡ true)
            (λ _ k. let z : Some own.1 ≡ Some u = sym (ap attempt_on row
            ∙ ap (option_map (λ x. x.1)) own.2) ∙ k in let same_one : own.1 ≡ u = cc in
            subst (λ v. begun j v ≡ true) same_one (launched_begun j l own.0 own.1 own.2))
            (λ _ k. absurd (cc)) e

    -- ---- Ask

    each_oldest : (P : Request → Type 0) (rs : List Request) (q : Request) → EachOf P rs
        → r.oldest rs ≡ Some q → P q
    each_oldest P [] q h e = absurd (cc)
    each_oldest P (x ∷ rs) q h e = older (r.oldest rs) (λ k. each_oldest P rs q h.1 k) e
      where
        older : (o : Option Request) → (o ≡ Some q → P q) → or_else o (Some x) ≡ Some q → P q
        older None f k = (let z : x ≡ q = cc in subst P z h.0)
        older (Some y) f k = f k

    each_left : (P : Request → Type 0) (f : Request → Bool) (rs : List Request) → EachOf P rs
        → EachOf P (filter f rs)
    each_left P f rs h = each_filter P f rs h

    -- a Cancel's request
    record Cancelled_one (l : ℕ) (n : ℤ) : Type 0 where
      line : ℕ
      here : last_line j (lane / 2) ≡ Some line
      same : l ≡ line
      known : n ≡ pos (natural n)
      few : natural n ≤ 2 * length p.actions * p.limit

    on_line : (l : ℕ) (y : Reply) (q : Request) → sent_on l y ≡ Some q → q.line ≡ l
    on_line l (reply.Send k n a b t) q h =
        by_bool (k == l) (λ x. (k == l) ≡ x → cond x (Some
        (record { line = k; number = n; attempt = attempt_of a b t })) None ≡ Some q
        → q.line ≡ l)
        (λ _ is g. let e : (record { line = k; number = n; attempt = attempt_of a b t }) ≡ q = cc in
        sym (ap (λ (x : Request). x.line) e) ∙ eqb-true k l is) (λ _ _ g. absurd (cc)) refl h
    on_line l _ q h = absurd (cc)

    sends_line : (k : List Entry) (l : ℕ) → EachOf (λ q. q.line ≡ l) (sends k l)
    unfolding sends
    sends_line [] l = tt
    sends_line (e ∷ k) l = more_line e k l (sent_on l e.reply) refl (sends_line k l)
      where
        more_line : (d : Entry) (i : List Entry) (m : ℕ) (o : Option Request)
            → sent_on m d.reply ≡ o → EachOf (λ q. q.line ≡ m) (sends i m)
            → EachOf (λ q. q.line ≡ m) (and_more o (sends i m))
        more_line d i m None h rest = rest
        more_line d i m (Some q) h rest = (on_line m d.reply q h, rest)

    abbrev cancel_in : Reply → Option (ℕ × ℤ)
    cancel_in (reply.Cancel l n) = Some (l, n)
    cancel_in _ = None

    record Sent_on (l : ℕ) (q : Request) : Type 0 where
      line : q.line ≡ l
      natural_one : IsNatural q
      few : natural q.number ≤ length (sends j l)

    sent_each : (l : ℕ) (rs : List Request) → EachOf (λ q. q.line ≡ l) rs → EachOf IsNatural rs
        → EachOf (λ q. natural q.number ≤ length (sends j l)) rs → EachOf (Sent_on l) rs
    sent_each l [] a b c = tt
    sent_each l (q ∷ rs) a b c = (
      record {
        line = a.0;
        natural_one = b.0;
        few = c.0;
      },
      sent_each l rs a.1 b.1 c.1,
    )

    sent_pending : (l : ℕ) → EachOf (Sent_on l) (pending j l)
    unfolding pending
    sent_pending l =
        sent_each l (filter (is_pending j) (sends j l)) (each_filter
        (λ q. q.line ≡ l) (is_pending j) (sends j l) (sends_line j l))
        (pending_natural j l (st.requests.numbered l))
        (each_filter (λ q. natural q.number ≤ length (sends j l)) (is_pending j) (sends j l)
        (numbered_most (st.requests.numbered l).single (sends j l)
        (st.requests.numbered l).numbers))

    cancel_why : (y : Reply) (l : ℕ) (n : ℤ) → Asked p j (lane / 2) y
        → cancel_in y ≡ Some (l, n) → Cancelled_one l n
    cancel_why y l n (Cancels m q here alive cancels first none) h =
        let at = each_oldest (Sent_on m) (filter (λ x. r.is_unwanted p j x && not (has_cancel j x))
        (pending j m)) q (each_left (Sent_on m) (λ x. r.is_unwanted p j x
        && not (has_cancel j x)) (pending j m) (sent_pending m)) first in
        let fit : natural q.number ≤ 2 * length p.actions * p.limit =
        (let a = at.few in let b = all.more.sends_fit m in omega arith) in
        let both : (q.line, q.number) ≡ (l, n) = cc in
        let line : q.line ≡ l = ap (λ (x : ℕ × ℤ). x.0) both in
        let number : q.number ≡ n = ap (λ (x : ℕ × ℤ). x.1) both in
        record {
          line = m;
          here = here;
          same = sym line ∙ at.line;
          known = subst (λ z. z ≡ pos (natural z)) number at.natural_one;
          few = subst (λ z. natural z ≤ 2 * length p.actions * p.limit) number fit;
        }
    cancel_why y l n (KillsBroken m z here run broken over) h = absurd (cc)
    cancel_why y l n _ h = absurd (cc)

    -- the next attempt of a Send to the line
    record Next_one (l : ℕ) (t : Attempt) : Type 0 where
      known : t.action < length p.actions
      group : BranchOf p t (group_on p j l)

    module _ (may : MayCall p seats j lane call.Ask) where
      lt : lane / 2 < seats
      lt = may.berth

      next_one : (l : ℕ) (t : Attempt) → last_line j (lane / 2) ≡ Some l → NextOn p j l t
          → Next_one l t
      next_one l t here (FromBound was) = (let b = bound_is p j l t was in
          record {
            known = in_plan t (launched_begun j l b.lane t b.launched);
            group = all.facts.bound_group l t was;
          })
      next_one l t here (FromQueue none room next) = record {
        known = slice_get_within p.actions t.action next.action next.place;
        group = next_branch p seats s j (lane / 2) l st all.more here t next;
      }

      capacity_most : (k : Kind) → capacity k ≤ 8
      capacity_most kind.Single = omega arith
      capacity_most _ = omega arith

      number_most : (b : Bool) (n : ℕ) → natural (cond b (pos 0) (pos (n + 1))) ≤ n + 1
      number_most true n = omega arith
      number_most false n = omega arith

      send_can : (l : ℕ) (t : Attempt) → Asked p j (lane / 2)
          (reply.Send l (number_of s l t) t.action t.branch t.number) → CanSend s (lane / 2) l t
      send_can l t is =
          let why_it = send_why p j (lane / 2)
          (reply.Send l (number_of s l t) t.action t.branch t.number)
          (record { line = l; number = number_of s l t; attempt = t }) is refl in
          let here = why_it.here in
          let next = next_one l t here why_it.next in
          let at = inside (lane / 2) l here in
          let room = (all.entries (record {
            lane = lane;
            call = call.Ask;
            reply = reply.Send l (number_of s l t) t.action t.branch t.number;
          })
          (record { scripted = may.scripted; told = is; kept = refl })).send_room
          (record { line = l; number = number_of s l t; attempt = t }) refl in
          let owner = (berth_of p seats s j (lane / 2) l st here).owner in
          let within = lt in
          let matches = matches_are p seats s j st all.facts in
          let ready = states_are p seats s j st all.facts in
          let singles = singles_are in
          let known = next.known in
          let place = room.place in
          let left = room.left in
          let most = capacity_most (line_kind p j l) in
          let waits = count_is p s.cancels j l st.cancels at.table in
          record {
            berth = omega arith;
            line = at.pool;
            place = sent_fits p seats s.pool j st.pool l owner.0 owner.1 owner.2 place;
            requests = at.requests;
            planned = omega arith;
            free = subst (λ n. n < asks.capacity_of (asks.single_of s.requests t.action t.branch))
                (sym (ask-laws.places_are p s.requests j l st.requests at.table))
                (subst (λ n. length (pending j l) < n) (sym (ask-laws.capacity_is p s.requests j
                (group_on p j l) t.action t.branch st.requests next.group)) place);
            fewer = ask-laws.fewer_is p s.requests j l st.requests at.table (omega arith);
            cancels = at.cancels;
            row = subst (λ n. n < 8) (sym waits) (omega arith);
            known = omega arith;
            small = small (asks.next_number s.requests l t.action t.branch)
                (number_few l t here at.table next.group left);
          }
        where
          number_few : (m : ℕ) (u : Attempt) → last_line j (lane / 2) ≡ Some m → m < line_room p
              → BranchOf p u (group_on p j m) → length
              (sends j m) < 2 * length p.actions * p.limit → asks.next_number s.requests m u.action
              u.branch ≤ 2 * length p.actions * p.limit + 1
          number_few m u here table group left =
              let e = ap natural (ask-laws.next_number_is p s.requests j (group_on p j m) m u.action
              u.branch st.requests table group (all.facts.numbered (lane / 2) m here)) in
              let c = number_most (is_single (line_kind p j m)) (length (sends j m)) in
              omega arith

      launch_can : (t : Attempt) → Asked p j (lane / 2)
          (reply.Launch (length s.pool.lines) t.action t.branch t.number) → CanLaunch s (lane / 2) t
      launch_can t is =
          let next = (launch_why p j (lane / 2)
          (reply.Launch (length s.pool.lines) t.action t.branch t.number)
          (length s.pool.lines, t) is refl).next in
          let known = slice_get_within p.actions t.action next.action next.place in
          let room = (all.entries (record {
            lane = lane;
            call = call.Ask;
            reply = reply.Launch (length s.pool.lines) t.action t.branch t.number;
          })
          (record { scripted = may.scripted; told = is; kept = refl })).launch_room
          (length s.pool.lines, t) refl in
          let seats_too = seats_are p seats s j st all.facts in
          let ready = states_are p seats s j st all.facts in
          let count = st.pool.count in
          let whole = st.pool.room in
          let within = lt in
          record {
            berth = omega arith;
            last = in_last (lane / 2) lt;
            room = omega arith;
            known = omega arith;
          }

      cancel_can : (l : ℕ) (n : ℤ) → Asked p j (lane / 2) (reply.Cancel l n) → CanCancel s l n
      cancel_can l n is =
          let one = cancel_why (reply.Cancel l n) l n is refl in
          let at = inside (lane / 2) l (one.here ∙ ap Some (sym one.same)) in
          let few = one.few in
          record {
            number = natural n;
            is = one.known;
            small = small (natural n) (omega arith);
            requests = at.requests;
            cancels = at.cancels;
          }

      carry_can : (x : Choice) → Asked p j (lane / 2) (carried_reply s (lane / 2) x)
          → CanCarry s (lane / 2) x
      carry_can (choice.Cancel l n) is = cancel_can l n is
      carry_can (choice.Send l t) is = send_can l t is
      carry_can (choice.Launch t) is = launch_can t is
      carry_can choice.Stop is = tt
      carry_can (choice.Kill l y) is = tt
      carry_can (choice.Gather m) is = tt
      carry_can choice.Idle is = tt

    -- ---- each call

    make_can : (seat : BerthGroup) (c : Call) → MayCall p seats j lane c → CanMake s lane seat c
    make_can seat call.Ask may = tt
    make_can seat (call.Launched l how) may =
        let calls = all.calls lane (call.Launched l how) may.scripted in
        launched_can l (call.Launched l how) may (calls.names l refl)
        (λ m t h. launch_is p seats s j lane (call.Launched l how) st may
        ∙ calls.launches l m how t refl h)
    make_can seat (call.Wrote l n how) may =
        let calls = all.calls lane (call.Wrote l n how) may.scripted in
        wrote_can l (call.Wrote l n how) may (calls.names l refl)
        (λ q h. (let one = calls.writes l n how q refl h in
        each_place (λ x. begun j x.attempt ≡ true) (sends j l) one.place q
        (sends_begun j l) one.there))
    make_can seat (call.Look x) may = tt
    make_can seat (call.Claim a b n f) may = (let one =
        (all.calls lane (call.Claim a b n f) may.scripted).claims a n b f refl in
        claim_can a n b one.start one.apart)
    make_can seat (call.Committed a b how) may =
        let within = (all.calls lane (call.Committed a b how) may.scripted).commits_within a b how refl in
        let race = race_is in
        let ready = states_are p seats s j st all.facts in
        record { race = omega arith; ready = omega arith }
    make_can seat (call.Killed l) may = (inside (lane / 2) l
        ((all.calls lane (call.Killed l) may.scripted).names l refl)).pool
    make_can seat call.Take may = reads p seats s j st all.facts (lane / 2)
        (may.berth)
    make_can seat (call.Answer l x) may = answer_can (call.Answer l x) seat l x.number may
        ((all.calls lane (call.Answer l x) may.scripted).names l refl)
    make_can seat (call.Ended l how) may = ended_can (call.Ended l how) seat l may
        ((all.calls lane (call.Ended l how) may.scripted).names l refl)
    make_can seat call.Halt may = tt
    make_can seat call.Tick may = tt

pub can_make : (p : Plan) (seats : ℕ) (s : State) (j : List Entry) (lane : ℕ) (seat : BerthGroup)
    (c : Call) → Stands p seats s j → LawfulMore p j → MayCall p seats j lane c
    → CanMake s lane seat c
can_make p seats s j lane seat c st all may = make_can p seats s j st all lane seat c may

pub can_carry : (p : Plan) (seats : ℕ) (s : State) (j : List Entry) (lane : ℕ) (x : Choice)
    → Stands p seats s j → LawfulMore p j → MayCall p seats j lane call.Ask
    → Asked p j (lane / 2) (carried_reply s (lane / 2) x) → CanCarry s (lane / 2) x
can_carry p seats s j lane x st all may is = carry_can p seats s j st all lane may x is
