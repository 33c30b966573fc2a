-- The core's own rows after an entry.
use Rattle.std.proofs.Common.{◌≡◌, ℕ, ◌*◌, ◌/◌, ◌==◌, nat_lt, Bool, true, false, ◌&&◌, ◌||◌, cond, List, [], ◌∷◌, map, reverse, Option, Some, None, is_some, option_map, refl, ap, sym, ◌∙◌}
use Rattle.std.specs.Prelude.{slice_get}
use Rattle.std.specs.List.{find}
use Rattle.arrayvec.specs.ArrayVec.{ArrayVec}
use Rattle.run_plan.specs.declared.plan.Plan.{Plan}
use Rattle.run_plan.specs.declared.plan.Branch.{Branch}
use Rattle.exec_journal.specs.declared.attempt.Attempt.{Attempt}
use Rattle.exec_journal.specs.Entry.{Entry}
use Rattle.exec_journal.specs.declared.reply.Reply.{Reply}
use Rattle.exec_journal.specs.declared.reply.Reply.TheVariants as reply
use Rattle.exec_journal.specs.Entries.{Request, is_halt, is_stop, launch_in, send_in, takes}
use Rattle.exec_journal.specs.Facts.{SameActions}
use Rattle.list_lemmas.specs.Options.{or_else, unless_before, and_more}
use Rattle.exec_journal.specs.Attempts.{attempt, begun_in, number_if}
use Rattle.exec_journal.specs.Words.{last_work, stopped, has_halted, last_line, launch_of, was_taken, line_cause, sends, wrote, says_feed_fault, break_at, sent_on}
use Rattle.list_lemmas.proofs.Updates.{get_update}
use Rattle.exec_journal.proofs.Begins.{attempt_other}
use Rattle.ready_order.specs.declared.ActionState.{ActionState}
use Rattle.ready_order.specs.Stands as queues
use Rattle.ready_order.proofs.Followed as queues-laws
use Rattle.race_core.specs.declared.Won.{Won}
use Rattle.race_core.specs.Stands as races
use Rattle.race_core.proofs.Kept as races-laws
use Rattle.retry_rules.specs.Counts as counts
use Rattle.retry_rules.specs.Stands as tallies
use Rattle.retry_rules.proofs.Counted as tallies-laws
use Rattle.core_tables.specs.declared.lanes.LaneState.{LaneState}
use Rattle.core_tables.specs.declared.matches.Match.{Match}
use Rattle.core_tables.specs.declared.last.LastLine.{LastLine}
use Rattle.core_tables.specs.Lanes.{worked, noted, state_by, lane_in, is_work, order_after, said_after, order_of_work, said_of_work}
use Rattle.core_tables.specs.Last.{fed_of, row_of, row_by, last_in}
use Rattle.core_tables.specs.Matches.{match_in, matches_in}
use Rattle.call_laws.specs.Matches.{Matched, recent, is_spent, matched_by}

-- ---- lanes, after any entry

module _ (seats : ℕ) (j : List Entry) (e : Entry) where
  lane_after : (b known : Bool) (last : Option Entry) (stop halt : Bool)
      → cond b (option_map (worked e.call e.reply) (cond known
      (Some (state_by last stop halt)) None)) (cond known (Some (state_by last stop halt)) None)
      ≡ cond known (Some (state_by (or_else (cond (b && is_work e.call) (Some e) None) last)
      ((b && is_stop e.reply) || stop) ((b && is_halt e.call) || halt))) None
  lane_after true false last stop halt = refl
  lane_after false known last stop halt = refl
  lane_after true true last stop halt = by (is_work e.call)
    where
      by : (w : Bool) → Some (record {
        order = cond w (order_after e.reply) (order_of_work last);
        said = cond w (said_after e.call e.reply) (said_of_work last);
        stopped = is_stop e.reply || stop;
        halted = is_halt e.call || halt;
      })
          ≡ Some (state_by (or_else (cond w (Some e) None) last) (is_stop e.reply || stop)
          (is_halt e.call || halt))
      by true = refl
      by false = refl

  pub lanes_kept : (lanes : List LaneState) → ((n : ℕ) → slice_get lanes n ≡ lane_in seats j n)
      → (n : ℕ) → slice_get (noted lanes e.lane e.call e.reply) n ≡ lane_in seats (e ∷ j) n
  unfolding lane_in last_work stopped has_halted
  lanes_kept lanes h n =
      get_update (worked e.call e.reply) lanes e.lane n
      ∙ ap (λ (o : Option LaneState). cond (e.lane == n) (option_map (worked e.call e.reply) o) o)
      (h n)
      ∙ lane_after (e.lane == n) (nat_lt n (2 * seats)) (last_work j n) (stopped j n)
      (has_halted j n)

-- ---- the last line of each berth, where the entry says nothing of it

module _ (seats : ℕ) (j : List Entry) (e : Entry) where
  pub record IsQuiet : Type 0 where
    pub no_launch : launch_in e.reply ≡ None
    pub no_send : send_in e.reply ≡ None
    pub no_take : (l : ℕ) → takes l e.reply ≡ false
    pub no_break : (l : ℕ) → break_at l j e ≡ None
    pub no_feed : (t : Attempt) → says_feed_fault (wrote (e ∷ j) t) ≡ says_feed_fault (wrote j t)

  no_line : (w : ℕ) (b : Bool) → launch_in e.reply ≡ None
      → cond b (option_map (λ x. x.0) (launch_in e.reply)) None ≡ None
  no_line w true h = ap (option_map (λ x. x.0)) h
  no_line w false h = refl

  last_line_same : launch_in e.reply ≡ None → (w : ℕ) → last_line (e ∷ j) w ≡ last_line j w
  unfolding last_line
  last_line_same h w = ap (λ o. or_else o (last_line j w)) (no_line w (e.lane / 2 == w) h)

  launch_same : launch_in e.reply ≡ None → (l : ℕ) → launch_of (e ∷ j) l ≡ launch_of j l
  unfolding launch_of
  launch_same h l = rw h refl

  no_sent : (l : ℕ) (x : Reply) → send_in x ≡ None → sent_on l x ≡ None
  no_sent l (reply.Send k n a b t) h = absurd (cc)
  no_sent l _ h = refl

  sends_same : send_in e.reply ≡ None → (l : ℕ) → sends (e ∷ j) l ≡ sends j l
  unfolding sends
  sends_same h l = ap (λ o. and_more o (sends j l)) (no_sent l e.reply h)

  find_same : (f g : Request → Bool) (xs : List Request) → ((x : Request) → f x ≡ g x)
      → find f xs ≡ find g xs
  find_same f g [] h = refl
  find_same f g (x ∷ xs) h = λ i. cond (h x i) (Some x) (find_same f g xs h i)

  fed_same : IsQuiet → (l : ℕ) → fed_of (e ∷ j) l ≡ fed_of j l
  unfolding fed_of
  fed_same q l =
      ap (λ xs. option_map (λ r. r.attempt) (find (λ r. says_feed_fault (wrote (e ∷ j) r.attempt))
      xs)) (sends_same q.no_send l)
      ∙ ap (option_map (λ r. r.attempt)) (find_same (λ r. says_feed_fault (wrote (e ∷ j) r.attempt))
      (λ r. says_feed_fault (wrote j r.attempt)) (sends j l) (λ r. q.no_feed r.attempt))

  cause_same : IsQuiet → (l : ℕ) → line_cause (e ∷ j) l ≡ line_cause j l
  unfolding line_cause
  cause_same q l = ap (λ o. unless_before o (line_cause j l)) (q.no_break l)

  taken_same : IsQuiet → (l : ℕ) → was_taken (e ∷ j) l ≡ was_taken j l
  unfolding was_taken
  taken_same q l = ap (λ b. b || was_taken j l) (q.no_take l)

  row_same : IsQuiet → (o : Option ℕ) → row_of (e ∷ j) o ≡ row_of j o
  row_same q None = refl
  row_same q (Some l) = λ i. row_by (option_map (λ x. x.1) (launch_same q.no_launch l i))
      (taken_same q l i) (cause_same q l i) (fed_same q l i)

  pub last_kept : IsQuiet → (rows : List LastLine) → ((w : ℕ) → slice_get rows w ≡ last_in seats j w)
      → (w : ℕ) → slice_get rows w ≡ last_in seats (e ∷ j) w
  unfolding last_in
  last_kept q rows h w =
      h w ∙ ap (λ x. cond (nat_lt w seats) (Some x) None)
      (sym (row_same q (last_line j w)) ∙ ap (row_of (e ∷ j))
      (sym (last_line_same q.no_launch w)))

-- ---- matches, where the entry is none and spends none

module _ (seats : ℕ) (j : List Entry) (e : Entry) where
  pub map_matches : (g h : Matched → Match) (xs : List Matched) → ((x : Matched) → g x ≡ h x)
      → map g xs ≡ map h xs
  map_matches g h [] same = refl
  map_matches g h (x ∷ xs) same = λ i. same x i ∷ map_matches g h xs same i

  pub record SpendsNone : Type 0 where
    pub no_send : send_in e.reply ≡ None
    pub no_match : matched_by e.call e.reply ≡ None
    pub same : (t : Attempt) → is_spent (e ∷ j) t ≡ is_spent j t

  recent_by : (b : Bool) (s : Option Request) (m : Option Matched) (xs : List Matched) → s ≡ None
      → m ≡ None → cond (b && is_some s) [] (and_more (cond b m None) xs) ≡ xs
  recent_by true s m xs h k = rw (h, k) refl
  recent_by false s m xs h k = refl

  recent_same : SpendsNone → (w : ℕ) → recent (e ∷ j) w ≡ recent j w
  unfolding recent
  recent_same q w = recent_by (e.lane / 2 == w) (send_in e.reply) (matched_by e.call e.reply)
      (recent j w) q.no_send q.no_match

  match_same : SpendsNone → (m : Matched) → match_in (e ∷ j) m ≡ match_in j m
  match_same q m = λ i. record {
    line = m.line;
    number = m.number;
    attempt = m.attempt;
    exit = m.exit;
    refused = m.refused;
    spent = q.same m.attempt i;
  }

  pub matches_kept : SpendsNone → (rows : List (ArrayVec Match))
      → ((w : ℕ) → slice_get rows w ≡ matches_in seats j w) → (w : ℕ)
      → slice_get rows w ≡ matches_in seats (e ∷ j) w
  unfolding matches_in
  matches_kept q rows h w =
      h w ∙ ap (λ xs. cond (nat_lt w seats) (Some (record { items = reverse xs })) None)
      (sym (map_matches (match_in (e ∷ j)) (match_in j) (recent j w) (match_same q))
      ∙ ap (map (match_in (e ∷ j))) (sym (recent_same q w)))

-- ---- the tables of actions, where no attempt begins or ends, and nothing is granted or committed

module _ (p : Plan) (j : List Entry) (e : Entry) (same : SameActions j (e ∷ j))
    (plain : begun_in e.reply ≡ None) where
  none_begins : (a : ℕ) (b : Branch) → attempt (e ∷ j) a b ≡ attempt j a b
  none_begins a b = attempt_other e j a b (ap (number_if a b) plain)

  pub ready_kept : (states : List ActionState) → queues.Stands p states j
      → queues.Stands p states (e ∷ j)
  ready_kept states st = queues-laws.others p states j (e ∷ j) st
      (record { actions = same; none_begins = none_begins })

  pub race_kept : (rows : List Won) → races.Stands p rows j → races.Stands p rows (e ∷ j)
  race_kept rows st = races-laws.others p rows j (e ∷ j) st
      (record { grant = same.grant; commit = same.commit })

  pub attempts_kept : (f : counts.Facts) → tallies.Stands p f j → tallies.Stands p f (e ∷ j)
  attempts_kept f st = tallies-laws.others_count p f j e st none_begins same.ended_too
