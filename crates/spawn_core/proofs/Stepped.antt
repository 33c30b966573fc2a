-- One call of a lane, and the journal after it.
use Rattle.std.proofs.Common.{◌≡◌, ℕ, ◌/◌, ◌<◌, nat_lt, Bool, true, false, cond, List, ◌∷◌, length, Option, Some, None, inl, ℤ, refl, ap, sym, subst, ◌∙◌}
use Rattle.std.specs.Prelude.{slice_get}
use Rattle.std.proofs.lemmas.Bool.{lt-ltb}
use Rattle.std.proofs.lemmas.Option.{slice_get_within}
use Rattle.run_plan.specs.declared.plan.Plan.{Plan}
use Rattle.exec_journal.specs.declared.attempt.Attempt.{Attempt}
use Rattle.exec_journal.specs.declared.call.Answer.{Answer}
use Rattle.exec_journal.specs.declared.call.Call.{Call}
use Rattle.exec_journal.specs.declared.call.Call.TheVariants as call
use Rattle.exec_journal.specs.declared.call.Found.{Found}
use Rattle.exec_journal.specs.declared.call.Found.TheVariants as found
use Rattle.exec_journal.specs.declared.call.Written.{Written}
use Rattle.exec_journal.specs.declared.call.Written.TheVariants as write
use Rattle.exec_journal.specs.Entry.{Entry}
use Rattle.exec_journal.specs.declared.reply.BreachWhy.TheVariants as breach
use Rattle.exec_journal.specs.declared.reply.StrayWhy.TheVariants as stray
use Rattle.exec_journal.specs.declared.reply.Reply.{Reply}
use Rattle.exec_journal.specs.declared.reply.Reply.TheVariants as reply
use Rattle.exec_journal.specs.Entries.{attempt_of, is_done, is_kept, is_look}
use Rattle.exec_journal.specs.Legal.{after}
use Rattle.core_contract.specs.Disciplines.{LegalBy, script_of}
use Rattle.core_contract.specs.Discipline.{Discipline}
use Rattle.run_plan.specs.Groups.{is_single}
use Rattle.exec_journal.specs.Words.{last_line, last_work, stopped, has_halted}
use Rattle.worker_pool.specs.Rows as rows
use Rattle.request_table.specs.declared.Matching.{Matching}
use Rattle.request_table.specs.declared.Matching.TheVariants as match
use Rattle.request_table.specs.Rows as asks
use Rattle.core_state.specs.declared.choice.Choice.{Choice}
use Rattle.core_state.specs.declared.choice.Choice.TheVariants as choice
use Rattle.core_tables.specs.declared.berth_group.BerthGroup.{BerthGroup}
use Rattle.core_state.specs.declared.state.State.{State}
use Rattle.core_state.specs.Choices.{row_at}
use Rattle.core_tables.specs.declared.greetings.Greeting.{Greeting}
use Rattle.core_tables.specs.declared.lanes.LaneState.{LaneState}
use Rattle.core_tables.specs.Greetings.{greeting_in, greeting_of}
use Rattle.core_tables.specs.Lanes.{lane_in, state_by}
use Rattle.core_state.specs.Machine as m
use Rattle.table_laws.specs.Moments.{LawfulMore}
use Rattle.core_state.specs.Noted.{noted_after, noted_if_kept}
use Rattle.core_state.specs.Reports as reports
use Rattle.core_laws.specs.Stands.{Stands}
use Rattle.spawn_core.specs.Allowed.{allowed_is, lane_within, none_scripted}
use Rattle.spawn_core.specs.Answers.{Replies, answer_by}
use Rattle.spawn_core.specs.Turns.{CanTurn, Orders, may_make, turned, turned_reply}
use Rattle.core_laws.proofs.Rowed.{lane_inside}
use Rattle.spawn_core.specs.Policies.{SaysSeat}
use Rattle.spawn_core.specs.Turning.{IsServed, turn_can, turn_is, turn_stands}

-- ---- a call in its script changes neither the plan nor what is noted of its lane and its berth's
-- greeting

abbrev Own : Type 0
Own = Plan × List LaneState × List Greeting

abbrev pub own_of : State → Own
own_of t = (t.plan, t.lanes, t.greetings)

module _ (s : State) where
  either : (b : Bool) (t u : State) → own_of t ≡ own_of s → own_of u ≡ own_of s
      → own_of (cond b t u) ≡ own_of s
  either true t u x y = x
  either false t u x y = y

  end_lanes : (t : State) (o : Option Attempt) → own_of t ≡ own_of s
      → own_of (m.end_of_some t o) ≡ own_of s
  end_lanes t None h = h
  end_lanes t (Some u) h = h

  carried_lanes : (w : ℕ) (x : Choice) → own_of (m.carried s w x) ≡ own_of s
  carried_lanes w choice.Stop = refl
  carried_lanes w (choice.Kill l y) = refl
  carried_lanes w (choice.Gather x) = refl
  carried_lanes w (choice.Cancel l n) = refl
  carried_lanes w (choice.Send l t) = refl
  carried_lanes w (choice.Launch t) = refl
  carried_lanes w choice.Idle = refl

  fed_lanes : (w l : ℕ) (o : Option Attempt) → own_of (reports.fed_by s w l o) ≡ own_of s
  fed_lanes w l None = refl
  fed_lanes w l (Some t) = by ((row_at (reports.broken_by_feed s w l) l).ended)
    where
      by : (b : Bool) → own_of (reports.ended_if b (reports.fed_attempt
          (reports.broken_by_feed s w l) w t) t) ≡ own_of s
      by true = refl
      by false = refl

  unwritten_lanes : (w l : ℕ) (n : ℤ) (o : Option Attempt)
      → own_of (reports.unwritten_by s w l n o) ≡ own_of s
  unwritten_lanes w l n None = refl
  unwritten_lanes w l n (Some t) = either (reports.is_pending_at s l t) (reports.dropped_from s l n)
      (reports.breached s w l) refl refl

  wrote_lanes : (lane w l : ℕ) (n : ℤ) (how : Written)
      → own_of (reports.wrote_with s lane w l n how) ≡ own_of s
  wrote_lanes lane w l n write.Done = refl
  wrote_lanes lane w l n write.FeedFault = fed_lanes w l (reports.sent_in (m.order_at s lane))
  wrote_lanes lane w l n write.RoomFault = unwritten_lanes w l n
      (reports.sent_in (m.order_at s lane))
  wrote_lanes lane w l n write.TooLarge = unwritten_lanes w l n
      (reports.sent_in (m.order_at s lane))

  found_lanes : (t : Attempt) (f : Found) → own_of (m.found_with s t f) ≡ own_of s
  found_lanes t (found.Files fs) = refl
  found_lanes t (found.Exit n) = refl
  found_lanes t (found.Missing k) = refl
  found_lanes t found.RoomFault = refl
  found_lanes t found.Refused = refl

  taken_lanes : (w : ℕ) (o : Option ℕ) → own_of (m.taken_with s w o) ≡ own_of s
  taken_lanes w None = refl
  taken_lanes w (Some l) = refl

  matching_lanes : (w l : ℕ) (seat : BerthGroup) (x : Answer) (y : Matching)
      → own_of (reports.matching_with s w seat l x y) ≡ own_of s
  matching_lanes w l seat x (match.Pending a t) = either x.cancelled _ _ refl refl
  matching_lanes w l seat x (match.Cancelled a t) = refl
  matching_lanes w l seat x match.Closed = either (is_single seat.kind) _ _ refl refl
  matching_lanes w l seat x match.Never = either (is_single seat.kind) _ _ refl refl

  answered_lanes : (w l : ℕ) (seat : BerthGroup) (x : Answer)
      → own_of (reports.answered_with s w seat l x) ≡ own_of s
  answered_lanes w l seat x =
      either ((row_at s l).broken) (reports.breached s w l) _ refl
      (either (reports.is_greeting_by seat (slice_get s.greetings w) x) s
      (reports.told_with s w seat l x) refl
      (either (reports.is_wrong seat x) (reports.breached s w l)
      (reports.matching_with s w seat l x (asks.matching_of s.requests l x.number)) refl
      (matching_lanes w l seat x (asks.matching_of s.requests l x.number))))

  made_lanes : (lane : ℕ) (seat : BerthGroup) (x : Orders) (c : Call)
      → own_of (turned s lane seat x c) ≡ own_of s
  made_lanes lane seat y call.Ask = carried_lanes (lane / 2) y.ask
  made_lanes lane seat y (call.Launched l how) = either (is_done how) _ _ refl
      (end_lanes (m.with_pool s (rows.change s.pool l rows.set_unbound)) (m.launch_by s lane) refl)
  made_lanes lane seat y (call.Wrote l n how) = wrote_lanes lane (lane / 2) l n how
  made_lanes lane seat y (call.Look x) = refl
  made_lanes lane seat y (call.Claim a b n f) = either (m.is_won s (attempt_of a b n)) s
      (m.found_with s (attempt_of a b n) f) refl (found_lanes (attempt_of a b n) f)
  made_lanes lane seat y (call.Committed a b how) = refl
  made_lanes lane seat y (call.Killed l) = refl
  made_lanes lane seat y call.Take = taken_lanes (lane / 2) (m.takeable s (lane / 2))
  made_lanes lane seat y (call.Answer l x) = answered_lanes (lane / 2) l seat x
  made_lanes lane seat y (call.Ended l how) =
      end_lanes (m.end_of_some (reports.end_all s seat (asks.places_of s.requests l))
      (reports.fed_on (slice_get s.last (lane / 2)))) (reports.bound_on s (lane / 2) l)
      (end_lanes (reports.end_all s seat (asks.places_of s.requests l))
      (reports.fed_on (slice_get s.last (lane / 2))) refl)
  made_lanes lane seat y call.Halt = refl
  made_lanes lane seat y call.Tick = refl

lane_known : (q : Discipline) (s : State) (j : List Entry) (lane : ℕ) (c : Call) → Stands q.plan q.seats s j
    → script_of q j lane c ≡ true → lane < length s.lanes
unfolding lane_in
lane_known q s j lane c st may =
    let within = lane_inside q.seats lane (lane_within q j lane c may) in
    slice_get_within s.lanes lane (state_by (last_work j lane) (stopped j lane) (has_halted j lane))
    (st.lanes lane ∙ ap (λ b. cond b (Some (state_by (last_work j lane) (stopped j lane)
    (has_halted j lane))) None) within)

berth_known : (q : Discipline) (s : State) (j : List Entry) (lane : ℕ) (c : Call) → Stands q.plan q.seats s j
    → script_of q j lane c ≡ true → lane / 2 < length s.greetings
unfolding greeting_in
berth_known q s j lane c st may =
    let within : nat_lt (lane / 2) q.seats ≡ true =
    lt-ltb (lane / 2) q.seats (lane_within q j lane c may) in
    slice_get_within s.greetings (lane / 2) (greeting_of j (last_line j (lane / 2)))
    (st.greetings (lane / 2) ∙ ap (λ b. cond b (Some (greeting_of j (last_line j (lane / 2))))
    None) within)

-- ---- a reply that isn't kept changes nothing

module _ (s : State) where
  carried_unkept : (w : ℕ) (x : Choice) → is_kept (m.carried_reply s w x) ≡ false
      → m.carried s w x ≡ s
  carried_unkept w choice.Stop h = absurd (cc)
  carried_unkept w (choice.Kill l y) h = absurd (cc)
  carried_unkept w (choice.Gather x) h = absurd (cc)
  carried_unkept w (choice.Cancel l n) h = absurd (cc)
  carried_unkept w (choice.Send l t) h = absurd (cc)
  carried_unkept w (choice.Launch t) h = absurd (cc)
  carried_unkept w choice.Idle h = refl

  taken_unkept : (w : ℕ) (o : Option ℕ) → is_kept (m.take_reply s o) ≡ false
      → m.taken_with s w o ≡ s
  taken_unkept w (Some l) h = absurd (cc)
  taken_unkept w None h = refl

  refusal_kept : (b : Bool) → is_kept (cond b reply.AgainLater reply.Dropped) ≡ true
  refusal_kept true = refl
  refusal_kept false = refl

  found_kept : (t : Attempt) (f : Found) → is_kept (m.found_reply s t f) ≡ true
  found_kept t (found.Files fs) = refl
  found_kept t (found.Exit n) = refl
  found_kept t (found.Missing k) = refusal_kept (nat_lt t.number s.plan.limit)
  found_kept t found.RoomFault = refusal_kept (nat_lt t.number s.plan.limit)
  found_kept t found.Refused = refusal_kept (nat_lt t.number s.plan.limit)

  kept_either : (b : Bool) (x y : Reply) → is_kept x ≡ true → is_kept y ≡ true
      → is_kept (cond b x y) ≡ true
  kept_either true x y a c = a
  kept_either false x y a c = c

  consumed_kept : (t : Attempt) → is_kept (reports.consumed_reply s t) ≡ true
  consumed_kept t = kept_either (reports.is_won s t) (reply.Late t.action t.branch t.number)
      (reply.Matched t.action t.branch t.number) refl refl

  matching_kept : (seat : BerthGroup) (x : Answer) (y : Matching)
      → is_kept (reports.matching_reply s seat x y) ≡ true
  matching_kept seat x (match.Pending a t) = kept_either x.cancelled
      (reply.Breach breach.NotCancelled) (reports.consumed_reply s
      (reports.attempt_in s.plan seat a t)) refl (consumed_kept
      (reports.attempt_in s.plan seat a t))
  matching_kept seat x (match.Cancelled a t) = consumed_kept (reports.attempt_in s.plan seat a t)
  matching_kept seat x match.Closed = kept_either (is_single seat.kind)
      (reply.Breach breach.Unasked) (reply.Stray stray.Closed) refl refl
  matching_kept seat x match.Never = kept_either (is_single seat.kind) (reply.Breach breach.Unasked)
      (reply.Stray stray.Never) refl refl

  told_kept : (seat : BerthGroup) (l : ℕ) (x : Answer) → is_kept (reports.told_reply s seat l x) ≡ true
  told_kept seat l x =
      kept_either (reports.is_wrong seat x) (reply.Breach breach.WrongNumber)
      (reports.matching_reply s seat x (asks.matching_of s.requests l x.number)) refl
      (matching_kept seat x (asks.matching_of s.requests l x.number))

  answer_kept : (w : ℕ) (seat : BerthGroup) (l : ℕ) (x : Answer)
      → is_kept (reports.answer_reply_by s w seat l x) ≡ true
  answer_kept w seat l x =
      kept_either ((row_at s l).broken) (reply.Breach breach.Broken) _ refl
      (kept_either (reports.is_greeting_by seat (slice_get s.greetings w) x) reply.Greeted
      (reports.told_reply s seat l x) refl (told_kept seat l x))

  clash : {X : Type 0} (b : Bool) → b ≡ true → b ≡ false → X
  clash b h k = absurd (let both : true ≡ false = sym h ∙ k in cc)

  unkept : (lane : ℕ) (seat : BerthGroup) (x : Orders) (c : Call) → is_look c ≡ false
      → is_kept (turned_reply s lane seat x c) ≡ false → turned s lane seat x c ≡ s
  unkept lane seat y call.Ask look h = carried_unkept (lane / 2) y.ask h
  unkept lane seat y call.Take look h = taken_unkept (lane / 2) (m.takeable s (lane / 2)) h
  unkept lane seat y (call.Look x) look h = refl
  unkept lane seat y (call.Claim a b n f) look h = clash _
      (kept_either (m.is_won s (attempt_of a b n)) reply.Lost
      (m.found_reply s (attempt_of a b n) f) refl (found_kept (attempt_of a b n) f)) h
  unkept lane seat y (call.Answer l x) look h = clash _ (answer_kept (lane / 2) seat l x) h
  unkept lane seat y (call.Launched l how) look h = absurd (cc)
  unkept lane seat y (call.Wrote l n how) look h = absurd (cc)
  unkept lane seat y (call.Committed a b how) look h = absurd (cc)
  unkept lane seat y (call.Killed l) look h = absurd (cc)
  unkept lane seat y (call.Ended l how) look h = absurd (cc)
  unkept lane seat y call.Halt look h = absurd (cc)
  unkept lane seat y call.Tick look h = refl

-- ---- a call that its lane's script has

-- what the check of a call says
module _ (q : Discipline) (s : State) (j : List Entry) (lane : ℕ) (seat : BerthGroup) (x : Orders)
    (c : Call) (st : Stands q.plan q.seats s j) (v : IsServed q s j lane seat x) where
  allows_is : may_make s seat.kind (q.ticks lane) lane c ≡ script_of q j lane c
  allows_is = allowed_is q s j lane seat st v.remote c

  module _ (legal : LegalBy q j) (all : LawfulMore q.plan j) (look : is_look c ≡ false)
      (may : may_make s seat.kind (q.ticks lane) lane c ≡ true) where
    pub script_here : script_of q j lane c ≡ true
    script_here = sym allows_is ∙ may

    pub can_here : CanTurn s lane seat x c
    can_here = turn_can q s j lane seat x st legal all v c script_here

    pub lane_here : lane < length (turned s lane seat x c).lanes
    lane_here = subst (λ (o : Own). lane < length o.1) (sym (made_lanes s lane seat x c))
        (lane_known q s j lane c st script_here)

    pub berth_here : lane / 2 < length (turned s lane seat x c).greetings
    berth_here = subst (λ (o : Own). lane / 2 < length o.2) (sym (made_lanes s lane seat x c))
        (berth_known q s j lane c st script_here)

    pub plan_here : (turned s lane seat x c).plan ≡ s.plan
    plan_here = ap (λ (o : Own). o.0) (made_lanes s lane seat x c)

    pub reply_here : Replies (answer_by q j lane c) (turned_reply s lane seat x c)
    reply_here = inl (turn_is q s j lane seat x st legal all v c look script_here
        ∙ ap (λ b. cond b (q.rule j lane c) reply.Astray) (sym script_here))

    -- whether the reply is kept
    kept_by : (b : Bool) → is_kept (turned_reply s lane seat x c) ≡ b
        → Stands q.plan q.seats (cond b (noted_after (turned s lane seat x c) lane c
        (turned_reply s lane seat x c)) (turned s lane seat x c)) (cond b (record {
          lane = lane;
          call = c;
          reply = turned_reply s lane seat x c;
        } ∷ j) j)
    kept_by true h = turn_stands q s j lane seat x st legal all v c look script_here h
    kept_by false h = subst (λ y. Stands q.plan q.seats y j) (sym (unkept s lane seat x c look h)) st

    pub stands_here : Stands q.plan q.seats (noted_if_kept (turned s lane seat x c) lane c
        (turned_reply s lane seat x c)) (after j lane c (turned_reply s lane seat x c))
    stands_here = kept_by (is_kept (turned_reply s lane seat x c)) refl

  module _ (out : may_make s seat.kind (q.ticks lane) lane c ≡ false) where
    pub reply_out : Replies (answer_by q j lane c) reply.Astray
    reply_out = inl (ap (λ b. cond b (q.rule j lane c) reply.Astray) (sym (sym allows_is ∙ out)))

pub reply_none : (q : Discipline) (j : List Entry) (lane : ℕ) (c : Call) (o : Option BerthGroup)
    → (lane / 2 < q.seats → SaysSeat q j (lane / 2) o) → o ≡ None
    → Replies (answer_by q j lane c) reply.Astray
reply_none q j lane c o says at =
    inl (ap (λ b. cond b (q.rule j lane c) reply.Astray)
    (sym (none_scripted q j lane c o says at)))
