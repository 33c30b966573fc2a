-- What a call makes of the table: after it the table stands for the journal with its entry.
use Rattle.std.proofs.Common.{◌≡◌, ℕ, ◌+◌, ◌<◌, ◌≤◌, ◌==◌, nat_le, nat_lt, subst, Bool, true, false, ◌&&◌, ◌||◌, cond, List, [], ◌∷◌, length, Option, Some, None, option_map, unwrap_or, refl, ap, sym, ◌∙◌, arith}
use Rattle.std.specs.Prelude.{slice_get}
use Rattle.std.proofs.lemmas.Bool.{and_parts, leb-false, le-ltb, ltb-false, ltb-true, lt-ltb}
use Rattle.std.proofs.lemmas.Option.{slice_get_within}
use Rattle.run_plan.specs.declared.plan.Branch.{Branch}
use Rattle.run_plan.specs.declared.plan.Branch.TheVariants.{Remote}
use Rattle.run_plan.specs.declared.plan.Plan.{Plan}
use Rattle.run_plan.specs.declared.plan.PlanAction.{PlanAction}
use Rattle.list_lemmas.specs.Options.{and_more, or_else}
use Rattle.exec_journal.specs.declared.attempt.Attempt.{Attempt}
use Rattle.exec_journal.specs.declared.call.Call.{Call}
use Rattle.exec_journal.specs.declared.call.Call.TheVariants as call
use Rattle.exec_journal.specs.declared.reply.Reply.{Reply}
use Rattle.exec_journal.specs.Attempts.{attempt, begun_in, number_if}
use Rattle.exec_journal.specs.Entries.{is_branch_of, is_kept, same_branch}
use Rattle.exec_journal.specs.Entry.{Entry}
use Rattle.exec_journal.specs.History.{each, latest}
use Rattle.exec_journal.specs.Legal.{after}
use Rattle.exec_journal.specs.Settled.{ready}
use Rattle.exec_journal.specs.declared.reply.Reply.TheVariants as reply
use Rattle.exec_journal.specs.Facts.{SameActions}
use Rattle.exec_journal.specs.Lawful.{Counts, Ends, Lawful, Ticked, Waits}
use Rattle.exec_journal.proofs.Quiet.{ready_same}
use Rattle.journal_laws.proofs.Firm.{ready_stays}
use Rattle.worker_pool.proofs.Words.{quiet_actions}
use Rattle.exec_journal.proofs.Ruled.{by_bool}
use Rattle.ready_order.specs.declared.ActionState.{ActionState}
use Rattle.ready_order.specs.Queue.{is_ready, is_ready_at}
use Rattle.ready_order.specs.Stands as queues
use Rattle.ready_order.proofs.Queued.{ready_is}
use Rattle.core_state.specs.declared.state.State.{State}
use Rattle.core_laws.specs.Stands.{Stands}
use Rattle.placed_rules.specs.Due.{is_tick, tick_after, ticks_since}
use Rattle.placed_berths.specs.Due.{last_of}
use Rattle.placed_berths.specs.Counts.{Facts, IsCounted, IsMarked, capped, count_at, is_action, is_marked, more}
use Rattle.placed_berths.specs.Stands.{IsHeld, StandsFor}
use Rattle.placed_berths.specs.DueTold.{reached}

-- one more where they are made, up to n
if_made : (n t : ℕ) (made : Bool) → cond (nat_lt (capped n t) n && made) (capped n t + 1) (capped n t)
    ≡ capped n (cond made (t + 1) t)
if_made n t made =
    by_bool (nat_lt t n) (λ b. nat_lt t n ≡ b → cond (nat_lt (cond b t n) n && made)
    (cond b t n + 1) (cond b t n) ≡ capped n (cond made (t + 1) t))
    (λ yes e. low (ltb-true t n yes) made)
    (λ no e. high (ltb-false t n no) made) refl
  where
    low : t < n → (made : Bool) → cond (nat_lt t n && made) (t + 1) t
        ≡ capped n (cond made (t + 1) t)
    low lt false = sym (rw (lt-ltb t n lt) refl)
    low lt true =
        ap (λ b. cond (b && true) (t + 1) t) (lt-ltb t n lt)
        ∙ by_bool (nat_lt (t + 1) n)
        (λ b. nat_lt (t + 1) n ≡ b → t + 1 ≡ cond b (t + 1) n) (λ _ _. refl)
        (λ no _. let ge = ltb-false (t + 1) n no in omega (arith, ge, lt)) refl

    high : n ≤ t → (made : Bool) → cond (nat_lt n n && made) (n + 1) n
        ≡ capped n (cond made (t + 1) t)
    high ge made =
        ap (λ b. cond (b && made) (n + 1) n) (le-ltb n n (omega arith))
        ∙ (λ i. cond (sym (past made) i) (cond made (t + 1) t) n)
      where
        past : (made : Bool) → nat_lt (cond made (t + 1) t) n ≡ false
        past true = le-ltb (t + 1) n (omega (arith, ge))
        past false = le-ltb t n ge

-- what was counted before, is made
known_is : (n t : ℕ) (made : Bool) → (0 < t → made ≡ true)
    → (nat_lt 0 (capped n t) || made) ≡ made
known_is n t made counted =
    by_bool (nat_lt 0 (capped n t)) (λ b. nat_lt 0 (capped n t) ≡ b → (b || made) ≡ made)
    (λ yes _. let low = ltb-true 0 (capped n t) yes in let most = capped_most n t in
    sym (counted (omega (arith, low, most))))
    (λ _ _. refl) refl
  where
    capped_most : (n t : ℕ) → capped n t ≤ t
    capped_most n t = by_bool (nat_lt t n) (λ b. nat_lt t n ≡ b → cond b t n ≤ t)
        (λ _ _. omega arith) (λ no _. ltb-false t n no) refl

-- one more, up to n
more_is : (n t : ℕ) (made : Bool) → (0 < t → made ≡ true)
    → more made n (capped n t) ≡ capped n (cond made (t + 1) t)
more_is n t made counted =
    ap (λ b. cond (nat_lt (capped n t) n && b) (capped n t + 1) (capped n t))
    (known_is n t made counted) ∙ if_made n t made

-- where a Tick was counted, the action's inputs are made
since_ready : (p : Plan) (j : List Entry) (y : PlanAction) → Lawful p j → 0 < ticks_since p j y
    → ready p j y ≡ true
unfolding ticks_since
since_ready p [] y lawful some = absurd (omega (arith, some))
since_ready p (e ∷ j) y lawful some =
    by_bool (is_tick e.call && ready p j y)
    (λ b. (is_tick e.call && ready p j y) ≡ b
    → 0 < length (and_more (cond b (Some e.lane) None) (each (tick_after p y) j))
    → ready p (e ∷ j) y ≡ true)
    (λ yes _ _. ready_stays p e j y lawful (and_parts (is_tick e.call) _ yes).1)
    (λ _ _ before. ready_stays p e j y lawful (since_ready p j y lawful.0 before)) refl some

-- the branch's latest attempt, after an entry
attempt_next : (e : Entry) (j : List Entry) (a : ℕ) (b : Branch)
    → attempt (e ∷ j) a b ≡ unwrap_or (number_if a b (begun_in e.reply)) (attempt j a b)
unfolding attempt
attempt_next e j a b = by (number_if a b (begun_in e.reply))
  where
    by : (o : Option ℕ)
        → unwrap_or (or_else o (latest (λ _ d. number_if a b (begun_in d.reply)) j)) 0
        ≡ unwrap_or o (unwrap_or (latest (λ _ d. number_if a b (begun_in d.reply)) j) 0)
    by None = refl
    by (Some k) = refl

-- ---- a Tick

module _ (p : Plan) (j : List Entry) (lane : ℕ) where
  abbrev tick : Reply → Entry
  tick x = record { lane = lane; call = call.Tick; reply = x }

  -- it begins, ends, grants and commits nothing
  quiet : (x : Reply) → Ticked p j x → SameActions j (tick x ∷ j)
  quiet x Counts = quiet_actions (tick reply.Noted) j refl refl
  quiet x (Ends over) = quiet_actions (tick reply.Stop) j refl refl
  quiet x Waits = quiet_actions (tick reply.Idle) j refl refl

  module _ (n seats : ℕ) (s : State) (x : Reply) (st : Stands p seats s (tick x ∷ j)) where
    made_is : (a : ℕ) (y : PlanAction) → slice_get p.actions a ≡ Some y
        → is_ready_at s.ready a ≡ ready p j y
    made_is a y at =
        ap (λ (o : Option ActionState). unwrap_or (option_map (is_ready s.ready) o) false)
        (st.ready.each a ∙ ap (option_map (queues.state_in p (tick x ∷ j) a)) at)
        ∙ ready_is p s.ready (tick x ∷ j) st.ready y
        ∙ ready_same p j (tick x ∷ j) (quiet x st.lawful.1.told) y

    since_is : (y : PlanAction) → ticks_since p (tick x ∷ j) y
        ≡ cond (ready p j y) (ticks_since p j y + 1) (ticks_since p j y)
    unfolding ticks_since
    since_is y =
        by_bool (ready p j y) (λ b. length (and_more (cond b (Some lane) None)
        (each (tick_after p y) j)) ≡ cond b (length (each (tick_after p y) j) + 1)
        (length (each (tick_after p y) j))) (λ _. omega arith) (λ _. refl)

    each_counted : (f g : Facts) → StandsFor p n f j → IsCounted s.ready f g → (a : ℕ)
        (o : Option PlanAction) → slice_get p.actions a ≡ o → slice_get g.counts a
        ≡ option_map (λ y. capped n (ticks_since p (tick x ∷ j) y)) o
    each_counted f g own is a None at =
        is.each a ∙ ap (option_map (more (is_ready_at s.ready a) f.ticks))
        (own.each a ∙ ap (option_map (λ y. capped n (ticks_since p j y))) at)
    each_counted f g own is a (Some y) at =
        is.each a ∙ ap (option_map (more (is_ready_at s.ready a) f.ticks))
        (own.each a ∙ ap (option_map (λ z. capped n (ticks_since p j z))) at)
        ∙ (λ i. Some (more (made_is a y at i) (own.ticks i) (capped n (ticks_since p j y))))
        ∙ ap Some (more_is n (ticks_since p j y) (ready p j y) (since_ready p j y st.lawful.0) ∙ ap (capped n) (sym (since_is y)))

    begins_none : (y : Reply) → Ticked p j y → begun_in y ≡ None
    begins_none y Counts = refl
    begins_none y (Ends over) = refl
    begins_none y Waits = refl

    -- what isn't marked yet waits for more
    held : (f g : Facts) → StandsFor p n f j → IsCounted s.ready f g → (a : ℕ) (y : PlanAction)
        → slice_get p.actions a ≡ Some y → is_marked g a ≡ false → IsHeld p n (tick x ∷ j) a y
    held f g own is a y at un =
        let size = is.marks.size ∙ own.size in
        let within = slice_get_within p.actions a y at in
        let was = is.marks.each a (omega (arith, size, within)) un in
        let before = own.unmarked a y at was.0 in
        let count : count_at g a ≡ capped n (ticks_since p (tick x ∷ j) y) =
        ap (λ (o : Option ℕ). unwrap_or o 0) (each_counted f g own is a (Some y) at) in
        let short : nat_le n (ticks_since p (tick x ∷ j) y) ≡ false =
        sym (reached n (ticks_since p (tick x ∷ j) y))
        ∙ (λ i. nat_le (sym own.ticks i) (sym count i)) ∙ was.1 in
        record {
          waits = before.waits;
          short = leb-false n (ticks_since p (tick x ∷ j) y) short;
          left = subst (λ k. k < p.limit) (sym (attempt_next (tick x) j a Remote
              ∙ ap (λ o. unwrap_or (number_if a Remote o) (attempt j a Remote))
              (begins_none x st.lawful.1.told))) before.left;
        }

    pub counted : (f g : Facts) → StandsFor p n f j → IsCounted s.ready f g
        → StandsFor p n g (tick x ∷ j)
    counted f g own is = record {
      ticks = is.ticks ∙ own.ticks;
      each = λ a. each_counted f g own is a (slice_get p.actions a) refl;
      size = is.marks.size ∙ own.size;
      unmarked = λ a y at un. held f g own is a y at un;
    }

-- ---- any call

pub and_none : (a b : Bool) → b ≡ false → (a && b) ≡ false
and_none true b none = none
and_none false b none = refl

module _ (p : Plan) (n : ℕ) (f : Facts) (j : List Entry) (lane : ℕ) (own : StandsFor p n f j) where
  -- what is no Tick, or isn't kept, counts nothing
  since_other : (e : Entry) (y : PlanAction) → is_tick e.call ≡ false
      → ticks_since p j y ≡ ticks_since p (e ∷ j) y
  unfolding ticks_since
  since_other e y other = ap (λ b. length (and_more (cond (b && ready p j y) (Some e.lane) None)
      (each (tick_after p y) j))) (sym other)

  module _ (g : Facts) (c : Call) (x : Reply)
      (is : IsMarked (last_of p.limit (begun_in x)) f g) where
    abbrev here : Entry
    here = record { lane = lane; call = c; reply = x }

    size_is : length g.marks ≡ length p.actions
    size_is = is.marks.size ∙ own.size

    -- it wasn't marked before, and its remote branch doesn't begin its last attempt
    was : (a : ℕ) (y : PlanAction) → slice_get p.actions a ≡ Some y → is_marked g a ≡ false
        → IsHeld p n j a y × (is_action (last_of p.limit (begun_in x)) a ≡ false)
    was a y at un =
        let within = slice_get_within p.actions a y at in
        let size = size_is in
        let before = is.marks.each a (omega (arith, size, within)) un in
        (own.unmarked a y at before.0, before.1)

    -- its next attempt is not the last
    left_by : (a : ℕ) (o : Option Attempt) → attempt j a Remote < p.limit
        → is_action (last_of p.limit o) a ≡ false
        → unwrap_or (number_if a Remote o) (attempt j a Remote) < p.limit
    left_by a None left un = left
    left_by a (Some t) left un =
        by_bool (is_branch_of a Remote t) (λ b. is_branch_of a Remote t ≡ b
        → unwrap_or (cond b (Some t.number) None) (attempt j a Remote) < p.limit)
        (λ yes _. let parts = and_parts (t.action == a) (same_branch t.branch Remote) yes in
        by_bool (nat_le p.limit t.number) (λ b. nat_le p.limit t.number ≡ b
        → t.number < p.limit)
        (λ high _. absurd (let marked : is_action (last_of p.limit (Some t)) a ≡ true =
        (λ i. is_action (cond (parts.1 i && high i) (Some t.action) None) a) ∙ parts.0 in
        let clash = sym marked ∙ un in cc))
        (λ low _. leb-false p.limit t.number low) refl)
        (λ _ _. left) refl

    left_is : (a : ℕ) → attempt j a Remote < p.limit
        → is_action (last_of p.limit (begun_in x)) a ≡ false
        → attempt (here ∷ j) a Remote < p.limit
    left_is a left un = subst (λ k. k < p.limit) (sym (attempt_next here j a Remote))
        (left_by a (begun_in x) left un)

    by_entry : (kept : Bool) → (is_tick c && kept) ≡ false
        → StandsFor p n g (cond kept (here ∷ j) j)
    by_entry false none = record {
      ticks = is.ticks ∙ own.ticks;
      each = λ a. ap (λ (l : List ℕ). slice_get l a) is.counts ∙ own.each a;
      size = size_is;
      unmarked = λ a y at un. (was a y at un).0;
    }
    by_entry true none = record {
      ticks = is.ticks ∙ own.ticks;
      each = λ a. ap (λ (l : List ℕ). slice_get l a) is.counts ∙ own.each a
          ∙ (λ i. option_map (λ y. capped n (since_other here y (other (is_tick c) none) i))
          (slice_get p.actions a));
      size = size_is;
      unmarked = λ a y at un. let before = was a y at un in record {
        waits = before.0.waits;
        short = subst (λ k. k < n) (since_other here y (other (is_tick c) none)) before.0.short;
        left = left_is a before.0.left before.1;
      };
    }
      where
        other : (b : Bool) → (b && true) ≡ false → b ≡ false
        other false none = refl
        other true none = none

    pub uncounted : (is_tick c && is_kept x) ≡ false → StandsFor p n g (after j lane c x)
    uncounted none = by_entry (is_kept x) none

  pub ticked : (seats : ℕ) (s : State) (g : Facts) (c : Call) (x : Reply)
      → (is_tick c && is_kept x) ≡ true → Stands p seats s (after j lane c x)
      → IsCounted s.ready f g → StandsFor p n g (after j lane c x)
  ticked seats s g c x both st is =
      let parts = and_parts (is_tick c) (is_kept x) both in
      by (is_kept x) parts.1 c parts.0 st
    where
      by : (kept : Bool) → kept ≡ true → (d : Call) → is_tick d ≡ true
          → Stands p seats s (cond kept (record { lane = lane; call = d; reply = x } ∷ j) j)
          → StandsFor p n g (cond kept (record { lane = lane; call = d; reply = x } ∷ j) j)
      by true sure call.Tick does here = counted p j lane n seats s x here f g own is
      by true sure _ does here = absurd (cc)
      by false sure d does here = absurd (cc)
