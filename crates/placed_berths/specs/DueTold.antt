-- What the tables say of an action is what the journal says for which they stand.
use Rattle.std.proofs.Common.{◌≡◌, ℕ, suc, ◌+◌, ◌==◌, nat_le, nat_lt, Bool, true, false, ◌&&◌, ◌||◌, not, cond, List, [], ◌∷◌, length, Option, Some, None, is_none, is_some, option_map, unwrap_or, refl, ap, sym, subst, ◌∙◌, arith}
use Rattle.std.specs.Prelude.{option_and_then, slice_get}
use Rattle.std.proofs.lemmas.Bool.{and_left, and_parts, and_right, lt-leb, eq-eqb, eqb-true, le-leb, le-ltb, ltb-false}
use Rattle.std.proofs.lemmas.Option.{slice_get_within}
use Rattle.run_plan.specs.declared.plan.Branch.{Branch}
use Rattle.run_plan.specs.declared.plan.Branch.TheVariants.{Local, Remote}
use Rattle.run_plan.specs.declared.plan.Plan.{Plan}
use Rattle.run_plan.specs.declared.plan.PlanAction.{PlanAction}
use Rattle.run_plan.specs.Sound.{Sound, are_different}
use Rattle.list_lemmas.specs.Options.{or_else}
use Rattle.exec_journal.specs.declared.attempt.Attempt.{Attempt}
use Rattle.exec_journal.specs.Attempts.{attempt, dropped}
use Rattle.exec_journal.specs.Entries.{attempt_of}
use Rattle.exec_journal.specs.Entry.{Entry}
use Rattle.exec_journal.specs.Facts.{begun}
use Rattle.exec_journal.specs.declared.reply.Reply.TheVariants as reply
use Rattle.exec_journal.specs.Rules as r
use Rattle.exec_journal.specs.Settled.{all_settled, is_settled, queued, ready, uses}
use Rattle.exec_journal.specs.Settled as words
use Rattle.exec_journal.specs.Words.{granted}
use Rattle.exec_journal.proofs.Begins.{attempts_in_order}
use Rattle.exec_journal.proofs.Ruled.{by_bool}
use Rattle.ready_order.specs.declared.ActionState.{ActionState}
use Rattle.ready_order.specs.Queue.{is_open, is_open_at, is_ready, is_ready_at, may_begin, queued_branch, seat_of}
use Rattle.ready_order.specs.Stands as queues
use Rattle.ready_order.proofs.AllSettled as settled
use Rattle.ready_order.proofs.AllSettled.{sound_at}
use Rattle.ready_order.proofs.Queued.{queued_is, ready_is, settled_at}
use Rattle.retry_rules.specs.Counts.{ended_of}
use Rattle.retry_rules.proofs.Told.{count_says}
use Rattle.core_state.specs.declared.state.State.{State}
use Rattle.core_state.specs.Choices.{is_over}
use Rattle.core_laws.specs.Stands.{Stands}
use Rattle.core_laws.proofs.AllOf.{all_of}
use Rattle.core_laws.proofs.Read as read
use Rattle.earliest_first.specs.Choices.{next_of}
use Rattle.earliest_first.proofs.Queued.{earliest_of_is, number_next}
use Rattle.placed_rules.specs.Due as de
use Rattle.placed_rules.specs.Due.{ticks_since}
use Rattle.placed_rules.proofs.Nexts.{nexts}
use Rattle.placed_berths.specs.Due as c
use Rattle.placed_berths.specs.Counts.{Facts, capped, count_at, is_marked}
use Rattle.placed_berths.specs.Basis.{ticks_in}
use Rattle.placed_berths.specs.Stands.{DelayStands, IsHeld, StandsFor}

-- ---- counts

pub reached : (n t : ℕ) → nat_le n (capped n t) ≡ nat_le n t
reached n t = by_bool (nat_lt t n) (λ b. nat_lt t n ≡ b → nat_le n (cond b t n) ≡ nat_le n t)
    (λ _ _. refl)
    (λ no _. let ge = ltb-false t n no in
    le-leb n n (omega arith) ∙ sym (le-leb n t (omega (arith, ge)))) refl

pub under : (n t : ℕ) → nat_lt (capped n t) n ≡ nat_lt t n
under n t = by_bool (nat_lt t n) (λ b. nat_lt t n ≡ b → nat_lt (cond b t n) n ≡ b)
    (λ _ e. e) (λ _ _. le-ltb n n (omega arith)) refl

-- ---- an action

-- of an action that uses both branches they are of different groups
pub apart : (p : Plan) (g a : ℕ) (x : PlanAction) → Sound p → slice_get p.actions a ≡ Some x
    → uses x Local g ≡ true → uses x Remote g ≡ false
apart p g a x sound at local =
    let whole = sound_at p 0 p.actions a x sound.each_action at in
    let branches = and_parts _ _ (and_parts _ _ whole).1 in
    by x.local x.remote (and_parts _ _ (and_parts _ _ branches.0).1).1 local
  where
    by : (l o : Option ℕ) → are_different l o ≡ true
        → unwrap_or (option_map (λ k. k == g) l) false ≡ true
        → unwrap_or (option_map (λ k. k == g) o) false ≡ false
    by l None other here = refl
    by None (Some h) other here = absurd (cc)
    by (Some k) (Some h) other here =
        by_bool (h == g) (λ b. h == g ≡ b → b ≡ false)
        (λ yes _. absurd (let one = eqb-true k g here in let two = eqb-true h g yes in
        let same : k ≡ h = one ∙ sym two in
        let clash : not (h == h) ≡ true = subst (λ m. not (m == h) ≡ true) same other in
        let here = eq-eqb h h refl in cc))
        (λ _ _. refl) refl

-- ready, settled and settled by itself, granted, with Ticks to come
all_waits : (d m g o v t : Bool) → (m ≡ true → v ≡ o)
    → (d && (m && ((not g && not o) && t))) ≡ ((d && m) && ((not v && not g) && t))
all_waits false m g o v t h = refl
all_waits true false g o v t h = refl
all_waits true true g o v t h = rw (h refl) (by g o)
  where
    by : (g o : Bool) → ((not g && not o) && t) ≡ ((not o && not g) && t)
    by true true = refl
    by true false = refl
    by false true = refl
    by false false = refl

-- which branch goes: whether each is of the group and queued, and whether the local one has waited
branch_goes : (a m n : ℕ) (u k w v l : Bool) → (u ≡ true → v ≡ false)
    → option_map (λ b. (a, b)) (c.if_goes w (cond (u && k) (Some Local)
    (cond (v && l) (Some Remote) None)))
    ≡ queues.branch_of (cond (u && (k && w)) (Some (attempt_of a Local m))
    (cond (v && l) (Some (attempt_of a Remote n)) None))
branch_goes a m n false k w true true h = refl
branch_goes a m n false k w true false h = refl
branch_goes a m n false k w false l h = refl
branch_goes a m n true true true v l h = refl
branch_goes a m n true true false true l h = absurd (let e = h refl in cc)
branch_goes a m n true true false false l h = refl
branch_goes a m n true false w true true h = refl
branch_goes a m n true false w true false h = refl
branch_goes a m n true false w false l h = refl

module _ (p : Plan) (n seats : ℕ) (f : Facts) (s : State) (j : List Entry)
    (st : Stands p seats s j) (own : StandsFor p n f j) where
  pub over_is : is_over s ≡ r.is_over p j
  over_is = ap (λ b. b || s.halted) (settled.over_is p s.ready j st.ready st.sound)
      ∙ ap (λ b. all_settled p j || b) st.halted

  module _ (a : ℕ) (x : PlanAction) (at : slice_get p.actions a ≡ Some x) where
    there : slice_get s.ready a ≡ Some (queues.state_in p j a x)
    there = st.ready.each a ∙ ap (option_map (queues.state_in p j a)) at

    dual_is : c.is_dual_at s a ≡ de.is_dual x
    dual_is =
        ap (λ (q : Plan). unwrap_or (option_map de.is_dual (slice_get q.actions a)) false) st.plan
        ∙ ap (λ (o : Option PlanAction). unwrap_or (option_map de.is_dual o) false) at

    count_is : count_at f a ≡ capped n (de.ticks_since p j x)
    count_is = ap (λ (o : Option ℕ). unwrap_or o 0) (own.each a
        ∙ ap (option_map (λ y. capped n (de.ticks_since p j y))) at)

    dropped_is : c.is_dropped s a ≡ dropped p j a Remote
    unfolding dropped
    dropped_is =
        ap (λ (q : Plan). nat_le q.limit (ended_of s.attempts a Remote)) st.plan
        ∙ count_says p j (attempts_in_order p j st.lawful)
        (all_of p seats s j st).facts.unbegun_goes s.attempts (attempt_of a Remote p.limit)
        st.attempts (slice_get_within p.actions a x at) st.sound.least

    waited_is : c.has_waited f s a ≡ de.has_waited p n j a x
    waited_is =
        let reach : nat_le f.ticks (count_at f a) ≡ nat_le n (de.ticks_since p j x) =
        (λ i. nat_le (own.ticks i) (count_is i)) ∙ reached n (de.ticks_since p j x) in
        λ i. not (dual_is i) || (reach i || dropped_is i)

    pub ready_at_is : is_ready_at s.ready a ≡ ready p j x
    ready_at_is = ap (λ (o : Option ActionState). unwrap_or (option_map (is_ready s.ready) o) false)
        there ∙ ready_is p s.ready j st.ready x

    open_at_is : is_open_at s.ready a
        ≡ (not (granted j a) && not (is_settled (queues.own_in p j a x)))
    open_at_is = ap (λ (o : Option ActionState). unwrap_or (option_map is_open o) false) there

    pub waits_is : c.waits_at f s a ≡ de.waits_for_tick p n j a x
    waits_is =
        let below : nat_lt (count_at f a) f.ticks ≡ nat_lt (de.ticks_since p j x) n =
        (λ i. nat_lt (count_is i) (own.ticks i)) ∙ under n (de.ticks_since p j x) in
        (λ i. dual_is i && (ready_at_is i && (open_at_is i && below i)))
        ∙ all_waits (de.is_dual x) (ready p j x) (granted j a) (is_settled (queues.own_in p j a x))
        (words.settled p j a) (nat_lt (de.ticks_since p j x) n) (λ made. settled_at p j a x at made)

    pub branch_is : (g : ℕ) → option_map (λ b. (a, b)) (c.branch_at f s g a)
        ≡ queues.branch_of (de.delayed_in p n j g a x)
    branch_is g =
        let same : (b : Branch) → may_begin s.ready g (queues.state_in p j a x)
        (seat_of b (queues.state_in p j a x)) ≡ (uses x b g && queued p j a b x) =
        λ b. sym (ap (λ (o : Option ActionState). unwrap_or
        (option_map (λ y. may_begin s.ready g y (seat_of b y)) o) false) there)
        ∙ queued_is p s.ready j st.ready g a b x at in
        ap (λ (o : Option ActionState). option_map (λ b. (a, b)) (c.if_goes (c.has_waited f s a)
        (option_and_then (queued_branch s.ready g) o))) there
        ∙ (λ i. option_map (λ b. (a, b)) (c.if_goes (waited_is i) (cond (same Local i) (Some Local)
        (cond (same Remote i) (Some Remote) None))))
        ∙ branch_goes a (attempt j a Local + 1) (attempt j a Remote + 1) (uses x Local g)
        (queued p j a Local x) (de.has_waited p n j a x) (uses x Remote g) (queued p j a Remote x)
        (λ local. apart p g a x st.sound at local)

    -- ---- where the action is held

    module _ (held : IsHeld p n j a x) where
      abbrev last : Attempt
      last = attempt_of a Remote p.limit

      not_begun : begun j last ≡ false
      not_begun =
          by_bool (begun j last) (λ b. b ≡ false)
          (λ yes. absurd (let most = (attempts_in_order p j st.lawful).numbered last yes in
          let left = held.left in let high = most.1 in omega (arith, high, left)))
          (λ _. refl)

      not_dropped : dropped p j a Remote ≡ false
      unfolding dropped
      not_dropped = (all_of p seats s j st).facts.unbegun_goes last not_begun

      still_waits : de.has_waited p n j a x ≡ false
      still_waits =
          let dual = (and_parts (de.is_dual x) _ held.waits).0 in
          let short = held.short in
          λ i. not (dual i) || (lt-leb n (ticks_since p j x) short i || not_dropped i)

      -- no worker runs its remote branch
      no_worker : (g : ℕ) → c.runs_executors p g ≡ false → uses x Remote g ≡ false
      no_worker g workers = by x.remote (and_parts (de.is_dual x) _ held.waits).1
        where
          by : (o : Option ℕ)
              → unwrap_or (option_map (c.runs_executors p) o) false ≡ true
              → unwrap_or (option_map (λ k. k == g) o) false ≡ false
          by None run = refl
          by (Some h) run =
              by_bool (h == g) (λ b. h == g ≡ b → b ≡ false)
              (λ yes _. absurd (let same = ap (c.runs_executors p) (eqb-true h g yes) in
              let clash = sym run ∙ same ∙ workers in cc))
              (λ _ _. refl) refl

      no_attempt : (g : ℕ) → c.runs_executors p g ≡ false → de.delayed_in p n j g a x ≡ None
      no_attempt g workers =
          let first : (uses x Local g && (queued p j a Local x && de.has_waited p n j a x)) ≡ false =
          and_right _ _ (and_right _ _ still_waits) in
          let second : (uses x Remote g && queued p j a Remote x) ≡ false =
          and_left _ _ (no_worker g workers) in
          λ i. cond (first i) (Some (attempt_of a Local (attempt j a Local + 1)))
          (cond (second i) (Some (attempt_of a Remote (attempt j a Remote + 1))) None)

      pub none_goes : (g : ℕ) → c.runs_executors p g ≡ false → c.branch_at f s g a ≡ None
      none_goes g workers =
          by (c.branch_at f s g a) (branch_is g ∙ ap queues.branch_of (no_attempt g workers))
        where
          by : (o : Option Branch) → option_map {U = ℕ × Branch} (λ b. (a, b)) o ≡ None
              → o ≡ None
          by None h = refl
          by (Some b) h = absurd (cc)

  -- an action of no number has no branch
  pub none_past : (a : ℕ) → slice_get p.actions a ≡ None → (g : ℕ) → c.branch_at f s g a ≡ None
  none_past a past g =
      ap (λ (o : Option ActionState). c.if_goes (c.has_waited f s a)
      (option_and_then (queued_branch s.ready g) o))
      (st.ready.each a ∙ ap (option_map (queues.state_in p j a)) past)

  -- ---- all of them

  firsts : (g a : ℕ) (xs : List PlanAction)
      → ((i : ℕ) (x : PlanAction) → slice_get xs i ≡ Some x
      → slice_get p.actions (a + i) ≡ Some x)
      → c.first_among (c.branch_at f s g) a (length xs) ≡ queues.branch_of (de.delayed_from p n j g a xs)
  firsts g a [] at = refl
  firsts g a (x ∷ xs) at =
      let e : a + 0 ≡ a = omega arith in
      let first = branch_is a x (subst (λ k. slice_get p.actions k ≡ Some x) e (at 0 x refl)) g in
      let rest = firsts g (a + 1) xs (λ i y h. let k : a + suc i ≡ a + 1 + i = omega arith in
      subst (λ m. slice_get p.actions m ≡ Some y) k (at (suc i) y h)) in
      (λ i. or_else (first i) (rest i))
      ∙ branch_or (de.delayed_in p n j g a x) (de.delayed_from p n j g (a + 1) xs)
    where
      branch_or : (o q : Option Attempt)
          → or_else (queues.branch_of o) (queues.branch_of q) ≡ queues.branch_of (or_else o q)
      branch_or None q = refl
      branch_or (Some t) q = refl

  first_is : (g : ℕ) → c.first_in f s g ≡ queues.branch_of (de.delayed_earliest p n j g)
  unfolding de.delayed_earliest
  first_is g =
      ap (λ (q : Plan). c.first_among (c.branch_at f s g) 0 (length q.actions)) st.plan
      ∙ firsts g 0 p.actions (λ i x h. let k : i ≡ 0 + i = omega arith in
      subst (λ m. slice_get p.actions m ≡ Some x) k h)

  -- what is next in the group
  pub delayed_is : (g : ℕ)
      → option_map (next_of s) (c.first_in f s g) ≡ de.delayed_earliest p n j g
  delayed_is g = ap (option_map (next_of s)) (first_is g) ∙ by (de.delayed_earliest p n j g) refl
    where
      by : (o : Option Attempt) → de.delayed_earliest p n j g ≡ o
          → option_map (next_of s) (queues.branch_of o) ≡ o
      by None h = refl
      by (Some t) h =
          ap Some (number_next p j s.attempts g t st.attempts ((nexts p n j).is g t h))

  some_are : (a : ℕ) (xs : List PlanAction)
      → ((i : ℕ) (x : PlanAction) → slice_get xs i ≡ Some x
      → slice_get p.actions (a + i) ≡ Some x)
      → c.some_among f s a (length xs) ≡ de.some_waits p n j a xs
  some_are a [] at = refl
  some_are a (x ∷ xs) at =
      let e : a + 0 ≡ a = omega arith in
      let first = waits_is a x (subst (λ k. slice_get p.actions k ≡ Some x) e (at 0 x refl)) in
      let rest = some_are (a + 1) xs (λ i y h. let k : a + suc i ≡ a + 1 + i = omega arith in
      subst (λ m. slice_get p.actions m ≡ Some y) k (at (suc i) y h)) in
      let z : a + 1 ≡ suc a = omega arith in
      λ i. first i || (rest ∙ ap (λ m. de.some_waits p n j m xs) z) i

  pub some_is : c.some_waits f s ≡ de.some_waits p n j 0 p.actions
  some_is =
      ap (λ (q : Plan). c.some_among f s 0 (length q.actions)) st.plan
      ∙ some_are 0 p.actions (λ i x h. let k : i ≡ 0 + i = omega arith in
      subst (λ m. slice_get p.actions m ≡ Some x) k h)

  -- what a Tick is answered
  pub ticked_is : c.ticked f s ≡ de.tick_reply p n j
  ticked_is = λ i. cond (over_is i) reply.Stop (cond (some_is i) reply.Noted reply.Idle)

-- ---- with Ticks and without

some_map : {X Y : Type 0} (h : X → Y) (o : Option X) → is_some (option_map h o) ≡ is_some o
some_map h None = refl
some_map h (Some x) = refl

none_map : {X Y : Type 0} (h : X → Y) (o : Option X) → is_none (option_map h o) ≡ is_none o
none_map h None = refl
none_map h (Some x) = refl

module _ (p : Plan) (seats : ℕ) (s : State) (j : List Entry) (st : Stands p seats s j) where
  pub next_is : (ticks : Option ℕ) (d : Option Facts) → DelayStands p ticks d j → (g : ℕ)
      → c.next_in d s g ≡ de.next_due p ticks j g
  next_is None None own g =
      earliest_of_is p j s.ready s.attempts g st.ready st.attempts
  next_is (Some n) (Some f) own g = delayed_is p n seats f s j st own g
  next_is None (Some f) own g = absurd own
  next_is (Some n) None own g = absurd own

  pub due_some : (ticks : Option ℕ) (d : Option Facts) → DelayStands p ticks d j → (g : ℕ)
      → is_some (c.due_in d s g) ≡ is_some (de.next_due p ticks j g)
  due_some ticks d own g =
      sym (some_map (next_of s) (c.due_in d s g)) ∙ ap is_some (next_is ticks d own g)

  pub due_none : (ticks : Option ℕ) (d : Option Facts) → DelayStands p ticks d j → (g : ℕ)
      → is_none (c.due_in d s g) ≡ is_none (de.next_due p ticks j g)
  due_none ticks d own g =
      sym (none_map (next_of s) (c.due_in d s g)) ∙ ap is_none (next_is ticks d own g)

  -- by how many Ticks it goes
  pub ticks_same : (ticks : Option ℕ) (d : Option Facts) → DelayStands p ticks d j
      → ticks_in d ≡ ticks
  ticks_same None None own = refl
  ticks_same (Some n) (Some f) own = ap Some own.ticks
  ticks_same None (Some f) own = absurd own
  ticks_same (Some n) None own = absurd own

  -- of an action that isn't marked no branch goes in a group of workers
  unmarked_waits : (n : ℕ) (f : Facts) → StandsFor p n f j → (g a : ℕ)
      → c.runs_executors p g ≡ false → is_marked f a ≡ false → c.branch_at f s g a ≡ None
  unmarked_waits n f own g a workers un = by (slice_get p.actions a) refl
    where
      by : (o : Option PlanAction) → slice_get p.actions a ≡ o → c.branch_at f s g a ≡ None
      by None past = none_past p n seats f s j st own a past g
      by (Some x) at =
          none_goes p n seats f s j st own a x at (own.unmarked a x at un) g workers

  delay_reads : (n : ℕ) (f : Facts) → StandsFor p n f j → c.ReadsDelay f s
  delay_reads n f own =
      let facts = (all_of p seats s j st).facts in
      let same = ap (λ (q : Plan). length q.actions) st.plan in
      record {
        states = read.states_are p seats s j st facts ∙ sym same;
        ended = read.counts_are p seats s j st facts ∙ sym same;
        few = (let most = st.sound.actions in omega arith);
        marks = own.size ∙ sym same;
        unmarked = λ g a workers un. unmarked_waits n f own g a
            (ap (λ (q : Plan). c.runs_executors q g) (sym st.plan) ∙ workers) un;
      }

  pub reads_due : (ticks : Option ℕ) (d : Option Facts) → DelayStands p ticks d j
      → c.ReadsDue d s
  reads_due None None own = tt
  reads_due (Some n) (Some f) own = delay_reads n f own
  reads_due None (Some f) own = absurd own
  reads_due (Some n) None own = absurd own

  -- what a Tick is answered, where a lane makes them
  pub ticked_by : (ticks : Option ℕ) (d : Option Facts) → DelayStands p ticks d j
      → (ticks ≡ None → ⊥) → c.ticked_by d s ≡ de.ticked p ticks j
  ticked_by None d own some = absurd (some refl)
  ticked_by (Some n) (Some f) own some = ticked_is p n seats f s j st own
  ticked_by (Some n) None own some = absurd own
