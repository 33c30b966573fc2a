-- A Look that its lane's script has: the table of files answers as the rule does.
use Rattle.std.proofs.Common.{◌≡◌, ℕ, ◌+◌, ◌%◌, ◌^◌, ◌<◌, ◌≤◌, ◌==◌, nat_lt, Bool, true, false, ◌&&◌, ◌||◌, not, cond, List, [], ◌∷◌, length, get_or, Option, Some, None, is_some, option_map, unwrap_or, ◌⊎◌, inl, inr, refl, ap, sym, subst, ◌∙◌, ℤ, pos, arith}
use Rattle.std.specs.Prelude.{slice_get, option_and_then}
use Rattle.std.specs.List.{list_all, list_any}
use Rattle.std.specs.Ordering.{int_eq}
use Rattle.std.proofs.lemmas.Bool.{and_parts, eqb-true, ltb-true, or_cases}
use Rattle.std.proofs.lemmas.Option.{slice_get_cases, slice_get_within}
use Rattle.run_plan.specs.declared.plan.Kind.{Kind}
use Rattle.run_plan.specs.declared.plan.Maker.{Maker}
use Rattle.run_plan.specs.declared.plan.Plan.{Plan}
use Rattle.run_plan.specs.declared.plan.PlanAction.{PlanAction}
use Rattle.run_plan.specs.Sound.{Sound, has_branches, is_earlier}
use Rattle.exec_journal.specs.declared.attempt.Attempt.{Attempt}
use Rattle.exec_journal.specs.declared.call.Answer.{Answer}
use Rattle.exec_journal.specs.declared.call.Call.TheVariants as call
use Rattle.exec_journal.specs.declared.call.Wanted.{Wanted}
use Rattle.exec_journal.specs.declared.call.Wanted.TheVariants as look
use Rattle.exec_journal.specs.Entry.{Entry}
use Rattle.exec_journal.specs.declared.reply.Reply.{Reply}
use Rattle.exec_journal.specs.declared.reply.Reply.TheVariants as reply
use Rattle.exec_journal.specs.Rules as r
use Rattle.exec_journal.specs.Scripts.{is_made, makes, outputs_of}
use Rattle.exec_journal.specs.Entries.{gather_in, gather_of_entry, is_kept}
use Rattle.exec_journal.specs.Words.{grant_of, has_halted, last_work, match_of, stopped}
use Rattle.exec_journal.specs.Rules.{gathered}
use Rattle.exec_journal.proofs.Ruled.{by_bool}
use Rattle.core_contract.specs.Disciplines.{IsDiscipline, script_of}
use Rattle.core_contract.specs.Discipline.{Discipline}
use Rattle.discipline_laws.proofs.Fitting.{lawful}
use Rattle.core_tables.specs.declared.lanes.LaneState.{LaneState}
use Rattle.core_tables.specs.declared.lanes.Owed.{Owed}
use Rattle.core_tables.specs.declared.lanes.Owed.TheVariants as order
use Rattle.core_tables.specs.Lanes.{lane_in, may_look_by, may_some, order_after, order_of_work, state_by}
use Rattle.core_state.specs.declared.state.State.{State}
use Rattle.core_state.specs.Machine.{order_at, order_on}
use Rattle.core_laws.proofs.Rowed.{lane_inside}
use Rattle.spawn_core.specs.Allowed.{lane_within}
use Rattle.core_tables.specs.Stands as files
use Rattle.ready_order.proofs.AllSettled.{sound_at}
use Rattle.core_tables.specs.declared.files.Slot.{Slot}
use Rattle.core_tables.specs.declared.files.Slot.TheVariants.{Absent, Here, Short}
use Rattle.core_tables.specs.Slots as slots
use Rattle.core_tables.specs.Slots.{Filled, Tells, Told, outputs_at, outputs_on, rows_of, slot_at, slot_in}
use Rattle.core_tables.specs.Stands.{RowsStand, answer_file}
use Rattle.spawn_core.specs.Answers.{Replies, answer_by, is_file}
use Rattle.spawn_core.specs.Looks.{ToldGather, ToldLook}
use Rattle.spawn_core.specs.Stands.{TablesStand}
use Rattle.spawn_core.proofs.Newest.{gathered_match, gathering_going, gathering_ordered, newest_of}

-- ---- a slot that tells of a content

some_is : (o : Option (List ℕ)) → is_some o ≡ true → is_file (r.file_reply o) ≡ true
some_is (Some x) h = refl
some_is None h = absurd (cc)

pub told_file : (x : Slot) (o : Option (List ℕ)) (y : Reply) → Tells x o → Told (Some x) y
    → Replies (r.file_reply o) y
told_file Absent o y h t = inl (t ∙ ap r.file_reply (sym h))
told_file (Here content) o y h (inl t) = inl (t ∙ ap r.file_reply (sym h))
told_file (Here content) o y h (inr t) = inr (ap (λ q. is_file (r.file_reply q)) h, t)
told_file Short o y h t = inr (some_is o h, t)

-- a slot that is there
slot_there : (p : Plan) (rows : List (List Slot)) (c : ℕ → ℕ → Option (List ℕ)) (a o : ℕ)
    (y : Reply) → RowsStand p rows c → a < length p.actions → o < length (outputs_at p a)
    → Told (slot_at rows a o) y → Replies (r.file_reply (c a o)) y
slot_there p rows c a o y st within below t = row (slice_get_cases rows a).1
  where
    there : (slots : List Slot) → Filled slots (length (outputs_at p a)) (c a)
        → Told (slice_get slots o) y → Replies (r.file_reply (c a o)) y
    there slots full t = by (slice_get_cases slots o).1
      where
        by : ((x : Slot) × (o < length slots) × (slice_get slots o ≡ Some x)
            × (get_or slots o x ≡ x)) ⊎ ((length slots ≤ o) × (slice_get slots o ≡ None))
            → Replies (r.file_reply (c a o)) y
        by (inl w) = told_file w.0 (c a o) y (full.each o w.0 w.2) (subst (λ q. Told q y) w.2 t)
        by (inr w) = absurd (let le = w.0 in let n = full.count in omega arith)

    row : ((x : List Slot) × (a < length rows) × (slice_get rows a ≡ Some x)
        × (get_or rows a x ≡ x)) ⊎ ((length rows ≤ a) × (slice_get rows a ≡ None))
        → Replies (r.file_reply (c a o)) y
    row (inl w) = there w.0 (st.each a w.0 w.2) (subst (λ q. Told (slot_in q o) y) w.2 t)
    row (inr w) = absurd (let le = w.0 in let n = st.count in omega arith)

-- ---- a made input

record IsOutput (p : Plan) (a o : ℕ) : Type 0 where
  within : a < length p.actions
  below : o < length (outputs_at p a)

some_maker : (q : Maker → Bool) (e : Maker → Bool) (ms : List Maker) → list_any q ms ≡ true
    → list_all e ms ≡ true → (m : Maker) × (q m ≡ true) × (e m ≡ true)
some_maker q e [] h k = absurd (cc)
some_maker q e (m ∷ ms) h k = elim (or_cases (q m) (list_any q ms) h) [
  | inl here ↦ (m, here, (and_parts (e m) _ k).0)
  | inr more ↦ some_maker q e ms more (and_parts (e m) _ k).1
]

output_by : (p : Plan) (a o : ℕ) (q : Option PlanAction) → slice_get p.actions a ≡ q
    → unwrap_or (option_map (λ x. nat_lt o (length x.outputs)) q) false ≡ true → IsOutput p a o
output_by p a o (Some x) at h = record {
  within = slice_get_within p.actions a x at;
  below = (let lt = ltb-true o (length x.outputs) h in
      let n : length (outputs_at p a) ≡ length x.outputs = ap (λ q. length (outputs_on q)) at in
      omega arith);
}
output_by p a o None at h = absurd (cc)

made_output : (p : Plan) (b a o : ℕ) (q : Option PlanAction) → Sound p → slice_get p.actions b ≡ q
    → unwrap_or (option_map (λ x. list_any (λ m. is_made m a o) x.makers) q) false ≡ true
    → IsOutput p a o
made_output p b a o None sound at h = absurd (cc)
made_output p b a o (Some x) sound at h =
    let all = sound_at p 0 p.actions b x sound.each_action at in
    let earlier = (and_parts (has_branches (length p.groups) x) _
    (and_parts (nat_lt (length x.outputs) (2 ^ 32)) _ all).1).1 in
    let m = some_maker (λ m. is_made m a o) (is_earlier p.actions (0 + b)) x.makers h earlier in
    let parts = and_parts (m.0.action == a) _ m.1 in
    let out = output_by p m.0.action m.0.output (slice_get p.actions m.0.action) refl
    (and_parts (nat_lt m.0.action (0 + b)) _ m.2).1 in
    subst (λ i. IsOutput p i o) (eqb-true m.0.action a parts.0)
    (subst (λ i. IsOutput p m.0.action i) (eqb-true m.0.output o parts.1) out)

-- ---- the whole Look

abbrev gathered_by : Owed → Option Attempt
gathered_by (order.Gather l n t e v) = Some t
gathered_by _ = None

order_gathers : (x : Reply) → gathered_by (order_after x) ≡ gather_in x
order_gathers (reply.Gather l n a b t e v) = refl
order_gathers (reply.Launch l a b t) = refl
order_gathers (reply.Send l n a b t) = refl
order_gathers (reply.Cancel l n) = refl
order_gathers (reply.Kill l y) = refl
order_gathers (reply.Line l) = refl
order_gathers reply.Stop = refl
order_gathers _ = refl

work_gathers : (o : Option Entry) → gathered_by (order_of_work o) ≡ gather_of_entry o
work_gathers None = refl
work_gathers (Some e) = order_gathers e.reply

-- the file of an answer, as the rule looks for it
answer_same : (p : Plan) (a o : ℕ) (x : Answer) → option_and_then
    (λ path. r.last_file x.files path) (r.path_of p a o) ≡ answer_file p a (Some x) o
answer_same p a o x = by (slice_get p.actions a)
  where
    by : (q : Option PlanAction) → option_and_then (λ path. r.last_file x.files path)
        (option_and_then (λ y. slice_get y.outputs o) q) ≡ option_and_then (r.last_file x.files)
        (slice_get (outputs_on q) o)
    by None = refl
    by (Some y) = refl

answered_same : (p : Plan) (a o : ℕ) (m : Option Answer)
    → option_and_then (λ x. option_and_then (λ path. r.last_file x.files path) (r.path_of p a o)) m
    ≡ answer_file p a m o
answered_same p a o None = refl
answered_same p a o (Some x) = answer_same p a o x

gather_output : (p : Plan) (a o : ℕ) → o < outputs_of p a → IsOutput p a o
gather_output p a o lt = by (slice_get p.actions a) refl lt
  where
    by : (q : Option PlanAction) → slice_get p.actions a ≡ q
        → o < unwrap_or (option_map (λ x. length x.outputs) q) 0 → IsOutput p a o
    by None at h = absurd (omega arith)
    by (Some x) at h = record {
      within = slice_get_within p.actions a x at;
      below = (let n : length (outputs_at p a) ≡ length x.outputs =
          ap (λ q. length (outputs_on q)) at in omega arith);
    }

-- what the lane may look at is what its newest work orders
may_look : (q : Plan) (kind : Kind) (even : Bool) (x : Option LaneState) (w : Wanted)
    → may_some q kind even x (call.Look w) ≡ true → may_look_by q w (order_on x) ≡ true
may_look q kind even (Some x) w h =
    let parts = and_parts (not x.stopped) _ h in
    by_bool x.halted (λ b. cond b false (even && (may_look_by q w x.order || false)) ≡ true
    → may_look_by q w x.order ≡ true) (λ _ g. absurd (cc))
    (λ _ g. let more = (and_parts even _ g).1 in sym (or_false (may_look_by q w x.order))
    ∙ more) parts.1
  where
    or_false : (b : Bool) → (b || false) ≡ b
    or_false true = refl
    or_false false = refl
may_look q kind even None w h = absurd (cc)

module _ (q : Discipline) (is : IsDiscipline q) (own : List Entry → Type 0) (s : State)
    (f : slots.Facts) (j : List Entry) (lane : ℕ) (kind : Kind) (st : TablesStand q own s f j) where
  abbrev p : Plan
  p = q.plan

  order_is : (w : Wanted) → script_of q j lane (call.Look w) ≡ true
      → order_at s lane ≡ order_of_work (last_work j lane)
  unfolding lane_in
  order_is w may =
      ap order_on (st.tables.lanes lane ∙ ap (λ b. cond b
      (Some (state_by (last_work j lane) (stopped j lane) (has_halted j lane))) None)
      (lane_inside q.seats lane (lane_within q j lane (call.Look w) may)))

  made_look : (b a o : ℕ) (y : Reply) → makes p b a o ≡ true → Told (slot_at f.made a o) y
      → Replies (r.look_reply p j lane (look.Made a o)) y
  made_look b a o y h t =
      let out = made_output p b a o (slice_get p.actions b) st.tables.sound refl h in
      slot_there p f.made (λ i k. slice_get (r.files_of_grant (grant_of j i)) k) a o y st.kept.made
      out.within out.below t

  -- what the lane is to gather is under way, and was matched
  module _ (t : Attempt) (ordered : gather_of_entry (last_work j lane) ≡ Some t) where
    is_newest : match_of j t ≡ files.newest_match j t.action t.branch
    is_newest = by (match_of j t) refl
      where
        by : (m : Option Answer) → match_of j t ≡ m → m ≡ files.newest_match j t.action t.branch
        by (Some x) at = sym (newest_of p j t x (lawful q is j st.legal)
            (gathering_going p j lane t (lawful q is j st.legal) ordered) at)
        by None at = absurd (let some = gathered_match p j t (lawful q is j st.legal)
            (gathering_ordered p j lane t ordered) in let no = ap is_some at in cc)

    gather_look : (l o : ℕ) (n : ℤ) (y : Reply) → o < outputs_of p t.action
        → Told (slot_at (rows_of t.branch f) t.action o) y
        → Replies (r.look_reply p j lane (look.Answered l n o)) y
    gather_look l o n y lt told =
        let out = gather_output p t.action o lt in
        subst (λ (o : Option (List ℕ)). Replies (r.file_reply o) y)
        (sym (ap (λ z. r.answered_file p j z o) ordered ∙ answered_same p t.action o (match_of j t)
        ∙ ap (λ m. answer_file p t.action m o) is_newest))
        (slot_there p (rows_of t.branch f) (λ i k. answer_file p i
        (files.newest_match j i t.branch) k) t.action o y (st.kept.answered t.branch) out.within
        out.below told)

  answered_look : (o : Owed) (l k : ℕ) (n : ℤ) (y : Reply)
      → gathered_by o ≡ gather_of_entry (last_work j lane)
      → may_look_by p (look.Answered l n k) o ≡ true → ToldGather f o k y
      → Replies (r.look_reply p j lane (look.Answered l n k)) y
  answered_look (order.Gather i m t exit refused) l k n y is may told =
      let parts = and_parts ((l == i) && int_eq n m) _ may in
      let more = and_parts (int_eq exit (pos 0)) _ parts.1 in
      let last = and_parts (not refused) _ more.1 in
      gather_look t (sym is) l k n y (ltb-true k (outputs_of p t.action) last.1) told
  answered_look _ l k n y is may told = absurd (cc)

  sent_look : (o : Owed) (a k : ℕ) (y : Reply) → may_look_by p (look.Made a k) o ≡ true
      → Told (slot_at f.made a k) y → Replies (r.look_reply p j lane (look.Made a k)) y
  sent_look (order.Send l n t) a k y may told = made_look t.action a k y may told
  sent_look _ a k y may told = absurd (cc)

  look_is : (w : Wanted) (y : Reply) → script_of q j lane (call.Look w) ≡ true
      → may_look_by p w (order_at s lane) ≡ true → ToldLook s f lane w y
      → Replies (r.look_reply p j lane w) y
  look_is (look.Made a k) y may ordered told = sent_look (order_at s lane) a k y ordered told
  look_is (look.Answered l n k) y may ordered told =
      answered_look (order_at s lane) l k n y (ap gathered_by (order_is (look.Answered l n k) may)
      ∙ work_gathers (last_work j lane)) ordered told

  pub look_told : (w : Wanted) (y : Reply) → script_of q j lane (call.Look w) ≡ true
      → may_some p kind (lane % 2 == 0) (slice_get s.lanes lane) (call.Look w) ≡ true
      → ToldLook s f lane w y → Replies (answer_by q j lane (call.Look w)) y
  look_told w y may allowed told =
      subst (λ (b : Bool). Replies (cond b (q.rule j lane (call.Look w)) reply.Astray) y) (sym may)
      (subst (λ (z : Reply). Replies z y) (sym (is.plain j lane (call.Look w) refl)) (look_is w y may (may_look p kind (lane % 2 == 0) (slice_get s.lanes lane) w allowed)
      told))

-- the reply to a Look isn't kept
told_unkept : (o : Option Slot) (y : Reply) → Told o y → is_kept y ≡ false
told_unkept (Some (Here content)) y (inl h) = ap is_kept h
told_unkept (Some (Here content)) y (inr h) = ap is_kept h
told_unkept (Some Short) y h = ap is_kept h
told_unkept (Some Absent) y h = ap is_kept h
told_unkept None y h = ap is_kept h

gather_unkept : (f : slots.Facts) (o : Owed) (k : ℕ) (y : Reply) → ToldGather f o k y
    → is_kept y ≡ false
gather_unkept f (order.Gather l n t e v) k y h = told_unkept
    (slot_at (rows_of t.branch f) t.action k) y h
gather_unkept f _ k y h = ap is_kept h

pub look_unkept : (s : State) (f : slots.Facts) (lane : ℕ) (w : Wanted) (y : Reply)
    → ToldLook s f lane w y → is_kept y ≡ false
look_unkept s f lane (look.Made a o) y h = told_unkept (slot_at f.made a o) y h
look_unkept s f lane (look.Answered l n o) y h = gather_unkept f (order_at s lane) o y h
