-- Where each group has berths of its own, a legal journal is lawful, and each line runs its berth's group.
use Rattle.std.proofs.Common.{◌≡◌, ℕ, zero, suc, ◌+◌, ◌-◌, ◌*◌, ◌/◌, ◌%◌, ◌<◌, ◌==◌, nat_lt, Bool, true, false, ◌&&◌, ◌||◌, not, cond, List, [], ◌∷◌, Option, Some, None, option_map, unwrap_or, ◌⊎◌, inl, inr, refl, sym, ap, subst, ◌∙◌, ℤ, pos, sum_by, arith}
use Rattle.std.specs.Ordering.{int_eq}
use Rattle.std.specs.Prelude.{slice_get, option_and_then}
use Rattle.std.proofs.lemmas.Bool.{ltb-true, ltb-false, and_parts, and_from, or_cases, or_right, or_left}
use Rattle.std.proofs.lemmas.List.Sums.{sum_by-cons}
use Rattle.run_plan.specs.declared.plan.Branch.{Branch}
use Rattle.run_plan.specs.declared.plan.Group.{Group}
use Rattle.run_plan.specs.declared.plan.Kind.{Kind}
use Rattle.run_plan.specs.declared.plan.Kind.TheVariants as kind
use Rattle.run_plan.specs.declared.plan.Plan.{Plan}
use Rattle.run_plan.specs.Groups.{group_from, berth_group, berths, kind_of, is_remote, first_berth, berths_of}
use Rattle.exec_journal.specs.declared.attempt.Attempt.{Attempt}
use Rattle.exec_journal.specs.Entry.{Entry}
use Rattle.exec_journal.specs.declared.call.Answer.{Answer}
use Rattle.exec_journal.specs.declared.call.Call.{Call}
use Rattle.exec_journal.specs.declared.call.Call.TheVariants as call
use Rattle.exec_journal.specs.declared.call.Found.{Found}
use Rattle.exec_journal.specs.declared.call.Found.TheVariants as found
use Rattle.exec_journal.specs.declared.reply.Reply.{Reply}
use Rattle.exec_journal.specs.declared.reply.Reply.TheVariants as reply
use Rattle.exec_journal.specs.declared.reply.Why.TheVariants as why
use Rattle.exec_journal.specs.History.{AtEach}
use Rattle.exec_journal.specs.Entries.{launch_in, attempt_of, same_attempt}
use Rattle.exec_journal.specs.declared.ends.Cause.{Cause}
use Rattle.exec_journal.specs.declared.ends.Cause.TheVariants as cause
use Rattle.exec_journal.specs.Words.{why_of, launch_of, last_line, last_work, stopped, has_halted, line_count}
use Rattle.exec_journal.specs.Settled.{earliest, some_free}
use Rattle.exec_journal.specs.Seated.{group_for, kind_in, group_on, line_group, line_kind}
use Rattle.exec_journal.specs.Rules as r
use Rattle.exec_journal.specs.Scripts as sc
use Rattle.exec_journal.specs.Lawful as lw
use Rattle.exec_journal.specs.Lawful.{Lawful, LawfulEntry, Told, Asked, IsNextOf, NoneBefore}
use Rattle.exec_journal.specs.Legal.{Legal, LegalEntry}
use Rattle.exec_journal.specs.Kept.{Kept, own_berths_kept}
use Rattle.exec_journal.specs.Facts.{call_line, IsOfBerth, OfBerth}
use Rattle.run_plan.specs.Sound.{Sound}
use Rattle.exec_journal.proofs.Ruled as ru
use Rattle.exec_journal.proofs.Ruled.{by_bool, not_true}
use Rattle.exec_journal.proofs.Reasons as u
use Rattle.exec_journal.proofs.Begins.{earliest_next}
use Rattle.exec_journal.proofs.Lines.{last_line_own, lines_named, script_own}
use Rattle.journal_laws.proofs.Claims.{clash}
use Rattle.journal_laws.proofs.Requests as q
use Rattle.journal_laws.proofs.Keeping as ke

-- each line runs the group of its berth
unfoldable pub SeatedAt : Plan → List Entry → Type 0
SeatedAt p j = (l w : ℕ) → IsOfBerth j l w → group_on p j l ≡ berth_group p w

-- ---- scripts

-- what may be found on an executor's line may be found on any
found_anywhere : (n : ℕ) (remote : Bool) (exit : ℤ) (refused : Bool) (f : Found) → sc.may_find n remote exit refused f ≡ true → sc.may_find n false exit refused f ≡ true
found_anywhere n remote exit refused f h =
    by_bool (not (int_eq exit (pos 0)))
    (λ b. cond b (sc.is_exit exit f) (cond refused (sc.is_refusal f) (sc.is_gathered n remote f)) ≡ true → cond b (sc.is_exit exit f) (cond refused (sc.is_refusal f) (sc.is_gathered n false f)) ≡ true)
    (λ _ k. k)
    (λ _ k. by_bool refused (λ b. cond b (sc.is_refusal f) (sc.is_gathered n remote f) ≡ true → cond b (sc.is_refusal f) (sc.is_gathered n false f) ≡ true) (λ _ m. m) (λ _ m. gathered f m) k) h
  where
    gathered : (g : Found) → sc.is_gathered n remote g ≡ true → sc.is_gathered n false g ≡ true
    gathered (found.Files fs) m = m
    gathered (found.Missing k) m = m
    gathered found.RoomFault m = refl
    gathered (found.Exit k) m = m
    gathered found.Refused m = m

owed_anywhere : (p : Plan) (k : Kind) (c : Call) (x : Reply) → sc.is_owed p k c x ≡ true → sc.is_owed p kind.Single c x ≡ true
owed_anywhere p k (call.Claim a b t f) (reply.Gather l n d e v exit refused) h =
    let parts = and_parts (same_attempt (attempt_of a b t) (attempt_of d e v)) _ h in
    and_from _ _ parts.0 (found_anywhere (sc.outputs_of p a) (is_remote k) exit refused f parts.1)
owed_anywhere p k (call.Claim a b t f) _ h = absurd (cc)
owed_anywhere p k (call.Launched l how) x h = by x h
  where
    by : (x : Reply) → sc.is_owed p k (call.Launched l how) x ≡ true → sc.is_owed p kind.Single (call.Launched l how) x ≡ true
    by (reply.Launch m a b t) h = h
    by _ h = absurd (cc)
owed_anywhere p k (call.Wrote l n how) x h = by x h
  where
    by : (x : Reply) → sc.is_owed p k (call.Wrote l n how) x ≡ true → sc.is_owed p kind.Single (call.Wrote l n how) x ≡ true
    by (reply.Send m o a b t) h = h
    by (reply.Cancel m o) h = h
    by _ h = absurd (cc)
owed_anywhere p k (call.Killed l) x h = by x h
  where
    by : (x : Reply) → sc.is_owed p k (call.Killed l) x ≡ true → sc.is_owed p kind.Single (call.Killed l) x ≡ true
    by (reply.Kill m y) h = h
    by _ h = absurd (cc)
owed_anywhere p k (call.Look w) x h = h
owed_anywhere p k call.Ask x h = absurd (cc)
owed_anywhere p k call.Tick x h = absurd (cc)
owed_anywhere p k call.Take x h = absurd (cc)
owed_anywhere p k call.Halt x h = absurd (cc)
owed_anywhere p k (call.Committed a b how) x h = absurd (cc)
owed_anywhere p k (call.Answer l x) y h = absurd (cc)
owed_anywhere p k (call.Ended l how) x h = absurd (cc)

after_anywhere : (p : Plan) (k : Kind) (c : Call) (o : Option Entry) → sc.is_owed_after p k c o ≡ true → sc.is_owed_after p kind.Single c o ≡ true
after_anywhere p k c (Some e) h = elim (or_cases (sc.is_owed p k c e.reply) _ h) [
  | inl a ↦ or_left _ _ (owed_anywhere p k c e.reply a)
  | inr b ↦ or_right (sc.is_owed p kind.Single c e.reply) _ b
]
after_anywhere p k c None h = absurd (cc)

pub allowed_anywhere : (p : Plan) (k : Kind) (proxy : Bool) (o : Option Entry) (c : Call) → sc.allowed p k proxy o c ≡ true → sc.allowed p kind.Single proxy o c ≡ true
allowed_anywhere p k proxy o call.Ask h = h
allowed_anywhere p k proxy o call.Take h = h
allowed_anywhere p k proxy o (call.Answer l x) h = h
allowed_anywhere p k proxy o (call.Ended l how) h = h
allowed_anywhere p k proxy o call.Halt h = h
allowed_anywhere p k proxy o (call.Launched l how) h = let t = and_parts proxy _ h in and_from _ _ t.0 (after_anywhere p k (call.Launched l how) o t.1)
allowed_anywhere p k proxy o (call.Wrote l n how) h = let t = and_parts proxy _ h in and_from _ _ t.0 (after_anywhere p k (call.Wrote l n how) o t.1)
allowed_anywhere p k proxy o (call.Look w) h = let t = and_parts proxy _ h in and_from _ _ t.0 (after_anywhere p k (call.Look w) o t.1)
allowed_anywhere p k proxy o (call.Claim a b n f) h = let t = and_parts proxy _ h in and_from _ _ t.0 (after_anywhere p k (call.Claim a b n f) o t.1)
allowed_anywhere p k proxy o (call.Committed a b how) h = let t = and_parts proxy _ h in and_from _ _ t.0 (after_anywhere p k (call.Committed a b how) o t.1)
allowed_anywhere p k proxy o (call.Killed l) h = let t = and_parts proxy _ h in and_from _ _ t.0 (after_anywhere p k (call.Killed l) o t.1)
allowed_anywhere p k proxy o call.Tick h = let t = and_parts proxy _ h in and_from _ _ t.0 (after_anywhere p k call.Tick o t.1)

-- a lane's script, of whichever kind its line is and however many lanes there are
pub runs_script : (p : Plan) (k : Kind) (j : List Entry) (lane : ℕ) (c : Call)
    → (not (stopped j lane) && (cond (has_halted j lane) (sc.is_owed_commit c (last_work j lane)) (sc.allowed p k (lane % 2 == 0) (last_work j lane) c))) ≡ true → lw.in_script p j lane c ≡ true
runs_script p k j lane c h =
    let t = and_parts (not (stopped j lane)) _ h in
    and_from _ _ t.0
    (by_bool (has_halted j lane)
    (λ b. cond b (sc.is_owed_commit c (last_work j lane)) (sc.allowed p k (lane % 2 == 0) (last_work j lane) c) ≡ true
    → cond b (sc.is_owed_commit c (last_work j lane)) (lw.may_tick (lane % 2 == 0) (last_work j lane) c || sc.allowed p kind.Single (lane % 2 == 0) (last_work j lane) c) ≡ true)
    (λ _ m. m) (λ _ m. or_right (lw.may_tick (lane % 2 == 0) (last_work j lane) c) _ (allowed_anywhere p k (lane % 2 == 0) (last_work j lane) c m)) t.1)

pub scripted_anywhere : (p : Plan) (j : List Entry) (lane : ℕ) (c : Call) → sc.script p j lane c ≡ true → lw.in_script p j lane c ≡ true
scripted_anywhere p j lane c h = runs_script p (kind_of p (lane / 2)) j lane c (and_parts (nat_lt lane (2 * berths p)) _ h).1

-- a Tick is in no script there
pub no_tick : (p : Plan) (k : Kind) (j : List Entry) (lane : ℕ)
    → (not (stopped j lane) && (cond (has_halted j lane) (sc.is_owed_commit call.Tick (last_work j lane)) (sc.allowed p k (lane % 2 == 0) (last_work j lane) call.Tick))) ≡ true → ⊥
no_tick p k j lane h =
    by_bool (has_halted j lane)
    (λ b. cond b false ((lane % 2 == 0) && sc.is_owed_after p k call.Tick (last_work j lane)) ≡ true → ⊥)
    (λ _ m. cc) (λ _ m. none (last_work j lane) (and_parts (lane % 2 == 0) _ m).1) (and_parts (not (stopped j lane)) _ h).1
  where
    none : (o : Option Entry) → sc.is_owed_after p k call.Tick o ≡ true → ⊥
    none (Some e) m = cc
    none None m = cc

-- ---- groups and berths

group_of_berth : (n : ℕ) (gs : List Group) (w : ℕ) → w < sum_by (λ x. x.berths) gs → (m : ℕ) × (group_from n gs w ≡ Some m)
group_of_berth n [] w lt = absurd (omega arith)
group_of_berth n (x ∷ xs) w lt =
    by_bool (nat_lt w x.berths) (λ b. nat_lt w x.berths ≡ b → (m : ℕ) × (cond b (Some n) (group_from (n + 1) xs (w - x.berths)) ≡ Some m))
    (λ _ _. (n, refl)) (λ _ above. group_of_berth (n + 1) xs (w - x.berths) (let le = ltb-false w x.berths above in let s = sum_by-cons (λ (y : Group). y.berths) x xs in omega (arith, s))) refl

pub lane_of_plan : (p : Plan) (j : List Entry) (lane : ℕ) (d : Call) → sc.script p j lane d ≡ true → lane / 2 < berths p
lane_of_plan p j lane d h = let lt = ltb-true lane (2 * berths p) (and_parts (nat_lt lane (2 * berths p)) _ h).0 in omega arith

pub berth_group_is : (p : Plan) (w : ℕ) → w < berths p → berth_group p w ≡ Some (ru.group_at p w)
berth_group_is p w lt = let m = group_of_berth 0 p.groups w lt in by (berth_group p w) m.1
  where
    by : (z : Option ℕ) {n : ℕ} → z ≡ Some n → z ≡ Some (unwrap_or z 0)
    by (Some i) h = refl
    by None h = absurd (cc)

pub berth_seated : (p : Plan) (j : List Entry) → Lawful p j → SeatedAt p j → (w l : ℕ) → last_line j w ≡ Some l → (kind_of p w ≡ line_kind p j l) × (ru.group_at p w ≡ line_group p j l)
unfolding SeatedAt
berth_seated p j lawful seated w l here =
    let own : IsOfBerth j l w = subst (λ (o : Option ℕ). OfBerth j o w) here (last_line_own w j (lines_named p j lawful)) in
    let same = sym (seated l w own) in
    (ap (kind_in p) same, ap (λ (o : Option ℕ). unwrap_or o 0) same)

-- an Answer is told the same by the kind of its line and by that of its berth
pub answer_seated : (p : Plan) (j : List Entry) (lane l : ℕ) (x : Answer) → Lawful p j → SeatedAt p j → lw.in_script p j lane (call.Answer l x) ≡ true → r.answer_reply p j (lane / 2) l x ≡ lw.plain_reply p j lane (call.Answer l x)
unfolding SeatedAt
answer_seated p j lane l x lawful seated may =
    let own = script_own p j lane (call.Answer l x) may (lines_named p j lawful) in
    ap (λ (o : Option ℕ). r.answer_reply_of j (kind_in p o) l x) (sym (seated l (lane / 2) own))

-- ---- legal journals are lawful

module _ (p : Plan) (j : List Entry) (lawful : Lawful p j) (seated : SeatedAt p j) where
  here_seated : (w l : ℕ) → last_line j w ≡ Some l → (kind_of p w ≡ line_kind p j l) × (ru.group_at p w ≡ line_group p j l)
  unfolding SeatedAt
  here_seated w l here =
      let own : IsOfBerth j l w = subst (λ (o : Option ℕ). OfBerth j o w) here (last_line_own w j (lines_named p j lawful)) in
      let same = sym (seated l w own) in
      (ap (kind_in p) same, ap (λ (o : Option ℕ). unwrap_or o 0) same)

  launch_more : (w : ℕ) → NoneBefore p j w → (x : Reply) → r.launches p j w (ru.group_at p w) (last_line j w) ≡ Some x → Asked p j w x
  launch_more w none x h =
      let c = u.if_some _ (option_map (r.launch_order j) (earliest p j (ru.group_at p w))) x h in
      let tests = and_parts (r.is_vacant j (last_line j w)) _ c.0 in
      u.map_some (r.launch_order j) (earliest p j (ru.group_at p w)) x c.1 (λ v. Asked p j w v)
      (λ t next. lw.Launches (ru.group_at p w) t tests.0 (earliest_next p j (ru.group_at p w) t next) none)

  asked_ours : (w : ℕ) → Asked p j w (r.ask p j w (ru.group_at p w) (last_line j w))
  asked_ours w =
      u.asked p j w (kind_of p w) (ru.group_at p w) (last_line j w) refl (λ l here. here_seated w l here)
      (earliest p j (ru.group_at p w)) (r.launches p j w (ru.group_at p w) (last_line j w))
      (λ l t here next. subst (λ g. IsNextOf p j g t) (here_seated w l here).1 (earliest_next p j (ru.group_at p w) t next))
      (λ none x h. launch_more w none x h)

  pub told_ours : (lane : ℕ) (c : Call) → sc.script p j lane c ≡ true → Told p j lane c (r.rule p j lane c)
  unfolding SeatedAt
  told_ours lane call.Ask h = asked_ours (lane / 2)
  told_ours lane call.Tick h = absurd (no_tick p (kind_of p (lane / 2)) j lane (and_parts (nat_lt lane (2 * berths p)) _ h).1)
  told_ours lane (call.Answer l x) h =
      let own = script_own p j lane (call.Answer l x) (scripted_anywhere p j lane (call.Answer l x) h) (lines_named p j lawful) in
      ap (λ (o : Option ℕ). r.answer_reply_of j (kind_in p o) l x) (sym (seated l (lane / 2) own))
  told_ours lane (call.Look w) h = refl
  told_ours lane (call.Claim a b t f) h = refl
  told_ours lane call.Take h = refl
  told_ours lane (call.Launched l how) h = refl
  told_ours lane (call.Wrote l n how) h = refl
  told_ours lane (call.Committed a b how) h = refl
  told_ours lane (call.Killed l) h = refl
  told_ours lane (call.Ended l how) h = refl
  told_ours lane call.Halt h = refl

  entry_ours : (e : Entry) → LegalEntry p j e → LawfulEntry p j e
  entry_ours e legal = record {
    scripted = scripted_anywhere p j e.lane e.call legal.scripted;
    told = subst (λ (x : Reply). Told p j e.lane e.call x) (sym legal.replied) (told_ours e.lane e.call legal.scripted);
    kept = legal.kept;
  }

  launch_seated : (e : Entry) (d : Call) (x : Reply) (y : ℕ × Attempt) → ru.Ruled p j e.lane d x → launch_in x ≡ Some y → group_for p y.1 ≡ Some (ru.group_at p (e.lane / 2))
  launch_seated e d x y (ru.Launches t vacant full next none) h =
      let s : t ≡ y.1 = cc in
      subst (λ (z : Attempt). group_for p z ≡ Some (ru.group_at p (e.lane / 2))) s
      (ke.group_runs p t (ru.group_at p (e.lane / 2)) (ke.queue_runs p j (ru.group_at p (e.lane / 2)) t (earliest_next p j (ru.group_at p (e.lane / 2)) t next)))
  launch_seated e d x y (ru.KillsBroken l z here run broken over) h = absurd (cc)
  launch_seated e d x y _ h = absurd (cc)

  seated_more : (e : Entry) → LegalEntry p j e → Lawful p (e ∷ j) → SeatedAt p (e ∷ j)
  unfolding SeatedAt
  seated_more e legal after l w own =
      let at = own.owner.2 in
      q.group_is p (e ∷ j) l own.owner.0 own.owner.1 at ∙ by (q.launch_cases p e j l own.owner.0 own.owner.1 at)
    where
      ruled : ru.Ruled p j e.lane e.call e.reply
      ruled = subst (λ (x : Reply). ru.Ruled p j e.lane e.call x) (sym legal.replied) (ru.ruled p j e.lane e.call)

      by : q.Launches p e j l own.owner.0 own.owner.1 → group_for p own.owner.1 ≡ berth_group p w
      by (q.Now is lane) =
          let there = launch_seated e e.call e.reply (l, own.owner.1) ruled is in
          let berth : e.lane / 2 ≡ w = ap (λ n. n / 2) lane ∙ own.owner.3 in
          there ∙ sym (berth_group_is p (e.lane / 2) (lane_of_plan p j e.lane e.call legal.scripted)) ∙ ap (berth_group p) berth
      by (q.Before old) =
          let named : IsOfBerth j l w = record { below = q.launched_below p j l own.owner.0 own.owner.1 lawful old; owner = (own.owner.0, own.owner.1, old, own.owner.3) } in
          sym (q.group_is p j l own.owner.0 own.owner.1 old) ∙ seated l w named

pub both_ours : (p : Plan) (j : List Entry) → Legal p j → Lawful p j × SeatedAt p j
unfolding SeatedAt launch_of line_count
both_ours p [] legal = (tt, λ l w own. absurd (let none = own.below in omega arith))
both_ours p (e ∷ j) legal =
    let before = both_ours p j legal.0 in
    let after : Lawful p (e ∷ j) = (before.0, entry_ours p j before.0 before.1 e legal.1) in
    (after, seated_more p j before.0 before.1 e legal.1 after)

pub lawful : (p : Plan) (j : List Entry) → Legal p j → Lawful p j
lawful p j legal = (both_ours p j legal).0

-- each line runs the group of its berth, and is of its kind
pub seated : (p : Plan) (j : List Entry) (l w : ℕ) → Legal p j → IsOfBerth j l w → group_on p j l ≡ berth_group p w
unfolding SeatedAt
seated p j l w legal own = (both_ours p j legal).1 l w own

-- and its berth is one of the plan
pub within : (p : Plan) (j : List Entry) (l w : ℕ) → Legal p j → IsOfBerth j l w → w < berths p
unfolding launch_of line_count
within p [] l w legal own = absurd (let none = own.below in omega arith)
within p (e ∷ j) l w legal own =
    by (q.launch_cases p e j l own.owner.0 own.owner.1 own.owner.2) (λ before. within p j l w legal.0 before)
  where
    by : q.Launches p e j l own.owner.0 own.owner.1 → (IsOfBerth j l w → w < berths p) → w < berths p
    by (q.Now is lane) old = subst (λ n. n < berths p) (ap (λ n. n / 2) lane ∙ own.owner.3) (lane_of_plan p j e.lane e.call legal.1.scripted)
    by (q.Before at) old =
        old (record { below = q.launched_below p j l own.owner.0 own.owner.1 (lawful p j legal.0) at; owner = (own.owner.0, own.owner.1, at, own.owner.3) })

-- ---- Kept, where each group has berths of its own

broken_so : (p : Plan) (j : List Entry) (w l : ℕ) (y : Cause) → own_berths_kept p j w (reply.Kill l (why_of y)) ≡ true
broken_so p j w l cause.Breach = refl
broken_so p j w l cause.Feed = refl
broken_so p j w l _ = refl

own_so : (p : Plan) (j : List Entry) (lane : ℕ) (d : Call) (x : Reply) → ru.Ruled p j lane d x → own_berths_kept p j (lane / 2) x ≡ true
own_so p j lane d x (ru.Launches t vacant full next none) = rw full refl
own_so p j lane d x (ru.KillsBroken l y here run broken over) = broken_so p j (lane / 2) l y
own_so p j lane d x (ru.Notes e n) = refl
own_so p j lane d x _ = refl

own_kept : (p : Plan) (j : List Entry) → Legal p j → AtEach (λ before e. own_berths_kept p before (e.lane / 2) e.reply ≡ true) j
own_kept p [] legal = tt
own_kept p (e ∷ j) legal =
    (own_kept p j legal.0, own_so p j e.lane e.call e.reply (subst (λ (x : Reply). ru.Ruled p j e.lane e.call x) (sym legal.1.replied) (ru.ruled p j e.lane e.call)))

pub kept : (p : Plan) (j : List Entry) → Sound p → Legal p j → Kept p j
kept p j sound legal = record { orders = ke.orders_kept p j sound (lawful p j legal); own_berths = own_kept p j legal }
