-- Each reply of the rules with the reasons for it: a case for each way in which a rule answers.
use Rattle.std.proofs.Common.{◌≡◌, ℕ, ◌/◌, ◌==◌, nat_lt, Bool, true, false, ◌&&◌, not, cond, List, [], ◌∷◌, length, Option, Some, None, option_map, unwrap_or, ℤ, pos, inl, inr, refl, sym, subst, ◌∙◌}
use Rattle.std.specs.Prelude.{slice_get}
use Rattle.std.specs.List.{filter, find}
use Rattle.std.specs.Ordering.{int_eq}
use Rattle.std.proofs.lemmas.Bool.{and_parts}
use Rattle.run_plan.specs.declared.plan.Branch.{Branch}
use Rattle.run_plan.specs.declared.plan.Plan.{Plan}
use Rattle.exec_journal.specs.declared.attempt.Attempt.{Attempt}
use Rattle.exec_journal.specs.declared.ends.Cause.{Cause}
use Rattle.exec_journal.specs.Entry.{Entry}
use Rattle.exec_journal.specs.declared.call.Answer.{Answer}
use Rattle.exec_journal.specs.declared.call.Call.{Call}
use Rattle.exec_journal.specs.declared.call.Call.TheVariants as call
use Rattle.exec_journal.specs.declared.call.Found.{Found}
use Rattle.exec_journal.specs.declared.call.Found.TheVariants as found
use Rattle.exec_journal.specs.declared.call.Wanted.{Wanted}
use Rattle.exec_journal.specs.declared.call.Wanted.TheVariants as look
use Rattle.exec_journal.specs.declared.reply.Reply.{Reply}
use Rattle.exec_journal.specs.declared.reply.Reply.TheVariants as reply
use Rattle.exec_journal.specs.declared.reply.BreachWhy.TheVariants as breach
use Rattle.exec_journal.specs.declared.reply.StrayWhy.TheVariants as stray
use Rattle.exec_journal.specs.declared.reply.Why.TheVariants as why
use Rattle.list_lemmas.specs.Options.{or_else}
use Rattle.exec_journal.specs.Entries.{Request, attempt_of, gather_of_entry}
use Rattle.exec_journal.specs.Words.{last_work, line_count, started, was_taken, last_line, sends, pending, is_pending, has_cancel, line_cause, why_of, broke, live, granted, grant_of}
use Rattle.exec_journal.specs.Settled.{earliest, some_free}
use Rattle.run_plan.specs.Groups.{berth_group, kind_of, first_berth, berths_of, has_cancellation, is_single}
use Rattle.exec_journal.specs.Rules as r
use Rattle.exec_journal.proofs.Histories.{AtSome, some_map, first_from}

-- the berth's group, and its last line
abbrev pub group_at : Plan → ℕ → ℕ
group_at p w = unwrap_or (berth_group p w) 0

-- a call that is answered Noted
abbrev pub is_noted : Call → Bool
is_noted (call.Launched l how) = true
is_noted (call.Wrote l n how) = true
is_noted (call.Committed a b how) = true
is_noted (call.Killed l) = true
is_noted (call.Ended l how) = true
is_noted call.Halt = true
is_noted call.Tick = true
is_noted _ = false

-- a Claim that may be granted
abbrev pub may_win : Found → Bool
may_win (found.Files fs) = true
may_win (found.Exit n) = true
may_win _ = false

-- none of the rules before `send` fits
pub record NoneBefore (p : Plan) (j : List Entry) (w : ℕ) : Type 0 where
  pub goes_on : r.is_over p j ≡ false
  pub no_kill : r.kills_broken j (last_line j w) ≡ None
  pub no_unwanted : r.kills_unwanted p j w (group_at p w) (last_line j w) ≡ None
  pub no_gather : r.gathers_next j w ≡ None

-- the request of an answer
pub record IsRequest (p : Plan) (j : List Entry) (w l : ℕ) (x : Answer) (q : Request) : Type 0 where
  pub unbroken : broke j l ≡ false
  pub is_open : is_pending j q ≡ true
  pub single : is_single (kind_of p w) ≡ true → (int_eq x.number (pos 0) ≡ true) × (r.head (pending j l) ≡ Some q)
  pub multi : is_single (kind_of p w) ≡ false → find (λ y. int_eq y.number x.number) (sends j l) ≡ Some q
  pub allowed : (x.cancelled && not (has_cancel j q)) ≡ false

pub data Ruled (p : Plan) (j : List Entry) (lane : ℕ) : Call → Reply → Type 0 where
  Quits : (l : ℕ) → last_line j (lane / 2) ≡ Some l → r.runs j l ≡ true → r.is_over p j ≡ true → Ruled p j lane call.Ask (reply.Kill l why.Quit)
  Stops : r.is_over p j ≡ true → Ruled p j lane call.Ask reply.Stop
  KillsBroken : (l : ℕ) (y : Cause) → last_line j (lane / 2) ≡ Some l → r.runs j l ≡ true → line_cause j l ≡ Some y → r.is_over p j ≡ false → Ruled p j lane call.Ask (reply.Kill l (why_of y))
  KillsUnwanted : (l : ℕ) → last_line j (lane / 2) ≡ Some l → r.runs j l ≡ true → is_single (kind_of p (lane / 2)) ≡ true → has_cancellation p (group_at p (lane / 2)) ≡ false
      → r.has_unwanted p j l ≡ true → r.is_over p j ≡ false → Ruled p j lane call.Ask (reply.Kill l why.Unwanted)
  Gathers : (l : ℕ) (n : ℤ) (a : ℕ) (b : Branch) (t : ℕ) (e : ℤ) (u : Bool) → r.gathers_next j (lane / 2) ≡ Some (reply.Gather l n a b t e u) → r.is_over p j ≡ false
      → Ruled p j lane call.Ask (reply.Gather l n a b t e u)
  Cancels : (l : ℕ) (q : Request) → last_line j (lane / 2) ≡ Some l → live j l ≡ true → r.may_cancel p j (lane / 2) (group_at p (lane / 2)) l ≡ true
      → r.oldest (filter (λ y. r.is_unwanted p j y && not (has_cancel j y)) (pending j l)) ≡ Some q → NoneBefore p j (lane / 2) → Ruled p j lane call.Ask (reply.Cancel q.line q.number)
  Sends : (l : ℕ) (t : Attempt) → last_line j (lane / 2) ≡ Some l → live j l ≡ true → r.next_for p j (lane / 2) (group_at p (lane / 2)) l ≡ Some t → NoneBefore p j (lane / 2)
      → Ruled p j lane call.Ask (reply.Send l (r.number_on p j (lane / 2) l) t.action t.branch t.number)
  Launches : (t : Attempt) → r.is_vacant j (last_line j (lane / 2)) ≡ true
      → some_free p j (kind_of p (lane / 2)) (first_berth p (group_at p (lane / 2))) (berths_of p (group_at p (lane / 2))) ≡ false
      → earliest p j (group_at p (lane / 2)) ≡ Some t → NoneBefore p j (lane / 2) → Ruled p j lane call.Ask (reply.Launch (line_count j) t.action t.branch t.number)
  Idles : Ruled p j lane call.Ask reply.Idle
  Takes : (l : ℕ) → last_line j (lane / 2) ≡ Some l → started j l ≡ true → was_taken j l ≡ false → Ruled p j lane call.Take (reply.Line l)
  TakeStops : r.is_over p j ≡ true → Ruled p j lane call.Take reply.Stop
  TakeIdles : Ruled p j lane call.Take reply.Idle
  IsBroken : (l : ℕ) (x : Answer) → broke j l ≡ true → Ruled p j lane (call.Answer l x) (reply.Breach breach.Broken)
  Greets : (l : ℕ) (x : Answer) → broke j l ≡ false → r.is_greeting p j (lane / 2) l x ≡ true → Ruled p j lane (call.Answer l x) reply.Greeted
  IsWrong : (l : ℕ) (x : Answer) → broke j l ≡ false → Ruled p j lane (call.Answer l x) (reply.Breach breach.WrongNumber)
  IsUnasked : (l : ℕ) (x : Answer) → broke j l ≡ false → Ruled p j lane (call.Answer l x) (reply.Breach breach.Unasked)
  IsNotCancelled : (l : ℕ) (x : Answer) → broke j l ≡ false → Ruled p j lane (call.Answer l x) (reply.Breach breach.NotCancelled)
  IsNever : (l : ℕ) (x : Answer) → broke j l ≡ false → Ruled p j lane (call.Answer l x) (reply.Stray stray.Never)
  IsClosed : (l : ℕ) (x : Answer) → broke j l ≡ false → Ruled p j lane (call.Answer l x) (reply.Stray stray.Closed)
  IsLate : (l : ℕ) (x : Answer) (q : Request) → IsRequest p j (lane / 2) l x q → granted j q.attempt.action ≡ true
      → Ruled p j lane (call.Answer l x) (reply.Late q.attempt.action q.attempt.branch q.attempt.number)
  IsMatched : (l : ℕ) (x : Answer) (q : Request) → IsRequest p j (lane / 2) l x q → granted j q.attempt.action ≡ false
      → Ruled p j lane (call.Answer l x) (reply.Matched q.attempt.action q.attempt.branch q.attempt.number)
  Loses : (a : ℕ) (b : Branch) (t : ℕ) (f : Found) → r.is_other b (grant_of j a) ≡ true → Ruled p j lane (call.Claim a b t f) reply.Lost
  Grants : (a : ℕ) (b : Branch) (t : ℕ) (f : Found) → r.is_other b (grant_of j a) ≡ false → may_win f ≡ true → Ruled p j lane (call.Claim a b t f) reply.Granted
  Defers : (a : ℕ) (b : Branch) (t : ℕ) (f : Found) → r.is_other b (grant_of j a) ≡ false → may_win f ≡ false → nat_lt t p.limit ≡ true → Ruled p j lane (call.Claim a b t f) reply.AgainLater
  Drops : (a : ℕ) (b : Branch) (t : ℕ) (f : Found) → r.is_other b (grant_of j a) ≡ false → may_win f ≡ false → nat_lt t p.limit ≡ false → Ruled p j lane (call.Claim a b t f) reply.Dropped
  Shows : (w : Wanted) (content : List ℕ) → Ruled p j lane (call.Look w) (reply.File content)
  ShowsNone : (w : Wanted) → Ruled p j lane (call.Look w) reply.NoFile
  Notes : (c : Call) → is_noted c ≡ true → Ruled p j lane c reply.Noted

-- ---- by cases on what a rule tests

pub by_bool : (b : Bool) (P : Bool → Type 0) → (b ≡ true → P true) → (b ≡ false → P false) → P b
by_bool true P h k = h refl
by_bool false P h k = k refl

-- the first of two, where it is there, and else the second
chosen : (P : Reply → Type 0) (o rest : Option Reply) (d : Reply) → ((x : Reply) → o ≡ Some x → P x) → (o ≡ None → P (unwrap_or rest d)) → P (unwrap_or (or_else o rest) d)
chosen P (Some x) rest d some none = some x refl
chosen P None rest d some none = none refl

last_chosen : (P : Reply → Type 0) (o : Option Reply) (d : Reply) → ((x : Reply) → o ≡ Some x → P x) → P d → P (unwrap_or o d)
last_chosen P (Some x) d some none = some x refl
last_chosen P None d some none = none

-- the next is the one that is there, in a later rule
when_some : {X : Type 0} (b : Bool) (y x : X) → r.when b y ≡ Some x → (b ≡ true) × (y ≡ x)
when_some true y x h = (refl, cc)
when_some false y x h = cc

when_none : {X : Type 0} (b : Bool) (y : X) → r.when b y ≡ None → b ≡ false
when_none true y h = cc
when_none false y h = refl

map_some : {X : Type 0} (f : X → Reply) (o : Option X) (x : Reply) → option_map f o ≡ Some x → (P : Reply → Type 0) → ((y : X) → o ≡ Some y → P (f y)) → P x
map_some f (Some y) x h P k = let e : f y ≡ x = cc in subst P e (k y refl)
map_some f None x h P k = cc

if_some : (b : Bool) (o : Option Reply) (x : Reply) → cond b o None ≡ Some x → (b ≡ true) × (o ≡ Some x)
if_some true o x h = (refl, h)
if_some false o x h = cc

pub not_true : (b : Bool) → not b ≡ true → b ≡ false
not_true true h = cc
not_true false h = refl

-- a Gather, for a match that waits
pub data GatherFor (k : List Entry) : Call → Reply → Reply → Type 0 where
  For : (l : ℕ) (x : Answer) (a : ℕ) (b : Branch) (t : ℕ) → r.waits k (attempt_of a b t) ≡ true
      → GatherFor k (call.Answer l x) (reply.Matched a b t) (reply.Gather l x.number a b t x.exit (nat_lt 0 (length x.refusal)))

pub gather_form : (k : List Entry) (c : Call) (y x : Reply) → r.gather_for k c y ≡ Some x → GatherFor k c y x
gather_form k (call.Answer l x) (reply.Matched a b t) z h =
    let w = when_some (r.waits k (attempt_of a b t)) (reply.Gather l x.number a b t x.exit (nat_lt 0 (length x.refusal))) z h in
    subst (λ (v : Reply). GatherFor k (call.Answer l x) (reply.Matched a b t) v) w.1 (For l x a b t w.0)
gather_form k _ _ z h = absurd (cc)

-- the match for which a berth is to gather stands in the journal
pub gathers_from : (j : List Entry) (w : ℕ) (x : Reply) → r.gathers_next j w ≡ Some x
    → AtSome (λ _ e. ((e.lane / 2 == w) ≡ true) × GatherFor j e.call e.reply x) j
gathers_from j w x h = some_map _ _ here j (first_from _ j x h)
  where
    here : (k : List Entry) (e : Entry) → cond (e.lane / 2 == w) (r.gather_for j e.call e.reply) None ≡ Some x → ((e.lane / 2 == w) ≡ true) × GatherFor j e.call e.reply x
    here k e g = let p = if_some (e.lane / 2 == w) (r.gather_for j e.call e.reply) x g in (p.0, gather_form j e.call e.reply x p.1)

-- ---- each reply of the rules has its reasons

gather_ruled : (p : Plan) (j : List Entry) (lane : ℕ) (k : List Entry) → r.is_over p j ≡ false → (x : Reply) → r.gathers_next j (lane / 2) ≡ Some x
    → AtSome (λ _ e. ((e.lane / 2 == lane / 2) ≡ true) × GatherFor j e.call e.reply x) k → Ruled p j lane call.Ask x
gather_ruled p j lane (e ∷ k) over x h (inl g) = of_form e.call e.reply x g.1 h
  where
    of_form : (c : Call) (y x : Reply) → GatherFor j c y x → r.gathers_next j (lane / 2) ≡ Some x → Ruled p j lane call.Ask x
    of_form c y x (For l m a b t w) h = Gathers l m.number a b t m.exit (nat_lt 0 (length m.refusal)) h over
gather_ruled p j lane (e ∷ k) over x h (inr g) = gather_ruled p j lane k over x h g
gather_ruled p j lane [] over x h g = absurd g

-- the first of a filtered list passes the test
pub head_passes : {X : Type 0} (test : X → Bool) (xs : List X) (x : X) → r.head (filter test xs) ≡ Some x → test x ≡ true
head_passes test [] x h = absurd (cc)
head_passes test (y ∷ ys) x h =
    by_bool (test y) (λ b. r.head (cond b (y ∷ filter test ys) (filter test ys)) ≡ Some x → test x ≡ true)
    (λ t k. let e : y ≡ x = cc in subst (λ z. test z ≡ true) e t) (λ _ k. head_passes test ys x k) h

pub pending_open : (j : List Entry) (l : ℕ) (q : Request) → r.head (pending j l) ≡ Some q → is_pending j q ≡ true
unfolding pending
pending_open j l q h = head_passes (is_pending j) (sends j l) q h

module _ (p : Plan) (j : List Entry) (lane : ℕ) where
  leaves : (o : Option ℕ) → last_line j (lane / 2) ≡ o → r.is_over p j ≡ true → Ruled p j lane call.Ask (r.leave j o)
  leaves None here over = Stops over
  leaves (Some l) here over =
      by_bool (r.runs j l) (λ b. Ruled p j lane call.Ask (cond b (reply.Kill l why.Quit) reply.Stop)) (λ run. Quits l here run over) (λ _. Stops over)

  quits_ruled : (x : Reply) → r.quits p j (last_line j (lane / 2)) ≡ Some x → Ruled p j lane call.Ask x
  quits_ruled x h =
      let w = when_some (r.is_over p j) (r.leave j (last_line j (lane / 2))) x h in
      subst (λ (v : Reply). Ruled p j lane call.Ask v) w.1 (leaves (last_line j (lane / 2)) refl w.0)

  kills_ruled : r.is_over p j ≡ false → (o : Option ℕ) → last_line j (lane / 2) ≡ o → (x : Reply) → r.kills_broken j o ≡ Some x → Ruled p j lane call.Ask x
  kills_ruled over None here x h = absurd (cc)
  kills_ruled over (Some l) here x h =
      let w = if_some (r.runs j l) (option_map (λ y. reply.Kill l (why_of y)) (line_cause j l)) x h in
      map_some (λ y. reply.Kill l (why_of y)) (line_cause j l) x w.1 (λ v. Ruled p j lane call.Ask v) (λ y broken. KillsBroken l y here w.0 broken over)

  unwanted_ruled : r.is_over p j ≡ false → (o : Option ℕ) → last_line j (lane / 2) ≡ o → (x : Reply) → r.kills_unwanted p j (lane / 2) (group_at p (lane / 2)) o ≡ Some x → Ruled p j lane call.Ask x
  unwanted_ruled over None here x h = absurd (cc)
  unwanted_ruled over (Some l) here x h =
      let w = when_some _ (reply.Kill l why.Unwanted) x h in
      let runs_and = and_parts (r.runs j l) _ w.0 in
      let single_and = and_parts _ (r.has_unwanted p j l) runs_and.1 in
      let single = and_parts (is_single (kind_of p (lane / 2))) _ single_and.0 in
      subst (λ (v : Reply). Ruled p j lane call.Ask v) w.1 (KillsUnwanted l here runs_and.0 single.0 (not_true _ single.1) single_and.1 over)

  cancels_ruled : NoneBefore p j (lane / 2) → (o : Option ℕ) → last_line j (lane / 2) ≡ o → (x : Reply) → r.cancels_next p j (lane / 2) (group_at p (lane / 2)) o ≡ Some x → Ruled p j lane call.Ask x
  cancels_ruled none None here x h = absurd (cc)
  cancels_ruled none (Some l) here x h =
      let w = if_some _ (option_map r.cancel_for (r.oldest (filter (λ y. r.is_unwanted p j y && not (has_cancel j y)) (pending j l)))) x h in
      let tests = and_parts (live j l) _ w.0 in
      map_some r.cancel_for (r.oldest (filter (λ y. r.is_unwanted p j y && not (has_cancel j y)) (pending j l))) x w.1 (λ v. Ruled p j lane call.Ask v) (λ q which. Cancels l q here tests.0 tests.1 which none)

  sends_ruled : NoneBefore p j (lane / 2) → (o : Option ℕ) → last_line j (lane / 2) ≡ o → (x : Reply) → r.sends_next p j (lane / 2) (group_at p (lane / 2)) o ≡ Some x → Ruled p j lane call.Ask x
  sends_ruled none None here x h = absurd (cc)
  sends_ruled none (Some l) here x h =
      let w = if_some (live j l) (option_map (r.send_order p j (lane / 2) l) (r.next_for p j (lane / 2) (group_at p (lane / 2)) l)) x h in
      map_some (r.send_order p j (lane / 2) l) (r.next_for p j (lane / 2) (group_at p (lane / 2)) l) x w.1 (λ v. Ruled p j lane call.Ask v) (λ t next. Sends l t here w.0 next none)

  launches_ruled : NoneBefore p j (lane / 2) → (x : Reply) → r.launches p j (lane / 2) (group_at p (lane / 2)) (last_line j (lane / 2)) ≡ Some x → Ruled p j lane call.Ask x
  launches_ruled none x h =
      let w = if_some _ (option_map (λ t. reply.Launch (line_count j) t.action t.branch t.number) (earliest p j (group_at p (lane / 2)))) x h in
      let tests = and_parts (r.is_vacant j (last_line j (lane / 2))) _ w.0 in
      map_some (λ t. reply.Launch (line_count j) t.action t.branch t.number) (earliest p j (group_at p (lane / 2))) x w.1 (λ v. Ruled p j lane call.Ask v)
      (λ t next. Launches t tests.0 (not_true _ tests.1) next none)

  ask_ruled : Ruled p j lane call.Ask (r.ask p j (lane / 2) (group_at p (lane / 2)) (last_line j (lane / 2)))
  ask_ruled =
      let here = last_line j (lane / 2) in
      let g = group_at p (lane / 2) in
      chosen (λ v. Ruled p j lane call.Ask v) (r.quits p j here) _ reply.Idle quits_ruled
      (λ q. let over = when_none _ _ q in
      chosen (λ v. Ruled p j lane call.Ask v) (r.kills_broken j here) _ reply.Idle (kills_ruled over here refl)
      (λ k. chosen (λ v. Ruled p j lane call.Ask v) (r.kills_unwanted p j (lane / 2) g here) _ reply.Idle (unwanted_ruled over here refl)
      (λ u. chosen (λ v. Ruled p j lane call.Ask v) (r.gathers_next j (lane / 2)) _ reply.Idle (λ x h. gather_ruled p j lane j over x h (gathers_from j (lane / 2) x h))
      (λ n. let none : NoneBefore p j (lane / 2) = record { goes_on = over; no_kill = k; no_unwanted = u; no_gather = n } in
      chosen (λ v. Ruled p j lane call.Ask v) (r.cancels_next p j (lane / 2) g here) _ reply.Idle (cancels_ruled none here refl)
      (λ _. chosen (λ v. Ruled p j lane call.Ask v) (r.sends_next p j (lane / 2) g here) _ reply.Idle (sends_ruled none here refl)
      (λ _. last_chosen (λ v. Ruled p j lane call.Ask v) (r.launches p j (lane / 2) g here) reply.Idle (launches_ruled none) Idles))))))

  stop_ruled : Ruled p j lane call.Take (cond (r.is_over p j) reply.Stop reply.Idle)
  stop_ruled = by_bool (r.is_over p j) (λ b. Ruled p j lane call.Take (cond b reply.Stop reply.Idle)) (λ over. TakeStops over) (λ _. TakeIdles)

  take_ruled : (o : Option ℕ) → last_line j (lane / 2) ≡ o → Ruled p j lane call.Take (r.take_reply p j o)
  take_ruled None here = stop_ruled
  take_ruled (Some l) here =
      by_bool (started j l && not (was_taken j l)) (λ b. Ruled p j lane call.Take (cond b (reply.Line l) (cond (r.is_over p j) reply.Stop reply.Idle)))
      (λ h. let w = and_parts (started j l) _ h in Takes l here w.0 (not_true _ w.1)) (λ _. stop_ruled)

  consume_ruled : (l : ℕ) (x : Answer) (q : Request) → broke j l ≡ false → is_pending j q ≡ true
      → (is_single (kind_of p (lane / 2)) ≡ true → (int_eq x.number (pos 0) ≡ true) × (r.head (pending j l) ≡ Some q))
      → (is_single (kind_of p (lane / 2)) ≡ false → find (λ y. int_eq y.number x.number) (sends j l) ≡ Some q)
      → Ruled p j lane (call.Answer l x) (r.consume j x q)
  consume_ruled l x q whole still one many =
      by_bool (x.cancelled && not (has_cancel j q))
      (λ b. Ruled p j lane (call.Answer l x) (cond b (reply.Breach breach.NotCancelled) (cond (granted j q.attempt.action) (reply.Late q.attempt.action q.attempt.branch q.attempt.number) (reply.Matched q.attempt.action q.attempt.branch q.attempt.number))))
      (λ _. IsNotCancelled l x whole)
      (λ may. let is : IsRequest p j (lane / 2) l x q = record { unbroken = whole; is_open = still; single = one; multi = many; allowed = may } in
      by_bool (granted j q.attempt.action)
      (λ b. Ruled p j lane (call.Answer l x) (cond b (reply.Late q.attempt.action q.attempt.branch q.attempt.number) (reply.Matched q.attempt.action q.attempt.branch q.attempt.number)))
      (λ g. IsLate l x q is g) (λ g. IsMatched l x q is g))

  single_ruled : (l : ℕ) (x : Answer) → broke j l ≡ false → is_single (kind_of p (lane / 2)) ≡ true → int_eq x.number (pos 0) ≡ true
      → (o : Option Request) → r.head (pending j l) ≡ o → Ruled p j lane (call.Answer l x) (r.answer_single j x o)
  single_ruled l x whole one zero None h = IsUnasked l x whole
  single_ruled l x whole one zero (Some q) h =
      consume_ruled l x q whole (pending_open j l q h) (λ _. (zero, h)) (λ many. absurd (let e : true ≡ false = sym one ∙ many in cc))

  multi_ruled : (l : ℕ) (x : Answer) → broke j l ≡ false → is_single (kind_of p (lane / 2)) ≡ false
      → (o : Option Request) → find (λ y. int_eq y.number x.number) (sends j l) ≡ o → Ruled p j lane (call.Answer l x) (r.answer_multi j x o)
  multi_ruled l x whole many None h = IsNever l x whole
  multi_ruled l x whole many (Some q) h =
      by_bool (is_pending j q) (λ b. Ruled p j lane (call.Answer l x) (cond b (r.consume j x q) (reply.Stray stray.Closed)))
      (λ still. consume_ruled l x q whole still (λ one. absurd (let e : true ≡ false = sym one ∙ many in cc)) (λ _. h)) (λ _. IsClosed l x whole)

  unmet_ruled : (l : ℕ) (x : Answer) → broke j l ≡ false → Ruled p j lane (call.Answer l x) (cond (is_single (kind_of p (lane / 2)))
      (cond (int_eq x.number (pos 0)) (r.answer_single j x (r.head (pending j l))) (reply.Breach breach.WrongNumber)) (r.answer_multi j x (find (λ y. int_eq y.number x.number) (sends j l))))
  unmet_ruled l x whole =
      by_bool (is_single (kind_of p (lane / 2))) (λ b. Ruled p j lane (call.Answer l x) (cond b
      (cond (int_eq x.number (pos 0)) (r.answer_single j x (r.head (pending j l))) (reply.Breach breach.WrongNumber)) (r.answer_multi j x (find (λ y. int_eq y.number x.number) (sends j l)))))
      (λ one. by_bool (int_eq x.number (pos 0)) (λ b. Ruled p j lane (call.Answer l x) (cond b (r.answer_single j x (r.head (pending j l))) (reply.Breach breach.WrongNumber)))
      (λ zero. single_ruled l x whole one zero (r.head (pending j l)) refl) (λ _. IsWrong l x whole))
      (λ many. multi_ruled l x whole many (find (λ y. int_eq y.number x.number) (sends j l)) refl)

  answer_ruled : (l : ℕ) (x : Answer) → Ruled p j lane (call.Answer l x) (r.answer_reply p j (lane / 2) l x)
  answer_ruled l x =
      by_bool (broke j l) (λ b. Ruled p j lane (call.Answer l x) (cond b (reply.Breach breach.Broken) (cond (r.is_greeting p j (lane / 2) l x) reply.Greeted (cond (is_single (kind_of p (lane / 2)))
      (cond (int_eq x.number (pos 0)) (r.answer_single j x (r.head (pending j l))) (reply.Breach breach.WrongNumber)) (r.answer_multi j x (find (λ y. int_eq y.number x.number) (sends j l)))))))
      (λ b. IsBroken l x b)
      (λ whole. by_bool (r.is_greeting p j (lane / 2) l x) (λ b. Ruled p j lane (call.Answer l x) (cond b reply.Greeted (cond (is_single (kind_of p (lane / 2)))
      (cond (int_eq x.number (pos 0)) (r.answer_single j x (r.head (pending j l))) (reply.Breach breach.WrongNumber)) (r.answer_multi j x (find (λ y. int_eq y.number x.number) (sends j l))))))
      (λ greeting. Greets l x whole greeting) (λ _. unmet_ruled l x whole))

  again_ruled : (a : ℕ) (b : Branch) (t : ℕ) (f : Found) → r.is_other b (grant_of j a) ≡ false → may_win f ≡ false → Ruled p j lane (call.Claim a b t f) (cond (nat_lt t p.limit) reply.AgainLater reply.Dropped)
  again_ruled a b t f free none = by_bool (nat_lt t p.limit) (λ c. Ruled p j lane (call.Claim a b t f) (cond c reply.AgainLater reply.Dropped)) (λ below. Defers a b t f free none below) (λ at. Drops a b t f free none at)

  found_ruled : (a : ℕ) (b : Branch) (t : ℕ) (f : Found) → r.is_other b (grant_of j a) ≡ false → Ruled p j lane (call.Claim a b t f) (r.by_found p t f)
  found_ruled a b t (found.Files fs) free = Grants a b t (found.Files fs) free refl
  found_ruled a b t (found.Exit n) free = Grants a b t (found.Exit n) free refl
  found_ruled a b t (found.Missing k) free = again_ruled a b t (found.Missing k) free refl
  found_ruled a b t found.RoomFault free = again_ruled a b t found.RoomFault free refl
  found_ruled a b t found.Refused free = again_ruled a b t found.Refused free refl

  claim_ruled : (a : ℕ) (b : Branch) (t : ℕ) (f : Found) → Ruled p j lane (call.Claim a b t f) (r.claim_reply p j a b t f)
  claim_ruled a b t f =
      by_bool (r.is_other b (grant_of j a)) (λ c. Ruled p j lane (call.Claim a b t f) (cond c reply.Lost (r.by_found p t f)))
      (λ other. Loses a b t f other) (λ free. found_ruled a b t f free)

  file_ruled : (w : Wanted) (o : Option (List ℕ)) → Ruled p j lane (call.Look w) (r.file_reply o)
  file_ruled w (Some content) = Shows w content
  file_ruled w None = ShowsNone w

  look_ruled : (w : Wanted) → Ruled p j lane (call.Look w) (r.look_reply p j lane w)
  look_ruled (look.Made a o) = file_ruled (look.Made a o) (slice_get (r.files_of_grant (grant_of j a)) o)
  look_ruled (look.Answered l n o) = file_ruled (look.Answered l n o) (r.answered_file p j (gather_of_entry (last_work j lane)) o)

  pub ruled : (c : Call) → Ruled p j lane c (r.rule p j lane c)
  ruled call.Ask = ask_ruled
  ruled (call.Look w) = look_ruled w
  ruled (call.Claim a b t f) = claim_ruled a b t f
  ruled call.Take = take_ruled (last_line j (lane / 2)) refl
  ruled (call.Answer l x) = answer_ruled l x
  ruled (call.Launched l how) = Notes (call.Launched l how) refl
  ruled (call.Wrote l n how) = Notes (call.Wrote l n how) refl
  ruled (call.Committed a b how) = Notes (call.Committed a b how) refl
  ruled (call.Killed l) = Notes (call.Killed l) refl
  ruled (call.Ended l how) = Notes (call.Ended l how) refl
  ruled call.Halt = Notes call.Halt refl
  ruled call.Tick = Notes call.Tick refl
