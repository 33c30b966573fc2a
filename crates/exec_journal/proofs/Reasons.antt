-- Each reply of a lawful journal with the reasons for it: a case for each way in which a rule answers; and how a scheduling discipline comes to be lawful.
use Rattle.std.proofs.Common.{ap, ◌≡◌, ℕ, ◌/◌, ◌==◌, nat_lt, Bool, true, false, ◌&&◌, not, cond, List, [], ◌∷◌, length, Option, Some, None, option_map, unwrap_or, ℤ, pos, inl, inr, refl, sym, subst, ◌∙◌}
use Rattle.std.specs.Prelude.{slice_get}
use Rattle.std.specs.List.{filter, find}
use Rattle.std.specs.Ordering.{int_eq}
use Rattle.std.proofs.lemmas.Bool.{and_parts}
use Rattle.run_plan.specs.declared.plan.Branch.{Branch}
use Rattle.run_plan.specs.declared.plan.Plan.{Plan}
use Rattle.exec_journal.specs.declared.attempt.Attempt.{Attempt}
use Rattle.exec_journal.specs.declared.ends.Cause.{Cause}
use Rattle.exec_journal.specs.Entry.{Entry}
use Rattle.exec_journal.specs.declared.call.Answer.{Answer}
use Rattle.exec_journal.specs.declared.call.Call.{Call}
use Rattle.exec_journal.specs.declared.call.Call.TheVariants as call
use Rattle.exec_journal.specs.declared.call.Found.{Found}
use Rattle.exec_journal.specs.declared.call.Found.TheVariants as found
use Rattle.exec_journal.specs.declared.call.Wanted.{Wanted}
use Rattle.exec_journal.specs.declared.call.Wanted.TheVariants as look
use Rattle.exec_journal.specs.declared.reply.Reply.{Reply}
use Rattle.exec_journal.specs.declared.reply.Reply.TheVariants as reply
use Rattle.exec_journal.specs.declared.reply.BreachWhy.TheVariants as breach
use Rattle.exec_journal.specs.declared.reply.StrayWhy.TheVariants as stray
use Rattle.exec_journal.specs.declared.reply.Why.TheVariants as why
use Rattle.list_lemmas.specs.Options.{or_else}
use Rattle.exec_journal.specs.Entries.{Request, attempt_of, gather_of_entry}
use Rattle.exec_journal.specs.Words.{last_work, line_count, started, was_taken, last_line, sends, pending, is_pending, has_cancel, line_cause, why_of, broke, live, granted, grant_of}
use Rattle.run_plan.specs.Groups.{has_cancellation, is_single}
use Rattle.run_plan.specs.declared.plan.Kind.{Kind}
use Rattle.exec_journal.specs.Settled.{bound, free_places}
use Rattle.exec_journal.specs.Seated.{line_group, line_kind, may_be_asked}
use Rattle.exec_journal.specs.Lawful as la
use Rattle.exec_journal.specs.Lawful.{IsNextOf, NextOn, FromBound, FromQueue, NoneBefore, Asked, Ticked, Told, LawfulEntry, Lawful}
use Rattle.exec_journal.specs.Rules as r
use Rattle.exec_journal.proofs.Histories.{AtSome, some_map, first_from}
use Rattle.exec_journal.proofs.Ruled.{is_noted, may_win, by_bool, not_true, GatherFor, gather_form, gathers_from, head_passes, pending_open, For}

chosen : (P : Reply → Type 0) (o rest : Option Reply) (d : Reply) → ((x : Reply) → o ≡ Some x → P x) → (o ≡ None → P (unwrap_or rest d)) → P (unwrap_or (or_else o rest) d)
chosen P (Some x) rest d some none = some x refl
chosen P None rest d some none = none refl

last_chosen : (P : Reply → Type 0) (o : Option Reply) (d : Reply) → ((x : Reply) → o ≡ Some x → P x) → P d → P (unwrap_or o d)
last_chosen P (Some x) d some none = some x refl
last_chosen P None d some none = none

pub when_some : {X : Type 0} (b : Bool) (y x : X) → r.when b y ≡ Some x → (b ≡ true) × (y ≡ x)
when_some true y x h = (refl, cc)
when_some false y x h = cc

when_none : {X : Type 0} (b : Bool) (y : X) → r.when b y ≡ None → b ≡ false
when_none true y h = cc
when_none false y h = refl

pub map_some : {X : Type 0} (f : X → Reply) (o : Option X) (x : Reply) → option_map f o ≡ Some x → (P : Reply → Type 0) → ((y : X) → o ≡ Some y → P (f y)) → P x
map_some f (Some y) x h P k = let e : f y ≡ x = cc in subst P e (k y refl)
map_some f None x h P k = cc

pub if_some : (b : Bool) (o : Option Reply) (x : Reply) → cond b o None ≡ Some x → (b ≡ true) × (o ≡ Some x)
if_some true o x h = (refl, h)
if_some false o x h = cc

gather_asked : (p : Plan) (j : List Entry) (w : ℕ) (k : List Entry) → r.is_over p j ≡ false → (x : Reply) → r.gathers_next j w ≡ Some x
    → AtSome (λ _ e. ((e.lane / 2 == w) ≡ true) × GatherFor j e.call e.reply x) k → Asked p j w x
gather_asked p j w (e ∷ k) over x h (inl g) = of_form e.call e.reply x g.1 h
  where
    of_form : (c : Call) (y x : Reply) → GatherFor j c y x → r.gathers_next j w ≡ Some x → Asked p j w x
    of_form c y x (For l m a b t wait) h = la.Gathers l m.number a b t m.exit (nat_lt 0 (length m.refusal)) h over
gather_asked p j w (e ∷ k) over x h (inr g) = gather_asked p j w k over x h g
gather_asked p j w [] over x h g = absurd g

-- the request of an answer
pub record IsRequest (p : Plan) (j : List Entry) (l : ℕ) (x : Answer) (q : Request) : Type 0 where
  pub unbroken : broke j l ≡ false
  pub is_open : is_pending j q ≡ true
  pub single : is_single (line_kind p j l) ≡ true → (int_eq x.number (pos 0) ≡ true) × (r.head (pending j l) ≡ Some q)
  pub multi : is_single (line_kind p j l) ≡ false → find (λ y. int_eq y.number x.number) (sends j l) ≡ Some q
  pub allowed : (x.cancelled && not (has_cancel j q)) ≡ false

pub data Ruled (p : Plan) (j : List Entry) (lane : ℕ) : Call → Reply → Type 0 where
  Quits : (l : ℕ) → last_line j (lane / 2) ≡ Some l → r.runs j l ≡ true → r.is_over p j ≡ true → Ruled p j lane call.Ask (reply.Kill l why.Quit)
  Stops : r.is_over p j ≡ true → r.leave j (last_line j (lane / 2)) ≡ reply.Stop → Ruled p j lane call.Ask reply.Stop
  KillsBroken : (l : ℕ) (y : Cause) → last_line j (lane / 2) ≡ Some l → r.runs j l ≡ true → line_cause j l ≡ Some y → r.is_over p j ≡ false → Ruled p j lane call.Ask (reply.Kill l (why_of y))
  KillsUnwanted : (l : ℕ) → last_line j (lane / 2) ≡ Some l → r.runs j l ≡ true → is_single (line_kind p j l) ≡ true → has_cancellation p (line_group p j l) ≡ false
      → r.has_unwanted p j l ≡ true → r.is_over p j ≡ false → Ruled p j lane call.Ask (reply.Kill l why.Unwanted)
  Gathers : (l : ℕ) (n : ℤ) (a : ℕ) (b : Branch) (t : ℕ) (e : ℤ) (u : Bool) → r.gathers_next j (lane / 2) ≡ Some (reply.Gather l n a b t e u) → r.is_over p j ≡ false
      → Ruled p j lane call.Ask (reply.Gather l n a b t e u)
  Cancels : (l : ℕ) (q : Request) → last_line j (lane / 2) ≡ Some l → live j l ≡ true → may_be_asked p j l ≡ true
      → r.oldest (filter (λ y. r.is_unwanted p j y && not (has_cancel j y)) (pending j l)) ≡ Some q → NoneBefore p j (lane / 2) → Ruled p j lane call.Ask (reply.Cancel q.line q.number)
  Sends : (l : ℕ) (t : Attempt) → last_line j (lane / 2) ≡ Some l → live j l ≡ true → NextOn p j l t → NoneBefore p j (lane / 2)
      → Ruled p j lane call.Ask (reply.Send l (r.number_of j (line_kind p j l) l) t.action t.branch t.number)
  Evicts : (l : ℕ) → last_line j (lane / 2) ≡ Some l → live j l ≡ true → pending j l ≡ [] → bound p j l ≡ None → NoneBefore p j (lane / 2) → Ruled p j lane call.Ask (reply.Kill l why.Evicted)
  Launches : (g : ℕ) (t : Attempt) → r.is_vacant j (last_line j (lane / 2)) ≡ true → IsNextOf p j g t → NoneBefore p j (lane / 2) → Ruled p j lane call.Ask (reply.Launch (line_count j) t.action t.branch t.number)
  Idles : Ruled p j lane call.Ask reply.Idle
  Counts : Ruled p j lane call.Tick reply.Noted
  Ticks : r.is_over p j ≡ true → Ruled p j lane call.Tick reply.Stop
  Waits : Ruled p j lane call.Tick reply.Idle
  Takes : (l : ℕ) → last_line j (lane / 2) ≡ Some l → started j l ≡ true → was_taken j l ≡ false → Ruled p j lane call.Take (reply.Line l)
  TakeStops : r.is_over p j ≡ true → Ruled p j lane call.Take reply.Stop
  TakeIdles : Ruled p j lane call.Take reply.Idle
  IsBroken : (l : ℕ) (x : Answer) → broke j l ≡ true → Ruled p j lane (call.Answer l x) (reply.Breach breach.Broken)
  Greets : (l : ℕ) (x : Answer) → broke j l ≡ false → r.is_greeting_of j (line_kind p j l) l x ≡ true → Ruled p j lane (call.Answer l x) reply.Greeted
  IsWrong : (l : ℕ) (x : Answer) → broke j l ≡ false → Ruled p j lane (call.Answer l x) (reply.Breach breach.WrongNumber)
  IsUnasked : (l : ℕ) (x : Answer) → broke j l ≡ false → Ruled p j lane (call.Answer l x) (reply.Breach breach.Unasked)
  IsNotCancelled : (l : ℕ) (x : Answer) → broke j l ≡ false → Ruled p j lane (call.Answer l x) (reply.Breach breach.NotCancelled)
  IsNever : (l : ℕ) (x : Answer) → broke j l ≡ false → Ruled p j lane (call.Answer l x) (reply.Stray stray.Never)
  IsClosed : (l : ℕ) (x : Answer) → broke j l ≡ false → Ruled p j lane (call.Answer l x) (reply.Stray stray.Closed)
  IsLate : (l : ℕ) (x : Answer) (q : Request) → IsRequest p j l x q → granted j q.attempt.action ≡ true
      → Ruled p j lane (call.Answer l x) (reply.Late q.attempt.action q.attempt.branch q.attempt.number)
  IsMatched : (l : ℕ) (x : Answer) (q : Request) → IsRequest p j l x q → granted j q.attempt.action ≡ false
      → Ruled p j lane (call.Answer l x) (reply.Matched q.attempt.action q.attempt.branch q.attempt.number)
  Loses : (a : ℕ) (b : Branch) (t : ℕ) (f : Found) → r.is_other b (grant_of j a) ≡ true → Ruled p j lane (call.Claim a b t f) reply.Lost
  Grants : (a : ℕ) (b : Branch) (t : ℕ) (f : Found) → r.is_other b (grant_of j a) ≡ false → may_win f ≡ true → Ruled p j lane (call.Claim a b t f) reply.Granted
  Defers : (a : ℕ) (b : Branch) (t : ℕ) (f : Found) → r.is_other b (grant_of j a) ≡ false → may_win f ≡ false → nat_lt t p.limit ≡ true → Ruled p j lane (call.Claim a b t f) reply.AgainLater
  Drops : (a : ℕ) (b : Branch) (t : ℕ) (f : Found) → r.is_other b (grant_of j a) ≡ false → may_win f ≡ false → nat_lt t p.limit ≡ false → Ruled p j lane (call.Claim a b t f) reply.Dropped
  Shows : (w : Wanted) (content : List ℕ) → Ruled p j lane (call.Look w) (reply.File content)
  ShowsNone : (w : Wanted) → Ruled p j lane (call.Look w) reply.NoFile
  Notes : (c : Call) → is_noted c ≡ true → Ruled p j lane c reply.Noted

module _ (p : Plan) (j : List Entry) (lane : ℕ) where
  asked_ruled : (x : Reply) → Asked p j (lane / 2) x → Ruled p j lane call.Ask x
  asked_ruled x (la.Quits l here run over) = Quits l here run over
  asked_ruled x (la.Stops over gone) = Stops over gone
  asked_ruled x (la.KillsBroken l y here run broken over) = KillsBroken l y here run broken over
  asked_ruled x (la.KillsUnwanted l here run one none unwanted over) = KillsUnwanted l here run one none unwanted over
  asked_ruled x (la.Gathers l n a b t e u next over) = Gathers l n a b t e u next over
  asked_ruled x (la.Cancels l q here alive may which none) = Cancels l q here alive may which none
  asked_ruled x (la.Sends l t here alive next none) = Sends l t here alive next none
  asked_ruled x (la.Evicts l here alive empty free none) = Evicts l here alive empty free none
  asked_ruled x (la.Launches g t vacant next none) = Launches g t vacant next none
  asked_ruled x la.Idles = Idles

  ticked_ruled : (x : Reply) → Ticked p j x → Ruled p j lane call.Tick x
  ticked_ruled x la.Counts = Counts
  ticked_ruled x (la.Ends over) = Ticks over
  ticked_ruled x la.Waits = Waits

  stop_ruled : Ruled p j lane call.Take (cond (r.is_over p j) reply.Stop reply.Idle)
  stop_ruled = by_bool (r.is_over p j) (λ b. Ruled p j lane call.Take (cond b reply.Stop reply.Idle)) (λ over. TakeStops over) (λ _. TakeIdles)

  take_ruled : (o : Option ℕ) → last_line j (lane / 2) ≡ o → Ruled p j lane call.Take (r.take_reply p j o)
  take_ruled None here = stop_ruled
  take_ruled (Some l) here =
      by_bool (started j l && not (was_taken j l)) (λ b. Ruled p j lane call.Take (cond b (reply.Line l) (cond (r.is_over p j) reply.Stop reply.Idle)))
      (λ h. let w = and_parts (started j l) _ h in Takes l here w.0 (not_true _ w.1)) (λ _. stop_ruled)

  consume_ruled : (l : ℕ) (x : Answer) (q : Request) → broke j l ≡ false → is_pending j q ≡ true
      → (is_single (line_kind p j l) ≡ true → (int_eq x.number (pos 0) ≡ true) × (r.head (pending j l) ≡ Some q))
      → (is_single (line_kind p j l) ≡ false → find (λ y. int_eq y.number x.number) (sends j l) ≡ Some q)
      → Ruled p j lane (call.Answer l x) (r.consume j x q)
  consume_ruled l x q whole still one many =
      by_bool (x.cancelled && not (has_cancel j q))
      (λ b. Ruled p j lane (call.Answer l x) (cond b (reply.Breach breach.NotCancelled) (cond (granted j q.attempt.action) (reply.Late q.attempt.action q.attempt.branch q.attempt.number) (reply.Matched q.attempt.action q.attempt.branch q.attempt.number))))
      (λ _. IsNotCancelled l x whole)
      (λ may. let is : IsRequest p j l x q = record { unbroken = whole; is_open = still; single = one; multi = many; allowed = may } in
      by_bool (granted j q.attempt.action)
      (λ b. Ruled p j lane (call.Answer l x) (cond b (reply.Late q.attempt.action q.attempt.branch q.attempt.number) (reply.Matched q.attempt.action q.attempt.branch q.attempt.number)))
      (λ g. IsLate l x q is g) (λ g. IsMatched l x q is g))

  single_ruled : (l : ℕ) (x : Answer) → broke j l ≡ false → is_single (line_kind p j l) ≡ true → int_eq x.number (pos 0) ≡ true
      → (o : Option Request) → r.head (pending j l) ≡ o → Ruled p j lane (call.Answer l x) (r.answer_single j x o)
  single_ruled l x whole one zero None h = IsUnasked l x whole
  single_ruled l x whole one zero (Some q) h =
      consume_ruled l x q whole (pending_open j l q h) (λ _. (zero, h)) (λ many. absurd (let e : true ≡ false = sym one ∙ many in cc))

  multi_ruled : (l : ℕ) (x : Answer) → broke j l ≡ false → is_single (line_kind p j l) ≡ false
      → (o : Option Request) → find (λ y. int_eq y.number x.number) (sends j l) ≡ o → Ruled p j lane (call.Answer l x) (r.answer_multi j x o)
  multi_ruled l x whole many None h = IsNever l x whole
  multi_ruled l x whole many (Some q) h =
      by_bool (is_pending j q) (λ b. Ruled p j lane (call.Answer l x) (cond b (r.consume j x q) (reply.Stray stray.Closed)))
      (λ still. consume_ruled l x q whole still (λ one. absurd (let e : true ≡ false = sym one ∙ many in cc)) (λ _. h)) (λ _. IsClosed l x whole)

  unmet_ruled : (l : ℕ) (x : Answer) → broke j l ≡ false → Ruled p j lane (call.Answer l x) (cond (is_single (line_kind p j l))
      (cond (int_eq x.number (pos 0)) (r.answer_single j x (r.head (pending j l))) (reply.Breach breach.WrongNumber)) (r.answer_multi j x (find (λ y. int_eq y.number x.number) (sends j l))))
  unmet_ruled l x whole =
      by_bool (is_single (line_kind p j l)) (λ b. Ruled p j lane (call.Answer l x) (cond b
      (cond (int_eq x.number (pos 0)) (r.answer_single j x (r.head (pending j l))) (reply.Breach breach.WrongNumber)) (r.answer_multi j x (find (λ y. int_eq y.number x.number) (sends j l)))))
      (λ one. by_bool (int_eq x.number (pos 0)) (λ b. Ruled p j lane (call.Answer l x) (cond b (r.answer_single j x (r.head (pending j l))) (reply.Breach breach.WrongNumber)))
      (λ zero. single_ruled l x whole one zero (r.head (pending j l)) refl) (λ _. IsWrong l x whole))
      (λ many. multi_ruled l x whole many (find (λ y. int_eq y.number x.number) (sends j l)) refl)

  answer_ruled : (l : ℕ) (x : Answer) → Ruled p j lane (call.Answer l x) (r.answer_reply_of j (line_kind p j l) l x)
  answer_ruled l x =
      by_bool (broke j l) (λ b. Ruled p j lane (call.Answer l x) (cond b (reply.Breach breach.Broken) (cond (r.is_greeting_of j (line_kind p j l) l x) reply.Greeted (cond (is_single (line_kind p j l))
      (cond (int_eq x.number (pos 0)) (r.answer_single j x (r.head (pending j l))) (reply.Breach breach.WrongNumber)) (r.answer_multi j x (find (λ y. int_eq y.number x.number) (sends j l)))))))
      (λ b. IsBroken l x b)
      (λ whole. by_bool (r.is_greeting_of j (line_kind p j l) l x) (λ b. Ruled p j lane (call.Answer l x) (cond b reply.Greeted (cond (is_single (line_kind p j l))
      (cond (int_eq x.number (pos 0)) (r.answer_single j x (r.head (pending j l))) (reply.Breach breach.WrongNumber)) (r.answer_multi j x (find (λ y. int_eq y.number x.number) (sends j l))))))
      (λ greeting. Greets l x whole greeting) (λ _. unmet_ruled l x whole))

  again_ruled : (a : ℕ) (b : Branch) (t : ℕ) (f : Found) → r.is_other b (grant_of j a) ≡ false → may_win f ≡ false → Ruled p j lane (call.Claim a b t f) (cond (nat_lt t p.limit) reply.AgainLater reply.Dropped)
  again_ruled a b t f free none = by_bool (nat_lt t p.limit) (λ c. Ruled p j lane (call.Claim a b t f) (cond c reply.AgainLater reply.Dropped)) (λ below. Defers a b t f free none below) (λ at. Drops a b t f free none at)

  found_ruled : (a : ℕ) (b : Branch) (t : ℕ) (f : Found) → r.is_other b (grant_of j a) ≡ false → Ruled p j lane (call.Claim a b t f) (r.by_found p t f)
  found_ruled a b t (found.Files fs) free = Grants a b t (found.Files fs) free refl
  found_ruled a b t (found.Exit n) free = Grants a b t (found.Exit n) free refl
  found_ruled a b t (found.Missing k) free = again_ruled a b t (found.Missing k) free refl
  found_ruled a b t found.RoomFault free = again_ruled a b t found.RoomFault free refl
  found_ruled a b t found.Refused free = again_ruled a b t found.Refused free refl

  claim_ruled : (a : ℕ) (b : Branch) (t : ℕ) (f : Found) → Ruled p j lane (call.Claim a b t f) (r.claim_reply p j a b t f)
  claim_ruled a b t f =
      by_bool (r.is_other b (grant_of j a)) (λ c. Ruled p j lane (call.Claim a b t f) (cond c reply.Lost (r.by_found p t f)))
      (λ other. Loses a b t f other) (λ free. found_ruled a b t f free)

  file_ruled : (w : Wanted) (o : Option (List ℕ)) → Ruled p j lane (call.Look w) (r.file_reply o)
  file_ruled w (Some content) = Shows w content
  file_ruled w None = ShowsNone w

  look_ruled : (w : Wanted) → Ruled p j lane (call.Look w) (r.look_reply p j lane w)
  look_ruled (look.Made a o) = file_ruled (look.Made a o) (slice_get (r.files_of_grant (grant_of j a)) o)
  look_ruled (look.Answered l n o) = file_ruled (look.Answered l n o) (r.answered_file p j (gather_of_entry (last_work j lane)) o)

  noted_ruled : (c : Call) (x : Reply) → is_noted c ≡ true → x ≡ reply.Noted → Ruled p j lane c x
  noted_ruled c x n is = subst (λ (v : Reply). Ruled p j lane c v) (sym is) (Notes c n)

  -- each reply of a lawful entry
  pub told_ruled : (c : Call) (x : Reply) → Told p j lane c x → Ruled p j lane c x
  told_ruled call.Ask x told = asked_ruled x told
  told_ruled call.Tick x told = ticked_ruled x told
  told_ruled (call.Look w) x is = subst (λ (v : Reply). Ruled p j lane (call.Look w) v) (sym is) (look_ruled w)
  told_ruled (call.Claim a b t f) x is = subst (λ (v : Reply). Ruled p j lane (call.Claim a b t f) v) (sym is) (claim_ruled a b t f)
  told_ruled call.Take x is = subst (λ (v : Reply). Ruled p j lane call.Take v) (sym is) (take_ruled (last_line j (lane / 2)) refl)
  told_ruled (call.Answer l y) x is = subst (λ (v : Reply). Ruled p j lane (call.Answer l y) v) (sym is) (answer_ruled l y)
  told_ruled (call.Launched l how) x is = noted_ruled (call.Launched l how) x refl is
  told_ruled (call.Wrote l n how) x is = noted_ruled (call.Wrote l n how) x refl is
  told_ruled (call.Committed a b how) x is = noted_ruled (call.Committed a b how) x refl is
  told_ruled (call.Killed l) x is = noted_ruled (call.Killed l) x refl is
  told_ruled (call.Ended l how) x is = noted_ruled (call.Ended l how) x refl is
  told_ruled call.Halt x is = noted_ruled call.Halt x refl is

pub ruled : (p : Plan) (j : List Entry) (e : Entry) → LawfulEntry p j e → Ruled p j e.lane e.call e.reply
ruled p j e entry = told_ruled p j e.lane e.call e.reply entry.told

-- ---- a discipline's reply to Ask has reasons, where what it calls next is, and what more it orders

module _ (p : Plan) (j : List Entry) (w : ℕ) (k : Kind) (g : ℕ) where
  leaves : (o : Option ℕ) → last_line j w ≡ o → r.is_over p j ≡ true → Asked p j w (r.leave j o)
  leaves None here over = la.Stops over (ap (r.leave j) here)
  leaves (Some l) here over =
      by_bool (r.runs j l) (λ b. Asked p j w (cond b (reply.Kill l why.Quit) reply.Stop)) (λ run. la.Quits l here run over)
      (λ still. la.Stops over (ap (r.leave j) here ∙ ap (λ b. cond b (reply.Kill l why.Quit) reply.Stop) still))

  kills_asked : r.is_over p j ≡ false → (o : Option ℕ) → last_line j w ≡ o → (x : Reply) → r.kills_broken j o ≡ Some x → Asked p j w x
  kills_asked over None here x h = absurd (cc)
  kills_asked over (Some l) here x h =
      let c = if_some (r.runs j l) (option_map (λ y. reply.Kill l (why_of y)) (line_cause j l)) x h in
      map_some (λ y. reply.Kill l (why_of y)) (line_cause j l) x c.1 (λ v. Asked p j w v) (λ y broken. la.KillsBroken l y here c.0 broken over)

  module _ (last : Option ℕ) (here : last_line j w ≡ last) (seated : (l : ℕ) → last ≡ Some l → (k ≡ line_kind p j l) × (g ≡ line_group p j l)) where
    unwanted_asked : r.is_over p j ≡ false → (o : Option ℕ) → last ≡ o → (x : Reply) → r.kills_unwanted_of p j k g o ≡ Some x → Asked p j w x
    unwanted_asked over None at x h = absurd (cc)
    unwanted_asked over (Some l) at x h =
        let c = when_some _ (reply.Kill l why.Unwanted) x h in
        let runs_and = and_parts (r.runs j l) _ c.0 in
        let single_and = and_parts _ (r.has_unwanted p j l) runs_and.1 in
        let single = and_parts (is_single k) _ single_and.0 in
        let seat = seated l at in
        subst (λ (v : Reply). Asked p j w v) c.1
        (la.KillsUnwanted l (here ∙ at) runs_and.0 (subst (λ (n : Kind). is_single n ≡ true) seat.0 single.0)
        (subst (λ (n : ℕ). has_cancellation p n ≡ false) seat.1 (not_true _ single.1)) single_and.1 over)

    cancels_asked : NoneBefore p j w → (o : Option ℕ) → last ≡ o → (x : Reply) → r.cancels_next_of p j k g o ≡ Some x → Asked p j w x
    cancels_asked none None at x h = absurd (cc)
    cancels_asked none (Some l) at x h =
        let c = if_some _ (option_map r.cancel_for (r.oldest (filter (λ y. r.is_unwanted p j y && not (has_cancel j y)) (pending j l)))) x h in
        let tests = and_parts (live j l) _ c.0 in
        let seat = seated l at in
        let may : may_be_asked p j l ≡ true = subst (λ (n : ℕ). r.may_cancel_of p j (line_kind p j l) n l ≡ true) seat.1 (subst (λ (n : Kind). r.may_cancel_of p j n g l ≡ true) seat.0 tests.1) in
        map_some r.cancel_for (r.oldest (filter (λ y. r.is_unwanted p j y && not (has_cancel j y)) (pending j l))) x c.1 (λ v. Asked p j w v) (λ q which. la.Cancels l q (here ∙ at) tests.0 may which none)

    next_on : (l : ℕ) (t : Attempt) (next : Option Attempt) → k ≡ line_kind p j l → ((s : Attempt) → next ≡ Some s → IsNextOf p j (line_group p j l) s) → r.next_of p j k next l ≡ Some t → NextOn p j l t
    next_on l t next seat is_next h = by (bound p j l) refl h
      where
        by : (o : Option Attempt) → bound p j l ≡ o → or_else o (cond (nat_lt 0 (free_places p j k l)) next None) ≡ Some t → NextOn p j l t
        by (Some s) is n = FromBound (is ∙ n)
        by None is n =
            by_bool (nat_lt 0 (free_places p j k l)) (λ z. nat_lt 0 (free_places p j k l) ≡ z → cond z next None ≡ Some t → NextOn p j l t)
            (λ _ room y. FromQueue is (subst (λ (n : Kind). nat_lt 0 (free_places p j n l) ≡ true) seat room) (is_next t y)) (λ _ _ y. absurd (cc)) refl n

    sends_asked : NoneBefore p j w → (next : Option Attempt) → ((l : ℕ) (t : Attempt) → last ≡ Some l → next ≡ Some t → IsNextOf p j (line_group p j l) t)
        → (o : Option ℕ) → last ≡ o → (x : Reply) → r.sends_next_of p j k next o ≡ Some x → Asked p j w x
    sends_asked none next is_next None at x h = absurd (cc)
    sends_asked none next is_next (Some l) at x h =
        let c = if_some (live j l) (option_map (r.send_order_of j k l) (r.next_of p j k next l)) x h in
        let seat = seated l at in
        map_some (r.send_order_of j k l) (r.next_of p j k next l) x c.1 (λ v. Asked p j w v)
        (λ t on. subst (λ (n : Kind). Asked p j w (r.send_order_of j n l t)) (sym seat.0)
        (la.Sends l t (here ∙ at) c.0 (next_on l t next seat.0 (λ s is. is_next l s at is) on) none))

    pub asked : (next : Option Attempt) (more : Option Reply) → ((l : ℕ) (t : Attempt) → last ≡ Some l → next ≡ Some t → IsNextOf p j (line_group p j l) t)
        → (NoneBefore p j w → (x : Reply) → more ≡ Some x → Asked p j w x) → Asked p j w (r.ask_of p j w k g last next more)
    asked next more is_next is_more =
        chosen (λ v. Asked p j w v) (r.quits p j last) _ reply.Idle
        (λ x h. let c = when_some (r.is_over p j) (r.leave j last) x h in subst (λ (v : Reply). Asked p j w v) c.1 (leaves last here c.0))
        (λ q. let over = when_none _ _ q in
        chosen (λ v. Asked p j w v) (r.kills_broken j last) _ reply.Idle (kills_asked over last here)
        (λ n. chosen (λ v. Asked p j w v) (r.kills_unwanted_of p j k g last) _ reply.Idle (unwanted_asked over last refl)
        (λ u. chosen (λ v. Asked p j w v) (r.gathers_next j w) _ reply.Idle (λ x h. gather_asked p j w j over x h (gathers_from j w x h))
        (λ m. let none : NoneBefore p j w = record { goes_on = over; no_kill = subst (λ (o : Option ℕ). r.kills_broken j o ≡ None) (sym here) n; no_gather = m } in
        chosen (λ v. Asked p j w v) (r.cancels_next_of p j k g last) _ reply.Idle (cancels_asked none last refl)
        (λ _. chosen (λ v. Asked p j w v) (r.sends_next_of p j k next last) _ reply.Idle (sends_asked none next is_next last refl)
        (λ _. last_chosen (λ v. Asked p j w v) more reply.Idle (is_more none) la.Idles))))))

-- whatever holds of each rule's orders holds of the reply
pub ask_chain : (P : Reply → Type 0) (p : Plan) (j : List Entry) (w : ℕ) (k : Kind) (g : ℕ) (last : Option ℕ) (next : Option Attempt) (more : Option Reply)
    → ((x : Reply) → r.quits p j last ≡ Some x → P x) → ((x : Reply) → r.kills_broken j last ≡ Some x → P x) → ((x : Reply) → r.kills_unwanted_of p j k g last ≡ Some x → P x)
    → ((x : Reply) → r.gathers_next j w ≡ Some x → P x) → ((x : Reply) → r.cancels_next_of p j k g last ≡ Some x → P x) → ((x : Reply) → r.sends_next_of p j k next last ≡ Some x → P x)
    → ((x : Reply) → more ≡ Some x → P x) → P reply.Idle → P (r.ask_of p j w k g last next more)
ask_chain P p j w k g last next more quit broken unwanted gather cancel send other idle =
    chosen P (r.quits p j last) _ reply.Idle quit
    (λ _. chosen P (r.kills_broken j last) _ reply.Idle broken
    (λ _. chosen P (r.kills_unwanted_of p j k g last) _ reply.Idle unwanted
    (λ _. chosen P (r.gathers_next j w) _ reply.Idle gather
    (λ _. chosen P (r.cancels_next_of p j k g last) _ reply.Idle cancel
    (λ _. chosen P (r.sends_next_of p j k next last) _ reply.Idle send
    (λ _. last_chosen P more reply.Idle other idle))))))
