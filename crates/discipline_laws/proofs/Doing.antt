-- What a proxy lane may do by its duty is in its script.
use Rattle.std.proofs.Common.{◌≡◌, ℕ, ℤ, ◌/◌, ◌%◌, ◌==◌, ◌<◌, nat_lt, Bool, true, false, cond, ◌&&◌, ◌||◌, not, List, Option, Some, None, refl, ap, sym, ◌∙◌, subst, arith, eq-eqb}
use Rattle.std.specs.Prelude.{slice_get, unwrap_or, option_map, length, [], pos}
use Rattle.std.specs.Ordering.{int_eq}
use Rattle.run_plan.specs.declared.plan.Branch.{Branch}
use Rattle.run_plan.specs.declared.plan.Plan.{Plan}
use Rattle.run_plan.specs.declared.plan.PlanAction.{PlanAction}
use Rattle.run_plan.specs.declared.plan.Kind.{Kind}
use Rattle.run_plan.specs.declared.plan.Maker.{Maker}
use Rattle.run_plan.specs.Groups.{is_remote}
use Rattle.exec_journal.specs.declared.call.Call.{Call}
use Rattle.exec_journal.specs.declared.call.Call.TheVariants as call
use Rattle.exec_journal.specs.declared.call.Found.TheVariants as found
use Rattle.exec_journal.specs.declared.call.Wanted.TheVariants as wanted
use Rattle.exec_journal.specs.declared.reply.Why.{Why}
use Rattle.exec_journal.specs.declared.reply.Reply.{Reply}
use Rattle.exec_journal.specs.declared.reply.Reply.TheVariants as reply
use Rattle.exec_journal.specs.Entry.{Entry}
use Rattle.exec_journal.specs.Entries.{attempt_of, same_attempt}
use Rattle.exec_journal.specs.Words.{last_work, stopped, has_halted}
use Rattle.exec_journal.specs.Scripts.{is_made, is_owed_commit, may_find, allowed, seat_script}
use Rattle.core_contract.specs.Moves.{History}
use Rattle.core_contract.specs.Duties.{Duty, Asks, Launches, Sends, Cancels, Gathers, Commits, Kills, Left, ordered, duty_of_claim, duty_of, proxy_lane, may_do}
use Rattle.seat_desk.specs.History.{calls_by}
use Rattle.core_contract.specs.Discipline.{Discipline}
use Rattle.core_contract.specs.Ruled.{journal_of}
use Rattle.discipline_laws.specs.Owed.{has_left, duty_of_work, owed_by}
use Rattle.discipline_laws.proofs.Going.{duty_is}
use Rattle.discipline_laws.proofs.Dues.{neither_left, lane_within}
use Rattle.std.proofs.Math.Nat.{mul-mod_right, mul-div_cancel_left}
use Rattle.std.specs.List.{list_any}

-- ---- what a plan says of an action

pub makes_so : (v : Option PlanAction) (test : Maker → Bool)
    → list_any test (unwrap_or (option_map (λ (x : PlanAction). x.makers) v) [])
    ≡ unwrap_or (option_map (λ (x : PlanAction). list_any test x.makers) v) false
makes_so None test = refl
makes_so (Some x) test = refl

pub outputs_so : (v : Option PlanAction)
    → length (unwrap_or (option_map (λ (x : PlanAction). x.outputs) v) [])
    ≡ unwrap_or (option_map (λ (x : PlanAction). length x.outputs) v) 0
outputs_so None = refl
outputs_so (Some x) = refl

-- ---- which calls an order allows

module _ (q : Discipline) (w : ℕ) where
  abbrev p : Plan
  p = q.plan

  abbrev k : Kind
  k = q.kinds w

  abbrev Do : Duty → Call → Bool
  Do s c = may_do q w s c

  -- after this work the call is allowed
  abbrev May : ℕ → Call → Reply → Call → Type 0
  May n x r c = allowed p k true (Some (record { lane = n; call = x; reply = r })) c ≡ true

  asks_only : (P : Call → Type 0) (c : Call) → Do Asks c ≡ true → P call.Ask → P call.Halt → P c
  asks_only P call.Ask h ask halt = ask
  asks_only P (call.Launched k how) h ask halt = absurd (cc)
  asks_only P (call.Wrote k m how) h ask halt = absurd (cc)
  asks_only P (call.Look v) h ask halt = absurd (cc)
  asks_only P (call.Claim c d u f) h ask halt = absurd (cc)
  asks_only P (call.Committed c d how) h ask halt = absurd (cc)
  asks_only P (call.Killed k) h ask halt = absurd (cc)
  asks_only P call.Take h ask halt = absurd (cc)
  asks_only P (call.Answer k z) h ask halt = absurd (cc)
  asks_only P (call.Ended k how) h ask halt = absurd (cc)
  asks_only P call.Halt h ask halt = halt
  asks_only P call.Tick h ask halt = absurd (cc)

  launch_may : (n : ℕ) (x : Call) (l a : ℕ) (b : Branch) (t : ℕ) (c : Call)
      → Do (Launches l (attempt_of a b t)) c ≡ true → May n x (reply.Launch l a b t) c
  launch_may n x l a b t call.Ask h = absurd (cc)
  launch_may n x l a b t (call.Launched k how) h = (λ i. h i || false)
  launch_may n x l a b t (call.Wrote k m how) h = absurd (cc)
  launch_may n x l a b t (call.Look v) h = absurd (cc)
  launch_may n x l a b t (call.Claim c d u f) h = absurd (cc)
  launch_may n x l a b t (call.Committed c d how) h = absurd (cc)
  launch_may n x l a b t (call.Killed k) h = absurd (cc)
  launch_may n x l a b t call.Take h = absurd (cc)
  launch_may n x l a b t (call.Answer k z) h = absurd (cc)
  launch_may n x l a b t (call.Ended k how) h = absurd (cc)
  launch_may n x l a b t call.Halt h = refl
  launch_may n x l a b t call.Tick h = absurd (cc)

  send_may : (n : ℕ) (x : Call) (l : ℕ) (o : ℤ) (a : ℕ) (b : Branch) (t : ℕ) (c : Call)
      → Do (Sends l o (attempt_of a b t)) c ≡ true → May n x (reply.Send l o a b t) c
  send_may n x l o a b t call.Ask h = absurd (cc)
  send_may n x l o a b t (call.Launched k how) h = absurd (cc)
  send_may n x l o a b t (call.Wrote k m how) h = (λ i. h i || false)
  send_may n x l o a b t (call.Look (wanted.Made c e)) h =
      (λ i. (sym (makes_so (slice_get p.actions a) (λ m. is_made m c e)) ∙ h) i || false)
  send_may n x l o a b t (call.Look (wanted.Answered j m e)) h = absurd (cc)
  send_may n x l o a b t (call.Claim c d u f) h = absurd (cc)
  send_may n x l o a b t (call.Committed c d how) h = absurd (cc)
  send_may n x l o a b t (call.Killed k) h = absurd (cc)
  send_may n x l o a b t call.Take h = absurd (cc)
  send_may n x l o a b t (call.Answer k z) h = absurd (cc)
  send_may n x l o a b t (call.Ended k how) h = absurd (cc)
  send_may n x l o a b t call.Halt h = refl
  send_may n x l o a b t call.Tick h = absurd (cc)

  cancel_may : (n : ℕ) (x : Call) (l : ℕ) (o : ℤ) (c : Call)
      → Do (Cancels l o) c ≡ true → May n x (reply.Cancel l o) c
  cancel_may n x l o call.Ask h = absurd (cc)
  cancel_may n x l o (call.Launched k how) h = absurd (cc)
  cancel_may n x l o (call.Wrote k m how) h = (λ i. h i || false)
  cancel_may n x l o (call.Look v) h = absurd (cc)
  cancel_may n x l o (call.Claim c d u f) h = absurd (cc)
  cancel_may n x l o (call.Committed c d how) h = absurd (cc)
  cancel_may n x l o (call.Killed k) h = absurd (cc)
  cancel_may n x l o call.Take h = absurd (cc)
  cancel_may n x l o (call.Answer k z) h = absurd (cc)
  cancel_may n x l o (call.Ended k how) h = absurd (cc)
  cancel_may n x l o call.Halt h = refl
  cancel_may n x l o call.Tick h = absurd (cc)

  gather_may : (n : ℕ) (x : Call) (l : ℕ) (o : ℤ) (a : ℕ) (b : Branch) (t : ℕ) (exit : ℤ)
      (refused : Bool) (c : Call) → Do (Gathers l o (attempt_of a b t) exit refused) c ≡ true
      → May n x (reply.Gather l o a b t exit refused) c
  gather_may n x l o a b t exit refused call.Ask h = absurd (cc)
  gather_may n x l o a b t exit refused (call.Launched k how) h = absurd (cc)
  gather_may n x l o a b t exit refused (call.Wrote k m how) h = absurd (cc)
  gather_may n x l o a b t exit refused (call.Look (wanted.Made c e)) h = absurd (cc)
  gather_may n x l o a b t exit refused (call.Look (wanted.Answered j m e)) h =
      (λ i. (ap (λ (q : ℕ).
      ((j == l) && int_eq m o) && (int_eq exit (pos 0) && (not refused && nat_lt e q)))
      (sym (outputs_so (slice_get p.actions a))) ∙ h) i || false)
  gather_may n x l o a b t exit refused (call.Claim c d u f) h =
      (λ i. (ap (λ (q : ℕ). same_attempt (attempt_of c d u) (attempt_of a b t)
      && may_find q (is_remote k) exit refused f) (sym (outputs_so (slice_get p.actions c))) ∙ h) i
      || false)
  gather_may n x l o a b t exit refused (call.Committed c d how) h = absurd (cc)
  gather_may n x l o a b t exit refused (call.Killed k) h = absurd (cc)
  gather_may n x l o a b t exit refused call.Take h = absurd (cc)
  gather_may n x l o a b t exit refused (call.Answer k z) h = absurd (cc)
  gather_may n x l o a b t exit refused (call.Ended k how) h = absurd (cc)
  gather_may n x l o a b t exit refused call.Halt h = refl
  gather_may n x l o a b t exit refused call.Tick h = absurd (cc)

  kill_may : (n : ℕ) (x : Call) (l : ℕ) (y : Why) (c : Call) → Do (Kills l) c ≡ true
      → May n x (reply.Kill l y) c
  kill_may n x l y call.Ask h = absurd (cc)
  kill_may n x l y (call.Launched k how) h = absurd (cc)
  kill_may n x l y (call.Wrote k m how) h = absurd (cc)
  kill_may n x l y (call.Look v) h = absurd (cc)
  kill_may n x l y (call.Claim c d u f) h = absurd (cc)
  kill_may n x l y (call.Committed c d how) h = absurd (cc)
  kill_may n x l y (call.Killed k) h = (λ i. h i || false)
  kill_may n x l y call.Take h = absurd (cc)
  kill_may n x l y (call.Answer k z) h = absurd (cc)
  kill_may n x l y (call.Ended k how) h = absurd (cc)
  kill_may n x l y call.Halt h = refl
  kill_may n x l y call.Tick h = absurd (cc)

  commit_may : (n a : ℕ) (b : Branch) (t : ℕ) (fs : List (List ℕ)) (c : Call)
      → Do (Commits a b fs) c ≡ true → May n (call.Claim a b t (found.Files fs)) reply.Granted c
  commit_may n a b t fs call.Ask h = absurd (cc)
  commit_may n a b t fs (call.Launched k how) h = absurd (cc)
  commit_may n a b t fs (call.Wrote k m how) h = absurd (cc)
  commit_may n a b t fs (call.Look v) h = absurd (cc)
  commit_may n a b t fs (call.Claim c d u f) h = absurd (cc)
  commit_may n a b t fs (call.Committed c d how) h = h
  commit_may n a b t fs (call.Killed k) h = absurd (cc)
  commit_may n a b t fs call.Take h = absurd (cc)
  commit_may n a b t fs (call.Answer k z) h = absurd (cc)
  commit_may n a b t fs (call.Ended k how) h = absurd (cc)
  commit_may n a b t fs call.Halt h = absurd (cc)
  commit_may n a b t fs call.Tick h = absurd (cc)

  abbrev pub is_grant : Reply → Bool
  is_grant reply.Granted = true
  is_grant _ = false

  order_may : (n : ℕ) (x : Call) (r : Reply) (c : Call) → is_grant r ≡ false
      → Do (ordered r) c ≡ true → May n x r c
  order_may n x (reply.Launch l a b t) c other h = launch_may n x l a b t c h
  order_may n x (reply.Send l o a b t) c other h = send_may n x l o a b t c h
  order_may n x (reply.Cancel l o) c other h = cancel_may n x l o c h
  order_may n x (reply.Gather l o a b t exit refused) c other h =
      gather_may n x l o a b t exit refused c h
  order_may n x (reply.Kill l y) c other h = kill_may n x l y c h
  order_may n x reply.Stop c other h = absurd (cc)
  order_may n x reply.Idle c other h = asks_only (May n x reply.Idle) c h refl refl
  order_may n x reply.Noted c other h = asks_only (May n x reply.Noted) c h refl refl
  order_may n x (reply.File f) c other h = asks_only (May n x (reply.File f)) c h refl refl
  order_may n x reply.NoFile c other h = asks_only (May n x reply.NoFile) c h refl refl
  order_may n x reply.Granted c other h = absurd (cc)
  order_may n x reply.Lost c other h = asks_only (May n x reply.Lost) c h refl refl
  order_may n x reply.Dropped c other h = asks_only (May n x reply.Dropped) c h refl refl
  order_may n x reply.AgainLater c other h = asks_only (May n x reply.AgainLater) c h refl refl
  order_may n x (reply.Line l) c other h = asks_only (May n x (reply.Line l)) c h refl refl
  order_may n x (reply.Matched a b t) c other h =
      asks_only (May n x (reply.Matched a b t)) c h refl refl
  order_may n x (reply.Late a b t) c other h = asks_only (May n x (reply.Late a b t)) c h refl refl
  order_may n x reply.Greeted c other h = asks_only (May n x reply.Greeted) c h refl refl
  order_may n x (reply.Stray y) c other h = asks_only (May n x (reply.Stray y)) c h refl refl
  order_may n x (reply.Breach y) c other h = asks_only (May n x (reply.Breach y)) c h refl refl
  order_may n x reply.Astray c other h = asks_only (May n x reply.Astray) c h refl refl
  order_may n x reply.NoMemory c other h = asks_only (May n x reply.NoMemory) c h refl refl

  files_ungranted : (a : ℕ) (b : Branch) (fs : List (List ℕ)) (r : Reply) → is_grant r ≡ false
      → duty_of_claim a b (found.Files fs) r ≡ ordered r
  files_ungranted a b fs (reply.Launch l u v w) e = refl
  files_ungranted a b fs (reply.Send l n u v w) e = refl
  files_ungranted a b fs (reply.Cancel l n) e = refl
  files_ungranted a b fs (reply.Gather l n u v w x y) e = refl
  files_ungranted a b fs (reply.Kill l y) e = refl
  files_ungranted a b fs reply.Stop e = refl
  files_ungranted a b fs reply.Idle e = refl
  files_ungranted a b fs reply.Noted e = refl
  files_ungranted a b fs (reply.File f) e = refl
  files_ungranted a b fs reply.NoFile e = refl
  files_ungranted a b fs reply.Granted e = absurd (cc)
  files_ungranted a b fs reply.Lost e = refl
  files_ungranted a b fs reply.Dropped e = refl
  files_ungranted a b fs reply.AgainLater e = refl
  files_ungranted a b fs (reply.Line l) e = refl
  files_ungranted a b fs (reply.Matched u v w) e = refl
  files_ungranted a b fs (reply.Late u v w) e = refl
  files_ungranted a b fs reply.Greeted e = refl
  files_ungranted a b fs (reply.Stray y) e = refl
  files_ungranted a b fs (reply.Breach y) e = refl
  files_ungranted a b fs reply.Astray e = refl
  files_ungranted a b fs reply.NoMemory e = refl

  pub ungranted : (x : Call) (r : Reply) → is_grant r ≡ false → duty_of_work x r ≡ ordered r
  ungranted (call.Claim a b t (found.Files fs)) r e = files_ungranted a b fs r e
  ungranted (call.Claim a b t (found.Exit q)) r e = refl
  ungranted (call.Claim a b t (found.Missing q)) r e = refl
  ungranted (call.Claim a b t found.RoomFault) r e = refl
  ungranted (call.Claim a b t found.Refused) r e = refl
  ungranted call.Ask r e = refl
  ungranted (call.Launched k how) r e = refl
  ungranted (call.Wrote k m how) r e = refl
  ungranted (call.Look v) r e = refl
  ungranted (call.Committed c d how) r e = refl
  ungranted (call.Killed k) r e = refl
  ungranted call.Take r e = refl
  ungranted (call.Answer k z) r e = refl
  ungranted (call.Ended k how) r e = refl
  ungranted call.Halt r e = refl
  ungranted call.Tick r e = refl

  grant_may : (n : ℕ) (x : Call) (c : Call) → Do (duty_of_work x reply.Granted) c ≡ true
      → May n x reply.Granted c
  grant_may n (call.Claim a b t (found.Files fs)) c h = commit_may n a b t fs c h
  grant_may n (call.Claim a b t (found.Exit q)) c h =
      asks_only (May n (call.Claim a b t (found.Exit q)) reply.Granted) c h refl refl
  grant_may n (call.Claim a b t (found.Missing q)) c h =
      asks_only (May n (call.Claim a b t (found.Missing q)) reply.Granted) c h refl refl
  grant_may n (call.Claim a b t found.RoomFault) c h =
      asks_only (May n (call.Claim a b t found.RoomFault) reply.Granted) c h refl refl
  grant_may n (call.Claim a b t found.Refused) c h =
      asks_only (May n (call.Claim a b t found.Refused) reply.Granted) c h refl refl
  grant_may n call.Ask c h = asks_only (May n call.Ask reply.Granted) c h refl refl
  grant_may n (call.Launched k how) c h =
      asks_only (May n (call.Launched k how) reply.Granted) c h refl refl
  grant_may n (call.Wrote k m how) c h =
      asks_only (May n (call.Wrote k m how) reply.Granted) c h refl refl
  grant_may n (call.Look v) c h = asks_only (May n (call.Look v) reply.Granted) c h refl refl
  grant_may n (call.Committed a b how) c h =
      asks_only (May n (call.Committed a b how) reply.Granted) c h refl refl
  grant_may n (call.Killed k) c h = asks_only (May n (call.Killed k) reply.Granted) c h refl refl
  grant_may n call.Take c h = asks_only (May n call.Take reply.Granted) c h refl refl
  grant_may n (call.Answer k z) c h =
      asks_only (May n (call.Answer k z) reply.Granted) c h refl refl
  grant_may n (call.Ended k how) c h =
      asks_only (May n (call.Ended k how) reply.Granted) c h refl refl
  grant_may n call.Halt c h = asks_only (May n call.Halt reply.Granted) c h refl refl
  grant_may n call.Tick c h = asks_only (May n call.Tick reply.Granted) c h refl refl

  pub grant_is : (r : Reply) → is_grant r ≡ true → r ≡ reply.Granted
  grant_is (reply.Launch l a b t) e = absurd (cc)
  grant_is (reply.Send l n a b t) e = absurd (cc)
  grant_is (reply.Cancel l n) e = absurd (cc)
  grant_is (reply.Gather l n a b t x y) e = absurd (cc)
  grant_is (reply.Kill l y) e = absurd (cc)
  grant_is reply.Stop e = absurd (cc)
  grant_is reply.Idle e = absurd (cc)
  grant_is reply.Noted e = absurd (cc)
  grant_is (reply.File f) e = absurd (cc)
  grant_is reply.NoFile e = absurd (cc)
  grant_is reply.Granted e = refl
  grant_is reply.Lost e = absurd (cc)
  grant_is reply.Dropped e = absurd (cc)
  grant_is reply.AgainLater e = absurd (cc)
  grant_is (reply.Line l) e = absurd (cc)
  grant_is (reply.Matched a b t) e = absurd (cc)
  grant_is (reply.Late a b t) e = absurd (cc)
  grant_is reply.Greeted e = absurd (cc)
  grant_is (reply.Stray y) e = absurd (cc)
  grant_is (reply.Breach y) e = absurd (cc)
  grant_is reply.Astray e = absurd (cc)
  grant_is reply.NoMemory e = absurd (cc)

  by_grant : (n : ℕ) (x : Call) (r : Reply) (c : Call) (b : Bool) → is_grant r ≡ b
      → Do (duty_of_work x r) c ≡ true → May n x r c
  by_grant n x r c true e h = subst (λ (y : Reply). May n x y c) (sym (grant_is r e))
      (grant_may n x c (ap (λ (y : Reply). Do (duty_of_work x y) c) (sym (grant_is r e)) ∙ h))
  by_grant n x r c false e h =
      order_may n x r c e (ap (λ (s : Duty). Do s c) (sym (ungranted x r e)) ∙ h)

  newest_may : (o : Option Entry) (c : Call) → Do (owed_by o) c ≡ true
      → allowed p k true o c ≡ true
  newest_may None c h = asks_only (λ (c : Call). allowed p k true None c ≡ true) c h refl refl
  newest_may (Some e) c h = by_grant e.lane e.call e.reply c (is_grant e.reply) refl h

  still_here : (s : Duty) (c : Call) → Do s c ≡ true → has_left s ≡ false
  still_here Asks c h = refl
  still_here (Launches l t) c h = refl
  still_here (Sends l m t) c h = refl
  still_here (Cancels l m) c h = refl
  still_here (Gathers l m t exit refused) c h = refl
  still_here (Commits a b fs) c h = refl
  still_here (Kills l) c h = refl
  still_here Left c h = absurd (cc)

-- what a proxy lane may do by its duty is in its script
pub duty_is_scripted : (q : Discipline) (h : History) (w : ℕ) (c : Call) → w < q.seats
    → may_do q w (duty_of (calls_by (proxy_lane w) h)) c ≡ true
    → seat_script q.seats q.kinds q.plan (journal_of h) (proxy_lane w) c ≡ true
duty_is_scripted q h w c lt may =
    let j : List Entry = journal_of h in
    let s : Duty = duty_of (calls_by (proxy_lane w) h) in
    let d = duty_is h (proxy_lane w) in
    let here : has_left s ≡ false = still_here q w s c may in
    let on = neither_left (stopped j (proxy_lane w)) (has_halted j (proxy_lane w))
    (sym d.gone ∙ here) in
    let even : (proxy_lane w % 2 == 0) ≡ true =
    eq-eqb (proxy_lane w % 2) 0 (mul-mod_right 2 w) in
    let half : proxy_lane w / 2 ≡ w = mul-div_cancel_left w {n = 2} (omega arith) in
    let last : Option Entry = last_work j (proxy_lane w) in
    (λ i. lane_within q.seats w lt i && (not (on.0 i)
    && cond (on.1 i) (is_owed_commit c last) (allowed q.plan (q.kinds (half i)) (even i) last c)))
    ∙ newest_may q w last c
    (ap (λ (x : Duty). may_do q w x c) (sym (d.owed here)) ∙ may)
