-- A call in a proxy lane's script is one that its duty allows, a Halt where it owes a Committed, or
-- a Committed where it has left.
use Rattle.std.proofs.Common.{◌≡◌, ℕ, ℤ, ◌*◌, ◌/◌, ◌%◌, ◌==◌, nat_lt, Bool, true, false, cond, ◌&&◌, ◌||◌, not, List, Option, Some, None, refl, ap, sym, ◌∙◌, subst, arith, eq-eqb}
use Rattle.std.specs.Prelude.{slice_get, pos}
use Rattle.std.specs.Ordering.{int_eq}
use Rattle.std.proofs.lemmas.Bool.{and_parts}
use Rattle.std.proofs.Math.Nat.{mul-mod_right, mul-div_cancel_left}
use Rattle.run_plan.specs.declared.plan.Branch.{Branch}
use Rattle.run_plan.specs.declared.plan.Plan.{Plan}
use Rattle.run_plan.specs.declared.plan.Kind.{Kind}
use Rattle.run_plan.specs.Groups.{is_remote}
use Rattle.exec_journal.specs.declared.call.Call.{Call}
use Rattle.exec_journal.specs.declared.call.Call.TheVariants as call
use Rattle.exec_journal.specs.declared.call.Found.TheVariants as found
use Rattle.exec_journal.specs.declared.call.Wanted.{Wanted}
use Rattle.exec_journal.specs.declared.call.Wanted.TheVariants as wanted
use Rattle.exec_journal.specs.declared.reply.Why.{Why}
use Rattle.exec_journal.specs.declared.reply.Reply.{Reply}
use Rattle.exec_journal.specs.declared.reply.Reply.TheVariants as reply
use Rattle.exec_journal.specs.Entry.{Entry}
use Rattle.exec_journal.specs.Entries.{is_stop, attempt_of, same_attempt, same_branch}
use Rattle.exec_journal.specs.Words.{last_work, stopped, has_halted}
use Rattle.exec_journal.specs.Scripts.{is_made, may_find, is_commit_of, is_owed, is_owed_commit, may_look, allowed, seat_script}
use Rattle.core_contract.specs.Moves.{History}
use Rattle.core_contract.specs.Duties.{Duty, Asks, Launches, Sends, Cancels, Gathers, Commits, Kills, ordered, duty_of, proxy_lane, may_make}
use Rattle.seat_desk.specs.History.{calls_by}
use Rattle.core_contract.specs.Discipline.{Discipline}
use Rattle.core_contract.specs.Ruled.{journal_of}
use Rattle.discipline_laws.specs.Owed.{has_left, duty_of_work, owed_by}
use Rattle.discipline_laws.proofs.Going.{duty_is, left_is, by_bool}
use Rattle.discipline_laws.proofs.Doing.{makes_so, outputs_so, is_grant, ungranted, grant_is}

or_none : (b : Bool) → (b || false) ≡ b
or_none true = refl
or_none false = refl

-- ---- what no order asks for

abbrev is_order : Reply → Bool
is_order (reply.Launch l a b t) = true
is_order (reply.Send l n a b t) = true
is_order (reply.Cancel l n) = true
is_order (reply.Gather l n a b t exit refused) = true
is_order (reply.Kill l y) = true
is_order _ = false

module _ (q : Discipline) (w : ℕ) where
  abbrev p : Plan
  p = q.plan

  abbrev k : Kind
  k = q.kinds w

  no_look : (w : Wanted) (r : Reply) → is_order r ≡ false → may_look p w r ≡ false
  no_look (wanted.Made c o) (reply.Send l n a b t) e = absurd (cc)
  no_look (wanted.Made c o) _ e = refl
  no_look (wanted.Answered l n o) (reply.Gather m q a b t exit refused) e = absurd (cc)
  no_look (wanted.Answered l n o) _ e = refl

  no_order : (c : Call) (r : Reply) → is_order r ≡ false → is_owed p k c r ≡ false
  no_order (call.Launched l how) (reply.Launch m a b t) e = absurd (cc)
  no_order (call.Launched l how) _ e = refl
  no_order (call.Wrote l n how) (reply.Send m o a b t) e = absurd (cc)
  no_order (call.Wrote l n how) (reply.Cancel m o) e = absurd (cc)
  no_order (call.Wrote l n how) _ e = refl
  no_order (call.Claim a b t f) (reply.Gather m o c d u exit refused) e = absurd (cc)
  no_order (call.Claim a b t f) _ e = refl
  no_order (call.Killed l) (reply.Kill m y) e = absurd (cc)
  no_order (call.Killed l) _ e = refl
  no_order (call.Look w) r e = no_look w r e
  no_order _ r e = refl

  abbrev granted : Reply → Bool
  granted r = is_grant q w r

  files_commit : (a : ℕ) (b : Branch) (c : ℕ) (d : Branch) (t : ℕ) (fs : List (List ℕ)) (r : Reply)
      → granted r ≡ false → is_commit_of a b (call.Claim c d t (found.Files fs)) r ≡ false
  files_commit a b c d t fs reply.Granted e = absurd (cc)
  files_commit a b c d t fs _ e = refl

  no_commit_of : (a : ℕ) (b : Branch) (x : Call) (r : Reply) → granted r ≡ false
      → is_commit_of a b x r ≡ false
  no_commit_of a b (call.Claim c d t (found.Files fs)) r e = files_commit a b c d t fs r e
  no_commit_of a b (call.Claim c d t f) r e = refl
  no_commit_of a b x r e = refl

  abbrev past : ℕ → Call → Reply → Option Entry
  past n x r = Some (record { lane = n; call = x; reply = r })

  no_commit : (n : ℕ) (x : Call) (r : Reply) (c : Call) → granted r ≡ false
      → is_owed_commit c (past n x r) ≡ false
  no_commit n x r (call.Committed a b how) e = no_commit_of a b x r e
  no_commit n x r _ e = refl

  -- ---- what the newest work asks for

  abbrev Make : Duty → Call → Type 0
  Make s c = may_make q w s c ≡ true

  -- after this work the call is allowed
  abbrev May : ℕ → Call → Reply → Call → Type 0
  May n x r c = allowed p k true (past n x r) c ≡ true

  asks_only : (n : ℕ) (x : Call) (r : Reply) (c : Call) → ((d : Call) → is_owed p k d r ≡ false)
      → ((d : Call) → is_owed_commit d (past n x r) ≡ false) → May n x r c → Make Asks c
  asks_only n x r call.Ask none free h = refl
  asks_only n x r call.Halt none free h = refl
  asks_only n x r call.Take none free h = absurd (cc)
  asks_only n x r (call.Answer l y) none free h = absurd (cc)
  asks_only n x r (call.Ended l how) none free h = absurd (cc)
  asks_only n x r c none free h = absurd (
      let f : true ≡ false = sym h ∙ (λ i. none c i || free c i) in cc
      )

  module _ (n : ℕ) (x : Call) where
    launch_only : (l a : ℕ) (b : Branch) (t : ℕ) (c : Call) → May n x (reply.Launch l a b t) c
        → Make (Launches l (attempt_of a b t)) c
    launch_only l a b t (call.Launched m how) h = h
    launch_only l a b t call.Halt h = refl
    launch_only l a b t (call.Committed c d how) h = absurd (
        let f : true ≡ false = sym h ∙ no_commit_of c d x (reply.Launch l a b t) refl in cc
        )
    launch_only l a b t (call.Look (wanted.Made c o)) h = absurd (cc)
    launch_only l a b t (call.Look (wanted.Answered m q o)) h = absurd (cc)
    launch_only l a b t _ h = absurd (cc)

    send_only : (l : ℕ) (o : ℤ) (a : ℕ) (b : Branch) (t : ℕ) (c : Call)
        → May n x (reply.Send l o a b t) c → Make (Sends l o (attempt_of a b t)) c
    send_only l o a b t (call.Wrote m q how) h = h
    send_only l o a b t (call.Look (wanted.Made c e)) h =
        (λ i. makes_so (slice_get p.actions a) (λ m. is_made m c e) i || false) ∙ h
    send_only l o a b t (call.Look (wanted.Answered m q e)) h = absurd (cc)
    send_only l o a b t call.Halt h = refl
    send_only l o a b t (call.Committed c d how) h = absurd (
        let f : true ≡ false = sym h ∙ no_commit_of c d x (reply.Send l o a b t) refl in cc
        )
    send_only l o a b t _ h = absurd (cc)

    cancel_only : (l : ℕ) (o : ℤ) (c : Call) → May n x (reply.Cancel l o) c → Make (Cancels l o) c
    cancel_only l o (call.Wrote m q how) h = h
    cancel_only l o call.Halt h = refl
    cancel_only l o (call.Committed c d how) h = absurd (
        let f : true ≡ false = sym h ∙ no_commit_of c d x (reply.Cancel l o) refl in cc
        )
    cancel_only l o (call.Look (wanted.Made c e)) h = absurd (cc)
    cancel_only l o (call.Look (wanted.Answered m q e)) h = absurd (cc)
    cancel_only l o _ h = absurd (cc)

    gather_only : (l : ℕ) (o : ℤ) (a : ℕ) (b : Branch) (t : ℕ) (exit : ℤ) (refused : Bool)
        (c : Call) → May n x (reply.Gather l o a b t exit refused) c
        → Make (Gathers l o (attempt_of a b t) exit refused) c
    gather_only l o a b t exit refused (call.Look (wanted.Made c e)) h = absurd (cc)
    gather_only l o a b t exit refused (call.Look (wanted.Answered m q e)) h =
        (λ i. (((m == l) && int_eq q o) && (int_eq exit (pos 0)
        && (not refused && nat_lt e (outputs_so (slice_get p.actions a) i)))) || false) ∙ h
    gather_only l o a b t exit refused (call.Claim c d u f) h =
        (λ i. (same_attempt (attempt_of c d u) (attempt_of a b t)
        && may_find (outputs_so (slice_get p.actions c) i) (is_remote k) exit refused f) || false)
        ∙ h
    gather_only l o a b t exit refused call.Halt h = refl
    gather_only l o a b t exit refused (call.Committed c d how) h = absurd (
        let f : true ≡ false =
        sym h ∙ no_commit_of c d x (reply.Gather l o a b t exit refused) refl in cc
        )
    gather_only l o a b t exit refused _ h = absurd (cc)

    kill_only : (l : ℕ) (y : Why) (c : Call) → May n x (reply.Kill l y) c → Make (Kills l) c
    kill_only l y (call.Killed m) h = h
    kill_only l y call.Halt h = refl
    kill_only l y (call.Committed c d how) h = absurd (
        let f : true ≡ false = sym h ∙ no_commit_of c d x (reply.Kill l y) refl in cc
        )
    kill_only l y (call.Look (wanted.Made c e)) h = absurd (cc)
    kill_only l y (call.Look (wanted.Answered m q e)) h = absurd (cc)
    kill_only l y _ h = absurd (cc)

    order_only : (r : Reply) (c : Call) → is_stop r ≡ false → granted r ≡ false → May n x r c
        → Make (ordered r) c
    order_only (reply.Launch l a b t) c on other h = launch_only l a b t c h
    order_only (reply.Send l o a b t) c on other h = send_only l o a b t c h
    order_only (reply.Cancel l o) c on other h = cancel_only l o c h
    order_only (reply.Gather l o a b t exit refused) c on other h =
        gather_only l o a b t exit refused c h
    order_only (reply.Kill l y) c on other h = kill_only l y c h
    order_only reply.Stop c on other h = absurd (cc)
    order_only reply.Granted c on other h = absurd (cc)
    order_only r c on other h =
        asks_only n x r c (λ d. no_order d r refl) (λ d. no_commit n x r d other) h

  commit_only : (n a : ℕ) (b : Branch) (t : ℕ) (fs : List (List ℕ)) (c : Call)
      → May n (call.Claim a b t (found.Files fs)) reply.Granted c → Make (Commits a b fs) c
  commit_only n a b t fs (call.Committed c d how) h = or_none ((a == c) && same_branch b d) ∙ h
  commit_only n a b t fs call.Halt h = refl
  commit_only n a b t fs (call.Look (wanted.Made c e)) h = absurd (cc)
  commit_only n a b t fs (call.Look (wanted.Answered m q e)) h = absurd (cc)
  commit_only n a b t fs _ h = absurd (cc)

  -- a grant of anything but files asks for nothing
  grant_none : (n : ℕ) (x : Call) (c : Call)
      → ((d : Call) → is_owed_commit d (past n x reply.Granted) ≡ false)
      → May n x reply.Granted c → Make Asks c
  grant_none n x c free h =
      asks_only n x reply.Granted c (λ d. no_order d reply.Granted refl) free h

  unowed : (n : ℕ) (x : Call) → ((a : ℕ) (b : Branch) → is_commit_of a b x reply.Granted ≡ false)
      → (d : Call) → is_owed_commit d (past n x reply.Granted) ≡ false
  unowed n x none (call.Committed a b how) = none a b
  unowed n x none _ = refl

  grant_only : (n : ℕ) (x : Call) (c : Call) → May n x reply.Granted c
      → Make (duty_of_work x reply.Granted) c
  grant_only n (call.Claim a b t (found.Files fs)) c h = commit_only n a b t fs c h
  grant_only n (call.Claim a b t f) c h =
      grant_none n (call.Claim a b t f) c (unowed n (call.Claim a b t f) (λ d e. refl)) h
  grant_only n x c h = grant_none n x c (unowed n x (λ d e. refl)) h

  work_only : (n : ℕ) (x : Call) (r : Reply) (c : Call) (b : Bool) → granted r ≡ b
      → is_stop r ≡ false → May n x r c → Make (duty_of_work x r) c
  work_only n x r c true e on h = subst (λ (y : Reply). Make (duty_of_work x y) c)
      (sym (grant_is q w r e))
      (grant_only n x c (ap (λ (y : Reply). allowed p k true (past n x y) c)
      (sym (grant_is q w r e)) ∙ h))
  work_only n x r c false e on h =
      subst (λ (s : Duty). Make s c) (sym (ungranted q w x r e)) (order_only n x r c on e h)

  stop_leaves : (x : Call) (r : Reply) → has_left (duty_of_work x r) ≡ false → is_stop r ≡ false
  stop_leaves (call.Claim a b t (found.Files fs)) reply.Stop e = absurd (cc)
  stop_leaves (call.Claim a b t f) reply.Stop e = absurd (cc)
  stop_leaves x reply.Stop e = absurd (cc)
  stop_leaves x _ e = refl

  newest_only : (o : Option Entry) (c : Call) → has_left (owed_by o) ≡ false
      → allowed p k true o c ≡ true → Make (owed_by o) c
  newest_only None call.Ask on h = refl
  newest_only None call.Halt on h = refl
  newest_only None _ on h = absurd (cc)
  newest_only (Some e) c on h = work_only e.lane e.call e.reply c (granted e.reply) refl
      (stop_leaves e.call e.reply on) h

  after_halt : (s : Duty) (o : Option Entry) (c : Call) → has_left s ≡ true
      → is_owed_commit c o ≡ true → Make s c
  after_halt s o (call.Committed a b how) gone h =
      ap (λ (x : Duty). may_make q w x (call.Committed a b how))
      (left_is s gone)
  after_halt s o _ gone h = absurd (cc)

not_so : (b : Bool) → not b ≡ true → b ≡ false
not_so true e = absurd (cc)
not_so false e = refl

-- a call in a proxy lane's script is one that its duty allows, or what it may do besides
pub script_is_duty : (q : Discipline) (h : History) (w : ℕ) (c : Call)
    → seat_script q.seats q.kinds q.plan (journal_of h) (proxy_lane w) c ≡ true
    → may_make q w (duty_of (calls_by (proxy_lane w) h)) c ≡ true
script_is_duty q h w c may =
    let j : List Entry = journal_of h in
    let lane : ℕ = proxy_lane w in
    let s : Duty = duty_of (calls_by lane h) in
    let last : Option Entry = last_work j lane in
    let d = duty_is h lane in
    let even : (lane % 2 == 0) ≡ true = eq-eqb (lane % 2) 0 (mul-mod_right 2 w) in
    let half : lane / 2 ≡ w = mul-div_cancel_left w {n = 2} (omega arith) in
    let parts = and_parts (nat_lt lane (2 * q.seats)) _ may in
    let runs = and_parts (not (stopped j lane)) _ parts.1 in
    let on : stopped j lane ≡ false = not_so (stopped j lane) runs.0 in
    by_bool (has_halted j lane)
    (λ b. has_halted j lane ≡ b
    → cond b (is_owed_commit c last)
    (allowed q.plan (q.kinds (lane / 2)) (lane % 2 == 0) last c) ≡ true
    → Make q w s c)
    (λ halts g. after_halt q w s last c (d.gone ∙ (λ i. on i || halts i)) g)
    (λ goes g. let here : has_left s ≡ false = d.gone ∙ (λ i. on i || goes i) in
    subst (λ (x : Duty). Make q w x c) (sym (d.owed here))
    (newest_only q w last c (ap has_left (sym (d.owed here)) ∙ here)
    ((λ i. allowed q.plan (q.kinds (sym half i)) (sym even i) last c) ∙ g)))
    refl runs.1
