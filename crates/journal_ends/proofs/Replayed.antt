-- What is kept of all actions and lines says what the journal says of them.
use Rattle.std.proofs.Common.{◌≡◌, ◌≢◌, ℕ, zero, suc, ◌<◌, ◌≤◌, ◌==◌, eqb, Bool, true, false, ◌&&◌, ◌||◌, not, cond, nat_lt, List, [], ◌∷◌, length, get_or, set, Option, Some, None, is_some, option_map, option_and_then, unwrap_or, ◌⊎◌, inl, inr, refl, ap, sym, subst, ◌∙◌, arith}
use Rattle.std.specs.Prelude.{slice_get, replicate}
use Rattle.std.specs.Option.{option_or, option_eq}
use Rattle.std.proofs.lemmas.Bool.{eqb-true, eqb-false, eq-eqb, ne_eqb}
use Rattle.std.proofs.lemmas.Option.{slice_get-get_or}
use Rattle.run_plan.specs.declared.plan.Branch.{Branch}
use Rattle.run_plan.specs.declared.plan.Branch.TheVariants.{Local, Remote}
use Rattle.exec_journal.specs.declared.attempt.Attempt.{Attempt}
use Rattle.exec_journal.specs.declared.ends.Cause.{Cause}
use Rattle.exec_journal.specs.Entry.{Entry}
use Rattle.exec_journal.specs.declared.call.Call.{Call}
use Rattle.exec_journal.specs.declared.call.Call.TheVariants as call
use Rattle.exec_journal.specs.declared.call.CommitEnd.{CommitEnd}
use Rattle.exec_journal.specs.declared.call.Found.{Found}
use Rattle.journal_lookback.specs.declared.grant.Grant.{Grant}
use Rattle.exec_journal.specs.declared.reply.Reply.{Reply}
use Rattle.exec_journal.specs.declared.reply.Reply.TheVariants as reply
use Rattle.journal_ends.specs.declared.replay.LineFact.{LineFact}
use Rattle.journal_ends.specs.declared.replay.BranchFact.{BranchFact}
use Rattle.journal_ends.specs.declared.replay.ActionFact.{ActionFact}
use Rattle.list_lemmas.specs.Options.{or_else, unless_before}
use Rattle.exec_journal.specs.Entries.{Request, attempt_of, same_attempt, same_branch, is_branch_of, is_look, is_halt, is_for, consumed_in, send_in, send_of_entry, launch_of_entry, ends, committed_in, refused_in, granted_in}
use Rattle.exec_journal.specs.Words.{last_work, has_ended, line_cause, break_at, break_by, order_of, wrote_if, answered, ever_sent, is_of_branch, granted, grant_of, commit_of, of_action}
use Rattle.exec_journal.specs.Attempts.{carrier_in, fault_by, refused_cause}
use Rattle.journal_lookback.specs.Lookback.{is_work, grants, grant_fact, ended_line, is_late, track_after, IsTrack}
use Rattle.journal_ends.specs.Replay.{AllNew, new_action, new_branch, new_line, reply_action, call_action, broken_line, branch_of, answer_flag, answers_after, branch_after, action_after, line_after, line_fact, AreAnswers, IsBranchFact, IsActionFact, AreActions, AreLines, AreOrders}
use Rattle.list_lemmas.specs.Places.{update, update_if}
use Rattle.exec_journal.proofs.Ruled.{by_bool}
use Rattle.journal_lookback.proofs.LookedBack.{break_late}
use Rattle.journal_lookback.proofs.States.{track_new, track_entry, track_aside, IsAside}
use Rattle.list_lemmas.proofs.Updates.{get_update, get_replicate}
use Rattle.list_lemmas.proofs.Updates.{set-update}

-- ---- a change at one place

get_same : {X : Type 0} (g : X → X) (xs : List X) (k : ℕ) → slice_get (update g xs k) k ≡ option_map g (slice_get xs k)
get_same g [] k = refl
get_same g (x ∷ xs) zero = refl
get_same g (x ∷ xs) (suc k) = get_same g xs k

get_other : {X : Type 0} (g : X → X) (xs : List X) (k l : ℕ) → k ≢ l → slice_get (update g xs k) l ≡ slice_get xs l
get_other g [] k l h = refl
get_other g (x ∷ xs) zero zero h = absurd (h refl)
get_other g (x ∷ xs) zero (suc l) h = refl
get_other g (x ∷ xs) (suc k) zero h = refl
get_other g (x ∷ xs) (suc k) (suc l) h = get_other g xs k l (λ e. h (ap suc e))

pub at_cases : (a : ℕ) (o : Option ℕ) → (o ≡ Some a) ⊎ (o ≢ Some a)
at_cases a None = inr (λ h. absurd (cc))
at_cases a (Some b) = by_bool (b == a) (λ _. (Some b ≡ Some a) ⊎ (Some b ≢ Some a)) (λ h. inl (ap Some (eqb-true b a h))) (λ h. inr (λ e. eqb-false b a h (cc)))

-- what stands at the place after the change: changed there, and else what stood before
pub hit : {X : Type 0} (g : ℕ → X → X) (xs : List X) (o : Option ℕ) (a : ℕ) (f : X) → o ≡ Some a → slice_get (update_if (g (unwrap_or o 0)) xs o) a ≡ Some f
    → (x : X) × (slice_get xs a ≡ Some x) × (f ≡ g a x)
hit {X} g xs o a f is h = from (slice_get xs a) refl (sym (get_same (g a) xs a) ∙ subst (λ (p : Option ℕ). slice_get (update_if (g (unwrap_or p 0)) xs p) a ≡ Some f) is h)
  where
    from : (v : Option X) → slice_get xs a ≡ v → option_map (g a) v ≡ Some f → (x : X) × (slice_get xs a ≡ Some x) × (f ≡ g a x)
    from (Some x) e k = (x, e, cc)
    from None e k = absurd (cc)

pub miss : {X : Type 0} (g : ℕ → X → X) (xs : List X) (o : Option ℕ) (a : ℕ) → o ≢ Some a → slice_get (update_if (g (unwrap_or o 0)) xs o) a ≡ slice_get xs a
miss g xs None a h = refl
miss g xs (Some b) a h = get_other (g b) xs b a (λ e. h (ap Some e))

-- ---- lines

unless_same : {X : Type 0} (a b : Option X) → option_or b a ≡ unless_before a b
unless_same None None = refl
unless_same None (Some y) = refl
unless_same (Some x) None = refl
unless_same (Some x) (Some y) = refl

-- the entry's request wasn't written, and was already answered
late_at : List Entry → Entry → Bool
late_at j e = is_late j (order_of j e.lane) e.call

line_entry : (j : List Entry) (l : ℕ) (e : Entry) → line_after (late_at j e) l e (line_fact j l) ≡ line_fact (e ∷ j) l
unfolding late_at line_cause has_ended
line_entry j l e =
    ap (λ (o : Option Cause). record { cause = o; ended = ends l e.call || has_ended j l })
    (ap (option_or (line_cause j l)) (break_late j (order_of j e.lane) l e.call e.reply) ∙ unless_same (break_at l j e) (line_cause j l))

pub not_this : (k l : ℕ) → Some k ≢ Some l → (k == l) ≡ false
not_this k l h = ne_eqb k l (λ e. h (ap Some e))

no_break : (j : List Entry) (o : Option Request) (l : ℕ) (c : Call) (x : Reply) → broken_line c ≢ Some l → break_by j o l c x ≡ None
no_break j o l (call.Wrote k n how) x h = rw (not_this k l h) refl
no_break j o l (call.Answer k y) (reply.Breach w) h = rw (not_this k l h) refl
no_break j o l (call.Ended k how) x h = rw (not_this k l h) refl
no_break j o l _ _ h = refl

no_end : (l : ℕ) (c : Call) → broken_line c ≢ Some l → ends l c ≡ false
no_end l (call.Ended k how) h = not_this k l h
no_end l _ h = refl

line_aside : (j : List Entry) (l : ℕ) (e : Entry) → broken_line e.call ≢ Some l → line_fact (e ∷ j) l ≡ line_fact j l
unfolding line_cause has_ended
line_aside j l e h = rw (no_break j (order_of j e.lane) l e.call e.reply h, no_end l e.call h) refl

lines_more : (xs ys : List LineFact) (j : List Entry) (e : Entry) → AreLines xs j → ys ≡ update_if (line_after (late_at j e) (unwrap_or (broken_line e.call) 0) e) xs (broken_line e.call) → AreLines ys (e ∷ j)
lines_more xs ys j e are is = record { each = λ l f h. one l f (subst (λ (zs : List LineFact). slice_get zs l ≡ Some f) is h) (at_cases l (broken_line e.call)) }
  where
    turn_line : ℕ → LineFact → LineFact
    turn_line l = line_after (late_at j e) l e

    one : (l : ℕ) (f : LineFact) → slice_get (update_if (turn_line (unwrap_or (broken_line e.call) 0)) xs (broken_line e.call)) l ≡ Some f
        → (broken_line e.call ≡ Some l) ⊎ (broken_line e.call ≢ Some l) → f ≡ line_fact (e ∷ j) l
    one l f h (inl at) = (let old = hit turn_line xs (broken_line e.call) l f at h in old.2 ∙ ap (turn_line l) (are.each l old.0 old.1) ∙ line_entry j l e)
    one l f h (inr off) = are.each l f (sym (miss turn_line xs (broken_line e.call) l off) ∙ h) ∙ sym (line_aside j l e off)

-- the cause of a line that has ended, by its fact
pub ended_by : (lines : List LineFact) (j : List Entry) (o : Option ℕ) (l : ℕ) (d : LineFact) → AreLines lines j → o ≡ Some l → l < length lines
    → cond (get_or lines l d).ended (get_or lines l d).cause None ≡ ended_line j o
ended_by lines j o l d are is lt =
    ap (λ (f : LineFact). cond f.ended f.cause None) (are.each l (get_or lines l d) (slice_get-get_or lines l d lt)) ∙ ap (ended_line j) (sym is)

-- ---- answers

and_assoc : (x y z : Bool) → (x && (y && z)) ≡ ((x && y) && z)
and_assoc true y z = refl
and_assoc false y z = refl

flag_set : (o : Option Bool) (flag : Bool) → option_map (λ (_ : Bool). true) o ≡ Some flag → flag ≡ true
flag_set (Some x) flag h = cc
flag_set None flag h = absurd (cc)

-- the flag of the answer is set, and each other stays as it was
flag_after : (flags : List Bool) (a : ℕ) (b : Branch) (n : ℕ) (old : Bool) (o : Option Attempt) (flag : Bool) → ((f : Bool) → slice_get flags n ≡ Some f → f ≡ old)
    → slice_get (answers_after flags a b o) n ≡ Some flag → flag ≡ (is_for (attempt_of a b n) o || old)
flag_after flags a b n old None flag was h = was flag h
flag_after flags a b n old (Some s) flag was h =
    by (is_branch_of a b s) h ∙ ap (λ v. v || old) (sym (and_assoc (s.action == a) (same_branch s.branch b) (s.number == n)))
  where
    at : (same : Bool) → cond same (option_map (λ (_ : Bool). true) (slice_get flags n)) (slice_get flags n) ≡ Some flag → flag ≡ (same || old)
    at true k = flag_set (slice_get flags n) flag k
    at false k = was flag k

    by : (of : Bool) → slice_get (update_if (λ (_ : Bool). true) flags (cond of (Some s.number) None)) n ≡ Some flag → flag ≡ ((of && (s.number == n)) || old)
    by true k = at (s.number == n) (sym (get_update (λ (_ : Bool). true) flags s.number n) ∙ k)
    by false k = was flag k

answers_entry : (flags : List Bool) (j : List Entry) (e : Entry) (a : ℕ) (b : Branch) → AreAnswers flags j a b → AreAnswers (answers_after flags a b (consumed_in e.reply)) (e ∷ j) a b
unfolding answered
answers_entry flags j e a b is = record { each = λ n flag h. flag_after flags a b n (answered j (attempt_of a b n)) (consumed_in e.reply) flag (is.each n) h }

answers_start : (a : ℕ) (b : Branch) → AreAnswers (replicate 11 false) [] a b
unfolding answered
answers_start a b = record { each = λ n flag h. only (nat_lt n 11) flag (sym (get_replicate false 11 n) ∙ h) }
  where
    only : (c : Bool) (flag : Bool) → cond c (Some false) None ≡ Some flag → flag ≡ false
    only true flag h = cc
    only false flag h = absurd (cc)

branch_answers : (f : ActionFact) (limit : ℕ) (j : List Entry) (a : ℕ) (b : Branch) → IsActionFact f limit j a → AreAnswers (branch_of f b).answers j a b
branch_answers f limit j a Local is = is.local_is.answers
branch_answers f limit j a Remote is = is.remote_is.answers

-- the attempt was answered, by its flag
pub flag_read : (fs : List ActionFact) (limit : ℕ) (j : List Entry) (t : Attempt) (o : Option Bool) (flag : Bool) → AreActions fs limit j → o ≡ answer_flag fs t → o ≡ Some flag → flag ≡ answered j t
flag_read fs limit j t o flag are is some = from (slice_get fs t.action) refl (sym is ∙ some)
  where
    from : (v : Option ActionFact) → slice_get fs t.action ≡ v → option_and_then (λ (f : ActionFact). slice_get (branch_of f t.branch).answers t.number) v ≡ Some flag → flag ≡ answered j t
    from (Some f) at h = (branch_answers f limit j t.action t.branch (are.each t.action f at)).each t.number flag h
    from None at h = absurd (cc)

-- ---- actions: an entry that is about the action

or_comm : (a b : Bool) → (a || b) ≡ (b || a)
or_comm true true = refl
or_comm true false = refl
or_comm false true = refl
or_comm false false = refl

some_same : (o : Option (Attempt × Found)) → is_some (option_map grant_fact o) ≡ is_some o
some_same None = refl
some_same (Some x) = refl

map_unless : (a b : Option (Attempt × Found)) → option_or (option_map grant_fact b) (option_map grant_fact a) ≡ option_map grant_fact (unless_before a b)
map_unless None None = refl
map_unless None (Some y) = refl
map_unless (Some x) None = refl
map_unless (Some x) (Some y) = refl

branch_entry : (f : BranchFact) (j : List Entry) (e : Entry) (t : Attempt) (won : Bool) → won ≡ granted j t.action → IsBranchFact f j t
    → IsBranchFact (branch_after f t (last_work j e.lane) e won (ended_line j f.track.line)) (e ∷ j) t
unfolding commit_of ever_sent
branch_entry f j e t won w is = record {
  commits = unless_same (committed_in t.action t.branch e.call) f.commit ∙ ap (unless_before (committed_in t.action t.branch e.call)) is.commits;
  sends = or_comm f.sent _ ∙ ap (λ b. is_of_branch t.action t.branch (send_in e.reply) || b) is.sends;
  answers = answers_entry f.answers j e t.action t.branch is.answers;
  tracks = subst (λ b. IsTrack (track_after f.track t (last_work j e.lane) e b (ended_line j f.track.line)) (e ∷ j) t) (sym w) (track_entry f.track j e t is.tracks);
}

action_entry : (f : ActionFact) (limit : ℕ) (j : List Entry) (a : ℕ) (e : Entry) → IsActionFact f limit j a → IsActionFact (action_after j limit a (last_work j e.lane) e f) limit (e ∷ j) a
unfolding granted grant_of
action_entry f limit j a e is =
    let won : is_some f.grant ≡ granted j a = (ap (λ (o : Option Grant). is_some o) is.grant_is ∙ some_same (grant_of j a)) in
    record {
      grant_is = ap (λ (o : Option Grant). option_or o (option_map grant_fact (grants a e))) is.grant_is ∙ map_unless (grants a e) (grant_of j a);
      local_is = branch_entry f.local j e (attempt_of a Local limit) (is_some f.grant) won is.local_is;
      remote_is = branch_entry f.remote j e (attempt_of a Remote limit) (is_some f.grant) won is.remote_is;
    }

-- ---- and one that is not

other_attempt : (s t : Attempt) → Some s.action ≢ Some t.action → same_attempt s t ≡ false
other_attempt s t h = rw (not_this s.action t.action h) refl

no_answer : (t : Attempt) (x : Reply) → reply_action x ≢ Some t.action → is_for t (consumed_in x) ≡ false
no_answer t (reply.Matched a b n) h = other_attempt (attempt_of a b n) t h
no_answer t (reply.Late a b n) h = other_attempt (attempt_of a b n) t h
no_answer t _ h = refl

answers_aside : (flags : List Bool) (j : List Entry) (e : Entry) (a : ℕ) (b : Branch) → reply_action e.reply ≢ Some a → AreAnswers flags j a b → AreAnswers flags (e ∷ j) a b
unfolding answered
answers_aside flags j e a b off is = record {
  each = λ n flag h. is.each n flag h ∙ sym (ap (λ v. v || answered j (attempt_of a b n)) (no_answer (attempt_of a b n) e.reply off));
}

module _ (t : Attempt) where
  no_carrier : (x : Reply) → reply_action x ≢ Some t.action → carrier_in t x ≡ None
  no_carrier (reply.Launch l a b n) h = rw (other_attempt (attempt_of a b n) t h) refl
  no_carrier (reply.Send l n a b m) h = rw (other_attempt (attempt_of a b m) t h) refl
  no_carrier _ h = refl

  no_send : (x : Reply) → reply_action x ≢ Some t.action → is_of_branch t.action t.branch (send_in x) ≡ false
  no_send (reply.Send l n a b m) h = rw (not_this a t.action h) refl
  no_send _ h = refl

  no_request : (o : Option Request) → option_map (λ r. r.attempt.action) o ≢ Some t.action → is_for t (option_map (λ r. r.attempt) o) ≡ false
  no_request (Some q) h = other_attempt q.attempt t h
  no_request None h = refl

  no_launch : (o : Option Attempt) → option_map (λ s. s.action) o ≢ Some t.action → is_for t o ≡ false
  no_launch (Some s) h = other_attempt s t h
  no_launch None h = refl

  no_wrote : (order : Option Entry) (c : Call) → call_action order c ≢ Some t.action → wrote_if t c (send_of_entry order) ≡ None
  no_wrote order (call.Wrote l n how) h = by (send_of_entry order) h
    where
      by : (o : Option Request) → option_map (λ r. r.attempt.action) o ≢ Some t.action → wrote_if t (call.Wrote l n how) o ≡ None
      by (Some q) g = rw (other_attempt q.attempt t g) refl
      by None g = refl
  no_wrote order _ h = refl

  no_refusal : (a : ℕ) (b : Branch) (n : ℕ) (f : Found) (x : Reply) → Some a ≢ Some t.action → refused_cause t (refused_in (call.Claim a b n f) x) ≡ None
  no_refusal a b n f reply.AgainLater h = rw (other_attempt (attempt_of a b n) t h) refl
  no_refusal a b n f reply.Dropped h = rw (other_attempt (attempt_of a b n) t h) refl
  no_refusal a b n f _ h = refl

  no_fault : (order : Option Entry) (c : Call) (x : Reply) → call_action order c ≢ Some t.action → fault_by t order c x ≡ None
  no_fault order (call.Launched l how) x h = rw (no_launch (launch_of_entry order) h) refl
  no_fault order (call.Wrote l n how) x h = rw (no_request (send_of_entry order) h) refl
  no_fault order (call.Claim a b n f) x h = no_refusal a b n f x h
  no_fault order _ x h = refl

  no_grant : (order : Option Entry) (c : Call) (x : Reply) → call_action order c ≢ Some t.action → of_action t.action (granted_in c x) ≡ None
  no_grant order (call.Claim a b n f) reply.Granted h = rw (not_this a t.action h) refl
  no_grant order _ _ h = refl

  no_commit : (order : Option Entry) (c : Call) → call_action order c ≢ Some t.action → committed_in t.action t.branch c ≡ None
  no_commit order (call.Committed a b how) h = rw (not_this a t.action h) refl
  no_commit order _ h = refl

  is_aside : (j : List Entry) (e : Entry) → reply_action e.reply ≢ Some t.action → call_action (last_work j e.lane) e.call ≢ Some t.action → IsAside t (last_work j e.lane) e
  is_aside j e by_reply by_call = record {
    carrier = no_carrier e.reply by_reply;
    answer = no_answer t e.reply by_reply;
    write = no_wrote (last_work j e.lane) e.call by_call;
    own = no_fault (last_work j e.lane) e.call e.reply by_call;
    grant = no_grant (last_work j e.lane) e.call e.reply by_call;
  }

  branch_aside : (f : BranchFact) (j : List Entry) (e : Entry) → reply_action e.reply ≢ Some t.action → call_action (last_work j e.lane) e.call ≢ Some t.action → IsBranchFact f j t → IsBranchFact f (e ∷ j) t
  unfolding commit_of ever_sent
  branch_aside f j e by_reply by_call is = record {
    commits = is.commits ∙ sym (ap (λ (o : Option CommitEnd). unless_before o (commit_of j t.action t.branch)) (no_commit (last_work j e.lane) e.call by_call));
    sends = is.sends ∙ sym (ap (λ b. b || ever_sent j t.action t.branch) (no_send e.reply by_reply));
    answers = answers_aside f.answers j e t.action t.branch by_reply is.answers;
    tracks = track_aside f.track j e t (is_aside j e by_reply by_call) is.tracks;
  }

action_aside : (f : ActionFact) (limit : ℕ) (j : List Entry) (a : ℕ) (e : Entry) → reply_action e.reply ≢ Some a → call_action (last_work j e.lane) e.call ≢ Some a → IsActionFact f limit j a → IsActionFact f limit (e ∷ j) a
unfolding grant_of
action_aside f limit j a e by_reply by_call is = record {
  grant_is = is.grant_is ∙ sym (ap (λ (o : Option (Attempt × Found)). option_map grant_fact (unless_before o (grant_of j a))) (no_grant (attempt_of a Local limit) (last_work j e.lane) e.call e.reply by_call));
  local_is = branch_aside (attempt_of a Local limit) f.local j e by_reply by_call is.local_is;
  remote_is = branch_aside (attempt_of a Remote limit) f.remote j e by_reply by_call is.remote_is;
}

-- ---- all actions after an entry

module _ (limit : ℕ) (j : List Entry) (e : Entry) where
  turn : ℕ → ActionFact → ActionFact
  turn a = action_after j limit a (last_work j e.lane) e

  pub actions_once : (xs ys : List ActionFact) → AreActions xs limit j → ys ≡ update_if (action_after j limit (unwrap_or (reply_action e.reply) 0) (last_work j e.lane) e) xs (reply_action e.reply)
      → call_action (last_work j e.lane) e.call ≡ reply_action e.reply → AreActions ys limit (e ∷ j)
  unfolding turn
  actions_once xs ys are is same = record { each = λ a f h. one a f (subst (λ (zs : List ActionFact). slice_get zs a ≡ Some f) is h) (at_cases a (reply_action e.reply)) }
    where
      one : (a : ℕ) (f : ActionFact) → slice_get (update_if (turn (unwrap_or (reply_action e.reply) 0)) xs (reply_action e.reply)) a ≡ Some f
          → (reply_action e.reply ≡ Some a) ⊎ (reply_action e.reply ≢ Some a) → IsActionFact f limit (e ∷ j) a
      one a f h (inl at) = (let old = hit turn xs (reply_action e.reply) a f at h in subst (λ (g : ActionFact). IsActionFact g limit (e ∷ j) a) (sym old.2) (action_entry old.0 limit j a e (are.each a old.0 old.1)))
      one a f h (inr off) = action_aside f limit j a e off (λ k. off (sym same ∙ k)) (are.each a f (sym (miss turn xs (reply_action e.reply) a off) ∙ h))

  pub actions_twice : (xs ys zs : List ActionFact) → AreActions xs limit j → ys ≡ update_if (action_after j limit (unwrap_or (reply_action e.reply) 0) (last_work j e.lane) e) xs (reply_action e.reply)
      → zs ≡ update_if (action_after j limit (unwrap_or (call_action (last_work j e.lane) e.call) 0) (last_work j e.lane) e) ys (call_action (last_work j e.lane) e.call)
      → call_action (last_work j e.lane) e.call ≢ reply_action e.reply → AreActions zs limit (e ∷ j)
  unfolding turn
  actions_twice xs ys zs are first second apart =
      record { each = λ a f h. one a f (subst (λ (us : List ActionFact). slice_get us a ≡ Some f) second h) (at_cases a (call_action (last_work j e.lane) e.call)) (at_cases a (reply_action e.reply)) }
    where
      by_call : Option ℕ
      by_call = call_action (last_work j e.lane) e.call

      one : (a : ℕ) (f : ActionFact) → slice_get (update_if (turn (unwrap_or by_call 0)) ys by_call) a ≡ Some f
          → (by_call ≡ Some a) ⊎ (by_call ≢ Some a) → (reply_action e.reply ≡ Some a) ⊎ (reply_action e.reply ≢ Some a) → IsActionFact f limit (e ∷ j) a
      one a f h (inl at) (inl both) = absurd (apart (at ∙ sym both))
      one a f h (inl at) (inr off) =
          (let old = hit turn ys by_call a f at h in
          let before : slice_get xs a ≡ Some old.0 = sym (miss turn xs (reply_action e.reply) a off) ∙ sym (ap (λ (us : List ActionFact). slice_get us a) first) ∙ old.1 in
          subst (λ (g : ActionFact). IsActionFact g limit (e ∷ j) a) (sym old.2) (action_entry old.0 limit j a e (are.each a old.0 before)))
      one a f h (inr out) (inl at) =
          (let kept : slice_get ys a ≡ Some f = sym (miss turn ys by_call a out) ∙ h in
          let old = hit turn xs (reply_action e.reply) a f at (sym (ap (λ (us : List ActionFact). slice_get us a) first) ∙ kept) in
          subst (λ (g : ActionFact). IsActionFact g limit (e ∷ j) a) (sym old.2) (action_entry old.0 limit j a e (are.each a old.0 old.1)))
      one a f h (inr out) (inr off) =
          (let kept : slice_get ys a ≡ Some f = sym (miss turn ys by_call a out) ∙ h in
          action_aside f limit j a e off out (are.each a f (sym (miss turn xs (reply_action e.reply) a off) ∙ sym (ap (λ (us : List ActionFact). slice_get us a) first) ∙ kept)))

-- ---- the same, by what the code found

same_option : (a b : Option ℕ) → option_eq eqb a b ≡ true → a ≡ b
same_option None None h = refl
same_option (Some x) (Some y) h = ap Some (eqb-true x y h)
same_option None (Some y) h = absurd (cc)
same_option (Some x) None h = absurd (cc)

eqb_refl : (x : ℕ) → eqb x x ≡ true
eqb_refl x = eq-eqb x x refl

option_refl : (a : Option ℕ) → option_eq eqb a a ≡ true
option_refl None = refl
option_refl (Some x) = eqb_refl x

other_option : (a b : Option ℕ) → option_eq eqb a b ≡ false → a ≢ b
other_option a b h = λ e. (let t : option_eq eqb a a ≡ false = subst (λ (v : Option ℕ). option_eq eqb a v ≡ false) (sym e) h in let both : true ≡ false = sym (option_refl a) ∙ t in absurd (cc))

module _ (limit : ℕ) (j : List Entry) (e : Entry) (order : Option Entry) (by_reply by_call : Option ℕ) (work : order ≡ last_work j e.lane)
    (reply_is : by_reply ≡ reply_action e.reply) (call_is : by_call ≡ call_action order e.call) where
  called : by_call ≡ call_action (last_work j e.lane) e.call
  called = call_is ∙ ap (λ (o : Option Entry). call_action o e.call) work

  moved : (xs ys : List ActionFact) (o o' : Option ℕ) → o ≡ o' → ys ≡ update_if (action_after j limit (unwrap_or o 0) order e) xs o → ys ≡ update_if (action_after j limit (unwrap_or o' 0) (last_work j e.lane) e) xs o'
  moved xs ys o o' same is =
      is ∙ ap (λ (v : Option ℕ). update_if (action_after j limit (unwrap_or v 0) order e) xs v) same
      ∙ ap (λ (v : Option Entry). update_if (action_after j limit (unwrap_or o' 0) v e) xs o') work

  pub noted_once : (xs ys : List ActionFact) → AreActions xs limit j → ys ≡ update_if (action_after j limit (unwrap_or by_reply 0) order e) xs by_reply → option_eq eqb by_call by_reply ≡ true → AreActions ys limit (e ∷ j)
  noted_once xs ys are is same = actions_once limit j e xs ys are (moved xs ys by_reply (reply_action e.reply) reply_is is) (sym called ∙ same_option by_call by_reply same ∙ reply_is)

  pub noted_twice : (xs ys zs : List ActionFact) → AreActions xs limit j → ys ≡ update_if (action_after j limit (unwrap_or by_reply 0) order e) xs by_reply
      → zs ≡ update_if (action_after j limit (unwrap_or by_call 0) order e) ys by_call → option_eq eqb by_call by_reply ≡ false → AreActions zs limit (e ∷ j)
  noted_twice xs ys zs are is more apart =
      actions_twice limit j e xs ys zs are (moved xs ys by_reply (reply_action e.reply) reply_is is) (moved ys zs by_call (call_action (last_work j e.lane) e.call) called more)
      (λ h. other_option by_call by_reply apart (called ∙ h ∙ sym reply_is))

pub lines_noted : (xs ys : List LineFact) (j : List Entry) (e : Entry) (order : Option Entry) (late : Bool) (o : Option ℕ) → AreLines xs j → order ≡ last_work j e.lane
    → late ≡ is_late j (send_of_entry order) e.call → o ≡ broken_line e.call → ys ≡ update_if (line_after late (unwrap_or o 0) e) xs o → AreLines ys (e ∷ j)
unfolding late_at
lines_noted xs ys j e order late o are work said same is =
    lines_more xs ys j e are
    (is ∙ ap (λ (v : Option ℕ). update_if (line_after late (unwrap_or v 0) e) xs v) same
    ∙ ap (λ b. update_if (line_after b (unwrap_or (broken_line e.call) 0) e) xs (broken_line e.call)) (said ∙ ap (λ (v : Option Entry). is_late j (send_of_entry v) e.call) work))

-- ---- the newest work of each lane

module _ {R : Type 0} (held : R → Option Entry) where
  -- an entry that is no work of the lane leaves its newest
  order_stays : (j : List Entry) (e : Entry) (lane : ℕ) (o : Option Entry) → is_work lane e ≡ false → o ≡ last_work j lane → o ≡ last_work (e ∷ j) lane
  unfolding last_work
  order_stays j e lane o off is = is ∙ sym (ap (λ b. or_else (cond b (Some e) None) (last_work j lane)) off)

  pub orders_kept : (rs : List R) (j : List Entry) (e : Entry) → is_work e.lane e ≡ false → AreOrders held rs j → AreOrders held rs (e ∷ j)
  orders_kept rs j e off are = record { each = λ lane r h. order_stays j e lane (held r) (by lane (e.lane == lane) refl) (are.each lane r h) }
    where
      by : (lane : ℕ) (b : Bool) → (e.lane == lane) ≡ b → is_work lane e ≡ false
      by lane true same = subst (λ l. is_work l e ≡ false) (eqb-true e.lane lane same) off
      by lane false apart = ap (λ b. b && (not (is_look e.call) && not (is_halt e.call))) apart

  pub orders_past : (rs : List R) (j : List Entry) (e : Entry) → length rs ≤ e.lane → AreOrders held rs j → AreOrders held rs (e ∷ j)
  orders_past rs j e past are = record { each = λ lane r h. order_stays j e lane (held r) (apart lane (within rs lane r h)) (are.each lane r h) }
    where
      within : (xs : List R) (i : ℕ) (r : R) → slice_get xs i ≡ Some r → i < length xs
      within [] i r h = absurd (cc)
      within (x ∷ xs) zero r h = omega arith
      within (x ∷ xs) (suc i) r h = (let few = within xs i r h in omega arith)

      apart : (lane : ℕ) → lane < length rs → is_work lane e ≡ false
      apart lane lt = ap (λ b. b && (not (is_look e.call) && not (is_halt e.call))) (ne_eqb e.lane lane (λ same. omega arith))

  pub orders_set : (rs : List R) (j : List Entry) (e : Entry) (r : R) → held r ≡ Some e → is_work e.lane e ≡ true → e.lane < length rs → AreOrders held rs j → AreOrders held (set rs e.lane r) (e ∷ j)
  unfolding last_work
  orders_set rs j e r new work lt are =
      record { each = λ lane q h. one lane q (e.lane == lane) refl (sym (get_update (λ (_ : R). r) rs e.lane lane) ∙ ap (λ (xs : List R). slice_get xs lane) (sym (set-update (λ (_ : R). r) rs e.lane r lt)) ∙ h) }
    where
      placed : (o : Option R) (q : R) → option_map (λ (_ : R). r) o ≡ Some q → q ≡ r
      placed (Some x) q h = cc
      placed None q h = absurd (cc)

      one : (lane : ℕ) (q : R) (b : Bool) → (e.lane == lane) ≡ b → cond (e.lane == lane) (option_map (λ (_ : R). r) (slice_get rs lane)) (slice_get rs lane) ≡ Some q → held q ≡ last_work (e ∷ j) lane
      one lane q true same h =
          ap held (placed (slice_get rs lane) q (sym (ap (λ b. cond b (option_map (λ (_ : R). r) (slice_get rs lane)) (slice_get rs lane)) same) ∙ h))
          ∙ new
          ∙ sym (ap (λ b. or_else (cond b (Some e) None) (last_work j lane)) (subst (λ l. is_work l e ≡ true) (eqb-true e.lane lane same) work))
      one lane q false apart h =
          order_stays j e lane (held q) (ap (λ b. b && (not (is_look e.call) && not (is_halt e.call))) apart)
          (are.each lane q (sym (ap (λ b. cond b (option_map (λ (_ : R). r) (slice_get rs lane)) (slice_get rs lane)) apart) ∙ h))

  pub orders_start : (r : R) (n : ℕ) → held r ≡ None → AreOrders held (replicate n r) []
  unfolding last_work
  orders_start r n none = record { each = λ lane q h. ap held (only (nat_lt lane n) q (sym (get_replicate r n lane) ∙ h)) ∙ none }
    where
      only : (c : Bool) (q : R) → cond c (Some r) None ≡ Some q → q ≡ r
      only true q h = cc
      only false q h = absurd (cc)

  -- the lane's newest work, by what stands at its place
  pub order_read : (rs : List R) (j : List Entry) (lane : ℕ) (d : R) → AreOrders held rs j → lane < length rs → held (get_or rs lane d) ≡ last_work j lane
  order_read rs j lane d are lt = are.each lane (get_or rs lane d) (slice_get-get_or rs lane d lt)

-- ---- at the start

branch_start : (t : Attempt) → IsBranchFact new_branch [] t
unfolding commit_of ever_sent
branch_start t = record { commits = refl; sends = refl; answers = answers_start t.action t.branch; tracks = track_new _ t refl refl refl refl refl }

pub actions_start : (xs : List ActionFact) (limit : ℕ) → AllNew new_action xs → AreActions xs limit []
unfolding grant_of
actions_start xs limit new = record {
  each = λ a f h. subst (λ (g : ActionFact). IsActionFact g limit [] a) (sym (new.each a f h))
      (record { grant_is = refl; local_is = branch_start (attempt_of a Local limit); remote_is = branch_start (attempt_of a Remote limit) });
}

pub lines_start : (xs : List LineFact) → AllNew new_line xs → AreLines xs []
unfolding line_cause has_ended
lines_start xs new = record { each = λ l f h. new.each l f h }
