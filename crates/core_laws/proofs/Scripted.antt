-- What the lanes allow is what their scripts have.
use Rattle.std.proofs.Common.{◌≡◌, ℕ, ◌*◌, ◌%◌, ◌==◌, nat_lt, Bool, true, false, ◌&&◌, ◌||◌, not, cond, List, Option, Some, None, refl, ap, ◌∙◌}
use Rattle.std.specs.Prelude.{slice_get}
use Rattle.run_plan.specs.declared.plan.Branch.{Branch}
use Rattle.run_plan.specs.declared.plan.Kind.{Kind}
use Rattle.run_plan.specs.declared.plan.Plan.{Plan}
use Rattle.exec_journal.specs.Entry.{Entry}
use Rattle.exec_journal.specs.declared.call.Call.{Call}
use Rattle.exec_journal.specs.declared.call.Call.TheVariants as call
use Rattle.exec_journal.specs.declared.call.Found.TheVariants as found
use Rattle.exec_journal.specs.declared.call.Wanted.{Wanted}
use Rattle.exec_journal.specs.declared.call.Wanted.TheVariants as look
use Rattle.exec_journal.specs.declared.reply.Reply.{Reply}
use Rattle.exec_journal.specs.declared.reply.Reply.TheVariants as reply
use Rattle.exec_journal.specs.Scripts.{allowed, may_ask, may_ask_after, may_take, may_take_after, hears, hears_after, is_owed, is_owed_after, is_owed_commit, is_commit_of, may_look, seat_script}
use Rattle.exec_journal.specs.Words.{last_work, stopped, has_halted}
use Rattle.core_tables.specs.declared.lanes.LaneState.{LaneState}
use Rattle.core_tables.specs.declared.lanes.Said.{Said}
use Rattle.core_tables.specs.declared.lanes.Said.TheVariants as said
use Rattle.core_tables.specs.Lanes.{order_after, said_after, order_of_work, said_of_work, state_by, lane_in, may_ask_by, may_take_by, hears_by, is_won, is_answer, owes_commit_by, owes_this_commit, is_owed_by, may_look_by, allowed_by, may_some, allows_by}

-- ---- what was said

is_granted : Reply → Bool
is_granted reply.Granted = true
is_granted _ = false

files_said : (a : ℕ) (b : Branch) (t : ℕ) (f : List (List ℕ)) (x : Reply) → is_granted x ≡ false
    → said_after (call.Claim a b t (found.Files f)) x ≡ said.Nothing
unfolding is_granted
files_said a b t f reply.Granted h = absurd (cc)
files_said a b t f _ h = refl

answer_call : Call → Bool
answer_call (call.Answer l x) = true
answer_call _ = false

files_unanswered : (a : ℕ) (b : Branch) (t : ℕ) (f : List (List ℕ)) (x : Reply)
    → is_answer (said_after (call.Claim a b t (found.Files f)) x) ≡ false
files_unanswered a b t f reply.Granted = refl
files_unanswered a b t f _ = refl

answer_is : (c : Call) (x : Reply) → is_answer (said_after c x) ≡ answer_call c
unfolding answer_call
answer_is (call.Claim a b t (found.Files f)) x = files_unanswered a b t f x
answer_is (call.Claim a b t _) x = refl
answer_is _ x = refl

not_won : (c : Call) (x : Reply) → is_granted x ≡ false → is_won (said_after c x) ≡ false
not_won (call.Claim a b t (found.Files f)) x h = ap is_won (files_said a b t f x h)
not_won (call.Claim a b t _) x h = refl
not_won _ x h = refl

won_granted : (c : Call) → not (is_won (said_after c reply.Granted)) ≡ may_ask_after c reply.Granted
won_granted (call.Claim a b t (found.Files f)) = refl
won_granted (call.Claim a b t _) = refl
won_granted _ = refl

ask_is : (c : Call) (x : Reply) → may_ask_by (order_after x) (said_after c x) ≡ may_ask_after c x
unfolding is_granted
ask_is c (reply.Launch l a b t) = refl
ask_is c (reply.Send l n a b t) = refl
ask_is c (reply.Cancel l n) = refl
ask_is c (reply.Gather l n a b t e r) = refl
ask_is c (reply.Kill l y) = refl
ask_is c reply.Stop = refl
ask_is c (reply.Line l) = refl
ask_is c reply.Granted = won_granted c
ask_is c reply.Idle = ap not (not_won c reply.Idle refl)
ask_is c reply.Noted = ap not (not_won c reply.Noted refl)
ask_is c (reply.File b) = ap not (not_won c (reply.File b) refl)
ask_is c reply.NoFile = ap not (not_won c reply.NoFile refl)
ask_is c reply.Greeted = ap not (not_won c reply.Greeted refl)
ask_is c reply.Lost = ap not (not_won c reply.Lost refl)
ask_is c reply.Dropped = ap not (not_won c reply.Dropped refl)
ask_is c reply.AgainLater = ap not (not_won c reply.AgainLater refl)
ask_is c (reply.Matched a b t) = ap not (not_won c (reply.Matched a b t) refl)
ask_is c (reply.Late a b t) = ap not (not_won c (reply.Late a b t) refl)
ask_is c (reply.Stray y) = ap not (not_won c (reply.Stray y) refl)
ask_is c (reply.Breach y) = ap not (not_won c (reply.Breach y) refl)
ask_is c reply.Astray = ap not (not_won c reply.Astray refl)
ask_is c reply.NoMemory = ap not (not_won c reply.NoMemory refl)

take_by : (x : Reply) (s : Said) (c : Call) → is_answer s ≡ answer_call c
    → may_take_by (order_after x) s ≡ may_take_after c x
unfolding answer_call
take_by (reply.Line l) s c h = refl
take_by reply.Stop s c h = refl
take_by _ s (call.Answer l x) h = ap not h
take_by _ s _ h = ap not h

hear_by : (l : ℕ) (x : Reply) (c : Call) → hears_by l (order_after x) (said_after c x)
    ≡ hears_after l c x
hear_by l (reply.Line k) c = refl
hear_by l reply.Granted (call.Claim a b t (found.Files f)) = refl
hear_by l _ (call.Claim a b t (found.Files f)) = refl
hear_by l _ (call.Answer k x) = refl
hear_by l _ (call.Claim a b t _) = refl
hear_by l _ _ = refl

-- ---- what is owed

commit_granted : (a : ℕ) (b : Branch) (c : Call) (x : Reply)
    → owes_this_commit a b (said_after c x) ≡ is_commit_of a b c x
commit_granted a b (call.Claim c d t (found.Files f)) reply.Granted = refl
commit_granted a b (call.Claim c d t (found.Files f)) _ = refl
commit_granted a b (call.Claim c d t _) x = refl
commit_granted a b _ x = refl

commit_is : (c : Call) (last : Option Entry) → owes_commit_by c (said_of_work last)
    ≡ is_owed_commit c last
commit_is (call.Committed a b how) (Some e) = commit_granted a b e.call e.reply
commit_is (call.Committed a b how) None = refl
commit_is _ last = refl

look_is : (p : Plan) (w : Wanted) (x : Reply) → may_look_by p w (order_after x) ≡ may_look p w x
look_is p (look.Made c o) (reply.Send l n a b t) = refl
look_is p (look.Made c o) _ = refl
look_is p (look.Answered k m o) (reply.Gather l n a b t e r) = refl
look_is p (look.Answered k m o) _ = refl

owed_is : (p : Plan) (k : Kind) (c : Call) (x : Reply)
    → is_owed_by p k c (order_after x) ≡ is_owed p k c x
owed_is p k (call.Launched l how) (reply.Launch m a b t) = refl
owed_is p k (call.Launched l how) _ = refl
owed_is p k (call.Wrote l n how) (reply.Send m o a b t) = refl
owed_is p k (call.Wrote l n how) (reply.Cancel m o) = refl
owed_is p k (call.Wrote l n how) _ = refl
owed_is p k (call.Claim a b t f) (reply.Gather l n c d u e r) = refl
owed_is p k (call.Claim a b t f) _ = refl
owed_is p k (call.Killed l) (reply.Kill m y) = refl
owed_is p k (call.Killed l) _ = refl
owed_is p k (call.Look w) x = look_is p w x
owed_is p k _ x = refl

module _ (p : Plan) (k : Kind) (proxy : Bool) where
  owed_after : (c : Call) (last : Option Entry) → (is_owed_by p k c (order_of_work last)
      || owes_commit_by c (said_of_work last)) ≡ is_owed_after p k c last
  owed_after c (Some e) = λ i. owed_is p k c e.reply i || commit_is c (Some e) i
  owed_after (call.Committed a b how) None = refl
  owed_after (call.Look (look.Made a o)) None = refl
  owed_after (call.Look (look.Answered l n o)) None = refl
  owed_after _ None = refl

  ask_work : (last : Option Entry) → may_ask_by (order_of_work last) (said_of_work last)
      ≡ may_ask last
  ask_work None = refl
  ask_work (Some e) = ask_is e.call e.reply

  take_work : (last : Option Entry) → may_take_by (order_of_work last) (said_of_work last)
      ≡ may_take last
  take_work None = refl
  take_work (Some e) = take_by e.reply (said_after e.call e.reply) e.call (answer_is e.call e.reply)

  hear_work : (last : Option Entry) (l : ℕ) → hears_by l (order_of_work last) (said_of_work last)
      ≡ hears last l
  hear_work None l = refl
  hear_work (Some e) l = hear_by l e.reply e.call

  allowed_is : (c : Call) (last : Option Entry) → allowed_by p k proxy (order_of_work last)
      (said_of_work last) c ≡ allowed p k proxy last c
  allowed_is call.Ask last = ap (λ b. proxy && b) (ask_work last)
  allowed_is call.Take last = ap (λ b. not proxy && b) (take_work last)
  allowed_is (call.Answer l x) last = ap (λ b. not proxy && b) (hear_work last l)
  allowed_is (call.Ended l how) last = ap (λ b. not proxy && b) (hear_work last l)
  allowed_is call.Halt last = refl
  allowed_is call.Tick last = ap (λ b. proxy && b) (owed_after call.Tick last)
  allowed_is (call.Launched l how) last = ap (λ b. proxy && b)
      (owed_after (call.Launched l how) last)
  allowed_is (call.Wrote l n how) last = ap (λ b. proxy && b) (owed_after (call.Wrote l n how) last)
  allowed_is (call.Look w) last = ap (λ b. proxy && b) (owed_after (call.Look w) last)
  allowed_is (call.Claim a b t f) last = ap (λ b. proxy && b) (owed_after (call.Claim a b t f) last)
  allowed_is (call.Committed a b how) last = ap (λ b. proxy && b)
      (owed_after (call.Committed a b how) last)
  allowed_is (call.Killed l) last = ap (λ b. proxy && b) (owed_after (call.Killed l) last)

pub script_is : (p : Plan) (seats : ℕ) (k : Kind) (j : List Entry) (lanes : List LaneState) (lane : ℕ) (c : Call)
    → slice_get lanes lane ≡ lane_in seats j lane → allows_by p k lanes lane c
    ≡ seat_script seats (λ _. k) p j lane c
unfolding lane_in
script_is p seats k j lanes lane c h = ap (λ o. may_some p k (lane % 2 == 0) o c) h
    ∙ by (nat_lt lane (2 * seats)) (stopped j lane) (has_halted j lane)
  where
    by : (known stop halt : Bool) → may_some p k (lane % 2 == 0)
        (cond known (Some (state_by (last_work j lane) stop halt)) None) c
        ≡ (known && (not stop && cond halt (is_owed_commit c (last_work j lane))
        (allowed p k (lane % 2 == 0) (last_work j lane) c)))
    by false stop halt = refl
    by true true halt = refl
    by true false true = commit_is c (last_work j lane)
    by true false false = allowed_is p k (lane % 2 == 0) c (last_work j lane)
