-- Of each action the attempt of a branch that has a certain number: the last order for it, and the
-- answer to it.
use Rattle.std.specs.Prelude.{◌≡◌, ◌==◌, ℕ, ◌&&◌, Option, Some, None, option_map, if◌then◌else◌, List, slice_get}
use Rattle.std.specs.Option.{option_or}
use Rattle.run_plan.specs.declared.plan.Branch.{Branch}
use Rattle.exec_journal.specs.declared.attempt.Attempt.{Attempt}
use Rattle.exec_journal.specs.declared.call.Answer.{Answer}
use Rattle.exec_journal.specs.declared.call.Call.{Call}
use Rattle.exec_journal.specs.declared.call.Call.TheVariants as call
use Rattle.exec_journal.specs.declared.reply.Reply.{Reply}
use Rattle.exec_journal.specs.declared.reply.Reply.TheVariants as reply
use Rattle.exec_journal.specs.Entries.{attempt_of, same_branch}
use Rattle.exec_journal.specs.Entry.{Entry}
use Rattle.exec_journal.specs.History.{latest}
use Rattle.exec_journal.specs.Words.{match_of}
use Rattle.exec_journal.specs.Attempts.{carrier_in}
use Rattle.branch_losses.specs.declared.attempts.Nth.{Nth}
use Rattle.branch_losses.specs.declared.attempts.Order.{Order}
use Rattle.branch_losses.specs.declared.attempts.Given.{Given}

-- the action's attempt that is meant
abbrev pub nth_of : Nth → ℕ → Attempt
nth_of n a = attempt_of a n.branch n.number

abbrev pub with_lane : ℕ → ℕ → Order
with_lane lane l = record { lane = lane; line = l }

-- the order in this entry to launch or to send the attempt
abbrev pub order_at : Attempt → Entry → Option Order
order_at t e = option_map (with_lane e.lane) (carrier_in t e.reply)

-- the last such order
unfoldable pub order_of : List Entry → Attempt → Option Order
order_of j t = latest (λ _ e. order_at t e) j

-- each is the last order for the action's attempt
pub record AreOrders (n : Nth) (os : List (Option Order)) (j : List Entry) : Type 0 where
  pub each : (a : ℕ) (o : Option Order) → slice_get os a ≡ Some o → o ≡ order_of j (nth_of n a)

-- each holds the answer that was first matched with the action's attempt
pub record AreAnswers {R : Type 0} (n : Nth) (held : R → Option Answer) (xs : List R)
    (j : List Entry) : Type 0 where
  pub each : (a : ℕ) (x : R) → slice_get xs a ≡ Some x → held x ≡ match_of j (nth_of n a)

-- ---- what one entry says of them

abbrev pub if_nth : {X : Type 0} → Nth → Branch → ℕ → X → Option X
if_nth n b t x = if same_branch b n.branch && (t == n.number) then Some x else None

abbrev pub given_by : ℕ → ℕ → ℕ → Given
given_by lane a l = record { action = a; order = with_lane lane l }

abbrev pub given_of : Nth → ℕ → Reply → Option Given
given_of n lane (reply.Launch l a b t) = if_nth n b t (given_by lane a l)
given_of n lane (reply.Send l k a b t) = if_nth n b t (given_by lane a l)
given_of n lane _ = None

-- the action whose attempt the entry orders to launch or to send, and that order
abbrev pub given_in : Nth → Entry → Option Given
given_in n e = given_of n e.lane e.reply

-- the action whose attempt the reply matches an answer with
abbrev pub matched_action : Nth → Reply → Option ℕ
matched_action n (reply.Matched a b t) = if_nth n b t a
matched_action n _ = None

abbrev pub answer_in : Call → Option Answer
answer_in (call.Answer l x) = Some x
answer_in _ = None

-- the answer in the call, where it is matched with this action's attempt
abbrev pub answer_for : ℕ → Option ℕ → Option Answer → Option Answer
answer_for a (Some k) x = if k == a then x else None
answer_for a None x = None

-- at each action what was there stays, and what the entry matches is noted where nothing was
pub record NotesAnswer {R : Type 0} (n : Nth) (held : R → Option Answer) (xs ys : List R)
    (e : Entry) : Type 0 where
  pub there : (a : ℕ) (y : R) → slice_get ys a ≡ Some y → (x : R) × (slice_get xs a ≡ Some x)
  pub here : (a : ℕ) (x y : R) → slice_get xs a ≡ Some x → slice_get ys a ≡ Some y
      → held y ≡ option_or (held x) (answer_for a (matched_action n e.reply) (answer_in e.call))
