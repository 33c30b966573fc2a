-- What the laws ask of a journal and its next entry.
use Rattle.std.specs.Prelude.{◌≡◌, ℕ, ◌==◌, Bool, true, false, ◌&&◌, ◌||◌, not, Some, None, is_some, if◌then◌else◌, List, [], ◌∷◌, length, filter}
use Rattle.run_plan.specs.declared.plan.Branch.{Branch}
use Rattle.run_plan.specs.declared.plan.Plan.{Plan}
use Rattle.exec_journal.specs.declared.attempt.Attempt.{Attempt}
use Rattle.exec_journal.specs.Entry.{Entry}
use Rattle.exec_journal.specs.declared.call.Call.{Call}
use Rattle.exec_journal.specs.declared.call.Call.TheVariants as call
use Rattle.exec_journal.specs.declared.call.Written.TheVariants as write
use Rattle.exec_journal.specs.declared.reply.Reply.{Reply}
use Rattle.exec_journal.specs.declared.reply.Reply.TheVariants as reply
use Rattle.exec_journal.specs.Entries.{Request, same_attempt, is_done}
use Rattle.exec_journal.specs.Words.{launch_of, has_ended, was_sent, answered, wrote, pending, order_of, granted}
use Rattle.exec_journal.specs.Attempts.{line_of, fault_at, ended}
use Rattle.exec_journal.specs.Settled.{wanted, bound}
use Rattle.exec_journal.specs.Facts.{begun}

-- the lane's entry with this call and reply
abbrev pub entry : ℕ → Call → Reply → Entry
entry lane c x = record { lane = lane; call = c; reply = x }

-- ---- entries that say nothing of lines and requests

-- the call neither starts, ends nor kills a line, and reports no fault of a write
abbrev pub is_aside_call : Call → Bool
is_aside_call (call.Launched l how) = not (is_done how)
is_aside_call (call.Wrote l n write.Done) = true
is_aside_call (call.Wrote l n how) = false
is_aside_call (call.Killed l) = false
is_aside_call (call.Ended l how) = false
is_aside_call _ = true

-- the reply launches and sends nothing, consumes no answer and is no Breach
abbrev pub is_aside_reply : Reply → Bool
is_aside_reply (reply.Launch l a b t) = false
is_aside_reply (reply.Send l n a b t) = false
is_aside_reply (reply.Matched a b t) = false
is_aside_reply (reply.Late a b t) = false
is_aside_reply (reply.Breach y) = false
is_aside_reply _ = true

abbrev pub is_aside : Entry → Bool
is_aside e = is_aside_call e.call && is_aside_reply e.reply

-- a call with which no attempt can end, and nothing can be granted or committed
abbrev pub ends_nothing : Call → Bool
ends_nothing (call.Launched l how) = false
ends_nothing (call.Claim a b t f) = false
ends_nothing (call.Committed a b how) = false
ends_nothing _ = true

-- ---- what is bound

-- the line is one of these
abbrev pub is_among : ℕ → List ℕ → Bool
is_among l [] = false
is_among l (k ∷ ks) = (k == l) || is_among l ks

-- of the lines to which something is bound, these are those to which a branch of the action is
pub record AreOfAction (p : Plan) (j : List Entry) (a : ℕ) (ls : List ℕ) : Type 0 where
  pub each : (l : ℕ) (t : Attempt) → bound p j l ≡ Some t → is_among l ls ≡ (a == t.action)

-- of the lines to which something is bound, these are those where the entry says a fault of it
pub record AreFaulted (p : Plan) (j : List Entry) (e : Entry) (ls : List ℕ) : Type 0 where
  pub each : (l : ℕ) (t : Attempt) → bound p j l ≡ Some t → is_among l ls ≡ is_some (fault_at t j e)

-- a branch that isn't wanted isn't wanted again, and one that is bound stays wanted until its
-- action is granted or its attempt ends
pub record WantedStays (p : Plan) (j : List Entry) (e : Entry) : Type 0 where
  pub unwanted : (a : ℕ) (b : Branch) → wanted p j a b ≡ false → wanted p (e ∷ j) a b ≡ false
  pub bound_yet : (l : ℕ) (t : Attempt) → bound p j l ≡ Some t → granted (e ∷ j) t.action ≡ false
      → ended (e ∷ j) t ≡ false → wanted p (e ∷ j) t.action t.branch ≡ true

-- each line carries what is bound to it, which isn't answered
pub record CarriesItsBound (p : Plan) (j : List Entry) : Type 0 where
  pub carrier : (l : ℕ) (t : Attempt) → bound p j l ≡ Some t → line_of j t ≡ Some l
  pub unanswered : (l : ℕ) (t : Attempt) → bound p j l ≡ Some t → answered j t ≡ false

-- nothing was said of the attempt yet, and its branch is wanted
pub record IsNew (p : Plan) (j : List Entry) (t : Attempt) : Type 0 where
  pub unbegun : begun j t ≡ false
  pub going : ended j t ≡ false
  pub wish : wanted p j t.action t.branch ≡ true

-- ---- what is pending

abbrev pub is_of : Attempt → Request → Bool
is_of t q = same_attempt t q.attempt

-- how many requests of the attempt are pending on the line
abbrev pub pending_of_attempt : List Entry → Attempt → ℕ → ℕ
pending_of_attempt j t l = length (filter (is_of t) (pending j l))

-- one request of the attempt is pending, on this line
pub record IsPendingOn (j : List Entry) (t : Attempt) (l : ℕ) : Type 0 where
  pub each : (m : ℕ) → pending_of_attempt j t m ≡ (if l == m then 1 else 0)

-- none is: it was answered, or its line has ended
pub record IsPendingNowhere (j : List Entry) (t : Attempt) : Type 0 where
  pub each : (m : ℕ) → pending_of_attempt j t m ≡ 0

-- the lane's Wrote is the first about this request
pub record IsFirstWrite (j : List Entry) (lane : ℕ) (q : Request) : Type 0 where
  pub order : order_of j lane ≡ Some q
  pub first : wrote j q.attempt ≡ None

-- a request is sent once, to a line that hasn't ended, and where its attempt was launched, to the
-- line on which it was
pub record IsSentTo (j : List Entry) (t : Attempt) (l : ℕ) : Type 0 where
  pub unended : has_ended j l ≡ false
  pub unsent : was_sent j t ≡ false
  pub unanswered : answered j t ≡ false
  pub carrier : (m : ℕ) → line_of j t ≡ Some m → m ≡ l
  pub launched : (lane m : ℕ) → launch_of j m ≡ Some (lane, t) → m ≡ l
