-- What the laws ask of a journal and its next entry.
use Rattle.std.specs.Prelude.{◌≡◌, ℕ, ◌/◌, ◌==◌, Bool, true, false, Option, Some, None, option_and_then, List, [], ◌∷◌, slice_get, ℤ}
use Rattle.std.specs.Ordering.{int_eq}
use Rattle.run_plan.specs.declared.plan.Branch.{Branch}
use Rattle.run_plan.specs.declared.plan.Plan.{Plan}
use Rattle.exec_journal.specs.declared.attempt.Attempt.{Attempt}
use Rattle.exec_journal.specs.Entry.{Entry}
use Rattle.exec_journal.specs.declared.call.Call.{Call}
use Rattle.exec_journal.specs.declared.call.Call.TheVariants as call
use Rattle.exec_journal.specs.declared.reply.Reply.{Reply}
use Rattle.exec_journal.specs.declared.reply.Reply.TheVariants as reply
use Rattle.exec_journal.specs.Entries.{Request, attempt_of, same_attempt}
use Rattle.exec_journal.specs.Words.{sends, pending, was_sent, answered, wrote, has_ended}
use Rattle.exec_journal.specs.Rules.{number_of}
use Rattle.exec_journal.specs.Seated.{kind_in}
use Rattle.run_plan.specs.Groups.{is_single, group_of}
use Rattle.request_table.specs.declared.Matching.{Matching}
use Rattle.request_table.specs.declared.Matching.TheVariants.{Closed, Never}
use Rattle.request_table.specs.Stands.{Numbered}

-- it holds of each request
abbrev pub EachOf : (Request → Type 0) → List Request → Type 0
EachOf P [] = Unit {0}
EachOf P (r ∷ rs) = P r × EachOf P rs

-- the branch is run by this group
abbrev pub IsOfGroup : Plan → Option ℕ → ℕ → Branch → Type 0
IsOfGroup p g a b = option_and_then (λ x. group_of x b) (slice_get p.actions a) ≡ g

-- the line's Sends so far were numbered as this group does
abbrev pub NumberedBy : Plan → List Entry → Option ℕ → ℕ → Type 0
NumberedBy p j g l = Numbered (is_single (kind_in p g)) (sends j l)

-- nothing was said yet of the attempt's request, and the line on which it is sent hasn't ended
pub record IsNewRequest (j : List Entry) (l : ℕ) (t : Attempt) : Type 0 where
  pub unsent : was_sent j t ≡ false
  pub unanswered : answered j t ≡ false
  pub unwritten : wrote j t ≡ None
  pub running : has_ended j l ≡ false

-- a Send of a new request has the next number of its line, which is of the branch's group
pub record IsNextSend (p : Plan) (j : List Entry) (g : Option ℕ) (l : ℕ) (n : ℤ) (a : ℕ) (b : Branch)
    (t : ℕ) : Type 0 where
  pub number : n ≡ number_of j (kind_in p g) l
  pub group : IsOfGroup p g a b
  pub earlier : NumberedBy p j g l
  pub new : IsNewRequest j l (attempt_of a b t)

-- of all pending requests exactly those of this attempt stand on this line with this number
pub record IsKnownBy (j : List Entry) (l : ℕ) (n : ℤ) (s : Attempt) : Type 0 where
  pub here : EachOf (λ r. same_attempt s r.attempt ≡ int_eq r.number n) (pending j l)
  pub elsewhere : (k : ℕ) → (l == k) ≡ false
      → EachOf (λ r. same_attempt s r.attempt ≡ false) (pending j k)

-- no pending request is of this attempt: it was answered, or its line has ended
abbrev pub IsPast : List Entry → Attempt → Type 0
IsPast j s = (k : ℕ) → EachOf (λ r. same_attempt s r.attempt ≡ false) (pending j k)

abbrev pub NoneIsPending : List Entry → Option Request → Type 0
NoneIsPending j (Some r) = IsPast j r.attempt
NoneIsPending j None = Unit {0}

-- neither a Send nor a Cancel, and it consumes no answer
abbrev pub is_still : Reply → Bool
is_still (reply.Send l n a b t) = false
is_still (reply.Cancel l n) = false
is_still (reply.Matched a b t) = false
is_still (reply.Late a b t) = false
is_still _ = true

-- neither a Wrote nor an Ended
abbrev pub is_calm : Call → Bool
is_calm (call.Wrote l n how) = false
is_calm (call.Ended l how) = false
is_calm _ = true

-- the answer found no pending request
abbrev pub finds_none : Matching → Bool
finds_none Closed = true
finds_none Never = true
finds_none _ = false
