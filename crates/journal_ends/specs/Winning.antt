-- By which answer each action was won, as it is gathered by going through the journal twice: for
-- the grants, and then for the answers.
use Rattle.std.specs.Prelude.{◌≡◌, ℕ, ◌==◌, Bool, false, if◌then◌else◌, Option, Some, None, option_map, List, slice_get}
use Rattle.std.specs.Option.{option_or}
use Rattle.exec_journal.specs.declared.attempt.Attempt.{Attempt}
use Rattle.exec_journal.specs.declared.call.Answer.{Answer}
use Rattle.exec_journal.specs.Entry.{Entry}
use Rattle.exec_journal.specs.declared.reply.Reply.{Reply}
use Rattle.exec_journal.specs.Entries.{matched_in, granted_in}
use Rattle.exec_journal.specs.Words.{grant_of, match_at, match_of}
use Rattle.exec_journal.specs.Outcomes.{winning_answer}
use Rattle.list_lemmas.specs.Places.{update}

-- the attempt that the entry grants
abbrev pub granted_at : Entry → Option Attempt
granted_at e = option_map (λ x. x.0) (granted_in e.call e.reply)

-- the attempt that the action was granted for
abbrev pub winner_in : List Entry → ℕ → Option Attempt
winner_in j a = option_map (λ x. x.0) (grant_of j a)

-- each is what the journal says
pub record AreWinners (ws : List (Option Attempt)) (j : List Entry) : Type 0 where
  pub each : (a : ℕ) (w : Option Attempt) → slice_get ws a ≡ Some w → w ≡ winner_in j a

abbrev pub winners_after : List (Option Attempt) → Attempt → List (Option Attempt)
winners_after ws t = update (λ w. option_or w (Some t)) ws t.action

-- the attempt's answer at this entry
abbrev pub answer_at : Option Attempt → Entry → Option Answer
answer_at (Some t) e = match_at t e.call e.reply
answer_at None e = None

-- the attempt's answer
abbrev pub answer_in : List Entry → Option Attempt → Option Answer
answer_in j (Some t) = match_of j t
answer_in j None = None

-- the action of the attempt that the entry matches
abbrev pub matched_action : Reply → Option ℕ
matched_action r = option_map (λ t. t.action) (matched_in r)

abbrev pub is_at : Option ℕ → ℕ → Bool
is_at (Some b) a = b == a
is_at None a = false

-- each holds the first answer that was matched with the winner so far
pub record AreAnswers {R : Type 0} (held : R → Option Answer) (xs : List R)
    (ws : List (Option Attempt)) (j : List Entry) : Type 0 where
  pub each : (a : ℕ) (x : R) (w : Option Attempt) → slice_get xs a ≡ Some x
      → slice_get ws a ≡ Some w → held x ≡ answer_in j w

-- each holds the action's
pub record AreWinning {R : Type 0} (held : R → Option Answer) (xs : List R)
    (j : List Entry) : Type 0 where
  pub each : (a : ℕ) (x : R) → slice_get xs a ≡ Some x → held x ≡ winning_answer j (grant_of j a)

-- at the action that the entry matches the answer is noted, unless there is one; the others stay
pub record NotesAnswer {R : Type 0} (held : R → Option Answer) (xs ys : List R)
    (ws : List (Option Attempt)) (e : Entry) : Type 0 where
  pub here : (a : ℕ) (x y : R) (w : Option Attempt) → slice_get xs a ≡ Some x
      → slice_get ys a ≡ Some y → slice_get ws a ≡ Some w
      → held y ≡ (if is_at (matched_action e.reply) a then option_or (held x) (answer_at w e)
      else held x)
  pub there : (a : ℕ) (y : R) → slice_get ys a ≡ Some y → (x : R) × (slice_get xs a ≡ Some x)
