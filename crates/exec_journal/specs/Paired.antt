-- Each consumed answer has a request of its own.
use Rattle.std.specs.Prelude.{◌≡◌, ℕ, ◌==◌, Bool, true, false, ◌&&◌, ◌||◌, not, option_map, if◌then◌else◌, List, length, filter, ℤ}
use Rattle.std.specs.List.{list_any, list_all}
use Rattle.std.specs.Ordering.{int_eq}
use Rattle.run_plan.specs.declared.plan.Plan.{Plan}
use Rattle.exec_journal.specs.declared.attempt.Attempt.{Attempt}
use Rattle.exec_journal.specs.Entry.{Entry}
use Rattle.exec_journal.specs.declared.call.Call.{Call}
use Rattle.exec_journal.specs.declared.call.Call.TheVariants as call
use Rattle.exec_journal.specs.declared.reply.Reply.{Reply}
use Rattle.exec_journal.specs.declared.reply.Reply.TheVariants as reply
use Rattle.exec_journal.specs.History.{AtEach}
use Rattle.exec_journal.specs.Entries.{attempt_of, same_attempt, is_for}
use Rattle.exec_journal.specs.Words.{sends, answered, wrote, says_done}
use Rattle.run_plan.specs.Groups.{is_single}
use Rattle.exec_journal.specs.Seated.{line_kind}
use Rattle.exec_journal.specs.Rules.{head}

-- a request for the attempt was sent on the line with this number
abbrev pub was_asked : List Entry → ℕ → ℤ → Attempt → Bool
was_asked j l n t = list_any (λ r. same_attempt r.attempt t && int_eq r.number n) (sends j l)

-- it is the line's last Send
abbrev pub is_last_send : List Entry → ℕ → Attempt → Bool
is_last_send j l t = is_for t (option_map (λ r. r.attempt) (head (sends j l)))

-- no other Send of the line has this number
abbrev pub is_only_send : List Entry → ℕ → ℤ → Bool
is_only_send j l n = length (filter (λ r. int_eq r.number n) (sends j l)) == 1

-- the answer's request was sent with its number, has no consumed answer yet, and is on a Single
-- line the last Send, on every other line the only one with its number
abbrev pub has_request : Bool → List Entry → ℕ → ℤ → Attempt → Bool
has_request single j l n t =
    was_asked j l n t
    && (not (answered j t) && (if single then is_last_send j l t else is_only_send j l n))

-- each Send of the line whose Wrote says Done was answered
abbrev pub all_answered : List Entry → ℕ → Bool
all_answered j l =
    list_all (λ r. not (says_done (wrote j r.attempt)) || answered j r.attempt) (sends j l)

-- no Send of the line has this number
abbrev pub is_new_number : List Entry → ℕ → ℤ → Bool
is_new_number j l n = not (list_any (λ r. int_eq r.number n) (sends j l))

-- a consumed answer has a request of its own; a Send comes on a Single line only after all earlier
-- ones were answered, and has on every other line a number that is new there: so the request stays
-- the only one with its number
abbrev pub pair_at : Plan → List Entry → ℕ → Call → Reply → Bool
pair_at p j lane (call.Answer l x) (reply.Matched a b t) =
    has_request (is_single (line_kind p j l)) j l x.number (attempt_of a b t)
pair_at p j lane (call.Answer l x) (reply.Late a b t) =
    has_request (is_single (line_kind p j l)) j l x.number (attempt_of a b t)
pair_at p j lane _ (reply.Matched a b t) = false
pair_at p j lane _ (reply.Late a b t) = false
pair_at p j lane _ (reply.Send l n a b t) =
    if is_single (line_kind p j l) then all_answered j l else is_new_number j l n
pair_at p j lane _ _ = true

abbrev pub Paired : Plan → List Entry → Type 0
Paired p j = AtEach (λ before e. pair_at p before e.lane e.call e.reply ≡ true) j
