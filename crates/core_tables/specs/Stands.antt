-- When the table's slots are those of a journal, whose newest entry stands first.
use Rattle.std.specs.Prelude.{◌≡◌, ℕ, Option, Some, None, if◌then◌else◌, List, length, slice_get}
use Rattle.run_plan.specs.declared.plan.Branch.{Branch}
use Rattle.run_plan.specs.declared.plan.Plan.{Plan}
use Rattle.exec_journal.specs.declared.call.Answer.{Answer}
use Rattle.exec_journal.specs.declared.call.Call.{Call}
use Rattle.exec_journal.specs.declared.call.Call.TheVariants as call
use Rattle.exec_journal.specs.Entry.{Entry}
use Rattle.exec_journal.specs.declared.reply.Reply.{Reply}
use Rattle.exec_journal.specs.declared.reply.Reply.TheVariants as reply
use Rattle.exec_journal.specs.Entries.{attempt_of, is_branch_of}
use Rattle.exec_journal.specs.History.{latest}
use Rattle.exec_journal.specs.Rules.{files_of_grant}
use Rattle.exec_journal.specs.Words.{grant_of}
use Rattle.core_tables.specs.declared.files.Slot.{Slot}
use Rattle.core_tables.specs.Slots.{Facts, Filled, file_for, outputs_at, rows_of}

abbrev pub match_for : ℕ → Branch → Call → Reply → Option Answer
match_for a b (call.Answer l x) (reply.Matched c d n) =
    if is_branch_of a b (attempt_of c d n) then Some x else None
match_for a b _ _ = None

-- the newest answer that was matched with an attempt of the branch
unfoldable pub newest_match : List Entry → ℕ → Branch → Option Answer
newest_match j a b = latest (λ _ e. match_for a b e.call e.reply) j

-- the file that it has for an output of the action
abbrev pub answer_file : Plan → ℕ → Option Answer → ℕ → Option (List ℕ)
answer_file p a (Some x) o = file_for x.files (outputs_at p a) o
answer_file p a None o = None

-- of each action a slot for each output, which tells of its content
pub record RowsStand (p : Plan) (rows : List (List Slot)) (content : ℕ → ℕ
    → Option (List ℕ)) : Type 0 where
  pub count : length rows ≡ length p.actions
  pub each : (a : ℕ) (slots : List Slot) → slice_get rows a ≡ Some slots
      → Filled slots (length (outputs_at p a)) (content a)

-- the files that the action was granted, and those that the newest matched answer of each of its
-- branches has
pub record Stands (p : Plan) (f : Facts) (j : List Entry) : Type 0 where
  pub made : RowsStand p f.made (λ a o. slice_get (files_of_grant (grant_of j a)) o)
  pub answered : (b : Branch) → RowsStand p (rows_of b f)
      (λ a o. answer_file p a (newest_match j a b) o)
