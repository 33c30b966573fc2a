-- A discipline's replies and debts after a history, whose oldest entry comes first.
use Rattle.std.specs.Prelude.{◌≡◌, ℕ, true, if◌then◌else◌, List, [], ◌∷◌, fold}
use Rattle.run_plan.specs.Sound.{Sound}
use Rattle.exec_journal.specs.Entry.{Entry}
use Rattle.exec_journal.specs.declared.call.Call.{Call}
use Rattle.exec_journal.specs.declared.reply.Reply.{Reply}
use Rattle.exec_journal.specs.declared.reply.Reply.TheVariants as reply
use Rattle.journal_laws.specs.Paid.{seat_paid, seats_owe}
use Rattle.core_contract.specs.Discipline.{Discipline}
use Rattle.core_contract.specs.Disciplines.{LegalBy, script_of}
use Rattle.core_contract.specs.Moves.{History}

-- the journal of a history, whose newest entry comes first
abbrev pub journal_of : History → List Entry
journal_of h = fold (λ j e. e ∷ j) [] h

-- the reply to a call: outside its lane's script Astray, else the discipline's
abbrev pub answer_after : Discipline → History → ℕ → Call → Reply
answer_after q h lane c =
    if script_of q (journal_of h) lane c then q.rule (journal_of h) lane c else reply.Astray

-- the call is paid for
abbrev pub IsPaidAfter : Discipline → History → ℕ → Call → Type 0
IsPaidAfter q h lane c = seat_paid q.seats (journal_of h) lane c ≡ true

-- how many paid entries are still to come
abbrev pub owes_after : Discipline → History → ℕ
owes_after q h = seats_owe q.seats (journal_of h)

-- the plan is sound, each call was in its lane's script, each reply is the discipline's, and each
-- entry is kept
pub record CameAbout (q : Discipline) (h : History) : Type 0 where
  pub sound : Sound q.plan
  pub legal : LegalBy q (journal_of h)
