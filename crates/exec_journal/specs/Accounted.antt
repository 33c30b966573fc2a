-- Nothing is lost: each request that was sent and each attempt that ended is accounted for.
use Rattle.std.specs.Prelude.{◌≡◌, ◌+◌, ◌==◌, nat_lt, Bool, true, ◌&&◌, ◌||◌, not, List}
use Rattle.std.specs.List.{list_all}
use Rattle.run_plan.specs.declared.plan.Plan.{Plan}
use Rattle.exec_journal.specs.declared.attempt.Attempt.{Attempt}
use Rattle.exec_journal.specs.Entry.{Entry}
use Rattle.exec_journal.specs.History.{ever, each}
use Rattle.exec_journal.specs.Entries.{Request, attempt_of, is_for, send_in}
use Rattle.exec_journal.specs.Words.{has_ended, answered, granted, grant_of}
use Rattle.exec_journal.specs.Attempts.{begun_in, ended, dropped}
use Rattle.exec_journal.specs.Rules.{is_other}

-- its line hasn't Ended, or an answer to it was consumed, or its attempt ended, or its action has a
-- grant
abbrev pub is_request_accounted : List Entry → Request → Bool
is_request_accounted j r =
    not (has_ended j r.line)
    || (answered j r.attempt || (ended j r.attempt || granted j r.attempt.action))

-- a Launch or Send of the next attempt follows the end of this one
unfoldable pub is_followed : List Entry → Attempt → Bool
is_followed j t = ever
    (λ before e. is_for (attempt_of t.action t.branch (t.number + 1)) (begun_in e.reply)
    && ended before t) j

-- it is below the limit and another attempt follows; or it is the limit's, and its branch is
-- dropped; or the other branch won
abbrev pub is_attempt_accounted : Plan → List Entry → Attempt → Bool
is_attempt_accounted p j t =
    (nat_lt t.number p.limit && is_followed j t)
    || (((t.number == p.limit) && dropped p j t.action t.branch)
    || is_other t.branch (grant_of j t.action))

pub record Accounted (p : Plan) (j : List Entry) : Type 0 where
  pub requests : list_all (is_request_accounted j) (each (λ _ e. send_in e.reply) j) ≡ true
  pub attempts : (t : Attempt) → ended j t ≡ true → is_attempt_accounted p j t ≡ true
