-- What is kept of a berth's last line beside the pool's row.
use Rattle.std.specs.Prelude.{ℕ, nat_lt, Bool, false, true, Option, Some, None, option_map, if◌then◌else◌, List}
use Rattle.exec_journal.specs.declared.attempt.Attempt.{Attempt}
use Rattle.exec_journal.specs.declared.ends.Cause.{Cause}
use Rattle.exec_journal.specs.Entry.{Entry}
use Rattle.list_lemmas.specs.Options.{or_else}
use Rattle.exec_journal.specs.Words.{last_line, launch_of, was_taken, line_cause}
use Rattle.call_laws.specs.Moments.{fed_on}
use Rattle.core_tables.specs.declared.last.LastLine.{LastLine}

abbrev pub no_line : LastLine
no_line = record { attempt = None; taken = false; cause = None; fed = None }

abbrev pub set_launched : Attempt → LastLine → LastLine
set_launched t x = record { attempt = Some t; taken = false; cause = None; fed = None }

abbrev pub set_taken : LastLine → LastLine
set_taken x = record { attempt = x.attempt; taken = true; cause = x.cause; fed = x.fed }

abbrev pub set_cause : Cause → LastLine → LastLine
set_cause c x = record {
  attempt = x.attempt;
  taken = x.taken;
  cause = or_else x.cause (Some c);
  fed = x.fed;
}

abbrev pub set_fed : Attempt → LastLine → LastLine
set_fed t x = record { attempt = x.attempt; taken = x.taken; cause = x.cause; fed = Some t }

-- ---- by the journal

-- the attempt of the line whose request has Wrote FeedFault: its feed takes nothing more, so there
-- is at most one
unfoldable pub fed_of : List Entry → ℕ → Option Attempt
fed_of j l = fed_on j l

abbrev pub row_by : Option Attempt → Bool → Option Cause → Option Attempt → LastLine
row_by t taken c fed = record { attempt = t; taken = taken; cause = c; fed = fed }

abbrev pub row_of : List Entry → Option ℕ → LastLine
row_of j (Some l) = row_by (option_map (λ x. x.1) (launch_of j l)) (was_taken j l) (line_cause j l)
    (fed_of j l)
row_of j None = no_line

-- of a berth, which is one of so many
unfoldable pub last_in : ℕ → List Entry → ℕ → Option LastLine
last_in seats j w = if nat_lt w seats then Some (row_of j (last_line j w)) else None
