-- The matches of each berth since its last Send.
use Rattle.std.specs.Prelude.{ℕ, ◌==◌, nat_lt, Bool, true, false, ◌&&◌, ◌||◌, not, Option, Some, None, if◌then◌else◌, List, [], ◌∷◌, ◌++◌, length, map, reverse, slice_get, pos}
use Rattle.arrayvec.specs.ArrayVec.{ArrayVec}
use Rattle.run_plan.specs.declared.plan.Branch.TheVariants.{Local}
use Rattle.exec_journal.specs.declared.attempt.Attempt.{Attempt}
use Rattle.exec_journal.specs.Entry.{Entry}
use Rattle.exec_journal.specs.Entries.{attempt_of, same_attempt}
use Rattle.call_laws.specs.Matches.{Matched, recent, is_spent}
use Rattle.list_lemmas.specs.Places.{update}
use Rattle.core_tables.specs.declared.matches.Match.{Match}

abbrev pub blank : Match
blank = record {
  line = 0;
  number = pos 0;
  attempt = attempt_of 0 Local 0;
  exit = pos 0;
  refused = false;
  spent = false;
}

abbrev pub no_matches : ArrayVec Match
no_matches = record { items = [] }

abbrev pub matches_on : Option (ArrayVec Match) → List Match
matches_on (Some x) = x.items
matches_on None = []

abbrev pub matches_of : List (ArrayVec Match) → ℕ → List Match
matches_of rows w = matches_on (slice_get rows w)

abbrev pub is_waiting : Match → Bool
is_waiting m = not m.spent

abbrev pub spend_if : Attempt → Match → Match
spend_if t m = record m { spent = same_attempt t m.attempt || m.spent }

abbrev pub spend_won : ℕ → Match → Match
spend_won a m = record m { spent = (m.attempt.action == a) || m.spent }

abbrev pub on_row : (List Match → List Match) → ArrayVec Match → ArrayVec Match
on_row g x = record { items = g x.items }

abbrev pub with_match : List (ArrayVec Match) → ℕ → Match → List (ArrayVec Match)
with_match rows w m = update (on_row (λ ms. ms ++ m ∷ [])) rows w

abbrev pub with_clear : List (ArrayVec Match) → ℕ → List (ArrayVec Match)
with_clear rows w = update (on_row (λ ms. [])) rows w

abbrev pub spent_row : Attempt → ArrayVec Match → ArrayVec Match
spent_row t x = on_row (map (spend_if t)) x

abbrev pub with_spent : List (ArrayVec Match) → Attempt → List (ArrayVec Match)
with_spent rows t = map (spent_row t) rows

abbrev pub won_row : ℕ → ArrayVec Match → ArrayVec Match
won_row a x = on_row (map (spend_won a)) x

abbrev pub with_won : List (ArrayVec Match) → ℕ → List (ArrayVec Match)
with_won rows a = map (won_row a) rows

-- ---- by the journal

abbrev pub match_in : List Entry → Matched → Match
match_in j m = record {
  line = m.line;
  number = m.number;
  attempt = m.attempt;
  exit = m.exit;
  refused = m.refused;
  spent = is_spent j m.attempt;
}

-- of a berth, which is one of so many
unfoldable pub matches_in : ℕ → List Entry → ℕ → Option (ArrayVec Match)
matches_in seats j w = if nat_lt w seats then Some
    (record { items = reverse (map (match_in j) (recent j w)) }) else None
