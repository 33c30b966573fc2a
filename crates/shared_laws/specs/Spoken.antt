-- In which order berths have said something: those that were silent for longer stand first.
use Rattle.std.specs.Prelude.{◌≡◌, ℕ, suc, zero, ◌/◌, ◌<◌, ◌==◌, Bool, true, false, ◌&&◌, not, Some, if◌then◌else◌, List, [], ◌∷◌, ◌++◌}
use Rattle.std.specs.List.{filter}
use Rattle.exec_journal.specs.declared.call.Call.{Call}
use Rattle.exec_journal.specs.declared.call.Call.TheVariants as call
use Rattle.exec_journal.specs.declared.reply.Reply.{Reply}
use Rattle.exec_journal.specs.Entry.{Entry}
use Rattle.exec_journal.specs.Entries.{is_kept}
use Rattle.exec_journal.specs.Words.{last_line, started}
use Rattle.placed_rules.specs.Needs.{silent_for}

-- the n berths from w on, of which none has said anything
abbrev pub berths_from : ℕ → ℕ → List ℕ
berths_from w zero = []
berths_from w (suc n) = w ∷ berths_from (suc w) n

-- the berth has said something just now
abbrev pub moved : ℕ → List ℕ → List ℕ
moved w ws = filter (λ v. not (v == w)) ws ++ w ∷ []

-- a call by which the line of a berth says something
abbrev pub is_word : Call → Bool
is_word (call.Launched l how) = true
is_word (call.Answer l x) = true
is_word _ = false

abbrev pub noted : List ℕ → ℕ → Call → Reply → List ℕ
noted ws lane c r = if is_word c && is_kept r then moved (lane / 2) ws else ws

-- v stands there, and w not before it
abbrev pub is_before : ℕ → ℕ → List ℕ → Bool
is_before v w [] = false
is_before v w (x ∷ xs) = if x == v then true else (not (x == w) && is_before v w xs)

-- each of so many berths stands there; and of two whose last lines were launched with success, the
-- one that stands first has been silent for longer
pub record IsSpoken (seats : ℕ) (j : List Entry) (ws : List ℕ) : Type 0 where
  pub there : (v w : ℕ) → v < seats → (v == w) ≡ false → is_before v w ws ≡ not (is_before w v ws)
  pub longer : (v w l k : ℕ) → last_line j v ≡ Some l → last_line j w ≡ Some k
      → started j l ≡ true → started j k ≡ true → (v == w) ≡ false → is_before v w ws ≡ true
      → silent_for j k < silent_for j l
