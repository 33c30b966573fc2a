-- Of the lines of a berth only its last can pass a test that no line passes which is done.
use Rattle.std.proofs.Common.{◌≡◌, ℕ, Bool, true, false, ◌&&◌, ◌||◌, not, cond, List, [], ◌∷◌, length, Option, Some, None, refl, ap, ◌∙◌, arith}
use Rattle.std.specs.List.{filter}
use Rattle.list_lemmas.specs.Options.{or_else, and_more}
use Rattle.run_plan.specs.declared.plan.Plan.{Plan}
use Rattle.exec_journal.specs.Entry.{Entry}
use Rattle.exec_journal.specs.History.{latest, each}
use Rattle.exec_journal.specs.Lawful.{Lawful}
use Rattle.exec_journal.specs.Rules.{head}
use Rattle.exec_journal.specs.Words.{last_line, line_at, lines_of, failed, has_ended, was_killed}
use Rattle.journal_laws.proofs.Vacant.{is_done_line, EachDone, rest, older_done}
use Rattle.placed_rules.specs.Needs.{is_held}
use Rattle.shared_laws.proofs.LineCounts.{count_more}

head_at : (o q : Option ℕ) (ls : List ℕ) → head ls ≡ q → head (and_more o ls) ≡ or_else o q
head_at None q ls h = h
head_at (Some l) q ls h = refl

head_from : (w : ℕ) (j : List Entry)
    → head (each (λ _ e. line_at w e) j) ≡ latest (λ _ e. line_at w e) j
head_from w [] = refl
head_from w (e ∷ j) = head_at (line_at w e) (latest (λ _ d. line_at w d) j)
    (each (λ _ d. line_at w d) j) (head_from w j)

head_last : (j : List Entry) (w : ℕ) → head (lines_of j w) ≡ last_line j w
unfolding lines_of last_line
head_last j w = head_from w j

-- the line is there and passes
abbrev pub passes : (ℕ → Bool) → Option ℕ → Bool
passes test (Some l) = test l
passes test None = false

module _ (p : Plan) (j : List Entry) (good : Lawful p j) (test : ℕ → Bool)
    (fails : (l : ℕ) → is_done_line j l ≡ true → test l ≡ false) where
  none_passes : (ls : List ℕ) → EachDone j ls → length (filter test ls) ≡ 0
  unfolding EachDone
  none_passes [] all = refl
  none_passes (l ∷ ls) all = rw (fails l all.0) (none_passes ls all.1)

  first_passes : (ls : List ℕ) → EachDone j (rest ls)
      → length (filter test ls) ≡ cond (passes test (head ls)) 1 0
  first_passes [] all = refl
  first_passes (l ∷ ls) all =
      let none = none_passes ls all in let more = count_more test l ls in omega (arith, none, more)

  pub count_at : (w : ℕ)
      → length (filter test (lines_of j w)) ≡ cond (passes test (last_line j w)) 1 0
  count_at w = first_passes (lines_of j w) (older_done p j w good)
      ∙ ap (λ o. cond (passes test o) 1 0) (head_last j w)

-- a line that is done isn't held
pub done_not_held : (j : List Entry) (l : ℕ) → is_done_line j l ≡ true → is_held j l ≡ false
done_not_held j l h = by (failed j l) (has_ended j l && was_killed j l) h
  where
    by : (a b : Bool) → (a || b) ≡ true → (not a && not b) ≡ false
    by true b h = refl
    by false true h = refl
    by false false h = absurd (cc)
