-- What the shelf, the lines and the tap lanes are after a history, as words of its journal.
use Rattle.std.proofs.Common.{◌≡◌, ℕ, ◌+◌, Bool, true, false, cond, ◌||◌, List, [], ◌∷◌, length, Option, Some, None, is_some, refl, sym, ◌∙◌, arith}
use Rattle.std.specs.List.{filter, fold, list_any}
use Rattle.exec_journal.specs.declared.attempt.Attempt.{Attempt}
use Rattle.exec_journal.specs.Entry.{Entry}
use Rattle.exec_journal.specs.Entries.{launch_in, takes}
use Rattle.exec_journal.specs.History.{each, ever}
use Rattle.exec_journal.specs.Words.{line_count, was_taken}
use Rattle.list_lemmas.specs.Options.{and_more}
use Rattle.core_contract.specs.Laws.{lines_in, is_taken}
use Rattle.core_contract.specs.Moves.{History}
use Rattle.core_contract.specs.Shelf.{child_at, child_then, tap_at, tap_then}
use Rattle.core_contract.specs.Ruled.{journal_of}
use Rattle.discipline_laws.proofs.Along.{along}
use Rattle.discipline_laws.proofs.Lying.{child_entry, tap_entry, child_in, tap_in}

pub child_is : (w : ℕ) (h : History) → child_at w h ≡ child_in w (journal_of h)
child_is w h = along (child_entry w) None (child_then w) (λ o e. refl) h []

pub tap_is : (w : ℕ) (h : History) → tap_at w h ≡ tap_in w (journal_of h)
tap_is w h = along (tap_entry w) None (tap_then w) (λ o e. refl) h []

-- ---- how many lines there were

count_along : (h : History) (j : List Entry)
    → length (filter (λ e. is_some (launch_in e.reply)) h)
    + length (each (λ _ e. launch_in e.reply) j)
    ≡ length (each (λ _ e. launch_in e.reply) (fold (λ j e. e ∷ j) j h))
count_along [] j = omega arith
count_along (e ∷ h) j = by (launch_in e.reply) (count_along h (e ∷ j))
  where
    whole : ℕ
    whole = length (each (λ _ e. launch_in e.reply)
        (fold (λ j e. e ∷ j) (e ∷ j) h))

    rest : ℕ
    rest = length (filter (λ e. is_some (launch_in e.reply)) h)

    before : List (ℕ × Attempt)
    before = each (λ _ e. launch_in e.reply) j

    by : (o : Option (ℕ × Attempt)) → rest + length (and_more o before) ≡ whole
        → length (cond (is_some o) (e ∷ filter (λ e. is_some (launch_in e.reply)) h)
        (filter (λ e. is_some (launch_in e.reply)) h)) + length before ≡ whole
    by None so = so
    by (Some x) so = omega (arith, so)

pub lines_are : (h : History) → lines_in h ≡ line_count (journal_of h)
unfolding line_count
lines_are h = let n = count_along h [] in omega (arith, n)

-- ---- which lines were given

taken_along : (l : ℕ) (h : History) (j : List Entry)
    → (list_any (λ e. takes l e.reply) h || ever (λ _ e. takes l e.reply) j)
    ≡ ever (λ _ e. takes l e.reply) (fold (λ j e. e ∷ j) j h)
taken_along l [] j = refl
taken_along l (e ∷ h) j =
    shuffle (takes l e.reply) (list_any (λ e. takes l e.reply) h) (ever (λ _ e. takes l e.reply) j)
    ∙ taken_along l h (e ∷ j)
  where
    shuffle : (a b c : Bool) → ((a || b) || c) ≡ (b || (a || c))
    shuffle true true c = refl
    shuffle true false c = refl
    shuffle false true c = refl
    shuffle false false c = refl

none_after : (b : Bool) → (b || false) ≡ b
none_after true = refl
none_after false = refl

pub taken_is : (l : ℕ) (h : History) → is_taken l h ≡ was_taken (journal_of h) l
unfolding was_taken
taken_is l h = sym (none_after (list_any (λ e. takes l e.reply) h)) ∙ taken_along l h []
