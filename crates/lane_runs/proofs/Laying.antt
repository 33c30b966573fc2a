-- The history and its journal, and slots in each of which something lies.
use Rattle.std.proofs.Common.{◌≡◌, ℕ, Bool, true, false, List, [], ◌∷◌, ◌++◌, length, map, filter, take, get_or, replicate, ◌+◌, ◌<◌, count_by, is_some, Option, Some, None, refl, sym, ap, subst, ◌∙◌}
use Rattle.std.specs.List.{list_any}
use Rattle.std.proofs.lemmas.List.Sums.{length-filter, count_by_more_yes, count_by_more_no}
use Rattle.exec_journal.specs.Entry.{Entry}
use Rattle.exec_journal.specs.Entries.{is_halt, launch_in}
use Rattle.core_contract.specs.Moves.{History}
use Rattle.core_contract.specs.Laws.{lines_in}
use Rattle.lane_laws.specs.Numbers.{Distinct}
use Rattle.lane_runs.specs.declared.halves.EndedLine.{EndedLine}
use Rattle.lane_runs.specs.BerthHalves.{BerthLines, all_halves}
use Rattle.lane_runs.specs.Layout.{AllThere, AreFit, has_halt, orders_line, tells_halt}
use Rattle.lane_runs.specs.Placed.{IsPlaced, placed_all}
use Rattle.lane_runs.proofs.Matching.{all_halves_lines, all_lines, halves_at}
use Rattle.lane_runs.proofs.Placing.{placed}

pub lines_counted : (h : History) (j : List Entry) (n : ℕ) → j ≡ h
    → n ≡ count_by orders_line j → n ≡ lines_in h
lines_counted h j n e f =
    f ∙ (sym (length-filter (λ (x : Entry). is_some (launch_in x.reply)) j)
    ∙ ap (λ (l : List Entry). length (filter (λ (x : Entry). is_some (launch_in x.reply)) l)) e)

pub halts_told : (h : History) (j : List Entry) (b : Bool) → j ≡ h
    → b ≡ list_any tells_halt j → b ≡ has_halt h
halts_told h j b e f = f ∙ ap (λ (l : List Entry). list_any (λ (x : Entry). is_halt x.call) l) e

-- ---- lines

module _ {D T K : Type 0} where
  -- lines of which nothing was known, once the halves of all berths were put at their numbers
  pub lines_placed : (n : ℕ) (lefts : List (BerthLines D T K)) (before lines : List (EndedLine D T K))
      → AreFit n lefts → halves_at before ≡ replicate n None
      → halves_at lines ≡ placed_all (halves_at before) (all_halves lefts)
      → IsPlaced n (all_halves lefts) (halves_at lines)
  lines_placed n lefts before lines fit none put =
      let matched = fit.inside.matched in
      rw (put, none)
      (placed n (all_halves lefts) (subst Distinct (sym (all_halves_lines lefts matched)) fit.distinct)
      (all_lines (λ l. l < n) lefts matched fit.inside.below))

-- ---- slots

module _ {P : Type 0} where
  pub none_is_there : (slots rest : List (Option P)) (o : Option P) → slots ≡ o ∷ rest
      → o ≡ None → AllThere slots → ⊥
  none_is_there slots rest o e f all =
      subst (λ (x : Option P). AllThere (x ∷ rest)) f
      (subst (λ (l : List (Option P)). AllThere l) e all)

  there_behind : (o : Option P) (rest : List (Option P)) → AllThere (o ∷ rest) → AllThere rest
  there_behind (Some p) rest all = all
  there_behind None rest all = absurd all

  pub rest_is_there : (slots rest : List (Option P)) (o : Option P) → slots ≡ o ∷ rest
      → AllThere slots → AllThere rest
  rest_is_there slots rest o e all =
      there_behind o rest (subst (λ (l : List (Option P)). AllThere l) e all)

  split : (xs : List P) (x : P) (ys : List (Option P))
      → map Some (xs ++ x ∷ []) ++ ys ≡ map Some xs ++ Some x ∷ ys
  split [] x ys = refl
  split (z ∷ xs) x ys = ap (λ (l : List (Option P)). Some z ∷ l) (split xs x ys)

  pub one_there : (all slots rest : List (Option P)) (places places' : List P) (o : Option P) (p : P)
      → map Some places ++ slots ≡ all → slots ≡ o ∷ rest → o ≡ Some p → places' ≡ places ++ p ∷ []
      → map Some places' ++ rest ≡ all
  one_there all slots rest places places' o p so e f g =
      ap (λ (l : List P). map Some l ++ rest) g
      ∙ (split places p rest
      ∙ (ap (λ (l : List (Option P)). map Some places ++ l)
      (sym (e ∙ ap (λ (x : Option P). x ∷ rest) f)) ∙ so))

-- ---- entries counted one by one

pub count_more : (xs : List Entry) (i : ℕ) (d : Entry) (n : ℕ) → i < length xs
    → n ≡ count_by orders_line (take i xs) → orders_line (get_or xs i d) ≡ true
    → n + 1 ≡ count_by orders_line (take (i + 1) xs)
count_more xs i d n lt e so =
    ap (λ (k : ℕ). k + 1) e ∙ sym (count_by_more_yes orders_line xs i d lt so)

pub count_same : (xs : List Entry) (i : ℕ) (d : Entry) (n : ℕ) → i < length xs
    → n ≡ count_by orders_line (take i xs) → orders_line (get_or xs i d) ≡ false
    → n ≡ count_by orders_line (take (i + 1) xs)
count_same xs i d n lt e so = e ∙ sym (count_by_more_no orders_line xs i d lt so)
