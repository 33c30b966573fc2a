-- What an answer finds is what the journal says of its number.
use Rattle.std.proofs.Common.{◌≡◌, ℕ, ◌+◌, ◌<◌, ◌≤◌, ◌==◌, nat_lt, suc, Bool, true, false, ◌&&◌, not, cond, List, [], ◌∷◌, length, filter, reverse, Option, Some, None, is_some, option_map, refl, ap, sym, ◌∙◌, arith}
use Rattle.std.specs.Prelude.{map, ℤ, pos, negsuc}
use Rattle.std.specs.List.{find}
use Rattle.std.specs.Ordering.{int_eq}
use Rattle.std.proofs.lemmas.Bool.{eqb-true, eqb-false, ne_eqb, lt-ltb, le-ltb, ltb-true, ltb-false}
use Rattle.run_plan.specs.declared.plan.Plan.{Plan}
use Rattle.exec_journal.specs.Entry.{Entry}
use Rattle.list_lemmas.specs.Options.{or_else}
use Rattle.exec_journal.specs.Entries.{Request}
use Rattle.exec_journal.specs.Rules.{head}
use Rattle.exec_journal.specs.Words.{sends, pending, is_pending}
use Rattle.exec_journal.proofs.Ruled.{by_bool}
use Rattle.request_table.specs.declared.Matching.{Matching}
use Rattle.request_table.specs.declared.Matching.TheVariants.{Closed, Never}
use Rattle.request_table.specs.declared.RequestRow.{RequestRow}
use Rattle.request_table.specs.Entries.{EachOf}
use Rattle.request_table.specs.Rows.{Facts, line_room, is_open, waits_at, was_sent_by, matching_by, line_matching, matching_of}
use Rattle.request_table.specs.Stands.{Waiting, waiting_in, request_row, natural, Numbered, Stands, open_request, of_sent, of_pending}
use Rattle.request_table.proofs.Lists.{find_append, reverse_front, int_eq_pos, each_filter}
use Rattle.request_table.proofs.Kept.{last_in}
use Rattle.request_table.proofs.Sent.{row_told}

abbrev at_number : ℕ → RequestRow → Bool
at_number n x = x.number == n

find_filter : (n : ℕ) (xs : List RequestRow) → find (waits_at n) xs ≡ find (at_number n) (filter is_open xs)
find_filter n [] = refl
find_filter n (x ∷ xs) = elim x.pending as (λ b. cond (b && (x.number == n)) (Some x) (find (waits_at n) xs) ≡ find (at_number n) (cond b (x ∷ filter is_open xs) (filter is_open xs))) [
  | true ↦ ap (λ (o : Option RequestRow). cond (x.number == n) (Some x) o) (find_filter n xs)
  | false ↦ find_filter n xs
]

-- what a table's line finds, by its last number and its open places
abbrev found_by : Option ℕ → ℕ → List RequestRow → Matching
found_by last n xs = matching_by last n (find (at_number n) xs)

module _ (p : Plan) (f : Facts) (j : List Entry) (l : ℕ) (st : Stands p f j) (within : l < line_room p) where
  pub matching_is : (n : ℕ) → matching_of f l (pos n) ≡ found_by (last_in j l) n (reverse (map (request_row j) (pending j l)))
  unfolding waiting_in
  matching_is n =
      let row = row_told p f j l st within in
      ap (line_matching (pos n)) row.1
      ∙ ap (matching_by row.0.last n) (find_filter n row.0.places.items)
      ∙ ap (λ (w : Waiting). found_by w.last n w.places) row.2

-- ---- a line whose numbers count up

abbrev IsZero : Request → Type 0
IsZero r = r.number ≡ pos 0

is_number : (r : Request) (k n : ℕ) → r.number ≡ pos k → int_eq r.number (pos n) ≡ (k == n)
is_number r k n e = ap (λ z. int_eq z (pos n)) e ∙ int_eq_pos k n

module _ (j : List Entry) (n : ℕ) where
  abbrev wanted_number : Request → Bool
  wanted_number r = int_eq r.number (pos n)

  abbrev open_places : List Request → List RequestRow
  open_places rs = reverse (map (request_row j) (filter (is_pending j) rs))

  or_none : (o : Option RequestRow) → o ≡ or_else o None
  or_none None = refl
  or_none (Some x) = refl

  -- one newer request stands behind the others
  find_newer : (r : Request) (rs : List Request) → find (at_number n) (open_places (r ∷ rs)) ≡ or_else (find (at_number n) (open_places rs)) (cond (is_pending j r) (cond (natural r.number == n) (Some (request_row j r)) None) None)
  find_newer r rs = elim (is_pending j r) as
      (λ b. find (at_number n) (reverse (map (request_row j) (cond b (r ∷ filter (is_pending j) rs) (filter (is_pending j) rs)))) ≡ or_else (find (at_number n) (open_places rs)) (cond b (cond (natural r.number == n) (Some (request_row j r)) None) None)) [
        | true ↦ ap (find (at_number n)) (reverse_front (request_row j r) (map (request_row j) (filter (is_pending j) rs))) ∙ find_append (at_number n) (open_places rs) (request_row j r ∷ [])
        | false ↦ or_none (find (at_number n) (open_places rs))
      ]

  other_number : (b : Bool) → ◌≡◌ {A = Option RequestRow} (cond b None None) None
  other_number b = elim b as (λ c. ◌≡◌ {A = Option RequestRow} (cond c None None) None) [ true ↦ refl | false ↦ refl ]

  -- with another number it is not found
  find_older : (r : Request) (rs : List Request) → (natural r.number == n) ≡ false → find (at_number n) (open_places (r ∷ rs)) ≡ find (at_number n) (open_places rs)
  find_older r rs apart =
      find_newer r rs ∙ ap (λ c. or_else (find (at_number n) (open_places rs)) (cond (is_pending j r) (cond c (Some (request_row j r)) None) None)) apart
      ∙ ap (or_else (find (at_number n) (open_places rs))) (other_number (is_pending j r)) ∙ sym (or_none (find (at_number n) (open_places rs)))

  -- all numbers are below
  none_above : (rs : List Request) → Numbered false rs → length rs < n → find (at_number n) (open_places rs) ≡ None
  none_above [] all lt = refl
  none_above (r ∷ rs) all lt =
      let apart : (length rs + 1 == n) ≡ false = ne_eqb (length rs + 1) n (λ e. let up = lt in omega arith) in
      let below : length rs < n = omega arith in
      find_older r rs (ap (λ z. natural z == n) all.0 ∙ apart) ∙ none_above rs all.1 below

  abbrev open_at : Option Request → Option RequestRow
  open_at (Some r) = cond (is_pending j r) (Some (request_row j r)) None
  open_at None = None

  found_counting : (rs : List Request) → Numbered false rs → find (at_number n) (open_places rs) ≡ open_at (find wanted_number rs)
  found_counting [] all = refl
  found_counting (r ∷ rs) all =
      by_bool (length rs + 1 == n) (λ b. find (at_number n) (open_places (r ∷ rs)) ≡ open_at (cond b (Some r) (find wanted_number rs)))
      (λ same. let below : length rs < n = (let e = eqb-true (length rs + 1) n same in omega arith) in
      find_newer r rs ∙ ap (λ c. or_else (find (at_number n) (open_places rs)) (cond (is_pending j r) (cond c (Some (request_row j r)) None) None)) (ap (λ z. natural z == n) all.0 ∙ same)
      ∙ ap (λ o. or_else o (cond (is_pending j r) (Some (request_row j r)) None)) (none_above rs all.1 below))
      (λ apart. find_older r rs (ap (λ z. natural z == n) all.0 ∙ apart) ∙ found_counting rs all.1)
      ∙ ap (λ b. open_at (cond b (Some r) (find wanted_number rs))) (sym (is_number r (length rs + 1) n all.0))

  -- sent are the numbers from 1 to the last
  is_counted : (k : ℕ) → (k + 1 == n) ≡ false → (nat_lt 0 n && not (nat_lt k n)) ≡ (nat_lt 0 n && not (nat_lt (k + 1) n))
  is_counted k apart = by_bool (nat_lt k n) (λ b. (nat_lt 0 n && not b) ≡ (nat_lt 0 n && not (nat_lt (k + 1) n)))
      (λ above. let more : k + 1 < n = (let lt = ltb-true k n above in let ne = eqb-false (k + 1) n apart in omega arith) in ap (λ b. nat_lt 0 n && not b) (sym (lt-ltb (k + 1) n more)))
      (λ within. let le : n ≤ k + 1 = (let up = ltb-false k n within in omega arith) in ap (λ b. nat_lt 0 n && not b) (sym (le-ltb (k + 1) n le)))

  sent_counting : (rs : List Request) → Numbered false rs → (nat_lt 0 n && not (nat_lt (length rs) n)) ≡ is_some (find wanted_number rs)
  sent_counting [] all = none_counted (nat_lt 0 n)
    where
      none_counted : (b : Bool) → (b && not b) ≡ false
      none_counted true = refl
      none_counted false = refl
  sent_counting (r ∷ rs) all =
      (let e : suc (length rs) ≡ length rs + 1 = omega arith in ap (λ k. nat_lt 0 n && not (nat_lt k n)) e)
      ∙ by_bool (length rs + 1 == n) (λ b. (nat_lt 0 n && not (nat_lt (length rs + 1) n)) ≡ is_some (cond b (Some r) (find wanted_number rs)))
      (λ same. let e = eqb-true (length rs + 1) n same in let up : 0 < n = omega arith in let le : n ≤ length rs + 1 = omega arith in
      (λ i. lt-ltb 0 n up i && not (le-ltb (length rs + 1) n le i)))
      (λ apart. sym (is_counted (length rs) apart) ∙ sent_counting rs all.1)
      ∙ ap (λ b. is_some (cond b (Some r) (find wanted_number rs))) (sym (is_number r (length rs + 1) n all.0))

  last_counting : (rs : List Request) → Numbered false rs → was_sent_by (option_map (λ r. natural r.number) (head rs)) n ≡ is_some (find wanted_number rs)
  last_counting [] all = refl
  last_counting (r ∷ rs) all =
      let last : natural r.number ≡ suc (length rs) = ap natural all.0 ∙ (let e : length rs + 1 ≡ suc (length rs) = omega arith in e) in
      ap (λ k. was_sent_by (Some k) n) last ∙ (let e : suc (length rs) ≡ length (r ∷ rs) = omega arith in ap (λ k. nat_lt 0 n && not (nat_lt k n)) e) ∙ sent_counting (r ∷ rs) all

  told_counting : (last : Option ℕ) (o : Option Request) → was_sent_by last n ≡ is_some o → matching_by last n (open_at o) ≡ of_sent j o
  told_counting last None h = ap (λ b. cond b Closed Never) h
  told_counting last (Some r) h = elim (is_pending j r) as (λ b. matching_by last n (cond b (Some (request_row j r)) None) ≡ cond b (open_request j r) Closed) [
    | true ↦ refl
    | false ↦ ap (λ b. cond b Closed Never) h
  ]

pub multi_answer : (p : Plan) (f : Facts) (j : List Entry) (l : ℕ) (z : ℤ) → Stands p f j → l < line_room p → Numbered false (sends j l) → matching_of f l z ≡ of_sent j (find (λ r. int_eq r.number z) (sends j l))
unfolding pending
multi_answer p f j l (pos n) st within all =
    matching_is p f j l st within n ∙ ap (matching_by (last_in j l) n) (found_counting j n (sends j l) all)
    ∙ told_counting j n (last_in j l) (find (λ r. int_eq r.number (pos n)) (sends j l)) (last_counting j n (sends j l) all)
multi_answer p f j l (negsuc n) st within all = sym (ap (of_sent j) (none_negative (sends j l) all))
  where
    none_negative : (rs : List Request) → Numbered false rs → find (λ r. int_eq r.number (negsuc n)) rs ≡ None
    none_negative [] h = refl
    none_negative (r ∷ rs) h = ap (λ z. cond (int_eq z (negsuc n)) (Some r) (find (λ q. int_eq q.number (negsuc n)) rs)) h.0 ∙ none_negative rs h.1

-- ---- a Single line

single_found : (j : List Entry) (l : ℕ) (last : Option ℕ) (rs : List Request) → EachOf IsZero rs → length rs ≤ 1 → last ≡ option_map (λ _. 0) (head (sends j l))
    → matching_by last 0 (find (at_number 0) (reverse (map (request_row j) rs))) ≡ of_pending j l (head rs)
single_found j l last [] all one h = ap (λ (o : Option ℕ). cond (was_sent_by o 0) Closed Never) h ∙ any_zero (head (sends j l))
  where
    any_zero : (o : Option Request) → cond (was_sent_by (option_map (λ _. 0) o) 0) Closed Never ≡ cond (is_some o) Closed Never
    any_zero None = refl
    any_zero (Some r) = refl
single_found j l last (r ∷ []) all one h = ap (λ z. matching_by last 0 (cond (natural z == 0) (Some (request_row j r)) None)) all.0
single_found j l last (r ∷ q ∷ rs) all one h = absurd (omega arith)

zero_last : (o : List Request) → Numbered true o → option_map (λ r. natural r.number) (head o) ≡ option_map (λ _. 0) (head o)
zero_last [] all = refl
zero_last (r ∷ rs) all = ap (λ z. Some (natural z)) all.0

zero_all : (rs : List Request) → Numbered true rs → EachOf IsZero rs
zero_all [] all = tt
zero_all (r ∷ rs) all = (all.0, zero_all rs all.1)

pub single_answer : (p : Plan) (f : Facts) (j : List Entry) (l : ℕ) → Stands p f j → l < line_room p → Numbered true (sends j l) → length (pending j l) ≤ 1 → matching_of f l (pos 0) ≡ of_pending j l (head (pending j l))
unfolding pending
single_answer p f j l st within all one =
    matching_is p f j l st within 0
    ∙ single_found j l (last_in j l) (pending j l) (each_filter IsZero (is_pending j) (sends j l) (zero_all (sends j l) all)) one (zero_last (sends j l) all)
