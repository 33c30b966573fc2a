-- How the table follows a journal, entry by entry.
use Rattle.std.proofs.Common.{◌≡◌, ℕ, ◌+◌, ◌==◌, Bool, true, false, ◌&&◌, not, cond, List, [], ◌∷◌, length, filter, reverse, Option, Some, None, option_map, refl, ap, sym, subst, ◌∙◌}
use Rattle.std.specs.Prelude.{map, slice_get, ℤ, pos, negsuc}
use Rattle.std.specs.List.{find}
use Rattle.std.specs.Ordering.{int_eq}
use Rattle.std.proofs.lemmas.Bool.{eqb-true}
use Rattle.run_plan.specs.declared.plan.Plan.{Plan}
use Rattle.exec_journal.specs.declared.attempt.Attempt.{Attempt}
use Rattle.exec_journal.specs.Entry.{Entry}
use Rattle.exec_journal.specs.declared.call.Answer.{Answer}
use Rattle.exec_journal.specs.declared.call.HowEnded.{HowEnded}
use Rattle.exec_journal.specs.declared.call.Written.{Written}
use Rattle.exec_journal.specs.declared.reply.Reply.{Reply}
use Rattle.exec_journal.specs.Entries.{Request, same_attempt, consumed_in, is_unwritten}
use Rattle.exec_journal.specs.Words.{sends, pending, is_pending, wrote, order_of}
use Rattle.exec_journal.specs.Rules.{head}
use Rattle.exec_journal.proofs.Ruled.{by_bool}
use Rattle.list_lemmas.proofs.Updates.{get_update}
use Rattle.request_table.specs.declared.LineRow.{LineRow}
use Rattle.request_table.specs.declared.Matching.TheVariants.{Pending, Cancelled}
use Rattle.request_table.specs.declared.RequestRow.{RequestRow}
use Rattle.request_table.specs.Entries.{EachOf, IsKnownBy, NoneIsPending, is_still, is_calm, finds_none}
use Rattle.request_table.specs.Rows.{Facts, on_line, with_answer, with_reopened, with_unwritten, with_ended, answered_row, reopened_row, unwritten_row, ended_row, is_open, waits_at, open_matching, matching_by, line_matching, matching_of}
use Rattle.request_table.specs.Stands.{told, waiting_in, request_row, natural, Numbered, AreNumbered, Stands}
use Rattle.request_table.proofs.Lists.{update_length, update_twice, filter_map, filter_reverse, each_and, each_filter, filter_same, filter_none, int_eq_pos}
use Rattle.request_table.proofs.Pending.{SameSent, Closes, Missed, pending_after, stays, none_missed, answer_entry, answer_closes, still_closes, ended_entry, ended_closes, ended_hits, ended_misses, wrote_entry, turned, wrote_closes, written_misses, past_misses, fault_hits, fault_misses}
use Rattle.request_table.proofs.Rowed.{facts_of}
use Rattle.request_table.proofs.Told.{without, with_none, is_elsewhere, told_of, told_answered, told_back, told_unwritten, with_row, changed, unchanged}

-- ---- numbers of requests

abbrev pub IsNatural : Request → Type 0
IsNatural r = r.number ≡ pos (natural r.number)

natural_one : (single : Bool) (n : ℕ) (z : ℤ) → z ≡ cond single (pos 0) (pos n) → z ≡ pos (natural z)
natural_one true n z e = rw e refl
natural_one false n z e = rw e refl

natural_all : (single : Bool) (rs : List Request) → Numbered single rs → EachOf IsNatural rs
natural_all single [] all = tt
natural_all single (r ∷ rs) all = (natural_one single (length rs + 1) r.number all.0, natural_all single rs all.1)

pub pending_natural : (j : List Entry) (l : ℕ) → AreNumbered j l → EachOf IsNatural (pending j l)
unfolding pending
pending_natural j l n = each_filter IsNatural (is_pending j) (sends j l) (natural_all n.single (sends j l) n.numbers)

pub number_is : (r : Request) (n : ℕ) → IsNatural r → int_eq r.number (pos n) ≡ (natural r.number == n)
number_is r n e = ap (λ z. int_eq z (pos n)) e ∙ int_eq_pos (natural r.number) n

-- ---- entries after which the same was sent and cancelled

pub numbered_same : (j k : List Entry) (l : ℕ) → sends k l ≡ sends j l → AreNumbered j l → AreNumbered k l
numbered_same j k l e n = record { single = n.single; numbers = subst (Numbered n.single) (sym e) n.numbers }

place_same : (j k : List Entry) → SameSent j k → request_row j ≡ request_row k
place_same j k same = λ i. λ r. record { number = natural r.number; action = r.attempt.action; attempt = r.attempt.number; pending = true; cancelled = sym (same.cancel r) i }

abbrev pub last_in : List Entry → ℕ → Option ℕ
last_in j l = option_map (λ r. natural r.number) (head (sends j l))

-- then what waits hangs on what is pending alone
waiting_by : (j k : List Entry) (l : ℕ) (rs : List Request) → SameSent j k → pending k l ≡ rs
    → told_of (last_in j l) (reverse (map (request_row j) rs)) ≡ waiting_in k l
unfolding waiting_in
waiting_by j k l rs same e =
    λ i. record { last = option_map (λ r. natural r.number) (head (sym (same.sent l) i)); places = reverse (map (place_same j k same i) (sym e i)) }

module _ (j k : List Entry) (hit : Request → Bool) (c : Closes j k hit) where
  waiting_stays : (l : ℕ) → Missed hit j l → waiting_in j l ≡ waiting_in k l
  unfolding waiting_in
  waiting_stays l none = waiting_by j k l (pending j l) c.same (stays j k hit c l none)

  numbered_after : (l : ℕ) → AreNumbered j l → AreNumbered k l
  numbered_after l n = numbered_same j k l (c.same.sent l) n

  missed_all : (p : Plan) (f : Facts) → Stands p f j → ((l : ℕ) → Missed hit j l) → Stands p f k
  missed_all p f st none = unchanged p f j k st (λ d. waiting_stays d (none d)) (λ d. numbered_after d (st.numbered d))

  -- those with this number
  waiting_without : (l n : ℕ) → EachOf IsNatural (pending j l) → EachOf (λ r. hit r ≡ int_eq r.number (pos n)) (pending j l) → without n (waiting_in j l) ≡ waiting_in k l
  unfolding waiting_in
  waiting_without l n natural_too known =
      ap (told_of (last_in j l)) (filter_reverse (is_elsewhere n) (map (request_row j) (pending j l)) ∙ ap reverse (filter_map (is_elsewhere n) (request_row j) (pending j l)))
      ∙ waiting_by j k l _ c.same (pending_after j k hit c l ∙ filter_same (λ r. not (hit r)) (λ r. is_elsewhere n (request_row j r)) (pending j l)
      (each_and IsNatural (λ r. hit r ≡ int_eq r.number (pos n)) (λ r. not (hit r) ≡ not (natural r.number == n)) (λ r e h. ap not (h ∙ number_is r n e)) (pending j l) natural_too known))

  -- all of them
  waiting_none : (l : ℕ) → EachOf (λ r. hit r ≡ true) (pending j l) → with_none (waiting_in j l) ≡ waiting_in k l
  unfolding waiting_in
  waiting_none l all =
      waiting_by j k l [] c.same (pending_after j k hit c l ∙ filter_none (λ r. not (hit r)) (pending j l) (each_and (λ r. hit r ≡ true) (λ r. hit r ≡ true) (λ r. not (hit r) ≡ false) (λ r h _. ap not h) (pending j l) all all))

  -- no request has a negative number
  negative : (l n : ℕ) → EachOf IsNatural (pending j l) → EachOf (λ r. hit r ≡ int_eq r.number (negsuc n)) (pending j l) → Missed hit j l
  negative l n natural_too known = each_and IsNatural (λ r. hit r ≡ int_eq r.number (negsuc n)) (λ r. hit r ≡ false) (λ r e h. h ∙ ap (λ z. int_eq z (negsuc n)) e) (pending j l) natural_too known

  one_closes : (p : Plan) (f : Facts) (l : ℕ) (z : ℤ) (g : ℕ → LineRow → LineRow) → Stands p f j → ((n : ℕ) (x : LineRow) → told (g n x) ≡ without n (told x))
      → EachOf (λ r. hit r ≡ int_eq r.number z) (pending j l) → ((d : ℕ) → (l == d) ≡ false → Missed hit j d) → Stands p (on_line g f l z) k
  one_closes p f l (pos n) g st tells here elsewhere =
      changed p f j k l (g n) (without n) st (tells n) (waiting_without l n (pending_natural j l (st.numbered l)) here) (λ d apart. waiting_stays d (elsewhere d apart)) (λ d. numbered_after d (st.numbered d))
  one_closes p f l (negsuc n) g st tells here elsewhere =
      missed_all p f st
      (λ d. by_bool (l == d) (λ _. Missed hit j d) (λ same. subst (Missed hit j) (eqb-true l d same) (negative l n (pending_natural j l (st.numbered l)) here)) (λ apart. elsewhere d apart))

-- ---- an answer is consumed

module _ (j : List Entry) (lane l : ℕ) (x : Answer) (r : Reply) (s : Attempt) (consumes : consumed_in r ≡ Some s) where
  pub answers : (p : Plan) (f : Facts) → Stands p f j → IsKnownBy j l x.number s → Stands p (with_answer f l x.number) (answer_entry lane l x r ∷ j)
  answers p f st known = one_closes j (answer_entry lane l x r ∷ j) (λ q. same_attempt s q.attempt) (answer_closes j lane l x r s consumes) p f l x.number answered_row st told_answered known.here known.elsewhere

-- ---- entries that leave all as it was

pub others : (p : Plan) (f : Facts) (j : List Entry) (e : Entry) → Stands p f j → is_still e.reply ≡ true → is_calm e.call ≡ true → Stands p f (e ∷ j)
others p f j e st still calm = missed_all j (e ∷ j) (λ _. false) (still_closes j e still calm) p f st (λ l. none_missed j (pending j l))

-- ---- an answer that isn't consumed

-- the row that an answer changes, after which it is opened again
pub taken_back : (p : Plan) (f : Facts) (j : List Entry) (l : ℕ) (z : ℤ) → Stands p f j → Stands p (with_reopened (with_answer f l z) l z) j
taken_back p f j l (negsuc n) st = st
taken_back p f j l (pos n) st =
    subst (λ xs. Stands p (facts_of xs f.singles) j) (sym (update_twice (answered_row n) (reopened_row n) f.lines l))
    (changed p f j j l (λ x. reopened_row n (answered_row n x)) (λ w. w) st (told_back n) refl (λ d _. refl) st.numbered)

-- a row that tells the same after the change
row_untouched : (p : Plan) (f : Facts) (j : List Entry) (l : ℕ) (g : LineRow → LineRow) → Stands p f j → ((x : LineRow) → slice_get f.lines l ≡ Some x → told (g x) ≡ told x) → Stands p (with_row g f l) j
row_untouched p f j l g st same = record {
  room = update_length g f.lines l ∙ st.room;
  kinds = st.kinds;
  each = λ c. ap (option_map told) (get_update g f.lines l c) ∙ at c ∙ st.each c;
  numbered = st.numbered;
}
  where
    row : (o : Option LineRow) → slice_get f.lines l ≡ o → option_map told (option_map g o) ≡ option_map told o
    row None e = refl
    row (Some x) e = ap Some (same x e)

    at : (c : ℕ) → option_map told (cond (l == c) (option_map g (slice_get f.lines c)) (slice_get f.lines c)) ≡ option_map told (slice_get f.lines c)
    at c = by_bool (l == c) (λ b. option_map told (cond b (option_map g (slice_get f.lines c)) (slice_get f.lines c)) ≡ option_map told (slice_get f.lines c))
        (λ here. subst (λ d. option_map told (option_map g (slice_get f.lines d)) ≡ option_map told (slice_get f.lines d)) (eqb-true l c here) (row (slice_get f.lines l) refl)) (λ _. refl)

not_open : (y : RequestRow) → finds_none (open_matching y) ≡ false
not_open y = elim y.cancelled as (λ b. finds_none (cond b (Cancelled y.action y.attempt) (Pending y.action y.attempt)) ≡ false) [ true ↦ refl | false ↦ refl ]

none_found : (last : Option ℕ) (n : ℕ) (o : Option RequestRow) → finds_none (matching_by last n o) ≡ true → o ≡ None
none_found last n None h = refl
none_found last n (Some y) h = absurd (let e : false ≡ true = sym (not_open y) ∙ h in cc)

none_taken : (n : ℕ) (xs : List RequestRow) → find (waits_at n) xs ≡ None → filter (is_elsewhere n) (filter is_open xs) ≡ filter is_open xs
none_taken n [] h = refl
none_taken n (x ∷ xs) h =
    by_bool x.pending (λ b. cond (b && (x.number == n)) (Some x) (find (waits_at n) xs) ≡ None → filter (is_elsewhere n) (cond b (x ∷ filter is_open xs) (filter is_open xs)) ≡ cond b (x ∷ filter is_open xs) (filter is_open xs))
    (λ _. by_bool (x.number == n) (λ b. cond b (Some x) (find (waits_at n) xs) ≡ None → cond (not b) (x ∷ filter (is_elsewhere n) (filter is_open xs)) (filter (is_elsewhere n) (filter is_open xs)) ≡ x ∷ filter is_open xs)
    (λ _ k. absurd (cc)) (λ _ k. ap (λ (ys : List RequestRow). x ∷ ys) (none_taken n xs k)))
    (λ _ k. none_taken n xs k) h

pub nothing_found : (p : Plan) (f : Facts) (j : List Entry) (l : ℕ) (z : ℤ) → Stands p f j → finds_none (matching_of f l z) ≡ true → Stands p (with_answer f l z) j
nothing_found p f j l (negsuc n) st h = st
nothing_found p f j l (pos n) st h =
    row_untouched p f j l (answered_row n) st
    (λ x at. told_answered n x ∙ ap (told_of x.last) (none_taken n x.places.items (none_found x.last n _ (subst (λ (o : Option LineRow). finds_none (line_matching (pos n) o) ≡ true) at h))))

-- ---- Ended

module _ (j : List Entry) (lane l : ℕ) (how : HowEnded) where
  pub ends_kept : (p : Plan) (f : Facts) → Stands p f j → Stands p (with_ended f l) (ended_entry lane l how ∷ j)
  ends_kept p f st =
      changed p f j (ended_entry lane l how ∷ j) l ended_row with_none st (λ x. refl)
      (waiting_none j (ended_entry lane l how ∷ j) (λ q. l == q.line) (ended_closes j lane l how) l (ended_hits j lane l how))
      (λ d apart. waiting_stays j (ended_entry lane l how ∷ j) (λ q. l == q.line) (ended_closes j lane l how) d (ended_misses j lane l how d apart))
      (λ d. numbered_after j (ended_entry lane l how ∷ j) (λ q. l == q.line) (ended_closes j lane l how) d (st.numbered d))

-- ---- Wrote

module _ (j : List Entry) (lane l : ℕ) (n : ℤ) (how : Written) where
  abbrev turns_now : Request → Bool
  turns_now q = turned j lane l n how (order_of j lane) q

  pub done_kept : (p : Plan) (f : Facts) → Stands p f j → is_unwritten how ≡ false → Stands p f (wrote_entry lane l n how ∷ j)
  done_kept p f st h = missed_all j (wrote_entry lane l n how ∷ j) turns_now (wrote_closes j lane l n how) p f st (λ d. written_misses j lane l n how (order_of j lane) h (pending j d))

  pub past_kept : (p : Plan) (f : Facts) → Stands p f j → NoneIsPending j (order_of j lane) → Stands p f (wrote_entry lane l n how ∷ j)
  past_kept p f st h = missed_all j (wrote_entry lane l n how ∷ j) turns_now (wrote_closes j lane l n how) p f st (λ d. past_misses j lane l n how (order_of j lane) d h)

  -- its first Wrote says that the request wasn't written
  pub faults_kept : (p : Plan) (f : Facts) (r : Request) → order_of j lane ≡ Some r → is_unwritten how ≡ true → wrote j r.attempt ≡ None → Stands p f j → IsKnownBy j l n r.attempt
      → Stands p (with_unwritten f l n) (wrote_entry lane l n how ∷ j)
  faults_kept p f r ordered fault first st known =
      one_closes j (wrote_entry lane l n how ∷ j) turns_now (wrote_closes j lane l n how) p f l n unwritten_row st told_unwritten
      (fault_hits j lane l n how r ordered fault first known) (fault_misses j lane l n how r ordered fault first known)
