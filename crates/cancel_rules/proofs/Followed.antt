-- How the table follows a journal, entry by entry.
use Rattle.std.proofs.Common.{◌≡◌, ℕ, ◌<◌, ◌==◌, nat_lt, Bool, true, false, ◌&&◌, ◌||◌, not, cond, List, [], ◌∷◌, ◌++◌, length, filter, reverse, Option, Some, None, is_some, option_map, unwrap_or, refl, ap, sym, subst, ◌∙◌}
use Rattle.std.specs.Prelude.{map, slice_get, replicate, ℤ}
use Rattle.std.specs.List.{find}
use Rattle.std.specs.Ordering.{int_eq}
use Rattle.std.specs.Bool.{one_answer}
use Rattle.std.proofs.lemmas.Bool.Decides.{Decides-int_eq}
use Rattle.std.proofs.lemmas.List.{length-map, length-reverse}
use Rattle.std.proofs.lemmas.Bool.{eqb-true, eq-eqb, lt-ltb}
use Rattle.arrayvec.specs.ArrayVec.{ArrayVec}
use Rattle.run_plan.specs.declared.plan.Branch.{Branch}
use Rattle.run_plan.specs.declared.plan.Plan.{Plan}
use Rattle.exec_journal.specs.declared.attempt.Attempt.{Attempt}
use Rattle.exec_journal.specs.Entry.{Entry}
use Rattle.exec_journal.specs.declared.call.Answer.{Answer}
use Rattle.exec_journal.specs.declared.call.Call.TheVariants as call
use Rattle.exec_journal.specs.declared.call.Found.{Found}
use Rattle.exec_journal.specs.declared.call.HowEnded.{HowEnded}
use Rattle.exec_journal.specs.declared.call.Written.{Written}
use Rattle.exec_journal.specs.declared.reply.Reply.{Reply}
use Rattle.exec_journal.specs.declared.reply.Reply.TheVariants as reply
use Rattle.list_lemmas.specs.Options.{unless_before, or_else}
use Rattle.exec_journal.specs.Entries.{Request, attempt_of, same_attempt, granted_in, consumed_in, is_unwritten}
use Rattle.exec_journal.specs.Rules.{oldest, is_unwanted}
use Rattle.exec_journal.specs.Words.{sends, pending, has_cancel, grant_of, granted, order_of, wrote, was_sent}
use Rattle.exec_journal.proofs.Lines.{pending_line}
use Rattle.exec_journal.proofs.Ruled.{by_bool}
use Rattle.list_lemmas.proofs.Updates.{get_update, get_replicate}
use Rattle.request_table.specs.Entries.{EachOf, IsNewRequest, IsKnownBy, NoneIsPending, is_still, is_calm}
use Rattle.request_table.specs.Rows.{line_room}
use Rattle.request_table.proofs.Lists.{find_append, filter_map, filter_reverse, map_reverse, map_map, reverse_front, each_and, filter_same, filter_none, map_same}
use Rattle.request_table.proofs.Pending.{SameSent, Closes, Missed, pending_after, stays, none_missed, answer_entry, answer_closes, still_closes, ended_entry, ended_closes, ended_hits, ended_misses, wrote_entry, turned, wrote_closes, written_misses, past_misses, fault_hits, fault_misses, send_entry, sent_request, not_cancelled_yet, pending_here, pending_other, cancel_entry, of_lines, sent_too, pending_too, cancel_at}
use Rattle.cancel_rules.specs.declared.RequestRow.{RequestRow}
use Rattle.cancel_rules.specs.Entries.{WantedByGrant}
use Rattle.cancel_rules.specs.Marks.{Facts, row, rows_on, rows_of, on_line, sent_row, with_sent, is_other, with_gone, with_ended, with_ask, with_asked, with_unwanted, is_marked, is_due, cancel_of}
use Rattle.cancel_rules.specs.Stands.{request_row, row_in, Stands}

pub new_stands : (p : Plan) (n : ℕ) (xs : List (ArrayVec RequestRow)) (ys : List Bool) → n ≡ line_room p → xs ≡ replicate n (row []) → ys ≡ replicate (length p.actions) false → Stands p (record { lines = xs; unwanted = ys }) []
unfolding row_in pending sends granted grant_of
new_stands p n xs ys room lines marks = record {
  lines = λ l. ap (λ zs. slice_get zs l) (lines ∙ ap (λ m. replicate m (row [])) room) ∙ get_replicate (row []) (line_room p) l;
  grants = λ a. ap (λ zs. slice_get zs a) marks ∙ get_replicate false (length p.actions) a;
}

-- ---- one row changes, and none

within_room : (in_plan : Bool) (g : ArrayVec RequestRow → ArrayVec RequestRow) (x : ArrayVec RequestRow) → option_map g (cond in_plan (Some x) None) ≡ cond in_plan (Some (g x)) None
within_room true g x = refl
within_room false g x = refl

changed : (p : Plan) (f : Facts) (j k : List Entry) (l : ℕ) (g : List RequestRow → List RequestRow) → Stands p f j → row (g (row_in j l).items) ≡ row_in k l → ((c : ℕ) → (l == c) ≡ false → row_in j c ≡ row_in k c)
    → ((a : ℕ) → granted k a ≡ granted j a) → Stands p (on_line g f l) k
changed p f j k l g st here other grants = record {
  lines = λ c. get_update (λ x. row (g x.items)) f.lines l c ∙ ap (λ (o : Option (ArrayVec RequestRow)). cond (l == c) (option_map (λ x. row (g x.items)) o) o) (st.lines c) ∙ at c;
  grants = λ a. st.grants a ∙ ap (λ b. cond (nat_lt a (length p.actions)) (Some b) None) (sym (grants a));
}
  where
    at : (c : ℕ) → cond (l == c) (option_map (λ x. row (g x.items)) (cond (nat_lt c (line_room p)) (Some (row_in j c)) None)) (cond (nat_lt c (line_room p)) (Some (row_in j c)) None) ≡ cond (nat_lt c (line_room p)) (Some (row_in k c)) None
    at c =
        by_bool (l == c) (λ x. cond x (option_map (λ y. row (g y.items)) (cond (nat_lt c (line_room p)) (Some (row_in j c)) None)) (cond (nat_lt c (line_room p)) (Some (row_in j c)) None) ≡ cond (nat_lt c (line_room p)) (Some (row_in k c)) None)
        (λ same. within_room (nat_lt c (line_room p)) (λ y. row (g y.items)) (row_in j c) ∙ ap (λ r. cond (nat_lt c (line_room p)) (Some r) None) (subst (λ d. row (g (row_in j d).items) ≡ row_in k d) (eqb-true l c same) here))
        (λ apart. ap (λ r. cond (nat_lt c (line_room p)) (Some r) None) (other c apart))

unchanged : (p : Plan) (f : Facts) (j k : List Entry) → Stands p f j → ((c : ℕ) → row_in j c ≡ row_in k c) → ((a : ℕ) → granted k a ≡ granted j a) → Stands p f k
unchanged p f j k st same grants = record {
  lines = λ c. st.lines c ∙ ap (λ r. cond (nat_lt c (line_room p)) (Some r) None) (same c);
  grants = λ a. st.grants a ∙ ap (λ b. cond (nat_lt a (length p.actions)) (Some b) None) (sym (grants a));
}

-- ---- entries that grant nothing

grants_same : (j : List Entry) (e : Entry) → granted_in e.call e.reply ≡ None → (a : ℕ) → granted (e ∷ j) a ≡ granted j a
unfolding granted grant_of
grants_same j e h a = rw h refl

-- ---- some requests aren't pending any longer

place_same : (j k : List Entry) → SameSent j k → request_row j ≡ request_row k
place_same j k same = λ i. λ r. record { number = r.number; action = r.attempt.action; asked = sym (same.cancel r) i }

row_by : (j k : List Entry) (l : ℕ) (rs : List Request) → SameSent j k → pending k l ≡ rs → row (reverse (map (request_row j) rs)) ≡ row_in k l
unfolding row_in
row_by j k l rs same e = λ i. row (reverse (map (place_same j k same i) (sym e i)))

module _ (j k : List Entry) (hit : Request → Bool) (c : Closes j k hit) (quiet : (a : ℕ) → granted k a ≡ granted j a) where
  row_stays : (l : ℕ) → Missed hit j l → row_in j l ≡ row_in k l
  unfolding row_in
  row_stays l none = row_by j k l (pending j l) c.same (stays j k hit c l none)

  missed_all : (p : Plan) (f : Facts) → Stands p f j → ((l : ℕ) → Missed hit j l) → Stands p f k
  missed_all p f st none = unchanged p f j k st (λ d. row_stays d (none d)) quiet

  row_without : (l : ℕ) (z : ℤ) → EachOf (λ r. hit r ≡ int_eq r.number z) (pending j l) → row (filter (is_other z) (row_in j l).items) ≡ row_in k l
  unfolding row_in
  row_without l z known =
      ap row (filter_reverse (is_other z) (map (request_row j) (pending j l)) ∙ ap reverse (filter_map (is_other z) (request_row j) (pending j l)))
      ∙ row_by j k l _ c.same (pending_after j k hit c l ∙ filter_same (λ r. not (hit r)) (λ r. is_other z (request_row j r)) (pending j l)
      (each_and (λ r. hit r ≡ int_eq r.number z) (λ r. hit r ≡ int_eq r.number z) (λ r. not (hit r) ≡ not (int_eq r.number z)) (λ r h _. ap not h) (pending j l) known known))

  row_none : (l : ℕ) → EachOf (λ r. hit r ≡ true) (pending j l) → row [] ≡ row_in k l
  row_none l all =
      row_by j k l [] c.same (pending_after j k hit c l ∙ filter_none (λ r. not (hit r)) (pending j l) (each_and (λ r. hit r ≡ true) (λ r. hit r ≡ true) (λ r. not (hit r) ≡ false) (λ r h _. ap not h) (pending j l) all all))

  one_closes : (p : Plan) (f : Facts) (l : ℕ) (z : ℤ) → Stands p f j → EachOf (λ r. hit r ≡ int_eq r.number z) (pending j l) → ((d : ℕ) → (l == d) ≡ false → Missed hit j d) → Stands p (with_gone f l z) k
  one_closes p f l z st here elsewhere = changed p f j k l (filter (is_other z)) st (row_without l z here) (λ d apart. row_stays d (elsewhere d apart)) quiet

-- ---- Answer, Wrote, Ended, and others

pub answers : (p : Plan) (f : Facts) (j : List Entry) (lane l : ℕ) (x : Answer) (r : Reply) (s : Attempt) → Stands p f j → consumed_in r ≡ Some s → IsKnownBy j l x.number s
    → Stands p (with_gone f l x.number) (answer_entry lane l x r ∷ j)
answers p f j lane l x r s st consumes known =
    one_closes j (answer_entry lane l x r ∷ j) (λ q. same_attempt s q.attempt) (answer_closes j lane l x r s consumes) (grants_same j (answer_entry lane l x r) refl) p f l x.number st known.here known.elsewhere

pub others : (p : Plan) (f : Facts) (j : List Entry) (e : Entry) → Stands p f j → is_still e.reply ≡ true → is_calm e.call ≡ true → granted_in e.call e.reply ≡ None → Stands p f (e ∷ j)
others p f j e st still calm ungranted =
    missed_all j (e ∷ j) (λ _. false) (still_closes j e still calm) (grants_same j e ungranted) p f st (λ l. none_missed j (pending j l))

pub ends_kept : (p : Plan) (f : Facts) (j : List Entry) (lane l : ℕ) (how : HowEnded) → Stands p f j → Stands p (with_ended f l) (ended_entry lane l how ∷ j)
ends_kept p f j lane l how st =
    let closes = ended_closes j lane l how in
    let quiet = grants_same j (ended_entry lane l how) refl in
    changed p f j (ended_entry lane l how ∷ j) l (λ _. []) st (row_none j (ended_entry lane l how ∷ j) (λ q. l == q.line) closes quiet l (ended_hits j lane l how))
    (λ d apart. row_stays j (ended_entry lane l how ∷ j) (λ q. l == q.line) closes quiet d (ended_misses j lane l how d apart)) quiet

module _ (p : Plan) (f : Facts) (j : List Entry) (lane l : ℕ) (n : ℤ) (how : Written) (st : Stands p f j) where
  abbrev turns_now : Request → Bool
  turns_now q = turned j lane l n how (order_of j lane) q

  quiet_write : (a : ℕ) → granted (wrote_entry lane l n how ∷ j) a ≡ granted j a
  quiet_write = grants_same j (wrote_entry lane l n how) refl

  pub done_kept : is_unwritten how ≡ false → Stands p f (wrote_entry lane l n how ∷ j)
  done_kept h = missed_all j (wrote_entry lane l n how ∷ j) turns_now (wrote_closes j lane l n how) quiet_write p f st (λ d. written_misses j lane l n how (order_of j lane) h (pending j d))

  pub past_kept : NoneIsPending j (order_of j lane) → Stands p f (wrote_entry lane l n how ∷ j)
  past_kept h = missed_all j (wrote_entry lane l n how ∷ j) turns_now (wrote_closes j lane l n how) quiet_write p f st (λ d. past_misses j lane l n how (order_of j lane) d h)

  pub faults_kept : (r : Request) → order_of j lane ≡ Some r → is_unwritten how ≡ true → wrote j r.attempt ≡ None → IsKnownBy j l n r.attempt → Stands p (with_gone f l n) (wrote_entry lane l n how ∷ j)
  faults_kept r ordered fault first known =
      one_closes j (wrote_entry lane l n how ∷ j) turns_now (wrote_closes j lane l n how) quiet_write p f l n st (fault_hits j lane l n how r ordered fault first known) (fault_misses j lane l n how r ordered fault first known)

-- ---- Send

module _ (p : Plan) (f : Facts) (j : List Entry) (lane l : ℕ) (n : ℤ) (a : ℕ) (b : Branch) (t : ℕ) (st : Stands p f j) (new : IsNewRequest j l (attempt_of a b t)) where
  same_places : request_row (send_entry lane l n a b t ∷ j) ≡ request_row j
  unfolding has_cancel
  same_places = refl

  new_place : request_row (send_entry lane l n a b t ∷ j) (sent_request l n a b t) ≡ sent_row n a
  new_place = λ i. record { number = n; action = a; asked = not_cancelled_yet j lane l n a b t new i }

  row_sent : row ((row_in j l).items ++ sent_row n a ∷ []) ≡ row_in (send_entry lane l n a b t ∷ j) l
  unfolding row_in
  row_sent = ap row (sym (
      ap (λ rs. reverse (map (request_row (send_entry lane l n a b t ∷ j)) rs)) (pending_here j lane l n a b t new)
      ∙ reverse_front (request_row (send_entry lane l n a b t ∷ j) (sent_request l n a b t)) (map (request_row (send_entry lane l n a b t ∷ j)) (pending j l))
      ∙ (λ i. reverse (map (same_places i) (pending j l)) ++ new_place i ∷ [])))

  row_other : (d : ℕ) → (l == d) ≡ false → row_in j d ≡ row_in (send_entry lane l n a b t ∷ j) d
  unfolding row_in
  row_other d apart = sym (λ i. row (reverse (map (same_places i) (pending_other j lane l n a b t new d apart i))))

  pub sends_kept : Stands p (with_sent f l n a) (send_entry lane l n a b t ∷ j)
  sends_kept = changed p f j (send_entry lane l n a b t ∷ j) l (λ xs. xs ++ sent_row n a ∷ []) st row_sent row_other (grants_same j (send_entry lane l n a b t) refl)

-- ---- Cancel

module _ (j : List Entry) (lane l : ℕ) (n : ℤ) where
  abbrev with_ask_of : RequestRow → Bool → RequestRow
  with_ask_of y b = record { number = y.number; action = y.action; asked = b }

  place_other : (q : Request) → was_sent j q.attempt ≡ true → (l == q.line) ≡ false → request_row j q ≡ request_row (cancel_entry lane l n ∷ j) q
  place_other q sent off = ap (with_ask_of (request_row j q)) (sym (cancel_at j lane l n q sent ∙ ap (λ b. (b && int_eq n q.number) || has_cancel j q) off))

  int_eq_sym : (x y : ℤ) → int_eq x y ≡ int_eq y x
  int_eq_sym x y = one_answer (int_eq x y) (int_eq y x) (Decides-int_eq x y) ((λ h. sym ((Decides-int_eq y x).0 h)), (λ h. (Decides-int_eq y x).1 (sym h)))

  place_asked : (q : Request) → was_sent j q.attempt ≡ true → (l == q.line) ≡ true → with_ask n (request_row j q) ≡ request_row (cancel_entry lane l n ∷ j) q
  place_asked q sent on =
      ap (with_ask_of (request_row j q)) (sym (cancel_at j lane l n q sent ∙ ap (λ b. (b && int_eq n q.number) || has_cancel j q) on ∙ ap (λ b. b || has_cancel j q) (int_eq_sym n q.number)))

  row_asked : row (map (with_ask n) (row_in j l).items) ≡ row_in (cancel_entry lane l n ∷ j) l
  unfolding row_in
  row_asked =
      ap row (map_reverse (with_ask n) (map (request_row j) (pending j l)) ∙ ap reverse (map_map (with_ask n) (request_row j) (pending j l)
      ∙ map_same (λ q. with_ask n (request_row j q)) (request_row (cancel_entry lane l n ∷ j)) (pending j l)
      (each_and (λ q. was_sent j q.attempt ≡ true) (λ q. (l == q.line) ≡ true) (λ q. with_ask n (request_row j q) ≡ request_row (cancel_entry lane l n ∷ j) q) (λ q sent on. place_asked q sent on)
      (pending j l) (sent_too j lane l n l) (of_lines (pending j l) l (λ q. (l == q.line) ≡ true) (λ q same. eq-eqb l q.line (sym same)) (pending_line j l)))
      ∙ ap (map (request_row (cancel_entry lane l n ∷ j))) (sym (pending_too j lane l n l))))

  row_unasked : (d : ℕ) → (l == d) ≡ false → row_in j d ≡ row_in (cancel_entry lane l n ∷ j) d
  unfolding row_in
  row_unasked d apart =
      ap row (ap reverse (map_same (request_row j) (request_row (cancel_entry lane l n ∷ j)) (pending j d)
      (each_and (λ q. was_sent j q.attempt ≡ true) (λ q. (l == q.line) ≡ false) (λ q. request_row j q ≡ request_row (cancel_entry lane l n ∷ j) q) (λ q sent off. place_other q sent off)
      (pending j d) (sent_too j lane l n d) (of_lines (pending j d) d (λ q. (l == q.line) ≡ false) (λ q e. ap (λ k. l == k) e ∙ apart) (pending_line j d)))
      ∙ ap (map (request_row (cancel_entry lane l n ∷ j))) (sym (pending_too j lane l n d))))

  pub cancels_kept : (p : Plan) (f : Facts) → Stands p f j → Stands p (with_asked f l n) (cancel_entry lane l n ∷ j)
  cancels_kept p f st = changed p f j (cancel_entry lane l n ∷ j) l (map (with_ask n)) st row_asked row_unasked (grants_same j (cancel_entry lane l n) refl)

-- ---- a grant

module _ (p : Plan) (f : Facts) (j : List Entry) (lane a : ℕ) (b : Branch) (t : ℕ) (found : Found) (st : Stands p f j) where
  abbrev claim_entry : Entry
  claim_entry = record { lane = lane; call = call.Claim a b t found; reply = reply.Granted }

  grant_closes : Closes j (claim_entry ∷ j) (λ _. false)
  grant_closes = still_closes j claim_entry refl refl

  some_now : {X : Type 0} (x : X) (o : Option X) → is_some (unless_before (Some x) o) ≡ true
  some_now x None = refl
  some_now x (Some y) = refl

  granted_here : granted (claim_entry ∷ j) a ≡ true
  unfolding granted grant_of
  granted_here = let same : (a == a) ≡ true = eq-eqb a a refl in rw same (some_now (attempt_of a b t, found) (grant_of j a))

  granted_other : (c : ℕ) → (a == c) ≡ false → granted (claim_entry ∷ j) c ≡ granted j c
  unfolding granted grant_of
  granted_other c apart = rw apart refl

  row_same : (l : ℕ) → row_in j l ≡ row_in (claim_entry ∷ j) l
  unfolding row_in
  row_same l = row_by j (claim_entry ∷ j) l (pending j l) grant_closes.same (stays j (claim_entry ∷ j) (λ _. false) grant_closes l (none_missed j (pending j l)))

  marked : (within : Bool) (x : Bool) → option_map (λ (_ : Bool). true) (cond within (Some x) None) ≡ cond within (Some true) None
  marked true x = refl
  marked false x = refl

  grant_at : (c : ℕ) → cond (a == c) (option_map (λ _. true) (cond (nat_lt c (length p.actions)) (Some (granted j c)) None)) (cond (nat_lt c (length p.actions)) (Some (granted j c)) None)
      ≡ cond (nat_lt c (length p.actions)) (Some (granted (claim_entry ∷ j) c)) None
  grant_at c =
      by_bool (a == c) (λ x. cond x (option_map (λ _. true) (cond (nat_lt c (length p.actions)) (Some (granted j c)) None)) (cond (nat_lt c (length p.actions)) (Some (granted j c)) None) ≡ cond (nat_lt c (length p.actions)) (Some (granted (claim_entry ∷ j) c)) None)
      (λ same. marked (nat_lt c (length p.actions)) (granted j c) ∙ ap (λ x. cond (nat_lt c (length p.actions)) (Some x) None) (sym (subst (λ d. granted (claim_entry ∷ j) d ≡ true) (eqb-true a c same) granted_here)))
      (λ apart. ap (λ x. cond (nat_lt c (length p.actions)) (Some x) None) (sym (granted_other c apart)))

  pub grants_kept : Stands p (with_unwanted f a) (claim_entry ∷ j)
  grants_kept = record {
    lines = λ l. st.lines l ∙ ap (λ r. cond (nat_lt l (line_room p)) (Some r) None) (row_same l);
    grants = λ c. get_update (λ _. true) f.unwanted a c ∙ ap (λ (o : Option Bool). cond (a == c) (option_map (λ _. true) o) o) (st.grants c) ∙ grant_at c;
  }

-- ---- the next Cancel

map_or : {X Y : Type 0} (g : X → Y) (o : Option X) (x : X) → option_map g (or_else o (Some x)) ≡ or_else (option_map g o) (Some (g x))
map_or g None x = refl
map_or g (Some y) x = refl

or_none : {X : Type 0} (o : Option X) → or_else o None ≡ o
or_none None = refl
or_none (Some x) = refl

-- the first of those that stand the other way round is the oldest
find_oldest : (q : RequestRow → Bool) (g : Request → RequestRow) (rs : List Request) → find q (reverse (map g rs)) ≡ option_map g (oldest (filter (λ r. q (g r)) rs))
find_oldest q g [] = refl
find_oldest q g (r ∷ rs) =
    ap (find q) (reverse_front (g r) (map g rs)) ∙ find_append q (reverse (map g rs)) (g r ∷ [])
    ∙ ap (λ (o : Option RequestRow). or_else o (cond (q (g r)) (Some (g r)) None)) (find_oldest q g rs) ∙ newest (q (g r))
  where
    newest : (b : Bool) → or_else (option_map g (oldest (filter (λ x. q (g x)) rs))) (cond b (Some (g r)) None) ≡ option_map g (oldest (cond b (r ∷ filter (λ x. q (g x)) rs) (filter (λ x. q (g x)) rs)))
    newest true = sym (map_or g (oldest (filter (λ x. q (g x)) rs)) r)
    newest false = or_none (option_map g (oldest (filter (λ x. q (g x)) rs)))

map_number : (j : List Entry) (o : Option Request) → option_map (λ (x : RequestRow). x.number) (option_map (request_row j) o) ≡ option_map (λ r. r.number) o
map_number j None = refl
map_number j (Some r) = refl

module _ (p : Plan) (f : Facts) (j : List Entry) (l : ℕ) (st : Stands p f j) (within : l < line_room p) where
  pub places_are : rows_of f l ≡ (row_in j l).items
  places_are = ap rows_on (st.lines l ∙ ap (λ b. cond b (Some (row_in j l)) None) (lt-ltb l (line_room p) within))

  pub count_is : length (rows_of f l) ≡ length (pending j l)
  unfolding row_in
  count_is = ap length places_are ∙ length-reverse (map (request_row j) (pending j l)) ∙ length-map (pending j l) (request_row j)

  mark_is : (a : ℕ) → a < length p.actions → is_marked f.unwanted a ≡ granted j a
  mark_is a known = ap (λ (o : Option Bool). unwrap_or o false) (st.grants a ∙ ap (λ b. cond b (Some (granted j a)) None) (lt-ltb a (length p.actions) known))

  due_is : (r : Request) → r.attempt.action < length p.actions → is_unwanted p j r ≡ granted j r.attempt.action → is_due f.unwanted (request_row j r) ≡ (is_unwanted p j r && not (has_cancel j r))
  due_is r known wish = ap (λ b. b && not (has_cancel j r)) (mark_is r.attempt.action known ∙ sym wish)

  pub cancel_is : WantedByGrant p j l → cancel_of f l ≡ option_map (λ r. r.number) (oldest (filter (λ r. is_unwanted p j r && not (has_cancel j r)) (pending j l)))
  unfolding row_in
  cancel_is h =
      ap (λ xs. option_map (λ (x : RequestRow). x.number) (find (is_due f.unwanted) xs)) places_are
      ∙ ap (option_map (λ (x : RequestRow). x.number)) (find_oldest (is_due f.unwanted) (request_row j) (pending j l)) ∙ map_number j (oldest (filter (λ r. is_due f.unwanted (request_row j r)) (pending j l)))
      ∙ ap (λ rs. option_map (λ (r : Request). r.number) (oldest rs))
      (filter_same (λ r. is_due f.unwanted (request_row j r)) (λ r. is_unwanted p j r && not (has_cancel j r)) (pending j l)
      (each_and (λ r. r.attempt.action < length p.actions) (λ r. is_unwanted p j r ≡ granted j r.attempt.action) (λ r. is_due f.unwanted (request_row j r) ≡ (is_unwanted p j r && not (has_cancel j r))) due_is (pending j l) h.within h.grants))
