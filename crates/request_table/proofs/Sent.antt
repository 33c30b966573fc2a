-- How the table follows Sends and Cancels, and what the number of a Send is.
use Rattle.std.proofs.Common.{◌≡◌, ℕ, ◌+◌, ◌/◌, ◌<◌, ◌≤◌, ◌==◌, zero, suc, Bool, true, false, ◌&&◌, ◌||◌, cond, List, [], ◌∷◌, ◌++◌, length, reverse, Option, Some, None, option_map, option_and_then, unwrap_or, refl, ap, sym, subst, ◌∙◌, arith}
use Rattle.std.specs.Prelude.{filter, map, slice_get, ℤ, pos, negsuc}
use Rattle.std.specs.Bool.{one_answer}
use Rattle.std.specs.Ordering.{int_eq}
use Rattle.std.proofs.lemmas.Bool.{eqb-true, eq-eqb, lt-ltb, and_right}
use Rattle.std.proofs.lemmas.Bool.Decides.{Decides-int_eq}
use Rattle.std.proofs.lemmas.List.{length-map, length-reverse}
use Rattle.run_plan.specs.declared.plan.Branch.{Branch}
use Rattle.run_plan.specs.declared.plan.Branch.TheVariants.{Local, Remote}
use Rattle.run_plan.specs.declared.plan.Kind.{Kind}
use Rattle.run_plan.specs.declared.plan.Kind.TheVariants as kind
use Rattle.run_plan.specs.declared.plan.Plan.{Plan}
use Rattle.run_plan.specs.declared.plan.PlanAction.{PlanAction}
use Rattle.exec_journal.specs.Entry.{Entry}
use Rattle.exec_journal.specs.Entries.{Request}
use Rattle.exec_journal.specs.Rules.{head, number_of}
use Rattle.exec_journal.specs.Seated.{kind_in}
use Rattle.run_plan.specs.Groups.{group_of, is_single, capacity}
use Rattle.exec_journal.specs.Words.{sends, pending, has_cancel, was_sent}
use Rattle.exec_journal.proofs.Lines.{pending_line}
use Rattle.exec_journal.proofs.Ruled.{by_bool}
use Rattle.request_table.specs.declared.LineRow.{LineRow}
use Rattle.request_table.specs.declared.RequestRow.{RequestRow}
use Rattle.request_table.specs.Entries.{EachOf, IsOfGroup, NumberedBy, IsNextSend}
use Rattle.request_table.specs.Rows.{Facts, capacity_of, is_open, open_of, open_on, places_of, places_on, is_single_group, singles_of, line_room, single_by, single_of, last_of, number_after, next_number, new_place, sent_row, with_send, with_cancel, with_cancelled, cancelled_row}
use Rattle.request_table.specs.Stands.{Waiting, told, waiting_in, request_row, natural, Numbered, AreNumbered, Stands}
use Rattle.request_table.proofs.Lists.{each_and, map_same, map_reverse, map_map, reverse_front}
use Rattle.request_table.proofs.Told.{with_more, with_mark, told_of, told_sent, told_cancelled, changed, unchanged}
use Rattle.request_table.proofs.Pending.{send_entry, sent_request, unsent_uncancelled, sends_here, sends_other, pending_here, pending_other, cancel_entry, of_lines, sent_too, pending_too, cancel_at}
use Rattle.request_table.proofs.Kept.{IsNatural, pending_natural, last_in, numbered_same}

-- ---- the kind of a branch's group

get_map : {X Y : Type 0} (g : X → Y) (xs : List X) (a : ℕ) → slice_get (map g xs) a ≡ option_map g (slice_get xs a)
get_map g [] a = refl
get_map g (x ∷ xs) zero = refl
get_map g (x ∷ xs) (suc a) = get_map g xs a

single_by_group : (p : Plan) (b : Branch) (o : Option PlanAction) → unwrap_or (option_map (single_by b) (option_map (singles_of p) o)) true ≡ is_single_group p (option_and_then (λ x. group_of x b) o)
single_by_group p b None = refl
single_by_group p Local (Some x) = refl
single_by_group p Remote (Some x) = refl

pub single_is : (p : Plan) (f : Facts) (j : List Entry) (g : Option ℕ) (a : ℕ) (b : Branch) → Stands p f j → IsOfGroup p g a b → single_of f a b ≡ is_single (kind_in p g)
single_is p f j g a b st group =
    ap (λ xs. unwrap_or (option_map (single_by b) (slice_get xs a)) true) st.kinds
    ∙ ap (λ o. unwrap_or (option_map (single_by b) o) true) (get_map (singles_of p) p.actions a)
    ∙ single_by_group p b (slice_get p.actions a) ∙ ap (is_single_group p) group

capacity_by : (k : Kind) → capacity_of (is_single k) ≡ capacity k
capacity_by kind.Single = refl
capacity_by kind.Multi = refl
capacity_by kind.Boxed = refl
capacity_by kind.Remote = refl

pub capacity_is : (p : Plan) (f : Facts) (j : List Entry) (g : Option ℕ) (a : ℕ) (b : Branch) → Stands p f j → IsOfGroup p g a b → capacity_of (single_of f a b) ≡ capacity (kind_in p g)
capacity_is p f j g a b st group = ap capacity_of (single_is p f j g a b st group) ∙ capacity_by (kind_in p g)

-- ---- the row of a line

pub row_told : (p : Plan) (f : Facts) (j : List Entry) (l : ℕ) → Stands p f j → l < line_room p → (x : LineRow) × (slice_get f.lines l ≡ Some x) × (told x ≡ waiting_in j l)
row_told p f j l st within = from (slice_get f.lines l) refl (st.each l ∙ ap (λ b. cond b (Some (waiting_in j l)) None) (lt-ltb l (line_room p) within))
  where
    from : (o : Option LineRow) → slice_get f.lines l ≡ o → option_map told (slice_get f.lines l) ≡ Some (waiting_in j l) → (x : LineRow) × (slice_get f.lines l ≡ Some x) × (told x ≡ waiting_in j l)
    from (Some x) at h = (x, at, (let e : Some (told x) ≡ Some (waiting_in j l) = sym (ap (option_map told) at) ∙ h in cc))
    from None at h = absurd (let e : None ≡ Some (waiting_in j l) = sym (ap (option_map told) at) ∙ h in cc)

row_last : (p : Plan) (f : Facts) (j : List Entry) (l : ℕ) → Stands p f j → l < line_room p → last_of f l ≡ unwrap_or (last_in j l) 0
unfolding waiting_in
row_last p f j l st within =
    let row = row_told p f j l st within in
    ap (λ (o : Option LineRow). unwrap_or (option_and_then (λ x. x.last) o) 0) row.1 ∙ ap (λ (w : Waiting). unwrap_or w.last 0) row.2

-- the last number is at most the number of Sends
last_most : (single : Bool) (rs : List Request) → Numbered single rs → unwrap_or (option_map (λ r. natural r.number) (head rs)) 0 ≤ length rs
last_most single [] all = omega arith
last_most true (r ∷ rs) all = let last : natural r.number ≡ 0 = ap natural all.0 in omega arith
last_most false (r ∷ rs) all = let last : natural r.number ≡ length rs + 1 = ap natural all.0 in omega arith

pub fewer_is : (p : Plan) (f : Facts) (j : List Entry) (l : ℕ) → Stands p f j → l < line_room p → length (sends j l) < line_room p → last_of f l < length f.lines
fewer_is p f j l st within few =
    let most = last_most (st.numbered l).single (sends j l) (st.numbered l).numbers in
    let last = row_last p f j l st within in
    let room = st.room in
    omega arith

-- as many places are open as requests are pending
pub places_are : (p : Plan) (f : Facts) (j : List Entry) (l : ℕ) → Stands p f j → l < line_room p → length (open_of f l) ≡ length (pending j l)
unfolding waiting_in
places_are p f j l st within =
    let row = row_told p f j l st within in
    ap (λ (o : Option LineRow). length (open_on o)) row.1 ∙ ap (λ (w : Waiting). length w.places) row.2 ∙ length-reverse (map (request_row j) (pending j l)) ∙ length-map (pending j l) (request_row j)

-- those of a line's places that are pending are its pending requests
pub open_is : (p : Plan) (f : Facts) (j : List Entry) (l : ℕ) → Stands p f j → l < line_room p → filter is_open (places_of f l) ≡ reverse (map (request_row j) (pending j l))
unfolding waiting_in
open_is p f j l st within =
    let row = row_told p f j l st within in
    ap (λ (o : Option LineRow). filter is_open (places_on o)) row.1 ∙ ap (λ (w : Waiting). w.places) row.2

-- the number after the last, as the kind has it
last_number : (single : Bool) (rs : List Request) → Numbered single rs → pos (number_after single (unwrap_or (option_map (λ r. natural r.number) (head rs)) 0)) ≡ cond single (pos 0) (pos (length rs + 1))
last_number true rs all = refl
last_number false [] all = refl
last_number false (r ∷ rs) all =
    let last : natural r.number ≡ length rs + 1 = ap natural all.0 in
    let more : natural r.number + 1 ≡ suc (length rs) + 1 = omega arith in ap pos more

pub next_number_is : (p : Plan) (f : Facts) (j : List Entry) (g : Option ℕ) (l a : ℕ) (b : Branch) → Stands p f j → l < line_room p → IsOfGroup p g a b → NumberedBy p j g l
    → pos (next_number f l a b) ≡ number_of j (kind_in p g) l
next_number_is p f j g l a b st within group earlier =
    (λ i. pos (number_after (single_is p f j g a b st group i) (row_last p f j l st within i)))
    ∙ last_number (is_single (kind_in p g)) (sends j l) earlier

-- ---- Send

module _ (p : Plan) (f : Facts) (j : List Entry) (lane : ℕ) (g : Option ℕ) (l : ℕ) (n : ℤ) (a : ℕ) (b : Branch) (t : ℕ) (st : Stands p f j) (within : l < line_room p) (next : IsNextSend p j g l n a b t) where
  same_places : request_row (send_entry lane l n a b t ∷ j) ≡ request_row j
  unfolding has_cancel
  same_places = refl

  number_is_next : n ≡ pos (next_number f l a b)
  number_is_next = next.number ∙ sym (next_number_is p f j g l a b st within next.group next.earlier)

  new_is : request_row j (sent_request l n a b t) ≡ new_place (next_number f l a b) a t
  new_is = λ i. record { number = natural (number_is_next i); action = a; attempt = t; pending = true; cancelled = unsent_uncancelled j (sent_request l n a b t) next.new.unsent i }

  waiting_sent : with_more (next_number f l a b) a t (waiting_in j l) ≡ waiting_in (send_entry lane l n a b t ∷ j) l
  unfolding waiting_in
  waiting_sent = sym (
      (λ i. told_of (option_map (λ r. natural r.number) (head (sends_here j lane l n a b t next.new i))) (reverse (map (same_places i) (pending_here j lane l n a b t next.new i))))
      ∙ ap (told_of (Some (natural n))) (reverse_front (request_row j (sent_request l n a b t)) (map (request_row j) (pending j l)))
      ∙ (λ i. told_of (Some (natural (number_is_next i))) (reverse (map (request_row j) (pending j l)) ++ new_is i ∷ [])))

  waiting_other : (d : ℕ) → (l == d) ≡ false → waiting_in j d ≡ waiting_in (send_entry lane l n a b t ∷ j) d
  unfolding waiting_in
  waiting_other d apart = sym (λ i. told_of (option_map (λ r. natural r.number) (head (sends_other j lane l n a b t next.new d apart i))) (reverse (map (same_places i) (pending_other j lane l n a b t next.new d apart i))))

  numbered_sent : (d : ℕ) → AreNumbered (send_entry lane l n a b t ∷ j) d
  numbered_sent d = by_bool (l == d) (λ _. AreNumbered (send_entry lane l n a b t ∷ j) d)
      (λ same. subst (AreNumbered (send_entry lane l n a b t ∷ j)) (eqb-true l d same)
      (record { single = is_single (kind_in p g); numbers = subst (Numbered (is_single (kind_in p g))) (sym (sends_here j lane l n a b t next.new)) (next.number, next.earlier) }))
      (λ apart. numbered_same j (send_entry lane l n a b t ∷ j) d (sends_other j lane l n a b t next.new d apart) (st.numbered d))

  pub sends_kept : Stands p (with_send f l a b t) (send_entry lane l n a b t ∷ j)
  sends_kept = changed p f j (send_entry lane l n a b t ∷ j) l (sent_row (next_number f l a b) a t) (with_more (next_number f l a b) a t) st (told_sent (next_number f l a b) a t) waiting_sent waiting_other numbered_sent

-- ---- Cancel

natural_equal : (m : ℕ) (z : ℤ) → z ≡ pos (natural z) → int_eq (pos m) z ≡ (natural z == m)
natural_equal m z e = one_answer (int_eq (pos m) z) (natural z == m) (Decides-int_eq (pos m) z) ((λ h. sym (e ∙ ap pos (eqb-true (natural z) m h))), (λ h. eq-eqb (natural z) m (ap natural (sym h))))

module _ (j : List Entry) (lane l : ℕ) (n : ℤ) where
  abbrev with_cancel_of : RequestRow → Bool → RequestRow
  with_cancel_of y b = record { number = y.number; action = y.action; attempt = y.attempt; pending = y.pending; cancelled = b }

  -- a request of another line, or with another number
  place_other : (q : Request) → was_sent j q.attempt ≡ true → ((l == q.line) && int_eq n q.number) ≡ false → request_row j q ≡ request_row (cancel_entry lane l n ∷ j) q
  place_other q sent off = ap (with_cancel_of (request_row j q)) (sym (cancel_at j lane l n q sent ∙ ap (λ b. b || has_cancel j q) off))

  waiting_cancel : (d : ℕ) (g : RequestRow → RequestRow) → EachOf (λ q. g (request_row j q) ≡ request_row (cancel_entry lane l n ∷ j) q) (pending j d) → told_of (last_in j d) (map g (reverse (map (request_row j) (pending j d)))) ≡ waiting_in (cancel_entry lane l n ∷ j) d
  unfolding waiting_in sends
  waiting_cancel d g each =
      ap (told_of (last_in j d)) (map_reverse g (map (request_row j) (pending j d)) ∙ ap reverse (map_map g (request_row j) (pending j d) ∙ map_same (λ q. g (request_row j q)) (request_row (cancel_entry lane l n ∷ j)) (pending j d) each)
      ∙ ap (λ rs. reverse (map (request_row (cancel_entry lane l n ∷ j)) rs)) (sym (pending_too j lane l n d)))

  numbered_cancel : (d : ℕ) → AreNumbered j d → AreNumbered (cancel_entry lane l n ∷ j) d
  unfolding sends
  numbered_cancel d h = numbered_same j (cancel_entry lane l n ∷ j) d refl h

  -- a request with this number, on this line
  place_marked : (m : ℕ) (q : Request) → n ≡ pos m → IsNatural q × (was_sent j q.attempt ≡ true) → (l == q.line) ≡ true → with_cancel m (request_row j q) ≡ request_row (cancel_entry lane l n ∷ j) q
  place_marked m q e h on =
      ap (with_cancel_of (request_row j q))
      (sym (cancel_at j lane l n q h.1 ∙ ap (λ b. (b && int_eq n q.number) || has_cancel j q) on ∙ ap (λ z. int_eq z q.number || has_cancel j q) e ∙ ap (λ b. b || has_cancel j q) (natural_equal m q.number h.0)))

  natural_and_sent : (d : ℕ) → AreNumbered j d → EachOf (λ q. IsNatural q × (was_sent j q.attempt ≡ true)) (pending j d)
  natural_and_sent d numbered = each_and IsNatural (λ q. was_sent j q.attempt ≡ true) (λ q. IsNatural q × (was_sent j q.attempt ≡ true)) (λ q h sent. (h, sent)) (pending j d) (pending_natural j d numbered) (sent_too j lane l n d)

  marks : (m : ℕ) → n ≡ pos m → AreNumbered j l → EachOf (λ q. with_cancel m (request_row j q) ≡ request_row (cancel_entry lane l n ∷ j) q) (pending j l)
  marks m e numbered =
      each_and (λ q. IsNatural q × (was_sent j q.attempt ≡ true)) (λ q. (l == q.line) ≡ true) (λ q. with_cancel m (request_row j q) ≡ request_row (cancel_entry lane l n ∷ j) q) (λ q h on. place_marked m q e h on)
      (pending j l) (natural_and_sent l numbered) (of_lines (pending j l) l (λ q. (l == q.line) ≡ true) (λ q same. eq-eqb l q.line (sym same)) (pending_line j l))

  -- no request has a negative number
  none_marked : (m d : ℕ) → n ≡ negsuc m → AreNumbered j d → EachOf (λ q. request_row j q ≡ request_row (cancel_entry lane l n ∷ j) q) (pending j d)
  none_marked m d e numbered =
      each_and (λ q. IsNatural q × (was_sent j q.attempt ≡ true)) (λ q. IsNatural q × (was_sent j q.attempt ≡ true)) (λ q. request_row j q ≡ request_row (cancel_entry lane l n ∷ j) q)
      (λ q h _. place_other q h.1 (ap (λ z. (l == q.line) && int_eq z q.number) e ∙ ap (λ z. (l == q.line) && int_eq (negsuc m) z) h.0 ∙ and_right (l == q.line) false refl))
      (pending j d) (natural_and_sent d numbered) (natural_and_sent d numbered)

  others_stay : (d : ℕ) → (l == d) ≡ false → EachOf (λ q. request_row j q ≡ request_row (cancel_entry lane l n ∷ j) q) (pending j d)
  others_stay d apart =
      each_and (λ q. was_sent j q.attempt ≡ true) (λ q. (l == q.line) ≡ false) (λ q. request_row j q ≡ request_row (cancel_entry lane l n ∷ j) q)
      (λ q sent off. place_other q sent (ap (λ b. b && int_eq n q.number) off)) (pending j d) (sent_too j lane l n d)
      (of_lines (pending j d) d (λ q. (l == q.line) ≡ false) (λ q e. ap (λ k. l == k) e ∙ apart) (pending_line j d))

  waiting_apart : (d : ℕ) → EachOf (λ q. request_row j q ≡ request_row (cancel_entry lane l n ∷ j) q) (pending j d) → waiting_in j d ≡ waiting_in (cancel_entry lane l n ∷ j) d
  unfolding waiting_in sends
  waiting_apart d each = ap (told_of (last_in j d)) (ap reverse (map_same (request_row j) (request_row (cancel_entry lane l n ∷ j)) (pending j d) each ∙ ap (map (request_row (cancel_entry lane l n ∷ j))) (sym (pending_too j lane l n d))))

  waiting_marked : (m : ℕ) → n ≡ pos m → AreNumbered j l → with_mark m (waiting_in j l) ≡ waiting_in (cancel_entry lane l n ∷ j) l
  unfolding waiting_in
  waiting_marked m e numbered = waiting_cancel l (with_cancel m) (marks m e numbered)

  pub cancels_kept : (p : Plan) (f : Facts) → Stands p f j → Stands p (with_cancelled f l n) (cancel_entry lane l n ∷ j)
  cancels_kept p f st = by n refl
    where
      by : (z : ℤ) → n ≡ z → Stands p (with_cancelled f l z) (cancel_entry lane l n ∷ j)
      by (pos m) e =
          changed p f j (cancel_entry lane l n ∷ j) l (cancelled_row m) (with_mark m) st (told_cancelled m) (waiting_marked m e (st.numbered l))
          (λ d apart. waiting_apart d (others_stay d apart)) (λ d. numbered_cancel d (st.numbered d))
      by (negsuc m) e = unchanged p f j (cancel_entry lane l n ∷ j) st (λ d. waiting_apart d (none_marked m d e (st.numbered d))) (λ d. numbered_cancel d (st.numbered d))
