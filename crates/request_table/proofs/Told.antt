-- What each call changes in what the rows tell, and how it follows a journal.
use Rattle.std.proofs.Common.{◌≡◌, ℕ, ◌==◌, nat_lt, Bool, true, false, not, cond, List, [], ◌∷◌, ◌++◌, length, filter, Option, Some, None, option_map, refl, ap, sym, subst, ◌∙◌}
use Rattle.std.specs.Prelude.{map, slice_get, replicate}
use Rattle.std.proofs.lemmas.Bool.{eqb-true}
use Rattle.std.proofs.lemmas.List.{length-replicate}
use Rattle.std.proofs.lemmas.List.Elements.{filter-append}
use Rattle.run_plan.specs.declared.plan.Plan.{Plan}
use Rattle.exec_journal.specs.Entry.{Entry}
use Rattle.list_lemmas.specs.Places.{update}
use Rattle.exec_journal.specs.Words.{sends, pending}
use Rattle.exec_journal.proofs.Ruled.{by_bool}
use Rattle.list_lemmas.proofs.Updates.{get_update, get_replicate}
use Rattle.request_table.specs.declared.LineRow.{LineRow}
use Rattle.request_table.specs.declared.RequestRow.{RequestRow}
use Rattle.request_table.specs.declared.Singles.{Singles}
use Rattle.request_table.specs.Rows.{Facts, singles_of, new_line, line_room, is_open, new_place, sent_row, with_pending, answered_row, reopened_row, unwritten_row, with_cancel, cancelled_row}
use Rattle.request_table.specs.Stands.{Waiting, told, waiting_in, AreNumbered, Stands}
use Rattle.request_table.proofs.Lists.{update_length, filter_swap, filter_again}

-- ---- what a row tells after a call

abbrev pub is_elsewhere : ℕ → RequestRow → Bool
is_elsewhere n x = not (x.number == n)

abbrev pub without : ℕ → Waiting → Waiting
without n w = record { last = w.last; places = filter (is_elsewhere n) w.places }

abbrev pub with_mark : ℕ → Waiting → Waiting
with_mark n w = record { last = w.last; places = map (with_cancel n) w.places }

abbrev pub with_more : ℕ → ℕ → ℕ → Waiting → Waiting
with_more n a t w = record { last = Some n; places = w.places ++ new_place n a t ∷ [] }

abbrev pub with_none : Waiting → Waiting
with_none w = record { last = w.last; places = [] }

abbrev pub told_of : Option ℕ → List RequestRow → Waiting
told_of last xs = record { last = last; places = xs }

pub told_sent : (n a t : ℕ) (x : LineRow) → told (sent_row n a t x) ≡ with_more n a t (told x)
told_sent n a t x =
    ap (told_of (Some n)) (filter-append is_open (filter is_open x.places.items) (new_place n a t ∷ []) ∙ ap (λ (ys : List RequestRow). ys ++ new_place n a t ∷ []) (filter_again is_open x.places.items))

closed_one : (n : ℕ) (x : RequestRow) (xs ys : List RequestRow) → x.pending ≡ true → filter is_open xs ≡ ys → filter is_open (with_pending n false x ∷ xs) ≡ cond (is_elsewhere n x) (x ∷ ys) ys
closed_one n x xs ys is e =
    by_bool (x.number == n) (λ b. filter is_open (record { number = x.number; action = x.action; attempt = x.attempt; pending = cond b false x.pending; cancelled = x.cancelled } ∷ xs) ≡ cond (not b) (x ∷ ys) ys)
    (λ same. e) (λ other. ap (λ c. cond c (x ∷ filter is_open xs) (filter is_open xs)) is ∙ ap (λ (zs : List RequestRow). x ∷ zs) e)

closed_open : (n : ℕ) (xs : List RequestRow) → filter is_open (map (with_pending n false) (filter is_open xs)) ≡ filter (is_elsewhere n) (filter is_open xs)
closed_open n [] = refl
closed_open n (x ∷ xs) =
    by_bool x.pending (λ b. filter is_open (map (with_pending n false) (cond b (x ∷ filter is_open xs) (filter is_open xs))) ≡ filter (is_elsewhere n) (cond b (x ∷ filter is_open xs) (filter is_open xs)))
    (λ yes. closed_one n x (map (with_pending n false) (filter is_open xs)) (filter (is_elsewhere n) (filter is_open xs)) yes (closed_open n xs)) (λ no. closed_open n xs)

pub told_answered : (n : ℕ) (x : LineRow) → told (answered_row n x) ≡ without n (told x)
told_answered n x = ap (told_of x.last) (closed_open n x.places.items)

pub told_unwritten : (n : ℕ) (x : LineRow) → told (unwritten_row n x) ≡ without n (told x)
told_unwritten n x = ap (told_of x.last) (filter_swap is_open (is_elsewhere n) x.places.items)

marked_open : (n : ℕ) (xs : List RequestRow) → filter is_open (map (with_cancel n) xs) ≡ map (with_cancel n) (filter is_open xs)
marked_open n [] = refl
marked_open n (x ∷ xs) = elim x.pending as (λ b. cond b (with_cancel n x ∷ filter is_open (map (with_cancel n) xs)) (filter is_open (map (with_cancel n) xs)) ≡ map (with_cancel n) (cond b (x ∷ filter is_open xs) (filter is_open xs))) [
  | true ↦ ap (λ (ys : List RequestRow). with_cancel n x ∷ ys) (marked_open n xs)
  | false ↦ marked_open n xs
]

pub told_cancelled : (n : ℕ) (x : LineRow) → told (cancelled_row n x) ≡ with_mark n (told x)
told_cancelled n x = ap (told_of x.last) (marked_open n x.places.items)

abbrev with_open : Bool → RequestRow → RequestRow
with_open b x = record { number = x.number; action = x.action; attempt = x.attempt; pending = b; cancelled = x.cancelled }

back_open : (n : ℕ) (xs : List RequestRow) → filter is_open (map (with_pending n true) (map (with_pending n false) (filter is_open xs))) ≡ filter is_open xs
back_open n [] = refl
back_open n (x ∷ xs) =
    by_bool x.pending (λ b. filter is_open (map (with_pending n true) (map (with_pending n false) (cond b (x ∷ filter is_open xs) (filter is_open xs)))) ≡ cond b (x ∷ filter is_open xs) (filter is_open xs))
    (λ yes. by_bool (x.number == n)
    (λ b. filter is_open (record { number = x.number; action = x.action; attempt = x.attempt; pending = cond b true (cond b false x.pending); cancelled = x.cancelled } ∷ map (with_pending n true) (map (with_pending n false) (filter is_open xs))) ≡ x ∷ filter is_open xs)
    (λ same. ap (λ c. with_open c x ∷ filter is_open (map (with_pending n true) (map (with_pending n false) (filter is_open xs)))) (sym yes) ∙ ap (λ (zs : List RequestRow). x ∷ zs) (back_open n xs))
    (λ other. ap (λ c. cond c (x ∷ filter is_open (map (with_pending n true) (map (with_pending n false) (filter is_open xs)))) (filter is_open (map (with_pending n true) (map (with_pending n false) (filter is_open xs))))) yes
    ∙ ap (λ (zs : List RequestRow). x ∷ zs) (back_open n xs)))
    (λ no. back_open n xs)

pub told_back : (n : ℕ) (x : LineRow) → told (reopened_row n (answered_row n x)) ≡ told x
told_back n x = ap (told_of x.last) (back_open n x.places.items)

-- ---- one row changes, and none

map_within : (in_plan : Bool) (g : LineRow → LineRow) (h : Waiting → Waiting) (o : Option LineRow) (w : Waiting) → ((x : LineRow) → told (g x) ≡ h (told x)) → option_map told o ≡ cond in_plan (Some w) None
    → option_map told (option_map g o) ≡ cond in_plan (Some (h w)) None
map_within true g h (Some x) w tells e = ap Some (tells x ∙ ap h (let same : told x ≡ w = cc in same))
map_within false g h None w tells e = refl
map_within true g h None w tells e = absurd (cc)
map_within false g h (Some x) w tells e = absurd (cc)

abbrev pub with_row : (LineRow → LineRow) → Facts → ℕ → Facts
with_row g f l = record { lines = update g f.lines l; singles = f.singles }

pub changed : (p : Plan) (f : Facts) (j k : List Entry) (l : ℕ) (g : LineRow → LineRow) (h : Waiting → Waiting) → Stands p f j → ((x : LineRow) → told (g x) ≡ h (told x))
    → h (waiting_in j l) ≡ waiting_in k l → ((c : ℕ) → (l == c) ≡ false → waiting_in j c ≡ waiting_in k c) → ((c : ℕ) → AreNumbered k c) → Stands p (with_row g f l) k
changed p f j k l g h s tells here other numbered = record {
  room = update_length g f.lines l ∙ s.room;
  kinds = s.kinds;
  each = λ c. ap (option_map told) (get_update g f.lines l c) ∙ at c;
  numbered = numbered;
}
  where
    at : (c : ℕ) → option_map told (cond (l == c) (option_map g (slice_get f.lines c)) (slice_get f.lines c)) ≡ cond (nat_lt c (line_room p)) (Some (waiting_in k c)) None
    at c =
        by_bool (l == c) (λ b. option_map told (cond b (option_map g (slice_get f.lines c)) (slice_get f.lines c)) ≡ cond (nat_lt c (line_room p)) (Some (waiting_in k c)) None)
        (λ same. map_within (nat_lt c (line_room p)) g h (slice_get f.lines c) (waiting_in j c) tells (s.each c)
        ∙ ap (λ w. cond (nat_lt c (line_room p)) (Some w) None) (subst (λ d. h (waiting_in j d) ≡ waiting_in k d) (eqb-true l c same) here))
        (λ apart. s.each c ∙ ap (λ w. cond (nat_lt c (line_room p)) (Some w) None) (other c apart))

pub unchanged : (p : Plan) (f : Facts) (j k : List Entry) → Stands p f j → ((c : ℕ) → waiting_in j c ≡ waiting_in k c) → ((c : ℕ) → AreNumbered k c) → Stands p f k
unchanged p f j k s same numbered = record {
  room = s.room;
  kinds = s.kinds;
  each = λ c. s.each c ∙ ap (λ w. cond (nat_lt c (line_room p)) (Some w) None) (same c);
  numbered = numbered;
}

-- ---- a new table

pub new_stands : (p : Plan) (n : ℕ) (xs : List LineRow) (ys : List Singles) → n ≡ line_room p → xs ≡ replicate n new_line → ys ≡ map (singles_of p) p.actions → Stands p (record { lines = xs; singles = ys }) []
unfolding waiting_in sends pending
new_stands p n xs ys room e kinds = record {
  room = ap length lines ∙ length-replicate (line_room p) new_line;
  kinds = kinds;
  each = λ l. ap (λ zs. option_map told (slice_get zs l)) lines ∙ ap (option_map told) (get_replicate new_line (line_room p) l) ∙ within (nat_lt l (line_room p));
  numbered = λ l. record { single = false; numbers = tt };
}
  where
    lines : xs ≡ replicate (line_room p) new_line
    lines = e ∙ ap (λ m. replicate m new_line) room

    within : (b : Bool) → option_map told (cond b (Some new_line) None) ≡ cond b (Some (told new_line)) None
    within true = refl
    within false = refl
