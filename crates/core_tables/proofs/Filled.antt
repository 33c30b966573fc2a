-- Slots that are filled one after the other.
use Rattle.std.proofs.Common.{◌≡◌, ℕ, zero, suc, ◌+◌, ◌<◌, ◌≤◌, ◌==◌, Bool, true, false, cond, List, [], ◌∷◌, ◌++◌, length, get_or, set, take, Option, Some, None, option_map, refl, ap, sym, subst, ◌∙◌, arith, length-append}
use Rattle.std.specs.Prelude.{slice_get, replicate, option_and_then, nat_lt, bytes_eq}
use Rattle.std.proofs.lemmas.Bool.{eqb-true, eq-eqb, ltb-true, ltb-false}
use Rattle.std.specs.Global.{Vec}
use Rattle.std.specs.Vec.{with_items}
use Rattle.std.proofs.lemmas.List.{length-replicate, with_items_is}
use Rattle.std.proofs.lemmas.Option.{slice_get_within}
use Rattle.run_plan.specs.declared.plan.PlanAction.{PlanAction}
use Rattle.exec_journal.specs.declared.call.NamedFile.{NamedFile}
use Rattle.exec_journal.specs.Rules.{last_file}
use Rattle.exec_journal.proofs.Ruled.{by_bool}
use Rattle.list_lemmas.specs.Options.{or_else}
use Rattle.list_lemmas.specs.Places.{update}
use Rattle.list_lemmas.proofs.Updates.{get_replicate, get_update, set-update}
use Rattle.core_tables.specs.declared.files.Slot.{Slot}
use Rattle.core_tables.specs.declared.files.Slot.TheVariants.{Absent}
use Rattle.core_tables.specs.Slots.{AreNew, Filled, RowFilled, Tells, newer}

-- the first m slots tell of their contents
pub record FilledTo (slots : List Slot) (n m : ℕ) (content : ℕ → Option (List ℕ)) : Type 0 where
  pub count : length slots ≡ n
  pub each : (o : ℕ) (x : Slot) → o < m → slice_get slots o ≡ Some x → Tells x (content o)

pub none_filled : (slots : List Slot) (content : ℕ → Option (List ℕ))
    → FilledTo slots (length slots) 0 content
none_filled slots content = record { count = refl; each = λ o x lt h. absurd (omega arith) }

one_set : (y x : Slot) (o : Option Slot) → option_map (λ (z : Slot). y) o ≡ Some x → y ≡ x
one_set y x None h = absurd (cc)
one_set y x (Some z) h = cc

pub filled_next : (slots : List Slot) (n m : ℕ) (content : ℕ → Option (List ℕ)) (y : Slot)
    → FilledTo slots n m content → m < n → Tells y (content m)
    → FilledTo (set slots m y) n (m + 1) content
filled_next slots n m content y st lt tells =
    let c = st.count in
    let within : m < length slots = omega arith in
    let made : set slots m y ≡ update (λ (z : Slot). y) slots m =
    set-update (λ (z : Slot). y) slots m y within in
    record {
      count = ap length made ∙ kept slots m ∙ c;
      each = λ o x below h. at o x below (sym (get_update (λ (z : Slot). y) slots m o)
          ∙ ap (λ xs. slice_get xs o) (sym made) ∙ h);
    }
  where
    kept : (xs : List Slot) (k : ℕ) → length (update (λ (z : Slot). y) xs k) ≡ length xs
    kept [] k = refl
    kept (x ∷ xs) zero = refl
    kept (x ∷ xs) (suc k) = ap suc (kept xs k)

    apart : (o : ℕ) → o < m + 1 → (m == o) ≡ false → o < m
    apart o below ne = by_bool (nat_lt o m) (λ _. o < m) (λ l. ltb-true o m l)
        (λ g. let ge = ltb-false o m g in absurd (let e : m ≡ o = omega arith in
        let y = eq-eqb m o e in cc))

    at : (o : ℕ) (x : Slot) → o < m + 1 → cond (m == o)
        (option_map (λ (z : Slot). y) (slice_get slots o)) (slice_get slots o) ≡ Some x
        → Tells x (content o)
    at o x below h =
        by_bool (m == o) (λ b. (m == o) ≡ b → cond b (option_map
        (λ (z : Slot). y) (slice_get slots o)) (slice_get slots o) ≡ Some x
        → Tells x (content o))
        (λ yes e k. subst (λ z. Tells z (content o)) (one_set y x (slice_get slots o) k)
        (subst (λ i. Tells y (content i)) (eqb-true m o yes) tells))
        (λ no e k. st.each o x (apart o below e) k) refl h

pub filled_all : (slots : List Slot) (n m : ℕ) (content : ℕ → Option (List ℕ))
    → FilledTo slots n m content → n ≤ m → Filled slots n content
filled_all slots n m content st le = record {
  count = st.count;
  each = λ o x h. st.each o x (let lt = slice_get_within slots o x h in let c = st.count in
      omega arith) h;
}

-- ---- new rows

pub new_row : (n : ℕ) → Filled (replicate n Absent) n (λ o. None)
new_row n = record {
  count = length-replicate n Absent;
  each = λ o x h. one o x (nat_lt o n) (sym (get_replicate Absent n o) ∙ h);
}
  where
    one : (o : ℕ) (x : Slot) (b : Bool) → cond b (Some Absent) None ≡ Some x → Tells x None
    one o x true h = let e : Absent ≡ x = cc in subst (λ z. Tells z None) e refl
    one o x false h = absurd (cc)

-- ---- a row of one action

pub one_row : (a : ℕ) (content : ℕ → Option (List ℕ)) (rows : List (List Slot)) (r : List Slot)
    → a < length rows → Filled r (length (get_or rows a r)) content
    → RowFilled a content rows (set rows a r)
one_row a content rows r lt full =
    let made : set rows a r ≡ update (λ (z : List Slot). r) rows a =
    set-update (λ (z : List Slot). r) rows a r lt in
    record {
      count = ap length made ∙ kept rows a;
      rest = λ k ne. ap (λ xs. slice_get xs k) made ∙ get_update (λ (z : List Slot). r) rows a k
          ∙ ap (λ b. cond b (option_map (λ z. r) (slice_get rows k)) (slice_get rows k)) ne;
      row = λ x y hx hy. here x y hx (sym (get_update (λ (z : List Slot). r) rows a a)
          ∙ ap (λ xs. slice_get xs a) (sym made) ∙ hy);
    }
  where
    kept : (xs : List (List Slot)) (k : ℕ) → length (update (λ (z : List Slot). r) xs k) ≡ length xs
    kept [] k = refl
    kept (x ∷ xs) zero = refl
    kept (x ∷ xs) (suc k) = ap suc (kept xs k)

    read : (xs : List (List Slot)) (i : ℕ) (x : List Slot) → slice_get xs i ≡ Some x
        → get_or xs i r ≡ x
    read [] i x h = absurd (cc)
    read (z ∷ xs) zero x h = cc
    read (z ∷ xs) (suc i) x h = read xs i x h

    here : (x y : List Slot) → slice_get rows a ≡ Some x
        → cond (a == a) (option_map (λ z. r) (slice_get rows a)) (slice_get rows a) ≡ Some y
        → Filled y (length x) content
    here x y hx h =
        let e : r ≡ y = (let k : cond (a == a) (option_map
        (λ (z : List Slot). r) (slice_get rows a)) (slice_get rows a) ≡ Some r =
        rw (eq-eqb a a refl, hx) refl in let q = sym k ∙ h in cc) in
        subst (λ z. Filled z (length x) content) e (subst (λ (z : List Slot). Filled r
        (length z) content) (read rows a x hx) full)

pub no_row : (a : ℕ) (content : ℕ → Option (List ℕ)) (rows : List (List Slot)) → length rows ≤ a
    → RowFilled a content rows rows
no_row a content rows le = record {
  count = refl;
  rest = λ k ne. refl;
  row = λ x y hx hy. absurd (let lt = slice_get_within rows a x hx in omega arith);
}

-- ---- the last file with a path

pub last_next : (xs : List NamedFile) (f : NamedFile) (path : List ℕ)
    → newer f path (last_file xs path) ≡ last_file (xs ++ f ∷ []) path
last_next [] f path = elim (bytes_eq f.path path) as
    (λ b. cond b (Some f.content) None ≡ or_else None (cond b (Some f.content) None))
    [ true ↦ refl | false ↦ refl ]
last_next (x ∷ xs) f path =
    assoc (bytes_eq f.path path) (last_file xs path) (cond (bytes_eq x.path path)
    (Some x.content) None)
    ∙ ap (λ (o : Option (List ℕ)). or_else o (cond (bytes_eq x.path path) (Some x.content) None))
    (last_next xs f path)
  where
    assoc : (b : Bool) (y z : Option (List ℕ)) → cond b (Some f.content) (or_else y z) ≡ or_else
        (cond b (Some f.content) y) z
    assoc true y z = refl
    assoc false y z = refl

-- ---- new rows, one after the other

at_front : {X : Type 0} (xs ys : List X) (i : ℕ) → i < length xs
    → slice_get (xs ++ ys) i ≡ slice_get xs i
at_front [] ys i lt = absurd (omega arith)
at_front (x ∷ xs) ys zero lt = refl
at_front (x ∷ xs) ys (suc i) lt = at_front xs ys i (omega arith)

at_end : {X : Type 0} (xs : List X) (y : X) (i : ℕ) → length xs ≡ i
    → slice_get (xs ++ y ∷ []) i ≡ Some y
at_end [] y zero h = refl
at_end [] y (suc i) h = absurd (omega arith)
at_end (x ∷ xs) y zero h = absurd (omega arith)
at_end (x ∷ xs) y (suc i) h = at_end xs y i (omega arith)

pub new_next : (works : List PlanAction) (work : PlanAction) (rows : List (List Slot))
    (x : List Slot) → AreNew works rows → Filled x (length work.outputs) (λ o. None)
    → AreNew (works ++ work ∷ []) (rows ++ x ∷ [])
new_next works work rows x st full = record {
  count = (let c = st.count in omega (
    arith,
    length-append rows (x ∷ []),
    length-append works
        (work ∷ []),
  ));
  each = λ a w y hw hy. by_bool (nat_lt a (length rows))
      (λ b. nat_lt a (length rows) ≡ b → Filled y (length w.outputs) (λ o. None))
      (λ yes _. let c = st.count in let lt = ltb-true a (length rows) yes in
      st.each a w y (sym (at_front works (work ∷ []) a (omega arith)) ∙ hw)
      (sym (at_front rows (x ∷ []) a lt) ∙ hy))
      (λ past _. let c = st.count in let ge = ltb-false a (length rows) past in
      let below = slice_get_within (rows ++ x ∷ []) a y hy in
      let here : length rows ≡ a = omega (arith, length-append rows (x ∷ [])) in
      let row : x ≡ y = (let q = sym (at_end rows x a here) ∙ hy in cc) in
      let of : work ≡ w = (let q = sym (at_end works work a (omega arith)) ∙ hw in cc) in
      subst (λ (v : PlanAction). Filled y (length v.outputs) (λ o. None)) of
      (subst (λ z. Filled z (length work.outputs) (λ o. None)) row full)) refl;
}

-- ---- rows behind a borrow

pub whole_rows : (a : ℕ) (content : ℕ → Option (List ℕ)) (v : Vec (List Slot))
    (xs ys : List (List Slot)) → xs ≡ v.items → length xs ≡ v.len → RowFilled a content xs ys
    → RowFilled a content v.items (with_items v ys).items
whole_rows a content v xs ys e len full =
    let made = with_items_is v ys (full.count ∙ len) in
    subst (λ zs. RowFilled a content v.items zs) (sym made)
    (subst (λ zs. RowFilled a content zs ys) e full)

pub same_content : (a : ℕ) (c d : ℕ → Option (List ℕ)) (xs ys : List (List Slot))
    → ((o : ℕ) → c o ≡ d o) → RowFilled a c xs ys → RowFilled a d xs ys
same_content a c d xs ys same full = record {
  count = full.count;
  rest = full.rest;
  row = λ x y hx hy. (let one = full.row x y hx hy in
      record { count = one.count; each = λ o z h. subst (Tells z) (same o) (one.each o z h) });
}
