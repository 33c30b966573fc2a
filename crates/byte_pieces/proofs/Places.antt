-- Where a byte stands in the pieces.
use Rattle.std.proofs.Common.{◌≡◌, ℕ, zero, suc, ◌+◌, ◌-◌, ◌*◌, ◌/◌, ◌%◌, ◌≤◌, ◌<◌, List, [], ◌∷◌, ◌++◌, length, take, drop, get_or, refl, sym, ap, ◌∙◌, subst, append_assoc, arith, ◌^◌, min, Bool, true, false, inl, inr}
use Rattle.std.specs.Prelude.{All, cond, nat_eq, ◌⊎◌}
use Rattle.std.specs.Vec.{vec_capacity}
use Rattle.std.proofs.lemmas.List.Concat.{flat_map-append}
use Rattle.std.proofs.lemmas.List.Elements.{All-append, All-push}
use Rattle.std.proofs.lemmas.Bool.{eqb-true}
use Rattle.std.proofs.lemmas.Nat.{div-add-mod', mod_below}
use Rattle.std.proofs.lemmas.List.{take_rest, length-append, length-drop, drop-append-le, drop-drop, drop_at, take_at, take_all, append-nil, take-append-drop, take-take, length-take-le, flat_map_more, nil_from_length}
use Rattle.byte_pieces.specs.Queues.{Piece, AreHeld, HasRoom, IsFree, IsFull, IsPartAt, bytes_of, filled}

all_behind : (x : Piece) (xs : List Piece) → All IsFull (x ∷ xs) → All IsFull xs
all_behind x xs a k d l = a (suc k) d (omega arith)

pub full_length : (full : List Piece) → All IsFull full → length (bytes_of full) ≡ 16384 * length full
full_length [] a = refl
full_length (x ∷ xs) a = let h : length x.items ≡ 16384 = a 0 x (omega arith) in let t = full_length xs (all_behind x xs a) in omega (arith, length-append x.items (bytes_of xs))

-- a place behind the first piece is one in the others
next_piece : (x : Piece) (rest : List ℕ) (n : ℕ) → length x.items ≡ 16384 → drop (16384 + n) (x.items ++ rest) ≡ drop n rest
next_piece x rest n full = sym (drop-drop n 16384 (x.items ++ rest)) ∙ ap (drop n) (drop_at x.items rest 16384 full)

pub drop_piece : (full : List Piece) (last : List ℕ) (i o : ℕ) (d : Piece) → All IsFull full → i < length full → o ≤ 16384
    → drop (16384 * i + o) (bytes_of full ++ last) ≡ drop o (get_or full i d).items ++ (bytes_of (drop (i + 1) full) ++ last)
drop_piece [] last i o d a l le = absurd (omega arith)
drop_piece (x ∷ xs) last zero o d a l le =
    let h : length x.items ≡ 16384 = a 0 x (omega arith) in
    let z : 16384 * 0 + o ≡ o = omega arith in
    ap (λ (m : ℕ). drop m ((x.items ++ bytes_of xs) ++ last)) z ∙ ap (drop o) (append_assoc x.items (bytes_of xs) last) ∙ drop-append-le o x.items (bytes_of xs ++ last) (omega arith)
drop_piece (x ∷ xs) last (suc i) o d a l le =
    let h : length x.items ≡ 16384 = a 0 x (omega arith) in
    let n : 16384 * suc i + o ≡ 16384 + (16384 * i + o) = omega arith in
    let e : suc (i + 1) ≡ suc i + 1 = omega arith in
    let rest = drop_piece xs last i o d (all_behind x xs a) (omega arith) le in
    let whole : bytes_of (x ∷ xs) ++ last ≡ x.items ++ (bytes_of xs ++ last) = append_assoc x.items (bytes_of xs) last in
    ap (λ (m : ℕ). drop m (bytes_of (x ∷ xs) ++ last)) n ∙ (ap (drop (16384 + (16384 * i + o))) whole ∙ (next_piece x (bytes_of xs ++ last) (16384 * i + o) h
    ∙ (rest ∙ ap (λ (m : ℕ). drop o (get_or xs i d).items ++ (bytes_of (drop m (x ∷ xs)) ++ last)) e)))

-- a front of what stands there, which isn't empty
part_at : (bytes part rest : List ℕ) (place : ℕ) → drop place bytes ≡ part ++ rest → (place < length bytes → 0 < length part) → IsPartAt bytes place part
part_at bytes part rest place is some = record {
  front = sym (ap (take (length part)) is ∙ take_at part rest (length part) refl);
  some = some;
  within = (let l : length (drop place bytes) ≡ length (part ++ rest) = ap length is in omega (arith, length-drop place bytes, length-append part rest));
}

pub part_of_full : (full : List Piece) (last part : List ℕ) (place i o : ℕ) (piece : Piece) → All IsFull full → place ≡ 16384 * i + o → o < 16384 → i < length full → piece ≡ get_or full i piece
    → part ≡ drop o piece.items → IsPartAt (bytes_of full ++ last) place part
part_of_full full last part place i o piece a is small l at e =
    let h : length piece.items ≡ 16384 = subst (λ (p : Piece). length p.items ≡ 16384) (sym at) (a i piece l) in
    let d : length part ≡ 16384 - o = ap length e ∙ length-drop o piece.items ∙ ap (λ (n : ℕ). n - o) h in
    part_at (bytes_of full ++ last) part (bytes_of (drop (i + 1) full) ++ last) place
    (ap (λ (n : ℕ). drop n (bytes_of full ++ last)) is ∙ drop_piece full last i o piece a l (omega arith) ∙ ap (λ (p : Piece). drop o p.items ++ (bytes_of (drop (i + 1) full) ++ last)) (sym at) ∙ ap (λ (x : List ℕ). x ++ (bytes_of (drop (i + 1) full) ++ last)) (sym e))
    (λ _. omega arith)

pub drop_all_full : (bytes last : List ℕ) (n : ℕ) → length bytes ≤ n → drop n (bytes ++ last) ≡ drop (n - length bytes) last
drop_all_full bytes last n le = let m : n ≡ length bytes + (n - length bytes) = omega arith in
    ap (λ (k : ℕ). drop k (bytes ++ last)) m ∙ (sym (drop-drop (n - length bytes) (length bytes) (bytes ++ last)) ∙ ap (drop (n - length bytes)) (drop_at bytes last (length bytes) refl))

pub part_of_last : (full : List Piece) (last part : List ℕ) (place : ℕ) → All IsFull full → 16384 * length full ≤ place → place ≤ length (bytes_of full ++ last) → part ≡ drop (place - 16384 * length full) last
    → IsPartAt (bytes_of full ++ last) place part
part_of_last full last part place a le within e =
    let n = full_length full a in
    let same : place - length (bytes_of full) ≡ place - 16384 * length full = ap (λ (m : ℕ). place - m) n in
    let is : drop place (bytes_of full ++ last) ≡ part = drop_all_full (bytes_of full) last place (omega arith) ∙ ap (λ (k : ℕ). drop k last) same ∙ sym e in
    part_at (bytes_of full ++ last) part [] place (is ∙ sym (append-nil part))
    (λ more. let l : length (drop place (bytes_of full ++ last)) ≡ length part = ap length is in omega (arith, length-drop place (bytes_of full ++ last)))

-- ---- a part of the pieces

pub last_within : (full : List Piece) (last : List ℕ) (place n : ℕ) → All IsFull full → n ≡ length full → place ≤ length (bytes_of full ++ last) → place - 16384 * n ≤ length last
last_within full last place n a is within = let l = full_length full a in omega (arith, length-append (bytes_of full) last)

pub part_in_full : (full : List Piece) (last : List ℕ) (place n : ℕ) (piece : Piece) (bytes : List ℕ) → All IsFull full → n ≡ length full → place / 16384 < n → piece ≡ get_or full (place / 16384) piece → bytes ≡ piece.items
    → IsPartAt (bytes_of full ++ last) place (take (length bytes - place % 16384) (drop (place % 16384) bytes))
part_in_full full last place n piece bytes a is l at e =
    let whole = div-add-mod' place 16384 in
    part_of_full full last (take (length bytes - place % 16384) (drop (place % 16384) bytes)) place (place / 16384) (place % 16384) piece a (omega arith) (mod_below place 16384 (omega arith)) (omega arith) at
    (take_rest bytes (place % 16384) ∙ ap (drop (place % 16384)) e)

pub part_in_last : (full : List Piece) (last : List ℕ) (place n : ℕ) → All IsFull full → n ≡ length full → (place / 16384 < n → ⊥) → place ≤ length (bytes_of full ++ last)
    → IsPartAt (bytes_of full ++ last) place (take (length last - (place - 16384 * n)) (drop (place - 16384 * n) last))
part_in_last full last place n a is past within =
    let whole = div-add-mod' place 16384 in
    let le : n ≤ place / 16384 = omega (arith, past) in
    part_of_last full last (take (length last - (place - 16384 * n)) (drop (place - 16384 * n) last)) place a (omega arith) within
    (take_rest last (place - 16384 * n) ∙ ap (λ (m : ℕ). drop (place - 16384 * m) last) is)

pub place_within : (all now : List ℕ) (total read at : ℕ) → drop read all ≡ now → total ≡ length all → read ≤ total → at ≤ length now → read + at ≤ total
place_within all now total read at is counted begun le = let l : length (drop read all) ≡ length now = ap length is in omega (arith, length-drop read all)

pub part_unread : (all now part : List ℕ) (read at : ℕ) → drop read all ≡ now → read ≤ length all → IsPartAt all (read + at) part → IsPartAt now at part
part_unread all now part read at is begun p =
    let l : length (drop read all) ≡ length now = ap length is in
    let front = p.front in let some = p.some in let within = p.within in record {
      front = front ∙ ap (take (length part)) (sym (drop-drop at read all) ∙ ap (drop at) is);
      some = λ more. some (omega (arith, length-drop read all));
      within = omega (arith, length-drop read all);
    }

-- ---- a copy

pub take-append-take : (i j : ℕ) (xs : List ℕ) → take i xs ++ take j (drop i xs) ≡ take (i + j) xs
take-append-take zero j xs = let z : j ≡ 0 + j = omega arith in ap (λ (k : ℕ). take k xs) z
take-append-take (suc i) j [] = take_all j [] (omega arith) ∙ sym (take_all (suc i + j) [] (omega arith))
take-append-take (suc i) j (x ∷ xs) = let e : suc (i + j) ≡ suc i + j = omega arith in ap (λ (l : List ℕ). x ∷ l) (take-append-take i j xs) ∙ ap (λ (k : ℕ). take k (x ∷ xs)) e

copied_on : (all part : List ℕ) (start at n : ℕ) → start ≤ at → at + n ≤ length all → part ≡ take n (drop at all) → take (at - start) (drop start all) ++ part ≡ take (at + n - start) (drop start all)
copied_on all part start at n le within is =
    let here : drop at all ≡ drop (at - start) (drop start all) = (let m : at ≡ start + (at - start) = omega arith in ap (λ (k : ℕ). drop k all) m ∙ sym (drop-drop (at - start) start all)) in
    let sum : at + n - start ≡ (at - start) + n = omega arith in
    let part' : part ≡ take n (drop (at - start) (drop start all)) = is ∙ ap (take n) here in
    ap (λ (x : List ℕ). take (at - start) (drop start all) ++ x) part' ∙ (take-append-take (at - start) n (drop start all) ∙ ap (λ (k : ℕ). take k (drop start all)) (sym sum))

pub copied_more : (all done part : List ℕ) (start at fin m : ℕ) → start ≤ at → at ≤ fin → fin ≤ length all → done ≡ take (at - start) (drop start all) → IsPartAt all at part → m ≡ min (length part) (fin - at)
    → (start ≤ at + length (take m part)) × (at + length (take m part) ≤ fin) × (done ++ take m part ≡ take (at + length (take m part) - start) (drop start all))
copied_more all done part start at fin m low high within is p least =
    let short : m ≤ length part = omega arith in
    let n : length (take m part) ≡ m = length-take-le m part short in
    let front = p.front in
    let piece : take m part ≡ take m (drop at all) = ap (take m) front ∙ take-take m (length part) (drop at all) short in (
      omega arith,
      omega arith,
      ap (λ (x : List ℕ). x ++ take m part) is ∙ (copied_on all (take m part) start at m low (omega arith) piece ∙ ap (λ (k : ℕ). take (at + k - start) (drop start all)) (sym n)),
    )

-- ---- what is fed, and what is dropped

pub more_pieces : (full : List Piece) (piece : Piece) (front behind rest bytes : List ℕ) → bytes_of full ++ rest ≡ bytes → rest ≡ front ++ behind → piece.items ≡ front → bytes_of (full ++ piece ∷ []) ++ behind ≡ bytes
more_pieces full piece front behind rest bytes is parts same =
    ap (λ (x : List ℕ). x ++ behind) (sym (flat_map_more (λ (p : Piece). p.items) [] full piece)) ∙ (append_assoc (bytes_of full) piece.items behind
    ∙ (ap (λ (x : List ℕ). bytes_of full ++ (x ++ behind)) same ∙ (ap (λ (x : List ℕ). bytes_of full ++ x) (sym parts) ∙ is)))

pub next_held : (full rest : List Piece) (piece last : Piece) (total read : ℕ) → full ≡ piece ∷ rest → AreHeld full last total read → 16384 ≤ read
    → AreHeld rest last (total - 16384) (read - 16384) × (drop (read - 16384) (bytes_of rest ++ last.items) ≡ drop read (bytes_of full ++ last.items))
next_held full rest piece last total read is h past =
    let each : All IsFull (piece ∷ rest) = subst (All IsFull) is h.each in
    let one : length piece.items ≡ 16384 = each 0 piece (omega arith) in
    let all : bytes_of full ++ last.items ≡ piece.items ++ (bytes_of rest ++ last.items) = ap (λ (f : List Piece). bytes_of f ++ last.items) is ∙ append_assoc piece.items (bytes_of rest) last.items in
    let counted = h.counted in let numbered = h.numbered in let begun = h.begun in
    let l : length (bytes_of full ++ last.items) ≡ length (piece.items ++ (bytes_of rest ++ last.items)) = ap length all in
    let n : read ≡ 16384 + (read - 16384) = omega arith in (
      record {
        each = all_behind piece rest each;
        last_fits = h.last_fits;
        room = h.room;
        counted = omega (arith, length-append piece.items (bytes_of rest ++ last.items));
        numbered = omega arith;
        begun = omega arith;
      },
      sym (ap (drop read) all ∙ (ap (λ (k : ℕ). drop k (piece.items ++ (bytes_of rest ++ last.items))) n ∙ next_piece piece (bytes_of rest ++ last.items) (read - 16384) one)),
    )

-- what the last piece is once it took these
took : (last last' : Piece) (bytes : List ℕ) (free : ℕ) → last'.items ≡ last.items ++ bytes → vec_capacity last ≤ vec_capacity last' → IsFree last free → length bytes ≤ free
    → HasRoom last' × (length last'.items ≤ 16384)
took last last' bytes free grew more (inl room) fits =
    let l : length last'.items ≡ length (last.items ++ bytes) = ap length grew in
    (inr (let c = room.0 in omega arith), (let sum = room.1 in omega (arith, length-append last.items bytes)))
took last last' bytes free grew more (inr none) fits =
    let l : length last'.items ≡ length (last.items ++ bytes) = ap length grew in
    let e = none.0 in let z = none.1 in
    (inl (omega (arith, length-append last.items bytes)), omega (arith, length-append last.items bytes))

pub fed_last : (full : List Piece) (last last' : Piece) (total total' read free : ℕ) (bytes now : List ℕ) → AreHeld full last total read → drop read (bytes_of full ++ last.items) ≡ now → last'.items ≡ last.items ++ bytes
    → vec_capacity last ≤ vec_capacity last' → IsFree last free → length bytes ≤ free → total' ≡ total + length bytes → total' < 2 ^ 64
    → AreHeld full last' total' read × (drop read (bytes_of full ++ last'.items) ≡ now ++ bytes)
fed_last full last last' total total' read free bytes now h is grew more is_free fits sum small =
    let all : bytes_of full ++ last'.items ≡ (bytes_of full ++ last.items) ++ bytes = ap (λ (x : List ℕ). bytes_of full ++ x) grew ∙ sym (append_assoc (bytes_of full) last.items bytes) in
    let l : length (bytes_of full ++ last'.items) ≡ length ((bytes_of full ++ last.items) ++ bytes) = ap length all in
    let counted = h.counted in let begun = h.begun in
    let t = took last last' bytes free grew more is_free fits in (
      record {
        each = h.each;
        last_fits = t.1;
        room = t.0;
        counted = omega (arith, length-append (bytes_of full ++ last.items) bytes);
        numbered = small;
        begun = omega arith;
      },
      ap (drop read) all ∙ (drop-append-le read (bytes_of full ++ last.items) bytes (omega arith) ∙ ap (λ (x : List ℕ). x ++ bytes) is),
    )

-- the last piece is full once it took all that it can, or it has no bytes
filled_is : (p : Piece) → (b : Bool) → nat_eq (length p.items) 0 ≡ b → (length p.items ≡ 16384) ⊎ (length p.items ≡ 0) → (bytes_of (cond b [] (p ∷ [])) ≡ p.items) × All IsFull (cond b [] (p ∷ []))
filled_is p true e full = (sym (nil_from_length p.items (eqb-true (length p.items) 0 e)), λ k d l. absurd (omega arith))
filled_is p false e (inl full) = (append-nil p.items, All-push IsFull [] p (λ k d l. absurd (omega arith)) full)
filled_is p false e (inr none) = absurd (let t : nat_eq (length p.items) 0 ≡ nat_eq 0 0 = ap (λ (n : ℕ). nat_eq n 0) none in let f : true ≡ false = sym t ∙ e in cc)

at_end : (last last1 : Piece) (front bytes : List ℕ) (free : ℕ) → front ≡ take free bytes → free < length bytes → last1.items ≡ last.items ++ front → IsFree last free → (length last1.items ≡ 16384) ⊎ (length last1.items ≡ 0)
at_end last last1 front bytes free is less grew (inl room) =
    let l : length last1.items ≡ length (last.items ++ front) = ap length grew in
    let n : length front ≡ free = ap length is ∙ length-take-le free bytes (omega arith) in
    inl (let sum = room.1 in omega (arith, length-append last.items front))
at_end last last1 front bytes free is less grew (inr none) =
    let l : length last1.items ≡ length (last.items ++ front) = ap length grew in
    let n : length front ≡ free = ap length is ∙ length-take-le free bytes (omega arith) in
    inr (let e = none.0 in let z = none.1 in omega (arith, length-append last.items front))

pub fed_pieces : (full full' made : List Piece) (last last1 last' : Piece) (total total' read free : ℕ) (bytes front behind now : List ℕ) → AreHeld full last total read → drop read (bytes_of full ++ last.items) ≡ now
    → IsFree last free → free < length bytes → front ≡ take free bytes → behind ≡ drop free bytes → last1.items ≡ last.items ++ front → bytes_of made ++ last'.items ≡ behind → All IsFull made
    → (length last'.items ≤ 16384) × HasRoom last' → full' ≡ full ++ filled last1 ++ made → total' ≡ total + length bytes → total' < 2 ^ 64
    → AreHeld full' last' total' read × (drop read (bytes_of full' ++ last'.items) ≡ now ++ bytes)
fed_pieces full full' made last last1 last' total total' read free bytes front behind now h is is_free less front_is behind_is grew parts each ends put sum small =
    let fill = filled_is last1 (nat_eq (length last1.items) 0) refl (at_end last last1 front bytes free front_is less grew is_free) in
    let whole : front ++ behind ≡ bytes = ap (λ (x : List ℕ). x ++ behind) front_is ∙ (ap (λ (x : List ℕ). take free bytes ++ x) behind_is ∙ take-append-drop free bytes) in
    let put_bytes : bytes_of full' ≡ (bytes_of full ++ last1.items) ++ bytes_of made =
    ap bytes_of put ∙ (flat_map-append (λ (p : Piece). p.items) (full ++ filled last1) made ∙ ap (λ (x : List ℕ). x ++ bytes_of made) (flat_map-append (λ (p : Piece). p.items) full (filled last1) ∙ ap (λ (x : List ℕ). bytes_of full ++ x) fill.0)) in
    let all : bytes_of full' ++ last'.items ≡ (bytes_of full ++ last.items) ++ bytes =
    ap (λ (x : List ℕ). x ++ last'.items) put_bytes ∙ (append_assoc (bytes_of full ++ last1.items) (bytes_of made) last'.items ∙ (ap (λ (x : List ℕ). (bytes_of full ++ last1.items) ++ x) parts
    ∙ (ap (λ (x : List ℕ). (bytes_of full ++ x) ++ behind) grew ∙ (ap (λ (x : List ℕ). x ++ behind) (sym (append_assoc (bytes_of full) last.items front))
    ∙ (append_assoc (bytes_of full ++ last.items) front behind ∙ ap (λ (x : List ℕ). (bytes_of full ++ last.items) ++ x) whole))))) in
    let l : length (bytes_of full' ++ last'.items) ≡ length ((bytes_of full ++ last.items) ++ bytes) = ap length all in
    let counted = h.counted in let begun = h.begun in (
      record {
        each = subst (All IsFull) (sym put) (All-append IsFull (full ++ filled last1) made (All-append IsFull full (filled last1) h.each fill.1) each);
        last_fits = ends.0;
        room = ends.1;
        counted = omega (arith, length-append (bytes_of full ++ last.items) bytes);
        numbered = small;
        begun = omega arith;
      },
      ap (drop read) all ∙ (drop-append-le read (bytes_of full ++ last.items) bytes (omega arith) ∙ ap (λ (x : List ℕ). x ++ bytes) is),
    )
