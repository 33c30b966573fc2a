-- The function that reads a varint says what the grammar says.
use Rattle.std.proofs.Common.{◌≡◌, ℕ, zero, suc, ◌+◌, ◌-◌, ◌*◌, ◌/◌, ◌%◌, ◌^◌, ◌<◌, ◌≤◌, List, [], ◌∷◌, ◌++◌, length, take, drop, Result, Ok, Err, refl, sym, ap, subst, ◌∙◌, append_assoc, arith, inl, inr}
use Rattle.std.proofs.lemmas.Bool.{lt-ltb, le-ltb, le-leb, lt-leb, cases_lt}
use Rattle.std.proofs.lemmas.List.{append-nil, length-append, length-drop, take_at}
use Rattle.std.specs.List.{AllByRecursion}
use Rattle.wire_fields.specs.declared.varint.Varint.{Varint}
use Rattle.wire_fields.specs.declared.varint.Varint.TheVariants.{Whole, Cut, Bad}
use Rattle.wire_fields.specs.Varint.{Fault, CutField, BadVarint, IsVarintAt, below, number_at, varint_at, number_bytes, varint}
use Rattle.wire_fields.specs.Grammar.{Continues, payload, IsVarint, IsCutVarint, IsBadVarint, BeginsWith, SpellsVarint, VarintGrammar}
use Rattle.wire_fields.proofs.Again.{varint_again}

-- a number whose last byte has so many bytes before it at most
record Begins (more : ℕ) (bytes : List ℕ) (number : ℕ) (rest : List ℕ) : Type 0 where
  front : List ℕ
  last : ℕ
  whole : bytes ≡ front ++ last ∷ rest
  continued : AllByRecursion Continues front
  ended : last < 128
  short : length front ≤ more
  top : length front ≡ more → last ≤ 1
  value : number ≡ payload (front ++ last ∷ [])

record IsBad (more : ℕ) (bytes : List ℕ) : Type 0 where
  front : List ℕ
  top : ℕ
  rest : List ℕ
  whole : bytes ≡ front ++ top ∷ rest
  continued : AllByRecursion Continues front
  long : length front ≡ more
  above : 1 < top

abbrev done : ℕ × List ℕ → Result (ℕ × List ℕ) Fault
done read = Ok read

abbrev failed : Fault → Result (ℕ × List ℕ) Fault
failed fault = Err fault

done_is : (x y : ℕ × List ℕ) → done x ≡ done y → (x.0 ≡ y.0) × (x.1 ≡ y.1)
done_is x y e = let e' : x ≡ y = cc in (ap (λ (p : ℕ × List ℕ). p.0) e', ap (λ (p : ℕ × List ℕ). p.1) e')

-- ---- a whole number

begins_here : (more byte : ℕ) (rest : List ℕ) (n : ℕ) (r : List ℕ) → (more ≡ 0 → byte ≤ 1) → byte < 128 → done (byte, rest) ≡ done (n, r) → Begins more (byte ∷ rest) n r
begins_here more byte rest n r top small e =
    let d = done_is (byte, rest) (n, r) e in
    record {
      front = [];
      last = byte;
      whole = ap (λ (s : List ℕ). byte ∷ s) d.1;
      continued = tt;
      ended = small;
      short = omega arith;
      top = λ z. top (sym z);
      value = let v : byte ≡ byte % 128 + 128 * 0 = omega arith in sym d.0 ∙ v;
    }

begins_more : (more byte : ℕ) (rest : List ℕ) (m n : ℕ) (s r : List ℕ) → 128 ≤ byte → Begins more rest m s → done (byte % 128 + 128 * m, s) ≡ done (n, r) → Begins (suc more) (byte ∷ rest) n r
begins_more more byte rest m n s r big b e =
    let d = done_is (byte % 128 + 128 * m, s) (n, r) e in
    let short = b.short in
    record {
      front = byte ∷ b.front;
      last = b.last;
      whole = ap (λ (t : List ℕ). byte ∷ t) b.whole ∙ ap (λ (t : List ℕ). (byte ∷ b.front) ++ b.last ∷ t) d.1;
      continued = (big, b.continued);
      ended = b.ended;
      short = omega arith;
      top = λ z. b.top (omega arith);
      value = sym d.0 ∙ ap (λ (k : ℕ). byte % 128 + 128 * k) b.value;
    }

begins_below : (more byte : ℕ) (rest : List ℕ) (read : Result (ℕ × List ℕ) Fault) (n : ℕ) (r : List ℕ) → 128 ≤ byte
    → ((m : ℕ) (s : List ℕ) → read ≡ done (m, s) → Begins more rest m s) → below byte read ≡ done (n, r) → Begins (suc more) (byte ∷ rest) n r
begins_below more byte rest (Ok read) n r big goes e = begins_more more byte rest read.0 n read.1 r big (goes read.0 read.1 refl) e
begins_below more byte rest (Err fault) n r big goes e = absurd cc

number_begins : (more : ℕ) (bytes : List ℕ) (n : ℕ) (r : List ℕ) → number_at more bytes ≡ done (n, r) → Begins more bytes n r
unfolding number_at
number_begins zero [] n r e = absurd cc
number_begins (suc more) [] n r e = absurd cc
number_begins zero (byte ∷ rest) n r e =
    elim (cases_lt 1 byte) [
      | inl big ↦ let f = rw (lt-leb byte 1 big) at e in absurd cc
      | inr small ↦ begins_here 0 byte rest n r (λ z. small) (omega arith) (rw (le-leb byte 1 small) at e)
    ]
number_begins (suc more) (byte ∷ rest) n r e =
    elim (cases_lt byte 128) [
      | inl small ↦ begins_here (suc more) byte rest n r (λ z. absurd (omega arith)) small (rw (lt-ltb byte 128 small) at e)
      | inr big ↦ begins_below more byte rest (number_at more rest) n r big (λ m s d. number_begins more rest m s d) (rw (le-ltb byte 128 big) at e)
    ]

begins_read : (more : ℕ) (front : List ℕ) (last : ℕ) (rest : List ℕ) → AllByRecursion Continues front → last < 128 → length front ≤ more → (length front ≡ more → last ≤ 1)
    → number_at more (front ++ last ∷ rest) ≡ done (payload (front ++ last ∷ []), rest)
unfolding number_at
begins_read zero [] last rest all ended short top =
    let v : last % 128 + 128 * 0 ≡ last = omega arith in
    rw (le-leb last 1 (top refl), v) refl
begins_read (suc more) [] last rest all ended short top =
    let v : last % 128 + 128 * 0 ≡ last = omega arith in
    rw (lt-ltb last 128 ended, v) refl
begins_read zero (byte ∷ front) last rest all ended short top = absurd (omega arith)
begins_read (suc more) (byte ∷ front) last rest all ended short top =
    let tail = begins_read more front last rest all.1 ended (omega arith) (λ e. top (omega arith)) in
    rw (le-ltb byte 128 all.0, tail) refl

-- ---- bytes that end inside a number

below_cut : (byte : ℕ) (read : Result (ℕ × List ℕ) Fault) (fault : Fault) → below byte read ≡ failed fault → read ≡ failed fault
below_cut byte (Ok read) fault e = absurd cc
below_cut byte (Err x) fault e = e

number_cut : (more : ℕ) (bytes : List ℕ) → number_at more bytes ≡ failed CutField → AllByRecursion Continues bytes × (length bytes ≤ more)
unfolding number_at
number_cut zero [] e = (tt, omega arith)
number_cut (suc more) [] e = (tt, omega arith)
number_cut zero (byte ∷ rest) e =
    elim (cases_lt 1 byte) [
      | inl big ↦ let f = rw (lt-leb byte 1 big) at e in absurd cc
      | inr small ↦ let f = rw (le-leb byte 1 small) at e in absurd cc
    ]
number_cut (suc more) (byte ∷ rest) e =
    elim (cases_lt byte 128) [
      | inl small ↦ let f = rw (lt-ltb byte 128 small) at e in absurd cc
      | inr big ↦
          let tail = number_cut more rest (below_cut byte (number_at more rest) CutField (rw (le-ltb byte 128 big) at e)) in
          let short = tail.1 in
          ((big, tail.0), omega arith)
    ]

cut_read : (more : ℕ) (bytes : List ℕ) → AllByRecursion Continues bytes → length bytes ≤ more → number_at more bytes ≡ failed CutField
unfolding number_at
cut_read zero [] all short = refl
cut_read (suc more) [] all short = refl
cut_read zero (byte ∷ rest) all short = absurd (omega arith)
cut_read (suc more) (byte ∷ rest) all short = rw (le-ltb byte 128 all.0, cut_read more rest all.1 (omega arith)) refl

-- ---- no number of 64 bits

bad_here : (byte : ℕ) (rest : List ℕ) → 1 < byte → IsBad 0 (byte ∷ rest)
bad_here byte rest big = record { front = []; top = byte; rest = rest; whole = refl; continued = tt; long = refl; above = big }

bad_more : (more byte : ℕ) (rest : List ℕ) → 128 ≤ byte → IsBad more rest → IsBad (suc more) (byte ∷ rest)
bad_more more byte rest big b = record {
  front = byte ∷ b.front;
  top = b.top;
  rest = b.rest;
  whole = ap (λ (t : List ℕ). byte ∷ t) b.whole;
  continued = (big, b.continued);
  long = ap (λ (k : ℕ). suc k) b.long;
  above = b.above;
}

number_bad : (more : ℕ) (bytes : List ℕ) → number_at more bytes ≡ failed BadVarint → IsBad more bytes
unfolding number_at
number_bad zero [] e = absurd cc
number_bad (suc more) [] e = absurd cc
number_bad zero (byte ∷ rest) e =
    elim (cases_lt 1 byte) [
      | inl big ↦ bad_here byte rest big
      | inr small ↦ let f = rw (le-leb byte 1 small) at e in absurd cc
    ]
number_bad (suc more) (byte ∷ rest) e =
    elim (cases_lt byte 128) [
      | inl small ↦ let f = rw (lt-ltb byte 128 small) at e in absurd cc
      | inr big ↦ bad_more more byte rest big (number_bad more rest (below_cut byte (number_at more rest) BadVarint (rw (le-ltb byte 128 big) at e)))
    ]

bad_read : (more : ℕ) (front : List ℕ) (top : ℕ) (rest : List ℕ) → AllByRecursion Continues front → length front ≡ more → 1 < top → number_at more (front ++ top ∷ rest) ≡ failed BadVarint
unfolding number_at
bad_read zero [] top rest all long above = rw (lt-leb top 1 above) refl
bad_read (suc more) [] top rest all long above = absurd (omega arith)
bad_read zero (byte ∷ front) top rest all long above = absurd (omega arith)
bad_read (suc more) (byte ∷ front) top rest all long above =
    let shorter : length front ≡ more = omega arith in
    rw (le-ltb byte 128 all.0, bad_read more front top rest all.1 shorter above) refl

-- ---- the written form

few_bytes : (more : ℕ) (front : List ℕ) (last : ℕ) → AllByRecursion Continues front → last < 128 → length front ≤ more
    → length (number_bytes more (payload (front ++ last ∷ []))) ≤ length front + 1
unfolding number_bytes
few_bytes zero [] last all ended short = omega arith
few_bytes (suc more) [] last all ended short =
    let small : last % 128 + 128 * 0 < 128 = omega arith in
    rw (lt-ltb (last % 128 + 128 * 0) 128 small) (omega arith)
few_bytes zero (byte ∷ front) last all ended short = absurd (omega arith)
few_bytes (suc more) (byte ∷ front) last all ended short =
    let n = payload (front ++ last ∷ []) in
    elim (cases_lt (byte % 128 + 128 * n) 128) [
      | inl small ↦ rw (lt-ltb (byte % 128 + 128 * n) 128 small) (omega arith)
      | inr big ↦
          let tail = few_bytes more front last all.1 ended (omega arith) in
          let rest : (byte % 128 + 128 * n) / 128 ≡ n = omega arith in
          rw (le-ltb (byte % 128 + 128 * n) 128 big, rest) (omega (arith, tail))
    ]

-- ---- the grammar

last_before : (front rest : List ℕ) (last : ℕ) → (front ++ last ∷ []) ++ rest ≡ front ++ last ∷ rest
last_before front rest last = append_assoc front (last ∷ []) rest

starts : (bytes : List ℕ) (n : ℕ) (rest : List ℕ) → Begins 9 bytes n rest → BeginsWith bytes n rest
starts bytes n rest b = record {
  front = b.front ++ b.last ∷ [];
  spelled = record { front = b.front; last = b.last; whole = refl; continued = b.continued; ended = b.ended; short = b.short; tenth = b.top; value = b.value };
  whole = b.whole ∙ sym (last_before b.front rest b.last);
}

whole_read : (bytes : List ℕ) (n : ℕ) (rest : List ℕ) → BeginsWith bytes n rest → varint_at bytes ≡ Ok (n, rest)
unfolding varint_at
whole_read bytes n rest b =
    let v = b.spelled in
    let e : bytes ≡ v.front ++ v.last ∷ rest = b.whole ∙ ap (λ (s : List ℕ). s ++ rest) v.whole ∙ last_before v.front rest v.last in
    let m : n ≡ payload (v.front ++ v.last ∷ []) = v.value ∙ ap payload v.whole in
    rw (e, m) (begins_read 9 v.front v.last rest v.continued v.ended v.short v.tenth)

pub read_whole : (bytes : List ℕ) (n : ℕ) (rest : List ℕ) → varint_at bytes ≡ Ok (n, rest) → BeginsWith bytes n rest
unfolding varint_at
read_whole bytes n rest e = starts bytes n rest (number_begins 9 bytes n rest e)

whole_bad : (bytes : List ℕ) → IsBad 9 bytes → IsBadVarint bytes
whole_bad bytes b = record { front = b.front; tenth = b.top; rest = b.rest; whole = b.whole; continued = b.continued; nine = b.long; above = b.above }

read_cut : (bytes : List ℕ) → varint_at bytes ≡ Err CutField → IsCutVarint bytes
unfolding varint_at
read_cut bytes e = let c = number_cut 9 bytes e in record { continued = c.0; short = c.1 }

cut_at : (bytes : List ℕ) → IsCutVarint bytes → varint_at bytes ≡ Err CutField
unfolding varint_at
cut_at bytes c = cut_read 9 bytes c.continued c.short

read_bad : (bytes : List ℕ) → varint_at bytes ≡ Err BadVarint → IsBadVarint bytes
unfolding varint_at
read_bad bytes e = whole_bad bytes (number_bad 9 bytes e)

bad_at : (bytes : List ℕ) → IsBadVarint bytes → varint_at bytes ≡ Err BadVarint
unfolding varint_at
bad_at bytes b = rw b.whole (bad_read 9 b.front b.tenth b.rest b.continued b.nine b.above)

written_so : (n : ℕ) → n < 2 ^ 64 → IsVarint (varint n) n
written_so n fits =
    let b = read_whole (varint n ++ []) n [] (varint_again n [] fits) in
    let e : b.front ≡ varint n = sym (append-nil b.front) ∙ sym b.whole ∙ append-nil (varint n) in
    subst (λ (s : List ℕ). IsVarint s n) e b.spelled

none_shorter : (bytes : List ℕ) (n : ℕ) → IsVarint bytes n → length (varint n) ≤ length bytes
unfolding varint
none_shorter bytes n v =
    let few = few_bytes 9 v.front v.last v.continued v.ended v.short in
    let m : n ≡ payload (v.front ++ v.last ∷ []) = v.value ∙ ap payload v.whole in
    rw (m, v.whole) (omega (arith, few, length-append v.front (v.last ∷ [])))

pub grammar : VarintGrammar
grammar = record {
  whole = λ bytes n rest. (read_whole bytes n rest, whole_read bytes n rest);
  cut = λ bytes. (read_cut bytes, cut_at bytes);
  bad = λ bytes. (read_bad bytes, bad_at bytes);
  written = written_so;
  shortest = none_shorter;
}

-- ---- what was read, in the words of the grammar

spelled_whole : (bytes : List ℕ) (value used : ℕ) → varint_at bytes ≡ Ok (value, drop used bytes) → used ≤ length bytes → IsVarint (take used bytes) value
spelled_whole bytes value used e within =
    let b = read_whole bytes value (drop used bytes) e in
    let total : length bytes ≡ length b.front + (length bytes - used) = ap length b.whole ∙ length-append b.front (drop used bytes) ∙ ap (λ (k : ℕ). length b.front + k) (length-drop used bytes) in
    let len : length b.front ≡ used = omega arith in
    let f : take used bytes ≡ b.front = ap (take used) b.whole ∙ take_at b.front (drop used bytes) used len in
    subst (λ (s : List ℕ). IsVarint s value) (sym f) b.spelled

pub spelled_so : (bytes : List ℕ) (read : Varint) → IsVarintAt bytes read → SpellsVarint bytes read
spelled_so bytes (Whole value used) r = spelled_whole bytes value used r.0 r.1
spelled_so bytes Cut r = read_cut bytes r
spelled_so bytes Bad r = read_bad bytes r
