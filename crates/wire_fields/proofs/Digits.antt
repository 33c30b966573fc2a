-- The steps of reading and writing a base 128 number.
use Rattle.std.proofs.Common.{◌≡◌, ℕ, zero, suc, ◌+◌, ◌-◌, ◌*◌, ◌/◌, ◌%◌, ◌^◌, ◌<◌, ◌≤◌, cond, leb, List, [], ◌∷◌, ◌++◌, length, get_or, take, drop, bit_and, Result, Ok, Err, refl, sym, ap, ◌∙◌, append_assoc, arith, inl, inr, set, add-one}
use Rattle.std.proofs.lemmas.Bool.{lt-ltb, le-ltb, le-leb, lt-leb, cases_lt}
use Rattle.std.proofs.lemmas.Nat.{and_mask, shl_whole, pow-add, shr_below, pow_below}
use Rattle.std.proofs.lemmas.List.{nil_from_length, length-drop, take_more_set}
use Rattle.std.proofs.Math.Seq.{drop-cons}
use Rattle.std.proofs.Math.Nat.{mul-le-mul_right}
use Rattle.wire_fields.specs.Varint.{Fault, CutField, BadVarint, below, number_at, number_bytes}

-- a number that was read so far, with what is still read above it
abbrev pub above : ℕ → ℕ → Result (ℕ × List ℕ) Fault → Result (ℕ × List ℕ) Fault
above value scale (Ok read) = Ok (value + scale * read.0, read.1)
above value scale (Err fault) = Err fault

-- ---- reading

pub low_bits : (byte i : ℕ) → i < 9 → (bit_and byte 127 * 2 ^ (7 * i)) % 2 ^ 64 ≡ byte % 128 * 2 ^ (7 * i)
low_bits byte i lt = rw (and_mask byte 7) (shl_whole (byte % 128) 7 (7 * i) 64 (omega arith) (omega arith))

pub shifted : (bits byte i : ℕ) → bits ≡ bit_and byte 127 → i < 9 → (bits * 2 ^ (7 * i)) % 2 ^ 64 ≡ byte % 128 * 2 ^ (7 * i)
shifted bits byte i is lt = rw is (low_bits byte i lt)

pub next_scale : (i : ℕ) → 2 ^ (7 * (i + 1)) ≡ 2 ^ (7 * i) * 128
next_scale i = let e : 7 * (i + 1) ≡ 7 * i + 7 = omega arith in ap (λ (k : ℕ). 2 ^ k) e ∙ pow-add 2 (7 * i) 7

pub fits_next : (value byte i : ℕ) → value < 2 ^ (7 * i) → value + byte % 128 * 2 ^ (7 * i) < 2 ^ (7 * (i + 1))
fits_next value byte i lt =
    let m : byte % 128 * 2 ^ (7 * i) ≤ 127 * 2 ^ (7 * i) = mul-le-mul_right (2 ^ (7 * i)) (let d : byte % 128 ≤ 127 = omega arith in d) in
    rw (next_scale i) (omega arith)

pub fits_64 : (value byte i : ℕ) → i < 9 → value < 2 ^ (7 * i) → value + byte % 128 * 2 ^ (7 * i) < 2 ^ 64
fits_64 value byte i lt fits =
    let below_63 : 7 * (i + 1) < 64 = omega arith in
    omega (arith, fits_next value byte i fits, pow_below (7 * (i + 1)) 64 below_63)

pub tenth_fits : (value byte i : ℕ) → i ≡ 9 → value < 2 ^ (7 * i) → byte ≤ 1 → value + byte * 2 ^ 63 % 2 ^ 64 < 2 ^ 64
tenth_fits value byte i nine fits small =
    let f : value < 2 ^ 63 = rw nine at fits in omega arith

above_below : (value scale byte : ℕ) (read : Result (ℕ × List ℕ) Fault) → above value scale (below byte read) ≡ above (value + byte % 128 * scale) (scale * 128) read
above_below value scale byte (Ok read) =
    let e : value + scale * (byte % 128 + 128 * read.0) ≡ value + byte % 128 * scale + scale * 128 * read.0 = omega arith in
    ap (λ (n : ℕ). Ok (n, read.1)) e
above_below value scale byte (Err fault) = refl

more_at : (value scale more byte : ℕ) (rest : List ℕ) → 128 ≤ byte → above value scale (number_at (suc more) (byte ∷ rest)) ≡ above (value + byte % 128 * scale) (scale * 128) (number_at more rest)
unfolding number_at
more_at value scale more byte rest big = rw (le-ltb byte 128 big) (above_below value scale byte (number_at more rest))

last_at : (value scale more byte : ℕ) (rest : List ℕ) → byte < 128 → above value scale (number_at (suc more) (byte ∷ rest)) ≡ Ok (value + byte % 128 * scale, rest)
unfolding number_at
last_at value scale more byte rest small =
    let d : byte % 128 ≡ byte = omega arith in
    rw (lt-ltb byte 128 small, d) (ap (λ (n : ℕ). Ok (value + n, rest)) (omega arith))

nothing_at : (value scale more : ℕ) → above value scale (number_at more []) ≡ Err CutField
unfolding number_at
nothing_at value scale zero = refl
nothing_at value scale (suc more) = refl

pub step_of : (i : ℕ) (bytes : List ℕ) → i < length bytes → drop i bytes ≡ get_or bytes i 0 ∷ drop (i + 1) bytes
step_of i bytes lt = rw (add-one, drop-cons bytes i 0 lt) refl

pub rest_of : (i : ℕ) (bytes : List ℕ) → length bytes ≤ i → drop i bytes ≡ []
rest_of i bytes le = nil_from_length (drop i bytes) (omega (arith, length-drop i bytes))

pub goes_on : (value i byte : ℕ) (bytes : List ℕ) (total : Result (ℕ × List ℕ) Fault) → i < 9 → i < length bytes → byte ≡ get_or bytes i 0 → 128 ≤ byte
    → above value (2 ^ (7 * i)) (number_at (9 - i) (drop i bytes)) ≡ total
    → above (value + byte % 128 * 2 ^ (7 * i)) (2 ^ (7 * (i + 1))) (number_at (9 - (i + 1)) (drop (i + 1) bytes)) ≡ total
goes_on value i byte bytes total lt within is big so_far =
    let k : 9 - i ≡ suc (9 - (i + 1)) = omega arith in
    let one : above value (2 ^ (7 * i)) (number_at (9 - i) (drop i bytes)) ≡ above (value + byte % 128 * 2 ^ (7 * i)) (2 ^ (7 * i) * 128) (number_at (9 - (i + 1)) (drop (i + 1) bytes)) = rw (k, step_of i bytes within, ← is) (more_at value (2 ^ (7 * i)) (9 - (i + 1)) byte (drop (i + 1) bytes) big) in
    rw (next_scale i) (sym one ∙ so_far)

pub ends : (value i byte : ℕ) (bytes : List ℕ) (total : Result (ℕ × List ℕ) Fault) → i < 9 → i < length bytes → byte ≡ get_or bytes i 0 → byte < 128
    → above value (2 ^ (7 * i)) (number_at (9 - i) (drop i bytes)) ≡ total → total ≡ Ok (value + byte % 128 * 2 ^ (7 * i), drop (i + 1) bytes)
ends value i byte bytes total lt within is small so_far =
    let k : 9 - i ≡ suc (9 - (i + 1)) = omega arith in
    let one : above value (2 ^ (7 * i)) (number_at (9 - i) (drop i bytes)) ≡ Ok (value + byte % 128 * 2 ^ (7 * i), drop (i + 1) bytes) = rw (k, step_of i bytes within, ← is) (last_at value (2 ^ (7 * i)) (9 - (i + 1)) byte (drop (i + 1) bytes) small) in
    sym so_far ∙ one

pub is_cut : (value i : ℕ) (bytes : List ℕ) (total : Result (ℕ × List ℕ) Fault) → length bytes ≤ i
    → above value (2 ^ (7 * i)) (number_at (9 - i) (drop i bytes)) ≡ total → total ≡ Err CutField
is_cut value i bytes total le so_far = sym so_far ∙ rw (rest_of i bytes le) (nothing_at value (2 ^ (7 * i)) (9 - i))

-- the tenth byte
pub tenth : (value i byte : ℕ) (bytes : List ℕ) (total : Result (ℕ × List ℕ) Fault) → i ≡ 9 → 9 < length bytes → byte ≡ get_or bytes 9 0
    → above value (2 ^ (7 * i)) (number_at (9 - i) (drop i bytes)) ≡ total
    → total ≡ above value (2 ^ 63) (cond (leb byte 1) (Ok (byte, drop 10 bytes)) (Err BadVarint))
unfolding number_at
tenth value i byte bytes total nine within is so_far =
    let one : above value (2 ^ (7 * i)) (number_at (9 - i) (drop i bytes)) ≡ above value (2 ^ 63) (cond (leb byte 1) (Ok (byte, drop 10 bytes)) (Err BadVarint)) = rw (nine, step_of 9 bytes within, ← is) refl in
    sym so_far ∙ one

pub tenth_is_last : (value i byte : ℕ) (bytes : List ℕ) (total : Result (ℕ × List ℕ) Fault) → i ≡ 9 → 9 < length bytes → byte ≡ get_or bytes 9 0 → byte ≤ 1
    → above value (2 ^ (7 * i)) (number_at (9 - i) (drop i bytes)) ≡ total → total ≡ Ok (value + byte * 2 ^ 63 % 2 ^ 64, drop 10 bytes)
tenth_is_last value i byte bytes total nine within is small so_far =
    let e : byte * 2 ^ 63 % 2 ^ 64 ≡ 2 ^ 63 * byte = omega arith in
    let t = tenth value i byte bytes total nine within is so_far in
    t ∙ rw (le-leb byte 1 small, e) refl

pub tenth_is_bad : (value i byte : ℕ) (bytes : List ℕ) (total : Result (ℕ × List ℕ) Fault) → i ≡ 9 → 9 < length bytes → byte ≡ get_or bytes 9 0 → 1 < byte
    → above value (2 ^ (7 * i)) (number_at (9 - i) (drop i bytes)) ≡ total → total ≡ Err BadVarint
tenth_is_bad value i byte bytes total nine within is big so_far =
    let t = tenth value i byte bytes total nine within is so_far in
    t ∙ rw (lt-leb byte 1 big) refl

-- ---- writing

pub last_group : (more n : ℕ) → n < 128 → number_bytes more n ≡ n ∷ []
unfolding number_bytes
last_group zero n lt = refl
last_group (suc more) n lt = rw (lt-ltb n 128 lt) refl

more_groups : (more n : ℕ) → 128 ≤ n → number_bytes (suc more) n ≡ (n % 128 + 128) ∷ number_bytes more (n / 128)
unfolding number_bytes
more_groups more n le = rw (le-ltb n 128 le) refl

pub before_last : (rest last : ℕ) → last ≤ 9 → rest < 2 ^ (64 - 7 * last) → 128 ≤ rest → last < 9
before_last rest last le fits big =
    elim (cases_lt last 9) [
      | inl lt ↦ lt
      | inr ge ↦ let e : 64 - 7 * last ≡ 1 = omega arith in let two : rest < 2 = rw e at fits in absurd (omega arith)
    ]

pub group_more : (groups total : List ℕ) (rest last : ℕ) → last < 9 → length groups ≡ 10 → 128 ≤ rest
    → take last groups ++ number_bytes (9 - last) rest ≡ total
    → take (last + 1) (set groups last (rest % 128 + 128)) ++ number_bytes (9 - (last + 1)) (rest / 128) ≡ total
group_more groups total rest last lt len big so_far =
    let k : 9 - last ≡ suc (9 - (last + 1)) = omega arith in
    let within : last < length groups = omega arith in
    let one : take last groups ++ number_bytes (9 - last) rest ≡ take last groups ++ ((rest % 128 + 128) ∷ number_bytes (9 - (last + 1)) (rest / 128)) = rw (k, more_groups (9 - (last + 1)) rest big) refl in
    rw (take_more_set groups last (rest % 128 + 128) within, append_assoc) (sym one ∙ so_far)

pub rest_fits : (rest last : ℕ) → last < 9 → rest < 2 ^ (64 - 7 * last) → rest / 128 < 2 ^ (64 - 7 * (last + 1))
rest_fits rest last lt fits =
    let e : 64 - 7 * last ≡ 64 - 7 * (last + 1) + 7 = omega arith in
    shr_below rest (64 - 7 * (last + 1)) 7 (rw (← e) fits)

pub all_groups : (groups total : List ℕ) (rest last : ℕ) → last ≤ 9 → length groups ≡ 10 → rest < 128
    → take last groups ++ number_bytes (9 - last) rest ≡ total → take (last + 1) (set groups last rest) ≡ total
all_groups groups total rest last le len small so_far =
    let within : last < length groups = omega arith in
    let one : take last groups ++ number_bytes (9 - last) rest ≡ take last groups ++ (rest ∷ []) = rw (last_group (9 - last) rest small) refl in
    take_more_set groups last rest within ∙ sym one ∙ so_far

-- ---- measuring

pub length_more : (rest count total : ℕ) → 0 < count → count ≤ 9 → 128 ≤ rest → count - 1 + length (number_bytes (10 - count) rest) ≡ total
    → count + 1 - 1 + length (number_bytes (10 - (count + 1)) (rest / 128)) ≡ total
length_more rest count total some lt big so_far =
    let k : 10 - count ≡ suc (10 - (count + 1)) = omega arith in
    let one : length (number_bytes (10 - count) rest) ≡ suc (length (number_bytes (10 - (count + 1)) (rest / 128))) = rw (k, more_groups (10 - (count + 1)) rest big) refl in
    omega (arith, one, so_far)

pub length_last : (rest count total : ℕ) → 0 < count → rest < 128 → count - 1 + length (number_bytes (10 - count) rest) ≡ total → count ≡ total
length_last rest count total some small so_far =
    let one : length (number_bytes (10 - count) rest) ≡ 1 = rw (last_group (10 - count) rest small) refl in
    omega (arith, one, so_far)
