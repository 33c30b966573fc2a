-- Lines of a stream that goes on.
use Rattle.std.proofs.Common.{◌≡◌, ℕ, zero, suc, ◌+◌, ◌-◌, ◌<◌, ◌≤◌, Bool, true, false, not, cond, ltb, eqb, List, [], ◌∷◌, ◌++◌, length, take, drop, get_or, Some, None, refl, sym, ap, subst, ◌∙◌, arith}
use Rattle.std.proofs.lemmas.Bool.{le-ltb, lt-ltb, ltb-true, ltb-false, ne_eqb}
use Rattle.std.proofs.lemmas.List.{take-append-le, drop-append-le, length-append, length-drop, drop-drop}
use Rattle.std.proofs.lemmas.List.Elements.{filter-append}
use Rattle.std.proofs.lemmas.List.Folds.{prefix_len-append}
use Rattle.std.proofs.lemmas.List.Sums.{prefix_len_is, prefix_len-le-length}
use Rattle.std.specs.List.{filter}
use Rattle.memchr.specs.Find.{IsFirstByte, is_byte}
use Rattle.delimited_framing.specs.declared.frame.FrameFault.{FrameFault}
use Rattle.delimited_framing.specs.declared.frame.FrameFault.TheVariants.{TooLong}
use Rattle.delimited_framing.specs.Front.{Front, Whole, Unfinished, Bad, HoldsBy, IsMarked}
use Rattle.delimited_framing.proofs.Streams.{HoldsBy-more}
use Rattle.json_framing.specs.Lines.{line_length, line_at, is_blank, says_something, Holds, Skips}

abbrev in_line : ℕ → Bool
in_line b = not (eqb b 10)

-- ---- how long a line is

pub length_within : (bytes : List ℕ) → line_length bytes ≤ length bytes
length_within bytes = prefix_len-le-length in_line bytes

passes_not : (b : Bool) → (b ≡ true → ⊥) → not b ≡ true
passes_not true other = absurd (other refl)
passes_not false other = refl

not_passes : (b : Bool) → b ≡ true → not b ≡ false
not_passes b e = ap not e

pub length_at_feed : (bytes : List ℕ) (k : ℕ) → IsFirstByte (is_byte 10) bytes (Some k) → line_length bytes ≡ k
length_at_feed bytes k first =
    let high : k < length bytes = first.0.high in
    prefix_len_is in_line bytes k 0 (omega (arith, high)) (λ j l. passes_not (eqb (get_or bytes j 0) 10) (first.0.before j (omega arith) l)) (λ l. not_passes (eqb (get_or bytes k 0) 10) first.1)

pub length_at_end : (bytes : List ℕ) → IsFirstByte (is_byte 10) bytes None → line_length bytes ≡ length bytes
length_at_end bytes none = prefix_len_is in_line bytes (length bytes) 0 (omega arith) (λ j l. passes_not (eqb (get_or bytes j 0) 10) (none j (omega arith) l)) (λ l. absurd (omega arith))

from_step : (b : Bool) (n m : ℕ) (rest : ℕ) → (n ≤ m → m ≡ n + rest) → suc n ≤ cond b (1 + m) 0 → cond b (1 + m) 0 ≡ suc n + rest
from_step true n m rest goes le = let e : m ≡ n + rest = goes (omega arith) in omega arith
from_step false n m rest goes le = absurd (omega arith)

pub length_from : (bytes : List ℕ) (n : ℕ) → n ≤ line_length bytes → line_length bytes ≡ n + line_length (drop n bytes)
length_from bytes zero le = omega arith
length_from [] (suc n) le = absurd (omega arith)
length_from (b ∷ bs) (suc n) le = from_step (in_line b) n (line_length bs) (line_length (drop n bs)) (length_from bs n) le

longer : (t : Bool) (n m k : ℕ) → n ≤ m → n ≤ cond t (m + k) n
longer true n m k le = omega arith
longer false n m k le = omega arith

pub length_more : (bytes more : List ℕ) → line_length bytes ≤ line_length (bytes ++ more)
length_more bytes more = rw (prefix_len-append in_line bytes more) (longer (eqb (line_length bytes) (length bytes)) (line_length bytes) (length bytes) (line_length more) (length_within bytes))

pub length_stays : (bytes more : List ℕ) → line_length bytes < length bytes → line_length (bytes ++ more) ≡ line_length bytes
length_stays bytes more l =
    let other : eqb (line_length bytes) (length bytes) ≡ false = ne_eqb (line_length bytes) (length bytes) (λ e. omega arith) in
    prefix_len-append in_line bytes more ∙ ap (λ t. cond t (length bytes + line_length more) (line_length bytes)) other

-- ---- what stands at the front

whole_is : (a b c d : List ℕ) → Whole a b ≡ Whole c d → (a ≡ c) × (b ≡ d)
whole_is a b c d e = (cc, cc)

chosen : (s t : Bool) (fault : FrameFault) (a b c d : List ℕ) → cond s (Bad fault) (cond t (Whole a b) Unfinished) ≡ Whole c d → (s ≡ false) × (t ≡ true) × (a ≡ c) × (b ≡ d)
chosen true t fault a b c d e = absurd cc
chosen false true fault a b c d e = let w = whole_is a b c d e in (refl, refl, w.0, w.1)
chosen false false fault a b c d e = absurd cc

pub is_whole : (limit : ℕ) (bytes : List ℕ) (n : ℕ) → line_length bytes ≡ n → n ≤ limit → n < length bytes → line_at limit bytes ≡ Whole (take n bytes) (drop (n + 1) bytes)
unfolding line_at
is_whole limit bytes n is fits within = rw (is, le-ltb limit n fits, lt-ltb n (length bytes) within) refl

pub is_unfinished : (limit : ℕ) (bytes : List ℕ) (n : ℕ) → line_length bytes ≡ n → n ≤ limit → n ≡ length bytes → line_at limit bytes ≡ Unfinished
unfolding line_at
is_unfinished limit bytes n is fits all =
    let le : length bytes ≤ n = omega arith in
    rw (is, le-ltb limit n fits, le-ltb n (length bytes) le) refl

pub is_long : (limit : ℕ) (bytes : List ℕ) (n : ℕ) → line_length bytes ≡ n → limit < n → line_at limit bytes ≡ Bad (TooLong (limit + 1))
unfolding line_at
is_long limit bytes n is long = rw (is, lt-ltb limit n long) refl

-- an unfinished line holds no line feed
unfinished_chosen : (s t : Bool) (fault : FrameFault) (a b : List ℕ) → cond s (Bad fault) (cond t (Whole a b) Unfinished) ≡ Unfinished → t ≡ false
unfinished_chosen true t fault a b e = absurd cc
unfinished_chosen false true fault a b e = absurd cc
unfinished_chosen false false fault a b e = refl

pub unfinished_length : (limit : ℕ) (bytes : List ℕ) → line_at limit bytes ≡ Unfinished → length bytes ≤ line_length bytes
unfolding line_at
unfinished_length limit bytes e = ltb-false _ _ (unfinished_chosen (ltb limit (line_length bytes)) (ltb (line_length bytes) (length bytes)) (TooLong (limit + 1)) (take (line_length bytes) bytes) (drop (line_length bytes + 1) bytes) e)

line_more : (limit : ℕ) (bytes more line rest : List ℕ) → line_at limit bytes ≡ Whole line rest → line_at limit (bytes ++ more) ≡ Whole line (rest ++ more)
unfolding line_at
line_more limit bytes more line rest e =
    let n = line_length bytes in
    let c = chosen (ltb limit n) (ltb n (length bytes)) (TooLong (limit + 1)) (take n bytes) (drop (n + 1) bytes) line rest e in
    let fits : n ≤ limit = ltb-false _ _ c.0 in
    let within : n < length bytes = ltb-true _ _ c.1 in
    let longer : n < length (bytes ++ more) = omega (arith, length-append bytes more) in
    let w = is_whole limit (bytes ++ more) n (length_stays bytes more within) fits longer in
    w ∙ ap (λ (x : List ℕ). Whole x (drop (n + 1) (bytes ++ more))) (take-append-le n bytes more (omega arith) ∙ c.2)
    ∙ ap (λ (x : List ℕ). Whole line x) (drop-append-le (n + 1) bytes more (omega arith) ∙ ap (λ (x : List ℕ). x ++ more) c.3)

line_takes : (limit : ℕ) (bytes line rest : List ℕ) → line_at limit bytes ≡ Whole line rest → length rest < length bytes
unfolding line_at
line_takes limit bytes line rest e =
    let n = line_length bytes in
    let c = chosen (ltb limit n) (ltb n (length bytes)) (TooLong (limit + 1)) (take n bytes) (drop (n + 1) bytes) line rest e in
    let within : n < length bytes = ltb-true _ _ c.1 in
    let len : length rest ≡ length bytes - (n + 1) = ap length (sym c.3) ∙ length-drop (n + 1) bytes in
    omega arith

pub lines_marked : (limit : ℕ) → IsMarked (line_at limit)
lines_marked limit = record { goes_on = λ bytes more line rest e. line_more limit bytes more line rest e; takes = line_takes limit }

-- ---- lines that aren't blank

pub Holds-more : (limit : ℕ) (stream : List ℕ) (lines : List (List ℕ)) (rest p : List ℕ) → Holds limit stream lines rest → Holds limit (stream ++ p) lines (rest ++ p)
Holds-more limit stream lines rest p h = (h.0, HoldsBy-more (line_at limit) (lines_marked limit) stream h.0 rest p h.1, h.2)

HoldsBy-append : (front : List ℕ → Front) (stream : List ℕ) (fs gs : List (List ℕ)) (mid rest : List ℕ) → HoldsBy front stream fs mid → HoldsBy front mid gs rest → HoldsBy front stream (fs ++ gs) rest
HoldsBy-append front stream [] gs mid rest p q = subst (λ (s : List ℕ). HoldsBy front s gs rest) (sym p) q
HoldsBy-append front stream (f ∷ fs) gs mid rest p q = (p.0, p.1, HoldsBy-append front p.0 fs gs mid rest p.2 q)

pub Holds-append : (limit : ℕ) (stream : List ℕ) (ls ms : List (List ℕ)) (mid rest : List ℕ) → Holds limit stream ls mid → Holds limit mid ms rest → Holds limit stream (ls ++ ms) rest
Holds-append limit stream ls ms mid rest p q = (
  p.0 ++ q.0,
  HoldsBy-append (line_at limit) stream p.0 q.0 mid rest p.1 q.1,
  ap (λ (x : List (List ℕ)). x ++ ms) p.2 ∙ ap (λ (x : List (List ℕ)). filter says_something p.0 ++ x) q.2 ∙ sym (filter-append says_something p.0 q.0),
)

pub one_line : (limit : ℕ) (bytes line rest : List ℕ) (said : List (List ℕ)) → line_at limit bytes ≡ Whole line rest → said ≡ filter says_something (line ∷ []) → Holds limit bytes said rest
one_line limit bytes line rest said e f = (line ∷ [], (rest, e, refl), f)

blank_gone : (line : List ℕ) (b : Bool) → is_blank line ≡ true → [] ≡ filter says_something (line ∷ [])
blank_gone line b e = rw e refl

pub said_kept : (line : List ℕ) → says_something line ≡ true → line ∷ [] ≡ filter says_something (line ∷ [])
said_kept line e = rw e refl

pub none_skipped : (limit : ℕ) (bytes : List ℕ) → Skips limit bytes bytes
none_skipped limit bytes = ([], refl, refl)

-- a blank line at the front is skipped
pub blank_skipped : (limit : ℕ) (bytes : List ℕ) (start stop : ℕ) → Skips limit bytes (drop start bytes) → stop ≡ start + line_length (drop start bytes) → stop < length bytes → stop - start ≤ limit
    → is_blank (take (stop - start) (drop start bytes)) ≡ true → Skips limit bytes (drop (stop + 1) bytes)
blank_skipped limit bytes start stop before is within fits blank =
    let rest = drop start bytes in
    let n : line_length rest ≡ stop - start = omega arith in
    let inside : stop - start < length rest = omega (arith, length-drop start bytes) in
    let w = is_whole limit rest (stop - start) n fits inside in
    let on : drop (stop - start + 1) rest ≡ drop (stop + 1) bytes = drop-drop (stop - start + 1) start bytes ∙ ap (λ (k : ℕ). drop k bytes) (omega arith) in
    let here = one_line limit rest (take (stop - start) rest) (drop (stop - start + 1) rest) [] w (blank_gone (take (stop - start) rest) true blank) in
    subst (λ (r : List ℕ). Skips limit bytes r) on (Holds-append limit bytes [] [] rest (drop (stop - start + 1) rest) before here)

pub whole_found : (limit : ℕ) (bytes : List ℕ) (start stop : ℕ) → stop ≡ start + line_length (drop start bytes) → stop < length bytes → stop - start ≤ limit
    → line_at limit (drop start bytes) ≡ Whole (take (stop - start) (drop start bytes)) (drop (stop + 1) bytes)
whole_found limit bytes start stop is within fits =
    let rest = drop start bytes in
    let n : line_length rest ≡ stop - start = omega arith in
    let inside : stop - start < length rest = omega (arith, length-drop start bytes) in
    let on : drop (stop - start + 1) rest ≡ drop (stop + 1) bytes = drop-drop (stop - start + 1) start bytes ∙ ap (λ (k : ℕ). drop k bytes) (omega arith) in
    is_whole limit rest (stop - start) n fits inside ∙ ap (λ (x : List ℕ). Whole (take (stop - start) rest) x) on

pub unfinished_found : (limit : ℕ) (bytes : List ℕ) (start stop : ℕ) → stop ≡ start + line_length (drop start bytes) → stop ≡ length bytes → start ≤ length bytes → stop - start ≤ limit → line_at limit (drop start bytes) ≡ Unfinished
unfinished_found limit bytes start stop is all within fits =
    let rest = drop start bytes in
    let n : line_length rest ≡ stop - start = omega arith in
    let len : stop - start ≡ length rest = omega (arith, length-drop start bytes) in
    is_unfinished limit rest (stop - start) n fits len

pub long_found : (limit : ℕ) (bytes : List ℕ) (start stop : ℕ) → stop ≡ start + line_length (drop start bytes) → limit < stop - start → line_at limit (drop start bytes) ≡ Bad (TooLong (limit + 1))
long_found limit bytes start stop is long =
    let n : line_length (drop start bytes) ≡ stop - start = omega arith in
    is_long limit (drop start bytes) (stop - start) n long
