-- How many requests come with one piece.
use Rattle.std.proofs.Common.{◌≡◌, ℕ, zero, suc, ◌+◌, ◌-◌, ◌*◌, ◌%◌, ◌<◌, ◌≤◌, Bool, true, false, cond, ltb, leb}
use Rattle.std.proofs.Common.{max, List, [], ◌∷◌, ◌++◌, length, take, drop, Result, Ok, Err, refl, sym, ap, ◌∙◌, subst, arith}
use Rattle.std.specs.List.{filter}
use Rattle.std.proofs.lemmas.Bool.{ltb-true, ltb-false}
use Rattle.std.proofs.lemmas.List.{length-append, length-drop}
use Rattle.wire_fields.specs.Varint.{Fault, CutField, BadVarint, BadTag, BadText, below, number_at, varint_at}
use Rattle.wire_fields.specs.Message.{largest, AreSpelled}
use Rattle.delimited_framing.specs.declared.frame.FrameFault.{FrameFault}
use Rattle.delimited_framing.specs.declared.frame.FrameFault.TheVariants.{TooLong}
use Rattle.delimited_framing.specs.Front.{Front, Whole, Unfinished, Bad, HoldsBy, IsMarked}
use Rattle.delimited_framing.specs.Frame.{behind, after_length, frame_at}
use Rattle.delimited_framing.proofs.Streams.{done, chosen, varint_more, frames_marked}
use Rattle.json_framing.specs.Cutter.{form_of}
use Rattle.json_framing.specs.Lines.{line_length, line_at, says_something}
use Rattle.json_framing.specs.declared.cutter.Framing.{Framing}
use Rattle.json_framing.specs.declared.cutter.Framing.TheVariants as framing
use Rattle.json_framing.proofs.Streams.{unfinished_length, length_more, lines_marked}
use Rattle.delimited_framing.specs.Splitter.{Held}
use Rattle.message_service.specs.declared.finish.Finish.{Finish}
use Rattle.message_service.specs.Stream.{Begins, IsWhole}
use Rattle.work_queue.specs.States.{Read}
use Rattle.work_lanes.specs.Calls.{HasRoom, HearsMore}
use Rattle.work_lanes.specs.Reading.{HandsOn}
use Rattle.work_lanes.specs.Serves.{piece}
use Rattle.work_lanes.proofs.Fronts.{reads_begin}

-- ---- frames that a stream holds, and those that it holds with one piece more

whole_is : (a b c d : List ℕ) → Whole a b ≡ Whole c d → (a ≡ c) × (b ≡ d)
whole_is a b c d e = (cc, cc)

-- A frame that isn't whole yet ends in what comes later.
abbrev EndsWithin : (List ℕ → Front) → Type 0
EndsWithin front = (bytes more frame rest : List ℕ) → front bytes ≡ Unfinished
    → front (bytes ++ more) ≡ Whole frame rest → length rest < length more

module _ (p : List ℕ → Bool) where
  kept_one : (b : Bool) (f : List ℕ) (xs ys : List (List ℕ)) (n : ℕ) → length xs ≤ length ys + n
      → length (cond b (f ∷ xs) xs) ≤ length (cond b (f ∷ ys) ys) + n
  kept_one true f xs ys n le =
      let goal : suc (length xs) ≤ suc (length ys) + n = omega (arith, le) in goal
  kept_one false f xs ys n le = le

  few_kept : (b : Bool) (f : List ℕ) (xs : List (List ℕ)) (n : ℕ) → length xs ≤ n
      → length (cond b (f ∷ xs) xs) ≤ suc n
  few_kept true f xs n le = let goal : suc (length xs) ≤ suc n = omega (arith, le) in goal
  few_kept false f xs n le = omega (arith, le)

  module _ (front : List ℕ → Front) (marked : IsMarked front) (ends : EndsWithin front) where
    few_frames : (stream : List ℕ) (frames : List (List ℕ)) (rest : List ℕ)
        → HoldsBy front stream frames rest → length (filter p frames) ≤ length stream
    few_frames stream [] rest h = let goal : 0 ≤ length stream = omega arith in goal
    few_frames stream (f ∷ fs) rest h =
        let less = marked.takes stream f h.0 h.1 in
        let some = few_kept (p f) f (filter p fs) (length h.0) (few_frames h.0 fs rest h.2) in
        let goal : length (cond (p f) (f ∷ filter p fs) (filter p fs)) ≤ length stream =
        omega (arith, less, some) in goal

    few_more : (fed piece : List ℕ) (fs gs : List (List ℕ)) (left rest : List ℕ)
        → HoldsBy front fed fs left → front left ≡ Unfinished
        → HoldsBy front (fed ++ piece) gs rest
        → length (filter p gs) ≤ length (filter p fs) + length piece
    few_more fed piece fs [] left rest h e k =
        let goal : 0 ≤ length (filter p fs) + length piece = omega arith in goal
    few_more fed piece [] (g ∷ gs) left rest h e k =
        let less = ends fed piece g k.0 (ap front h ∙ e) k.1 in
        let some = few_kept (p g) g (filter p gs) (length k.0) (few_frames k.0 gs rest k.2) in
        let goal : length (cond (p g) (g ∷ filter p gs) (filter p gs)) ≤ 0 + length piece =
        omega (arith, less, some) in goal
    few_more fed piece (f ∷ fs) (g ∷ gs) left rest h e k =
        let same = whole_is f (h.0 ++ piece) g k.0
        (sym (marked.goes_on fed piece f h.0 h.1) ∙ k.1) in
        subst (λ (x : List ℕ). length (cond (p x) (x ∷ filter p gs) (filter p gs))
        ≤ length (cond (p f) (f ∷ filter p fs) (filter p fs)) + length piece) same.0
        (kept_one (p f) f (filter p gs) (filter p fs) (length piece)
        (few_more h.0 piece fs gs left rest h.2 e
        (subst (λ (x : List ℕ). HoldsBy front x gs rest) (sym same.1) k.2)))

-- ---- lines

line_chosen : (s t : Bool) (fault : FrameFault) (a b c d : List ℕ)
    → cond s (Bad fault) (cond t (Whole a b) Unfinished) ≡ Whole c d → (t ≡ true) × (b ≡ d)
line_chosen true t fault a b c d e = absurd cc
line_chosen false true fault a b c d e = (refl, (whole_is a b c d e).1)
line_chosen false false fault a b c d e = absurd cc

lines_end : (limit : ℕ) → EndsWithin (line_at limit)
unfolding line_at
lines_end limit bytes more line rest e w =
    let all = bytes ++ more in
    let n = line_length all in
    let c = line_chosen (ltb limit n) (ltb n (length all)) (TooLong (limit + 1)) (take n all)
    (drop (n + 1) all) line rest w in
    let within : n < length all = ltb-true n (length all) c.0 in
    let left : length rest ≡ length all - (n + 1) = ap length (sym c.1) ∙ length-drop (n + 1) all in
    let none = unfinished_length limit bytes e in
    let up = length_more bytes more in
    let long = length-append bytes more in
    omega (arith, within, left, none, up, long)

-- ---- frames behind their lengths

done_is : (x y : ℕ × List ℕ) → done x ≡ done y → x ≡ y
done_is x y e = cc

ok_is : (n m : ℕ) (a b : List ℕ) → done (n, a) ≡ done (m, b) → a ≡ b
ok_is n m a b e = ap (λ (r : ℕ × List ℕ). r.1) (done_is (n, a) (m, b) e)

-- a number that was cut ends in what comes later
abbrev Cut : Result (ℕ × List ℕ) Fault → Type 0
Cut read = read ≡ Err CutField

below_cut : (byte n : ℕ) (p r : List ℕ) (read more : Result (ℕ × List ℕ) Fault)
    → ((m : ℕ) (s : List ℕ) → Cut read → more ≡ done (m, s) → length s < length p)
    → Cut (below byte read) → below byte more ≡ done (n, r) → length r < length p
below_cut byte n p r (Ok read) more goes c e = absurd cc
below_cut byte n p r (Err fault) (Ok read) goes c e =
    subst (λ (x : List ℕ). length x < length p) (ok_is (byte % 128 + 128 * read.0) n read.1 r e)
    (goes read.0 read.1 c refl)
below_cut byte n p r (Err fault) (Err other) goes c e = absurd cc

last_cut : (t : Bool) (byte : ℕ) (rest : List ℕ) → Cut (cond t (Ok (byte, rest)) (Err BadVarint))
    → ⊥
last_cut true byte rest c = cc
last_cut false byte rest c = cc

step_cut : (t : Bool) (byte n : ℕ) (rest p r : List ℕ) (read more : Result (ℕ × List ℕ) Fault)
    → ((m : ℕ) (s : List ℕ) → Cut read → more ≡ done (m, s) → length s < length p)
    → Cut (cond t (Ok (byte, rest)) (below byte read))
    → cond t (Ok (byte, rest ++ p)) (below byte more) ≡ done (n, r) → length r < length p
step_cut true byte n rest p r read more goes c e = absurd cc
step_cut false byte n rest p r read more goes c e = below_cut byte n p r read more goes c e

below_shorter : (byte n : ℕ) (r : List ℕ) (read : Result (ℕ × List ℕ) Fault) (k : ℕ)
    → ((m : ℕ) (s : List ℕ) → read ≡ done (m, s) → length s < k)
    → below byte read ≡ done (n, r) → length r < suc k
below_shorter byte n r (Ok read) k goes e =
    let less = goes read.0 read.1 refl in
    let same = ap length (ok_is (byte % 128 + 128 * read.0) n read.1 r e) in
    omega (arith, less, same)
below_shorter byte n r (Err fault) k goes e = absurd cc

first_shorter : (t : Bool) (byte n : ℕ) (rest r : List ℕ) (read : Result (ℕ × List ℕ) Fault)
    → (read ≡ done (n, r) → length r < suc (length rest))
    → cond t (Ok (byte, rest)) read ≡ done (n, r) → length r < suc (length rest)
first_shorter true byte n rest r read goes e =
    let same = ap length (ok_is byte n rest r e) in omega (arith, same)
first_shorter false byte n rest r read goes e = goes e

bad_number : (n : ℕ) (r : List ℕ) (k : ℕ) → ◌≡◌ {A = Result (ℕ × List ℕ) Fault} (Err BadVarint) (done (n, r))
    → length r < k
bad_number n r k e = absurd cc

number_shorter : (more : ℕ) (bytes : List ℕ) (n : ℕ) (r : List ℕ)
    → number_at more bytes ≡ done (n, r) → length r < length bytes
unfolding number_at
number_shorter zero [] n r e = absurd cc
number_shorter (suc more) [] n r e = absurd cc
number_shorter zero (byte ∷ rest) n r e =
    first_shorter (leb byte 1) byte n rest r (Err BadVarint)
    (bad_number n r (suc (length rest))) e
number_shorter (suc more) (byte ∷ rest) n r e =
    first_shorter (ltb byte 128) byte n rest r (below byte (number_at more rest))
    (below_shorter byte n r (number_at more rest) (length rest)
    (λ m s d. number_shorter more rest m s d)) e

number_cut : (more : ℕ) (bytes p : List ℕ) (n : ℕ) (r : List ℕ) → Cut (number_at more bytes)
    → number_at more (bytes ++ p) ≡ done (n, r) → length r < length p
unfolding number_at
number_cut zero [] p n r c e = number_shorter zero p n r e
number_cut (suc more) [] p n r c e = number_shorter (suc more) p n r e
number_cut zero (byte ∷ rest) p n r c e = absurd (last_cut (leb byte 1) byte rest c)
number_cut (suc more) (byte ∷ rest) p n r c e =
    step_cut (ltb byte 128) byte n rest p r (number_at more rest) (number_at more (rest ++ p))
    (λ m s c d. number_cut more rest p m s c d) c e

varint_cut : (bytes p : List ℕ) (n : ℕ) (r : List ℕ) → Cut (varint_at bytes)
    → varint_at (bytes ++ p) ≡ done (n, r) → length r < length p
unfolding varint_at
varint_cut bytes p n r c e = number_cut 9 bytes p n r c e

unfinished_chosen : (s t : Bool) (fault : FrameFault) (a b : List ℕ)
    → cond s (Bad fault) (cond t Unfinished (Whole a b)) ≡ Unfinished → t ≡ true
unfinished_chosen true t fault a b e = absurd cc
unfinished_chosen false true fault a b e = refl
unfinished_chosen false false fault a b e = absurd cc

-- what is left behind a frame
behind_left : (limit n : ℕ) (bytes frame rest : List ℕ) → behind limit n bytes ≡ Whole frame rest
    → (length rest ≡ length bytes - n) × (n ≤ length bytes)
behind_left limit n bytes frame rest e =
    let c = chosen (ltb limit n) (ltb (length bytes) n) (TooLong n) (take n bytes) (drop n bytes)
    frame rest e in
    (ap length (sym c.3) ∙ length-drop n bytes, ltb-false (length bytes) n c.1)

after_within : (limit : ℕ) (bytes more frame rest : List ℕ)
    (read later : Result (ℕ × List ℕ) Fault) → varint_at bytes ≡ read
    → varint_at (bytes ++ more) ≡ later → after_length limit read ≡ Unfinished
    → after_length limit later ≡ Whole frame rest → length rest < length more
after_within limit bytes more frame rest (Ok x) later is on e w =
    let same : later ≡ done (x.0, x.1 ++ more) = sym on ∙ varint_more bytes more x.0 x.1 is in
    let l = behind_left limit x.0 (x.1 ++ more) frame rest
    (sym (ap (λ (r : Result (ℕ × List ℕ) Fault). after_length limit r) same) ∙ w) in
    let few : length x.1 < x.0 = ltb-true (length x.1) x.0 (unfinished_chosen (ltb limit x.0)
    (ltb (length x.1) x.0) (TooLong x.0) (take x.0 x.1) (drop x.0 x.1) e) in
    let long = length-append x.1 more in
    let left = l.0 in
    let fits = l.1 in
    omega (arith, left, fits, few, long)
after_within limit bytes more frame rest (Err CutField) (Ok y) is on e w =
    let less = varint_cut bytes more y.0 y.1 is on in
    let left = (behind_left limit y.0 y.1 frame rest w).0 in
    omega (arith, less, left)
after_within limit bytes more frame rest (Err CutField) (Err CutField) is on e w = absurd cc
after_within limit bytes more frame rest (Err CutField) (Err BadVarint) is on e w = absurd cc
after_within limit bytes more frame rest (Err CutField) (Err BadTag) is on e w = absurd cc
after_within limit bytes more frame rest (Err CutField) (Err BadText) is on e w = absurd cc
after_within limit bytes more frame rest (Err BadVarint) later is on e w = absurd cc
after_within limit bytes more frame rest (Err BadTag) later is on e w = absurd cc
after_within limit bytes more frame rest (Err BadText) later is on e w = absurd cc

frames_end : (limit : ℕ) → EndsWithin (frame_at limit)
unfolding frame_at
frames_end limit bytes more frame rest e w =
    after_within limit bytes more frame rest (varint_at bytes) (varint_at (bytes ++ more)) refl refl
    e w

-- ---- and so many requests

all_kept : (frames : List (List ℕ)) → length (filter (λ f. true) frames) ≡ length frames
all_kept [] = refl
all_kept (f ∷ fs) = ap suc (all_kept fs)

pieced : (f : Framing) (fed more : List ℕ) (fs gs : List (List ℕ)) (left rest : List ℕ)
    → (form_of f).Holds largest fed fs left → (form_of f).front largest left ≡ Unfinished
    → (form_of f).Holds largest (fed ++ more) gs rest → length gs ≤ length fs + length more
pieced framing.Delimited fed more fs gs left rest h e k =
    let few = few_more (λ f. true) (frame_at largest) (frames_marked largest) (frames_end largest)
    fed more fs gs left rest h e k in
    let a = all_kept fs in
    let b = all_kept gs in
    omega (arith, few, a, b)
pieced framing.Lines fed more fs gs left rest h e k =
    let few = few_more says_something (line_at largest) (lines_marked largest) (lines_end largest)
    fed more h.0 k.0 left rest h.1 e k.1 in
    let a = ap (λ (xs : List (List ℕ)). length xs) h.2 in
    let b = ap (λ (xs : List (List ℕ)). length xs) k.2 in
    omega (arith, few, a, b)

module _ {M : Type 0} (Spells : List ℕ → M → Type 0) where
  spelled_many : (frames : List (List ℕ)) (ms : List M) → AreSpelled Spells frames ms
      → length frames ≡ length ms
  spelled_many [] [] a = refl
  spelled_many [] (m ∷ ms) a = absurd a
  spelled_many (f ∷ fs) [] a = absurd a
  spelled_many (f ∷ fs) (m ∷ ms) a = ap suc (spelled_many fs ms a.1)

  -- no more requests come with a piece than it has bytes
  pub few_come : (f : Framing) (fed more : List ℕ) (ms ns : List M)
      → IsWhole (form_of f) Spells fed ms → Begins (form_of f) Spells (fed ++ more) ns
      → length ns ≤ length ms + length more
  few_come f fed more ms ns w b =
      let few = pieced f fed more w.1.frames b.1.frames w.0 b.0 w.1.holds w.2 b.1.holds in
      let old = spelled_many w.1.frames ms w.1.spelled in
      let new = spelled_many b.1.frames ns b.1.spelled in
      omega (arith, few, old, new)

  hands_begin : (f : Framing) (r : Result (Unit {0}) Finish) (bytes : List ℕ) (ms : List M)
      (s : Held) → HandsOn (form_of f) Spells r bytes ms s → Begins (form_of f) Spells bytes ms
  hands_begin f (Ok done) bytes ms s h = (h.1.0, h.1.1)
  hands_begin f (Err how) bytes ms s h = reads_begin f Spells how bytes ms h

  -- The reader was told that there was room, and then heard what came with one piece: no more might
  -- ever wait than the depth and one piece's requests.
  pub most_on : (f : Framing) (fed more : List ℕ) (r : Result (Unit {0}) Finish) (s : Held)
      (depth start : ℕ) (old mid new : Read M) → HasRoom depth (Ok true) old mid
      → IsWhole (form_of f) Spells fed mid.heard
      → HandsOn (form_of f) Spells r (fed ++ more) new.heard s → HearsMore mid new
      → length more ≤ piece → old.most ≤ max start (depth + piece)
      → new.most ≤ max start (depth + piece)
  most_on f fed more r s depth start old mid new room whole hands hears fits below =
      let few = few_come f fed more mid.heard new.heard whole
      (hands_begin f r (fed ++ more) new.heard s hands) in
      let may : mid.room ≡ depth = ap (λ (x : Read M). x.room) room in
      let up : mid.most ≡ max old.most depth = ap (λ (x : Read M). x.most) room in
      let many = hears.heard in
      let left = hears.most in
      omega (arith, few, may, up, many, left, fits, below)
