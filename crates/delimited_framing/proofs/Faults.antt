-- A fault at the front of a stream stays, whatever follows.
use Rattle.std.proofs.Common.{◌≡◌, ℕ, zero, suc, Bool, true, false, cond, ltb, leb, List, [], ◌∷◌, ◌++◌, length, take, drop, Result, Ok, Err, refl}
use Rattle.wire_fields.specs.Varint.{Fault, CutField, BadVarint, BadTag, BadText, below, number_at, varint_at}
use Rattle.delimited_framing.specs.declared.frame.FrameFault.{FrameFault}
use Rattle.delimited_framing.specs.declared.frame.FrameFault.TheVariants.{TooLong}
use Rattle.delimited_framing.specs.Front.{Whole, Unfinished, Bad}
use Rattle.delimited_framing.specs.Frame.{behind, after_length, frame_at}
use Rattle.delimited_framing.proofs.Streams.{done, varint_more}

abbrev failed : Fault → Result (ℕ × List ℕ) Fault
failed f = Err f

last_fault : (t : Bool) (byte : ℕ) (rest p : List ℕ) (f : Fault) → cond t (done (byte, rest)) (failed BadVarint) ≡ failed f → cond t (done (byte, rest ++ p)) (failed BadVarint) ≡ failed f
last_fault true byte rest p f e = absurd cc
last_fault false byte rest p f e = e

below_fault : (byte : ℕ) (f : Fault) (read more : Result (ℕ × List ℕ) Fault) → (read ≡ failed f → more ≡ failed f) → below byte read ≡ failed f → below byte more ≡ failed f
below_fault byte f (Ok read) more goes e = absurd cc
below_fault byte f (Err x) more goes e = rw (goes e) refl

step_fault : (t : Bool) (byte : ℕ) (rest p : List ℕ) (f : Fault) (read more : Result (ℕ × List ℕ) Fault) → (read ≡ failed f → more ≡ failed f) → cond t (done (byte, rest)) (below byte read) ≡ failed f → cond t (done (byte, rest ++ p)) (below byte more) ≡ failed f
step_fault true byte rest p f read more goes e = absurd cc
step_fault false byte rest p f read more goes e = below_fault byte f read more goes e

number_fault : (more : ℕ) (bytes p : List ℕ) (f : Fault) → (failed CutField ≡ failed f → ⊥) → number_at more bytes ≡ failed f → number_at more (bytes ++ p) ≡ failed f
unfolding number_at
number_fault zero [] p f other e = absurd (other e)
number_fault (suc more) [] p f other e = absurd (other e)
number_fault zero (byte ∷ rest) p f other e = last_fault (leb byte 1) byte rest p f e
number_fault (suc more) (byte ∷ rest) p f other e = step_fault (ltb byte 128) byte rest p f (number_at more rest) (number_at more (rest ++ p)) (number_fault more rest p f other) e

varint_fault : (bytes p : List ℕ) (f : Fault) → (failed CutField ≡ failed f → ⊥) → varint_at bytes ≡ failed f → varint_at (bytes ++ p) ≡ failed f
unfolding varint_at
varint_fault bytes p f other e = number_fault 9 bytes p f other e

chosen_bad : (s t : Bool) (x y : FrameFault) (a b : List ℕ) → cond s (Bad x) (cond t Unfinished (Whole a b)) ≡ Bad y → s ≡ true
chosen_bad true t x y a b e = refl
chosen_bad false true x y a b e = absurd cc
chosen_bad false false x y a b e = absurd cc

too_long : (s t : Bool) (x : FrameFault) (a b f r : List ℕ) → s ≡ true → cond s (Bad x) (cond t Unfinished (Whole a b)) ≡ Whole f r → ⊥
too_long true t x a b f r is w = absurd cc
too_long false t x a b f r is w = absurd cc

behind_bad : (limit n : ℕ) (bytes p : List ℕ) (x : FrameFault) (f r : List ℕ) → behind limit n bytes ≡ Bad x → behind limit n (bytes ++ p) ≡ Whole f r → ⊥
behind_bad limit n bytes p x f r e w =
    let long = chosen_bad (ltb limit n) (ltb (length bytes) n) (TooLong n) x (take n bytes) (drop n bytes) e in
    too_long (ltb limit n) (ltb (length (bytes ++ p)) n) (TooLong n) (take n (bytes ++ p)) (drop n (bytes ++ p)) f r long w

after_bad : (limit : ℕ) (bytes p : List ℕ) (x : FrameFault) (f r : List ℕ) (read : Result (ℕ × List ℕ) Fault) → varint_at bytes ≡ read → after_length limit read ≡ Bad x → after_length limit (varint_at (bytes ++ p)) ≡ Whole f r → ⊥
after_bad limit bytes p x f r (Ok read) is e w = behind_bad limit read.0 read.1 p x f r e (rw (varint_more bytes p read.0 read.1 is) at w)
after_bad limit bytes p x f r (Err CutField) is e w = absurd cc
after_bad limit bytes p x f r (Err BadVarint) is e w = let v : after_length limit (Err BadVarint) ≡ Whole f r = rw (varint_fault bytes p BadVarint (λ o. cc) is) at w in absurd cc
after_bad limit bytes p x f r (Err BadTag) is e w = let v : after_length limit (Err BadTag) ≡ Whole f r = rw (varint_fault bytes p BadTag (λ o. cc) is) at w in absurd cc
after_bad limit bytes p x f r (Err BadText) is e w = let v : after_length limit (Err BadText) ≡ Whole f r = rw (varint_fault bytes p BadText (λ o. cc) is) at w in absurd cc

-- what is bad never becomes a whole frame
pub bad_stays : (limit : ℕ) (bytes p : List ℕ) (x : FrameFault) (f r : List ℕ) → frame_at limit bytes ≡ Bad x → frame_at limit (bytes ++ p) ≡ Whole f r → ⊥
unfolding frame_at
bad_stays limit bytes p x f r e w = after_bad limit bytes p x f r (varint_at bytes) refl e w
