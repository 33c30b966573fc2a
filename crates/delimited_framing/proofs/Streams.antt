-- A stream that goes on, and one frame more.
use Rattle.std.proofs.Common.{◌≡◌, ℕ, zero, suc, ◌+◌, ◌-◌, ◌*◌, ◌%◌, ◌<◌, ◌≤◌, Bool, true, false, cond, ltb, leb, List, [], ◌∷◌, ◌++◌, length, take, drop, Option, Some, None, Result, Ok, Err, refl, sym, ap, subst, ◌∙◌, arith, inl, inr, min, ◌⊎◌}
use Rattle.std.proofs.lemmas.Bool.{le-ltb, ltb-false, leb-true, leb-false}
use Rattle.std.proofs.lemmas.List.{take-append-le, drop-append-le, length-append, length-drop, take_all, take-append-drop, length-take}
use Rattle.std.specs.Prelude.{is_some}
use Rattle.wire_fields.proofs.Readings.{varint_shorter}
use Rattle.byte_pieces.specs.Queues.{IsPartAt}
use Rattle.wire_fields.specs.declared.varint.Varint.{Varint}
use Rattle.wire_fields.specs.declared.varint.Varint.TheVariants.{Whole as Whole_number, Cut, Bad as BadNumber}
use Rattle.wire_fields.specs.Varint.{IsVarintAt, Fault, CutField, BadVarint, BadTag, BadText, below, number_at, varint_at}
use Rattle.delimited_framing.specs.declared.frame.FrameFault.{FrameFault}
use Rattle.delimited_framing.specs.declared.frame.FrameFault.TheVariants.{TooLong}
use Rattle.delimited_framing.specs.Front.{Front, Whole, Unfinished, Bad, HoldsBy, IsMarked}
use Rattle.delimited_framing.specs.Frame.{behind, after_length, frame_at, Holds}
use Rattle.delimited_framing.specs.Splitter.{Held, Stands, fed_more}

-- ---- a number at the front stays, whatever follows

abbrev pub done : ℕ × List ℕ → Result (ℕ × List ℕ) Fault
done read = Ok read

done_is : (x y : ℕ × List ℕ) → done x ≡ done y → x ≡ y
done_is x y e = cc

same_read : (n m : ℕ) (a b p : List ℕ) → done (n, a) ≡ done (m, b) → done (n, a ++ p) ≡ done (m, b ++ p)
same_read n m a b p e = let q = done_is (n, a) (m, b) e in ap (λ (r : ℕ × List ℕ). done (r.0, r.1 ++ p)) q

last_more : (t : Bool) (byte n : ℕ) (fault : Fault) (rest r p : List ℕ) → cond t (Ok (byte, rest)) (Err fault) ≡ done (n, r) → cond t (Ok (byte, rest ++ p)) (Err fault) ≡ done (n, r ++ p)
last_more true byte n fault rest r p e = same_read byte n rest r p e
last_more false byte n fault rest r p e = absurd cc

below_more : (byte n : ℕ) (p r : List ℕ) (read more : Result (ℕ × List ℕ) Fault) → ((m : ℕ) (s : List ℕ) → read ≡ done (m, s) → more ≡ done (m, s ++ p)) → below byte read ≡ done (n, r) → below byte more ≡ done (n, r ++ p)
below_more byte n p r (Ok read) more goes e = rw (goes read.0 read.1 refl) (same_read (byte % 128 + 128 * read.0) n read.1 r p e)
below_more byte n p r (Err fault) more goes e = absurd cc

step_more : (t : Bool) (byte n : ℕ) (rest r p : List ℕ) (read more : Result (ℕ × List ℕ) Fault) → ((m : ℕ) (s : List ℕ) → read ≡ done (m, s) → more ≡ done (m, s ++ p))
    → cond t (Ok (byte, rest)) (below byte read) ≡ done (n, r) → cond t (Ok (byte, rest ++ p)) (below byte more) ≡ done (n, r ++ p)
step_more true byte n rest r p read more goes e = same_read byte n rest r p e
step_more false byte n rest r p read more goes e = below_more byte n p r read more goes e

number_more : (more : ℕ) (bytes p : List ℕ) (n : ℕ) (r : List ℕ) → number_at more bytes ≡ done (n, r) → number_at more (bytes ++ p) ≡ done (n, r ++ p)
unfolding number_at
number_more zero [] p n r e = absurd cc
number_more (suc more) [] p n r e = absurd cc
number_more zero (byte ∷ rest) p n r e = last_more (leb byte 1) byte n BadVarint rest r p e
number_more (suc more) (byte ∷ rest) p n r e = step_more (ltb byte 128) byte n rest r p (number_at more rest) (number_at more (rest ++ p)) (λ m s d. number_more more rest p m s d) e

pub varint_more : (bytes p : List ℕ) (n : ℕ) (r : List ℕ) → varint_at bytes ≡ done (n, r) → varint_at (bytes ++ p) ≡ done (n, r ++ p)
unfolding varint_at
varint_more bytes p n r e = number_more 9 bytes p n r e

-- ---- and so does a frame

whole_is : (a b c d : List ℕ) → Whole a b ≡ Whole c d → (a ≡ c) × (b ≡ d)
whole_is a b c d e = (cc, cc)

pub chosen : (s t : Bool) (fault : FrameFault) (a b c d : List ℕ) → cond s (Bad fault) (cond t Unfinished (Whole a b)) ≡ Whole c d → (s ≡ false) × (t ≡ false) × (a ≡ c) × (b ≡ d)
chosen true t fault a b c d e = absurd cc
chosen false true fault a b c d e = absurd cc
chosen false false fault a b c d e = let w = whole_is a b c d e in (refl, refl, w.0, w.1)

behind_more : (limit n : ℕ) (bytes p frame r : List ℕ) → behind limit n bytes ≡ Whole frame r → behind limit n (bytes ++ p) ≡ Whole frame (r ++ p)
behind_more limit n bytes p frame r e =
    let c = chosen (ltb limit n) (ltb (length bytes) n) (TooLong n) (take n bytes) (drop n bytes) frame r e in
    let long : n ≤ length bytes = ltb-false _ _ c.1 in
    let longer : n ≤ length (bytes ++ p) = omega (arith, length-append bytes p) in
    rw (c.0, le-ltb (length (bytes ++ p)) n longer, take-append-le, drop-append-le, c.2, c.3) refl

after_more : (limit : ℕ) (p frame r : List ℕ) (read more : Result (ℕ × List ℕ) Fault) → ((m : ℕ) (s : List ℕ) → read ≡ done (m, s) → more ≡ done (m, s ++ p)) → after_length limit read ≡ Whole frame r → after_length limit more ≡ Whole frame (r ++ p)
after_more limit p frame r (Ok read) more goes e = rw (goes read.0 read.1 refl) (behind_more limit read.0 read.1 p frame r e)
after_more limit p frame r (Err CutField) more goes e = absurd cc
after_more limit p frame r (Err BadVarint) more goes e = absurd cc
after_more limit p frame r (Err BadTag) more goes e = absurd cc
after_more limit p frame r (Err BadText) more goes e = absurd cc

frame_more : (limit : ℕ) (bytes p frame r : List ℕ) → frame_at limit bytes ≡ Whole frame r → frame_at limit (bytes ++ p) ≡ Whole frame (r ++ p)
unfolding frame_at
frame_more limit bytes p frame r e = after_more limit p frame r (varint_at bytes) (varint_at (bytes ++ p)) (λ m s d. varint_more bytes p m s d) e

module _ (front : List ℕ → Front) where
  pub HoldsBy-more : (marked : IsMarked front) (stream : List ℕ) (frames : List (List ℕ)) (rest p : List ℕ) → HoldsBy front stream frames rest → HoldsBy front (stream ++ p) frames (rest ++ p)
  HoldsBy-more marked stream [] rest p h = ap (λ (s : List ℕ). s ++ p) h
  HoldsBy-more marked stream (frame ∷ frames) rest p h = (h.0 ++ p, marked.goes_on stream p frame h.0 h.1, HoldsBy-more marked h.0 frames rest p h.2)

  pub HoldsBy-push : (stream : List ℕ) (frames : List (List ℕ)) (mid frame rest : List ℕ) → HoldsBy front stream frames mid → front mid ≡ Whole frame rest → HoldsBy front stream (frames ++ frame ∷ []) rest
  HoldsBy-push stream [] mid frame rest h e = (rest, ap front h ∙ e, refl)
  HoldsBy-push stream (f ∷ fs) mid frame rest h e = (h.0, h.1, HoldsBy-push h.0 fs mid frame rest h.2 e)

frame_shortens : (limit n : ℕ) (bytes frame rest : List ℕ) → behind limit n bytes ≡ Whole frame rest → length rest ≤ length bytes
frame_shortens limit n bytes frame rest e =
    let c = chosen (ltb limit n) (ltb (length bytes) n) (TooLong n) (take n bytes) (drop n bytes) frame rest e in
    let len : length rest ≡ length bytes - n = ap length (sym c.3) ∙ length-drop n bytes in
    omega arith

after_shortens : (limit : ℕ) (bytes frame rest : List ℕ) (read : Result (ℕ × List ℕ) Fault) → varint_at bytes ≡ read → after_length limit read ≡ Whole frame rest → length rest < length bytes
after_shortens limit bytes frame rest (Ok read) is e = let s = varint_shorter bytes read.0 read.1 is in let t = frame_shortens limit read.0 read.1 frame rest e in omega arith
after_shortens limit bytes frame rest (Err CutField) is e = absurd cc
after_shortens limit bytes frame rest (Err BadVarint) is e = absurd cc
after_shortens limit bytes frame rest (Err BadTag) is e = absurd cc
after_shortens limit bytes frame rest (Err BadText) is e = absurd cc

frame_shorter : (limit : ℕ) (bytes frame rest : List ℕ) → frame_at limit bytes ≡ Whole frame rest → length rest < length bytes
unfolding frame_at
frame_shorter limit bytes frame rest e = after_shortens limit bytes frame rest (varint_at bytes) refl e

pub frames_marked : (limit : ℕ) → IsMarked (frame_at limit)
frames_marked limit = record { goes_on = λ bytes p frame rest e. frame_more limit bytes p frame rest e; takes = frame_shorter limit }

pub Holds-more : (limit : ℕ) (stream : List ℕ) (frames : List (List ℕ)) (rest p : List ℕ) → Holds limit stream frames rest → Holds limit (stream ++ p) frames (rest ++ p)
Holds-more limit stream frames rest p h = HoldsBy-more (frame_at limit) (frames_marked limit) stream frames rest p h

pub Holds-push : (limit : ℕ) (stream : List ℕ) (frames : List (List ℕ)) (mid frame rest : List ℕ) → Holds limit stream frames mid → frame_at limit mid ≡ Whole frame rest → Holds limit stream (frames ++ frame ∷ []) rest
Holds-push limit stream frames mid frame rest h e = HoldsBy-push (frame_at limit) stream frames mid frame rest h e

-- ---- the splitter

pub takes_piece : (fed : List ℕ) (given : List (List ℕ)) (old : Held) (piece rest : List ℕ) → old.fault ≡ None → rest ≡ old.rest ++ piece → Stands fed given old → Stands (fed_more old.fault fed piece) given (record { limit = old.limit; rest = rest; fault = old.fault })
takes_piece fed given old piece rest none is s =
    rw (none, is) (record { holds = Holds-more old.limit fed given old.rest piece s.holds; fault = tt })

pub gives_frame : (fed : List ℕ) (given : List (List ℕ)) (old : Held) (frame rest : List ℕ) → old.fault ≡ None → frame_at old.limit old.rest ≡ Whole frame rest → Stands fed given old → Stands fed (given ++ frame ∷ []) (record { limit = old.limit; rest = rest; fault = old.fault })
gives_frame fed given old frame rest none e s =
    rw none (record { holds = Holds-push old.limit fed given old.rest frame rest s.holds e; fault = tt })

-- all bytes from a place on
pub tail_is : (n : ℕ) (xs : List ℕ) → take (length xs - n) (drop n xs) ≡ drop n xs
tail_is n xs = let len : length (drop n xs) ≤ length xs - n = omega (arith, length-drop n xs) in take_all (length xs - n) (drop n xs) len

abbrev pub held_at : ℕ → ℕ → List ℕ → Option FrameFault → Held
held_at limit start items fault = record { limit = limit; rest = drop start items; fault = fault }

-- after so many bytes more were read
abbrev pub read_on : ℕ → Held → Held
read_on n s = record { limit = s.limit; rest = drop n s.rest; fault = s.fault }

pub gives_found : (fed : List ℕ) (given : List (List ℕ)) (limit a b : ℕ) (rest after frame : List ℕ) (fault : Option FrameFault) (old : Held) → held_at limit 0 rest fault ≡ old → fault ≡ None
    → frame_at limit rest ≡ Whole (take (b - a) (drop a rest)) (drop b rest) → frame ≡ take (b - a) (drop a rest) → after ≡ drop b rest → Stands fed given old
    → Stands fed (given ++ frame ∷ []) (held_at limit 0 after fault) × (limit ≡ old.limit) × (fault ≡ old.fault)
gives_found fed given limit a b rest after frame fault old is none e f g s =
    let here : frame_at limit rest ≡ Whole frame after = e ∙ (ap (λ (x : List ℕ). Whole x (drop b rest)) (sym f) ∙ ap (Whole frame) (sym g)) in
    let s' : Stands fed given (held_at limit 0 rest fault) = subst (λ (h : Held). Stands fed given h) (sym is) s in
    (gives_frame fed given (held_at limit 0 rest fault) frame after none here s', ap (λ (h : Held). h.limit) is, ap (λ (h : Held). h.fault) is)

pub takes_found : (fed : List ℕ) (given : List (List ℕ)) (limit : ℕ) (rest after piece : List ℕ) (fault : Option FrameFault) (old : Held) → held_at limit 0 rest fault ≡ old → old.fault ≡ None
    → after ≡ rest ++ piece → Stands fed given old → Stands (fed_more old.fault fed piece) given (held_at limit 0 after fault)
takes_found fed given limit rest after piece fault old is none same s =
    let none' : fault ≡ None = ap (λ (h : Held). h.fault) is ∙ none in
    let s' : Stands fed given (held_at limit 0 rest fault) = subst (λ (h : Held). Stands fed given h) (sym is) s in
    subst (λ (h : Held). Stands (fed_more h.fault fed piece) given (held_at limit 0 after fault)) is (takes_piece fed given (held_at limit 0 rest fault) piece after none' same s')

pub none_is : (o : Option FrameFault) → false ≡ is_some o → o ≡ None
none_is None e = refl
none_is (Some x) e = absurd cc

-- ---- a length among the first bytes

abbrev pub failed : Fault → Result (ℕ × List ℕ) Fault
failed fault = Err fault

-- these are the first bytes, and so many that a length among them is whole
abbrev pub HasLength : List ℕ → List ℕ → Type 0
HasLength bytes front = (front ≡ take (length front) bytes) × ((length bytes ≤ length front) ⊎ (10 ≤ length front))

never_cut : (more : ℕ) (bytes : List ℕ) → more < length bytes → number_at more bytes ≡ failed CutField → ⊥
unfolding number_at
never_cut more [] long e = omega arith
never_cut zero (byte ∷ rest) long e = last_not_cut (leb byte 1) byte rest e
  where
    last_not_cut : (t : Bool) (byte : ℕ) (rest : List ℕ) → cond t (done (byte, rest)) (failed BadVarint) ≡ failed CutField → ⊥
    last_not_cut true byte rest e = absurd cc
    last_not_cut false byte rest e = absurd cc
never_cut (suc more) (byte ∷ rest) long e = step_not_cut (ltb byte 128) byte rest (number_at more rest) (λ cut. never_cut more rest (omega arith) cut) e
  where
    below_not_cut : (byte : ℕ) (read : Result (ℕ × List ℕ) Fault) → (read ≡ failed CutField → ⊥) → below byte read ≡ failed CutField → ⊥
    below_not_cut byte (Ok read) not_cut e = absurd cc
    below_not_cut byte (Err fault) not_cut e = not_cut e

    step_not_cut : (t : Bool) (byte : ℕ) (rest : List ℕ) (read : Result (ℕ × List ℕ) Fault) → (read ≡ failed CutField → ⊥) → cond t (done (byte, rest)) (below byte read) ≡ failed CutField → ⊥
    step_not_cut true byte rest read not_cut e = absurd cc
    step_not_cut false byte rest read not_cut e = below_not_cut byte read not_cut e

bad_more : (more : ℕ) (bytes p : List ℕ) → number_at more bytes ≡ failed BadVarint → number_at more (bytes ++ p) ≡ failed BadVarint
unfolding number_at
bad_more more [] p e = absurd cc
bad_more zero (byte ∷ rest) p e = last_bad (leb byte 1) byte rest e
  where
    last_bad : (t : Bool) (byte : ℕ) (rest : List ℕ) → cond t (done (byte, rest)) (failed BadVarint) ≡ failed BadVarint → cond t (done (byte, rest ++ p)) (failed BadVarint) ≡ failed BadVarint
    last_bad true byte rest e = absurd cc
    last_bad false byte rest e = refl
bad_more (suc more) (byte ∷ rest) p e = step_bad (ltb byte 128) byte rest (number_at more rest) (number_at more (rest ++ p)) (λ bad. bad_more more rest p bad) e
  where
    below_bad : (byte : ℕ) (read next : Result (ℕ × List ℕ) Fault) → (read ≡ failed BadVarint → next ≡ failed BadVarint) → below byte read ≡ failed BadVarint → below byte next ≡ failed BadVarint
    below_bad byte (Ok read) next goes e = absurd cc
    below_bad byte (Err fault) next goes e = rw (goes e) refl

    step_bad : (t : Bool) (byte : ℕ) (rest : List ℕ) (read next : Result (ℕ × List ℕ) Fault) → (read ≡ failed BadVarint → next ≡ failed BadVarint) → cond t (done (byte, rest)) (below byte read) ≡ failed BadVarint
        → cond t (done (byte, rest ++ p)) (below byte next) ≡ failed BadVarint
    step_bad true byte rest read next goes e = absurd cc
    step_bad false byte rest read next goes e = below_bad byte read next goes e

-- the first bytes and what is behind them
behind_front : (bytes front : List ℕ) → front ≡ take (length front) bytes → bytes ≡ front ++ drop (length front) bytes
behind_front bytes front is = sym (take-append-drop (length front) bytes) ∙ ap (λ (x : List ℕ). x ++ drop (length front) bytes) (sym is)

pub whole_length : (bytes front : List ℕ) (value used : ℕ) → HasLength bytes front → varint_at front ≡ done (value, drop used front) → used ≤ length front
    → (varint_at bytes ≡ done (value, drop used bytes)) × (used ≤ length bytes)
whole_length bytes front value used has e within =
    let parts = behind_front bytes front has.0 in
    let l : length bytes ≡ length (front ++ drop (length front) bytes) = ap length parts in
    let rest : drop used front ++ drop (length front) bytes ≡ drop used bytes = sym (ap (drop used) parts ∙ drop-append-le used front (drop (length front) bytes) within) in (
      ap varint_at parts ∙ (varint_more front (drop (length front) bytes) value (drop used front) e ∙ ap (λ (r : List ℕ). done (value, r)) rest),
      omega (arith, length-append front (drop (length front) bytes)),
    )

pub bad_length : (bytes front : List ℕ) → HasLength bytes front → varint_at front ≡ failed BadVarint → varint_at bytes ≡ failed BadVarint
unfolding varint_at
bad_length bytes front has e = ap varint_at (behind_front bytes front has.0) ∙ bad_more 9 front (drop (length front) bytes) e

pub cut_length : (bytes front : List ℕ) → HasLength bytes front → varint_at front ≡ failed CutField → varint_at bytes ≡ failed CutField
unfolding varint_at
cut_length bytes front (is, inl all) e = ap varint_at (sym (is ∙ take_all (length front) bytes all)) ∙ e
cut_length bytes front (is, inr long) e = absurd (never_cut 9 front (omega arith) e)

length_is : (bytes front : List ℕ) (v : Varint) → HasLength bytes front → IsVarintAt front v → IsVarintAt bytes v
length_is bytes front (Whole_number value used) has at = let w = whole_length bytes front value used has at.0 at.1 in (w.0, w.1, at.2, at.3)
length_is bytes front Cut has at = cut_length bytes front has at
length_is bytes front BadNumber has at = bad_length bytes front has at

enough : (all n : ℕ) → min all 10 ≤ n → (all ≤ n) ⊎ (10 ≤ n)
enough all n le = by (leb all 10) refl
  where
    by : (b : Bool) → leb all 10 ≡ b → (all ≤ n) ⊎ (10 ≤ n)
    by true e = inl (let l : all ≤ 10 = leb-true all 10 e in omega arith)
    by false e = inr (let l : 10 < all = leb-false all 10 e in omega arith)

-- where the first bytes stand in one piece
pub length_in_part : (bytes front : List ℕ) (v : Varint) → IsPartAt bytes 0 front → min (length bytes) 10 ≤ length front → IsVarintAt front v → IsVarintAt bytes v
length_in_part bytes front v part long at = length_is bytes front v (part.front, enough (length bytes) (length front) long) at

-- and where they were put together
pub length_in_copy : (bytes copied : List ℕ) (v : Varint) → copied ≡ take (min (length bytes) 10 - 0) (drop 0 bytes) → IsVarintAt copied v → IsVarintAt bytes v
length_in_copy bytes copied v is at =
    let n : length copied ≡ min (min (length bytes) 10 - 0) (length bytes) = ap length is ∙ length-take (min (length bytes) 10 - 0) bytes in
    let m : min (length bytes) 10 - 0 ≡ length copied = omega arith in
    length_is bytes copied v (is ∙ ap (λ (k : ℕ). take k bytes) m, enough (length bytes) (length copied) (omega arith)) at
