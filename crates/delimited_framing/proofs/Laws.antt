-- A stream has one reading.
use Rattle.std.proofs.Common.{◌≡◌, ℕ, zero, suc, ◌<◌, ◌≤◌, ◌^◌, List, [], ◌∷◌, ◌++◌, length, refl, sym, ap, subst, ◌∙◌, append_assoc, inl, inr, arith}
use Rattle.std.proofs.lemmas.List.{length-append, take_at, drop_at}
use Rattle.std.proofs.lemmas.Bool.{le-ltb}
use Rattle.std.proofs.lemmas.List.Concat.{flat_map-cons}
use Rattle.std.specs.List.{AllByRecursion, flat_map}
use Rattle.wire_fields.specs.Varint.{number_at, varint_at, varint}
use Rattle.wire_fields.specs.Spelling.{delimited}
use Rattle.wire_fields.proofs.Again.{varint_again}
use Rattle.delimited_framing.specs.Front.{Front, Whole, Unfinished, Bad, HoldsBy, HasReading, OneReading, IsMarked}
use Rattle.delimited_framing.specs.Frame.{frame_at, delimited_form, Holds, DelimitedIsRead}
use Rattle.delimited_framing.specs.Splitter.{GivenFirst}
use Rattle.delimited_framing.proofs.Streams.{HoldsBy-more, frames_marked}

-- no whole frame is at the front
abbrev pub Stops : Front → Type 0
Stops (Whole frame rest) = ⊥
Stops Unfinished = Unit {0}
Stops (Bad fault) = Unit {0}

stops_not : (front : Front) (f a : List ℕ) → front ≡ Whole f a → Stops front → ⊥
stops_not front f a e s = subst Stops e s

pub stops_at : (front other : Front) → front ≡ other → Stops other → Stops front
stops_at front other e s = subst Stops (sym e) s

module _ (front : List ℕ → Front) where
  same_front : (stream f g a b : List ℕ) → front stream ≡ Whole f a → front stream ≡ Whole g b → (f ≡ g) × (a ≡ b)
  same_front stream f g a b p q = let e : Whole f a ≡ Whole g b = sym p ∙ q in (cc, cc)

  pub same_frames : (stream : List ℕ) (fs gs : List (List ℕ)) (a b : List ℕ) → HoldsBy front stream fs a → Stops (front a) → HoldsBy front stream gs b → Stops (front b) → (fs ≡ gs) × (a ≡ b)
  same_frames stream [] [] a b p s q t = (refl, sym p ∙ q)
  same_frames stream [] (g ∷ gs) a b p s q t = absurd (stops_not (front a) g q.0 (ap front (sym p) ∙ q.1) s)
  same_frames stream (f ∷ fs) [] a b p s q t = absurd (stops_not (front b) f p.0 (ap front (sym q) ∙ p.1) t)
  same_frames stream (f ∷ fs) (g ∷ gs) a b p s q t =
      let e = same_front stream f g p.0 q.0 p.1 q.1 in
      let rest = same_frames p.0 fs gs a b p.2 s (subst (λ (r : List ℕ). HoldsBy front r gs b) (sym e.1) q.2) t in
      let head = e.0 in let tail = rest.0 in (cc, rest.1)

  -- ---- each stream has one

  abbrev pub ReadsTo : List ℕ → Type 0
  ReadsTo stream = (frames : List (List ℕ)) × (rest : List ℕ) × HoldsBy front stream frames rest × Stops (front rest)

  read_on : (stream : List ℕ) (here : Front) → front stream ≡ here → ((frame after : List ℕ) → here ≡ Whole frame after → ReadsTo after) → ReadsTo stream
  read_on stream (Whole frame after) e next = let r = next frame after refl in (frame ∷ r.0, r.1, (after, e, r.2), r.3)
  read_on stream Unfinished e next = ([], stream, refl, stops_at (front stream) Unfinished e tt)
  read_on stream (Bad fault) e next = ([], stream, refl, stops_at (front stream) (Bad fault) e tt)

  reading : (marked : IsMarked front) (n : ℕ) (stream : List ℕ) → length stream ≤ n → ReadsTo stream
  reading marked zero stream le = read_on stream (front stream) refl (λ frame after e. let s = marked.takes stream frame after e in absurd (omega arith))
  reading marked (suc n) stream le = read_on stream (front stream) refl (λ frame after e. let s = marked.takes stream frame after e in reading marked n after (omega arith))

  pub reads_to : IsMarked front → (stream : List ℕ) → ReadsTo stream
  reads_to marked stream = reading marked (length stream) stream (omega arith)

  -- ---- the frames that were given come first

  pub front_of : (stream : List ℕ) (given frames : List (List ℕ)) (a b : List ℕ) → HoldsBy front stream given a → HoldsBy front stream frames b → Stops (front b) → (later : List (List ℕ)) × (frames ≡ given ++ later)
  front_of stream [] frames a b p q stop = (frames, refl)
  front_of stream (g ∷ gs) [] a b p q stop = absurd (stops_not (front b) g p.0 (ap front (sym q) ∙ p.1) stop)
  front_of stream (g ∷ gs) (f ∷ fs) a b p q stop =
      let e = same_front stream f g q.0 p.0 q.1 p.1 in
      let rest = front_of q.0 gs fs a b (subst (λ (r : List ℕ). HoldsBy front r gs a) (sym e.1) p.2) q.2 stop in
      let head = e.0 in let tail = rest.1 in (rest.0, cc)

-- ---- frames behind their lengths

has_reading : (limit : ℕ) (stream : List ℕ) (frames : List (List ℕ)) (rest : List ℕ) (here : Front) → frame_at limit rest ≡ here → Stops here → Holds limit stream frames rest → HasReading delimited_form stream limit
has_reading limit stream frames rest (Whole f a) e s h = absurd s
has_reading limit stream frames rest Unfinished e s h = inl (frames, (rest, record { holds = h; unfinished = e }))
has_reading limit stream frames rest (Bad fault) e s h = inr (frames, (fault, record { rest = rest; holds = h; bad = e }))

pub only_reading : OneReading delimited_form
only_reading = record {
  some = λ stream limit. let r = reads_to (frame_at limit) (frames_marked limit) stream in has_reading limit stream r.0 r.1 (frame_at limit r.1) refl r.3 r.2;
  frames = λ stream limit fs gs a b p q. same_frames (frame_at limit) stream fs gs a b p.holds (stops_at (frame_at limit a) Unfinished p.unfinished tt) q.holds (stops_at (frame_at limit b) Unfinished q.unfinished tt);
  faults = λ stream limit fs gs x y p q.
      let s = same_frames (frame_at limit) stream fs gs p.rest q.rest p.holds (stops_at (frame_at limit p.rest) (Bad x) p.bad tt) q.holds (stops_at (frame_at limit q.rest) (Bad y) q.bad tt) in
      let e : Bad x ≡ Bad y = sym p.bad ∙ ap (frame_at limit) s.1 ∙ q.bad in (s.0, cc);
  either = λ stream limit fs gs a x p q.
      let s = same_frames (frame_at limit) stream fs gs a q.rest p.holds (stops_at (frame_at limit a) Unfinished p.unfinished tt) q.holds (stops_at (frame_at limit q.rest) (Bad x) q.bad tt) in
      let e : Unfinished ≡ Bad x = sym p.unfinished ∙ ap (frame_at limit) s.1 ∙ q.bad in absurd cc;
}

pub given_first : GivenFirst delimited_form
given_first = record {
  frames = λ fed more given frames rest s p q.
      front_of (frame_at s.limit) (fed ++ more) given frames (s.rest ++ more) rest (HoldsBy-more (frame_at s.limit) (frames_marked s.limit) fed given s.rest more p.holds) q.holds (stops_at (frame_at s.limit rest) Unfinished q.unfinished tt);
  faults = λ fed more given frames fault s p q.
      front_of (frame_at s.limit) (fed ++ more) given frames (s.rest ++ more) q.rest (HoldsBy-more (frame_at s.limit) (frames_marked s.limit) fed given s.rest more p.holds) q.holds (stops_at (frame_at s.limit q.rest) (Bad fault) q.bad tt);
}

-- ---- what is written behind its length

one_read : (limit : ℕ) (frame rest : List ℕ) → length frame ≤ limit → limit < 2 ^ 64 → frame_at limit (delimited frame ++ rest) ≡ Whole frame rest
unfolding frame_at
one_read limit frame rest short fits =
    let enough : length frame ≤ length (frame ++ rest) = omega (arith, length-append frame rest) in
    rw (
      append_assoc (varint (length frame)) frame rest,
      varint_again (length frame) (frame ++ rest) (omega arith),
      le-ltb limit (length frame) short,
      le-ltb (length (frame ++ rest)) (length frame) enough,
      take_at frame rest (length frame) refl,
      drop_at frame rest (length frame) refl,
    ) refl

nothing_read : (limit : ℕ) → frame_at limit [] ≡ Unfinished
unfolding frame_at varint_at number_at
nothing_read limit = refl

all_hold : (limit : ℕ) (frames : List (List ℕ)) → AllByRecursion (λ frame. length frame ≤ limit) frames → limit < 2 ^ 64 → Holds limit (flat_map delimited frames) frames []
all_hold limit [] short fits = refl
all_hold limit (frame ∷ frames) short fits =
    let e : flat_map delimited (frame ∷ frames) ≡ delimited frame ++ flat_map delimited frames = flat_map-cons delimited frame frames in
    (flat_map delimited frames, ap (frame_at limit) e ∙ one_read limit frame (flat_map delimited frames) short.0 fits, all_hold limit frames short.1 fits)

pub delimited_read : DelimitedIsRead
delimited_read = record {
  one = one_read;
  all = λ limit frames short fits. record { holds = all_hold limit frames short fits; unfinished = nothing_read limit };
}
