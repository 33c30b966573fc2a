-- A stream has one reading, and given lines come first.
use Rattle.std.proofs.Common.{◌≡◌, ℕ, Bool, true, false, cond, List, [], ◌∷◌, ◌++◌, refl, sym, ap, ◌∙◌, inl, inr}
use Rattle.std.proofs.lemmas.List.Elements.{filter-append}
use Rattle.std.specs.List.{filter}
use Rattle.delimited_framing.specs.Front.{Front, Whole, Unfinished, Bad, HoldsBy, HasReading, OneReading}
use Rattle.delimited_framing.specs.Splitter.{GivenFirst}
use Rattle.delimited_framing.proofs.Streams.{HoldsBy-more}
use Rattle.delimited_framing.proofs.Laws.{Stops, stops_at, same_frames, reads_to, front_of}
use Rattle.json_framing.specs.Lines.{line_at, says_something, line_form, Holds}
use Rattle.json_framing.proofs.Streams.{lines_marked}

has_reading : (limit : ℕ) (stream : List ℕ) (all : List (List ℕ)) (rest : List ℕ) (here : Front) → line_at limit rest ≡ here → Stops here → HoldsBy (line_at limit) stream all rest → HasReading line_form stream limit
has_reading limit stream all rest (Whole f a) e s h = absurd s
has_reading limit stream all rest Unfinished e s h = inl (filter says_something all, (rest, record { holds = (all, h, refl); unfinished = e }))
has_reading limit stream all rest (Bad fault) e s h = inr (filter says_something all, (fault, record { rest = rest; holds = (all, h, refl); bad = e }))

-- the same lines, blank ones among them, say the same
same_said : (all others fs gs : List (List ℕ)) → all ≡ others → fs ≡ filter says_something all → gs ≡ filter says_something others → fs ≡ gs
same_said all others fs gs e p q = p ∙ ap (filter says_something) e ∙ sym q

pub only_reading : OneReading line_form
only_reading = record {
  some = λ stream limit. let r = reads_to (line_at limit) (lines_marked limit) stream in has_reading limit stream r.0 r.1 (line_at limit r.1) refl r.3 r.2;
  frames = λ stream limit fs gs a b p q.
      let s = same_frames (line_at limit) stream p.holds.0 q.holds.0 a b p.holds.1 (stops_at (line_at limit a) Unfinished p.unfinished tt) q.holds.1 (stops_at (line_at limit b) Unfinished q.unfinished tt) in
      (same_said p.holds.0 q.holds.0 fs gs s.0 p.holds.2 q.holds.2, s.1);
  faults = λ stream limit fs gs x y p q.
      let s = same_frames (line_at limit) stream p.holds.0 q.holds.0 p.rest q.rest p.holds.1 (stops_at (line_at limit p.rest) (Bad x) p.bad tt) q.holds.1 (stops_at (line_at limit q.rest) (Bad y) q.bad tt) in
      let e : Bad x ≡ Bad y = sym p.bad ∙ ap (line_at limit) s.1 ∙ q.bad in (same_said p.holds.0 q.holds.0 fs gs s.0 p.holds.2 q.holds.2, cc);
  either = λ stream limit fs gs a x p q.
      let s = same_frames (line_at limit) stream p.holds.0 q.holds.0 a q.rest p.holds.1 (stops_at (line_at limit a) Unfinished p.unfinished tt) q.holds.1 (stops_at (line_at limit q.rest) (Bad x) q.bad tt) in
      let e : Unfinished ≡ Bad x = sym p.unfinished ∙ ap (line_at limit) s.1 ∙ q.bad in absurd cc;
}

-- ---- the last line that was given

-- before it stand these lines, and it stands at the front of what is behind them
abbrev pub LastAt : (List ℕ → Front) → List ℕ → List (List ℕ) → List ℕ → Type 0
LastAt front stream lines line =
    (mid : List ℕ) × (after : List ℕ) × (all : List (List ℕ)) × HoldsBy front stream all mid × (lines ≡ filter says_something all) × (front mid ≡ Whole line after)

same_heads : (a b : List ℕ) (more others : List (List ℕ)) → a ∷ more ≡ b ∷ others → (a ≡ b) × (more ≡ others)
same_heads a b more others e = (cc, cc)

one_more : (front : List ℕ → Front) (stream first line after : List ℕ) (lines others : List (List ℕ)) → front stream ≡ Whole first after → ((all : List (List ℕ)) → others ≡ filter says_something all → lines ≡ filter says_something (first ∷ all)) → LastAt front after others line → LastAt front stream lines line
one_more front stream first line after lines others e says l = (l.0, l.1, first ∷ l.2, (after, e, l.3), says l.2 l.4, l.5)

kept : (first : List ℕ) (others all : List (List ℕ)) (t : Bool) → says_something first ≡ t → others ≡ filter says_something all → cond t (first ∷ others) others ≡ filter says_something (first ∷ all)
kept first others all true is e = rw is (ap (λ (x : List (List ℕ)). first ∷ x) e)
kept first others all false is e = rw is e

filtered : (first : List ℕ) (all : List (List ℕ)) (t : Bool) → says_something first ≡ t → filter says_something (first ∷ all) ≡ cond t (first ∷ filter says_something all) (filter says_something all)
filtered first all true is = rw is refl
filtered first all false is = rw is refl

-- how the lines before the last of `all` are found, by how those of its rest are
last_by : (front : List ℕ → Front) (stream first : List ℕ) (all lines : List (List ℕ)) (line rest : List ℕ) (t : Bool) → says_something first ≡ t
    → ((s : List ℕ) (ls : List (List ℕ)) → HoldsBy front s all rest → ls ++ line ∷ [] ≡ filter says_something all → LastAt front s ls line)
    → HoldsBy front stream (first ∷ all) rest → lines ++ line ∷ [] ≡ cond t (first ∷ filter says_something all) (filter says_something all) → LastAt front stream lines line
last_by front stream first all [] line rest true is later h e =
    let s = same_heads line first [] (filter says_something all) e in
    (stream, h.0, [], refl, refl, h.1 ∙ ap (λ (x : List ℕ). Whole x h.0) (sym s.0))
last_by front stream first all (g ∷ gs) line rest true is later h e =
    let s = same_heads g first (gs ++ line ∷ []) (filter says_something all) e in
    one_more front stream first line h.0 (g ∷ gs) gs h.1 (λ more is'. ap (λ (x : List ℕ). x ∷ gs) s.0 ∙ kept first gs more true is is') (later h.0 gs h.2 s.1)
last_by front stream first all lines line rest false is later h e =
    one_more front stream first line h.0 lines lines h.1 (λ more is'. kept first lines more false is is') (later h.0 lines h.2 e)

last_in : (front : List ℕ → Front) (stream : List ℕ) (all lines : List (List ℕ)) (line rest : List ℕ) → HoldsBy front stream all rest → lines ++ line ∷ [] ≡ filter says_something all → LastAt front stream lines line
last_in front stream [] [] line rest h e = absurd cc
last_in front stream [] (g ∷ gs) line rest h e = absurd cc
last_in front stream (first ∷ all) lines line rest h e =
    last_by front stream first all lines line rest (says_something first) refl (λ s ls h' e'. last_in front s all ls line rest h' e') h (e ∙ filtered first all (says_something first) refl)

pub last_line : (limit : ℕ) (stream : List ℕ) (lines : List (List ℕ)) (line rest : List ℕ) → Holds limit stream (lines ++ line ∷ []) rest → (mid : List ℕ) × (after : List ℕ) × Holds limit stream lines mid × (line_at limit mid ≡ Whole line after)
last_line limit stream lines line rest h = let l = last_in (line_at limit) stream h.0 lines line rest h.1 h.2 in (l.0, l.1, (l.2, l.3, l.4), l.5)

-- ---- the lines that were given come first

later_said : (all given frames : List (List ℕ)) (whole : List (List ℕ)) → given ≡ filter says_something all → frames ≡ filter says_something whole → (later : List (List ℕ)) × (whole ≡ all ++ later) → (later : List (List ℕ)) × (frames ≡ given ++ later)
later_said all given frames whole g f l = (
  filter says_something l.0,
  f ∙ ap (filter says_something) l.1 ∙ filter-append says_something all l.0 ∙ ap (λ (x : List (List ℕ)). x ++ filter says_something l.0) (sym g),
)

pub given_first : GivenFirst line_form
given_first = record {
  frames = λ fed more given frames rest s p q.
      later_said p.holds.0 given frames q.holds.0 p.holds.2 q.holds.2
      (front_of (line_at s.limit) (fed ++ more) p.holds.0 q.holds.0 (s.rest ++ more) rest (HoldsBy-more (line_at s.limit) (lines_marked s.limit) fed p.holds.0 s.rest more p.holds.1) q.holds.1 (stops_at (line_at s.limit rest) Unfinished q.unfinished tt));
  faults = λ fed more given frames fault s p q.
      later_said p.holds.0 given frames q.holds.0 p.holds.2 q.holds.2
      (front_of (line_at s.limit) (fed ++ more) p.holds.0 q.holds.0 (s.rest ++ more) q.rest (HoldsBy-more (line_at s.limit) (lines_marked s.limit) fed p.holds.0 s.rest more p.holds.1) q.holds.1 (stops_at (line_at s.limit q.rest) (Bad fault) q.bad tt));
}
