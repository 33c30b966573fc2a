-- What is known of each feed and of each tap by its line is known of the halves at that line.
use Rattle.std.proofs.Common.{◌≡◌, ℕ, ◌+◌, inl, inr, List, [], ◌∷◌, ◌++◌, length, map, drop, get_or, Option, Some, None, refl, sym, ◌∙◌, ap, subst, arith, All}
use Rattle.std.specs.Prelude.{zip, IfSome}
use Rattle.std.specs.List.{range_with_len}
use Rattle.std.proofs.lemmas.List.{length-map, get_or-map}
use Rattle.std.proofs.lemmas.List.Elements.{All-nil, All-cons, All-head, All-tail}
use Rattle.std.proofs.lemmas.List.FromFn.{get_or-range_with_len}
use Rattle.proxy_laws.specs.declared.hands.EndedFeed.{EndedFeed}
use Rattle.tap_lane.specs.declared.ends.EndedTap.{EndedTap}
use Rattle.lane_runs.specs.Placed.{Numbered}
use Rattle.lane_laws.specs.Numbers.{In}
use Rattle.lane_laws.proofs.Ins.{in_either}
use Rattle.lane_runs.specs.BerthHalves.{BerthLines, IsMatched, all_feed_lines, all_halves, halves_of, halves_with, taps_left}
use Rattle.lane_runs.specs.declared.halves.EndedLine.{EndedLine}
use Rattle.lane_runs.specs.declared.halves.Halves.{Halves}
use Rattle.lane_runs.specs.LineFacts.{OfFeed, OfTap, HasFacts, EachHasFacts, HaveFacts, LinesHaveFacts}
use Rattle.lane_runs.specs.EndedLines.{AreLines}
use Rattle.lane_runs.proofs.Matching.{lines_in, all_halves_lines}

all_in : {X : Type 0} (P : X → Type 0) (x : X) (xs : List X) → All P xs → In x xs → P x
all_in P x (y ∷ ys) all (inl e) = subst P (sym e) (All-head P y ys all)
all_in P x (y ∷ ys) all (inr h) = all_in P x ys (All-tail P y ys all) h
all_in P x [] all h = absurd h

head_same : (a b : ℕ) (xs ys : List ℕ) → a ∷ xs ≡ b ∷ ys → (a ≡ b) × (xs ≡ ys)
head_same a b xs ys e = ((cc), (cc))

module _ {D T K : Type 0} (F : ℕ → ℕ → D → K → Type 0) (G : ℕ → ℕ → T → Type 0) where
  -- ---- one berth

  abbrev OfBerth : ℕ → Numbered (Halves D T K) → Type 0
  OfBerth w x = F w x.line x.thing.feed x.thing.child × G w x.line x.thing.tap

  -- no tap of the lane is left
  last_halves : (w : ℕ) (feeds : List (EndedFeed D K)) (shelved : Option T)
      → All (OfFeed F G w) feeds → IfSome shelved (λ t. All (λ x. G w x.line t) feeds)
      → All (OfBerth w) (map halves_with (zip feeds (taps_left [] shelved)))
  last_halves w [] shelved fs gs = All-nil (OfBerth w)
  last_halves w (f ∷ feeds) None fs gs = All-nil (OfBerth w)
  last_halves w (f ∷ []) (Some t) fs gs =
      All-cons (OfBerth w) (halves_with (f, t)) []
      (All-head (OfFeed F G w) f [] fs, All-head (λ x. G w x.line t) f [] gs)
      (All-nil (OfBerth w))
  last_halves w (f ∷ (g ∷ feeds)) (Some t) fs gs =
      All-cons (OfBerth w) (halves_with (f, t)) []
      (All-head (OfFeed F G w) f (g ∷ feeds) fs, All-head (λ x. G w x.line t) f (g ∷ feeds) gs)
      (All-nil (OfBerth w))

  zipped_halves : (w : ℕ) (feeds : List (EndedFeed D K)) (taps : List (EndedTap T))
      (shelved : Option T) (more : List ℕ)
      → map (λ x. x.line) feeds ≡ map (λ x. x.line) taps ++ more
      → All (OfFeed F G w) feeds → All (OfTap F G w) taps
      → IfSome shelved (λ t. All (λ x. G w x.line t) (drop (length taps) feeds))
      → All (OfBerth w) (map halves_with (zip feeds (taps_left taps shelved)))
  zipped_halves w feeds [] shelved more e fs ts gs = last_halves w feeds shelved fs gs
  zipped_halves w [] (t ∷ taps) shelved more e fs ts gs = All-nil (OfBerth w)
  zipped_halves w (f ∷ feeds) (t ∷ taps) shelved more e fs ts gs =
      let behind : List ℕ = map (λ x. x.line) taps ++ more in
      let same = head_same f.line t.line (map (λ x. x.line) feeds) behind e in
      let tap = All-head (OfTap F G w) t taps ts in
      let rest = All-tail (OfFeed F G w) f feeds fs in
      All-cons (OfBerth w) (halves_with (f, t.tap))
      (map halves_with (zip feeds (taps_left taps shelved)))
      (All-head (OfFeed F G w) f feeds fs, subst (λ (l : ℕ). G w l t.tap) (sym same.0) tap)
      (zipped_halves w feeds taps shelved more same.1 rest (All-tail (OfTap F G w) t taps ts) gs)

  halves_facts : (w : ℕ) (b : BerthLines D T K) → HasFacts F G w b → IsMatched b
      → All (OfBerth w) (halves_of b)
  halves_facts w b h m =
      zipped_halves w b.feeds b.taps b.shelved m.more m.lines h.feeds h.taps h.shelved

  -- ---- all berths

  facts_in : (w : ℕ) (berths : List (BerthLines D T K)) → EachHasFacts F G w berths
      → All IsMatched berths → (x : Numbered (Halves D T K)) → In x (all_halves berths)
      → HaveFacts F G x.line x.thing
  facts_in w [] facts m x h = absurd h
  facts_in w (b ∷ bs) facts m x h =
      let here = halves_facts w b facts.0 (All-head IsMatched b bs m) in
      elim (in_either x (halves_of b) (all_halves bs) h) [
        | inl a ↦ (let both = all_in (OfBerth w) x (halves_of b) here a in (w, both.0, both.1))
        | inr a ↦ facts_in (w + 1) bs facts.1 (All-tail IsMatched b bs m) x a
      ]

  -- what stands at a line has the facts of some berth
  pub facts_at : (count : ℕ) (berths : List (BerthLines D T K)) (lines : List (EndedLine D T K))
      → EachHasFacts F G 0 berths → All IsMatched berths → AreLines count berths lines
      → (l : ℕ) (h : Halves D T K) → get_or (map (λ x. x.halves) lines) l None ≡ Some h
      → HaveFacts F G l h
  facts_at count berths lines facts m are l h e =
      facts_in 0 berths facts m (record { line = l; thing = h }) (are.placed.only l h e)

  facts_where : (l : ℕ) (o : Option (Halves D T K))
      → ((h : Halves D T K) → o ≡ Some h → HaveFacts F G l h) → IfSome o (λ h. HaveFacts F G l h)
  facts_where l None have = tt
  facts_where l (Some h) have = have h refl

  -- each line that has halves has the facts of some berth
  pub facts_of_lines : (count : ℕ) (berths : List (BerthLines D T K))
      (lines : List (EndedLine D T K))
      → EachHasFacts F G 0 berths → All IsMatched berths → AreLines count berths lines
      → LinesHaveFacts F G lines
  facts_of_lines count berths lines facts m are = λ k d lt.
      let x : EndedLine D T K = get_or lines k d in
      let many = length-map lines (λ (y : EndedLine D T K). y.halves) in
      let placed = are.placed.as_many in
      let counted : get_or (range_with_len 0 count) k 0 ≡ k =
      get_or-range_with_len 0 count k 0 (omega arith) ∙ omega arith in
      let at : x.number ≡ k =
      sym (get_or-map (λ (y : EndedLine D T K). y.number) lines k d 0 lt)
      ∙ (ap (λ (ns : List ℕ). get_or ns k 0) are.numbers ∙ counted) in
      let here = get_or-map (λ (y : EndedLine D T K). y.halves) lines k d None lt in
      subst (λ (n : ℕ). IfSome x.halves (λ h. HaveFacts F G n h)) (sym at)
      (facts_where k x.halves (λ h e. facts_at count berths lines facts m are k h (here ∙ e)))

-- ---- the line of a shelved tap

module _ {D K : Type 0} where
  of_lines : (P : ℕ → Type 0) (feeds : List (EndedFeed D K)) (lines : List ℕ)
      → map (λ x. x.line) feeds ≡ lines → All P lines → All (λ x. P x.line) feeds
  of_lines P [] lines e all = All-nil (λ x. P x.line)
  of_lines P (f ∷ feeds) [] e all = absurd (cc)
  of_lines P (f ∷ feeds) (l ∷ lines) e all =
      let same = head_same f.line l (map (λ x. x.line) feeds) lines e in
      All-cons (λ x. P x.line) f feeds (subst P (sym same.0) (All-head P l lines all))
      (of_lines P feeds lines same.1 (All-tail P l lines all))

  behind_taps : {T : Type 0} (P : ℕ → Type 0) (feeds : List (EndedFeed D K))
      (taps : List (EndedTap T)) (more : List ℕ)
      → map (λ x. x.line) feeds ≡ map (λ x. x.line) taps ++ more → All P more
      → All (λ x. P x.line) (drop (length taps) feeds)
  behind_taps P feeds [] more e all = of_lines P feeds more e all
  behind_taps P [] (t ∷ taps) more e all = All-nil (λ x. P x.line)
  behind_taps P (f ∷ feeds) (t ∷ taps) more e all =
      let behind : List ℕ = map (λ x. x.line) taps ++ more in
      let same = head_same f.line t.line (map (λ x. x.line) feeds) behind e in
      behind_taps P feeds taps more same.1 all

-- what holds of the lines that a berth has beyond those of its taps holds of those feeds
pub of_more : {D T K : Type 0} (P : ℕ → Type 0) (b : BerthLines D T K) (m : IsMatched b)
    → All P m.more → All (λ x. P x.line) (drop (length b.taps) b.feeds)
of_more P b m all = behind_taps P b.feeds b.taps m.more m.lines all

-- ---- what is there whatever is known

module _ {D T K : Type 0} where
  some_thing : (n : ℕ) (xs : List (Numbered (Halves D T K))) → In n (lines_in xs)
      → (x : Numbered (Halves D T K)) × In x xs × (n ≡ x.line)
  some_thing n (x ∷ xs) (inl e) = (x, inl refl, e)
  some_thing n (x ∷ xs) (inr h) = let s = some_thing n xs h in (s.0, inr s.1, s.2)
  some_thing n [] h = absurd h

  -- the line of each feed has halves
  pub feeds_have_halves : (count : ℕ) (berths : List (BerthLines D T K))
      (lines : List (EndedLine D T K)) → All IsMatched berths → AreLines count berths lines
      → (l : ℕ) → In l (all_feed_lines berths)
      → (h : Halves D T K) × (get_or (map (λ x. x.halves) lines) l None ≡ Some h)
  feeds_have_halves count berths lines m are l h =
      let same = sym (all_halves_lines berths m) in
      let s = some_thing l (all_halves berths) (subst (λ (ls : List ℕ). In l ls) same h) in
      let x : Numbered (Halves D T K) = s.0 in
      let placed : List (Option (Halves D T K)) = map (λ y. y.halves) lines in (
        x.thing,
        subst (λ (n : ℕ). get_or placed n None ≡ Some x.thing) (sym s.2) (are.placed.all x s.1),
      )

  -- there is a line for each number
  pub as_many_lines : (count : ℕ) (berths : List (BerthLines D T K))
      (lines : List (EndedLine D T K)) → AreLines count berths lines → length lines ≡ count
  as_many_lines count berths lines are =
      sym (length-map lines (λ (x : EndedLine D T K). x.halves)) ∙ are.placed.as_many
