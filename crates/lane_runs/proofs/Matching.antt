-- The halves of a berth's lines, one after the other, and the lines at whose numbers they are put.
use Rattle.std.proofs.Common.{◌≡◌, ℕ, zero, suc, ◌+◌, ◌<◌, List, [], ◌∷◌, ◌++◌, length, map, get_or, set, replicate, Option, Some, None, refl, sym, ◌∙◌, ap, subst, arith, length-append, All}
use Rattle.std.specs.Prelude.{zip, option_to_list}
use Rattle.std.specs.List.{range_with_len}
use Rattle.std.proofs.Math.Seq.{map-set_same}
use Rattle.std.proofs.lemmas.List.{length-map, map_push, map-append, map-set, replicate_more}
use Rattle.std.proofs.lemmas.List.Elements.{All-nil, All-cons, All-head, All-tail}
use Rattle.std.proofs.lemmas.List.FromFn.{length-range_with_len}
use Rattle.proxy_laws.specs.declared.hands.EndedFeed.{EndedFeed}
use Rattle.tap_lane.specs.declared.ends.EndedTap.{EndedTap}
use Rattle.lane_runs.specs.Placed.{Numbered, placed_all}
use Rattle.lane_runs.specs.BerthHalves.{BerthLines, IsMatched, all_feed_lines, all_halves, feed_lines, halves_of, halves_with, tap_lines, taps_left}
use Rattle.lane_runs.specs.declared.halves.EndedLine.{EndedLine}
use Rattle.lane_runs.specs.declared.halves.Halves.{Halves}

range_more : (a n k : ℕ) → a + n ≡ k → range_with_len a (suc n) ≡ range_with_len a n ++ k ∷ []
range_more a zero k e = let same : a ≡ k = omega arith in ap (λ (m : ℕ). m ∷ []) same
range_more a (suc n) k e = ap (λ (ls : List ℕ). a ∷ ls) (range_more (a + 1) n k (omega arith))

range_next : (n : ℕ) → range_with_len 0 (n + 1) ≡ range_with_len 0 n ++ n ∷ []
range_next n =
    let next : n + 1 ≡ suc n = omega arith in
    ap (λ (m : ℕ). range_with_len 0 m) next ∙ range_more 0 n n (omega arith)

abbrev pub lines_in : {X : Type 0} → List (Numbered X) → List ℕ
lines_in xs = map (λ x. x.line) xs

module _ {D T K : Type 0} where
  -- ---- one berth

  -- a berth has as many taps as feeds
  pub as_many_taps : (b : BerthLines D T K) → IsMatched b
      → length b.feeds ≡ length (taps_left b.taps b.shelved)
  as_many_taps b m =
      let taken : List T = map (λ (x : EndedTap T). x.tap) b.taps in
      let feeds = length-map b.feeds (λ (x : EndedFeed D K). x.line) in
      let taps = length-map b.taps (λ (x : EndedTap T). x.line) in
      let left = length-map b.taps (λ (x : EndedTap T). x.tap) in
      let both = length-append (tap_lines b) m.more in
      let all = length-append taken (option_to_list b.shelved) in
      let same = ap length m.lines in
      let more = m.as_many in
      omega (arith, feeds, taps, left, both, all, same, more)

  zipped_lines : (feeds : List (EndedFeed D K)) (taps : List T) → length feeds ≡ length taps
      → lines_in (map halves_with (zip feeds taps)) ≡ map (λ x. x.line) feeds
  zipped_lines [] taps e = refl
  zipped_lines (f ∷ fs) [] e = absurd (omega arith)
  zipped_lines (f ∷ fs) (t ∷ ts) e =
      ap (λ (ls : List ℕ). f.line ∷ ls) (zipped_lines fs ts (omega arith))

  -- the halves of a berth are at the lines of its feeds
  halves_lines : (b : BerthLines D T K) → IsMatched b → lines_in (halves_of b) ≡ feed_lines b
  halves_lines b m =
      zipped_lines b.feeds (taps_left b.taps b.shelved) (as_many_taps b m)

  -- ---- all berths

  pub all_halves_lines : (berths : List (BerthLines D T K)) → All IsMatched berths
      → lines_in (all_halves berths) ≡ all_feed_lines berths
  all_halves_lines [] m = refl
  all_halves_lines (b ∷ bs) m =
      let here = halves_lines b (All-head IsMatched b bs m) in
      let rest = all_halves_lines bs (All-tail IsMatched b bs m) in
      map-append (λ (x : Numbered (Halves D T K)). x.line) (halves_of b) (all_halves bs)
      ∙ (ap (λ (ls : List ℕ). ls ++ lines_in (all_halves bs)) here
      ∙ ap (λ (ls : List ℕ). feed_lines b ++ ls) rest)

  all_of_lines : (P : ℕ → Type 0) (xs : List (Numbered (Halves D T K))) → All P (lines_in xs)
      → All (λ x. P x.line) xs
  all_of_lines P [] all = All-nil (λ x. P x.line)
  all_of_lines P (x ∷ xs) all =
      All-cons (λ y. P y.line) x xs (All-head P x.line (lines_in xs) all)
      (all_of_lines P xs (All-tail P x.line (lines_in xs) all))

  -- what holds of the lines of all feeds holds of those of all halves
  pub all_lines : (P : ℕ → Type 0) (berths : List (BerthLines D T K)) → All IsMatched berths
      → All P (all_feed_lines berths) → All (λ x. P x.line) (all_halves berths)
  all_lines P berths m all =
      all_of_lines P (all_halves berths)
      (subst (λ (ls : List ℕ). All P ls) (sym (all_halves_lines berths m)) all)

  -- ---- one line more

  -- the lines are numbered so far, and nothing is known of them
  pub record Numbering (lines : List (EndedLine D T K)) (number : ℕ) : Type 0 where
    pub numbers : map (λ x. x.number) lines ≡ range_with_len 0 number
    pub halves : map (λ x. x.halves) lines ≡ replicate number None

  pub numbers_none : Numbering [] 0
  numbers_none = record { numbers = refl; halves = refl }

  pub numbers_one : (lines : List (EndedLine D T K)) (number : ℕ) → Numbering lines number
      → Numbering (lines ++ record { number = number; halves = None } ∷ []) (number + 1)
  numbers_one lines number was =
      let line : EndedLine D T K = record { number = number; halves = None } in record {
        numbers = map_push (λ (x : EndedLine D T K). x.number) lines line
            ∙ (ap (λ (ls : List ℕ). ls ++ number ∷ []) was.numbers ∙ sym (range_next number));
        halves = map_push (λ (x : EndedLine D T K). x.halves) lines line
            ∙ (ap (λ (hs : List (Option (Halves D T K))). hs ++ None ∷ []) was.halves
            ∙ replicate_more number None);
      }

  -- ---- one feed more

  abbrev pub halves_at : List (EndedLine D T K) → List (Option (Halves D T K))
  halves_at lines = map (λ x. x.halves) lines

  abbrev pub numbers_at : List (EndedLine D T K) → List ℕ
  numbers_at lines = map (λ x. x.number) lines

  -- the halves of some feeds stand at their lines, and those of the others are still to come
  pub record Pairing (feeds : List (EndedFeed D K)) (taps : List T)
      (before lines : List (EndedLine D T K)) (all : List (Numbered (Halves D T K))) : Type 0 where
    pub as_many : length feeds ≡ length taps
    pub below : All (λ l. l < length before) (map (λ x. x.line) feeds)
    pub numbers : numbers_at lines ≡ numbers_at before
    pub whole : placed_all (halves_at lines) (map halves_with (zip feeds taps))
        ≡ placed_all (halves_at before) all

  pub pairs_none : (b : BerthLines D T K) (feeds : List (EndedFeed D K)) (taps : List (EndedTap T))
      (lines : List (EndedLine D T K)) → IsMatched b
      → All (λ l. l < length lines) (map (λ x. x.line) b.feeds) → feeds ≡ b.feeds → taps ≡ b.taps
      → Pairing feeds (taps_left taps b.shelved) lines lines (halves_of b)
  pairs_none b feeds taps lines m below of_feeds of_taps =
      rw (of_feeds, of_taps)
      record { as_many = as_many_taps b m; below = below; numbers = refl; whole = refl }

  pub same_many : (before lines : List (EndedLine D T K)) → numbers_at lines ≡ numbers_at before
      → length lines ≡ length before
  same_many before lines e =
      sym (length-map lines (λ (x : EndedLine D T K). x.number))
      ∙ (ap length e ∙ length-map before (λ (x : EndedLine D T K). x.number))

  pub next_inside : (feeds feeds' : List (EndedFeed D K)) (taps : List T) (f : EndedFeed D K)
      (before lines : List (EndedLine D T K)) (all : List (Numbered (Halves D T K)))
      → Pairing feeds taps before lines all → feeds ≡ f ∷ feeds' → f.line < length lines
  next_inside feeds feeds' taps f before lines all was e =
      let below = subst (λ (xs : List (EndedFeed D K)). All (λ l. l < length before) (map (λ x. x.line) xs)) e was.below in
      let first = All-head (λ l. l < length before) f.line (map (λ (x : EndedFeed D K). x.line) feeds') below in
      let many = same_many before lines was.numbers in
      omega (arith, first, many)

  some_tap : (feeds' : List (EndedFeed D K)) (taps : List T) (f : EndedFeed D K)
      → length (f ∷ feeds') ≡ length taps → taps ≡ [] → ⊥
  some_tap feeds' taps f e none =
      let zero_taps : length taps ≡ 0 = ap length none in omega (arith, e, zero_taps)

  -- a tap is there
  pub next_has_tap : (feeds feeds' : List (EndedFeed D K)) (taps : List T) (f : EndedFeed D K)
      (before lines : List (EndedLine D T K)) (all : List (Numbered (Halves D T K)))
      → Pairing feeds taps before lines all → feeds ≡ f ∷ feeds' → taps ≡ [] → ⊥
  next_has_tap feeds feeds' taps f before lines all was e none =
      some_tap feeds' taps f (sym (ap length e) ∙ was.as_many) none

  pub pairs_one : (feeds feeds' : List (EndedFeed D K)) (taps taps' : List T) (f : EndedFeed D K)
      (t : T) (before lines lines' : List (EndedLine D T K)) (all : List (Numbered (Halves D T K)))
      → Pairing feeds taps before lines all → feeds ≡ f ∷ feeds' → taps ≡ t ∷ taps'
      → numbers_at lines' ≡ numbers_at lines
      → halves_at lines'
      ≡ set (halves_at lines) f.line (Some (record { feed = f.feed; tap = t; child = f.child }))
      → Pairing feeds' taps' before lines' all
  pairs_one feeds feeds' taps taps' f t before lines lines' all was e g same put =
      let now : Pairing (f ∷ feeds') (t ∷ taps') before lines all =
      subst (λ (xs : List (EndedFeed D K)). Pairing xs (t ∷ taps') before lines all) e
      (subst (λ (ts : List T). Pairing feeds ts before lines all) g was) in
      record {
        as_many = let many = now.as_many in omega (arith, many);
        below = All-tail (λ l. l < length before) f.line (map (λ (x : EndedFeed D K). x.line) feeds') now.below;
        numbers = same ∙ now.numbers;
        whole = ap (λ (hs : List (Option (Halves D T K))). placed_all hs (map halves_with (zip feeds' taps'))) put
            ∙ now.whole;
      }

  pub pairs_all : (feeds : List (EndedFeed D K)) (taps : List T)
      (before lines : List (EndedLine D T K)) (all : List (Numbered (Halves D T K)))
      → Pairing feeds taps before lines all → feeds ≡ []
      → halves_at lines ≡ placed_all (halves_at before) all
  pairs_all feeds taps before lines all was none =
      let now : Pairing [] taps before lines all =
      subst (λ (xs : List (EndedFeed D K)). Pairing xs taps before lines all) none was in now.whole

  pub numbered_many : (lines : List (EndedLine D T K)) (n : ℕ)
      → numbers_at lines ≡ range_with_len 0 n → length lines ≡ n
  numbered_many lines n e =
      sym (length-map lines (λ (x : EndedLine D T K). x.number)) ∙ (ap length e ∙ length-range_with_len 0 n)

  pub same_number : (x y : EndedLine D T K) → x ≡ y → x.number ≡ y.number
  same_number x y e = ap (λ (z : EndedLine D T K). z.number) e

  -- a line whose halves alone are replaced
  pub put_numbers : (lines : List (EndedLine D T K)) (i : ℕ) (x d : EndedLine D T K)
      → x.number ≡ (get_or lines i d).number → numbers_at (set lines i x) ≡ numbers_at lines
  put_numbers lines i x d e = map-set_same (λ (y : EndedLine D T K). y.number) lines i x d e

  pub put_halves : (lines : List (EndedLine D T K)) (i : ℕ) (x : EndedLine D T K)
      → halves_at (set lines i x) ≡ set (halves_at lines) i x.halves
  put_halves lines i x = map-set (λ (y : EndedLine D T K). y.halves) lines i x
