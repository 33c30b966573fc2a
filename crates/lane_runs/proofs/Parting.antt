-- The ends of one berth more.
use Rattle.std.proofs.Common.{◌≡◌, ℕ, ◌<◌, length, drop, arith, List, [], ◌∷◌, ◌++◌, Option, refl, sym, ap, subst, ◌∙◌, append_assoc, append-nil, All}
use Rattle.std.proofs.lemmas.List.Elements.{All-nil, All-cons, All-head, All-tail}
use Rattle.lane_threads.specs.declared.pair.Either.{Either}
use Rattle.lane_threads.specs.declared.pair.Either.TheVariants.{First, Second}
use Rattle.proxy_laws.specs.declared.hands.EndedFeed.{EndedFeed}
use Rattle.proxy_lane.specs.declared.lane.ProxyLeft.{ProxyLeft}
use Rattle.tap_lane.specs.declared.ends.TapLeft.{TapLeft}
use Rattle.lane_runs.specs.declared.halves.EndedLine.{EndedLine}
use Rattle.lane_runs.specs.declared.halves.Halves.{Halves}
use Rattle.lane_runs.specs.BerthHalves.{AreInside, BerthLines, IsInside, IsMatched, feed_lines, halves_of, all_halves, all_feed_lines}
use Rattle.lane_runs.specs.Apart.{Alternate, BeginsWithTwo, lines_left, berths_of, lefts_of, unsaid_of}
use Rattle.lane_runs.specs.Placed.{Numbered, placed_all}
use Rattle.lane_runs.proofs.Matching.{halves_at, numbers_at, same_many}

-- where nothing came out, nothing was there
pub none_left : {X : Type 0} (xs ys : List X) → xs ≡ ys → ys ≡ drop 1 xs → xs ≡ []
none_left [] ys e f = refl
none_left {X} (x ∷ xs) ys e f =
    absurd (let k : length (x ∷ xs) ≡ length xs = ap length (e ∙ f) in omega (arith, k))

all_front : (P : ℕ → Type 0) (xs ys : List ℕ) → All P (xs ++ ys) → All P xs
all_front P [] ys all = All-nil P
all_front P (x ∷ xs) ys all =
    All-cons P x xs (All-head P x (xs ++ ys) all) (all_front P xs ys (All-tail P x (xs ++ ys) all))

all_back : (P : ℕ → Type 0) (xs ys : List ℕ) → All P (xs ++ ys) → All P ys
all_back P [] ys all = all
all_back P (x ∷ xs) ys all = all_back P xs ys (All-tail P x (xs ++ ys) all)

placed_both : {X : Type 0} (places : List (Option X)) (xs ys : List (Numbered X))
    → placed_all places (xs ++ ys) ≡ placed_all (placed_all places xs) ys
placed_both places [] ys = refl
placed_both places (x ∷ xs) ys = placed_both _ xs ys

module _ {B D T K : Type 0} where
  begins_with_two : (slots : List (Option T)) (ends : List (Either (ProxyLeft B D K) (TapLeft T)))
      (s : Option T) → Alternate (s ∷ slots) ends → BeginsWithTwo ends
  begins_with_two slots [] s alt = absurd alt
  begins_with_two slots (First x ∷ []) s alt = absurd alt
  begins_with_two slots (First x ∷ First y ∷ ends) s alt = absurd alt
  begins_with_two slots (First x ∷ Second y ∷ ends) s alt = tt
  begins_with_two slots (Second x ∷ ends) s alt = absurd alt

  -- Of these slots and ends the first are laid by: the berths, the lines that weren't reported, and
  -- the halves of the others. The rest is still to come.
  pub record Parting (every slots : List (Option T))
      (all ends : List (Either (ProxyLeft B D K) (TapLeft T))) (berths : List B)
      (unsaid : List (Option (EndedFeed D K))) (before lines : List (EndedLine D T K)) : Type 0 where
    pub left : Alternate slots ends
    pub inside : AreInside (length before) (lefts_of slots ends)
    pub berths_so : berths ++ berths_of slots ends ≡ berths_of every all
    pub unsaid_so : unsaid ++ unsaid_of slots ends ≡ unsaid_of every all
    pub numbers : numbers_at lines ≡ numbers_at before
    pub halves : placed_all (halves_at lines) (all_halves (lefts_of slots ends))
        ≡ placed_all (halves_at before) (all_halves (lefts_of every all))

  pub parts_none : (every slots : List (Option T))
      (all ends : List (Either (ProxyLeft B D K) (TapLeft T))) (berths : List B)
      (unsaid : List (Option (EndedFeed D K))) (lines : List (EndedLine D T K))
      → Alternate every all → AreInside (length lines) (lefts_of every all) → slots ≡ every
      → ends ≡ all → berths ≡ [] → unsaid ≡ []
      → Parting every slots all ends berths unsaid lines lines
  parts_none every slots all ends berths unsaid lines alt inside e f g h =
      rw (e, f, g, h) record {
        left = alt;
        inside = inside;
        berths_so = refl;
        unsaid_so = refl;
        numbers = refl;
        halves = refl;
      }

  pub begins : (every slots slots' : List (Option T))
      (all ends : List (Either (ProxyLeft B D K) (TapLeft T))) (s : Option T) (berths : List B)
      (unsaid : List (Option (EndedFeed D K))) (before lines : List (EndedLine D T K))
      → Parting every slots all ends berths unsaid before lines → slots ≡ s ∷ slots'
      → BeginsWithTwo ends
  begins every slots slots' all ends s berths unsaid before lines was e =
      begins_with_two slots' ends s
      (subst (λ (o : List (Option T)). Alternate o ends) e was.left)

  -- the next berth, with its two ends and its slot
  module _ (every slots slots' : List (Option T))
      (all ends ends' : List (Either (ProxyLeft B D K) (TapLeft T))) (s : Option T)
      (x : ProxyLeft B D K) (y : TapLeft T) (berths : List B)
      (unsaid : List (Option (EndedFeed D K))) (before lines : List (EndedLine D T K))
      (was : Parting every slots all ends berths unsaid before lines) (e : slots ≡ s ∷ slots')
      (f : ends ≡ First x ∷ Second y ∷ ends') where
    abbrev here : BerthLines D T K
    here = lines_left x y s

    abbrev rest : List (BerthLines D T K)
    rest = lefts_of slots' ends'

    now : Parting every (s ∷ slots') all (First x ∷ Second y ∷ ends') berths unsaid before lines
    now = subst (λ (o : List (Either (ProxyLeft B D K) (TapLeft T))). Parting every (s ∷ slots') all o berths unsaid before lines) f
        (subst (λ (o : List (Option T)). Parting every o all ends berths unsaid before lines) e was)

    pub next_fits : IsInside (length lines) here
    next_fits = record {
      matched = All-head IsMatched here rest now.inside.matched;
      below = subst (λ (n : ℕ). All (λ l. l < n) (feed_lines here))
          (sym (same_many before lines now.numbers))
          (all_front (λ l. l < length before) (feed_lines here) (all_feed_lines rest) now.inside.below);
    }

    pub parts_one : (berths' : List B) (unsaid' : List (Option (EndedFeed D K)))
        (lines' : List (EndedLine D T K)) → berths' ≡ berths ++ x.berth ∷ []
        → unsaid' ≡ unsaid ++ x.unsaid ∷ [] → numbers_at lines' ≡ numbers_at lines
        → halves_at lines' ≡ placed_all (halves_at lines) (halves_of here)
        → Parting every slots' all ends' berths' unsaid' before lines'
    parts_one berths' unsaid' lines' g h same put = record {
      left = now.left;
      inside = record {
        matched = All-tail IsMatched here rest now.inside.matched;
        below = all_back (λ l. l < length before) (feed_lines here) (all_feed_lines rest) now.inside.below;
      };
      berths_so = ap (λ (o : List B). o ++ berths_of slots' ends') g
          ∙ (append_assoc berths (x.berth ∷ []) (berths_of slots' ends') ∙ now.berths_so);
      unsaid_so = ap (λ (o : List (Option (EndedFeed D K))). o ++ unsaid_of slots' ends') h
          ∙ (append_assoc unsaid (x.unsaid ∷ []) (unsaid_of slots' ends') ∙ now.unsaid_so);
      numbers = same ∙ now.numbers;
      halves = ap (λ (hs : List (Option (Halves D T K))). placed_all hs (all_halves rest)) put
          ∙ (sym (placed_both (halves_at lines) (halves_of here) (all_halves rest)) ∙ now.halves);
    }

  -- all are laid by where no slot is left
  pub parts_all : (every slots : List (Option T))
      (all ends : List (Either (ProxyLeft B D K) (TapLeft T))) (berths : List B)
      (unsaid : List (Option (EndedFeed D K))) (before lines : List (EndedLine D T K))
      → Parting every slots all ends berths unsaid before lines → slots ≡ []
      → (berths ≡ berths_of every all) × (unsaid ≡ unsaid_of every all)
      × (numbers_at lines ≡ numbers_at before)
      × (halves_at lines ≡ placed_all (halves_at before) (all_halves (lefts_of every all)))
  parts_all every slots all ends berths unsaid before lines was none =
      let now : Parting every [] all ends berths unsaid before lines =
      subst (λ (o : List (Option T)). Parting every o all ends berths unsaid before lines) none was in (
        sym (append-nil berths) ∙ now.berths_so,
        sym (append-nil unsaid) ∙ now.unsaid_so,
        now.numbers,
        now.halves,
      )
