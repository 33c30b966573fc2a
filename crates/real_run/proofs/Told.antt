-- What real objects have left tells.
use Rattle.std.proofs.Common.{◌≡◌, ℕ, zero, suc, List, [], ◌∷◌, ◌++◌, map, Option, Some, None, IfSome, refl}
use Rattle.std.specs.Prelude.{IsSome, option_map}
use Rattle.std.specs.List.{AllByRecursion}
use Rattle.outside.specs.Told.{LineTold}
use Rattle.outside_real.specs.Telling.{BerthSeen, ChildSeen, FeedSeen, PlaceSeen, TapSeen, until_a_fault}
use Rattle.proxy_words.specs.Lines.{Returned, listed}
use Rattle.proxy_laws.specs.Lanes.{back_of}
use Rattle.proxy_laws.specs.declared.hands.EndedFeed.{EndedFeed}
use Rattle.lane_runs.specs.Runs.{EndTold, back_in, backs_at, end_of, laid_told, line_at}
use Rattle.lane_runs.specs.declared.halves.EndedLine.{EndedLine}
use Rattle.lane_runs.specs.declared.halves.Halves.{Halves}
use Rattle.lane_runs.specs.declared.layout.Laid.{Laid}
use Rattle.real_run.specs.Objects.{berth_told, child_told, feed_told, place_told, tap_told}
use Rattle.real_run.specs.Tells.{BackTells, BerthTells, ChildTells, EndTells, FeedTells, LeftTells, LineTells, PlaceTells, UnsaidTells}

-- ---- real objects

until_then : {A : Type 0} (n : ℕ) (xs : List A) → n ≡ 0 → IsSome (until_a_fault n xs)
until_then zero xs none = refl
until_then (suc n) xs none = absurd (cc)

feed_tells : (f : FeedSeen) → FeedTells (feed_told f)
feed_tells f = record { line = refl; given = until_then f.faults f.said }

child_tells : (c : ChildSeen) → ChildTells (child_told c)
child_tells c = record { line = refl; kills = refl }

abbrev pub end_told : EndedLine FeedSeen TapSeen ChildSeen → EndTold
end_told = end_of feed_told tap_told child_told

halves_tell : (o : Option (Halves FeedSeen TapSeen ChildSeen)) (n : ℕ)
    → EndTells (end_told (record { number = n; halves = o }))
halves_tell None n = tt
halves_tell (Some h) n = record {
  feed = feed_tells h.feed;
  tap = record { taken = refl; ended = refl };
  child = child_tells h.child;
}

unsaid_tells : (o : Option (EndedFeed FeedSeen ChildSeen)) → UnsaidTells (option_map (back_of feed_told child_told) o)
unsaid_tells None = tt
unsaid_tells (Some x) = record { feed = feed_tells x.feed; child = child_tells x.child }

each_tells : {A B : Type 0} (told : A → B) (P : B → Type 0) → ((x : A) → P (told x)) → (xs : List A)
    → AllByRecursion P (map told xs)
each_tells told P so [] = tt
each_tells told P so (x ∷ xs) = (so x, each_tells told P so xs)

-- all that lanes over real objects leave
pub laid_tells : (x : Laid BerthSeen FeedSeen TapSeen ChildSeen PlaceSeen)
    → LeftTells (laid_told berth_told feed_told tap_told child_told place_told x)
laid_tells x = record {
  berths = each_tells berth_told BerthTells (λ b. refl) x.berths.items;
  lines = each_tells end_told EndTells (λ e. halves_tell e.halves e.number) x.lines.items;
  unsaid = each_tells (option_map (back_of feed_told child_told)) UnsaidTells unsaid_tells x.unsaid.items;
  places = each_tells place_told PlaceTells (λ p. refl) x.places.items;
}

-- ---- the lines of lanes

pub line_tells : (lines : List EndTold) → AllByRecursion EndTells lines → (l : ℕ)
    → IfSome (line_at lines l) LineTells
line_tells [] each zero = tt
line_tells [] each (suc l) = tt
line_tells (e ∷ es) each zero = each.0
line_tells (e ∷ es) each (suc l) = line_tells es each.1 l

line_and_rest : (l : ℕ) (o : Option LineTold) (rest : List Returned) → IfSome o LineTells
    → AllByRecursion BackTells rest → AllByRecursion BackTells (back_in l o ++ rest)
line_and_rest l None rest line each = each
line_and_rest l (Some t) rest line each = (record { feed = line.feed; child = line.child }, each)

pub backs_tell : (lines : List EndTold) → AllByRecursion EndTells lines → (ls : List ℕ)
    → AllByRecursion BackTells (backs_at lines ls)
backs_tell lines each [] = tt
backs_tell lines each (l ∷ ls) =
    line_and_rest l (line_at lines l) (backs_at lines ls) (line_tells lines each l) (backs_tell lines each ls)

pub listed_tells : (u : Option Returned) → UnsaidTells u → AllByRecursion BackTells (listed u)
listed_tells None tells = tt
listed_tells (Some x) tells = (tells, tt)
