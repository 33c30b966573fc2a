-- What the lanes of each berth leave, berth by berth.
use Rattle.std.proofs.Common.{◌≡◌, ℕ, suc, ◌+◌, ◌<◌, List, [], ◌∷◌, ◌++◌, length, map, Option, Some, None, refl, sym, ap, subst, ◌∙◌, arith, All}
use Rattle.std.specs.Prelude.{option_map, option_to_list, get_or}
use Rattle.std.proofs.lemmas.List.Elements.{All-nil, All-cons}
use Rattle.seat_desk.specs.History.{calls_by}
use Rattle.exec_journal.specs.declared.call.Call.{Call}
use Rattle.exec_journal.specs.declared.reply.Reply.{Reply}
use Rattle.lane_threads.specs.declared.pair.Either.{Either}
use Rattle.lane_threads.specs.declared.pair.Either.TheVariants.{First, Second}
use Rattle.outside.specs.Told.{BerthTold, FeedTold, TapTold, ChildTold}
use Rattle.remote_messages.specs.declared.work.WorkAction.{WorkAction}
use Rattle.lane_laws.specs.Numbers.{concat}
use Rattle.core_contract.specs.Moves.{History}
use Rattle.core_contract.specs.Duties.{proxy_lane}
use Rattle.core_contract.specs.Laws.{tap_lane}
use Rattle.core_contract.specs.Shelf.{tap_at}
use Rattle.core_machine.specs.Bench.{IsOf, IsTapOf}
use Rattle.run_plan.specs.declared.plan.Speech.{Speech}
use Rattle.run_values.specs.declared.settings.Settings.{Settings}
use Rattle.proxy_words.specs.declared.halt.ProxyHalt.{ProxyHalt}
use Rattle.proxy_words.specs.Lines.{lines_of, listed}
use Rattle.proxy_laws.specs.declared.hands.EndedFeed.{EndedFeed}
use Rattle.proxy_laws.specs.Lanes.{back_of}
use Rattle.proxy_laws.specs.Steps.{Ended}
use Rattle.tap_lane.specs.declared.ends.EndedTap.{EndedTap}
use Rattle.tap_lane.specs.declared.ends.TapHalt.{TapHalt}
use Rattle.tap_lane.specs.Heard.{back_by}
use Rattle.tap_lane.specs.Lane.{LaneEnds}
use Rattle.proxy_lane.specs.declared.lane.ProxyLeft.{ProxyLeft}
use Rattle.lane_runs.specs.Seats.{means_for}
use Rattle.tap_lane.specs.declared.ends.TapLeft.{TapLeft}
use Rattle.lane_runs.specs.Ran.{EachBerthRan}
use Rattle.lane_runs.specs.BerthHalves.{BerthLines, IsMatched, all_feed_lines, feed_lines}
use Rattle.lane_laws.specs.Taps.{started_at, taken_in}
use Rattle.lane_laws.specs.Lines.{started_from}
use Rattle.lane_laws.specs.Lanes.{TakenAreTapped}
use Rattle.lane_runs.specs.Apart.{Alternate, lines_left, berths_of, lefts_of, unsaid_of}

-- a berth by what its lines speak, the berth before and after, what is left of its lines, and the line that
-- wasn't reported
pub record Seen (B D T K : Type 0) : Type 0 where
  pub spoken : Speech
  pub old : B
  pub new : B
  pub left : BerthLines D T K
  pub unsaid : Option (EndedFeed D K)

module _ {B D T K : Type 0} (berth : B → BerthTold) (feed : D → FeedTold) (tap : T → TapTold)
    (child : K → ChildTold) (rule : History → ℕ → Call → Reply) (settings : Settings)
    (actions : List WorkAction) (h : History) where
  pub record BerthLeft (w : ℕ) (s : Seen B D T K) : Type 0 where
    pub halted : Option ProxyHalt
    pub want : Option TapHalt
    pub served : Ended (means_for settings actions s.spoken) rule (proxy_lane w)
        (calls_by (proxy_lane w) h) h (berth s.old) (berth s.new) (map (back_of feed child) s.left.feeds)
        (option_map (back_of feed child) s.unsaid) halted
    pub told : LaneEnds s.spoken (tap_lane w) want (map (back_by tap) s.left.taps)
        (calls_by (tap_lane w) h)
    pub slot : IsOf (IsTapOf tap) (tap_at w h) s.left.shelved

  abbrev pub EachLeft : ℕ → List (Seen B D T K) → Type 0
  EachLeft w [] = Unit {0}
  EachLeft w (s ∷ ss) = BerthLeft w s × EachLeft (w + 1) ss

  -- the slots of the shelf from the berth w on
  abbrev pub SlotsFrom : ℕ → List (Option T) → Type 0
  SlotsFrom w [] = Unit {0}
  SlotsFrom w (s ∷ ss) = IsOf (IsTapOf tap) (tap_at w h) s × SlotsFrom (w + 1) ss

  pub slots_from : (w : ℕ) (slots : List (Option T))
      → ((i : ℕ) → i < length slots → IsOf (IsTapOf tap) (tap_at (w + i) h) (get_or slots i None))
      → SlotsFrom w slots
  slots_from w [] each = tt
  slots_from w (s ∷ ss) each = (
    subst (λ (v : ℕ). IsOf (IsTapOf tap) (tap_at v h) s) (let e : w + 0 ≡ w = omega arith in e) (each 0 (omega arith)),
    slots_from (w + 1) ss (λ i lt.
        subst (λ (v : ℕ). IsOf (IsTapOf tap) (tap_at v h) (get_or ss i None))
        (let e : w + suc i ≡ w + 1 + i = omega arith in e) (each (suc i) (omega (arith, lt)))),
  )

  -- the berths that were seen, by these lists
  pub record Gathered (w : ℕ) (speeches : List Speech) (olds : List B) (slots : List (Option T))
      (ends : List (Either (ProxyLeft B D K) (TapLeft T))) : Type 0 where
    pub seen : List (Seen B D T K)
    pub each : EachLeft w seen
    pub speeches_are : speeches ≡ map (λ (s : Seen B D T K). s.spoken) seen
    pub olds_are : olds ≡ map (λ (s : Seen B D T K). s.old) seen
    pub news_are : berths_of slots ends ≡ map (λ (s : Seen B D T K). s.new) seen
    pub lines_are : lefts_of slots ends ≡ map (λ (s : Seen B D T K). s.left) seen
    pub unsaid_are : unsaid_of slots ends ≡ map (λ (s : Seen B D T K). s.unsaid) seen

  pub gather : (w : ℕ) (olds : List B) (speeches : List Speech)
      (ends : List (Either (ProxyLeft B D K) (TapLeft T))) (slots : List (Option T))
      → EachBerthRan berth feed tap child rule settings actions h w olds speeches ends
      → SlotsFrom w slots → length slots ≡ length speeches → Gathered w speeches olds slots ends
  gather w [] [] ends [] ran sl eq = record {
    seen = [];
    each = tt;
    speeches_are = refl;
    olds_are = refl;
    news_are = refl;
    lines_are = refl;
    unsaid_are = refl;
  }
  gather w [] [] ends (s ∷ slots) ran sl eq = absurd (omega (arith, eq))
  gather w (b ∷ bs) (p ∷ ps) (First x ∷ Second y ∷ ends) (s ∷ slots) ran sl eq =
      let rest = gather (w + 1) bs ps ends slots ran.1 sl.1 (omega (arith, eq)) in
      let here : Seen B D T K = record {
        spoken = p;
        old = b;
        new = x.berth;
        left = lines_left x y s;
        unsaid = x.unsaid;
      } in
      record {
        seen = here ∷ rest.seen;
        each = (
          record { halted = x.halted; want = y.halted; served = ran.0.served; told = ran.0.told; slot = sl.0 },
          rest.each,
        );
        speeches_are = ap (λ (z : List Speech). p ∷ z) rest.speeches_are;
        olds_are = ap (λ (z : List B). b ∷ z) rest.olds_are;
        news_are = ap (λ (z : List B). x.berth ∷ z) rest.news_are;
        lines_are = ap (λ (z : List (BerthLines D T K)). lines_left x y s ∷ z) rest.lines_are;
        unsaid_are = ap (λ (z : List (Option (EndedFeed D K))). x.unsaid ∷ z) rest.unsaid_are;
      }
  gather w (b ∷ bs) (p ∷ ps) (First x ∷ Second y ∷ ends) [] ran sl eq = absurd (omega (arith, eq))
  gather w (b ∷ bs) (p ∷ ps) [] slots ran sl eq = absurd ran
  gather w (b ∷ bs) (p ∷ ps) (First x ∷ []) slots ran sl eq = absurd ran
  gather w (b ∷ bs) (p ∷ ps) (First x ∷ First y ∷ ends) slots ran sl eq = absurd ran
  gather w (b ∷ bs) (p ∷ ps) (Second x ∷ ends) slots ran sl eq = absurd ran
  gather w [] (p ∷ ps) ends slots ran sl eq = absurd ran
  gather w (b ∷ bs) [] ends slots ran sl eq = absurd ran

  pub alternate : (w : ℕ) (olds : List B) (speeches : List Speech)
      (ends : List (Either (ProxyLeft B D K) (TapLeft T))) (slots : List (Option T))
      → EachBerthRan berth feed tap child rule settings actions h w olds speeches ends
      → length slots ≡ length speeches → Alternate slots ends
  alternate w [] [] ends [] ran eq = ran
  alternate w [] [] ends (s ∷ slots) ran eq = absurd (omega (arith, eq))
  alternate w (b ∷ bs) (p ∷ ps) (First x ∷ Second y ∷ ends) (s ∷ slots) ran eq =
      alternate (w + 1) bs ps ends slots ran.1 (omega (arith, eq))
  alternate w (b ∷ bs) (p ∷ ps) (First x ∷ Second y ∷ ends) [] ran eq = absurd (omega (arith, eq))
  alternate w (b ∷ bs) (p ∷ ps) [] slots ran eq = absurd ran
  alternate w (b ∷ bs) (p ∷ ps) (First x ∷ []) slots ran eq = absurd ran
  alternate w (b ∷ bs) (p ∷ ps) (First x ∷ First y ∷ ends) slots ran eq = absurd ran
  alternate w (b ∷ bs) (p ∷ ps) (Second x ∷ ends) slots ran eq = absurd ran
  alternate w [] (p ∷ ps) ends slots ran eq = absurd ran
  alternate w (b ∷ bs) [] ends slots ran eq = absurd ran

  -- ---- the lines of a berth

  feeds_of_backs : (feeds : List (EndedFeed D K))
      → lines_of (map (back_of feed child) feeds) ≡ map (λ x. x.line) feeds
  feeds_of_backs [] = refl
  feeds_of_backs (x ∷ xs) = ap (λ (ls : List ℕ). x.line ∷ ls) (feeds_of_backs xs)

  pub taps_of_backs : (taps : List (EndedTap T))
      → map (λ (t : ℕ × TapTold). t.0) (map (back_by tap) taps) ≡ map (λ x. x.line) taps
  taps_of_backs [] = refl
  taps_of_backs (x ∷ xs) = ap (λ (ls : List ℕ). x.line ∷ ls) (taps_of_backs xs)

  pub feeds_are_started : (w : ℕ) (s : Seen B D T K) → BerthLeft w s
      → feed_lines s.left ≡ started_at w h
  feeds_are_started w s x = sym (feeds_of_backs s.left.feeds) ∙ x.served.lines.lines

  pub as_many_slots : (o : Option ℕ) (s : Option T) → IsOf (IsTapOf tap) o s
      → length (listed o) ≡ length (option_to_list s)
  as_many_slots None None is = refl
  as_many_slots None (Some t) is = absurd (cc)
  as_many_slots (Some l) None is = absurd is
  as_many_slots (Some l) (Some t) is = refl

  unfoldable pub matched : (w : ℕ) (s : Seen B D T K) → BerthLeft w s
      → (started_at w h ≡ taken_in (calls_by (tap_lane w) h) ++ listed (tap_at w h))
      → TakenAreTapped → IsMatched s.left
  matched w s x tapped taken = record {
    more = listed (tap_at w h);
    lines = feeds_are_started w s x
        ∙ (tapped
        ∙ ap (λ (ls : List ℕ). ls ++ listed (tap_at w h))
        (taken s.spoken (tap_lane w) x.want (map (back_by tap) s.left.taps)
        (calls_by (tap_lane w) h) x.told ∙ taps_of_backs s.left.taps));
    as_many = as_many_slots (tap_at w h) s.left.shelved x.slot;
  }

  pub all_matched : (w : ℕ) (seen : List (Seen B D T K)) → EachLeft w seen
      → ((v : ℕ) → started_at v h ≡ taken_in (calls_by (tap_lane v) h) ++ listed (tap_at v h))
      → TakenAreTapped → All IsMatched (map (λ (s : Seen B D T K). s.left) seen)
  all_matched w [] each tapped taken = All-nil IsMatched
  all_matched w (s ∷ ss) each tapped taken =
      All-cons IsMatched s.left (map (λ (x : Seen B D T K). x.left) ss)
      (matched w s each.0 (tapped w) taken) (all_matched (w + 1) ss each.1 tapped taken)

  pub all_started : (w : ℕ) (seen : List (Seen B D T K)) → EachLeft w seen
      → all_feed_lines (map (λ (s : Seen B D T K). s.left) seen)
      ≡ concat (started_from h w (length seen))
  unfolding started_from
  all_started w [] each = refl
  all_started w (s ∷ ss) each =
      ap (λ (ls : List ℕ). ls ++ all_feed_lines (map (λ (x : Seen B D T K). x.left) ss))
      (feeds_are_started w s each.0)
      ∙ ap (λ (ls : List ℕ). started_at w h ++ ls) (all_started (w + 1) ss each.1)
