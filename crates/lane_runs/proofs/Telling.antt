-- What the lanes leave tells of each line, room and place.
use Rattle.std.proofs.Common.{◌≡◌, ℕ, zero, suc, ◌+◌, ◌<◌, Bool, true, false, List, [], ◌∷◌, ◌++◌, length, map, Option, Some, None, refl, sym, ap, subst, ◌∙◌, arith, inl, inr, All}
use Rattle.std.specs.Prelude.{option_map, slice_get, slice_index_or, zip, IfSome}
use Rattle.std.proofs.lemmas.List.Elements.{All-nil, All-cons}
use Rattle.std.proofs.Math.ListN as seq
use Rattle.seat_desk.specs.History.{calls_by}
use Rattle.exec_journal.specs.declared.call.Answer.{Answer}
use Rattle.exec_journal.specs.declared.call.Call.{Call}
use Rattle.exec_journal.specs.declared.call.HowEnded.{HowEnded}
use Rattle.exec_journal.specs.declared.reply.Reply.{Reply}
use Rattle.outside.specs.Launches.{IsNewTap}
use Rattle.outside.specs.Told.{BerthTold, FeedTold, TapTold, ChildTold, LineTold, line_told}
use Rattle.remote_messages.specs.declared.work.WorkAction.{WorkAction}
use Rattle.run_plan.specs.declared.plan.Speech.{Speech}
use Rattle.run_plan.specs.declared.plan.Speech.TheVariants as speech
use Rattle.answer_reader.specs.Says.{SaysFirst}
use Rattle.lane_runs.specs.Placed.{Numbered}
use Rattle.lane_laws.specs.Numbers.{In}
use Rattle.lane_laws.proofs.Ins.{in_front, in_back}
use Rattle.core_contract.specs.Moves.{History}
use Rattle.core_contract.specs.Shelf.{tap_at}
use Rattle.core_contract.specs.Duties.{proxy_lane}
use Rattle.core_contract.specs.Laws.{tap_lane}
use Rattle.core_machine.specs.Bench.{IsOf, IsTapOf}
use Rattle.lane_laws.specs.Pipes.{PipeOf, Each, said_on, end_on}
use Rattle.tap_lane.specs.declared.ends.EndedTap.{EndedTap}
use Rattle.tap_lane.specs.declared.ends.TapHalt.{TapHalt}
use Rattle.tap_lane.specs.Heard.{back_by, SaysTo, EndedBy}
use Rattle.tap_lane.specs.Lane.{LaneEnds}
use Rattle.run_values.specs.declared.settings.Settings.{Settings}
use Rattle.proxy_words.specs.declared.halt.ProxyHalt.{ProxyHalt}
use Rattle.proxy_words.specs.Deeds.{Deed}
use Rattle.proxy_words.specs.Ends.{Ends}
use Rattle.proxy_words.specs.Lines as deeds
use Rattle.proxy_words.specs.Lines.{listed}
use Rattle.proxy_laws.specs.declared.hands.EndedFeed.{EndedFeed}
use Rattle.proxy_laws.specs.Lanes.{back_of}
use Rattle.proxy_laws.specs.Steps.{Ended}
use Rattle.lane_runs.specs.declared.halves.EndedLine.{EndedLine}
use Rattle.lane_runs.specs.declared.halves.Halves.{Halves}
use Rattle.lane_runs.specs.BerthHalves.{IsMatched, taps_left, halves_with, halves_of, all_halves}
use Rattle.lane_runs.specs.LineFacts.{HasFacts, EachHasFacts}
use Rattle.lane_runs.proofs.FactsAt.{of_more}
use Rattle.lane_runs.proofs.Matching.{as_many_taps}
use Rattle.lane_laws.specs.Taps.{started_at, taken_in}
use Rattle.lane_laws.specs.Lanes.{TakenAreTapped, EndedHaveLeft, WasStopped}
use Rattle.lane_laws.specs.Halts.{EndsTellHalts, HaltsAreByLanes, has_halt}
use Rattle.lane_runs.specs.Runs.{EndTold, end_of, line_at, back_in, backs_at, IsStopped, AreStopped, Room, Rooms}
use Rattle.lane_runs.specs.Seats.{means_for}
use Rattle.lane_runs.proofs.Leaving.{Seen, BerthLeft, EachLeft, feeds_are_started, matched}

if_some : {X : Type 0} {P R : X → Type 0} (o : Option X) → IfSome o P → ((x : X) → P x → R x)
    → IfSome o R
if_some None p f = tt
if_some (Some x) p f = f x p

-- ---- bytes that say nothing

says_nothing : (s : Speech) → SaysFirst s [] []
unfolding SaysFirst
says_nothing speech.Proto =
    ([], record { frames = []; messages = []; holds = refl; spelled = tt; joins = refl })
says_nothing speech.Json =
    ([], record { frames = []; messages = []; holds = ([], refl, refl); spelled = tt; joins = refl })
says_nothing speech.Remote =
    ([], record { frames = []; messages = []; holds = refl; spelled = tt; joins = refl })

-- a new tap of a line of which the history says nothing
new_pipe : (s : Speech) (h : History) (l : ℕ) (t : TapTold) → IsNewTap l t
    → (said_on l h ≡ []) × (end_on l h ≡ None) → PipeOf s h (l, t)
new_pipe s h l t new silent = record {
  of_line = new.of_line;
  says = if_some t.taken new.nothing_taken (λ bytes none.
      subst (λ (e : Option HowEnded). SaysTo s e bytes (said_on l h)) (sym silent.1)
      (subst (λ (xs : List Answer). SaysFirst s bytes xs) (sym silent.0)
      (subst (λ (bs : List ℕ). SaysFirst s bs []) (sym none) (says_nothing s))));
  cause = subst (λ (e : Option HowEnded). IfSome e (λ how. EndedBy how t)) (sym silent.1) tt;
}

-- what the halves of a line tell
abbrev pub tell : {D T K : Type 0} → (D → FeedTold) → (T → TapTold) → (K → ChildTold)
    → Halves D T K → LineTold
tell feed tap child x = line_told (feed x.feed) (tap x.tap) (child x.child)

module _ {B D T K : Type 0} (berth : B → BerthTold) (feed : D → FeedTold) (tap : T → TapTold)
    (child : K → ChildTold) (rule : History → ℕ → Call → Reply) (settings : Settings)
    (actions : List WorkAction) (h : History) where
  -- ---- facts of each line

  abbrev pub OfStarted : ℕ → ℕ → D → K → Type 0
  OfStarted w l d k = In l (started_at w h)

  abbrev pub Heard : List Speech → ℕ → ℕ → T → Type 0
  Heard speeches w l t =
      (spoken : Speech) × (slice_get speeches w ≡ Some spoken) × PipeOf spoken h (l, tap t)

  all_started : (w : ℕ) (xs : List (EndedFeed D K)) (ls : List ℕ)
      → ((l : ℕ) → In l (map (λ x. x.line) xs) → In l ls)
      → All (λ (x : EndedFeed D K). In x.line ls) xs
  all_started w [] ls f = All-nil (λ (x : EndedFeed D K). In x.line ls)
  all_started w (x ∷ xs) ls f =
      All-cons (λ (y : EndedFeed D K). In y.line ls) x xs (f x.line (inl refl))
      (all_started w xs ls (λ l i. f l (inr i)))

  all_heard : (speeches : List Speech) (w : ℕ) (spoken : Speech) → slice_get speeches w ≡ Some spoken
      → (xs : List (EndedTap T)) → Each (PipeOf spoken h) (map (back_by tap) xs)
      → All (λ (x : EndedTap T). Heard speeches w x.line x.tap) xs
  all_heard speeches w spoken is [] each = All-nil (λ (x : EndedTap T). Heard speeches w x.line x.tap)
  all_heard speeches w spoken is (x ∷ xs) each =
      All-cons (λ (y : EndedTap T). Heard speeches w y.line y.tap) x xs (spoken, is, each.0)
      (all_heard speeches w spoken is xs each.1)

  shelved_heard : (speeches : List Speech) (w : ℕ) (spoken : Speech) → slice_get speeches w ≡ Some spoken
      → (o : Option ℕ) (s : Option T) → IsOf (IsTapOf tap) o s
      → ((l : ℕ) → o ≡ Some l → (said_on l h ≡ []) × (end_on l h ≡ None))
      → IfSome s (λ t. All (λ l. Heard speeches w l t) (listed o))
  shelved_heard speeches w spoken is None None of silent = tt
  shelved_heard speeches w spoken is None (Some t) of silent = absurd (cc)
  shelved_heard speeches w spoken is (Some l) None of silent = absurd of
  shelved_heard speeches w spoken is (Some l) (Some t) of silent =
      All-cons (λ k. Heard speeches w k t) l []
      (spoken, is, new_pipe spoken h l (tap t) of (silent l refl)) (All-nil (λ k. Heard speeches w k t))

  facts : (speeches : List Speech) (w : ℕ) (s : Seen B D T K)
      (x : BerthLeft berth feed tap child rule settings actions h w s) (m : IsMatched s.left)
      → slice_get speeches w ≡ Some s.spoken → (m.more ≡ listed (tap_at w h))
      → ((taps : List (ℕ × TapTold)) (want : Option TapHalt) (sp : Speech) (lane : ℕ)
      → LaneEnds sp lane want taps (calls_by lane h) → Each (PipeOf sp h) taps)
      → ((l : ℕ) → tap_at w h ≡ Some l → (said_on l h ≡ []) × (end_on l h ≡ None))
      → HasFacts OfStarted (Heard speeches) w s.left
  facts speeches w s x m is more says silent = record {
    feeds = all_started w s.left.feeds (started_at w h)
        (λ l i. subst (λ (ls : List ℕ). In l ls)
        (feeds_are_started berth feed tap child rule settings actions h w s x) i);
    taps = all_heard speeches w s.spoken is s.left.taps
        (says (map (back_by tap) s.left.taps) x.want s.spoken (tap_lane w) x.told);
    shelved = if_some s.left.shelved
        (shelved_heard speeches w s.spoken is (tap_at w h) s.left.shelved x.slot silent)
        (λ t all. of_more (λ l. Heard speeches w l t) s.left m
        (subst (λ (ls : List ℕ). All (λ l. Heard speeches w l t) ls) (sym more) all));
  }

  pub all_facts : (speeches : List Speech) (w : ℕ) (seen : List (Seen B D T K))
      → EachLeft berth feed tap child rule settings actions h w seen
      → ((i : ℕ) (p : Speech) → slice_get (map (λ (s : Seen B D T K). s.spoken) seen) i ≡ Some p
      → slice_get speeches (w + i) ≡ Some p)
      → ((v : ℕ) → started_at v h ≡ taken_in (calls_by (tap_lane v) h) ++ listed (tap_at v h))
      → TakenAreTapped
      → ((taps : List (ℕ × TapTold)) (want : Option TapHalt) (sp : Speech) (lane : ℕ)
      → LaneEnds sp lane want taps (calls_by lane h) → Each (PipeOf sp h) taps)
      → ((v l : ℕ) → tap_at v h ≡ Some l → (said_on l h ≡ []) × (end_on l h ≡ None))
      → EachHasFacts OfStarted (Heard speeches) w (map (λ (s : Seen B D T K). s.left) seen)
  unfolding matched
  all_facts speeches w [] each at tapped taken says silent = tt
  all_facts speeches w (s ∷ ss) each at tapped taken says silent = (
    facts speeches w s each.0 (matched berth feed tap child rule settings actions h w s each.0 (tapped w) taken)
        (subst (λ (v : ℕ). slice_get speeches v ≡ Some s.spoken) (let e : w + 0 ≡ w = omega arith in e) (at 0 s.spoken refl))
        refl says (silent w),
    all_facts speeches (w + 1) ss each.1
        (λ i p is. subst (λ (v : ℕ). slice_get speeches v ≡ Some p)
        (let e : w + suc i ≡ w + 1 + i = omega arith in e) (at (suc i) p is))
        tapped taken says silent,
  )

  -- ---- what stands at a line

  lines_tell : (lines : List (EndedLine D T K))
      → map (λ (e : EndTold). e.line) (map (end_of feed tap child) lines)
      ≡ map (option_map (tell feed tap child)) (map (λ (x : EndedLine D T K). x.halves) lines)
  lines_tell [] = refl
  lines_tell (x ∷ xs) =
      ap (λ (ls : List (Option LineTold)). option_map (tell feed tap child) x.halves ∷ ls) (lines_tell xs)

  pub line_tells : (lines : List (EndedLine D T K)) (l : ℕ)
      → line_at (map (end_of feed tap child) lines) l
      ≡ option_map (tell feed tap child) (slice_index_or (map (λ (x : EndedLine D T K). x.halves) lines) l None)
  line_tells lines l =
      ap (λ (ls : List (Option LineTold)). slice_index_or ls l None) (lines_tell lines)
      ∙ seq.get_or-map (option_map (tell feed tap child)) (map (λ (x : EndedLine D T K). x.halves) lines) l None

  -- ---- rooms

  abbrev pub to_back : Numbered (Halves D T K) → deeds.Returned
  to_back y = record { line = y.line; feed = feed y.thing.feed; child = child y.thing.child }

  backs_stand : (toldl : List EndTold) (hs : List (Numbered (Halves D T K)))
      → ((y : Numbered (Halves D T K)) → In y hs → line_at toldl y.line ≡ Some (tell feed tap child y.thing))
      → backs_at toldl (map (λ y. y.line) hs) ≡ map to_back hs
  backs_stand toldl [] at = refl
  backs_stand toldl (y ∷ ys) at =
      ap (λ (o : Option LineTold). back_in y.line o ++ backs_at toldl (map (λ z. z.line) ys)) (at y (inl refl))
      ∙ ap (λ (bs : List deeds.Returned). to_back y ∷ bs) (backs_stand toldl ys (λ z i. at z (inr i)))

  zipped_backs : (feeds : List (EndedFeed D K)) (taps : List T) → length feeds ≡ length taps
      → map to_back (map halves_with (zip feeds taps)) ≡ map (back_of feed child) feeds
  zipped_backs [] taps e = refl
  zipped_backs (f ∷ fs) [] e = absurd (omega (arith, e))
  zipped_backs (f ∷ fs) (t ∷ ts) e =
      ap (λ (bs : List deeds.Returned). back_of feed child f ∷ bs) (zipped_backs fs ts (omega (arith, e)))

  zipped_lines : (feeds : List (EndedFeed D K)) (taps : List T) → length feeds ≡ length taps
      → map (λ (y : Numbered (Halves D T K)). y.line) (map halves_with (zip feeds taps))
      ≡ map (λ x. x.line) feeds
  zipped_lines [] taps e = refl
  zipped_lines (f ∷ fs) [] e = absurd (omega (arith, e))
  zipped_lines (f ∷ fs) (t ∷ ts) e =
      ap (λ (ls : List ℕ). f.line ∷ ls) (zipped_lines fs ts (omega (arith, e)))

  room : (toldl : List EndTold) (w : ℕ) (s : Seen B D T K)
      → BerthLeft berth feed tap child rule settings actions h w s → IsMatched s.left
      → ((y : Numbered (Halves D T K)) → In y (halves_of s.left) → line_at toldl y.line ≡ Some (tell feed tap child y.thing))
      → Room rule settings actions h toldl w s.spoken (berth s.old) (berth s.new)
      (option_map (back_of feed child) s.unsaid)
  room toldl w s x m at =
      let many = as_many_taps s.left m in
      let started : map (λ (y : Numbered (Halves D T K)). y.line) (halves_of s.left) ≡ started_at w h =
      zipped_lines s.left.feeds (taps_left s.left.taps s.left.shelved) many
      ∙ feeds_are_started berth feed tap child rule settings actions h w s x in
      let backs : map (back_of feed child) s.left.feeds ≡ backs_at toldl (started_at w h) =
      sym (zipped_backs s.left.feeds (taps_left s.left.taps s.left.shelved) many)
      ∙ (sym (backs_stand toldl (halves_of s.left) at)
      ∙ ap (backs_at toldl) started) in
      record {
        halted = x.halted;
        lane = subst (λ (bs : List deeds.Returned). Ended (means_for settings actions s.spoken) rule (proxy_lane w)
            (calls_by (proxy_lane w) h) h (berth s.old) (berth s.new) bs (option_map (back_of feed child) s.unsaid) x.halted) backs x.served;
      }

  pub rooms : (toldl : List EndTold) (w : ℕ) (seen : List (Seen B D T K))
      → EachLeft berth feed tap child rule settings actions h w seen
      → ((v : ℕ) → started_at v h ≡ taken_in (calls_by (tap_lane v) h) ++ listed (tap_at v h))
      → TakenAreTapped
      → ((y : Numbered (Halves D T K)) → In y (all_halves (map (λ (s : Seen B D T K). s.left) seen))
      → line_at toldl y.line ≡ Some (tell feed tap child y.thing))
      → Rooms rule settings actions h toldl w (map (λ (s : Seen B D T K). s.spoken) seen)
      (map berth (map (λ (s : Seen B D T K). s.old) seen))
      (map berth (map (λ (s : Seen B D T K). s.new) seen))
      (map (option_map (back_of feed child)) (map (λ (s : Seen B D T K). s.unsaid) seen))
  rooms toldl w [] each tapped taken at = tt
  rooms toldl w (s ∷ ss) each tapped taken at = (
    room toldl w s each.0 (matched berth feed tap child rule settings actions h w s each.0 (tapped w) taken)
        (λ y i. at y (in_front y (halves_of s.left) (all_halves (map (λ (z : Seen B D T K). z.left) ss)) i)),
    rooms toldl (w + 1) ss each.1 tapped taken
        (λ y i. at y (in_back y (halves_of s.left) (all_halves (map (λ (z : Seen B D T K). z.left) ss)) i)),
  )

  -- ---- how lanes end

  different : (b : Bool) → b ≡ true → b ≡ false → ⊥
  different true e f = cc
  different false e f = cc

  was_told : (lane : ℕ) → WasStopped (calls_by lane h) → IsStopped h lane
  was_told lane x = (x.front, x.last, x.are, x.stop)

  proxy_stopped : (ht : EndsTellHalts) (by : HaltsAreByLanes) (left : EndedHaveLeft) (lane : ℕ)
      (spoken : Speech) (halted : Option ProxyHalt) (ds : List Deed) → has_halt h ≡ false
      → Ends (means_for settings actions spoken) lane halted (calls_by lane h) ds → IsStopped h lane
  proxy_stopped ht by left lane spoken None ds none ends =
      was_told lane ((left (means_for settings actions spoken) lane (calls_by lane h) ds).1 ends)
  proxy_stopped ht by left lane spoken (Some cause) ds none ends =
      absurd (different (has_halt h)
      (by.some lane h (ht.proxy_halted (means_for settings actions spoken) lane cause (calls_by lane h) ds ends)) none)

  tap_stopped : (ht : EndsTellHalts) (by : HaltsAreByLanes) (lane : ℕ) (s : Speech)
      (want : Option TapHalt) (taps : List (ℕ × TapTold)) → has_halt h ≡ false
      → LaneEnds s lane want taps (calls_by lane h) → IsStopped h lane
  tap_stopped ht by lane s None taps none ends =
      was_told lane (ht.stopped s lane taps (calls_by lane h) ends)
  tap_stopped ht by lane s (Some want) taps none ends =
      absurd (different (has_halt h)
      (by.some lane h (ht.halted s lane want taps (calls_by lane h) ends)) none)

  pub all_stopped : (ht : EndsTellHalts) (by : HaltsAreByLanes) (left : EndedHaveLeft) (w : ℕ)
      (seen : List (Seen B D T K)) → EachLeft berth feed tap child rule settings actions h w seen
      → has_halt h ≡ false → (i : ℕ) → i < length seen → AreStopped h (w + i)
  all_stopped ht by left w [] each none i lt = absurd (omega (arith, lt))
  all_stopped ht by left w (s ∷ ss) each none zero lt =
      subst (λ (v : ℕ). AreStopped h v) (let e : w ≡ w + 0 = omega arith in e) (
        proxy_stopped ht by left (proxy_lane w) s.spoken each.0.halted each.0.served.deeds none each.0.served.ends,
        tap_stopped ht by (tap_lane w) s.spoken each.0.want (map (back_by tap) s.left.taps) none each.0.told,
      )
  all_stopped ht by left w (s ∷ ss) each none (suc i) lt =
      subst (λ (v : ℕ). AreStopped h v) (let e : w + 1 + i ≡ w + suc i = omega arith in e)
      (all_stopped ht by left (w + 1) ss each.1 none i (omega (arith, lt)))
