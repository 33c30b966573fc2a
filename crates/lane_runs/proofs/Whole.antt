-- From what the lanes leave to the whole run.
use Rattle.std.proofs.Common.{◌≡◌, ℕ, zero, suc, ◌+◌, ◌*◌, ◌^◌, ◌<◌, ◌≤◌, nat_lt, Bool, true, false, inr, take, length-take, get_or-take, List, [], ◌∷◌, ◌++◌, length, map, Option, Some, None, refl, sym, ap, subst, ◌∙◌, arith, All}
use Rattle.std.specs.Prelude.{option_map, get_or, slice_get, slice_index_or}
use Rattle.std.proofs.lemmas.Bool.{ltb-true}
use Rattle.std.proofs.lemmas.List.{length-map}
use Rattle.std.proofs.lemmas.Option.{slice_get-map}
use Rattle.seat_desk.specs.History.{calls_by}
use Rattle.seat_desk.specs.Turns.{NoneFrom}
use Rattle.exec_journal.specs.declared.call.Call.{Call}
use Rattle.exec_journal.specs.declared.reply.Reply.{Reply}
use Rattle.outside.specs.Told.{BerthTold, FeedTold, TapTold, ChildTold, PlaceTold, LineTold}
use Rattle.remote_messages.specs.declared.work.WorkAction.{WorkAction}
use Rattle.lane_threads.specs.declared.pair.Either.{Either}
use Rattle.lane_threads.specs.declared.pair.Either.TheVariants.{First, Second}
use Rattle.lane_laws.specs.Lanes.{EndedHaveLeft}
use Rattle.lane_runs.specs.Placed.{Numbered}
use Rattle.lane_laws.specs.Numbers.{In, Distinct}
use Rattle.lane_laws.specs.Numbers.{concat}
use Rattle.core_contract.specs.Ruled.{CameAbout, answer_after}
use Rattle.core_contract.specs.Discipline.{Discipline, outputs_in}
use Rattle.core_contract.specs.Moves.{History}
use Rattle.core_contract.specs.Shelf.{Spot, Fresh, Away, Back, tap_at, place_at}
use Rattle.core_contract.specs.Duties.{proxy_lane}
use Rattle.core_contract.specs.Laws.{tap_lane, lines_in}
use Rattle.core_machine.specs.Bench.{IsOf, IsTapOf, IsInSpot, IsPlaceOf, TapsLie, PlacesLie}
use Rattle.core_machine.specs.Objects.{AreFresh, IsPlaceAt}
use Rattle.run_values.specs.declared.settings.Settings.{Settings}
use Rattle.proxy_laws.specs.declared.hands.EndedFeed.{EndedFeed}
use Rattle.proxy_laws.specs.Lanes.{back_of}
use Rattle.proxy_lane.specs.declared.lane.ProxyLeft.{ProxyLeft}
use Rattle.lane_runs.specs.Seats.{AreSeats, means_for}
use Rattle.tap_lane.specs.declared.ends.TapLeft.{TapLeft}
use Rattle.lane_runs.specs.Ran.{EachBerthRan}
use Rattle.lane_runs.specs.BerthHalves.{BerthLines, IsMatched, all_feed_lines, all_halves}
use Rattle.lane_runs.specs.declared.halves.EndedLine.{EndedLine}
use Rattle.lane_runs.specs.declared.halves.Halves.{Halves}
use Rattle.lane_runs.specs.EndedLines as ended
use Rattle.lane_runs.proofs.FactsAt.{facts_at}
use Rattle.lane_laws.specs.Lines.{started_from}
use Rattle.lane_laws.specs.Places.{HasLeft, IsGone}
use Rattle.lane_laws.specs.Taps.{started_at, taken_in}
use Rattle.proxy_words.specs.Lines.{listed}
use Rattle.lane_laws.specs.Pipes.{PipeOf, Each, said_on, end_on}
use Rattle.tap_lane.specs.declared.ends.TapHalt.{TapHalt}
use Rattle.tap_lane.specs.Lane.{LaneEnds}
use Rattle.run_plan.specs.declared.plan.Speech.{Speech}
use Rattle.lane_runs.specs.declared.layout.Laid.{Laid}
use Rattle.lane_runs.specs.Apart.{Alternate, lefts_of}
use Rattle.lane_runs.specs.Laws.{HistoryLaws}
use Rattle.lane_runs.specs.Layout.{AllThere, AreFit, IsLaid, MayBeLaid}
use Rattle.lane_runs.specs.Blanks.{IsBlankFor}
use Rattle.lane_runs.specs.declared.blank.Blank.{Blank}
use Rattle.lane_runs.specs.declared.proxies.ProxyStart.{ProxyStart}
use Rattle.tap_lane.specs.declared.seat.TapStart.{TapStart}
use Rattle.seat_desk.specs.declared.machine.Machine.{Ghosts}
use Rattle.lane_threads.specs.LaneJobs.{EachLane}
use Rattle.lane_runs.proofs.Crewed.{two_each}
use Rattle.lane_runs.proofs.Running.{HasRan, each_berth}
use Rattle.lane_runs.specs.Runs.{EndTold, end_of, line_at, laid_told, Pipe, Outs, Rooms, AreStopped, HasRun}
use Rattle.lane_runs.proofs.Leaving.{Seen, Gathered, SlotsFrom, slots_from, gather, alternate, all_matched, all_started}
use Rattle.lane_runs.proofs.Telling as telling

-- ---- places

module _ {P : Type 0} (place : P → PlaceTold) (q : Discipline) (h : History) where
  -- an empty slot is that of a place that is away
  none_is_away : (a : ℕ) (s : Spot) (o : Option P) → o ≡ None
      → IsInSpot (IsPlaceOf place q a) s o → (fs : List (List ℕ)) × (s ≡ Away fs)
  none_is_away a (Away fs) o e is = (fs, refl)
  none_is_away a Fresh None e is = absurd is
  none_is_away a Fresh (Some p) e is = absurd (cc)
  none_is_away a (Back fs how) None e is = absurd is
  none_is_away a (Back fs how) (Some p) e is = absurd (cc)

  some_tells : (a : ℕ) (s : Spot) (p : P) → IsInSpot (IsPlaceOf place q a) s (Some p)
      → IsPlaceAt a (outputs_in q.plan a) s (place p)
  some_tells a (Away fs) p is = absurd (cc)
  some_tells a Fresh p is = is
  some_tells a (Back fs how) p is = is

  all_there : (slots : List (Option P))
      → ((i : ℕ) → i < length slots → get_or slots i None ≡ None → ⊥) → AllThere slots
  all_there [] f = tt
  all_there (Some p ∷ slots) f =
      all_there slots (λ i lt e. f (suc i) (omega (arith, lt)) e)
  all_there (None ∷ slots) f = absurd (f 0 (omega arith) refl)

  pub places_there : (slots : List (Option P))
      → PlacesLie place q h slots
      → ((a : ℕ) (fs : List (List ℕ)) → place_at a h ≡ Away fs → ⊥) → AllThere slots
  places_there slots lie back = all_there slots (λ i lt e.
      let x = none_is_away i (place_at i h) (get_or slots i None) e
      (lie.each i (let many = lie.as_many in omega (arith, many, lt))) in
      back i x.0 x.1)

  got : (xs : List P) (i : ℕ) (x : P) → slice_get xs i ≡ Some x → get_or (map Some xs) i None ≡ Some x
  got [] i x e = absurd (cc)
  got (y ∷ ys) zero x e = e
  got (y ∷ ys) (suc i) x e = got ys i x e

  below : (xs : List P) (i : ℕ) (x : P) → slice_get xs i ≡ Some x → i < length xs
  below [] i x e = absurd (cc)
  below (y ∷ ys) zero x e = omega arith
  below (y ∷ ys) (suc i) x e = let lt = below ys i x e in omega (arith, lt)

  from_some : (o : Option P) (p : PlaceTold) → option_map place o ≡ Some p
      → (x : P) × (o ≡ Some x) × (place x ≡ p)
  from_some None p e = absurd (cc)
  from_some (Some x) p e = (x, refl, let q : place x ≡ p = cc in q)

  pub outs : (slots : List (Option P)) (places : List P)
      → PlacesLie place q h slots → slots ≡ map Some places
      → Outs q.plan h (map place places)
  outs slots places lie are = record {
    as_many = length-map places place ∙ (sym (length-map places Some) ∙ (sym (ap length are) ∙ lie.as_many));
    each = λ a p e.
        let x = from_some (slice_get places a) p (sym (slice_get-map place places a) ∙ e) in
        let lt = below places a x.0 x.1 in
        let many = lie.as_many in
        let same : length slots ≡ length places = ap length are ∙ length-map places Some in
        subst (λ (t : PlaceTold). IsPlaceAt a (outputs_in q.plan a) (place_at a h) t) x.2
        (some_tells a (place_at a h) x.0
        (subst (λ (o : Option P). IsInSpot (IsPlaceOf place q a) (place_at a h) o)
        (ap (λ (l : List (Option P)). get_or l a None) are ∙ got places a x.0 x.1)
        (lie.each a (omega (arith, lt, many, same)))));
  }

-- the places of a bench that no lane has called
module _ {P : Type 0} (place : P → PlaceTold) (q : Discipline) where
  pub all_lie : (slots : List (Option P)) → PlacesLie place q [] slots
      → AllThere slots
  all_lie slots lie = places_there place q [] slots lie (λ a fs e. absurd (cc))

  fresh_at : (slots : List (Option P)) (places : List P)
      → PlacesLie place q [] slots → slots ≡ map Some places → (a : ℕ) (p : P)
      → slice_get places a ≡ Some p → IsPlaceAt a (outputs_in q.plan a) Fresh (place p)
  fresh_at slots places lie are a p e =
      let lt = below place q [] places a p e in
      let many = lie.as_many in
      let same : length slots ≡ length places = ap length are ∙ length-map places Some in
      some_tells place q [] a Fresh p
      (subst (λ (o : Option P). IsInSpot (IsPlaceOf place q a) Fresh o)
      (ap (λ (l : List (Option P)). get_or l a None) are ∙ got place q [] places a p e)
      (lie.each a (omega (arith, lt, many, same))))

  pub are_fresh : (slots : List (Option P)) (places : List P)
      → PlacesLie place q [] slots → slots ≡ map Some places
      → AreFresh place (length q.plan.actions) places
  are_fresh slots places lie are = record {
    as_many = sym (length-map places Some) ∙ (sym (ap length are) ∙ lie.as_many);
    numbers = λ a p e. (fresh_at slots places lie are a p e).of_action;
    unwritten = λ a p e. (fresh_at slots places lie are a p e).wrote;
  }

-- ---- lines

module _ {D T K : Type 0} (feed : D → FeedTold) (tap : T → TapTold) (child : K → ChildTold) where
  numbers_told : (lines : List (EndedLine D T K))
      → map (λ (e : EndTold). e.number) (map (end_of feed tap child) lines)
      ≡ map (λ (x : EndedLine D T K). x.number) lines
  numbers_told [] = refl
  numbers_told (x ∷ xs) = ap (λ (l : List ℕ). x.number ∷ l) (numbers_told xs)

  some_halves : (o : Option (Halves D T K)) (t : LineTold)
      → option_map (telling.tell feed tap child) o ≡ Some t
      → (x : Halves D T K) × (o ≡ Some x) × (telling.tell feed tap child x ≡ t)
  some_halves None t e = absurd (cc)
  some_halves (Some x) t e = (x, refl, let q : telling.tell feed tap child x ≡ t = cc in q)

-- ---- proxy lanes have left

module _ {B D T K : Type 0} (berth : B → BerthTold) (feed : D → FeedTold) (tap : T → TapTold)
    (child : K → ChildTold) (rule : History → ℕ → Call → Reply) (settings : Settings)
    (actions : List WorkAction) (h : History) where
  ran_left : (left : EndedHaveLeft) (w : ℕ) (olds : List B) (speeches : List Speech)
      (ends : List (Either (ProxyLeft B D K) (TapLeft T)))
      → EachBerthRan berth feed tap child rule settings actions h w olds speeches ends → (i : ℕ)
      → i < length speeches → HasLeft (calls_by (proxy_lane (w + i)) h)
  ran_left left w [] [] ends ran i lt = absurd (omega (arith, lt))
  ran_left left w (b ∷ bs) (p ∷ ps) (First x ∷ Second y ∷ ends) ran zero lt =
      subst (λ (v : ℕ). HasLeft (calls_by (proxy_lane v) h)) (let e : w ≡ w + 0 = omega arith in e)
      ((left (means_for settings actions p) (proxy_lane w) (calls_by (proxy_lane w) h) ran.0.served.deeds).0
      x.halted ran.0.served.ends)
  ran_left left w (b ∷ bs) (p ∷ ps) (First x ∷ Second y ∷ ends) ran (suc i) lt =
      subst (λ (v : ℕ). HasLeft (calls_by (proxy_lane v) h)) (let e : w + 1 + i ≡ w + suc i = omega arith in e)
      (ran_left left (w + 1) bs ps ends ran.1 i (omega (arith, lt)))
  ran_left left w (b ∷ bs) (p ∷ ps) [] ran i lt = absurd ran
  ran_left left w (b ∷ bs) (p ∷ ps) (First x ∷ []) ran i lt = absurd ran
  ran_left left w (b ∷ bs) (p ∷ ps) (First x ∷ First y ∷ ends) ran i lt = absurd ran
  ran_left left w (b ∷ bs) (p ∷ ps) (Second x ∷ ends) ran i lt = absurd ran
  ran_left left w [] (p ∷ ps) ends ran i lt = absurd ran
  ran_left left w (b ∷ bs) [] ends ran i lt = absurd ran

by_test : {A : Type 0} (b : Bool) → (b ≡ true → A) → (b ≡ false → A) → A
by_test true f g = f refl
by_test false f g = g refl

module _ {Q B D T K P : Type 0} (rules : Q → Discipline)
    (berth : B → BerthTold) (feed : D → FeedTold) (tap : T → TapTold) (child : K → ChildTold)
    (place : P → PlaceTold) (laws : HistoryLaws rules) (q : Q) (h : History)
    (good : CameAbout (rules q) h) (speeches : List Speech) (settings : Settings) (work : List WorkAction)
    (olds : List B) (ends : List (Either (ProxyLeft B D K) (TapLeft T)))
    (shelf slots : List (Option T)) (fewer : length speeches ≤ (rules q).seats)
    (beside : ℕ) (none : NoneFrom (2 * length speeches + beside) h)
    (gone : (w : ℕ) → nat_lt w (length speeches) ≡ false → IsGone (calls_by (proxy_lane w) h))
    (ran : EachBerthRan berth feed tap child (answer_after (rules q)) settings work h 0 olds speeches ends)
    (lie : TapsLie tap (rules q) h shelf) (front : slots ≡ take (length speeches) shelf) where
  abbrev rule : Q → History → ℕ → Call → Reply
  rule q = answer_after (rules q)

  as_many : length slots ≡ length speeches
  as_many =
      let all = lie.as_many in
      let cut : length (take (length speeches) shelf) ≡ length speeches =
      simp length-take (omega (arith, all, fewer)) in
      ap length front ∙ cut

  in_slots : SlotsFrom berth feed tap child (rule q) settings work h 0 slots
  in_slots = slots_from berth feed tap child (rule q) settings work h 0 slots (λ i lt.
      let same : get_or slots i None ≡ get_or shelf i None =
      ap (λ (l : List (Option T)). get_or l i None) front
      ∙ get_or-take (length speeches) shelf i None (omega (arith, as_many, lt)) in
      subst (λ (v : ℕ). IsOf (IsTapOf tap) (tap_at v h) (get_or slots i None)) (let e : i ≡ 0 + i = omega arith in e)
      (subst (λ (o : Option T). IsOf (IsTapOf tap) (tap_at i h) o) (sym same)
      (lie.each i (let all = lie.as_many in omega (arith, all, as_many, fewer, lt)))))

  pub in_turn : Alternate slots ends
  in_turn = alternate berth feed tap child (rule q) settings work h 0 olds speeches ends slots ran as_many

  gathered : Gathered berth feed tap child (rule q) settings work h 0 speeches olds slots ends
  gathered = gather berth feed tap child (rule q) settings work h 0 olds speeches ends slots ran in_slots as_many

  as_many_seen : (g : Gathered berth feed tap child (rule q) settings work h 0 speeches olds slots ends)
      → length g.seen ≡ length speeches
  as_many_seen g =
      sym (length-map g.seen (λ (s : Seen B D T K). s.spoken)) ∙ sym (ap length g.speeches_are)

  tapped : (v : ℕ) → started_at v h ≡ taken_in (calls_by (tap_lane v) h) ++ listed (tap_at v h)
  tapped v = laws.tapped q h v good

  said : (taps : List (ℕ × TapTold)) (want : Option TapHalt) (sp : Speech) (lane : ℕ)
      → LaneEnds sp lane want taps (calls_by lane h) → Each (PipeOf sp h) taps
  said taps want sp lane end = (laws.says q h sp lane want taps good end).1

  silent : (v l : ℕ) → tap_at v h ≡ Some l → (said_on l h ≡ []) × (end_on l h ≡ None)
  silent v l at = laws.silent q h l good (laws.untaken q h v l good at)

  pub are_fit : AreFit (lines_in h) (lefts_of slots ends)
  are_fit =
      let g = gathered in
      let apart_all = laws.apart q h (length speeches) good in
      let started : all_feed_lines (lefts_of slots ends) ≡ concat (started_from h 0 (length speeches)) =
      ap all_feed_lines g.lines_are
      ∙ (all_started berth feed tap child (rule q) settings work h 0 g.seen g.each
      ∙ ap (λ (n : ℕ). concat (started_from h 0 n)) (as_many_seen g)) in
      record {
        inside = record {
          matched = subst (λ (ls : List (BerthLines D T K)). All IsMatched ls) (sym g.lines_are)
              (all_matched berth feed tap child (rule q) settings work h 0 g.seen g.each
              tapped laws.taken);
          below = subst (λ (ls : List ℕ). All (λ l. l < lines_in h) ls) (sym started) apart_all.all_below;
        };
        distinct = subst (λ (ls : List ℕ). Distinct ls) (sym started) apart_all.all_once;
      }

  -- all places lie there, as the proxy lanes have left
  pub places_are_there : (places : List (Option P))
      → PlacesLie place (rules q) h places → AllThere places
  places_are_there places lying =
      places_there place (rules q) h places lying
      (laws.places q h good (λ w lt. by_test (nat_lt w (length speeches))
      (λ within. inr (subst (λ (v : ℕ). HasLeft (calls_by (proxy_lane v) h))
      (let z : 0 + w ≡ w = omega arith in z)
      (ran_left berth feed tap child (rule q) settings work h laws.left 0 olds speeches ends ran w
      (ltb-true w (length speeches) within))))
      (λ beyond. gone w beyond)))

  pub has_run : (places : List (Option P)) (laid : Laid B D T K P)
      → PlacesLie place (rules q) h places → IsLaid h ends slots places laid
      → HasRun (rules q) speeches settings work (map berth olds) beside
      (laid_told berth feed tap child place laid)
  has_run places laid lying is =
      let g = gathered in
      let fit = are_fit in
      let seen = g.seen in
      let lefts : List (BerthLines D T K) = map (λ (s : Seen B D T K). s.left) seen in
      let toldl : List EndTold = map (end_of feed tap child) laid.lines.items in
      let facts = telling.all_facts berth feed tap child (rule q) settings work h speeches 0 seen g.each
      (λ i p e. subst (λ (v : ℕ). slice_get speeches v ≡ Some p) (let z : i ≡ 0 + i = omega arith in z)
      (ap (λ (l : List Speech). slice_get l i) g.speeches_are ∙ e))
      tapped laws.taken said silent in
      let matched_all : All IsMatched lefts = subst (λ (ls : List (BerthLines D T K)). All IsMatched ls) g.lines_are fit.inside.matched in
      let are = subst (λ (ls : List (BerthLines D T K)). ended.AreLines (lines_in h) ls laid.lines.items) g.lines_are is.lines in
      let at : (y : Numbered (Halves D T K)) → In y (all_halves lefts)
      → line_at toldl y.line ≡ Some (telling.tell feed tap child y.thing) = λ y i. telling.line_tells berth feed tap child (rule q) settings work h laid.lines.items y.line
      ∙ ap (option_map (telling.tell feed tap child)) (are.placed.all y i) in
      record {
        history = h;
        in_journal = is.journal;
        is_legal = good;
        no_others = none;
        rooms = subst (λ (ps : List Speech). Rooms (rule q) settings work h toldl 0 ps (map berth olds) (map berth laid.berths.items)
            (map (option_map (back_of feed child)) laid.unsaid.items))
            (sym g.speeches_are)
            (subst (λ (os : List B). Rooms (rule q) settings work h toldl 0 (map (λ (s : Seen B D T K). s.spoken) seen) (map berth os)
            (map berth laid.berths.items) (map (option_map (back_of feed child)) laid.unsaid.items))
            (sym g.olds_are)
            (subst (λ (ns : List B). Rooms (rule q) settings work h toldl 0 (map (λ (s : Seen B D T K). s.spoken) seen)
            (map berth (map (λ (s : Seen B D T K). s.old) seen)) (map berth ns)
            (map (option_map (back_of feed child)) laid.unsaid.items))
            (sym (is.berths ∙ g.news_are))
            (subst (λ (us : List (Option (EndedFeed D K))). Rooms (rule q) settings work h toldl 0
            (map (λ (s : Seen B D T K). s.spoken) seen) (map berth (map (λ (s : Seen B D T K). s.old) seen))
            (map berth (map (λ (s : Seen B D T K). s.new) seen)) (map (option_map (back_of feed child)) us))
            (sym (is.unsaid ∙ g.unsaid_are))
            (telling.rooms berth feed tap child (rule q) settings work h toldl 0 seen g.each tapped laws.taken at))));
        pipes = record {
          numbers = numbers_told feed tap child laid.lines.items ∙ is.lines.numbers;
          each = λ l t e.
              let x = some_halves feed tap child
              (slice_index_or (map (λ (y : EndedLine D T K). y.halves) laid.lines.items) l None) t
              (sym (telling.line_tells berth feed tap child (rule q) settings work h laid.lines.items l) ∙ e) in
              let f = facts_at (telling.OfStarted berth feed tap child (rule q) settings work h)
              (telling.Heard berth feed tap child (rule q) settings work h speeches) (lines_in h) lefts
              laid.lines.items facts matched_all are l x.0 x.1 in
              subst (λ (told : LineTold). Pipe speeches h l told) x.2 (record {
                berth = f.0;
                spoken = f.2.0;
                of_berth = f.2.1;
                started = f.1;
                heard = f.2.2;
              });
        };
        outs = outs place (rules q) h places laid.places.items lying is.places;
        halts = is.halts;
        stops = λ unhalted w lt.
            let seen_many = as_many_seen g in
            subst (λ (v : ℕ). AreStopped h v) (let z : 0 + w ≡ w = omega arith in z)
            (telling.all_stopped berth feed tap child (rule q) settings work h laws.halts laws.by_lanes laws.left 0
            seen g.each unhalted w (omega (arith, lt, seen_many)));
      }

-- ---- at the plan of the core that was handed in

module _ {M G Q B D T K P : Type 0} (g : Ghosts M Call Reply G Q) (rules : Q → Discipline) (berth : B → BerthTold)
    (feed : D → FeedTold) (tap : T → TapTold) (child : K → ChildTold) (place : P → PlaceTold)
    (laws : HistoryLaws rules) where
  -- what the crew leaves may be laid out, and then it is what the run leaves
  pub record Crewed (q : Q) (h : History) (speeches : List Speech) (settings : Settings)
      (work : List WorkAction) (beside : ℕ) (olds : List B) (ends : List (Either (ProxyLeft B D K) (TapLeft T)))
      (taps : List (Option T)) (places : List (Option P)) : Type 0 where
    pub good : CameAbout (rules q) h
    pub as_many : length taps ≡ length speeches
    pub all_places : length places ≡ length (rules q).plan.actions
    pub may : (blank : Blank B D T K P)
        → IsBlankFor (length taps) (lines_in h) (length places) blank → lines_in h < 2 ^ 32
        → MayBeLaid h ends taps places blank
    pub run : (laid : Laid B D T K P) → IsLaid h ends taps places laid
        → HasRun (rules q) speeches settings work (map berth olds) beside
        (laid_told berth feed tap child place laid)

  crewed_at : (q : Q) (h : History) (speeches : List Speech) (settings : Settings)
      (work : List WorkAction) (beside : ℕ) (olds : List B)
      (ends : List (Either (ProxyLeft B D K) (TapLeft T)))
      (shelf taps : List (Option T)) (places : List (Option P)) → CameAbout (rules q) h
      → length speeches ≤ (rules q).seats → NoneFrom (2 * length speeches + beside) h
      → ((w : ℕ) → nat_lt w (length speeches) ≡ false → IsGone (calls_by (proxy_lane w) h))
      → EachBerthRan berth feed tap child (answer_after (rules q)) settings work h 0 olds speeches ends
      → TapsLie tap (rules q) h shelf → taps ≡ take (length speeches) shelf
      → PlacesLie place (rules q) h places
      → Crewed q h speeches settings work beside olds ends taps places
  crewed_at q h speeches settings work beside olds ends shelf taps places good fewer none gone ran lie front lying = record {
    good = good;
    as_many = as_many rules berth feed tap child place laws q h good
        speeches settings work olds ends shelf taps fewer beside none gone ran lie front;
    all_places = lying.as_many;
    may = λ blank room few. record {
      room = room;
      few = few;
      alternate = in_turn rules berth feed tap child place laws q h good
          speeches settings work olds ends shelf taps fewer beside none gone ran lie front;
      fit = are_fit rules berth feed tap child place laws q h good
          speeches settings work olds ends shelf taps fewer beside none gone ran lie front;
      there = places_are_there rules berth feed tap child place laws q h good
          speeches settings work olds ends shelf taps fewer beside none gone ran lie front places lying;
    };
    run = λ laid is. has_run rules berth feed tap child place laws q h good
        speeches settings work olds ends shelf taps fewer beside none gone ran lie front places laid lying is;
  }

  -- the plan that the core has in the end is the one that it had
  pub crewed : {q bench machine last : Q} {h : History} {speeches : List Speech}
      {settings : Settings} {work : List WorkAction} {olds : List B}
      {ends : List (Either (ProxyLeft B D K) (TapLeft T))} {shelf taps : List (Option T)}
      {places : List (Option P)} {beside : ℕ} (lanes : List (Either (ProxyStart B) TapStart)) → bench ≡ q
      → machine ≡ bench → last ≡ machine → length speeches ≤ (rules q).seats → CameAbout (rules last) h
      → TapsLie tap (rules last) h shelf → taps ≡ take (length speeches) shelf
      → PlacesLie place (rules last) h places → AreSeats settings work 0 olds speeches lanes
      → EachLane (HasRan g rules berth feed tap child) bench h 0 lanes ends
      → NoneFrom (length lanes + beside) h
      → ((w : ℕ) → nat_lt w (length speeches) ≡ false → IsGone (calls_by (proxy_lane w) h))
      → Crewed q h speeches settings work beside olds ends taps places
  crewed {q} {bench} {machine} {last} {h} {speeches} {settings} {work} {olds} {ends} {shelf} {taps} {places} {beside} lanes e f k fewer good lie front lying are ran none gone =
      let same : last ≡ q = k ∙ (f ∙ e) in
      let each = each_berth g rules berth feed tap child bench h
      settings work 0 olds speeches lanes ends are ran in
      let silent = subst (λ (n : ℕ). NoneFrom (n + beside) h)
      (two_each settings work 0 olds speeches lanes are) none in
      crewed_at q h speeches settings work beside olds ends shelf taps places
      (subst (λ (r : Q). CameAbout (rules r) h) same good) fewer silent gone
      (subst (λ (r : Q). EachBerthRan berth feed tap child (answer_after (rules r)) settings work h 0 olds speeches ends) e each)
      (subst (λ (r : Q). TapsLie tap (rules r) h shelf) same lie) front
      (subst (λ (r : Q). PlacesLie place (rules r) h places) same lying)
