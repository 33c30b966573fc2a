-- One entry more, with its deed, and what the lane has in its hands.
use Rattle.std.proofs.Common.{◌≡◌, ℕ, ◌<◌, Bool, cond, suc, ne_eqb, List, [], ◌∷◌, ◌++◌, Option, Some, None, refl, ap, sym, subst, ◌∙◌, append-nil, arith}
use Rattle.std.specs.Prelude.{All, slice_index_or}
use Rattle.std.proofs.lemmas.List.Elements.{All-append, All-cons, All-nil}
use Rattle.std.proofs.lemmas.List.{map-append}
use Rattle.seat_desk.specs.History.{StartsWith}
use Rattle.outside.specs.Lists.{Tells, Adds}
use Rattle.outside.specs.Told.{BerthTold, SameBerth, FeedTold, SameFeed}
use Rattle.exec_journal.specs.declared.call.Call.{Call}
use Rattle.exec_journal.specs.declared.reply.Reply.{Reply}
use Rattle.core_contract.specs.Moves.{Past, History}
use Rattle.core_contract.specs.Laws.{lines_in}
use Rattle.proxy_words.specs.Deeds.{Deed, given_by, given_to, with_end}
use Rattle.proxy_words.specs.Told.{AreTold, AllTold}
use Rattle.proxy_words.specs.Lines.{started_by, started_in, room_fault, feed_fault, feed_faults, RoseBy, Returned, EndsLine, IsFed, IsBack, IsKilled, IsServed, lines_of, listed}
use Rattle.proxy_words.proofs.Growing.{all_told_later, all_told_more, started_more, served_none, served_more, given_more, feed_more, fed_more, fed_still, LeavesFeed, backs_still, leaves_all, gives_other, gives_own, told_with_end, given_with_end, served_with_end, fed_with_end, backs_with_end}
use Rattle.proxy_calls.proofs.Askings.{lines_later}
use Rattle.proxy_laws.specs.Lanes.{Open, LaneObjects, open_line, IsAfter, IsOpenFed, Holds}

all_last : {X : Type 0} (P : X → Type 0) (xs : List X) (y : X) → All P (xs ++ y ∷ []) → P y
all_last P [] y a = a 0 y (omega arith)
all_last P (x ∷ xs) y a = all_last P xs y (λ i z lt. a (suc i) z (omega arith))

all_first : {X : Type 0} (P : X → Type 0) (xs : List X) (y : X) → All P (xs ++ y ∷ []) → All P xs
all_first P [] y a = All-nil P
all_first P (x ∷ xs) y a = All-cons P x xs (a 0 x (omega arith))
    (all_first P xs y (λ i z lt. a (suc i) z (omega arith)))

-- ---- what was done on the berth for an entry

-- the deed's calls were made on the berth, and its count rose where the entry reports a fault
pub record Touches (e : Past) (d : Deed) (old new : BerthTold) : Type 0 where
  pub log : Adds d.calls old.log new.log
  pub faults : RoseBy (room_fault e.call) old.faults new.faults
  pub same : SameBerth old new

-- an entry that starts no line, and tells no fault of a feed, with a deed that gave nothing
pub record IsQuiet (e : Past) (d : Deed) : Type 0 where
  pub starts : started_by e.call ≡ []
  pub gives : d.given ≡ []
  pub feeds : (l : ℕ) → feed_fault l e.call ≡ 0

module _ (rule : History → ℕ → Call → Reply) (lane : ℕ) (own : History) (ds : List Deed)
    (seen : History) (first : BerthTold) (h : LaneObjects) (k : Holds rule lane own ds seen first h)
    (e : Past) (d : Deed) (seen' : History) (more : StartsWith seen' seen)
    (told : AreTold rule lane seen' d.looks) (new : BerthTold) (touches : Touches e d h.berth new)
  where
    told_then : AllTold rule lane seen' (ds ++ d ∷ [])
    told_then = all_told_more rule lane seen' ds d (all_told_later rule lane seen seen' more ds k.told) told

    berth_then : IsServed (own ++ e ∷ []) (ds ++ d ∷ []) first new
    berth_then = served_more own ds e d first h.berth new k.berth touches.log touches.faults touches.same

    below_then : (ls : List ℕ) → All (λ l. l < lines_in seen) ls → All (λ l. l < lines_in seen') ls
    below_then ls below = λ i y lt.
        let one : slice_index_or ls i y < lines_in seen = below i y lt in
        let later = lines_later seen' seen more in
        omega arith

    same_lines : started_by e.call ≡ [] → started_in (own ++ e ∷ []) ≡ started_in own
    same_lines none = started_more own e
        ∙ (ap (λ (ls : List ℕ). started_in own ++ ls) none ∙ append-nil (started_in own))

    -- a line that the entry leaves was given no more
    untouched_then : (l : ℕ) → LeavesFeed e d l → All (λ n. n < l) (started_in own)
        → (given_to l (ds ++ d ∷ []) ≡ []) × (feed_faults l (own ++ e ∷ []) ≡ 0)
    untouched_then l leave later =
        let u = k.untouched l later in
        let more = feed_more l own e in (
          given_more l ds d ∙ (ap (λ (bs : List ℕ). given_to l ds ++ bs) leave.0
              ∙ (append-nil (given_to l ds) ∙ u.0)),
          (let z = u.1 in let y = leave.1 in omega arith),
        )

    -- the entry leaves all feeds
    module _ (quiet : IsQuiet e d) where
      leaves : (l : ℕ) → LeavesFeed e d l
      leaves l = leaves_all e d l quiet.gives (quiet.feeds l)

      open_still : (o : Option Open) → IsOpenFed own ds o
          → IsOpenFed (own ++ e ∷ []) (ds ++ d ∷ []) o
      open_still None fed = tt
      open_still (Some o) fed = fed_still own ds e d o.line o.feed fed (leaves o.line)

      pub holds_quiet : Holds rule lane (own ++ e ∷ []) (ds ++ d ∷ []) seen' first
          (record h { berth = new })
      holds_quiet = record {
        told = told_then;
        berth = berth_then;
        ended = backs_still own ds e d h.ended k.ended (λ i y lt. leaves (slice_index_or h.ended i y).line);
        unsaid = backs_still own ds e d (listed h.unsaid) k.unsaid
            (λ i y lt. leaves (slice_index_or (listed h.unsaid) i y).line);
        opened = open_still h.opened k.opened;
        lines = k.lines ∙ sym (same_lines quiet.starts);
        after = k.after;
        below = subst (λ (ls : List ℕ). All (λ l. l < lines_in seen') ls) (sym (same_lines quiet.starts))
            (below_then (started_in own) k.below);
        untouched = λ l later. untouched_then l (leaves l)
            (subst (λ (ls : List ℕ). All (λ n. n < l) ls) (same_lines quiet.starts) later);
      }

    -- the entry is about the open line's feed
    module _ (o : Open) (is_open : h.opened ≡ Some o) (none : h.unsaid ≡ None)
        (starts : started_by e.call ≡ [])
        (on_line : d.line ≡ o.line) (others : (l : ℕ) → l < o.line → feed_fault l e.call ≡ 0)
        (later_none : (l : ℕ) → o.line < l → feed_fault l e.call ≡ 0)
        (feed : FeedTold) (given : Adds d.given o.feed.given feed.given)
        (faults : RoseBy (feed_fault o.line e.call) o.feed.faults feed.faults)
        (same : SameFeed o.feed feed) where
      after_open : All (λ x. x.line < o.line) h.ended
      after_open = subst (λ (p : Option Open). IsAfter p h.ended) is_open k.after

      leaves_ended : All (λ x. LeavesFeed e d x.line) h.ended
      leaves_ended = λ i y lt.
          let x : Returned = slice_index_or h.ended i y in
          (gives_other d o.line x.line on_line (after_open i y lt), others x.line (after_open i y lt))

      leaves_unsaid : All (λ x. LeavesFeed e d x.line) (listed h.unsaid)
      leaves_unsaid = subst (λ (u : Option Returned). All (λ x. LeavesFeed e d x.line) (listed u)) (sym none)
          (All-nil (λ x. LeavesFeed e d x.line))

      open_below : (l : ℕ) → All (λ n. n < l) (started_in own) → o.line < l
      open_below l later = all_last (λ n. n < l) (lines_of h.ended) o.line
          (subst (λ (ls : List ℕ). All (λ n. n < l) ls)
          (sym (ap (λ (p : Option Open). lines_of h.ended ++ listed (open_line p)) (sym is_open) ∙ k.lines))
          later)

      gives_later : (l : ℕ) → o.line < l → given_by l d ≡ []
      gives_later l above =
          let other : d.line ≡ l → ⊥ = λ x. omega arith in
          ap (λ (b : Bool). cond b d.given []) (ne_eqb d.line l other)

      fed_on : IsFed (own ++ e ∷ []) (ds ++ d ∷ []) o.line feed
      fed_on = fed_more own ds e d o.line o.feed feed
          (subst (λ (p : Option Open). IsOpenFed own ds p) is_open k.opened)
          (subst (λ (bs : List ℕ). Adds bs o.feed.given feed.given) (sym (gives_own d o.line on_line)) given)
          faults same

      pub holds_given : Holds rule lane (own ++ e ∷ []) (ds ++ d ∷ []) seen' first
          (record h { berth = new; opened = Some (record { line = o.line; feed = feed }) })
      holds_given = record {
        told = told_then;
        berth = berth_then;
        ended = backs_still own ds e d h.ended k.ended leaves_ended;
        unsaid = backs_still own ds e d (listed h.unsaid) k.unsaid leaves_unsaid;
        opened = fed_on;
        lines = ap (λ (p : Option Open). lines_of h.ended ++ listed (open_line p)) (sym is_open)
            ∙ (k.lines ∙ sym (same_lines starts));
        after = after_open;
        below = subst (λ (ls : List ℕ). All (λ l. l < lines_in seen') ls) (sym (same_lines starts))
            (below_then (started_in own) k.below);
        untouched = λ l later.
            let own_later : All (λ n. n < l) (started_in own) =
            subst (λ (ls : List ℕ). All (λ n. n < l) ls) (same_lines starts) later in
            let above = open_below l own_later in
            untouched_then l (gives_later l above, later_none l above) own_later;
      }

-- ---- a line that was started

module _ (rule : History → ℕ → Call → Reply) (lane : ℕ) (own : History) (ds : List Deed)
    (seen : History) (first : BerthTold) (h : LaneObjects) (k : Holds rule lane own ds seen first h)
    (e : Past) (d : Deed) (seen' : History) (more : StartsWith seen' seen)
    (told : AreTold rule lane seen' d.looks) (new : BerthTold) (touches : Touches e d h.berth new)
    (l : ℕ) (gives : d.given ≡ []) (feeds : (n : ℕ) → feed_fault n e.call ≡ 0)
    (none : h.opened ≡ None)
    (fresh : All (λ n. n < l) (started_in own)) (ordered : l < lines_in seen) where
  leave : (n : ℕ) → LeavesFeed e d n
  leave n = leaves_all e d n gives (feeds n)

  all_ended : lines_of h.ended ≡ started_in own
  all_ended = sym (append-nil (lines_of h.ended))
      ∙ (ap (λ (o : Option Open). lines_of h.ended ++ listed (open_line o)) (sym none) ∙ k.lines)

  earlier : All (λ x. x.line < l) h.ended
  earlier = of_lines h.ended (subst (λ (ls : List ℕ). All (λ n. n < l) ls) (sym all_ended) fresh)
    where
      of_lines : (xs : List Returned) → All (λ n. n < l) (lines_of xs) → All (λ (x : Returned). x.line < l) xs
      of_lines [] a = All-nil (λ (x : Returned). x.line < l)
      of_lines (x ∷ xs) a = All-cons (λ (y : Returned). y.line < l) x xs (a 0 0 (omega arith))
          (of_lines xs (λ i y lt. a (suc i) y (omega arith)))

  all_said : All (λ x. LeavesFeed e d x.line) (listed h.unsaid)
  all_said = λ i y lt. leave (slice_index_or (listed h.unsaid) i y).line

  of_new : (feed : FeedTold) → IsFed [] [] l feed → IsFed (own ++ e ∷ []) (ds ++ d ∷ []) l feed
  of_new feed fed =
      let u = untouched_then rule lane own ds seen first h k e d seen' more told new touches l (leave l)
      fresh in record {
        of_line = fed.of_line;
        given = subst (λ (bs : List ℕ). Tells feed.given bs) (sym u.0) fed.given;
        faults = subst (λ (n : ℕ). RoseBy n 0 feed.faults) (sym u.1) fed.faults;
      }

  told_on : AllTold rule lane seen' (ds ++ d ∷ [])
  told_on = told_then rule lane own ds seen first h k e d seen' more told new touches

  berth_on : IsServed (own ++ e ∷ []) (ds ++ d ∷ []) first new
  berth_on = berth_then rule lane own ds seen first h k e d seen' more told new touches

  ended_on : All (IsBack (own ++ e ∷ []) (ds ++ d ∷ [])) h.ended
  ended_on = backs_still own ds e d h.ended k.ended (λ i y lt. leave (slice_index_or h.ended i y).line)

  below_on : All (λ n. n < lines_in seen') (started_in own)
  below_on = below_then rule lane own ds seen first h k e d seen' more told new touches (started_in own)
      k.below

  ordered_on : l < lines_in seen'
  ordered_on = let later = lines_later seen' seen more in omega arith

  -- it was reported: it is open
  module _ (feed : FeedTold) (fed : IsFed [] [] l feed) (starts : started_by e.call ≡ l ∷ []) where
    lines_on : started_in (own ++ e ∷ []) ≡ started_in own ++ l ∷ []
    lines_on = started_more own e ∙ ap (λ (ls : List ℕ). started_in own ++ ls) starts

    pub holds_started : Holds rule lane (own ++ e ∷ []) (ds ++ d ∷ []) seen' first
        (record h { berth = new; opened = Some (record { line = l; feed = feed }) })
    holds_started = record {
      told = told_on;
      berth = berth_on;
      ended = ended_on;
      unsaid = backs_still own ds e d (listed h.unsaid) k.unsaid all_said;
      opened = of_new feed fed;
      lines = ap (λ (ls : List ℕ). ls ++ l ∷ []) all_ended ∙ sym lines_on;
      after = earlier;
      below = subst (λ (ls : List ℕ). All (λ n. n < lines_in seen') ls) (sym lines_on)
          (All-append (λ n. n < lines_in seen') (started_in own) (l ∷ []) below_on
          (All-cons (λ n. n < lines_in seen') l [] ordered_on (All-nil (λ n. n < lines_in seen'))));
      untouched = λ n later.
          let both : All (λ m. m < n) (started_in own ++ l ∷ []) =
          subst (λ (ls : List ℕ). All (λ m. m < n) ls) lines_on later in
          untouched_then rule lane own ds seen first h k e d seen' more told new touches n (leave n)
          (all_first (λ m. m < n) (started_in own) l both);
    }

  -- there was no memory to report it
  module _ (back : Returned) (is_back : IsFed [] [] l back.feed × IsKilled l back.child) (of : back.line ≡ l)
      (starts : started_by e.call ≡ []) where
    lines_off : started_in (own ++ e ∷ []) ≡ started_in own
    lines_off = started_more own e
        ∙ (ap (λ (ls : List ℕ). started_in own ++ ls) starts ∙ append-nil (started_in own))

    back_on : IsBack (own ++ e ∷ []) (ds ++ d ∷ []) back
    back_on = (
      subst (λ (n : ℕ). IsFed (own ++ e ∷ []) (ds ++ d ∷ []) n back.feed) (sym of)
          (of_new back.feed is_back.0),
      subst (λ (n : ℕ). IsKilled n back.child) (sym of) is_back.1,
    )

    pub holds_unsaid : Holds rule lane (own ++ e ∷ []) (ds ++ d ∷ []) seen' first
        (record h { berth = new; unsaid = Some back })
    holds_unsaid = record {
      told = told_on;
      berth = berth_on;
      ended = ended_on;
      unsaid = All-cons (IsBack (own ++ e ∷ []) (ds ++ d ∷ [])) back [] back_on
          (All-nil (IsBack (own ++ e ∷ []) (ds ++ d ∷ [])));
      opened = subst (λ (o : Option Open). IsOpenFed (own ++ e ∷ []) (ds ++ d ∷ []) o) (sym none) tt;
      lines = k.lines ∙ sym lines_off;
      after = k.after;
      below = subst (λ (ls : List ℕ). All (λ n. n < lines_in seen') ls) (sym lines_off) below_on;
      untouched = λ n later.
          untouched_then rule lane own ds seen first h k e d seen' more told new touches n (leave n)
          (subst (λ (ls : List ℕ). All (λ m. m < n) ls) lines_off later);
    }

-- ---- the open line is laid by

module _ (rule : History → ℕ → Call → Reply) (lane : ℕ) (own : History) (ds : List Deed)
    (seen : History) (first : BerthTold) (h : LaneObjects) (k : Holds rule lane own ds seen first h)
    (o : Open) (was : h.opened ≡ Some o) (back : Returned)
    (is : (back.line ≡ o.line) × (back.feed ≡ o.feed) × IsKilled back.line back.child) where
  back_is : IsBack own ds back
  back_is = (
    subst (λ (n : ℕ). IsFed own ds n back.feed) (sym is.0)
        (subst (λ (f : FeedTold). IsFed own ds o.line f) (sym is.1)
        (subst (λ (p : Option Open). IsOpenFed own ds p) was k.opened)),
    is.2,
  )

  pub holds_laid : Holds rule lane own ds seen first
      (record h { opened = None; ended = h.ended ++ back ∷ [] })
  holds_laid = record {
    told = k.told;
    berth = k.berth;
    ended = All-append (IsBack own ds) h.ended (back ∷ []) k.ended
        (All-cons (IsBack own ds) back [] back_is (All-nil (IsBack own ds)));
    unsaid = k.unsaid;
    opened = tt;
    lines = append-nil (lines_of (h.ended ++ back ∷ []))
        ∙ (map-append (λ (x : Returned). x.line) h.ended (back ∷ [])
        ∙ ((λ i. lines_of h.ended ++ is.0 i ∷ [])
        ∙ (ap (λ (p : Option Open). lines_of h.ended ++ listed (open_line p)) (sym was) ∙ k.lines)));
    after = tt;
    below = k.below;
    untouched = k.untouched;
  }

-- ---- a line was ended by the berth, behind the last deed

module _ (rule : History → ℕ → Call → Reply) (lane : ℕ) (own : History) (ds : List Deed) (d : Deed)
    (l : ℕ) (seen : History) (first : BerthTold) (h : LaneObjects)
    (k : Holds rule lane own (ds ++ d ∷ []) seen first h) (new : BerthTold)
    (ended : EndsLine l h.berth new) where
  abbrev after_all : List Deed
  after_all = ds ++ with_end l d ∷ []

  open_ended : (o : Option Open) → IsOpenFed own (ds ++ d ∷ []) o → IsOpenFed own after_all o
  open_ended None fed = tt
  open_ended (Some o) fed = fed_with_end l d own ds o.line o.feed fed

  pub holds_ended : Holds rule lane own after_all seen first (record h { berth = new })
  holds_ended = record {
    told = told_with_end l d rule lane seen ds k.told;
    berth = served_with_end l d own ds first h.berth new k.berth ended;
    ended = backs_with_end l d own ds h.ended k.ended;
    unsaid = backs_with_end l d own ds (listed h.unsaid) k.unsaid;
    opened = open_ended h.opened k.opened;
    lines = k.lines;
    after = k.after;
    below = k.below;
    untouched = λ n later.
        let u = k.untouched n later in (given_with_end l d n ds ∙ u.0, u.1);
  }

-- before its first call
pub holds_first : (rule : History → ℕ → Call → Reply) (lane : ℕ) (seen : History) (berth : BerthTold)
    → Holds rule lane [] [] seen berth
    (record { berth = berth; opened = None; ended = []; unsaid = None })
holds_first rule lane seen berth = record {
  told = tt;
  berth = served_none berth;
  ended = All-nil (IsBack [] []);
  unsaid = All-nil (IsBack [] []);
  opened = tt;
  lines = refl;
  after = tt;
  below = All-nil (λ l. l < lines_in seen);
  untouched = λ l later. (refl, refl);
}
