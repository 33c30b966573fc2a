-- What a run of all lanes leaves, by its one history.
use Rattle.std.specs.Prelude.{◌≡◌, ℕ, ◌+◌, ◌*◌, ◌<◌, Bool, false, List, [], ◌∷◌, ◌++◌, length, map, slice_get, Option, Some, None, option_map, slice_index_or}
use Rattle.std.specs.List.{range_with_len}
use Rattle.seat_desk.specs.History.{calls_by}
use Rattle.seat_desk.specs.Turns.{NoneFrom}
use Rattle.exec_journal.specs.declared.call.Call.{Call}
use Rattle.exec_journal.specs.declared.reply.Reply.{Reply}
use Rattle.exec_journal.specs.declared.reply.Reply.TheVariants as reply
use Rattle.exec_journal.specs.Entry.{Entry}
use Rattle.outside.specs.Told.{BerthTold, PlaceTold, FeedTold, TapTold, ChildTold, LineTold, line_told}
use Rattle.remote_messages.specs.declared.work.WorkAction.{WorkAction}
use Rattle.run_plan.specs.declared.plan.Plan.{Plan}
use Rattle.core_contract.specs.Discipline.{Discipline, outputs_in}
use Rattle.core_contract.specs.Ruled.{CameAbout, answer_after}
use Rattle.core_contract.specs.Moves.{Past, History}
use Rattle.core_contract.specs.Shelf.{place_at}
use Rattle.core_contract.specs.Duties.{proxy_lane}
use Rattle.core_contract.specs.Laws.{tap_lane, lines_in}
use Rattle.core_machine.specs.Objects.{IsPlaceAt}
use Rattle.lane_laws.specs.Numbers.{In}
use Rattle.lane_laws.specs.Pipes.{PipeOf}
use Rattle.run_plan.specs.declared.plan.Speech.{Speech}
use Rattle.run_values.specs.declared.settings.Settings.{Settings}
use Rattle.proxy_words.specs.declared.halt.ProxyHalt.{ProxyHalt}
use Rattle.proxy_words.specs.Lines.{Returned, started_in}
use Rattle.proxy_laws.specs.Lanes.{back_of}
use Rattle.proxy_laws.specs.Steps.{Ended}
use Rattle.lane_runs.specs.Seats.{means_for}
use Rattle.lane_runs.specs.declared.halves.EndedLine.{EndedLine}
use Rattle.lane_runs.specs.Layout.{has_halt}
use Rattle.lane_runs.specs.declared.layout.Laid.{Laid}

-- a line by its number, and what it tells where it was started
pub record EndTold : Type 0 where
  pub number : ℕ
  pub line : Option LineTold

abbrev pub end_of : {D T K : Type 0} → (D → FeedTold) → (T → TapTold) → (K → ChildTold)
    → EndedLine D T K → EndTold
end_of feed tap child x = record {
  number = x.number;
  line = option_map (λ h. line_told (feed h.feed) (tap h.tap) (child h.child)) x.halves;
}

-- what a run leaves, as its objects tell it
pub record LaidTold : Type 0 where
  pub journal : List Entry
  pub berths : List BerthTold
  pub lines : List EndTold
  -- for each berth the line that was started and not reported
  pub unsaid : List (Option Returned)
  pub places : List PlaceTold
  pub halted : Bool

abbrev pub laid_told : {B D T K P : Type 0} → (B → BerthTold) → (D → FeedTold) → (T → TapTold)
    → (K → ChildTold) → (P → PlaceTold) → Laid B D T K P → LaidTold
laid_told berth feed tap child place x = record {
  journal = x.journal;
  berths = map berth x.berths.items;
  lines = map (end_of feed tap child) x.lines.items;
  unsaid = map (option_map (back_of feed child)) x.unsaid.items;
  places = map place x.places.items;
  halted = x.halted;
}

-- ---- the feeds and the children of lines

-- what the line l tells, if it was started
abbrev pub line_at : List EndTold → ℕ → Option LineTold
line_at lines l = slice_index_or (map (λ e. e.line) lines) l None

abbrev pub back_in : ℕ → Option LineTold → List Returned
back_in l None = []
back_in l (Some t) = record { line = l; feed = t.feed; child = t.child } ∷ []

-- those of these lines, in order
abbrev pub backs_at : List EndTold → List ℕ → List Returned
backs_at lines [] = []
backs_at lines (l ∷ ls) = back_in l (line_at lines l) ++ backs_at lines ls

-- ---- how lanes end

-- the lane was told to stop, last of all
abbrev pub IsStopped : History → ℕ → Type 0
IsStopped h lane =
    (own : History) × (e : Past) × (calls_by lane h ≡ own ++ e ∷ []) × (e.reply ≡ reply.Stop)

-- so were both lanes of the berth
abbrev pub AreStopped : History → ℕ → Type 0
AreStopped h w = IsStopped h (proxy_lane w) × IsStopped h (tap_lane w)

-- by the rule of a core, by settings, and where this is the work of all actions
module _ (rule : History → ℕ → Call → Reply) (settings : Settings) (work : List WorkAction)
    (h : History) where
  -- The berth w, which speaks so and told `old` at first, was served: the calls on it, the bytes
  -- given to its lines' feeds and the ends of their children are, entry by entry of its proxy lane,
  -- what that lane does for its orders; each line that it says was started is there, and so is one
  -- that it could not report, where it halted over it.
  pub record Room (lines : List EndTold) (w : ℕ) (spoken : Speech) (old new : BerthTold)
      (unsaid : Option Returned) : Type 0 where
    pub halted : Option ProxyHalt
    pub lane : Ended (means_for settings work spoken) rule (proxy_lane w)
        (calls_by (proxy_lane w) h) h old new
        (backs_at lines (started_in (calls_by (proxy_lane w) h))) unsaid halted

  -- so were the berths from w on
  abbrev pub Rooms : List EndTold → ℕ → List Speech → List BerthTold → List BerthTold
      → List (Option Returned) → Type 0
  Rooms lines w [] [] [] [] = Unit {0}
  Rooms lines w (s ∷ speeches) (old ∷ olds) (new ∷ news) (u ∷ unsaid) =
      Room lines w s old new u × Rooms lines (w + 1) speeches olds news unsaid
  Rooms lines w _ _ _ _ = ⊥

-- the proxy lane of some berth says that the line was started, and the history says of it what the
-- bytes taken from its tap say, and how that has ended
pub record Pipe (speeches : List Speech) (h : History) (l : ℕ) (line : LineTold) : Type 0 where
  pub berth : ℕ
  pub spoken : Speech
  pub of_berth : slice_get speeches berth ≡ Some spoken
  pub started : In l (started_in (calls_by (proxy_lane berth) h))
  pub heard : PipeOf spoken h (l, line.tap)

-- the lines that were ordered, by their numbers; and there is one for each that was started
pub record Pipes (speeches : List Speech) (h : History) (lines : List EndTold) : Type 0 where
  pub numbers : map (λ e. e.number) lines ≡ range_with_len 0 (lines_in h)
  pub each : (l : ℕ) (t : LineTold) → line_at lines l ≡ Some t → Pipe speeches h l t

-- each action's place was written what the history says: nothing without a grant
pub record Outs (plan : Plan) (h : History) (places : List PlaceTold) : Type 0 where
  pub as_many : length places ≡ length plan.actions
  pub each : (a : ℕ) (p : PlaceTold) → slice_get places a ≡ Some p
      → IsPlaceAt a (outputs_in plan a) (place_at a h) p

-- where no lane has halted, all lanes of so many berths were told to stop
abbrev pub Stops : ℕ → History → Type 0
Stops berths h = has_halt h ≡ false → (w : ℕ) → w < berths → AreStopped h w

-- The one history of the run, by a discipline, and what its objects tell: whatever the lanes
-- did is in it, and what is in it they did. There is a speech for each berth that has lanes, so many
-- lanes stand beside these, and no other lane has an entry.
pub record HasRun (q : Discipline) (speeches : List Speech) (settings : Settings)
    (work : List WorkAction) (before : List BerthTold) (beside : ℕ) (laid : LaidTold) : Type 0 where
  pub history : History
  pub in_journal : laid.journal ≡ history
  pub is_legal : CameAbout q history
  pub no_others : NoneFrom (2 * length speeches + beside) history
  pub rooms : Rooms (answer_after q) settings work history laid.lines 0 speeches before laid.berths
      laid.unsaid
  pub pipes : Pipes speeches history laid.lines
  pub outs : Outs q.plan history laid.places
  pub halts : laid.halted ≡ has_halt history
  pub stops : Stops (length speeches) history
