-- What was asked of each berth, and of the feeds and the children of its lines, where all of them tell.
use Rattle.std.specs.Prelude.{◌≡◌, ℕ, ◌+◌, List, [], ◌∷◌, Option, Some}
use Rattle.std.specs.List.{AllByRecursion}
use Rattle.seat_desk.specs.History.{calls_by}
use Rattle.exec_journal.specs.declared.call.Call.{Call}
use Rattle.exec_journal.specs.declared.reply.Reply.{Reply}
use Rattle.core_contract.specs.Duties.{proxy_lane}
use Rattle.core_contract.specs.Moves.{History}
use Rattle.outside.specs.Told.{BerthTold}
use Rattle.remote_messages.specs.declared.work.WorkAction.{WorkAction}
use Rattle.run_plan.specs.declared.plan.Speech.{Speech}
use Rattle.proxy_words.specs.declared.halt.ProxyHalt.{ProxyHalt}
use Rattle.run_values.specs.declared.settings.Settings.{Settings}
use Rattle.proxy_words.specs.Deeds.{Deed, calls_of, given_to}
use Rattle.proxy_words.specs.Ends.{Ends}
use Rattle.proxy_words.specs.Lines.{Returned, RoseBy, feed_faults, lines_of, listed, room_faults, started_in, unsaid_by}
use Rattle.proxy_words.specs.Told.{AllTold}
use Rattle.lane_runs.specs.Runs.{EndTold, backs_at}
use Rattle.lane_runs.specs.Seats.{means_for}

module _ (own : History) (deeds : List Deed) where
  -- A line comes back: unless its feed has failed that was given exactly what the deeds gave, and the
  -- child was killed once.
  pub record CameBack (x : Returned) : Type 0 where
    pub of_feed : x.feed.line ≡ Some x.line
    pub given : x.feed.faults ≡ 0 → x.feed.given ≡ Some (given_to x.line deeds)
    pub faults : RoseBy (feed_faults x.line own) 0 x.feed.faults
    pub of_child : x.child.line ≡ Some x.line
    pub killed : x.child.kills ≡ Some 1

-- by the rule of a core, by settings, and where this is the work of all actions
module _ (rule : History → ℕ → Call → Reply) (settings : Settings) (work : List WorkAction)
    (h : History) where
  -- The berth w, which speaks so, was served: all calls on it, one after another, are those of the
  -- deeds that its proxy lane has done for its entries. Each line that it started comes back.
  pub record Served (lines : List EndTold) (w : ℕ) (spoken : Speech) (berth : BerthTold)
      (unsaid : Option Returned) : Type 0 where
    pub halted : Option ProxyHalt
    pub deeds : List Deed
    pub ends : Ends (means_for settings work spoken) (proxy_lane w) halted
        (calls_by (proxy_lane w) h) deeds
    pub told : AllTold rule (proxy_lane w) h deeds
    pub number : berth.number ≡ w
    pub log : berth.log ≡ Some (calls_of deeds)
    pub faults : RoseBy (room_faults (calls_by (proxy_lane w) h)) 0 berth.faults
    pub started : lines_of (backs_at lines (started_in (calls_by (proxy_lane w) h)))
        ≡ started_in (calls_by (proxy_lane w) h)
    pub each : AllByRecursion (CameBack (calls_by (proxy_lane w) h) deeds)
        (backs_at lines (started_in (calls_by (proxy_lane w) h)))
    pub last : lines_of (listed unsaid) ≡ unsaid_by halted
    pub also : AllByRecursion (CameBack (calls_by (proxy_lane w) h) deeds) (listed unsaid)

  -- so were the berths from w on, one for each speech
  abbrev pub AllServed : List EndTold → ℕ → List Speech → List BerthTold → List (Option Returned)
      → Type 0
  AllServed lines w [] [] [] = Unit {0}
  AllServed lines w (s ∷ speeches) (b ∷ berths) (u ∷ unsaid) =
      Served lines w s b u × AllServed lines (w + 1) speeches berths unsaid
  AllServed lines w _ _ _ = ⊥
