-- What the two lanes of each berth leave, by the one history.
use Rattle.std.specs.Prelude.{◌≡◌, ℕ, ◌+◌, List, [], ◌∷◌, map, option_map}
use Rattle.seat_desk.specs.History.{calls_by}
use Rattle.exec_journal.specs.declared.call.Call.{Call}
use Rattle.exec_journal.specs.declared.reply.Reply.{Reply}
use Rattle.lane_threads.specs.declared.pair.Either.{Either}
use Rattle.lane_threads.specs.declared.pair.Either.TheVariants.{First, Second}
use Rattle.outside.specs.Told.{BerthTold, FeedTold, TapTold, ChildTold}
use Rattle.remote_messages.specs.declared.work.WorkAction.{WorkAction}
use Rattle.core_contract.specs.Moves.{History}
use Rattle.core_contract.specs.Duties.{proxy_lane}
use Rattle.core_contract.specs.Laws.{tap_lane}
use Rattle.run_plan.specs.declared.plan.Speech.{Speech}
use Rattle.run_values.specs.declared.settings.Settings.{Settings}
use Rattle.proxy_laws.specs.Lanes.{back_of}
use Rattle.proxy_laws.specs.Steps.{Ended}
use Rattle.tap_lane.specs.Heard.{back_by}
use Rattle.tap_lane.specs.Lane.{LaneEnds}
use Rattle.proxy_lane.specs.declared.lane.ProxyLeft.{ProxyLeft}
use Rattle.lane_runs.specs.Seats.{means_for}
use Rattle.tap_lane.specs.declared.ends.TapLeft.{TapLeft}

-- by what berths, feeds, taps and children tell, by the rule of a core
module _ {B D T K : Type 0} (berth : B → BerthTold) (feed : D → FeedTold) (tap : T → TapTold)
    (child : K → ChildTold) (rule : History → ℕ → Call → Reply) (settings : Settings)
    (actions : List WorkAction) (h : History) where
  -- all entries of the proxy lane of the berth w, and what it leaves, are those of a lane that
  -- served this berth; and all entries of its tap lane are those of one that heard the taps
  pub record BerthRan (w : ℕ) (spoken : Speech) (before : B) (proxy : ProxyLeft B D K)
      (heard : TapLeft T) : Type 0 where
    pub served : Ended (means_for settings actions spoken) rule (proxy_lane w)
        (calls_by (proxy_lane w) h) h (berth before) (berth proxy.berth)
        (map (back_of feed child) proxy.feeds.items)
        (option_map (back_of feed child) proxy.unsaid) proxy.halted
    pub told : LaneEnds spoken (tap_lane w) heard.halted
        (map (back_by tap) heard.taps.items) (calls_by (tap_lane w) h)

  -- so it is with these berths, from the number w on
  abbrev pub EachBerthRan : ℕ → List B → List Speech → List (Either (ProxyLeft B D K) (TapLeft T))
      → Type 0
  EachBerthRan w [] [] ends = ends ≡ []
  EachBerthRan w (b ∷ bs) (s ∷ ss) (First x ∷ Second y ∷ ends) =
      BerthRan w s b x y × EachBerthRan (w + 1) bs ss ends
  EachBerthRan w _ _ _ = ⊥
