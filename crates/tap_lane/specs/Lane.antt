-- What a tap lane leaves.
use Rattle.std.specs.Prelude.{◌≡◌, ℕ, List, [], ◌∷◌, ◌++◌, Option, Some, None}
use Rattle.seat_desk.specs.History.{entry}
use Rattle.outside.specs.Told.{TapTold}
use Rattle.run_plan.specs.declared.plan.Speech.{Speech}
use Rattle.exec_journal.specs.declared.call.Call.TheVariants as call
use Rattle.exec_journal.specs.declared.call.HowEnded.{HowEnded}
use Rattle.exec_journal.specs.declared.reply.Reply.TheVariants as reply
use Rattle.core_contract.specs.Moves.{History}
use Rattle.core_contract.specs.Laws.{hearing_of, Over}
use Rattle.tap_lane.specs.declared.ends.TapHalt.{TapHalt}
use Rattle.tap_lane.specs.declared.ends.TapHalt.TheVariants as want
use Rattle.tap_lane.specs.Heard.{HeardOf, HasHeard}

-- how far a line was heard when memory ran out
abbrev pub HeardUntil : TapHalt → Speech → ℕ → TapTold → History → History → Type 0
HeardUntil want.Line s l t own own' = ⊥
HeardUntil want.Answers s l t own own' = HasHeard s l t None own own'
HeardUntil (want.End how) s l t own own' = HasHeard s l t (Some how) own own'

module _ (s : Speech) (lane : ℕ) where
  -- these entries are those of one line, from its Take to its Ended, and its tap tells this
  pub record Whole (t : ℕ × TapTold) (es : History) : Type 0 where
    pub made : History
    pub how : HowEnded
    pub heard : HeardOf s t.0 t.1 (Some how) made
    pub are : es ≡ entry lane call.Take (reply.Line t.0) ∷ made
        ++ entry lane (call.Ended t.0 how) reply.Noted ∷ []

  -- line after line, each to its end
  abbrev pub Runs : List (ℕ × TapTold) → History → Type 0
  Runs [] es = es ≡ []
  Runs (t ∷ ts) es =
      (first : History) × (rest : History) × (es ≡ first ++ rest) × Whole t first × Runs ts rest

  -- line after line, and the last without its Ended: it had ended so, or hadn't
  pub record CutShort (how : Option HowEnded) (taps : List (ℕ × TapTold)) (es : History)
      : Type 0 where
    pub whole : List (ℕ × TapTold)
    pub last : ℕ × TapTold
    pub taps_are : taps ≡ whole ++ last ∷ []
    pub lines : History
    pub runs : Runs whole lines
    pub made : History
    pub heard : HeardOf s last.0 last.1 how made
    pub are : es ≡ lines ++ entry lane call.Take (reply.Line last.0) ∷ made

  -- what the lane had made when memory ran out
  abbrev pub RunsUntil : TapHalt → List (ℕ × TapTold) → History → Type 0
  RunsUntil want.Line taps es = Runs taps es
  RunsUntil want.Answers taps es = CutShort None taps es
  RunsUntil (want.End how) taps es = CutShort (Some how) taps es

  -- Its entries, by why it has halted, if it has. Else it was told to stop.
  abbrev pub LaneEnds : Option TapHalt → List (ℕ × TapTold) → History → Type 0
  LaneEnds None taps mine =
      (es : History) × Runs taps es × (mine ≡ es ++ entry lane call.Take reply.Stop ∷ [])
  LaneEnds (Some w) taps mine =
      (es : History) × RunsUntil w taps es × (mine ≡ es ++ entry lane call.Halt reply.Noted ∷ [])

  -- the lane, which isn't over, is to halt
  abbrev pub ToHalt : List (ℕ × TapTold) → History → TapHalt → Type 0
  ToHalt taps mine w = RunsUntil w taps mine × (hearing_of mine ≡ Over → ⊥)
