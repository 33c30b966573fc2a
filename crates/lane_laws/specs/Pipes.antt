-- What the whole history says of each line that a tap lane took.
use Rattle.std.specs.Prelude.{◌≡◌, ℕ, ◌==◌, false, List, [], ◌∷◌, Option, Some, None, if◌then◌else◌, IfSome}
use Rattle.seat_desk.specs.History.{calls_by}
use Rattle.outside.specs.Told.{TapTold}
use Rattle.run_plan.specs.declared.plan.Speech.{Speech}
use Rattle.exec_journal.specs.declared.call.Answer.{Answer}
use Rattle.exec_journal.specs.declared.call.Call.{Call}
use Rattle.exec_journal.specs.declared.call.Call.TheVariants as call
use Rattle.exec_journal.specs.declared.call.HowEnded.{HowEnded}
use Rattle.core_contract.specs.Ruled.{CameAbout}
use Rattle.core_contract.specs.Discipline.{Discipline}
use Rattle.core_contract.specs.Moves.{History}
use Rattle.core_contract.specs.Laws.{is_taken}
use Rattle.tap_lane.specs.declared.ends.TapHalt.{TapHalt}
use Rattle.tap_lane.specs.Heard.{SaysTo, EndedBy}
use Rattle.tap_lane.specs.Lane.{LaneEnds}

-- the answers of a line before these, with the one that the call tells, if it tells one
abbrev pub answer_in : ℕ → Call → List Answer → List Answer
answer_in l (call.Answer k x) rest = if k == l then x ∷ rest else rest
answer_in l _ rest = rest

-- the answers of a line, in order
abbrev pub said_on : ℕ → History → List Answer
said_on l [] = []
said_on l (e ∷ h) = answer_in l e.call (said_on l h)

abbrev pub end_in : ℕ → Call → Option HowEnded → Option HowEnded
end_in l (call.Ended k how) rest = if k == l then Some how else rest
end_in l _ rest = rest

-- how a line has ended, by the first Ended of it
abbrev pub end_on : ℕ → History → Option HowEnded
end_on l [] = None
end_on l (e ∷ h) = end_in l e.call (end_on l h)

-- The tap is the line's. All answers of the line, whichever lane told them, are what the bytes
-- taken say, by how the line has ended; and it has ended so for cause.
pub record PipeOf (s : Speech) (h : History) (t : ℕ × TapTold) : Type 0 where
  pub of_line : IfSome t.1.line (λ n. n ≡ t.0)
  pub says : IfSome t.1.taken (λ bytes. SaysTo s (end_on t.0 h) bytes (said_on t.0 h))
  pub cause : IfSome (end_on t.0 h) (λ how. EndedBy how t.1)

-- it holds of each
abbrev pub Each : {X : Type 0} → (X → Type 0) → List X → Type 0
Each P [] = Unit {0}
Each P (x ∷ xs) = P x × Each P xs

-- no two of the taps are of one line
abbrev pub NotIn : ℕ → List (ℕ × TapTold) → Type 0
NotIn l ts = Each (λ t. t.0 ≡ l → ⊥) ts

abbrev pub AllApart : List (ℕ × TapTold) → Type 0
AllApart [] = Unit {0}
AllApart (t ∷ ts) = NotIn t.0 ts × AllApart ts

-- Where a legal history has of a lane what a tap lane leaves, it says of each line that the lane
-- took just what its tap tells, and no line was taken twice.
abbrev pub SaysWhatTapsTell : {Q : Type 0} → (Q → Discipline) → Type 0
SaysWhatTapsTell {Q} rules =
    (b : Q) (h : History) (s : Speech) (lane : ℕ) (halted : Option TapHalt)
    (taps : List (ℕ × TapTold)) → CameAbout (rules b) h → LaneEnds s lane halted taps (calls_by lane h)
    → AllApart taps × Each (PipeOf s h) taps

-- Of a line that no lane was given a legal history tells no answer and no end.
abbrev pub SilentUnlessGiven : {Q : Type 0} → (Q → Discipline) → Type 0
SilentUnlessGiven {Q} rules =
    (b : Q) (h : History) (l : ℕ) → CameAbout (rules b) h → is_taken l h ≡ false
    → (said_on l h ≡ []) × (end_on l h ≡ None)
