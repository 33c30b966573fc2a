-- What a tap lane heard of one line.
use Rattle.std.specs.Prelude.{◌≡◌, ℕ, ◌<◌, ◌≤◌, ◌^◌, List, [], ◌∷◌, ◌++◌, length, Bool, true, false, Option, Some, None, IfSome}
use Rattle.seat_desk.specs.History.{entry}
use Rattle.outside.specs.Told.{TapTold}
use Rattle.run_plan.specs.declared.plan.Speech.{Speech}
use Rattle.exec_journal.specs.declared.call.Answer.{Answer}
use Rattle.exec_journal.specs.declared.call.Call.TheVariants as call
use Rattle.exec_journal.specs.declared.call.HowEnded.{HowEnded}
use Rattle.exec_journal.specs.declared.call.HowEnded.TheVariants as end
use Rattle.exec_journal.specs.declared.reply.Reply.TheVariants as reply
use Rattle.answer_reader.specs.Says.{Hears, SaysFirst, SaysAll, SaysBadly}
use Rattle.answer_reader.specs.declared.reader.AnswerReader.{AnswerReader}
use Rattle.core_contract.specs.Moves.{Past, History}
use Rattle.core_contract.specs.Laws.{tap_lane, fits_answer}
use Rattle.tap_lane.specs.declared.ends.EndedTap.{EndedTap}

-- the lane is the tap lane of a berth, of so many
abbrev pub IsTapLane : ℕ → ℕ → Type 0
IsTapLane berths lane = (w : ℕ) × (lane ≡ tap_lane w) × (w < berths)

-- the entry tells this answer of the line, and got a reply that an answer may get
abbrev pub IsAnswer : ℕ → Answer → Past → Type 0
IsAnswer l x e = (e.call ≡ call.Answer l x) × (fits_answer e.reply ≡ true)

-- the entries tell these answers of the line, in order, and nothing else
abbrev pub AreAnswers : ℕ → History → List Answer → Type 0
AreAnswers l [] [] = Unit {0}
AreAnswers l [] (x ∷ xs) = ⊥
AreAnswers l (e ∷ es) [] = ⊥
AreAnswers l (e ∷ es) (x ∷ xs) = IsAnswer l x e × AreAnswers l es xs

-- The answers are what the bytes taken say, by how the line has ended: all that they say, and
-- nothing is wrong with them; after BadFrame all that they say before what spells nothing; where it
-- hasn't ended, the first of what they say.
abbrev pub SaysTo : Speech → Option HowEnded → List ℕ → List Answer → Type 0
SaysTo s (Some end.End) bytes answers = SaysAll s bytes answers
SaysTo s (Some end.TapFault) bytes answers = SaysAll s bytes answers
SaysTo s (Some end.Long) bytes answers = SaysAll s bytes answers
SaysTo s (Some end.BadFrame) bytes answers = SaysBadly s bytes answers
SaysTo s None bytes answers = SaysFirst s bytes answers

-- no read of the tap has answered End
abbrev pub IsOpen : TapTold → Type 0
IsOpen t = IfSome t.ended (λ ended. ended ≡ false)

-- why the line has ended
abbrev pub EndedBy : HowEnded → TapTold → Type 0
EndedBy end.End t = IfSome t.ended (λ ended. ended ≡ true)
EndedBy end.TapFault t = (0 < t.faults) × IsOpen t
EndedBy end.BadFrame t = IsOpen t
EndedBy end.Long t = IsOpen t × IfSome t.taken (λ bytes. 2 ^ 40 ≤ length bytes)

-- why it has ended; or it hasn't, and memory ran out for bytes that were taken
abbrev pub StandsAt : Option HowEnded → TapTold → Type 0
StandsAt (Some how) t = EndedBy how t
StandsAt None t = IsOpen t × IfSome t.taken (λ bytes. 0 < length bytes)

-- these entries are the answers of the line whose tap tells this, when it has ended so or hasn't
pub record HeardOf (s : Speech) (l : ℕ) (t : TapTold) (how : Option HowEnded) (made : History)
    : Type 0 where
  pub answers : List Answer
  pub are : AreAnswers l made answers
  pub of_line : IfSome t.line (λ n. n ≡ l)
  pub says : IfSome t.taken (λ bytes. SaysTo s how bytes answers)
  pub stands : StandsAt how t

-- a lane's own entries have grown by those of what it heard
abbrev pub HasHeard : Speech → ℕ → TapTold → Option HowEnded → History → History → Type 0
HasHeard s l t how own own' = (made : History) × HeardOf s l t how made × (own' ≡ own ++ made)

-- and then by how the line has ended
abbrev pub HeardWhole : Speech → ℕ → ℕ → TapTold → History → History → Type 0
HeardWhole s lane l t own own' =
    (how : HowEnded) × (made : History) × HeardOf s l t (Some how) made
    × (own' ≡ (own ++ made) ++ entry lane (call.Ended l how) reply.Noted ∷ [])

-- ---- the answers that one piece brings

-- more answers of the line were told, and this holds of all that were
pub record Went (l : ℕ) (answers : List Answer) (own own' : History) (Then : List Answer → Type 0)
    : Type 0 where
  pub more : List Answer
  pub made : History
  pub are : AreAnswers l made more
  pub grown : own' ≡ own ++ made
  pub so : Then (answers ++ more)

-- the reader has nothing whole left, or what it has left spells nothing
abbrev pub AfterAll : Speech → List ℕ → AnswerReader → Bool → List Answer → Type 0
AfterAll s fed reader true answers = Hears s fed answers reader × SaysAll s fed answers
AfterAll s fed reader false answers = SaysBadly s fed answers

-- ---- taps that were given back

-- a tap with its line, by what taps tell
abbrev pub back_by : {T : Type 0} → (T → TapTold) → EndedTap T → ℕ × TapTold
back_by told e = (e.line, told e.tap)
