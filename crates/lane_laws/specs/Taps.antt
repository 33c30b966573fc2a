-- The lines that were started, and their taps.
use Rattle.std.specs.Prelude.{◌≡◌, ℕ, List, [], ◌∷◌, ◌++◌, false, Some}
use Rattle.seat_desk.specs.History.{calls_by}
use Rattle.exec_journal.specs.declared.call.Call.{Call}
use Rattle.exec_journal.specs.declared.call.Call.TheVariants as call
use Rattle.exec_journal.specs.declared.reply.Reply.{Reply}
use Rattle.exec_journal.specs.declared.reply.Reply.TheVariants as reply
use Rattle.core_contract.specs.Ruled.{CameAbout}
use Rattle.core_contract.specs.Discipline.{Discipline}
use Rattle.core_contract.specs.Moves.{History}
use Rattle.core_contract.specs.Laws.{tap_lane, is_taken}
use Rattle.core_contract.specs.Duties.{proxy_lane}
use Rattle.core_contract.specs.Shelf.{tap_at}
use Rattle.proxy_words.specs.Lines.{started_in, listed}

-- the line that a Take was answered with
abbrev pub taken_by : Call → Reply → List ℕ
taken_by call.Take (reply.Line l) = l ∷ []
taken_by _ _ = []

-- the lines that the Takes of these entries were answered with, in order
abbrev pub taken_in : History → List ℕ
taken_in [] = []
taken_in (e ∷ es) = taken_by e.call e.reply ++ taken_in es

-- the lines that the proxy lane of this berth started
abbrev pub started_at : ℕ → History → List ℕ
started_at w h = started_in (calls_by (proxy_lane w) h)

-- Each line that a proxy lane started has one tap: the tap lane of its berth took it, in the order
-- in which they were started, or it is the last of them and its tap lies on the shelf.
abbrev pub StartedAreTapped : {Q : Type 0} → (Q → Discipline) → Type 0
StartedAreTapped {Q} rules =
    (b : Q) (h : History) (w : ℕ) → CameAbout (rules b) h
    → started_at w h ≡ taken_in (calls_by (tap_lane w) h) ++ listed (tap_at w h)

-- The line whose tap lies on the shelf for some berth is one that no Take was answered with.
abbrev pub ShelvedAreUntaken : {Q : Type 0} → (Q → Discipline) → Type 0
ShelvedAreUntaken {Q} rules =
    (b : Q) (h : History) (w l : ℕ) → CameAbout (rules b) h → tap_at w h ≡ Some l → is_taken l h ≡ false
