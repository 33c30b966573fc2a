-- How a program that answers messages ends, and why.
use Rattle.std.specs.Prelude.{◌≡◌, ℕ, ◌≤◌, ◌^◌, List, length, true, Option, Some, None, IfSome}
use Rattle.std.specs.Prelude.{Result, Ok, Err}
use Rattle.outside.specs.Causes.{Rose}
use Rattle.outside.specs.Lists.{Adds, AddsFront}
use Rattle.outside.specs.Told.{TapTold, SinkTold}
use Rattle.message_service.specs.declared.finish.Finish.{Finish}
use Rattle.message_service.specs.declared.finish.Finish.TheVariants as finish

abbrev pub status_of : Finish → ℕ
status_of finish.AtEnd = 0
status_of finish.NoMemory = 3
status_of finish.BadInput = 4
status_of finish.InputFault = 5
status_of finish.OutputFault = 6
status_of finish.TooLong = 7

-- why it has ended, so far as that isn't said by what was read and put
abbrev pub CausedBy : Finish → List ℕ → TapTold → TapTold → Type 0
CausedBy finish.AtEnd bytes old new = IfSome new.ended (λ ended. ended ≡ true)
CausedBy finish.NoMemory bytes old new = Unit {0}
CausedBy finish.BadInput bytes old new = Unit {0}
CausedBy finish.InputFault bytes old new = Rose old.faults new.faults
CausedBy finish.OutputFault bytes old new = Unit {0}
CausedBy finish.TooLong bytes old new = 2 ^ 40 ≤ length bytes

-- a step on the way that went well says no end
abbrev pub end_of : Result (Unit {0}) Finish → Option Finish
end_of (Ok done) = None
end_of (Err f) = Some f

pub record PutAll (bytes : List ℕ) (old new : SinkTold) : Type 0 where
  pub given : Adds bytes old.contents new.contents
  pub count : old.faults ≤ new.faults

-- some front of them was put, and the sink failed
pub record PutFront (bytes : List ℕ) (old new : SinkTold) : Type 0 where
  pub given : AddsFront bytes old.contents new.contents
  pub rose : Rose old.faults new.faults

-- these bytes were put, or where putting failed a front of them
abbrev pub PutsBy : Option Finish → List ℕ → SinkTold → SinkTold → Type 0
PutsBy None bytes old new = PutAll bytes old new
PutsBy (Some finish.AtEnd) bytes old new = PutAll bytes old new
PutsBy (Some finish.NoMemory) bytes old new = PutAll bytes old new
PutsBy (Some finish.BadInput) bytes old new = PutAll bytes old new
PutsBy (Some finish.InputFault) bytes old new = PutAll bytes old new
PutsBy (Some finish.OutputFault) bytes old new = PutFront bytes old new
PutsBy (Some finish.TooLong) bytes old new = PutAll bytes old new
