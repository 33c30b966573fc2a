-- From calls to what is done for an order.
use Rattle.std.proofs.Common.{◌≡◌, ℕ, List, [], ◌∷◌, ◌++◌, length, take, Option, Some, None, refl, ap, ◌∙◌, length-append, arith}
use Rattle.std.specs.Prelude.{Result, Ok, Err}
use Rattle.plain_values.specs.declared.no_memory.NoMemory.{NoMemory}
use Rattle.outside.specs.Causes.{Counts}
use Rattle.outside.specs.Lists.{Adds, AddsFront}
use Rattle.outside.specs.Told.{BerthTold, FeedTold, SameBerth, SameFeed}
use Rattle.outside.specs.declared.answers.Io.TheVariants as io
use Rattle.outside.specs.declared.berth.BerthCall.{BerthCall}
use Rattle.outside.specs.declared.berth.BerthCall.TheVariants as call
use Rattle.plain_values.specs.declared.command.Command.{Command}
use Rattle.exec_journal.specs.declared.call.Written.{Written}
use Rattle.exec_journal.specs.declared.call.Written.TheVariants as write
use Rattle.sandbox_rooms.specs.Calls.{Asked, Whole, Stopped, Cut, MakesRun}
use Rattle.sandbox_rooms.proofs.Runs.{adds_none, made_on}
use Rattle.berth_acts.specs.declared.launching.Opened.{Opened}
use Rattle.berth_acts.specs.declared.launching.Opened.TheVariants as opened
use Rattle.berth_acts.specs.Acts.{IsFront, Gave, GivesFrame, StartDone, Starts, LaunchDone, NotOpened, Launches, Sends}

-- ---- bytes

-- what a write that failed has given
front_adds : (bytes : List ℕ) (old new : Option (List ℕ)) → AddsFront bytes old new → (given : List ℕ) × IsFront bytes given × Adds given old new
front_adds bytes old None h = (take 0 bytes, (0, omega arith, refl), λ xs t. tt)
front_adds bytes (Some xs) (Some ys) h =
    let f = h xs refl in
    (take f.0 bytes, (f.0, f.1, refl), λ zs t. f.2 ∙ ap (λ (us : List ℕ). us ++ take f.0 bytes) t)
front_adds bytes None (Some ys) h =
    let f = h (ys ++ 0 ∷ []) tt in
    absurd (let l = ap length f.2 in let a = length-append (ys ++ 0 ∷ []) (take f.0 bytes) in let b = length-append ys (0 ∷ []) in omega (arith, l, a, b))

pub given_whole : (frame : List ℕ) (old new : FeedTold) → Adds frame old.given new.given → Counts old.faults new.faults (io.Done ≡ io.Failed) → SameFeed old new → GivesFrame frame write.Done old new
given_whole frame old new adds count same =
    (frame, refl, record { given_on = adds; count = record { later = count.later; rose = λ failed. absurd failed }; same = same })

pub given_front : (frame : List ℕ) (old new : FeedTold) → AddsFront frame old.given new.given → Counts old.faults new.faults (io.Failed ≡ io.Failed) → SameFeed old new → GivesFrame frame write.FeedFault old new
given_front frame old new adds count same =
    let f = front_adds frame old.given new.given adds in
    (f.0, f.1, record { given_on = f.2; count = record { later = count.later; rose = λ failed. count.rose refl }; same = same })

gave_none : (told : FeedTold) → Gave [] ⊥ told told
gave_none told = record { given_on = adds_none told.given told.given refl; count = record { later = omega arith; rose = λ failed. absurd failed }; same = refl }

-- ---- Launch

-- the room was emptied, and then the command was started, or not
module _ {D T C : Type 0} where
  opens : (line : ℕ) (command : Command) (r : Result (Opened D T C) NoMemory) (calls : List BerthCall) → StartDone line command r calls → LaunchDone line command r (call.Clear [] io.Done ∷ calls)
  opens line command (Ok (opened.Line feed tap child)) calls h = ap (λ (cs : List BerthCall). call.Clear [] io.Done ∷ cs) h
  opens line command (Ok opened.RoomFault) calls h = absurd h
  opens line command (Ok opened.LaunchFault) calls h = ap (λ (cs : List BerthCall). call.Clear [] io.Done ∷ cs) h
  opens line command (Err e) calls h = ap (λ (cs : List BerthCall). call.Clear [] io.Done ∷ cs) h

  pub launch_then : (line : ℕ) (command : Command) (r : Result (Opened D T C) NoMemory) (old mid new : BerthTold) → Adds (call.Clear [] io.Done ∷ []) old.log mid.log → Counts old.faults mid.faults (io.Done ≡ io.Failed) → SameBerth old mid → Starts line command r mid new → Launches line command r old new
  launch_then line command r old mid new log count same second = (
    call.Clear [] io.Done ∷ second.0,
    opens line command r second.0 second.1,
    made_on (call.Clear [] io.Done ∷ []) second.0 (io.Done ≡ io.Failed) (NotOpened r) old mid new (record { log = log; count = count; same = same }) second.2,
  )

-- ---- Send

-- memory ran out
pub send_cut : (asks : List Asked) (frame : List ℕ) (e : NoMemory) (old new : BerthTold) (feed : FeedTold) → MakesRun Cut asks old new → Sends asks frame (Err e) old new feed feed
send_cut asks frame e old new feed h = (h.0, [], (h.1, refl), h.2, gave_none feed)

-- the room could not be made ready
pub send_stopped : (asks : List Asked) (frame : List ℕ) (old new : BerthTold) (feed : FeedTold) → MakesRun Stopped asks old new → Sends asks frame (Ok write.RoomFault) old new feed feed
send_stopped asks frame old new feed h = (h.0, [], (h.1, refl), h.2, gave_none feed)

-- the room is ready, and the frame was given, or a front of it
pub send_given : (asks : List Asked) (frame : List ℕ) (how : Written) (old new : BerthTold) (before after : FeedTold) → MakesRun Whole asks old new → GivesFrame frame how before after → Sends asks frame (Ok how) old new before after
send_given asks frame write.Done old new before after ready g = (ready.0, g.0, (ready.1, g.1), ready.2, g.2)
send_given asks frame write.FeedFault old new before after ready g = (ready.0, g.0, (ready.1, g.1), ready.2, g.2)
send_given asks frame write.RoomFault old new before after ready g = absurd g.1
send_given asks frame write.TooLarge old new before after ready g = absurd g.1
