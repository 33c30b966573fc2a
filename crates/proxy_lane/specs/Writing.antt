-- What is called on a berth for work that is due, and the bytes that are due.
use Rattle.std.specs.Prelude.{◌≡◌, ℤ, List, [], if◌then◌else◌, Result}
use Rattle.plain_values.specs.declared.no_memory.NoMemory.{NoMemory}
use Rattle.run_plan.specs.declared.plan.Speech.{Speech}
use Rattle.exec_journal.specs.declared.attempt.Attempt.{Attempt}
use Rattle.exec_journal.specs.declared.call.Written.{Written}
use Rattle.outside.specs.Told.{BerthTold, FeedTold}
use Rattle.sandbox_rooms.specs.declared.room.Room.{Room}
use Rattle.sandbox_rooms.specs.Calls.{Asked}
use Rattle.sandbox_rooms.specs.Rooms.{prepare_asks}
use Rattle.request_frames.specs.declared.frames.Due.{Due}
use Rattle.request_frames.specs.declared.requests.DueWork.{DueWork}
use Rattle.run_values.specs.Settings.{speaks_remote}
use Rattle.proxy_words.specs.Deeds.{send_asks, due_for}
use Rattle.proxy_laws.specs.Acts.{CancelActs}
use Rattle.proxy_lane.specs.declared.site.Site.{Site}
use Rattle.proxy_lane.specs.Sites.{means_at}

-- the room is made ready, and none for an executor
abbrev pub asks_in : Speech → Room → DueWork → List Asked
asks_in speech room work =
    if speaks_remote speech then [] else prepare_asks room work.action.now.outputs work.inputs.now

-- by the attempt that the work is due for
module _ {R : Type 0} (site : Site R) (t : Attempt) (work : DueWork) where
  abbrev pub asks_of : List Asked
  asks_of = send_asks (means_at site) t work.number work.action.now work.inputs.now

  abbrev pub due_of : Due
  due_of = due_for (means_at site) t work.number work.action.now work.inputs.now

-- the bytes of a Cancel are given to the feed, and nothing is called on the berth
abbrev pub CancelsBy : Speech → ℤ → Result Written NoMemory → BerthTold → BerthTold → FeedTold
    → FeedTold → Type 0
CancelsBy speech n result old new before after = (new ≡ old) × CancelActs speech n result before after
