-- A stream of frames: the length of each as a number, and then so many bytes.
use Rattle.std.specs.Prelude.{◌≡◌, ℕ, ◌-◌, ◌≤◌, ◌<◌, ◌^◌, List, [], ◌++◌, length, take, drop, Result, Ok, Err, nat_lt, if◌then◌else◌}
use Rattle.std.specs.List.{AllByRecursion, flat_map}
use Rattle.wire_fields.specs.Spelling.{delimited}
use Rattle.wire_fields.specs.Varint.{Fault, CutField, BadVarint, BadTag, BadText, varint_at}
use Rattle.delimited_framing.specs.declared.frame.FrameFault.{FrameFault}
use Rattle.delimited_framing.specs.declared.frame.FrameFault.TheVariants.{TooLong, BadLength}
use Rattle.delimited_framing.specs.declared.frame.Found.{Found}
use Rattle.delimited_framing.specs.declared.frame.Found.TheVariants as found
use Rattle.delimited_framing.specs.Front.{Front, Whole, Unfinished, Bad, HoldsBy, Form, FramesOf, FaultOf}

-- the frame of a length, and the bytes after it
abbrev pub behind : ℕ → ℕ → List ℕ → Front
behind limit n bytes =
    if nat_lt limit n then Bad (TooLong n)
    else if nat_lt (length bytes) n then Unfinished
    else Whole (take n bytes) (drop n bytes)

abbrev pub after_length : ℕ → Result (ℕ × List ℕ) Fault → Front
after_length limit (Ok read) = behind limit read.0 read.1
after_length limit (Err CutField) = Unfinished
after_length limit (Err BadVarint) = Bad BadLength
after_length limit (Err BadTag) = Bad BadLength
after_length limit (Err BadText) = Bad BadLength

unfoldable pub frame_at : ℕ → List ℕ → Front
frame_at limit bytes = after_length limit (varint_at bytes)

-- the stream is these frames, one after the other, and then the rest
abbrev pub Holds : ℕ → List ℕ → List (List ℕ) → List ℕ → Type 0
Holds limit stream frames rest = HoldsBy (frame_at limit) stream frames rest

-- frames behind their lengths
abbrev pub delimited_form : Form
delimited_form = record { front = frame_at; Holds = Holds }

-- the stream is these frames, and then less than a whole one
abbrev pub Frames : List ℕ → ℕ → List (List ℕ) → List ℕ → Type 0
Frames stream limit frames rest = FramesOf delimited_form stream limit frames rest

-- after these frames stands a fault
abbrev pub FramesBad : List ℕ → ℕ → List (List ℕ) → FrameFault → Type 0
FramesBad stream limit frames fault = FaultOf delimited_form stream limit frames fault

-- what was found is what stands at the front
abbrev pub IsFrameAt : ℕ → List ℕ → Found → Type 0
IsFrameAt limit bytes
    (found.Whole start end) = (frame_at limit bytes ≡ Whole (take (end - start) (drop start bytes))
    (drop end bytes)) × (start ≤ end) × (end ≤ length bytes)
IsFrameAt limit bytes found.Unfinished = frame_at limit bytes ≡ Unfinished
IsFrameAt limit bytes (found.Bad fault) = frame_at limit bytes ≡ Bad fault

-- What is written behind its length is read as one frame, and several are read as these.
pub record DelimitedIsRead : Type 0 where
  pub one : (limit : ℕ) (frame rest : List ℕ) → length frame ≤ limit → limit < 2 ^ 64
      → frame_at limit (delimited frame ++ rest) ≡ Whole frame rest
  pub all : (limit : ℕ) (frames : List (List ℕ))
      → AllByRecursion (λ frame. length frame ≤ limit) frames → limit < 2 ^ 64
      → Frames (flat_map delimited frames) limit frames []
