-- A stream of lines: each ends with a line feed, and blank ones are left out.
use Rattle.std.specs.Prelude.{◌≡◌, ℕ, ◌+◌, ◌-◌, ◌≤◌, ◌<◌, ◌==◌, ◌||◌, Bool, not, List, [], length, take, drop, nat_lt, if◌then◌else◌}
use Rattle.std.specs.List.{filter, list_all, prefix_len}
use Rattle.delimited_framing.specs.declared.frame.FrameFault.{FrameFault}
use Rattle.delimited_framing.specs.declared.frame.FrameFault.TheVariants.{TooLong}
use Rattle.delimited_framing.specs.Front.{Front, Whole, Unfinished, Bad, HoldsBy, Form, FramesOf, FaultOf}
use Rattle.json_framing.specs.declared.line.Found.{Found}
use Rattle.json_framing.specs.declared.line.Found.TheVariants as found

-- how many bytes stand before the first line feed, or before the end
abbrev pub line_length : List ℕ → ℕ
line_length bytes = prefix_len (λ b. not (b == 10)) bytes

-- The line at the front, without its line feed, and what is behind it. One of too many bytes is a
-- fault, with or without its line feed.
unfoldable pub line_at : ℕ → List ℕ → Front
line_at limit bytes =
    if nat_lt limit (line_length bytes) then Bad (TooLong (limit + 1))
    else if nat_lt (line_length bytes) (length bytes)
    then Whole (take (line_length bytes) bytes) (drop (line_length bytes + 1) bytes)
    else Unfinished

-- nothing but spaces, tabs and carriage returns
abbrev pub is_blank : List ℕ → Bool
is_blank line = list_all (λ b. b == 32 || (b == 9 || b == 13)) line

abbrev pub says_something : List ℕ → Bool
says_something line = not (is_blank line)

-- the stream is lines, of which these aren't blank, and then the rest
abbrev pub Holds : ℕ → List ℕ → List (List ℕ) → List ℕ → Type 0
Holds limit stream lines rest = (all : List (List ℕ)) × HoldsBy (line_at limit) stream all rest
    × (lines ≡ filter says_something all)

-- lines that aren't blank
abbrev pub line_form : Form
line_form = record { front = line_at; Holds = Holds }

-- the stream is these lines and blank ones, and then less than a whole one
abbrev pub Lines : List ℕ → ℕ → List (List ℕ) → List ℕ → Type 0
Lines stream limit lines rest = FramesOf line_form stream limit lines rest

-- after these lines and blank ones stands one that is too long
abbrev pub LinesBad : List ℕ → ℕ → List (List ℕ) → FrameFault → Type 0
LinesBad stream limit lines fault = FaultOf line_form stream limit lines fault

-- blank lines stand before the rest
abbrev pub Skips : ℕ → List ℕ → List ℕ → Type 0
Skips limit bytes rest = Holds limit bytes [] rest

-- what was found is what stands behind the blank lines
abbrev pub IsLineAt : ℕ → List ℕ → Found → Type 0
IsLineAt limit bytes (found.Whole start end) =
    Skips limit bytes (drop start bytes)
    × (line_at limit (drop start bytes) ≡ Whole (take (end - start) (drop start bytes))
    (drop (end + 1) bytes))
    × (says_something (take (end - start) (drop start bytes)) ≡ Bool.true)
    × (start ≤ end) × (end < length bytes)
IsLineAt limit bytes (found.Unfinished start) =
    Skips limit bytes (drop start bytes) × (line_at limit (drop start bytes) ≡ Unfinished)
    × (start ≤ length bytes)
IsLineAt limit bytes (found.TooLong start n) =
    Skips limit bytes (drop start bytes) × (line_at limit (drop start bytes) ≡ Bad (TooLong n))
    × (n ≡ limit + 1) × (start ≤ length bytes)
