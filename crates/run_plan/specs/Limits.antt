-- How large a plan may be.
use Rattle.std.specs.Prelude.{ℕ}

abbrev pub most_actions : ℕ
most_actions = 4096

-- the berths of all groups together
abbrev pub most_berths : ℕ
most_berths = 64

-- the berths of all worker keys of a list together, and its keys where each has a berth
abbrev pub most_local_berths : ℕ
most_local_berths = 48

-- the berths of the executor
abbrev pub most_remote_berths : ℕ
most_remote_berths = 16

-- the attempts of a branch
abbrev pub most_attempts : ℕ
most_attempts = 10
