use Rattle.lane_laws.proofs.Leaving.{ends_take}
use Rattle.lane_laws.proofs.taken_lines_have_taps.Goals as goal

pub returns : goal.returns
returns c = λ s lane halted taps own ends. ends_take s lane halted taps own ends
