use Rattle.std.proofs.Common.{◌≡◌, ◌+◌, drop}
use Rattle.journal_replay.specs.Fronts.{digits}
use Rattle.journal_replay.proofs.front.digits.Given as goal

abbrev pub invariant-loop-at : goal.invariant-loop-at
invariant-loop-at l = digits l.text ≡ l.at + digits (drop l.at l.text)
