use Rattle.std.proofs.Common.{◌≡◌, true, drop}
use Rattle.path_rules.specs.Paths.{is_plain_from}
use Rattle.path_rules.proofs.has_plain_segments.Given as goal

abbrev pub invariant-loop-byte : goal.invariant-loop-byte
invariant-loop-byte l = is_plain_from true l.bytes ≡ is_plain_from l.begins (drop l.byte-index l.bytes)
