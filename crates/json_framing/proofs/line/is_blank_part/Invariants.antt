use Rattle.std.proofs.Common.{◌≡◌, drop}
use Rattle.json_framing.specs.Lines.{is_blank}
use Rattle.json_framing.proofs.line.is_blank_part.Given as goal

abbrev pub invariant-loop-byte : goal.invariant-loop-byte
invariant-loop-byte l = is_blank l.part ≡ is_blank (drop l.byte-index l.part)
