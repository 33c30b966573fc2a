use Rattle.std.proofs.Common.{◌≡◌, ◌+◌, ◌-◌, ◌*◌, ◌<◌, ◌≤◌, ◌^◌, length}
use Rattle.wire_fields.specs.Varint.{number_bytes}
use Rattle.wire_fields.proofs.varint.varint_length.Given as goal

abbrev pub invariant-loop-rest : goal.invariant-loop-rest
invariant-loop-rest l = record {
  some : 0 < l.length;
  within : l.length ≤ 10;
  fits : l.rest < 2 ^ (64 - 7 * (l.length - 1));
  so_far : l.length - 1 + length (number_bytes (10 - l.length) l.rest) ≡ length (number_bytes 9 l.value);
}

abbrev pub decreases-loop-rest : goal.decreases-loop-rest
decreases-loop-rest l = l.rest
