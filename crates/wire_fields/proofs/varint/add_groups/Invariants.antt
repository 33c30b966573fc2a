use Rattle.std.proofs.Common.{◌≡◌, ◌-◌, ◌*◌, ◌<◌, ◌≤◌, ◌^◌, length, drop}
use Rattle.wire_fields.specs.Varint.{number_at}
use Rattle.wire_fields.proofs.Digits.{above}
use Rattle.wire_fields.proofs.varint.add_groups.Given as goal

abbrev pub invariant-loop-i : goal.invariant-loop-i
invariant-loop-i l = record {
  within : l.i ≤ length l.bytes;
  fits : l.value < 2 ^ (7 * l.i);
  read : above l.value (2 ^ (7 * l.i)) (number_at (9 - l.i) (drop l.i l.bytes)) ≡ number_at 9 l.bytes;
}
