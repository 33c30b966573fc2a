use Rattle.std.proofs.Common.{◌≡◌, drop}
use Rattle.json_messages.specs.Values.{all_digits}
use Rattle.json_messages.proofs.values.all_digits.Given as goal

abbrev pub invariant-loop-digit : goal.invariant-loop-digit
invariant-loop-digit l = all_digits l.digits ≡ all_digits (drop l.digit-index l.digits)
