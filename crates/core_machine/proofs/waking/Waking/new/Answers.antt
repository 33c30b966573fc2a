use Rattle.std.proofs.lemmas.Nat.Bits.{bit_at-zero}
use Rattle.core_machine.proofs.Wakings.{no_last}
use Rattle.core_machine.proofs.waking.Waking.new.Goals as goal

pub returns : goal.returns
returns c = λ q. record {
  near = λ lane _ _. bit_at-zero lane;
  far = λ k _. bit_at-zero k;
  stirred = λ before e is. absurd (no_last before e is);
}
