-- Lengths that calls of tables keep.
use Rattle.std.proofs.Common.{◌≡◌, ℕ, length, refl, ℤ, pos, negsuc}
use Rattle.request_table.specs.Rows.{Facts, with_answer, answered_row}
use Rattle.request_table.proofs.Lists.{update_length}

pub heard_length : (f : Facts) (l : ℕ) (n : ℤ) → length (with_answer f l n).lines ≡ length f.lines
heard_length f l (pos n) = update_length (answered_row n) f.lines l
heard_length f l (negsuc n) = refl
