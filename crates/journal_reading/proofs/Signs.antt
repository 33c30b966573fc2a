-- Numbers with and without a minus sign.
use Rattle.std.proofs.Common.{◌≡◌, ℕ, ◌==◌, ℤ, get_or, Bool, true, false, cond, drop, List, Some, None, refl}
use Rattle.std.specs.Float.{Float}
use Rattle.fast_float.specs.Text.{Parts, scan}
use Rattle.serde_json.specs.Data.{float, negative}
use Rattle.serde_json.specs.Read.{number_from, number_of}
use Rattle.journal_reading.specs.Pulls.{count_as}

pub number_of-minus : (s : List ℕ) → (get_or s 0 0 == 45) ≡ true → number_of s ≡ number_from true (scan (drop 1 s))
unfolding number_of
number_of-minus s e = rw e refl

pub number_of-plain : (s : List ℕ) → (get_or s 0 0 == 45) ≡ false → number_of s ≡ number_from false (scan s)
unfolding number_of
number_of-plain s e = rw e refl

none_by : (b c : Bool) (z : ℤ) (x : Float) → count_as (cond b (Some (negative z)) (cond c (Some (float x)) None)) ≡ None
none_by true c z x = refl
none_by false true z x = refl
none_by false false z x = refl

-- what has a minus sign is no count
pub no_count : (p : Parts) → count_as (number_from true p) ≡ None
no_count p = none_by _ _ _ _
