-- A berth with room among some is found.
use Rattle.std.proofs.Common.{◌≡◌, ℕ, zero, suc, ◌+◌, ◌<◌, nat_lt, Bool, true, false, ◌||◌, refl, ap, ◌∙◌, arith}
use Rattle.exec_journal.proofs.Ruled.{by_bool}
use Rattle.std.proofs.lemmas.Bool.{ltb-true, ltb-false}
use Rattle.worker_pool.specs.Rows.{Facts}
use Rattle.earliest_first.specs.Choices.{has_room, some_room}

or_true : (b : Bool) → (b || true) ≡ true
or_true true = refl
or_true false = refl

pub found_room : (f : Facts) (w i n : ℕ) → i < n → has_room f (w + i) ≡ true
    → some_room f w n ≡ true
found_room f w i zero lt h = absurd (omega arith)
found_room f w i (suc n) lt h =
    by_bool (nat_lt i n) (λ _. some_room f w (suc n) ≡ true)
    (λ yes. ap (λ b. has_room f (w + n) || b) (found_room f w i n (ltb-true i n yes) h)
    ∙ or_true (has_room f (w + n)))
    (λ no. let ge = ltb-false i n no in let e : n ≡ i = omega arith in
    ap (λ b. b || some_room f w n) (ap (λ m. has_room f (w + m)) e ∙ h))
