-- What holds of some of the numbers below n, and lists that grow at their end.
use Rattle.std.proofs.Common.{◌≡◌, ℕ, zero, suc, ◌+◌, ◌<◌, nat_lt, Bool, true, false, ◌||◌, ◌∷◌, [], ◌++◌, refl, ap, sym, ◌∙◌, arith}
use Rattle.std.proofs.lemmas.Bool.{ltb-true, ltb-false}
use Rattle.exec_journal.proofs.Ruled.{by_bool}
use Rattle.shared_laws.specs.Spoken.{berths_from}

or_true : (b : Bool) → (b || true) ≡ true
or_true true = refl
or_true false = refl

-- one of them passes the test, if some does
module _ (test some : ℕ → Bool) (more : (n : ℕ) → some (suc n) ≡ (test n || some n)) where
  pub found : (i n : ℕ) → i < n → test i ≡ true → some n ≡ true
  found i zero lt h = absurd (omega arith)
  found i (suc n) lt h =
      by_bool (nat_lt i n) (λ _. some (suc n) ≡ true)
      (λ yes. more n ∙ ap (λ b. test n || b) (found i n (ltb-true i n yes) h) ∙ or_true (test n))
      (λ no. let ge = ltb-false i n no in let e : n ≡ i = omega arith in
      more n ∙ ap (λ b. b || some n) (ap test e ∙ h))

berths_more : (w n : ℕ) → berths_from w (suc n) ≡ berths_from w n ++ (w + n) ∷ []
berths_more w zero = ap (λ v. v ∷ []) (let e : w ≡ w + 0 = omega arith in e)
berths_more w (suc n) = ap (λ vs. w ∷ vs) (berths_more (suc w) n
    ∙ ap (λ v. berths_from (suc w) n ++ v ∷ []) (let e : suc w + n ≡ w + suc n = omega arith in e))

pub berths_next : (n : ℕ) → berths_from 0 n ++ n ∷ [] ≡ berths_from 0 (n + 1)
berths_next n =
    ap (λ v. berths_from 0 n ++ v ∷ []) (let e : n ≡ 0 + n = omega arith in e)
    ∙ sym (berths_more 0 n) ∙ ap (berths_from 0) (let e : suc n ≡ n + 1 = omega arith in e)
