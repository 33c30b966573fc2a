-- The order of a list of berths, and what it is once one of them is moved to its end.
use Rattle.std.proofs.Common.{◌≡◌, ℕ, zero, suc, ◌+◌, ◌<◌, ◌≤◌, ◌==◌, nat_lt, Bool, true, false, ◌&&◌, ◌||◌, not, cond, List, [], ◌∷◌, ◌++◌, refl, sym, ap, ◌∙◌, arith}
use Rattle.std.specs.List.{filter}
use Rattle.std.proofs.lemmas.Bool.{eqb-true, eq-eqb, ne_eqb, ltb-true, ltb-false, or_left, or_right}
use Rattle.exec_journal.proofs.Ruled.{by_bool}
use Rattle.journal_laws.proofs.Claims.{clash, false_by}
use Rattle.shared_laws.specs.Spoken.{berths_from, is_before, moved}

-- it stands in the list
abbrev pub is_among : ℕ → List ℕ → Bool
is_among v [] = false
is_among v (x ∷ xs) = (x == v) || is_among v xs

pub flip : (x y : ℕ) → (x == y) ≡ false → (y == x) ≡ false
flip x y apart = false_by _ (λ h. clash (x == y) (eq-eqb x y (sym (eqb-true y x h))) apart)

-- what equals one of two that differ isn't the other
other : (x u v : ℕ) → (x == u) ≡ true → (v == u) ≡ false → (x == v) ≡ false
other x u v same apart = false_by _
    (λ h. clash (v == u) (eq-eqb v u (sym (eqb-true x v h) ∙ eqb-true x u same)) apart)

-- ---- of two of which one is there, one stands before the other

pub one_first : (v w : ℕ) (ws : List ℕ) → is_among v ws ≡ true → (v == w) ≡ false
    → is_before v w ws ≡ not (is_before w v ws)
one_first v w [] there apart = absurd (cc)
one_first v w (x ∷ xs) there apart =
    by_bool (x == v) (λ b. (x == v) ≡ b → (b || is_among v xs) ≡ true
    → cond b true (not (x == w) && is_before v w xs)
    ≡ not (cond (x == w) true (not b && is_before w v xs)))
    (λ yes _ _. rw (other x v w yes (flip v w apart)) refl)
    (λ _ _ more. by_bool (x == w) (λ b. (not b && is_before v w xs)
    ≡ not (cond b true (is_before w v xs))) (λ _. refl)
    (λ _. one_first v w xs more apart)) refl there

-- ---- it is there where it stands before each other

pub before_among : (v w : ℕ) (ws : List ℕ) → is_before v w ws ≡ true → is_among v ws ≡ true
before_among v w [] h = absurd (cc)
before_among v w (x ∷ xs) h =
    by_bool (x == v) (λ b. cond b true (not (x == w) && is_before v w xs) ≡ true
    → (b || is_among v xs) ≡ true) (λ _ _. refl)
    (λ _ g. before_among v w xs (rest (not (x == w)) (is_before v w xs) g)) h
  where
    rest : (a b : Bool) → (a && b) ≡ true → b ≡ true
    rest true b h = h
    rest false b h = absurd (cc)

-- more than each of them
abbrev above : List ℕ → ℕ
above [] = 0
above (x ∷ xs) = suc (x + above xs)

none_before : (n w : ℕ) (ws : List ℕ) → above ws ≤ n → is_before n w ws ≡ false
none_before n w [] le = refl
none_before n w (x ∷ xs) le =
    rw (ne_eqb x n (λ e. omega (arith, le, e)), none_before n w xs (omega (arith, le)))
    (left (not (x == w)))
  where
    left : (b : Bool) → (b && false) ≡ false
    left true = refl
    left false = refl

pub all_among : (w : ℕ) (ws : List ℕ)
    → ((x : ℕ) → (w == x) ≡ false → is_before w x ws ≡ not (is_before x w ws))
    → is_among w ws ≡ true
all_among w ws each =
    let n = suc (w + above ws) in
    let last = none_before n w ws (omega arith) in
    before_among w n ws (each n (ne_eqb w n (λ e. omega (arith, e))) ∙ ap not last)

-- ---- the berths in the order of their numbers

pub all_from : (w n v : ℕ) → w ≤ v → v < w + n → is_among v (berths_from w n) ≡ true
all_from w zero v le lt = absurd (omega (arith, le, lt))
all_from w (suc n) v le lt =
    by_bool (nat_lt w v) (λ b. nat_lt w v ≡ b → is_among v (berths_from w (suc n)) ≡ true)
    (λ _ more. or_right (w == v) _ (let up = ltb-true w v more in
    all_from (suc w) n v (omega (arith, up)) (omega (arith, lt))))
    (λ _ no. or_left (w == v) _ (let down = ltb-false w v no in
    eq-eqb w v (omega (arith, le, down)))) refl

-- ---- one that is moved

module _ (u : ℕ) where
  -- stands behind each other that is there
  pub moved_last : (w : ℕ) (ws : List ℕ) → (w == u) ≡ false
      → is_before w u (moved u ws) ≡ is_among w ws
  moved_last w [] apart = rw (flip w u apart, eq-eqb u u refl) refl
  moved_last w (x ∷ xs) apart =
      by_bool (x == u) (λ b. (x == u) ≡ b → is_before w u
      (cond (not b) (x ∷ filter (λ v. not (v == u)) xs) (filter (λ v. not (v == u)) xs) ++ u ∷ [])
      ≡ ((x == w) || is_among w xs))
      (λ yes _. rw (other x u w yes apart) (moved_last w xs apart))
      (λ _ no. rw no (by_bool (x == w) (λ b. cond b true
      (is_before w u (moved u xs)) ≡ (b || is_among w xs)) (λ _. refl)
      (λ _. moved_last w xs apart))) refl

  -- and before those that aren't
  pub moved_first : (w : ℕ) (ws : List ℕ) → (w == u) ≡ false
      → is_before u w (moved u ws) ≡ not (is_among w ws)
  moved_first w [] apart = rw (eq-eqb u u refl) refl
  moved_first w (x ∷ xs) apart =
      by_bool (x == u) (λ b. (x == u) ≡ b → is_before u w
      (cond (not b) (x ∷ filter (λ v. not (v == u)) xs) (filter (λ v. not (v == u)) xs) ++ u ∷ [])
      ≡ not ((x == w) || is_among w xs))
      (λ yes _. rw (other x u w yes apart) (moved_first w xs apart))
      (λ _ no. rw no (by_bool (x == w) (λ b. (not b && is_before u w (moved u xs))
      ≡ not (b || is_among w xs)) (λ _. refl) (λ _. moved_first w xs apart))) refl

  -- the others stand as they did
  pub moved_others : (v w : ℕ) (ws : List ℕ) → (v == u) ≡ false → (w == u) ≡ false
      → is_before v w (moved u ws) ≡ is_before v w ws
  moved_others v w [] off away = rw (flip v u off, flip w u away) refl
  moved_others v w (x ∷ xs) off away =
      by_bool (x == u) (λ b. (x == u) ≡ b → is_before v w
      (cond (not b) (x ∷ filter (λ z. not (z == u)) xs) (filter (λ z. not (z == u)) xs) ++ u ∷ [])
      ≡ cond (x == v) true (not (x == w) && is_before v w xs))
      (λ yes _. rw (other x u v yes off, other x u w yes away) (moved_others v w xs off away))
      (λ _ no. ap (λ b. cond (x == v) true (not (x == w) && b)) (moved_others v w xs off away)) refl

  -- and still one of two stands first
  pub moved_there : (v w : ℕ) (ws : List ℕ) → (v == w) ≡ false
      → ((v == u) ≡ false → (w == u) ≡ false → is_before v w ws ≡ not (is_before w v ws))
      → is_before v w (moved u ws) ≡ not (is_before w v (moved u ws))
  moved_there v w ws apart old =
      by_bool (v == u) (λ b. (v == u) ≡ b → is_before v w (moved u ws)
      ≡ not (is_before w v (moved u ws)))
      (λ _ yes. first (eqb-true v u yes))
      (λ _ off. by_bool (w == u) (λ b. (w == u) ≡ b → is_before v w (moved u ws)
      ≡ not (is_before w v (moved u ws)))
      (λ _ yes. last off (eqb-true w u yes))
      (λ _ away. moved_others v w ws off away ∙ old off away
      ∙ ap not (sym (moved_others w v ws away off))) refl) refl
    where
      twice : (b : Bool) → b ≡ not (not b)
      twice true = refl
      twice false = refl

      first : v ≡ u → is_before v w (moved u ws) ≡ not (is_before w v (moved u ws))
      first same =
          let away : (w == u) ≡ false = flip u w (ap (λ n. n == w) (sym same) ∙ apart) in
          ap (λ n. is_before n w (moved u ws)) same ∙ moved_first w ws away
          ∙ ap not (sym (moved_last w ws away))
          ∙ ap (λ n. not (is_before w n (moved u ws))) (sym same)

      last : (v == u) ≡ false → w ≡ u
          → is_before v w (moved u ws) ≡ not (is_before w v (moved u ws))
      last off same =
          ap (λ n. is_before v n (moved u ws)) same ∙ moved_last v ws off
          ∙ twice (is_among v ws) ∙ ap not (sym (moved_first v ws off))
          ∙ ap (λ n. not (is_before n v (moved u ws))) (sym same)
