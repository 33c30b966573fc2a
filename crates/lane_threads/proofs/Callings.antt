-- A call that is made again.
use Rattle.std.proofs.Common.{◌≡◌, ℕ, ◌==◌, cond, List, [], ◌∷◌, ◌++◌, Bool, true, false, Option, refl, sym, ◌∙◌, ap, subst, append_assoc, append-nil}
use Rattle.seat_desk.specs.declared.machine.Machine.{Ghosts}
use Rattle.plain_values.specs.declared.entry.Entry.{Entry}
use Rattle.seat_desk.specs.declared.desk.Pass.{Pass}
use Rattle.seat_desk.specs.History.{entry, calls_by, after, GoesOn, StandsUnder}
use Rattle.seat_desk.specs.Desks.{Answers}
use Rattle.seat_desk.specs.Passes.{IsSamePass, MakesCall, MakesNoCall, mine, basis, seen}

module _ {C R : Type 0} where
  none_of_both : (b : Bool) (x : Entry C R) (xs ys : List (Entry C R)) → cond b (x ∷ xs) xs ≡ [] → (xs ≡ [] → ys ≡ []) → cond b (x ∷ ys) ys ≡ []
  none_of_both true x xs ys e f = absurd (cc)
  none_of_both false x xs ys e f = f e

  calls_of_both : (lane : ℕ) (xs ys : List (Entry C R)) → calls_by lane xs ≡ [] → calls_by lane ys ≡ [] → calls_by lane (xs ++ ys) ≡ []
  calls_of_both lane [] ys e f = f
  calls_of_both lane (x ∷ xs) ys e f = none_of_both (lane == x.lane) x (calls_by lane xs) (calls_by lane (xs ++ ys)) e (λ h. calls_of_both lane xs ys h f)

  pub goes_further : (lane : ℕ) (a b c : List (Entry C R)) → GoesOn lane a b → GoesOn lane b c → GoesOn lane a c
  goes_further lane a b c x y =
      (x.0 ++ y.0, y.1 ∙ (ap (λ (xs : List (Entry C R)). xs ++ y.0) x.1 ∙ append_assoc a x.0 y.0), calls_of_both lane x.0 y.0 x.2 y.2)

  pub goes_nowhere : (lane : ℕ) (a : List (Entry C R)) → GoesOn lane a a
  goes_nowhere lane a = ([], sym (append-nil a), refl)

module _ {M C R G Q : Type 0} {g : Ghosts M C R G Q} where
  -- so far no call was kept
  abbrev pub NothingKept : Pass M C R G Q g → Pass M C R G Q g → Type 0
  NothingKept p p' = IsSamePass p p' × MakesNoCall p p'

  pub called_later : (p p' p2 : Pass M C R G Q g) (c : C) (r : R) (good : Option G) → NothingKept p p' → MakesCall p' c r good p2 → MakesCall p c r good p2
  called_later p p' p2 c r good k call =
      let By : Q → ℕ → Type 0 = λ q n. Answers (StandsUnder g.basis g.stands q) (g.next q) g.short (g.may_be_short q) g.keeps (g.comes_out q) n p'.seat.me.0 c r good p2.seat.me.0 in
      let at : By (basis p) p.lane = subst (λ (n : ℕ). By (basis p) n) k.0.1 (subst (λ (q : Q). By q p'.lane) k.0.2 call) in
      (at.0, goes_further p.lane (seen p) (seen p') at.0 k.1.0 at.1, at.2, (at.3.0, at.3.1 ∙ ap (λ (xs : List (Entry C R)). after g.keeps xs (entry p.lane c r)) k.1.1), at.4, at.5)

  same_later : (p p' p2 : Pass M C R G Q g) → IsSamePass p p' → IsSamePass p' p2 → IsSamePass p p2
  same_later p p' p2 x y = (y.0 ∙ x.0, y.1 ∙ x.1, y.2 ∙ x.2)

  pub not_kept : (p p' p2 : Pass M C R G Q g) (c : C) (r : R) (good : Option G) → NothingKept p p' → IsSamePass p' p2 → MakesCall p' c r good p2
      → g.keeps (entry p.lane c r) ≡ false → NothingKept p p2
  not_kept p p' p2 c r good k same call kept =
      let at = called_later p p' p2 c r good k call in
      let stays : (xs : List (Entry C R)) → after g.keeps xs (entry p.lane c r) ≡ xs = λ xs. ap (λ (b : Bool). cond b (xs ++ entry p.lane c r ∷ []) xs) kept in
      (same_later p p' p2 k.0 same, ((at.1.0, (at.3.0 ∙ stays at.0) ∙ at.1.1, at.1.2), at.3.1 ∙ stays (mine p)))

  pub refused_later : (p p' p2 : Pass M C R G Q g) → NothingKept p p' → MakesNoCall p' p2 → MakesNoCall p p2
  refused_later p p' p2 k none =
      (goes_further p.lane (seen p) (seen p') (seen p2) k.1.0 (subst (λ (n : ℕ). GoesOn n (seen p') (seen p2)) k.0.1 none.0), none.1 ∙ k.1.1)

  -- the same of another name for the call
  pub called_so : (p p' p2 : Pass M C R G Q g) (c d : C) (r : R) (good : Option G) → NothingKept p p' → c ≡ d → MakesCall p' c r good p2 → MakesCall p d r good p2
  called_so p p' p2 c d r good k e call = subst (λ (x : C). MakesCall p x r good p2) e (called_later p p' p2 c r good k call)
