-- Some live line of a group has a free place exactly where the last line of some berth of it has.
use Rattle.std.proofs.Common.{◌≡◌, ℕ, zero, suc, ◌+◌, ◌/◌, ◌<◌, ◌≤◌, nat_lt, Bool, true, false, ◌&&◌, ◌||◌, cond, List, [], ◌∷◌, Option, Some, None, inl, inr, refl, ap, sym, subst, ◌∙◌, arith}
use Rattle.std.specs.Prelude.{option_and_then}
use Rattle.std.specs.List.{list_any}
use Rattle.run_plan.specs.declared.plan.Kind.{Kind}
use Rattle.run_plan.specs.declared.plan.Plan.{Plan}
use Rattle.exec_journal.specs.declared.attempt.Attempt.{Attempt}
use Rattle.exec_journal.specs.Entry.{Entry}
use Rattle.exec_journal.specs.Facts.{NameTheirLines, OfBerth, IsOfBerth}
use Rattle.list_lemmas.specs.Options.{or_else, and_more}
use Rattle.exec_journal.specs.History.{latest, each}
use Rattle.run_plan.specs.Groups.{kind_of}
use Rattle.exec_journal.specs.Seated.{line_kind}
use Rattle.exec_journal.specs.Settled.{free_places, has_room, some_free}
use Rattle.exec_journal.specs.Words.{last_line, lines_of, line_at, live, launch_of}
use Rattle.exec_journal.proofs.Lines.{last_line_own}
use Rattle.exec_journal.proofs.Ruled.{by_bool}
use Rattle.worker_pool.specs.Rows as pool
use Rattle.worker_pool.specs.Stands as pools
use Rattle.worker_pool.proofs.Answered.{live_is, free_is}
use Rattle.earliest_first.specs.Choices as choices
use Rattle.table_laws.specs.Moments.{JournalFacts, Among}

module _ (p : Plan) (seats : ℕ) (f : pool.Facts) (j : List Entry) (st : pools.Stands p seats f j)
    (names : NameTheirLines j) (facts : JournalFacts p j)
    (kind_is : (w l : ℕ) → last_line j w ≡ Some l → kind_of p w ≡ line_kind p j l) where
  -- the newest of the lines is the last line
  none_at : (o q : Option ℕ) (ls : List ℕ) → (q ≡ None → ls ≡ []) → or_else o q ≡ None
      → and_more o ls ≡ []
  none_at None q ls rest g = rest g
  none_at (Some l) q ls rest g = absurd (cc)

  none_from : (w : ℕ) (k : List Entry) → latest (λ _ e. line_at w e) k ≡ None
      → each (λ _ e. line_at w e) k ≡ []
  none_from w [] h = refl
  none_from w (e ∷ k) h = none_at (line_at w e) (latest (λ _ d. line_at w d) k)
      (each (λ _ d. line_at w d) k) (none_from w k) h

  last_first : (w : ℕ) → last_line j w ≡ None → lines_of j w ≡ []
  unfolding last_line lines_of
  last_first w h = none_from w j h

  some_at : (l : ℕ) (o q : Option ℕ) (ls : List ℕ) → (q ≡ Some l → Among l ls)
      → or_else o q ≡ Some l → Among l (and_more o ls)
  some_at l None q ls rest g = rest g
  some_at l (Some m) q ls rest g = let e : l ≡ m = cc in inl e

  some_from : (w l : ℕ) (k : List Entry) → latest (λ _ e. line_at w e) k ≡ Some l
      → Among l (each (λ _ e. line_at w e) k)
  some_from w l [] h = absurd (cc)
  some_from w l (e ∷ k) h = some_at l (line_at w e) (latest (λ _ d. line_at w d) k)
      (each (λ _ d. line_at w d) k) (some_from w l k) h

  last_among : (w l : ℕ) → last_line j w ≡ Some l → Among l (lines_of j w)
  unfolding last_line lines_of
  last_among w l h = some_from w l j h

  -- where no other one is live, a test that asks for that is the test of the last
  left : (a b : Bool) → (a && b) ≡ true → a ≡ true
  left true b h = refl
  left false b h = absurd (cc)

  none_any : (k : Kind) (l : ℕ) (ns : List ℕ) → ((n : ℕ) → Among n ns → live j n ≡ true → n ≡ l)
      → has_room p j k l ≡ false → list_any (has_room p j k) ns ≡ false
  none_any k l [] o h = refl
  none_any k l (n ∷ ns) o h =
      by_bool (has_room p j k n) (λ b. has_room p j k n ≡ b
      → (b || list_any (has_room p j k) ns) ≡ false)
      (λ yes g. let s = o n (inl refl) (left (live j n) _ g) in
      absurd (let x = sym g ∙ ap (has_room p j k) s ∙ h in cc))
      (λ no g. none_any k l ns (λ i a. o i (inr a)) h) refl

  any_last : (k : Kind) (l : ℕ) (ls : List ℕ) → ((m : ℕ) → Among m ls → live j m ≡ true → m ≡ l)
      → Among l ls → list_any (has_room p j k) ls ≡ has_room p j k l
  any_last k l [] only here = absurd here
  any_last k l (m ∷ ms) only here =
      by_bool (has_room p j k m) (λ b. has_room p j k m ≡ b
      → (b || list_any (has_room p j k) ms) ≡ has_room p j k l)
      (λ yes e. let alive = left (live j m) _ e in let same = only m (inl refl) alive in
      sym e ∙ ap (has_room p j k) same)
      (λ no e. elim here as (λ _. list_any (has_room p j k) ms ≡ has_room p j k l) [
        | inr more ↦ any_last k l ms (λ n a. only n (inr a)) more
        | inl same ↦ none_any k l ms (λ n a. only n (inr a)) (ap (has_room p j k) same ∙ e)
            ∙ sym (ap (has_room p j k) same ∙ e)
      ]) refl

  module _ (w : ℕ) (lt : w < seats) where
    room_some : (l : ℕ) → last_line j w ≡ Some l → choices.line_has_room f
        (option_and_then (λ m. cond (live j m) (Some m) None) (Some l)) ≡ has_room p j
        (kind_of p w) l
    room_some l h = by (live j l) own.owner.1 (own.owner.2, own.owner.3)
      where
        own : IsOfBerth j l w
        own = subst (λ (o : Option ℕ). OfBerth j o w) h (last_line_own w j names)

        by : (b : Bool) (t : Attempt) → (launch_of j l ≡ Some (own.owner.0, t))
            × (own.owner.0 / 2 ≡ w) → choices.line_has_room f (cond b (Some l) None) ≡
            (b && nat_lt 0 (free_places p j (kind_of p w) l))
        by true t e = ap (nat_lt 0) (free_is p seats f j st l own.owner.0 t e.0
            ∙ ap (λ k. free_places p j k l) (sym (kind_is w l h)))
        by false t e = refl

    room_by : (o : Option ℕ) → last_line j w ≡ o → choices.line_has_room f
        (option_and_then (λ l. cond (live j l) (Some l) None) o) ≡ list_any
        (has_room p j (kind_of p w)) (lines_of j w)
    room_by None h = ap (list_any (has_room p j (kind_of p w))) (sym (last_first w h))
    room_by (Some l) h = room_some l h ∙ sym (any_last (kind_of p w) l (lines_of j w)
        (λ m a v. facts.live_last w l h m a v) (last_among w l h))

    pub room_is : choices.has_room f w ≡ list_any (has_room p j (kind_of p w)) (lines_of j w)
    room_is = ap (choices.line_has_room f) (live_is p seats f j st w lt names)
        ∙ room_by (last_line j w) refl

  pub some_is : (k : Kind) (w n : ℕ) → ((v : ℕ) → w ≤ v → v < w + n
      → (v < seats) × (kind_of p v ≡ k)) → choices.some_room f w n ≡ some_free p j k w n
  some_is k w zero all = refl
  some_is k w (suc n) all =
      let at = all (w + n) (omega arith) (omega arith) in
      ap (λ b. b || choices.some_room f w n) (room_is (w + n) at.0
      ∙ ap (λ x. list_any (has_room p j x) (lines_of j (w + n))) at.1)
      ∙ ap (λ b. list_any (has_room p j k) (lines_of j (w + n)) || b)
      (some_is k w n (λ v le below. all v le (omega arith)))
