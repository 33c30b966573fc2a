-- New tables stand for the empty journal.
use Rattle.std.proofs.Common.{◌≡◌, ℕ, ◌==◌, nat_lt, false, ◌&&◌, map, cond, List, [], length, Option, Some, None, option_map, inl, inr, refl, ap, sym, ◌≤◌, ◌∙◌, arith, lt-ltb}
use Rattle.std.specs.Prelude.{replicate, slice_get, slice_index}
use Rattle.std.proofs.lemmas.List.{length-map}
use Rattle.std.proofs.lemmas.Bool.{le-ltb, ltb-false, ltb-true}
use Rattle.std.proofs.lemmas.Option.{get_or_from_slice_get, slice_get-map, slice_get_cases, slice_get_within}
use Rattle.run_plan.specs.declared.plan.Plan.{Plan}
use Rattle.run_plan.specs.declared.plan.PlanAction.{PlanAction}
use Rattle.run_plan.specs.Sound.{Sound}
use Rattle.exec_journal.specs.Attempts.{attempt}
use Rattle.exec_journal.proofs.Ruled.{by_bool}
use Rattle.list_lemmas.proofs.Updates.{get_replicate}
use Rattle.placed_rules.specs.Due.{ticks_since}
use Rattle.placed_berths.specs.Due.{first_mark, may_wait}
use Rattle.placed_berths.specs.Counts.{Facts, capped}
use Rattle.placed_berths.specs.Stands.{IsHeld, StandsFor}

none_yet : (n : ℕ) → 0 ≡ capped n 0
none_yet n = by_bool (nat_lt 0 n) (λ b. nat_lt 0 n ≡ b → 0 ≡ cond b 0 n) (λ _ _. refl)
    (λ no _. let le = ltb-false 0 n no in omega (arith, le)) refl

abbrev new : Plan → ℕ → Facts
new p n = record {
  ticks = n;
  counts = replicate (length p.actions) 0;
  marks = map (first_mark p n) p.actions;
}

past_none : {X : Type 0} (xs : List X) (a : ℕ) → slice_get xs a ≡ None → length xs ≤ a
past_none xs a none = elim ((slice_get_cases xs a).1) [
  | inl w ↦ absurd (let e = sym none ∙ w.2 in cc)
  | inr w ↦ w.0
]

module _ (p : Plan) (n : ℕ) where
  each_new : (a : ℕ) (o : Option PlanAction) → slice_get p.actions a ≡ o
      → slice_get (replicate (length p.actions) 0) a
      ≡ option_map (λ x. capped n (ticks_since p [] x)) o
  unfolding ticks_since
  each_new a None at =
      get_replicate 0 (length p.actions) a
      ∙ ap (λ b. cond b (Some 0) None)
      (le-ltb a (length p.actions) (past_none p.actions a at))
  each_new a (Some x) at =
      get_replicate 0 (length p.actions) a
      ∙ ap (λ b. cond b (Some 0) None)
      (lt-ltb a (length p.actions) (slice_get_within p.actions a x at))
      ∙ ap Some (none_yet n)

  -- where no Tick came and nothing was begun, an action that may wait is held
  held_new : Sound p → (a : ℕ) (x : PlanAction) → (first_mark p n x == 1) ≡ false
      → IsHeld p n [] a x
  unfolding ticks_since attempt
  held_new sound a x un =
      by_bool (may_wait p x) (λ b. may_wait p x ≡ b
      → (cond (b && nat_lt 0 n) 0 1 == 1) ≡ false → IsHeld p n [] a x)
      (λ waits is here. by_bool (nat_lt 0 n) (λ b. nat_lt 0 n ≡ b → (cond b 0 1 == 1) ≡ false
      → IsHeld p n [] a x)
      (λ some _ _. record {
        waits = waits;
        short = ltb-true 0 n some;
        left = (let least = sound.least in omega (arith, least));
      })
      (λ _ _ clash. absurd (cc)) refl here)
      (λ _ _ clash. absurd (cc)) refl un

  mark_is : (a : ℕ) (x : PlanAction) → slice_get p.actions a ≡ Some x
      → slice_index (map (first_mark p n) p.actions) a ≡ first_mark p n x
  mark_is a x at =
      get_or_from_slice_get (map (first_mark p n) p.actions) a (first_mark p n x) 0
      (slice_get-map (first_mark p n) p.actions a ∙ ap (option_map (first_mark p n)) at)

  pub begun : Sound p → StandsFor p n (new p n) []
  begun sound = record {
    ticks = refl;
    each = λ a. each_new a (slice_get p.actions a) refl;
    size = length-map p.actions (first_mark p n);
    unmarked = λ a x at un. held_new sound a x (ap (λ k. k == 1) (sym (mark_is a x at)) ∙ un);
  }
