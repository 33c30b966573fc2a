-- Which groups are starved by the tables are so by the journal.
use Rattle.std.proofs.Common.{◌≡◌, ℕ, zero, suc, ◌+◌, nat_lt, Bool, true, false, ◌&&◌, ◌||◌, not, cond, List, [], ◌∷◌, length, Option, Some, None, is_some, refl, ap, sym, ◌∙◌, arith}
use Rattle.std.specs.List.{filter, list_any}
use Rattle.std.proofs.lemmas.Bool.{lt-ltb}
use Rattle.exec_journal.specs.declared.attempt.Attempt.{Attempt}
use Rattle.exec_journal.specs.Entry.{Entry}
use Rattle.exec_journal.specs.Seated.{line_kind}
use Rattle.exec_journal.specs.Settled.{earliest, has_room}
use Rattle.exec_journal.specs.Words.{last_line, live}
use Rattle.exec_journal.proofs.Ruled.{by_bool}
use Rattle.journal_laws.proofs.Vacant.{is_done_line, done_not_live}
use Rattle.ready_order.specs.Queue.{earliest_in}
use Rattle.ready_order.specs.Stands.{branch_of}
use Rattle.ready_order.proofs.Earliest.{search_is}
use Rattle.ready_order.proofs.Queued.{earliest_is}
use Rattle.core_state.specs.declared.state.State.{State}
use Rattle.core_laws.specs.Stands.{Stands}
use Rattle.earliest_first.specs.Choices as choices
use Rattle.placed_rules.specs.declared.pools.SharedPlan.{SharedPlan}
use Rattle.placed_rules.specs.declared.pools.SharedPool.{SharedPool}
use Rattle.placed_rules.specs.Needs as needs
use Rattle.placed_rules.specs.Pools.{seats}
use Rattle.shared_laws.specs.Berths as told
use Rattle.shared_laws.proofs.GroupLines.{HeldAt, is_in, is_roomy, is_held_in, roomy_is, held_is}
use Rattle.shared_laws.proofs.LastLines.{passes, count_at, done_not_held}
use Rattle.shared_laws.proofs.LineCounts.{sum_below, sum_same, count_more, count_is}

-- ---- tests of a list, and counts

filter_twice : {X : Type 0} (f g : X → Bool) (xs : List X)
    → filter f (filter g xs) ≡ filter (λ x. g x && f x) xs
filter_twice f g [] = refl
filter_twice f g (x ∷ xs) =
    by_bool (g x) (λ b. filter f (cond b (x ∷ filter g xs) (filter g xs))
    ≡ cond (b && f x) (x ∷ filter (λ y. g y && f y) xs) (filter (λ y. g y && f y) xs))
    (λ _. ap (λ ys. cond (f x) (x ∷ ys) ys) (filter_twice f g xs)) (λ _. filter_twice f g xs)

some_more : (b : Bool) (n : ℕ) → (b || nat_lt 0 n) ≡ nat_lt 0 (cond b 1 0 + n)
some_more true n = sym (lt-ltb 0 (1 + n) (omega arith))
some_more false n = ap (nat_lt 0) (let e : n ≡ 0 + n = omega arith in e)

any_counts : {X : Type 0} (f : X → Bool) (xs : List X)
    → list_any f xs ≡ nat_lt 0 (length (filter f xs))
any_counts f [] = refl
any_counts f (x ∷ xs) =
    ap (λ b. f x || b) (any_counts f xs) ∙ some_more (f x) (length (filter f xs))
    ∙ ap (nat_lt 0) (sym (count_more f x xs))

-- ---- what is queued

some_branch : (o : Option Attempt) → is_some (branch_of o) ≡ is_some o
some_branch None = refl
some_branch (Some t) = refl

module _ (q : SharedPlan) (s : State) (j : List Entry) (st : Stands q.plan (seats q) s j) where
  queued_some : (g : ℕ) → is_some (earliest_in s.ready g) ≡ is_some (earliest q.plan j g)
  queued_some g =
      ap is_some (earliest_is q.plan s.ready j g (earliest_in s.ready g) st.ready
      (search_is s.ready g))
      ∙ some_branch (earliest q.plan j g)

  -- so many lines pass a test as berths whose last line does
  counted : (test : ℕ → Bool) → ((l : ℕ) → is_done_line j l ≡ true → test l ≡ false)
      → length (filter (λ (x : ℕ × ℕ). test x.1) (needs.all_lines j))
      ≡ sum_below (λ w. cond (passes test (last_line j w)) 1 0) (seats q)
  counted test fails =
      count_is test j (seats q) st.seated
      ∙ sum_same _ _ (seats q) (λ w _. count_at q.plan j st.lawful test fails w)

  -- ---- which groups have no free place

  some_sums : (g n : ℕ) → told.some_free s g n ≡ nat_lt 0
      (sum_below (λ w. cond (told.is_of_group s g w && choices.has_room s.pool w) 1 0) n)
  some_sums g zero = refl
  some_sums g (suc n) =
      ap (λ b. (told.is_of_group s g n && choices.has_room s.pool n) || b) (some_sums g n)
      ∙ some_more (told.is_of_group s g n && choices.has_room s.pool n) _

  done_full : (g l : ℕ) → is_done_line j l ≡ true → is_roomy q.plan j g l ≡ false
  done_full g l done =
      by (is_in q.plan j g l) (live j l) _ (done_not_live q.plan j l st.lawful done)
    where
      by : (a b c : Bool) → b ≡ false → (a && (b && c)) ≡ false
      by true b c h = ap (λ x. x && c) h
      by false b c h = refl

  pub free_is_told : (g : ℕ) → not (told.some_free s g (seats q)) ≡ needs.none_free q j g
  free_is_told g = ap not (some_sums g (seats q)
      ∙ ap (nat_lt 0) (sum_same _ _ (seats q)
      (λ w lt. ap (λ b. cond b 1 0) (roomy_is q.plan (seats q) s j st w lt g))
      ∙ sym (counted (is_roomy q.plan j g) (done_full g))
      ∙ ap length (sym (filter_twice (λ (x : ℕ × ℕ). has_room q.plan j (line_kind q.plan j x.1) x.1)
      (needs.is_in_group q j g) (needs.all_lines j))))
      ∙ sym (any_counts (λ (x : ℕ × ℕ). has_room q.plan j (line_kind q.plan j x.1) x.1)
      (needs.lines_in_group q j g)))

  -- ---- how many lines they hold

  done_gone : (g l : ℕ) → is_done_line j l ≡ true → is_held_in q.plan j g l ≡ false
  done_gone g l done = by (is_in q.plan j g l) (done_not_held j l done)
    where
      by : (a : Bool) → needs.is_held j l ≡ false → (a && needs.is_held j l) ≡ false
      by true h = h
      by false h = refl

  held_sums : (g n : ℕ) → told.lines_held s g n
      ≡ sum_below (λ w. cond (told.is_of_group s g w && told.holds s w) 1 0) n
  held_sums g zero = refl
  held_sums g (suc n) =
      ap (λ m. cond (told.is_of_group s g n && told.holds s n) 1 0 + m) (held_sums g n)

  pub held_is_told : HeldAt s j → (g : ℕ)
      → told.lines_held s g (seats q) ≡ needs.lines_held q j g
  held_is_told at g =
      held_sums g (seats q)
      ∙ sum_same _ _ (seats q)
      (λ w lt. ap (λ b. cond b 1 0) (held_is q.plan (seats q) s j st w lt at g))
      ∙ sym (counted (is_held_in q.plan j g) (done_gone g))
      ∙ ap length (sym (filter_twice (λ (x : ℕ × ℕ). needs.is_held j x.1)
      (needs.is_in_group q j g) (needs.all_lines j)))

  pub starved_is_told : HeldAt s j → (pool : SharedPool) (g : ℕ)
      → told.is_starved q s pool g ≡ needs.is_starved q None j pool g
  unfolding needs.is_starved
  starved_is_told at pool g = λ i. queued_some g i
      && (free_is_told g i && nat_lt (held_is_told at g i) (needs.most_lines q pool g))
