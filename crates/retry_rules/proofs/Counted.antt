-- How the table's counts follow a journal.
use Rattle.std.proofs.Common.{◌≡◌, ℕ, ◌+◌, ◌-◌, ◌<◌, ◌≤◌, ◌==◌, nat_lt, Bool, true, false, ◌&&◌, not, cond, List, [], ◌∷◌, length, get_or, set, Option, Some, None, option_map, unwrap_or, ◌⊎◌, inl, inr, refl, ap, sym, subst, ◌∙◌, arith}
use Rattle.std.specs.Prelude.{slice_get, replicate}
use Rattle.std.specs.List.{filter}
use Rattle.std.proofs.lemmas.Bool.{eqb-true, and_parts, lt-ltb}
use Rattle.run_plan.specs.declared.plan.Branch.{Branch}
use Rattle.run_plan.specs.declared.plan.Branch.TheVariants.{Local, Remote}
use Rattle.run_plan.specs.declared.plan.Plan.{Plan}
use Rattle.exec_journal.specs.declared.attempt.Attempt.{Attempt}
use Rattle.exec_journal.specs.Entry.{Entry}
use Rattle.exec_journal.specs.Entries.{attempt_of, same_branch, is_branch_of}
use Rattle.exec_journal.specs.Attempts.{attempt, begun_in, number_if, ended}
use Rattle.exec_journal.specs.Attempts as words
use Rattle.exec_journal.specs.Facts.{BeginsNext}
use Rattle.list_lemmas.specs.Places.{update}
use Rattle.exec_journal.proofs.Begins.{same_branch_eq, is_branch_refl, attempt_begun, attempt_other}
use Rattle.exec_journal.proofs.Quiet.{ended_stays}
use Rattle.exec_journal.proofs.Ruled.{by_bool}
use Rattle.list_lemmas.proofs.Updates.{set-update}
use Rattle.std.proofs.lemmas.Option.{slice_get_read}
use Rattle.retry_rules.specs.declared.After.{After}
use Rattle.retry_rules.specs.declared.EndedCounts.{EndedCounts}
use Rattle.retry_rules.specs.Counts.{Facts, none_ended, count_of, ended_of, one_more, with_end, with_ends, after_attempt}
use Rattle.retry_rules.specs.Stands.{Stands, ended_count, ended_in}
use Rattle.retry_rules.specs.Entries.{times, EndsThese, EndsNone, IsGoing}
use Rattle.list_lemmas.proofs.Updates.{get_update, get_replicate}

-- ---- rows of counts

abbrev row : (ℕ → Branch → ℕ) → ℕ → EndedCounts
row c a = record { local = c a Local; remote = c a Remote }

-- the rows are these counts, for n actions
Counts : ℕ → (ℕ → Branch → ℕ) → List EndedCounts → Type 0
Counts n c xs = (a : ℕ) → slice_get xs a ≡ cond (nat_lt a n) (Some (row c a)) None

counts_same : (n : ℕ) (c d : ℕ → Branch → ℕ) (xs : List EndedCounts) → ((a : ℕ) (b : Branch) → c a b ≡ d a b) → Counts n c xs → Counts n d xs
unfolding Counts
counts_same n c d xs same h a = h a ∙ ap (λ r. cond (nat_lt a n) (Some r) None) (λ i. record { local = same a Local i; remote = same a Remote i })

-- ---- one more

plus_if : Bool → ℕ → ℕ
plus_if true n = n + 1
plus_if false n = n

one_here : (b : Branch) (l r : ℕ) → one_more b (record { local = l; remote = r }) ≡ record { local = plus_if (same_branch b Local) l; remote = plus_if (same_branch b Remote) r }
unfolding plus_if
one_here Local l r = refl
one_here Remote l r = refl

more_at : (hit within : Bool) (b : Branch) (l r : ℕ)
    → cond hit (option_map (one_more b) (cond within (Some (record { local = l; remote = r })) None)) (cond within (Some (record { local = l; remote = r })) None)
    ≡ cond within (Some (record { local = plus_if (hit && same_branch b Local) l; remote = plus_if (hit && same_branch b Remote) r })) None
unfolding plus_if
more_at true true b l r = ap Some (one_here b l r)
more_at true false b l r = refl
more_at false true b l r = refl
more_at false false b l r = refl

counts_more : (n : ℕ) (c : ℕ → Branch → ℕ) (xs : List EndedCounts) (t : Attempt) → Counts n c xs → Counts n (λ a b. plus_if (is_branch_of a b t) (c a b)) (update (one_more t.branch) xs t.action)
unfolding Counts
counts_more n c xs t h a =
    get_update (one_more t.branch) xs t.action a
    ∙ ap (λ (o : Option EndedCounts). cond (t.action == a) (option_map (one_more t.branch) o) o) (h a)
    ∙ more_at (t.action == a) (nat_lt a n) t.branch (c a Local) (c a Remote)

times_one : (same : Bool) (t : Attempt) (ts : List Attempt) (n : ℕ) → length ts + plus_if same n ≡ length (cond same (t ∷ ts) ts) + n
unfolding plus_if
times_one true t ts n = omega arith
times_one false t ts n = refl

-- so many more as the branch stands among them
counts_all : (n : ℕ) (f : Facts) (c : ℕ → Branch → ℕ) (ts : List Attempt) → Counts n c f.ended → Counts n (λ a b. times a b ts + c a b) ((with_ends f ts).ended)
counts_all n f c [] h = counts_same n c (λ a b. 0 + c a b) f.ended (λ a b. omega arith) h
counts_all n f c (t ∷ ts) h =
    counts_same n (λ a b. times a b ts + plus_if (is_branch_of a b t) (c a b)) (λ a b. times a b (t ∷ ts) + c a b) ((with_ends (with_end f t.action t.branch) ts).ended)
    (λ a b. times_one (is_branch_of a b t) t (filter (is_branch_of a b) ts) (c a b))
    (counts_all n (with_end f t.action t.branch) (λ a b. plus_if (is_branch_of a b t) (c a b)) ts (counts_more n c f.ended t h))

limit_stays : (f : Facts) (ts : List Attempt) → (with_ends f ts).limit ≡ f.limit
limit_stays f [] = refl
limit_stays f (t ∷ ts) = limit_stays (with_end f t.action t.branch) ts

-- ---- a new table

pub new_stands : (p : Plan) (xs : List EndedCounts) (limit : ℕ) → limit ≡ p.limit → xs ≡ replicate (length p.actions) none_ended → Stands p (record { ended = xs; limit = limit }) []
unfolding ended_count words.attempt words.ended words.end_of
new_stands p xs limit l e = record {
  limit = l;
  each = λ a. ap (λ ys. slice_get ys a) e ∙ get_replicate none_ended (length p.actions) a;
}

-- ---- the laws

count_more : (x y : Bool) (n : ℕ) → (x ≡ true → y ≡ true) → ((y && not x) ≡ true → 1 ≤ n) → cond (y && not x) 1 0 + cond x n (n - 1) ≡ cond y n (n - 1)
count_more true true n stays begun = omega arith
count_more true false n stays begun = absurd (let e = stays refl in cc)
count_more false true n stays begun = let le = begun refl in omega arith
count_more false false n stays begun = omega arith

module _ (j : List Entry) (e : Entry) (ts : List Attempt) (h : EndsThese j e ts) where
  count_after : (a : ℕ) (b : Branch) → times a b ts + ended_count j a b ≡ ended_count (e ∷ j) a b
  unfolding ended_count
  count_after a b =
      rw (h.these a b, h.none_begins a b)
      (count_more (ended j (attempt_of a b (attempt j a b))) (ended (e ∷ j) (attempt_of a b (attempt j a b))) (attempt j a b) (ended_stays e j (attempt_of a b (attempt j a b))) (h.begun a b))

pub ends_counted : (p : Plan) (f : Facts) (j : List Entry) (e : Entry) (ts : List Attempt) → Stands p f j → EndsThese j e ts → Stands p (with_ends f ts) (e ∷ j)
unfolding Counts
ends_counted p f j e ts s h = record {
  limit = limit_stays f ts ∙ s.limit;
  each = counts_same (length p.actions) (λ a b. times a b ts + ended_count j a b) (ended_count (e ∷ j)) ((with_ends f ts).ended) (count_after j e ts h) (counts_all (length p.actions) f (ended_count j) ts s.each);
}

-- where no count changes
stands_still : (p : Plan) (f : Facts) (j k : List Entry) → ((a : ℕ) (b : Branch) → ended_count j a b ≡ ended_count k a b) → Stands p f j → Stands p f k
unfolding Counts
stands_still p f j k same s = record {
  limit = s.limit;
  each = counts_same (length p.actions) (ended_count j) (ended_count k) f.ended same s.each;
}

pub others_count : (p : Plan) (f : Facts) (j : List Entry) (e : Entry) → Stands p f j → ((a : ℕ) (b : Branch) → attempt (e ∷ j) a b ≡ attempt j a b) → EndsNone j e → Stands p f (e ∷ j)
unfolding ended_count
others_count p f j e s none_begins none_ends =
    stands_still p f j (e ∷ j) (λ a b. rw (none_begins a b, none_ends (attempt_of a b (attempt j a b))) refl) s

module _ (j : List Entry) (e : Entry) (t : Attempt) (begins : begun_in e.reply ≡ Some t) (next : BeginsNext j t) (going : ended j t ≡ false) (none_ends : EndsNone j e) where
  before_it : (n : ℕ) (over : Bool) → (n ≡ 0) ⊎ (over ≡ true) → cond over n (n - 1) ≡ n
  before_it n over (inl none) = rw none (elim over as (λ b. cond b 0 (0 - 1) ≡ 0) [ true ↦ refl | false ↦ refl ])
  before_it n over (inr h) = rw h refl

  begun_count : ended_count j t.action t.branch ≡ ended_count (e ∷ j) t.action t.branch
  unfolding ended_count
  begun_count =
      let number = attempt_begun e j t.action t.branch t begins (is_branch_refl t) in
      let after : ended (e ∷ j) t ≡ false = none_ends t ∙ going in
      before_it (attempt j t.action t.branch) (ended j (attempt_of t.action t.branch (attempt j t.action t.branch))) next.after
      ∙ (let e = next.next in rw (number, after) (omega arith))

  begins_at : (a : ℕ) (b : Branch) → ended_count j a b ≡ ended_count (e ∷ j) a b
  unfolding ended_count
  begins_at a b =
      by_bool (is_branch_of a b t) (λ _. ended_count j a b ≡ ended_count (e ∷ j) a b)
      (λ same. let parts = and_parts (t.action == a) _ same in
      subst (λ x. ended_count j x b ≡ ended_count (e ∷ j) x b) (eqb-true t.action a parts.0)
      (subst (λ y. ended_count j t.action y ≡ ended_count (e ∷ j) t.action y) (same_branch_eq t.branch b parts.1) begun_count))
      (λ other. let keeps : attempt (e ∷ j) a b ≡ attempt j a b = attempt_other e j a b (ap (number_if a b) begins ∙ ap (λ x. cond x (Some t.number) None) other) in
      rw (keeps, none_ends (attempt_of a b (attempt j a b))) refl)

pub begins_count : (p : Plan) (f : Facts) (j : List Entry) (e : Entry) (t : Attempt) → Stands p f j → begun_in e.reply ≡ Some t → BeginsNext j t → ended j t ≡ false → EndsNone j e → Stands p f (e ∷ j)
begins_count p f j e t s begins next going none_ends = stands_still p f j (e ∷ j) (begins_at j e t begins next going none_ends) s

-- ---- what is asked of the latest attempt

module _ (p : Plan) (f : Facts) (j : List Entry) (a : ℕ) (b : Branch) (s : Stands p f j) (known : a < length p.actions) (h : IsGoing j a b) where
  count_row : (c : Branch) → count_of c (ended_in j a) ≡ ended_count j a c
  count_row Local = refl
  count_row Remote = refl

  pub count_is : ended_of f a b + 1 ≡ attempt j a b
  unfolding ended_count
  count_is =
      let within : nat_lt a (length p.actions) ≡ true = lt-ltb a (length p.actions) known in
      let le = h.begun in
      let is : slice_get f.ended a ≡ Some (ended_in j a) = s.each a ∙ ap (λ x. cond x (Some (ended_in j a)) None) within in
      let one : ended_of f a b ≡ ended_count j a b = ap (λ o. unwrap_or (option_map (count_of b) o) 0) is ∙ count_row b in
      let two : ended_count j a b ≡ attempt j a b - 1 = ap (λ x. cond x (attempt j a b) (attempt j a b - 1)) h.going in
      let three = one ∙ two in
      omega arith

-- ---- the table's own calls

pub read : (f f' : Facts) (a : ℕ) (b : Branch) (x : EndedCounts) → f ≡ f' → a < length f'.ended → x ≡ get_or f.ended a x → ended_of f' a b ≡ count_of b x
read f f' a b x e lt is =
    let within : a < length f.ended = rw e lt in
    ap (λ g. ended_of g a b) (sym e) ∙ ap (λ o. unwrap_or (option_map (count_of b) o) 0) (slice_get_read f.ended (length f.ended) a x refl within is)

pub written : (f f' : Facts) (a : ℕ) (b : Branch) (x r : EndedCounts) → f ≡ f' → a < length f'.ended → x ≡ get_or f.ended a x → r ≡ one_more b x
    → record { ended = set f.ended a r; limit = f.limit } ≡ with_end f' a b
written f f' a b x r e lt is more =
    let within : a < length f.ended = rw e lt in
    ap (λ y. record { ended = set f.ended a y; limit = f.limit }) (more ∙ ap (one_more b) is)
    ∙ ap (λ ys. record { ended = ys; limit = f.limit }) (set-update (one_more b) f.ended a x within)
    ∙ ap (λ g. with_end g a b) e

pub count_one_more : (b : Branch) (x : EndedCounts) → count_of b (one_more b x) ≡ count_of b x + 1
count_one_more Local x = refl
count_one_more Remote x = refl

pub answer_is : (f f' : Facts) (r : After) (n m : ℕ) → f ≡ f' → r ≡ after_attempt n f.limit → n ≡ m → r ≡ after_attempt m f'.limit
answer_is f f' r n m e h same = h ∙ ap (λ k. after_attempt k f.limit) same ∙ ap (λ g. after_attempt m g.limit) e
