-- What the counts say: which attempts have ended.
use Rattle.std.proofs.Common.{◌≡◌, ℕ, ◌-◌, ◌<◌, ◌≤◌, ◌==◌, nat_lt, nat_le, Bool, true, false, cond, List, length, Option, Some, None, option_map, unwrap_or, refl, ap, sym, ◌∙◌, arith}
use Rattle.std.proofs.lemmas.Bool.{eqb-true, eq-eqb, lt-ltb, ltb-true, ltb-false, leb-true, le-leb}
use Rattle.run_plan.specs.declared.plan.Branch.{Branch}
use Rattle.run_plan.specs.declared.plan.Branch.TheVariants.{Local, Remote}
use Rattle.run_plan.specs.declared.plan.Plan.{Plan}
use Rattle.exec_journal.specs.declared.attempt.Attempt.{Attempt}
use Rattle.exec_journal.specs.Entry.{Entry}
use Rattle.exec_journal.specs.Entries.{attempt_of}
use Rattle.exec_journal.specs.Attempts.{attempt, ended}
use Rattle.exec_journal.specs.Facts.{AttemptsInOrder, begun}
use Rattle.exec_journal.proofs.Ruled.{by_bool}
use Rattle.retry_rules.specs.declared.EndedCounts.{EndedCounts}
use Rattle.retry_rules.specs.Counts.{Facts, ended_of, count_of}
use Rattle.retry_rules.specs.Stands.{Stands, ended_count, ended_in}

pub ended_at : (p : Plan) (j : List Entry) (f : Facts) (a : ℕ) (b : Branch) → Stands p f j
    → a < length p.actions → ended_of f a b ≡ ended_count j a b
ended_at p j f a b st lt =
    let inside : nat_lt a (length p.actions) ≡ true = lt-ltb a (length p.actions) lt in
    ap (λ (o : Option EndedCounts). unwrap_or (option_map (count_of b) o) 0)
    (st.each a ∙ ap (λ c. cond c (Some (ended_in j a)) None) inside) ∙ by b
  where
    by : (b : Branch) → count_of b (ended_in j a) ≡ ended_count j a b
    by Local = refl
    by Remote = refl

module _ (p : Plan) (j : List Entry) (order : AttemptsInOrder p j) (unbegun : (t : Attempt)
    → begun j t ≡ false → ended j t ≡ false) where
  within : (u : Attempt) → ended j u ≡ true → u.number ≤ attempt j u.action u.branch
  within u h = by (begun j u) refl
    where
      by : (b : Bool) → begun j u ≡ b → u.number ≤ attempt j u.action u.branch
      by true e = (order.numbered u e).1
      by false e = absurd (let no = unbegun u e in cc)

  abbrev last : Attempt → Attempt
  last u = attempt_of u.action u.branch (attempt j u.action u.branch)

  its_last : (u : Attempt) → u.number ≡ attempt j u.action u.branch → ended j (last u) ≡ ended j u
  its_last u h = ap (λ n. ended j (attempt_of u.action u.branch n)) (sym h)

  counted : (u : Attempt) → 1 ≤ u.number → (over x : Bool) → ended j (last u) ≡ over → ended j u ≡ x
      → nat_le u.number (cond over (attempt j u.action u.branch) (attempt j u.action u.branch - 1))
      ≡ x
  counted u least true true e h = le-leb u.number (attempt j u.action u.branch) (within u h)
  counted u least false true e h =
      let le = within u h in
      by_bool (u.number == attempt j u.action u.branch) (λ b.
      (u.number == attempt j u.action u.branch) ≡ b → nat_le u.number
      (attempt j u.action u.branch - 1) ≡ true)
      (λ yes k. absurd (let same = its_last u (eqb-true u.number (attempt j u.action u.branch) yes)
      in cc))
      (λ ne k. le-leb u.number (attempt j u.action u.branch - 1)
      (apart u.number (attempt j u.action u.branch) le ne)) refl
    where
      apart : (m n : ℕ) → m ≤ n → (m == n) ≡ false → m ≤ n - 1
      apart m n le ne = by_bool (nat_lt m n) (λ _. m ≤ n - 1)
          (λ lt. let l = ltb-true m n lt in omega arith) (λ ge. let g = ltb-false m n ge in
          absurd (let e : m ≡ n = omega arith in let y = eq-eqb m n e in cc))
  counted u least over false e h =
      by_bool (nat_le u.number (cond over (attempt j u.action u.branch)
      (attempt j u.action u.branch - 1))) (λ b. b ≡ false)
      (λ yes. absurd (under over e (leb-true u.number (cond over (attempt j u.action u.branch)
      (attempt j u.action u.branch - 1)) yes))) (λ no. refl)
    where
      before : u.number < attempt j u.action u.branch → ⊥
      before lt = let o = order.older u least lt in cc

      under : (o : Bool) → ended j (last u) ≡ o → u.number ≤ cond o (attempt j u.action u.branch)
          (attempt j u.action u.branch - 1) → ⊥
      under false k le = before (omega arith)
      under true k le =
          by_bool (nat_lt u.number (attempt j u.action u.branch)) (λ _. ⊥)
          (λ lt. before (ltb-true u.number (attempt j u.action u.branch) lt))
          (λ ge. let g = ltb-false u.number (attempt j u.action u.branch) ge in
          let same : u.number ≡ attempt j u.action u.branch = omega arith in
          let q = its_last u same in cc)

  pub count_says : (f : Facts) (u : Attempt) → Stands p f j → u.action < length p.actions
      → 1 ≤ u.number → nat_le u.number (ended_of f u.action u.branch) ≡ ended j u
  unfolding ended_count
  count_says f u st lt least = ap (nat_le u.number) (ended_at p j f u.action u.branch st lt)
      ∙ counted u least (ended j (last u)) (ended j u) refl refl
