-- The lines by the winners' answers are those of the journal.
use Rattle.std.proofs.Common.{◌≡◌, ℕ, zero, suc, ◌+◌, List, [], ◌∷◌, ◌++◌, length, map, Option, Some, refl, ap, subst, ◌∙◌, arith}
use Rattle.std.specs.Prelude.{slice_get}
use Rattle.run_plan.specs.declared.plan.Plan.{Plan}
use Rattle.exec_journal.specs.declared.ends.ActionEnd.{ActionEnd}
use Rattle.exec_journal.specs.declared.call.Answer.{Answer}
use Rattle.exec_journal.specs.Entry.{Entry}
use Rattle.exec_journal.specs.Words.{grant_of}
use Rattle.exec_journal.specs.Outcomes.{winning_answer}
use Rattle.journal_ends.specs.Winning.{AreWinning}
use Rattle.build_report.specs.Words.{marked}
use Rattle.build_report.specs.Report.{answer_text, end_line, lines_from, lines_told}

-- those of the actions from a on
told_from : {R : Type 0} (held : R → Option Answer) (p : Plan) (j : List Entry) (a : ℕ) (es : List ActionEnd) (xs : List R) → length es ≡ length xs
    → ((k : ℕ) (x : R) → slice_get xs k ≡ Some x → held x ≡ winning_answer j (grant_of j (a + k))) → lines_told p a es (map held xs) ≡ lines_from p j a es
told_from held p j a [] [] same each = refl
told_from held p j a [] (x ∷ xs) same each = absurd (omega (arith, same))
told_from held p j a (e ∷ es) [] same each = absurd (omega (arith, same))
told_from held p j a (e ∷ es) (x ∷ xs) same each =
    let here : held x ≡ winning_answer j (grant_of j a) = subst (λ n. held x ≡ winning_answer j (grant_of j n)) (let z : a + 0 ≡ a = omega arith in z) (each zero x refl) in
    ap (λ o. (end_line p a e ++ marked (answer_text o)) ++ lines_told p (suc a) es (map held xs)) here
    ∙ ap (λ ys. (end_line p a e ++ marked (answer_text (winning_answer j (grant_of j a)))) ++ ys) (told_from held p j (suc a) es xs (omega (arith, same)) (λ k y h. subst (λ n. held y ≡ winning_answer j (grant_of j n)) (let m : a + suc k ≡ suc a + k = omega arith in m) (each (suc k) y h)))

pub told : {R : Type 0} (held : R → Option Answer) (p : Plan) (j : List Entry) (es : List ActionEnd) (xs : List R) → length es ≡ length xs → AreWinning held xs j → lines_told p 0 es (map held xs) ≡ lines_from p j 0 es
told held p j es xs same are = told_from held p j 0 es xs same (λ k x h. subst (λ n. held x ≡ winning_answer j (grant_of j n)) (let z : k ≡ 0 + k = omega arith in z) (are.each k x h))
