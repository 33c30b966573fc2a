use Rattle.std.proofs.Common.{◌≡◌, ◌∙◌, ◌-◌, List, Option, ℕ, ap, arith, drop, length, subst, sym, take, take_all}
use Rattle.std.proofs.lemmas.List.{length-drop}
use Rattle.placed_berths.specs.Counts.{Facts}
use Rattle.placed_berths.specs.Walked.{IsNextMark}
use Rattle.placed_berths.proofs.Marking.{none_found, one_found}
use Rattle.placed_berths.proofs.delay.Delay.next_mark.Goals as goal

-- what is behind the first n
behind : (n : ℕ) (xs ys : List ℕ) → xs ≡ ys → take (length xs - n) (drop n xs) ≡ drop n ys
behind n xs ys same =
    let size = length-drop n xs in
    take_all (length xs - n) (drop n xs) (omega (arith, size)) ∙ ap (drop n) same

pub returns-in_err-place : goal.returns-in_err-place
returns-in_err-place c =
    let marks = c.as_slice.ensures.value ∙ ap (λ (f : Facts). f.marks) c.self.view_is in
    subst (λ (o : Option ℕ). IsNextMark c.args.self.now c.args.from o) (sym c.from_residual.ensures)
    (none_found c.args.self.now c.args.from _ (behind c.args.from _ _ marks)
    (c.in_err-place.ensures))

pub returns : goal.returns
returns c =
    let marks = c.as_slice.ensures.value ∙ ap (λ (f : Facts). f.marks) c.self.view_is in
    one_found c.args.self.now c.args.from _ (behind c.args.from _ _ marks)
    c.in_ok-place.place (c.in_ok-place.ensures)
