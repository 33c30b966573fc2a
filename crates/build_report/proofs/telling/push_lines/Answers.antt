use Rattle.std.proofs.Common.{◌≡◌, ◌++◌, length, reverse, option_copied, OnOk, ap, sym, subst, ◌∙◌}
use Rattle.std.specs.Prelude.{string_bytes}
use Rattle.journal_ends.specs.Winning.{AreWinning}
use Rattle.build_report.proofs.Told.{told}
use Rattle.build_report.proofs.telling.push_lines.Goals as goal

pub returns : goal.returns
returns c =
    let j = reverse c.args.j.now in
    let winning = subst (λ xs. AreWinning option_copied xs j) (sym c.as_slice.ensures.value) c.in_ok-answers.ensures.answers in
    let count = c.requires.count ∙ sym (ap length c.as_slice.ensures.value ∙ c.in_ok-answers.ensures.count) in
    subst (λ ys. OnOk c.push_told.result (string_bytes c.push_told.new.text ≡ string_bytes c.args.text.now ++ ys)) (told option_copied c.args.plan.now j c.args.ends.now c.as_slice.result.now count winning) c.push_told.ensures
