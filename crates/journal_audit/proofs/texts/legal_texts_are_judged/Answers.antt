use Rattle.std.proofs.Common.{reverse}
use Rattle.journal_text.specs.Lines.{plan_text}
use Rattle.journal_audit.proofs.texts.legal_texts_are_judged.Goals as goal

pub returns : goal.returns
returns c = λ p j sound legal plan entries few.
    let lawful = c.own_berths_are_lawful.ensures.lawful p (reverse j) legal in
    c.texts_are_legal.ensures p (plan_text p) j sound legal (c.branches_win_once.ensures p (reverse j) lawful) (c.answers_are_paired.ensures p (reverse j) lawful) plan.one_line plan.again entries few
