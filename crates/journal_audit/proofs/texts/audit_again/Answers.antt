use Rattle.std.proofs.Common.{◌≡◌, List, ℕ, length, subst, sym}
use Rattle.exec_journal.specs.Legal.{Legal}
use Rattle.journal_text.specs.Lines.{text_of}
use Rattle.journal_replay.specs.Verdicts.{Judges}
use Rattle.journal_replay.specs.declared.verdict.Verdict.TheVariants as verdict
use Rattle.journal_audit.proofs.texts.audit_again.Goals as goal

pub returns : goal.returns
returns c = λ few.
    let p = c.args.plan.now in
    let j = c.args.journal.now in
    let path : text_of p j ≡ c.as_bytes.result.now = cc (c.in_ok-text.ensures.text, c.as_str.ensures, c.as_bytes.ensures.value) in
    let due = c.legal_texts_are_judged.ensures p j c.requires.sound c.requires.legal c.in_ok-text.ensures.plan c.in_ok-text.ensures.entries few in
    sym (c.in_ok-verdict.ensures.only _ (subst (λ (b : List ℕ). Judges (λ q k. Legal q k) b (verdict.Yes (length p.actions) (length j))) path due))
