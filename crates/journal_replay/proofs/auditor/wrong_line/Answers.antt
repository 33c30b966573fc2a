use Rattle.std.proofs.Common.{sym, ◌∙◌}
use Rattle.journal_text.specs.Lines.{entry_of}
use Rattle.journal_replay.proofs.Steps.{is_read, spelled_bad, wrong_more}
use Rattle.journal_replay.proofs.auditor.wrong_line.Goals as goal

pub returns-then-branch : goal.returns-then-branch
returns-then-branch g c = λ ls f number.
    let (x, is) = is_read (entry_of c.args.line.now) _ c.in_ok-spells_entry.ensures c.if-branch.true in
    wrong_more g.C.Replayed.rules ls c.args.entry c.args.beyond c.args.line.now x f is

pub returns-else-branch : goal.returns-else-branch
returns-else-branch g c = λ ls f number.
    spelled_bad g.C.Replayed.rules.spelled ls f.basis f.journal c.args.line.now c.args.number f.spelled (sym c.in_ok-spells_entry.ensures ∙ c.if-branch.false) number
