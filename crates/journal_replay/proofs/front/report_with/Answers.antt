use Rattle.std.proofs.Common.{sym, ◌∙◌}
use Rattle.journal_replay.proofs.Stages.{no_text, text_begins}
use Rattle.journal_replay.proofs.front.report_with.Goals as goal

pub returns-then-branch : goal.returns-then-branch
returns-then-branch g c = λ skips ls s number few.
    no_text skips g.C.Replayed.rules g.C.Replayed.stands ls c.args.line.now c.in_ok-found.found s (sym c.in_ok-is_journal_line.ensures ∙ c.if-branch.true)
    (c.in_ok-found.ensures ls s.each number)

pub returns-then-has_counts : goal.returns-then-has_counts
returns-then-has_counts g c = λ skips ls s number few.
    text_begins skips g.C.Replayed.rules g.C.Replayed.stands ls c.args.line.now c.args.number s (sym c.in_ok-is_journal_line.ensures ∙ c.if-branch.false)
    (sym c.has_counts.ensures ∙ c.if-has_counts.true) number
