use Rattle.journal_replay.proofs.Stages.{judged_whole, no_report_before}
use Rattle.journal_replay.proofs.laws.plans_begin_texts.Goals as goal

pub returns-clause-none : goal.returns-clause-none
returns-clause-none g c = λ top rest is. no_report_before g.C.Replayed.rules.spelled top rest is

pub returns-clause-whole : goal.returns-clause-whole
returns-clause-whole g c = λ bytes v none x. judged_whole g.C.Replayed.rules bytes v none x
