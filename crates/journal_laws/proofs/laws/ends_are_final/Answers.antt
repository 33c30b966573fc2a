use Rattle.exec_journal.proofs.Quiet.{end_stays}
use Rattle.journal_laws.proofs.laws.ends_are_final.Goals as goal

pub returns : goal.returns
returns c = λ e j t c h. end_stays e j t c h
