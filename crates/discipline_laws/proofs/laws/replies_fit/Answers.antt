use Rattle.discipline_laws.proofs.Fitting as fitting
use Rattle.discipline_laws.proofs.laws.replies_fit.Goals as goal

pub returns : goal.returns
returns c = fitting.replies_fit
