use Rattle.job_runner.proofs.Fits.{all_fit}
use Rattle.job_runner.proofs.laws.replies_fit.Goals as goal

pub returns : goal.returns
returns c = all_fit
