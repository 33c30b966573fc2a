use Rattle.call_laws.proofs.Reports as rp
use Rattle.call_laws.proofs.Ended.{unwritten_order}
use Rattle.call_laws.proofs.laws.reports_answer_orders.Goals as goal

pub returns : goal.returns
returns c = record { launched = rp.launches; unwritten = unwritten_order; unfed = rp.unfed }
