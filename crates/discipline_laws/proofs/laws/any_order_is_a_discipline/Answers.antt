use Rattle.discipline_laws.proofs.OwnOrders.{next_is_discipline, next_kept}
use Rattle.discipline_laws.proofs.laws.any_order_is_a_discipline.Goals as goal

pub returns : goal.returns
returns c = record {
  discipline = λ next order p. next_is_discipline next order p;
  kept = λ next order p j sound legal. next_kept next order p j sound legal;
}
