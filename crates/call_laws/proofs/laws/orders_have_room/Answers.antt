use Rattle.call_laws.proofs.Orders.{is_send, is_launch}
use Rattle.call_laws.proofs.laws.orders_have_room.Goals as goal

pub returns : goal.returns
returns c = record { sends = is_send; launches = is_launch }
