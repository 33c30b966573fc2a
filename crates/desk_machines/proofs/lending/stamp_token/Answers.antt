use Rattle.std.proofs.Common.{◌≡◌, ℕ}
use Rattle.desk_machines.specs.declared.locker.Locker.{Locker}
use Rattle.desk_machines.specs.declared.locker.Answer.{Answer}
use Rattle.desk_machines.specs.Shelf.{stirred_by}
use Rattle.desk_machines.proofs.Lendings.{lent_and_back}
use Rattle.desk_machines.proofs.lending.stamp_token.Goals as goal

pub returns-in-Ok-clause-lies : goal.returns-in-Ok-clause-lies
returns-in-Ok-clause-lies g c = (lent_and_back _ (λ (m : Locker) (lane : ℕ) (r : Answer) (lanes : ℕ). lanes ≡ stirred_by r) _ c.args.pass.now.lane c.args.pass.now.seat.me.0 c.call_then.new.pass.seat.me.0 _ c.call_then.new.work _ _ c.requires.lies c.in-Ok.ensures.answer).0

pub returns-in-Ok-clause-mine : goal.returns-in-Ok-clause-mine
returns-in-Ok-clause-mine g c = (lent_and_back _ (λ (m : Locker) (lane : ℕ) (r : Answer) (lanes : ℕ). lanes ≡ stirred_by r) _ c.args.pass.now.lane c.args.pass.now.seat.me.0 c.call_then.new.pass.seat.me.0 _ c.call_then.new.work _ _ c.requires.lies c.in-Ok.ensures.answer).1
