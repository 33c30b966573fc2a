use Rattle.std.proofs.Common.{arith}
use Rattle.worker_pool.proofs.Answered.{seat_within, within, sent_fits, freed_fits}
use Rattle.worker_pool.proofs.laws.calls_may_be_made.Goals as goal

pub returns-clause-berth : goal.returns-clause-berth
returns-clause-berth c = λ p seats f j w s known. seat_within p seats f j s w known

pub returns-clause-line : goal.returns-clause-line
returns-clause-line c = λ p seats f j l lane t s launched. within p seats f j s l lane t launched

pub returns-clause-launch : goal.returns-clause-launch
returns-clause-launch c = λ p seats f j s fewer. let room = s.room in let count = s.count in omega arith

pub returns-clause-sent : goal.returns-clause-sent
returns-clause-sent c = λ p seats f j l lane t s launched fewer. sent_fits p seats f j s l lane t launched fewer

pub returns-clause-freed : goal.returns-clause-freed
returns-clause-freed c = λ p seats f j l lane t u s launched on. freed_fits p seats f j s l lane t launched u on
