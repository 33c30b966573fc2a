use Rattle.std.proofs.Common.{drop}
use Rattle.message_service.proofs.Turns.{SoFar}
use Rattle.message_service.proofs.answering.answer_all.Given as goal

-- The messages before this one were dealt with.
abbrev pub invariant-loop-k : goal.invariant-loop-k
invariant-loop-k g l = SoFar g.V.Service.answers l.messages (drop l.k l.messages)
    (g.O.Sink.told l.initial.out) (g.O.Sink.told l.out)
    (g.S.Shop.told l.initial.shop) (g.S.Shop.told l.shop)
