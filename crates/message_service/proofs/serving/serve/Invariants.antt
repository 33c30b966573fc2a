use Rattle.std.proofs.Common.{◌≡◌, ◌≤◌, List, ℕ, length}
use Rattle.json_framing.specs.Cutter.{framing_of, held}
use Rattle.message_service.proofs.Rounds.{Going}
use Rattle.message_service.proofs.serving.serve.Given as goal

-- What was taken is what the cutter was fed, and all messages that it spells were answered.
abbrev pub invariant-loop : goal.invariant-loop
invariant-loop g l = record {
  bytes : List ℕ;
  messages : List g.row.V-Message.Denot;
  framing : framing_of l.cutter ≡ g.V.Service.framing;
  going : Going g.V.Service.framing g.V.Service.spells g.V.Service.answers bytes messages
      (held l.cutter)
      (record {
        input = g.T.Tap.told l.initial.input;
        out = g.O.Sink.told l.initial.out;
        shop =
            g.S.Shop.told l.initial.shop;
      })
      (record {
        input = g.T.Tap.told l.input;
        out = g.O.Sink.told l.out;
        shop =
            g.S.Shop.told l.shop;
      });
  reads : l.counter ≤ length bytes;
}
