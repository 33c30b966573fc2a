use Rattle.std.proofs.Common.{◌≡◌, List, ℕ, ◌++◌}
use Rattle.json_framing.specs.Cutter.{form_of, framing_of, held}
use Rattle.message_service.specs.Stream.{Heard}
use Rattle.message_service.proofs.hearing.hear_all.Given as goal

-- The messages so far are those that the cutter gave.
abbrev pub invariant-loop : goal.invariant-loop
invariant-loop g l = record {
  framing : framing_of l.cutter ≡ g.V.Service.framing;
  heard : (fed : List ℕ) (before : List g.row.V-Message.Denot)
      → Heard (form_of g.V.Service.framing) g.V.Service.spells fed before (held l.initial.cutter)
      → Heard (form_of g.V.Service.framing) g.V.Service.spells fed (before ++ l.messages.items)
      (held l.cutter);
}
