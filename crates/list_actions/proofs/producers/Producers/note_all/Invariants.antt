use Rattle.std.proofs.Common.{◌≡◌, ℕ, List, drop}
use Rattle.list_actions.specs.Producers.{producer_of}
use Rattle.list_actions.specs.Made.{producer_in}
use Rattle.list_actions.proofs.producers.Producers.note_all.Given as goal

abbrev pub invariant-loop-path : goal.invariant-loop-path
invariant-loop-path l = record {
  counted : l.output ≡ l.path-index;
  noted : (q : List ℕ) → producer_in (producer_of l.initial.self q) q l.action 0 l.outputs ≡ producer_in (producer_of l.self q) q l.action l.path-index (drop l.path-index l.outputs);
}
