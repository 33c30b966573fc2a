use Rattle.std.proofs.Common.{ap, ◌+◌, ◌∙◌, Some, option_map}
use Rattle.exec_journal.specs.Entries.{attempt_of}
use Rattle.ready_order.proofs.Earliest.{queued_within}
use Rattle.earliest_first.specs.Choices.{next_of}
use Rattle.earliest_first.proofs.earliest.Goals as goal

pub ended-requires : goal.ended-requires
ended-requires c = let h = c.in-Some.ensures.first in
    rw c.requires.actions (queued_within _ _ _ _ h.queued)

pub returns-in-None : goal.returns-in-None
returns-in-None c = ap (option_map (next_of c.args.state.now)) c.in-None.ensures.search

pub returns-in-Some : goal.returns-in-Some
returns-in-Some c =
    ap (λ n. Some (attempt_of c.in-Some.action c.in-Some.branch (n + 1))) c.ended.ensures
    ∙ ap (option_map (next_of c.args.state.now)) c.in-Some.ensures.search
