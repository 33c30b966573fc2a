use Rattle.core_state.proofs.Kept.{heard_length}
use Rattle.core_state.proofs.state.State.answer_to.Goals as goal

pub reopened-requires : goal.reopened-requires
reopened-requires c = rw c.answer.ensures.facts (rw
    (heard_length c.args.self.now.requests c.args.line _) c.requires.requests)
