use Rattle.std.proofs.lemmas.Result.{on_ok_weaker}
use Rattle.list_actions.proofs.ProducerLemmas.{more_producers}
use Rattle.action_list.proofs.planning.note_outputs.Goals as goal

pub returns : goal.returns
returns c = λ before known number.
    on_ok_weaker c.note_all.result
    (λ noted. record { known = λ q. more_producers before c.args.action.now c.args.number q number (known.known q) (rw c.as_slice.ensures at (noted q)) })
    c.note_all.ensures
