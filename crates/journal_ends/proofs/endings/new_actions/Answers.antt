use Rattle.std.proofs.Common.{◌+◌, List, length, ap, sym, subst, ◌∙◌}
use Rattle.std.proofs.lemmas.List.{length_push}
use Rattle.journal_ends.specs.declared.replay.ActionFact.{ActionFact}
use Rattle.journal_ends.specs.Replay.{AllNew, new_action}
use Rattle.journal_ends.proofs.Ended.{new_more}
use Rattle.journal_ends.proofs.endings.new_actions.Goals as goal

pub loop-preserved : goal.loop-preserved
loop-preserved c = (
  subst (λ (xs : List ActionFact). AllNew new_action xs) (sym c.in_ok-push.ensures.items) (new_more new_action c.loop.facts.items c.loop.invariant.0),
  ap (length {A = ActionFact}) c.in_ok-push.ensures.items ∙ length_push c.loop.facts.items new_action ∙ ap (λ n. n + 1) c.loop.invariant.1,
)
