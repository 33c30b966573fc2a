use Rattle.std.proofs.Common.{◌≡◌, ◌∙◌, ap, sym}
use Rattle.race_core.specs.Rows.{claim_answer, claimed_row}
use Rattle.race_core.proofs.Kept.{read, written}
use Rattle.race_core.proofs.Race.claim.Goals as goal

pub returns-clause-answer : goal.returns-clause-answer
returns-clause-answer c = c.answer.ensures ∙ ap claim_answer (sym (read _ _ c.args.action c.index-row.result.now c.self.view_is c.requires.known c.index-row.ensures))

pub returns-clause-rows : goal.returns-clause-rows
returns-clause-rows c = written (claimed_row c.args.branch) _ _ c.args.action c.index-row.result.now c.claimed.result c.self.view_is c.requires.known c.index-row.ensures c.claimed.ensures
