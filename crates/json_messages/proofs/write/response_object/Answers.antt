use Rattle.std.proofs.Common.{rules, FitsSigned, w32}
use Rattle.json_messages.proofs.Backs.{response_back}
use Rattle.json_messages.proofs.Digits.{small}
use Rattle.json_messages.proofs.OneLine.{response_lined}
use Rattle.json_messages.proofs.write.response_object.Goals as goal

pub returns-clause-again : goal.returns-clause-again
returns-clause-again c =
    let m = c.args.m.now in
    let first : FitsSigned w32 m.exit_code = search rules in
    let second : FitsSigned w32 m.request_id = search rules in
    response_back m (small m.exit_code first) (small m.request_id second)

pub returns-clause-one_line : goal.returns-clause-one_line
returns-clause-one_line c =
    let m = c.args.m.now in
    let first : FitsSigned w32 m.exit_code = search rules in
    let second : FitsSigned w32 m.request_id = search rules in
    response_lined m (small m.exit_code first) (small m.request_id second)
