use Rattle.std.proofs.Common.{◌≡◌, rules, List, map, Ok, subst, FitsSigned, w32}
use Rattle.wire_messages.specs.declared.input.Input.{Input}
use Rattle.json_messages.specs.Messages.{input_in}
use Rattle.json_messages.specs.Values.{each}
use Rattle.json_messages.specs.Writing.{input_data}
use Rattle.json_messages.proofs.Backs.{request_back}
use Rattle.json_messages.proofs.Digits.{small}
use Rattle.json_messages.proofs.OneLine.{request_lined}
use Rattle.json_messages.proofs.write.request_object.Goals as goal

pub returns-clause-again : goal.returns-clause-again
returns-clause-again c =
    let m = c.args.m.now in
    let first : FitsSigned w32 m.request_id = search rules in
    let second : FitsSigned w32 m.verbosity = search rules in
    request_back m (subst (λ (ms : List Input). each input_in (map input_data ms) ≡ Ok ms) c.as_slice-2.ensures c.in_ok-inputs.ensures.again) (small m.request_id first) (small m.verbosity second)

pub returns-clause-one_line : goal.returns-clause-one_line
returns-clause-one_line c =
    let m = c.args.m.now in
    let first : FitsSigned w32 m.request_id = search rules in
    let second : FitsSigned w32 m.verbosity = search rules in
    request_lined m (small m.request_id first) (small m.verbosity second)
