use Rattle.std.proofs.Common.{subst}
use Rattle.base64.specs.GeneralPurpose.{IsBytes}
use Rattle.json_messages.proofs.Backs.{input_back}
use Rattle.json_messages.proofs.write.input_value.Goals as goal

pub returns-clause-again : goal.returns-clause-again
returns-clause-again c = input_back c.args.input.now (subst IsBytes c.as_slice.ensures c.in_ok-digest.ensures.bytes)
