use Rattle.std.proofs.Common.{◌≡◌, List, ℕ, true, sym, ap, ◌∙◌}
use Rattle.json_messages.specs.Values.{is_whole_text}
use Rattle.json_messages.proofs.Digits.{too_large}
use Rattle.json_messages.proofs.values.number_of_text.Goals as goal

pub returns-in-Err : goal.returns-in-Err
returns-in-Err c = too_large c.args.text.now c.args.key (ap is_whole_text (sym c.as_bytes.ensures.value) ∙ sym c.is_whole_text.ensures ∙ c.if-not-is_whole_text.false) c.in-Err.ensures.value.0
