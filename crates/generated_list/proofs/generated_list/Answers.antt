use Rattle.std.proofs.Common.{◌∙◌, ap}
use Rattle.serde_json.specs.Written.{has_float, compact_text}
use Rattle.generated_list.proofs.Floats.{no_floats}
use Rattle.generated_list.proofs.generated_list.Goals as goal

pub returns : goal.returns
returns c =
    c.in_ok-to_vec.ensures.text (ap has_float c.in_ok-list.ensures ∙ no_floats c.args.actions)
    ∙ ap compact_text c.in_ok-list.ensures
