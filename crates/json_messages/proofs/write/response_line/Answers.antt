use Rattle.std.proofs.Common.{◌≡◌, ◌≤◌, ◌++◌, ◌∷◌, [], false, List, ℕ, ap, sym, subst, ◌∙◌, arith, Vec, Global}
use Rattle.serde_json.specs.Data.{Data, depth}
use Rattle.serde_json.specs.Written.{has_float}
use Rattle.serde_json.specs.View.{view}
use Rattle.json_messages.proofs.Backs.{if_ok, on_ok, response_plain, response_spelled, response_written}
use Rattle.json_messages.proofs.write.response_line.Goals as goal

pub line_of-requires-clause-plain : goal.line_of-requires-clause-plain
line_of-requires-clause-plain c = ap has_float c.in_ok-object.ensures.written ∙ (response_plain c.args.m.now).exact

pub line_of-requires-clause-shallow : goal.line_of-requires-clause-shallow
line_of-requires-clause-shallow c =
    let deep : depth (view c.in_ok-object.object) ≤ 127 = subst (λ (d : Data). depth d ≤ 127) (sym c.in_ok-object.ensures.written) (let le = (response_plain c.args.m.now).shallow in omega (arith, le)) in deep

pub returns-clause-written : goal.returns-clause-written
returns-clause-written c = if_ok c.line_of.result _ _ (λ v e. e ∙ ap (λ (s : List ℕ). s ++ 10 ∷ []) (response_written c.args.m.now _ c.in_ok-object.ensures.written)) c.line_of.ensures.written

pub returns-clause-spelled : goal.returns-clause-spelled
returns-clause-spelled c = on_ok c.line_of.result _ _ (λ e. response_spelled c.args.m.now _ c.in_ok-object.ensures.written e c.in_ok-object.ensures.again) c.line_of.ensures.again

pub returns-clause-one_line : goal.returns-clause-one_line
returns-clause-one_line c = on_ok c.line_of.result _ _ (λ e. c.in_ok-object.ensures.one_line) c.line_of.ensures.again
