use Rattle.std.proofs.Common.{◌≡◌, ◌≤◌, length, arith, true, sym, ◌∙◌, subst}
use Rattle.path_rules.specs.Paths.{is_plain_from}
use Rattle.path_rules.proofs.Plain.{no_fault}
use Rattle.path_rules.proofs.is_plain.Goals as goal

pub returns : goal.returns
returns c = λ plain.
    let few : length c.args.path.now ≤ 4096 = let most = c.if-path-gt-MAX_PATH.false in omega (arith, most) in
    let same : is_plain_from true c.args.path.now ≡ true =
    subst (λ bs. is_plain_from true bs ≡ true) c.as_bytes.ensures.value (sym c.has_plain_segments.ensures ∙ plain) in
    no_fault c.args.path.now few (sym c.begins_with.ensures ∙ c.if-begins_with.false) same
