use Rattle.std.proofs.Common.{◌≡◌, ◌==◌, get_or, true, false, drop, subst, sym, ap, ◌∙◌, arith, take_all, length-drop}
use Rattle.fast_float.specs.Text.{scan}
use Rattle.serde_json.specs.Read.{number_of, number_from}
use Rattle.journal_reading.specs.Pulls.{signed_as}
use Rattle.journal_reading.specs.Readings.{Reads}
use Rattle.journal_reading.proofs.Signs.{number_of-minus, number_of-plain}
use Rattle.journal_reading.proofs.numbers.signed_of.Goals as goal

pub returns-then-has_minus : goal.returns-then-has_minus
returns-then-has_minus c =
    let s = c.as_bytes-bytes.result.now in
    let signed : (get_or s 0 0 == 45) ≡ true = sym c.if-has_minus.ensures.value in
    let parts : c.scan.result ≡ scan (drop 1 s) = c.scan.ensures.parts ∙ ap scan (take_all _ (drop 1 s) (omega (arith, length-drop 1 s))) in
    let same : number_from true c.scan.result ≡ number_of c.args.text.now = ap (number_from true) parts ∙ sym (number_of-minus s signed) ∙ ap number_of c.as_bytes-bytes.ensures.value in
    subst (λ n. Reads c.negative_by.result (signed_as n)) same c.negative_by.ensures

pub returns-else-has_minus : goal.returns-else-has_minus
returns-else-has_minus c =
    let s = c.as_bytes-bytes.result.now in
    let unsigned : (get_or s 0 0 == 45) ≡ false = sym c.if-has_minus.ensures.value in
    let same : number_from false c.scan-else-has_minus.result ≡ number_of c.args.text.now = ap (number_from false) c.scan-else-has_minus.ensures.parts ∙ sym (number_of-plain s unsigned) ∙ ap number_of c.as_bytes-bytes.ensures.value in
    subst (λ n. Reads c.positive_by.result (signed_as n)) same c.positive_by.ensures
