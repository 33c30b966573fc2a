use Rattle.std.proofs.Common.{◌≡◌, ◌==◌, get_or, true, false, drop, subst, sym, ap, ◌∙◌}
use Rattle.fast_float.specs.Text.{scan}
use Rattle.serde_json.specs.Read.{number_of, number_from}
use Rattle.journal_reading.specs.Pulls.{count_as}
use Rattle.journal_reading.specs.Readings.{Reads}
use Rattle.journal_reading.proofs.Signs.{number_of-minus, number_of-plain, no_count}
use Rattle.journal_reading.proofs.numbers.count_of.Goals as goal

pub returns-then-has_minus : goal.returns-then-has_minus
returns-then-has_minus c =
    let s = c.as_bytes-bytes.result.now in
    let signed : (get_or s 0 0 == 45) ≡ true = sym c.if-has_minus.ensures.value in
    ap (λ x. count_as (number_of x)) (sym c.as_bytes-bytes.ensures.value) ∙ ap count_as (number_of-minus s signed) ∙ no_count (scan (drop 1 s))

pub returns : goal.returns
returns c =
    let s = c.as_bytes-bytes.result.now in
    let unsigned : (get_or s 0 0 == 45) ≡ false = sym c.if-has_minus.ensures.value in
    let same : number_from false c.scan.result ≡ number_of c.args.text.now = ap (number_from false) c.scan.ensures.parts ∙ sym (number_of-plain s unsigned) ∙ ap number_of c.as_bytes-bytes.ensures.value in
    subst (λ n. Reads c.count_by.result (count_as n)) same c.count_by.ensures
