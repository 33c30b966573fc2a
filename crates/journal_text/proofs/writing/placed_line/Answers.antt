use Rattle.std.proofs.Common.{◌≡◌, ◌≤◌, ap, sym, subst, ◌∙◌, arith}
use Rattle.serde_json.specs.Data.{Data, depth}
use Rattle.serde_json.specs.Written.{compact_text, has_float}
use Rattle.serde_json.specs.View.{view}
use Rattle.std.proofs.Common.{Some}
use Rattle.journal_text.specs.Lines.{json_in}
use Rattle.journal_text.proofs.Written.{if_ok, on_ok, placed_plain, placed_text_is, placed_written}
use Rattle.journal_text.proofs.writing.placed_line.Goals as goal

pub line_of-requires-clause-plain : goal.line_of-requires-clause-plain
line_of-requires-clause-plain c = ap has_float c.in_ok-value.ensures.written ∙ (placed_plain c.args.placed.now c.in_ok-value.ensures.fits).exact

pub line_of-requires-clause-shallow : goal.line_of-requires-clause-shallow
line_of-requires-clause-shallow c =
    let deep : depth (view c.in_ok-value.value) ≤ 127 = subst (λ (d : Data). depth d ≤ 127) (sym c.in_ok-value.ensures.written) (let le = (placed_plain c.args.placed.now c.in_ok-value.ensures.fits).shallow in omega (arith, le)) in deep

pub returns-clause-text : goal.returns-clause-text
returns-clause-text c = if_ok c.line_of.result _ _ (λ s e. e ∙ placed_text_is c.args.placed.now _ c.in_ok-value.ensures.written) c.line_of.ensures.text

pub returns-clause-again : goal.returns-clause-again
returns-clause-again c =
    on_ok c.line_of.result _ _
    (λ e. placed_written c.args.placed.now c.in_ok-value.ensures.fits c.requires.row c.requires.ticks (subst (λ (d : Data). json_in (compact_text d) ≡ Some d) c.in_ok-value.ensures.written e))
    c.line_of.ensures.again
