use Rattle.std.proofs.Common.{◌-◌, length, refl, sym, arith}
use Rattle.std.specs.Str.Lines.{lines}
use Rattle.std.proofs.lemmas.Iterator.Splits.{YieldsList-from_lines}
use Rattle.std.proofs.lemmas.Iterator.Consumers.{YieldsList-turn, YieldsList-end}
use Rattle.std.proofs.lemmas.List.{length_push}
use Rattle.std.proofs.lemmas.Result.{err_from_is_err_and}
use Rattle.flag_files.specs.Expand.{steps}
use Rattle.flag_files.proofs.Walks.{line_done, line_refused, lines_done, steps_of_plain, steps_too_deep, steps_of_file, refuses_file}
use Rattle.flag_files.proofs.expanding.Expanded.+expanding.Goals as goal

pub add_lines-loop-line-preserved : goal.add_lines-loop-line-preserved
add_lines-loop-line-preserved t c =
    let turn = YieldsList-turn (YieldsList-from_lines c.args.text.now cc) c.loop-line.yielded _ c.loop-line.yielded_by _ _ c.in-Some.line c.in-Some.is c.next.ensures.steps in
    let more = line_done (steps c.args.levels c.args.files.now) (lines c.args.text.now) (length c.loop-line.yielded) c.args.self.now.words.items c.loop-line.self.words.items c.add_word.new.self.words.items c.in-Some.line.now c.loop-line.invariant.2 turn.0 turn.1 c.in_ok-add_word.ensures in
    (tt, tt, rw length_push more)

pub add_lines-returns-in_err-add_word : goal.add_lines-returns-in_err-add_word
add_lines-returns-in_err-add_word t c =
    let turn = YieldsList-turn (YieldsList-from_lines c.args.text.now cc) c.loop-line.yielded _ c.loop-line.yielded_by _ _ c.in-Some.line c.in-Some.is c.next.ensures.steps in
    let p = err_from_is_err_and c.from_residual.result c.from_residual.ensures.1 in
    rw (p.1, p.2) (line_refused c.in_err-add_word.field-0.0 (steps c.args.levels c.args.files.now) (lines c.args.text.now) (length c.loop-line.yielded) c.args.self.now.words.items c.loop-line.self.words.items c.in-Some.line.now c.loop-line.invariant.2 turn.0 turn.1 c.in_err-add_word.ensures)

pub add_lines-returns : goal.add_lines-returns
add_lines-returns t c =
    let end = YieldsList-end (YieldsList-from_lines c.args.text.now cc) c.loop-line.yielded _ c.loop-line.yielded_by _ _ c.in-None.is c.next.ensures.steps in
    lines_done (steps c.args.levels c.args.files.now) (lines c.args.text.now) (length c.loop-line.yielded) c.args.self.now.words.items c.loop-line.self.words.items c.loop-line.invariant.2 end.1

pub add_word-returns-in-None : goal.add_word-returns-in-None
add_word-returns-in-None t c = rw (steps_of_plain c.args.levels c.args.files.now c.args.word.now (sym c.in-None.ensures)) c.push.ensures

pub add_word-returns-then-levels-eq0 : goal.add_word-returns-then-levels-eq0
add_word-returns-then-levels-eq0 t c =
    rw (c.if-levels-eq0.true, c.in_ok-copy_of-in-Some.ensures, steps_too_deep c.args.files.now c.args.word.now c.in-Some.path.now (sym c.in-Some.ensures)) refl

pub add_word-returns-in_err-text-in-Some : goal.add_word-returns-in_err-text-in-Some
add_word-returns-in_err-text-in-Some t c =
    let p = err_from_is_err_and c.from_residual-in_err-text-in-Some.result c.from_residual-in_err-text-in-Some.ensures.1 in
    rw (p.1, p.2, steps_of_file c.args.levels c.args.files.now c.args.word.now c.in-Some.path.now (omega arith) (sym c.in-Some.ensures))
    (refuses_file c.in_err-text-in-Some.field-0.0 c.args.self.now.words.items (steps (c.args.levels - 1) c.args.files.now) _ c.in_err-text-in-Some.ensures)

pub add_word-returns-in_ok-text-in-Some : goal.add_word-returns-in_ok-text-in-Some
add_word-returns-in_ok-text-in-Some t c =
    rw (steps_of_file c.args.levels c.args.files.now c.args.word.now c.in-Some.path.now (omega arith) (sym c.in-Some.ensures), c.in_ok-text-in-Some.ensures)
    c.add_lines.ensures
