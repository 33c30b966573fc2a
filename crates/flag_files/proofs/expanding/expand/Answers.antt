use Rattle.std.proofs.Common.{[]}
use Rattle.std.proofs.lemmas.Result.{err_from_is_err_and}
use Rattle.flag_files.specs.Expand.{steps, max_depth}
use Rattle.flag_files.proofs.Walks.{line_done, line_refused}
use Rattle.flag_files.proofs.expanding.expand.Goals as goal

pub returns-in_err-add_word : goal.returns-in_err-add_word
returns-in_err-add_word c =
    let p = err_from_is_err_and c.from_residual.result c.from_residual.ensures.1 in
    rw (p.1, p.2) (line_refused c.in_err-add_word.field-0.0 (steps max_depth c.args.files.now) c.args.words.now c.loop-word.word-index [] c.loop-word.expanded.words.items c.word-item.result c.loop-word.invariant c.loop-word-test.true c.word-item.is (rw c.as_str.ensures at c.in_err-add_word.ensures))

pub loop-word-preserved : goal.loop-word-preserved
loop-word-preserved c =
    line_done (steps max_depth c.args.files.now) c.args.words.now c.loop-word.word-index [] c.loop-word.expanded.words.items c.add_word.new.self.words.items c.word-item.result c.loop-word.invariant c.loop-word-test.true c.word-item.is (rw c.as_str.ensures at c.in_ok-add_word.ensures)
