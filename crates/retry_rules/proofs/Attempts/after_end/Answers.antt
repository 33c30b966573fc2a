use Rattle.std.proofs.Common.{◌∙◌, ap, sym, ◌+◌, arith}
use Rattle.retry_rules.specs.Counts.{count_of}
use Rattle.retry_rules.proofs.Counted.{read, written, count_one_more, answer_is}
use Rattle.retry_rules.proofs.Attempts.after_end.Goals as goal

pub with_one_more-row-requires : goal.with_one_more-row-requires
with_one_more-row-requires c =
    let is = read _ _ c.args.action c.args.branch c.index.result.now c.self.view_is c.requires.known c.index.ensures in
    let below = c.requires.unspent in
    let limit = ap (λ f. f.limit) c.self.view_is in
    omega arith

pub returns-clause-answer : goal.returns-clause-answer
returns-clause-answer c =
    let is = read _ _ c.args.action c.args.branch c.index.result.now c.self.view_is c.requires.known c.index.ensures in
    answer_is _ _ _ _ _ c.self.view_is c.what_follows.ensures
    (c.of.ensures ∙ ap (count_of c.args.branch) c.with_one_more-row.ensures ∙ count_one_more c.args.branch _ ∙ ap (λ n. n + 1) (sym is))

pub returns-clause-facts : goal.returns-clause-facts
returns-clause-facts c =
    written _ _ c.args.action c.args.branch c.index.result.now c.with_one_more-row.result c.self.view_is c.requires.known c.index.ensures c.with_one_more-row.ensures
