use Rattle.std.proofs.Common.{length, sym, ◌∙◌, arith}
use Rattle.std.proofs.lemmas.Bool.{eqb-false}
use Rattle.std.specs.Prelude.{string_bytes}
use Rattle.build_report.proofs.Marks.{put_line, put_last, cut_some, cut_none, cut_shorter}
use Rattle.build_report.proofs.words.push_marked.Goals as goal

pub split_once-requires-text-self : goal.split_once-requires-text-self
split_once-requires-text-self c = λ _. c.loop-line.invariant.is_text

pub is_empty-requires-text-self : goal.is_empty-requires-text-self
is_empty-requires-text-self c = λ _. c.loop-line.invariant.is_text

pub loop-line-preserved : goal.loop-line-preserved
loop-line-preserved c =
    put_line (string_bytes c.args.report.now) (string_bytes c.loop-line.report) (string_bytes c.push_line.new.report) c.args.text.now c.loop-line.rest.now c.in-Some.line.now c.in-Some.after.now
    c.loop-line.invariant (cut_some c.loop-line.rest.now c.split_once.result c.in-Some.line c.in-Some.after c.split_once.ensures.cases c.in-Some.is) c.in_ok-push_line.ensures

pub loop-line-smaller : goal.loop-line-smaller
loop-line-smaller c = cut_shorter c.loop-line.rest.now c.in-Some.line.now c.in-Some.after.now (cut_some c.loop-line.rest.now c.split_once.result c.in-Some.line c.in-Some.after c.split_once.ensures.cases c.in-Some.is)

pub returns-in_ok-push_line-2 : goal.returns-in_ok-push_line-2
returns-in_ok-push_line-2 c =
    let full = eqb-false (length c.loop-line.rest.now) 0 (sym c.is_empty.ensures ∙ c.if-not-is_empty.true) in
    put_last (string_bytes c.args.report.now) (string_bytes c.loop-line.report) (string_bytes c.push_line-then-not-is_empty.new.report) c.args.text.now c.loop-line.rest.now
    c.loop-line.invariant (cut_none c.loop-line.rest.now c.split_once.result c.split_once.ensures.cases c.in_default.is) (omega arith) c.in_ok-push_line-2.ensures
