-- The run is `run_build`'s, and the text stands behind its report.
use Rattle.std.proofs.Common.{◌≡◌, ◌∙◌, List, None, Some, ap, map, string_bytes, subst, sym}
use Rattle.exec_journal.specs.Entry.{Entry}
use Rattle.journal_text.specs.Lines.{text_of}
use Rattle.tool_words.specs.Options.{options_of}
use Rattle.recorded_runs.proofs.Kept.{keeps_late}
use Rattle.recorded_runs.proofs.Put.{counts_late, never_untold, none_by, not_none, records_late, records_report, records_whole, yes_if}
use Rattle.recorded_runs.proofs.recording.run_recorded.Goals as goal
use Rattle.recorded_runs.specs.Recorded.{IsJudgedYes}
use Rattle.worker_run.specs.Ends.{Puts}
use Rattle.worker_run.specs.Seen.{EndedTold}

pub returns-then-is_some-clause-report : goal.returns-then-is_some-clause-report
returns-then-is_some-clause-report g c =
    let b = c.run_build-ended in
    let same : c.ended.inside.fault ≡ b.result.fault =
    cc (ap (λ (e : EndedTold). e.fault) c.ended.view_is) in
    records_report b.result (g.O.Sink.told c.args.out.now) (g.O.Sink.told b.new.out)
    (λ none. not_none c.ended.inside.fault (sym c.is_some.ensures ∙ c.if-is_some.true)
    (same ∙ none)) b.ensures.report

pub returns-in-Some-put_journal-clause-run : goal.returns-in-Some-put_journal-clause-run
returns-in-Some-put_journal-clause-run g c =
    let b = c.run_build-ended in
    let is = b.ensures in
    let e = c.end_late.ensures in
    let none = none_by _ _ c.ended.view_is (sym c.is_some.ensures ∙ c.if-is_some.false) in
    keeps_late (options_of (map string_bytes c.args.words.now)) (g.F.Floor.told c.args.floor)
    b.result c.end_late.result c.in-Some-put_journal.fault c.in-Some-put_journal.ensures.kind is.run none e.fault e.status e.task e.left e.floor

pub returns-in-Some-put_journal-clause-report : goal.returns-in-Some-put_journal-clause-report
returns-in-Some-put_journal-clause-report g c =
    let b = c.run_build-ended in
    let e = c.end_late.ensures in
    let view = c.ended.view_is in
    let none = none_by _ _ c.ended.view_is (sym c.is_some.ensures ∙ c.if-is_some.false) in
    let its : b.result.task ≡ Some c.in-Some.task =
    cc (c.in-Some.is, ap (λ (e : EndedTold). e.task) view) in
    let path : c.ended.inside.laid.journal ≡ b.result.left.journal =
    cc (ap (λ (e : EndedTold). e.left.journal) view) in
    let mid = g.O.Sink.told b.new.out in
    let new = g.O.Sink.told c.put_journal.new.out in
    let f = c.in-Some-put_journal.fault in
    records_late b.result c.in-Some.task (g.O.Sink.told c.args.out.now) mid new none its
    b.ensures.report c.end_late.result f e.fault e.task e.left c.in-Some-put_journal.ensures.kind
    (subst (λ (j : List Entry). Puts (Some f) (text_of c.in-Some.task.plan j) mid new) path
    c.in-Some-put_journal.ensures.put)

pub returns-in-None-put_journal-clause-report : goal.returns-in-None-put_journal-clause-report
returns-in-None-put_journal-clause-report g c =
    let b = c.run_build-ended in
    let view = c.ended.view_is in
    let none = none_by _ _ c.ended.view_is (sym c.is_some.ensures ∙ c.if-is_some.false) in
    let its : b.result.task ≡ Some c.in-Some.task =
    cc (c.in-Some.is, ap (λ (e : EndedTold). e.task) view) in
    let path : c.ended.inside.laid.journal ≡ b.result.left.journal =
    cc (ap (λ (e : EndedTold). e.left.journal) view) in
    let mid = g.O.Sink.told b.new.out in
    let new = g.O.Sink.told c.put_journal.new.out in
    records_whole b.result c.in-Some.task (g.O.Sink.told c.args.out.now) mid new none its
    b.ensures.report (subst (λ (j : List Entry). Puts None (text_of c.in-Some.task.plan j) mid new)
    path c.in-None-put_journal.ensures.put)

pub returns-in-Some-put_journal-clause-sink : goal.returns-in-Some-put_journal-clause-sink
returns-in-Some-put_journal-clause-sink g c =
    let b = c.run_build-ended in
    counts_late (g.O.Sink.told c.args.out.now).faults (g.O.Sink.told b.new.out).faults
    (g.O.Sink.told c.put_journal.new.out).faults _ _ _ b.ensures.sink c.in-Some-put_journal.ensures.sink
    (λ failed. sym c.end_late.ensures.fault ∙ failed)

pub returns-in-None-put_journal-clause-sink : goal.returns-in-None-put_journal-clause-sink
returns-in-None-put_journal-clause-sink g c =
    let b = c.run_build-ended in
    let view = c.ended.view_is in
    let none = none_by _ _ c.ended.view_is (sym c.is_some.ensures ∙ c.if-is_some.false) in
    counts_late (g.O.Sink.told c.args.out.now).faults (g.O.Sink.told b.new.out).faults
    (g.O.Sink.told c.put_journal.new.out).faults _ _ _ b.ensures.sink c.in-None-put_journal.ensures.sink
    (λ failed. sym none ∙ failed)

pub returns-in-None-put_journal-clause-judged : goal.returns-in-None-put_journal-clause-judged
returns-in-None-put_journal-clause-judged g c =
    let b = c.run_build-ended in
    let view = c.ended.view_is in
    let its : b.result.task ≡ Some c.in-Some.task =
    cc (c.in-Some.is, ap (λ (e : EndedTold). e.task) view) in
    let path : c.ended.inside.laid.journal ≡ b.result.left.journal =
    cc (ap (λ (e : EndedTold). e.left.journal) view) in
    yes_if b.result c.in-Some.task its (subst (λ (j : List Entry). IsJudgedYes c.in-Some.task.plan j) path
    c.in-None-put_journal.ensures.judged)

pub returns-in-None-clause-report : goal.returns-in-None-clause-report
returns-in-None-clause-report g c =
    let b = c.run_build-ended in
    let view = c.ended.view_is in
    let none = none_by _ _ c.ended.view_is (sym c.is_some.ensures ∙ c.if-is_some.false) in
    let untold : b.result.task ≡ None = cc (c.in-None.is, ap (λ (e : EndedTold). e.task) view) in
    absurd (never_untold b.result.fault b.result.task b.ensures.run.task.told none untold)

pub returns-in-None-clause-judged : goal.returns-in-None-clause-judged
returns-in-None-clause-judged g c =
    let b = c.run_build-ended in
    let view = c.ended.view_is in
    let none = none_by _ _ c.ended.view_is (sym c.is_some.ensures ∙ c.if-is_some.false) in
    let untold : b.result.task ≡ None = cc (c.in-None.is, ap (λ (e : EndedTold). e.task) view) in
    absurd (never_untold b.result.fault b.result.task b.ensures.run.task.told none untold)
