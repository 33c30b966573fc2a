use Rattle.std.proofs.Common.{◌∙◌, refl, ap, rules}
use Rattle.std.specs.Int.{w32}
use Rattle.std.specs.Prelude.{FitsSigned}
use Rattle.std.proofs.lemmas.Int.{to_z-of_z}
use Rattle.std.proofs.lemmas.Result.{err_from_is_err_and}
use Rattle.outside.specs.declared.shop.JobEnd.TheVariants as end
use Rattle.job_runner.specs.Calls.{cannot_read, cannot_start, by_a_signal}
use Rattle.job_runner.specs.Results.{text_of}
use Rattle.job_runner.proofs.Coming.{run_made, nothing_run, run_ends, exit_fails, exit_cut}
use Rattle.job_runner.proofs.Coming.{exit_said, exit_unsaid}
use Rattle.job_runner.proofs.running.start.Goals as goal

pub returns-in_err-code : goal.returns-in_err-code
returns-in_err-code g c =
    let told = g.S.Shop.told in
    let p = err_from_is_err_and c.from_residual.result c.from_residual.ensures.1 in
    let e = c.in_err-code.ensures in
    rw (p.1) (nothing_run c.args.folder.now c.args.job.now p.0 (told c.args.shop.now) (told
    c.run.new.self) e.err e.count.later)

pub returns-in-Signal : goal.returns-in-Signal
unfolding by_a_signal
returns-in-Signal g c =
    let told = g.S.Shop.told in
    let e = c.in_ok-code.ensures in
    let made = run_made _ _ _ c.args.job.now _ _ _ c.as_slice.ensures c.as_slice-2.ensures e.log e.count in
    run_ends c.args.folder.now c.args.job.now end.Signal by_a_signal c.refused-in-Signal.result (told
    c.args.shop.now) (told c.run.new.self) refl c.refused-in-Signal.ensures (rw
    (c.in-Signal.is) at made)

pub returns-in_err-files-in-Exit : goal.returns-in_err-files-in-Exit
returns-in_err-files-in-Exit g c =
    let p = err_from_is_err_and c.from_residual-in_err-files-in-Exit.result
    c.from_residual-in_err-files-in-Exit.ensures.1 in
    let told = g.S.Shop.told in
    let e = c.in_ok-code.ensures in
    let run = run_made _ _ _ c.args.job.now _ _ _ c.as_slice.ensures c.as_slice-2.ensures e.log e.count in
    let made = rw (c.in-Exit.is) at run in
    rw (p.1) (exit_cut c.args.folder.now c.args.job.now c.in-Exit.code c.in-Exit.output (told c.args.shop.now)
    (told c.run.new.self) (told c.collect.new.shop) made p.0 (rw (c.as_slice-in-Exit.ensures)
    at c.in_err-files-in-Exit.ensures))

pub returns-in_err-result-in-Some : goal.returns-in_err-result-in-Some
returns-in_err-result-in-Some g c =
    let p = err_from_is_err_and c.from_residual-in_err-result-in-Some.result
    c.from_residual-in_err-result-in-Some.ensures.1 in
    let told = g.S.Shop.told in
    let e = c.in_ok-code.ensures in
    let run = run_made _ _ _ c.args.job.now _ _ _ c.as_slice.ensures c.as_slice-2.ensures e.log e.count in
    let made = rw (c.in-Exit.is) at run in
    rw (p.1) (exit_unsaid c.args.folder.now c.args.job.now c.in-Exit.code c.in-Exit.output (told
    c.args.shop.now) (told c.run.new.self) (told c.collect.new.shop) made p.0 c.in-Some.files
    (rw (c.as_slice-in-Exit.ensures) at (rw (c.in-Some.is) at c.in_ok-files-in-Exit.ensures)))

pub returns-in-Some : goal.returns-in-Some
returns-in-Some g c =
    let told = g.S.Shop.told in
    let e = c.in_ok-code.ensures in
    let run = run_made _ _ _ c.args.job.now _ _ _ c.as_slice.ensures c.as_slice-2.ensures e.log e.count in
    let made = rw (c.in-Exit.is) at run in
    let fits : FitsSigned w32 c.in-Exit.code = search rules in
    let code = to_z-of_z w32 c.in-Exit.code fits in
    let text = c.in_ok-result-in-Some.ensures ∙ ap text_of c.bytes.ensures in
    exit_said c.args.folder.now c.args.job.now c.in-Exit.code c.in-Exit.output (told c.args.shop.now) (told
    c.run.new.self) (told c.collect.new.shop) made c.in-Some.files c.empty_result-result.result
    _ c.in_ok-result-in-Some.field-0 (rw (c.as_slice-in-Exit.ensures) at (rw (c.in-Some.is) at
    c.in_ok-files-in-Exit.ensures)) c.empty_result-result.ensures code text

pub returns-in-Exit : goal.returns-in-Exit
unfolding cannot_read
returns-in-Exit g c =
    let told = g.S.Shop.told in
    let e = c.in_ok-code.ensures in
    let run = run_made _ _ _ c.args.job.now _ _ _ c.as_slice.ensures c.as_slice-2.ensures e.log e.count in
    let made = rw (c.in-Exit.is) at run in
    exit_fails c.args.folder.now c.args.job.now c.in-Exit.code c.in-Exit.output (told c.args.shop.now) (told
    c.run.new.self) (told c.collect.new.shop) made c.refused.result (rw
    (c.as_slice-in-Exit.ensures) at (rw (c.in-None.is) at c.in_ok-files-in-Exit.ensures))
    c.refused.ensures

pub returns : goal.returns
unfolding cannot_start
returns g c =
    let told = g.S.Shop.told in
    let e = c.in_ok-code.ensures in
    let run = run_made _ _ _ c.args.job.now _ _ _ c.as_slice.ensures c.as_slice-2.ensures e.log e.count in
    run_ends c.args.folder.now c.args.job.now end.Failed cannot_start c.refused-in-Failed.result (told
    c.args.shop.now) (told c.run.new.self) refl c.refused-in-Failed.ensures (rw
    (c.in-Failed.is) at run)
