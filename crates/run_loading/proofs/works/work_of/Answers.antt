use Rattle.std.proofs.Common.{rules}
use Rattle.std.proofs.lemmas.Result.{err_from_is_err_and}
use Rattle.std.specs.Option.{IsSome}
use Rattle.list_actions.specs.Producers.{producer_of}
use Rattle.outside.specs.Floor.{file_at}
use Rattle.run_loading.specs.Sources.{held}
use Rattle.run_loading.specs.Wanted.{paths_of_action}
use Rattle.run_loading.proofs.Made.{all_of_this, works_stop_with}
use Rattle.run_loading.proofs.works.work_of.Goals as goal

pub inputs_of-requires : goal.inputs_of-requires
inputs_of-requires c = all_of_this (λ p. IsSome (file_at (held c.args.sources.now) p)) (paths_of_action (producer_of c.args.producers.now)) c.args.actions.now c.loop-action.action-index c.action-item.result (search rules) c.action-item.is c.requires.files

pub returns-in_err-work_with : goal.returns-in_err-work_with
returns-in_err-work_with c =
    let p = err_from_is_err_and c.from_residual-in_err-work_with.result c.from_residual-in_err-work_with.ensures.1 in
    let i = c.loop-action.invariant in
    rw (p.1, p.2) (works_stop_with (producer_of c.args.producers.now) (held c.args.sources.now) c.args.actions.now c.loop-action.action-index c.loop-action.number c.action-item.result c.in_ok-inputs.inputs c.loop-action.works.items _ (search rules) c.action-item.is i.counted i.made c.in_ok-inputs.ensures c.in_err-work_with.ensures)
