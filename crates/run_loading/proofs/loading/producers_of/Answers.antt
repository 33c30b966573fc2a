use Rattle.std.proofs.Common.{rules}
use Rattle.run_loading.proofs.Made.{makers_known, makers_more}
use Rattle.run_loading.proofs.loading.producers_of.Goals as goal

pub loop-action-preserved : goal.loop-action-preserved
loop-action-preserved c =
    let i = c.loop-action.invariant in
    let noted = rw (c.as_slice.ensures) at c.in_ok-note_all.ensures in
    record {
      counted = search rules;
      known = makers_more c.args.actions.now c.loop-action.action-index c.loop-action.number c.action-item.result c.loop-action.producers c.note_all.new.self (search rules) c.action-item.is i.counted i.known noted;
    }

pub returns : goal.returns
returns c = makers_known c.args.actions.now c.loop-action.action-index c.loop-action.producers c.loop-action-test.false c.loop-action.invariant.known
