use Rattle.std.proofs.Common.{take, sym, subst}
use Rattle.bare_calls.specs.Starts.{SetsEach}
use Rattle.bare_calls.proofs.Variables.{sets_more, up_to}
use Rattle.bare_calls.proofs.spawn.give_variables.Goals as goal

pub loop-variable-preserved : goal.loop-variable-preserved
loop-variable-preserved c =
    let env = c.args.env.now in
    let i = c.loop-variable.variable-index in
    let v = c.variable-item.result in
    let new = c.give_variable.new.start in
    let more = sets_more (take i env) v c.args.start.now c.loop-variable.start new
    c.loop-variable.invariant c.in_ok-give_variable.ensures in
    subst (λ set. SetsEach set c.args.start.now new) (sym (up_to env i v c.loop-variable-test.true c.variable-item.is)) more
