use Rattle.std.proofs.Common.{◌++◌, get_or, map}
use Rattle.std.proofs.lemmas.List.{get_or_default}
use Rattle.action_list.specs.Uses.{no_use, used_group}
use Rattle.action_list.proofs.Maps.{mapped_more}
use Rattle.action_list.proofs.planning.push_key_groups.Goals as goal

pub loop-one-preserved : goal.loop-one-preserved
loop-one-preserved c =
    let uses = c.args.uses.now in
    let i = c.loop-one.one-index in
    let x = get_or uses i no_use in
    mapped_more (used_group c.args.actions.now c.args.each) uses i x c.loop-one.groups.items c.push.new.self.items
    (c.args.groups.now.items ++ map (used_group c.args.actions.now c.args.each) uses)
    c.loop-one-test.true (get_or_default uses i no_use x c.loop-one-test.true) c.loop-one.invariant (rw c.key_group.ensures at c.in_ok-push.ensures.items)
