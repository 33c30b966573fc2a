use Rattle.std.proofs.Common.{◌++◌, length, map, min, ap, ◌∙◌, arith}
use Rattle.std.proofs.lemmas.List.{length-map}
use Rattle.std.proofs.lemmas.List.FromFn.{length-map-range_with_len}
use Rattle.action_list.specs.Plans.{executor_groups, share}
use Rattle.action_list.specs.Uses.{use_in, used_group}
use Rattle.action_list.proofs.Uses.{whole_groups}
use Rattle.action_list.proofs.planning.groups_of.Goals as goal

pub share-each-requires-clause-few : goal.share-each-requires-clause-few
share-each-requires-clause-few c =
    let numbers = c.as_slice.result.now in
    let keys = c.as_slice-2.result.now in
    let counted = ap length (c.as_slice-4.ensures.value ∙ c.in_ok-counts.ensures) in
    let mapped = length-map c.as_slice-3.result.now (λ u. u.users) in
    let used = ap length (c.as_slice-3.ensures.value ∙ c.in_ok-uses.ensures) in
    let long = length-map-range_with_len (use_in numbers) 0 (length keys) in
    let same = ap length c.as_slice-2.ensures in
    let few = c.requires.few in
    let most = c.requires.whole.few in
    omega (arith, counted, mapped, used, long, same, few, most)

pub returns : goal.returns
returns c =
    c.of.ensures ∙ whole_groups c.args.actions.now c.args.made.now.keys c.args.made.now.numbers c.args.instances c.args.remote
    c.in_ok-uses.uses.items c.in_ok-counts.counts.items c.share-each.result c.push_key_groups.new.groups.items c.push_executor.new.groups.items
    c.requires.keys c.requires.numbers
    (rw (c.as_slice.ensures, c.as_slice-2.ensures) at c.in_ok-uses.ensures)
    (c.in_ok-counts.ensures ∙ ap (map (λ u. u.users)) c.as_slice-3.ensures.value)
    (c.share-each.ensures.is ∙ ap (λ cs. share cs c.args.instances) c.as_slice-4.ensures.value)
    (c.in_ok-push_key_groups.ensures ∙ ap (λ gs. gs ++ map (used_group c.args.actions.now c.share-each.result) c.as_slice-5.result.now) c.new-groups.ensures.items
    ∙ ap (map (used_group c.args.actions.now c.share-each.result)) c.as_slice-5.ensures.value)
    (c.in_ok-push_executor.ensures ∙ ap (λ n. c.push_key_groups.new.groups.items ++ executor_groups n) (c.min.ensures ∙ ap (min c.args.remote) c.remote_users.ensures))
