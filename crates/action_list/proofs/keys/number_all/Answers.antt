use Rattle.std.proofs.Common.{◌≡◌, ◌++◌, ◌∷◌, [], map, take, drop, sym, ap, ◌∙◌, ◌+◌}
use Rattle.std.proofs.lemmas.List.{drop_more, map_push, take_more}
use Rattle.action_list.specs.Keys.{keys_among}
use Rattle.action_list.specs.Plans.{number_of}
use Rattle.action_list.proofs.Numbers.{number_stays}
use Rattle.action_list.proofs.keys.number_all.Goals as goal

pub loop-key-preserved : goal.loop-key-preserved
loop-key-preserved c =
    let i = c.loop-key.key-index in
    let held = c.args.held.now in
    let key = c.key-item.result in
    let rest = drop (i + 1) held in
    let final = keys_among [] held in
    let this = take_more held i key c.loop-key-test.true ∙ ap (λ v. take i held ++ v ∷ []) (sym c.key-item.is) in
    let next = drop_more held i key c.loop-key-test.true ∙ ap (λ v. v ∷ rest) (sym c.key-item.is) in
    let found : final ≡ keys_among c.number.new.table rest =
    c.loop-key.invariant.found ∙ ap (keys_among c.loop-key.table) next
    ∙ ap (λ ks. keys_among ks rest) (sym c.in_ok-number.ensures.added) in
    let number = number_stays c.number.new.table rest c.in_ok-number.field-0 key c.in_ok-number.ensures.number c.in_ok-number.ensures.found
    ∙ ap (λ ks. number_of ks key) (sym found) in
    record {
      same = c.in_ok-number.ensures.same c.loop-key.invariant.same;
      found = found;
      numbered =
          c.in_ok-push.ensures.items
          ∙ ap (λ ns. ns ++ c.in_ok-number.field-0 ∷ []) c.loop-key.invariant.numbered
          ∙ ap (λ n. map (number_of final) (take i held) ++ n ∷ []) number
          ∙ sym (map_push (number_of final) (take i held) key)
          ∙ ap (map (number_of final)) (sym this);
    }
