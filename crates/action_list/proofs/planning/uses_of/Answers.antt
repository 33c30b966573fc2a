use Rattle.std.proofs.Common.{◌≡◌, ◌<◌, length, take, sym, ap, subst, ◌∙◌, arith, get_or, None}
use Rattle.std.proofs.lemmas.List.{get_or_default, length-take-le, with_items_is}
use Rattle.action_list.specs.Uses.{no_use, uses_of, with_use}
use Rattle.action_list.proofs.Uses.{few_users, none_used, uses_more}
use Rattle.action_list.proofs.planning.uses_of.Goals as goal

pub loop-number-init : goal.loop-number-init
loop-number-init c = record {
  counted = omega arith;
  used = c.in_ok-uses.ensures ∙ none_used c.args.count;
}

pub note_use-requires : goal.note_use-requires
note_use-requires c = record {
  few = λ n.
      let i = c.loop-number.number-index in
      let numbers = c.args.numbers.now in
      let below = c.loop-number-test.true in
      let all = c.requires in
      let long = length-take-le i numbers (omega (arith, below)) in
      let users = few_users c.args.count (take i numbers) n in
      let same : c.deref_mut.result.now ≡ uses_of c.args.count (take i numbers) = c.deref_mut.ensures.value ∙ c.loop-number.invariant.used in
      subst (λ us. (get_or us n no_use).users < 4096) (sym same) (omega (arith, users, long, below, all));
}

pub loop-number-preserved : goal.loop-number-preserved
loop-number-preserved c =
    let i = c.loop-number.number-index in
    let numbers = c.args.numbers.now in
    let uses = c.loop-number.uses in
    let x = get_or numbers i None in
    let new = c.note_use.new.uses in
    let len : length new ≡ uses.len = c.note_use.auto.uses ∙ c.deref_mut.ensures.len in
    record {
      counted = omega (arith, c.loop-number.invariant.counted);
      used =
          with_items_is uses new len ∙ c.note_use.ensures
          ∙ ap (λ us. with_use us x c.loop-number.index) (c.deref_mut.ensures.value ∙ c.loop-number.invariant.used)
          ∙ ap (λ n. with_use (uses_of c.args.count (take i numbers)) x n) c.loop-number.invariant.counted
          ∙ uses_more c.args.count i numbers x c.loop-number-test.true (get_or_default numbers i None x c.loop-number-test.true);
    }
