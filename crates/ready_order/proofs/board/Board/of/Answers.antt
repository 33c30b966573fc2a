use Rattle.std.proofs.Common.{◌≡◌, length, subst, sym, inl, inr, arith, ◌∙◌}
use Rattle.std.specs.Prelude.{replicate}
use Rattle.std.proofs.lemmas.Bool.{cases_eq}
use Rattle.std.proofs.lemmas.List.{length-map}
use Rattle.std.proofs.lemmas.Option.{slice_get_within}
use Rattle.ready_order.specs.Board.{RightAt, shape_of, shapes}
use Rattle.ready_order.proofs.Told.{empty_fits, none_supplied, same_right, same_supplied}
use Rattle.ready_order.proofs.board.Board.of.Goals as goal

pub loop-number-init : goal.loop-number-init
loop-number-init c =
    let states = c.args.actions.now in
    let e1 : c.in_ok-supplied.supplied.items ≡ replicate (length states) 0 =
    c.in_ok-supplied.ensures.items_if_clones_equal (λ y h. h) in
    let e2 = c.in_ok-waiting.ensures {u = tt} in
    let e3 = c.in_ok-queues.ensures {u = tt} in
    record {
      fits = rw (e1, e2, e3) (empty_fits
          (shapes states) c.named_groups.result c.named_groups.ensures.named (length states) (sym
          (length-map states shape_of)));
      right = λ a lt. absurd (omega arith);
      fresh = λ a le. rw e1 (none_supplied (length states) a);
    }

pub loop-number-preserved : goal.loop-number-preserved
loop-number-preserved c =
    let n = c.loop-number.number in
    record {
      fits = c.refresh.ensures.fits;
      right = λ a lt. elim (cases_eq a n) [
        | inl same ↦ subst (RightAt c.args.actions.now c.refresh.new.self)
            (sym same) c.refresh.ensures.right
        | inr apart ↦
            same_right c.args.actions.now c.loop-number.board c.refresh.new.self a
            (c.refresh.ensures.others a apart)
            (c.loop-number.invariant.right a (omega arith))
      ];
      fresh = λ a le.
          same_supplied c.loop-number.board c.refresh.new.self a (c.refresh.ensures.others a
          (λ e. absurd (omega arith)))
          ∙ c.loop-number.invariant.fresh a (omega arith);
    }

pub returns-clause-right : goal.returns-clause-right
returns-clause-right c = λ a x here.
    let lt = slice_get_within c.args.actions.now a x here in
    let past = c.loop-number-test.false in
    c.loop-number.invariant.right a (omega arith) x here
