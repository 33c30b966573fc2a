use Rattle.std.proofs.Common.{◌≡◌, true, false, List, Some, None, is_some, ap, sym, subst, ◌∙◌, arith}
use Rattle.ready_order.specs.declared.ActionState.{ActionState}
use Rattle.ready_order.specs.Queue.{IsEarliest, IsFirst}
use Rattle.ready_order.specs.Board.{queued_if}
use Rattle.ready_order.proofs.Earliest.{found_is}
use Rattle.ready_order.proofs.Found.{first_none, first_within, first_ready, first_some}
use Rattle.ready_order.proofs.Ready.earliest.Goals as goal

pub returns-then-first : goal.returns-then-first
returns-then-first c =
    let g = c.args.group in
    let none = subst (λ (ss : List ActionState). IsEarliest ss g None) c.self.view_is
    (first_none c.self.inside.actions.items c.self.inside.users c.self.inside.board
    c.self.invariant g c.first-first.result c.first-first.ensures c.if-first.true) in
    record { first = none; search = sym (found_is c.args.self.now g None none) }

pub index-requires : goal.index-requires
index-requires c =
    let lt = first_within c.self.inside.actions.items c.self.inside.users c.self.inside.board
    c.self.invariant c.args.group c.first-first.result c.first-first.ensures c.if-first.false in
    let len = c.self.inside.actions.ok.0 in
    omega arith

pub returns-in_err-branch : goal.returns-in_err-branch
returns-in_err-branch c =
    let has = first_ready c.self.inside.actions.items c.self.inside.users c.self.inside.board
    c.self.invariant c.args.group c.first-first.result c.first-first.ensures c.if-first.false
    c.index.result.now c.index.ensures in
    let none = c.in_err-branch.was in
    let is = c.queued_if.ensures in
    let miss : is_some (queued_if true c.args.group c.index.result.now) ≡ false = ap is_some
    (sym is ∙ none) in
    absurd (cc)

pub overflow_cast-result : goal.overflow_cast-result
overflow_cast-result c =
    let lt = first_within c.self.inside.actions.items c.self.inside.users c.self.inside.board
    c.self.invariant c.args.group c.first-first.result c.first-first.ensures c.if-first.false in
    let most = c.self.invariant.small in
    record { fits = omega arith }

pub returns : goal.returns
returns c =
    let g = c.args.group in
    let first = subst (λ
    (ss : List ActionState). IsFirst ss g c.first-first.result c.in_ok-branch.branch)
    c.self.view_is
    (first_some c.self.inside.actions.items c.self.inside.users c.self.inside.board
    c.self.invariant g c.first-first.result c.first-first.ensures c.if-first.false
    c.index.result.now c.index.ensures c.in_ok-branch.branch (sym c.queued_if.ensures
    ∙ c.in_ok-branch.was)) in
    record {
      first = first;
      search = sym (found_is c.args.self.now g (Some
          (c.first-first.result, c.in_ok-branch.branch)) first);
    }
