use Rattle.std.proofs.Common.{◌≡◌, ℕ, true, false, List, Some, None, is_some, ap, sym, subst, arith}
use Rattle.run_plan.specs.declared.plan.Branch.{Branch}
use Rattle.ready_order.specs.declared.ActionState.{ActionState}
use Rattle.ready_order.specs.Queue.{is_queued, least_among}
use Rattle.ready_order.proofs.Among.{asked_of, least_asked, least_none, least_within, least_ready, least_some}
use Rattle.ready_order.proofs.Ready.least_among.Goals as goal

pub least_among-first-requires : goal.least_among-first-requires
least_among-first-requires g c =
    let ask = g.G.GroupSet.can_ask c.args.groups.now in
    asked_of c.self.inside.actions.items ask
    (subst (λ (ss : List ActionState). (k a : ℕ) (b : Branch) → is_queued ss k a b ≡ true → ask k)
    (sym c.self.view_is) c.requires) c.self.inside.users c.self.inside.board c.self.invariant

pub queued_among-requires : goal.queued_among-requires
queued_among-requires g c =
    let ask = g.G.GroupSet.can_ask c.args.groups.now in
    let set = g.G.GroupSet.contains c.args.groups.now in
    least_asked c.self.inside.actions.items c.self.inside.users c.self.inside.board
    c.self.invariant set c.least_among-first.result c.least_among-first.ensures c.if-first.false
    c.index.result.now c.index.ensures ask
    (subst (λ (ss : List ActionState). (k a : ℕ) (b : Branch) → is_queued ss k a b ≡ true → ask k)
    (sym c.self.view_is) c.requires)

pub returns-then-first : goal.returns-then-first
returns-then-first g c =
    let set = g.G.GroupSet.contains c.args.groups.now in
    subst (λ (ss : List ActionState). None ≡ least_among ss set) c.self.view_is
    (least_none c.self.inside.actions.items c.self.inside.users c.self.inside.board
    c.self.invariant set c.least_among-first.result c.least_among-first.ensures c.if-first.true)

pub index-requires : goal.index-requires
index-requires g c =
    let set = g.G.GroupSet.contains c.args.groups.now in
    let lt = least_within c.self.inside.actions.items c.self.inside.users c.self.inside.board
    c.self.invariant set c.least_among-first.result c.least_among-first.ensures
    c.if-first.false in
    let len = c.self.inside.actions.ok.0 in
    omega arith

pub returns-in_err-branch : goal.returns-in_err-branch
returns-in_err-branch g c =
    let set = g.G.GroupSet.contains c.args.groups.now in
    let has = least_ready c.self.inside.actions.items c.self.inside.users c.self.inside.board
    c.self.invariant set c.least_among-first.result c.least_among-first.ensures c.if-first.false
    c.index.result.now c.index.ensures c.queued_among.result c.queued_among.ensures in
    let none : is_some c.queued_among.result ≡ false = ap is_some c.in_err-branch.was in
    absurd (cc)

pub overflow_cast-result : goal.overflow_cast-result
overflow_cast-result g c =
    let set = g.G.GroupSet.contains c.args.groups.now in
    let lt = least_within c.self.inside.actions.items c.self.inside.users c.self.inside.board
    c.self.invariant set c.least_among-first.result c.least_among-first.ensures
    c.if-first.false in
    let most = c.self.invariant.small in
    record { fits = omega arith }

pub returns : goal.returns
returns g c =
    let set = g.G.GroupSet.contains c.args.groups.now in
    subst (λ (ss : List ActionState). Some (c.least_among-first.result, c.in_ok-branch.branch)
    ≡ least_among ss set) c.self.view_is
    (least_some c.self.inside.actions.items c.self.inside.users c.self.inside.board
    c.self.invariant set c.least_among-first.result c.least_among-first.ensures c.if-first.false
    c.index.result.now c.index.ensures c.queued_among.result c.in_ok-branch.branch
    c.queued_among.ensures c.in_ok-branch.was)
