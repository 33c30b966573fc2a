use Rattle.std.proofs.Common.{◌≡◌, true, ℕ, length, sym, subst, ◌/◌}
use Rattle.core_contract.specs.Discipline.{Discipline}
use Rattle.core_contract.specs.Ruled.{answer_after}
use Rattle.exec_journal.specs.declared.call.Call.{Call}
use Rattle.core_contract.specs.Laws.{says_file, lines_in, OrderHolds}
use Rattle.core_contract.specs.Moves.{History}
use Rattle.core_contract.specs.Shelf.{child_at}
use Rattle.core_machine.specs.Bench.{Lies, GoesIn, ComesOut}
use Rattle.core_machine.specs.Waking.{Wakes}
use Rattle.core_machine.proofs.Turns.{LawsAt, History_after, turns}
use Rattle.core_machine.proofs.Wakings.{wakes_next}
use Rattle.core_machine.proofs.bench.BenchMachine.TheImpl.Goals as goal

pub turn-tells : goal.turn-tells
turn-tells g _ _ _ _ c =
    let child = g.B.Child.Child.told in
    let tap = g.B.Tap.Tap.told in
    let place = g.P.Place.told in
    let core = c.args.self.now.core in
    let rules = g.C.Rules.discipline in
    let basis = g.C.Rules.plan core in
    let q : Discipline = rules basis in
    let lane = c.args.lane in
    let keeps = g.met.C.Rules.keeps basis in
    let came = g.met.C.Rules.came core in
    let at : (h : History) → g.C.Rules.stands core h → LawsAt q h lane = λ h s. record {
      known = λ x n. keeps.lanes_are_known h lane x n;
      takes = λ l e. keeps.takes_there h lane l (came h s) e;
      kills = λ l y e. subst (OrderHolds (length q.plan.actions) (child_at (lane / 2) h)
          (lines_in h)) e
          (keeps.orders_hold h lane (came h s));
      grants = λ a b t fs e. keeps.grants_once h lane a b t fs (came h s) e;
      commits = λ a b how n. keeps.commits_own h lane a b how (came h s) n;
    } in
    let turn : (h : History) → g.C.Rules.stands core h
    → Lies child tap place q h
    c.args.self.now.shelf.children.items c.args.self.now.shelf.taps.items
    c.args.self.now.shelf.places.items
    → GoesIn child tap place q h lane c.args.call.now c.args.put
    → ComesOut child tap place q h lane c.args.call.now c.result.0 c.result.1
    × Lies child tap place q (History_after h lane c.args.call.now c.result.0)
    c.new.self.now.shelf.children.items c.new.self.now.shelf.taps.items
    c.new.self.now.shelf.places.items
    = λ h s lies goes.
    turns child tap place q
    (λ (h : History) (lane : ℕ) (c : Call). says_file (answer_after q h lane c) ≡ true)
    h lane (at h s) c.args.call.now c.result.0 c.args.put
    _ _ _ _ _ _ c.result.1 (c.ensures.reply h s) goes lies
    c.ensures.children c.ensures.taps c.ensures.places c.ensures.good in
    let later = c.new.self.now.core in
    let basis_later = g.C.Rules.plan later in
    let wakes = λ (h : History) (s : g.C.Rules.stands core h
    × Lies child tap place q h
    c.args.self.now.shelf.children.items c.args.self.now.shelf.taps.items
    c.args.self.now.shelf.places.items
    × Wakes q h c.args.self.now.waking).
    wakes_next (rules basis_later) (g.C.Rules.news later)
    (λ k l x n. (g.met.C.Rules.keeps basis_later).lanes_are_known k l x n)
    ((g.met.C.Rules.keeps basis_later).few
    (g.met.C.Rules.came later (History_after h lane c.args.call.now c.result.0)
    (c.ensures.stands h s.0)).sound)
    h lane c.args.call.now
    c.result.0 c.args.self.now.waking c.new.self.now.waking c.ensures.waking
    (subst (λ (p : g.row.C-Plan.Denot). Wakes (rules p) h c.args.self.now.waking)
    (sym c.ensures.plan) s.2)
    (λ l. g.met.C.Rules.news_are later (History_after h lane c.args.call.now c.result.0) l
    (c.ensures.stands h s.0)) in
    record {
      basis = c.ensures.plan;
      reply = λ h s goes. c.ensures.reply h s.0;
      stands = λ h s goes. (
        c.ensures.stands h s.0,
        subst (λ (p : g.row.C-Plan.Denot).
            Lies child tap place (rules p)
            (History_after h lane c.args.call.now c.result.0)
            c.new.self.now.shelf.children.items c.new.self.now.shelf.taps.items
            c.new.self.now.shelf.places.items)
            (sym c.ensures.plan) (turn h s.0 s.1 goes).1,
        wakes h s,
      );
      good = λ h s goes. (turn h s.0 s.1 goes).0;
    }
