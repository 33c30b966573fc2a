use Rattle.std.proofs.Common.{◌≡◌, ◌≤◌, ap, sym, refl, ◌∙◌, subst, arith, Some, Option, List, [], ◌∷◌, ◌++◌}
use Rattle.atomic_table.specs.Table.{opening}
use Rattle.seat_desk.specs.declared.held.Held.{Held}
use Rattle.seat_desk.specs.Turns.{Kept, first_view}
use Rattle.seat_desk.proofs.Keeps.{starts}
use Rattle.seat_desk.specs.Helds.{log_of}
use Rattle.seat_desk.proofs.Goods.{good_of}
use Rattle.seat_desk.proofs.Slots.{alone_in}
use Rattle.seat_desk.proofs.desk.Desk.new_or_back.Goals as goal

pub new-requires : goal.new-requires
new-requires g c = let held : Held g.row.M.Denot g.row.M-Call.Denot g.row.M-Reply.Denot = record { machine = c.args.machine; history = c.in-Ok.history } in
    let items : c.push_reserved.new.self.items ≡ Some held ∷ [] = c.push_reserved.ensures.items ∙ ap (λ (l : List (Option (Held g.row.M.Denot g.row.M-Call.Denot g.row.M-Reply.Denot))). l ++ Some held ∷ []) c.in-Ok.ensures.slot.0 in
    let empty : c.in-Ok.history.items ≡ [] = c.in-Ok.ensures.history.0 in
    let room : g.M.Machine.owes (g.M.Machine.basis c.args.machine) c.in-Ok.history.items ≤ c.in-Ok.history.room =
    (let o = ap (g.M.Machine.owes (g.M.Machine.basis c.args.machine)) empty in let w = c.owed.ensures [] c.requires in let ok = c.in-Ok.ensures.history.1 in omega arith) in
    subst (λ (m : g.row.M.Denot). Kept log_of (good_of g.M.Machine) (opening (0 ∷ 0 ∷ []) c.push_reserved.new.self.items (first_view (g.M.Machine.basis m)))) (sym c.of-about.ensures)
    (subst (λ (l : List (Option (Held g.row.M.Denot g.row.M-Call.Denot g.row.M-Reply.Denot))). Kept log_of (good_of g.M.Machine) (opening (0 ∷ 0 ∷ []) l (first_view (g.M.Machine.basis c.args.machine)))) (sym items)
    (starts log_of (good_of g.M.Machine) (g.M.Machine.basis c.args.machine) held empty (subst (λ h. g.M.Machine.stands c.args.machine h) (sym empty) c.requires, room, refl)))

pub machine_in-requires : goal.machine_in-requires
machine_in-requires g c =
    let held : Held g.row.M.Denot g.row.M-Call.Denot g.row.M-Reply.Denot = record { machine = c.args.machine; history = c.in-Ok.history } in
    (c.args.machine, (held, c.in-Err.ensures.err ∙ (c.push_reserved.ensures.items ∙ ap (λ (l : List (Option (Held g.row.M.Denot g.row.M-Call.Denot g.row.M-Reply.Denot))). l ++ Some held ∷ []) c.in-Ok.ensures.slot.0), refl))

pub returns-clause-back : goal.returns-clause-back
returns-clause-back g c =
    let held : Held g.row.M.Denot g.row.M-Call.Denot g.row.M-Reply.Denot = record { machine = c.args.machine; history = c.in-Ok.history } in
    alone_in c.machine_in.result c.args.machine c.in-Err.refused.slots.items c.machine_in.ensures
    (held, c.in-Err.ensures.err ∙ (c.push_reserved.ensures.items ∙ ap (λ (l : List (Option (Held g.row.M.Denot g.row.M-Call.Denot g.row.M-Reply.Denot))). l ++ Some held ∷ []) c.in-Ok.ensures.slot.0), refl)
