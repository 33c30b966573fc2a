use Rattle.std.proofs.Common.{ℕ, Option, refl, sym, subst, ◌∙◌}
use Rattle.seat_desk.specs.Passes.{mine}
use Rattle.core_contract.specs.Shelf.{child_at}
use Rattle.proxy_laws.specs.Steps.{AreLaidBy}
use Rattle.proxy_laws.proofs.Acting.{none_there, some_there}
use Rattle.proxy_lane.proofs.killing.ProxyLane+Bench+B+P+C+B+R.give_up.Goals as goal

pub lay_by-requires-clause-opened : goal.lay_by-requires-clause-opened
lay_by-requires-clause-opened g c = sym c.open_line.ensures ∙ c.in-Some-open_line.is

pub lay_by-requires-clause-child : goal.lay_by-requires-clause-child
lay_by-requires-clause-child g c =
    some_there g.B.Child.Child.told (child_at c.args.self.now.site.berth (mine c.args.self.now.caller.pass))
    c.in-Some-open_line.line c.halt-child.result c.in-Some.child c.halt-child.ensures.child
    (c.requires.tidy ∙ (sym c.open_line.ensures ∙ c.in-Some-open_line.is)) c.in-Some.is

pub returns-in-Some-open_line : goal.returns-in-Some-open_line
returns-in-Some-open_line g c =
    record {
      same = record { pass = c.halt-child.ensures.same; site = refl };
      halted = c.halt-child.ensures.halted;
      laid_by = subst (λ (o : Option ℕ). AreLaidBy o c.args.self.now.hands c.lay_by.new.self)
          (sym (sym c.open_line.ensures ∙ c.in-Some-open_line.is)) c.lay_by.ensures;
    }

pub returns-in-None-open_line : goal.returns-in-None-open_line
returns-in-None-open_line g c =
    let h = c.args.self.now.hands in
    record {
      same = record { pass = c.halt-child.ensures.same; site = refl };
      halted = c.halt-child.ensures.halted;
      laid_by = subst (λ (o : Option ℕ). AreLaidBy o h h)
          (sym (sym c.open_line.ensures ∙ c.in-None-open_line.is)) refl;
    }

pub returns-in-None : goal.returns-in-None
returns-in-None g c =
    let h = c.args.self.now.hands in
    let none = none_there g.B.Child.Child.told (child_at c.args.self.now.site.berth (mine c.args.self.now.caller.pass))
    c.halt-child.result c.halt-child.ensures.child c.in-None.is in
    record {
      same = record { pass = c.halt-child.ensures.same; site = refl };
      halted = c.halt-child.ensures.halted;
      laid_by = subst (λ (o : Option ℕ). AreLaidBy o h h) (sym (sym c.requires.tidy ∙ none)) refl;
    }
