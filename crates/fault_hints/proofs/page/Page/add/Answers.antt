use Rattle.std.proofs.Common.{rules}
use Rattle.fault_hints.proofs.Lines.{AreBehind-pushed}
use Rattle.fault_hints.proofs.page.Page.add.Goals as goal

pub invariant_of-self : goal.invariant_of-self
invariant_of-self c = record {
  behind = AreBehind-pushed _ _ c.args.line.now _ _ c.args.self.now.behind
      (search rules) (search rules) c.push_str.ensures.bytes;
}
