use Rattle.std.proofs.Common.{subst, sym}
use Rattle.run_plan.specs.declared.plan.Plan.{Plan}
use Rattle.exec_journal.specs.Paired.{Paired}
use Rattle.journal_audit.proofs.Only.{only}
use Rattle.journal_audit.proofs.asked.AskedReplayed.reply.Goals as goal

pub returns-clause-legal : goal.returns-clause-legal
returns-clause-legal g c = λ b j stands. g.met.P.Opens.legal_makes b j stands.both.legal

pub returns-clause-paired : goal.returns-clause-paired
returns-clause-paired g c = λ b j stands.
    subst (λ (p : Plan). Paired p j) (sym (g.met.P.Opens.plan_fits b)) (c.step.ensures.orderly b j stands).paired

pub returns-clause-only : goal.returns-clause-only
returns-clause-only g c = λ b j x stood made.
    only (g.P.Policy.discipline b) j c.args.lane c.args.call.now c.step.result x (c.step.ensures.reply b j stood) (g.met.P.Opens.makes_legal b _ made).1
