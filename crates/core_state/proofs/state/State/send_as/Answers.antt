use Rattle.std.proofs.Common.{ap, ◌∙◌}
use Rattle.cancel_rules.specs.Marks.{with_sent}
use Rattle.core_state.proofs.Carried.{number_fits}
use Rattle.core_state.proofs.state.State.send_as.Goals as goal

pub returns-clause-state : goal.returns-clause-state
returns-clause-state c =
    let number = number_fits c.send-number.result _ c.send-number.ensures.number c.requires.small
    ∙ c.send-number.ensures.number in
    let cancels = c.sent.ensures ∙ ap (λ n. with_sent c.args.self.now.cancels c.args.line n
    c.args.attempt.action) number in
    λ i. record {
      plan = c.args.self.now.plan;
      pool = c.occupy.ensures i;
      requests = c.send-number.ensures.facts i;
      cancels = cancels i;
      ready = c.begin.ensures i;
      race = c.args.self.now.race;
      attempts = c.args.self.now.attempts;
      lanes = c.args.self.now.lanes;
      last = c.args.self.now.last;
      greetings = c.args.self.now.greetings;
      matches = c.sent-2.ensures i;
      halted = c.args.self.now.halted;
    }
