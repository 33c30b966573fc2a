use Rattle.std.proofs.Common.{◌∙◌, sym, rules}
use Rattle.seat_desk.specs.History.{entry}
use Rattle.lane_threads.proofs.Callings.{called_so, not_kept, refused_later}
use Rattle.lane_threads.proofs.caller.Caller.ask.Goals as goal

pub returns-then-not-is_idle-clause-answer : goal.returns-then-not-is_idle-clause-answer
returns-then-not-is_idle-clause-answer g c = (
  called_so c.args.self.now.pass c.loop.self.pass c.call-in-loop.new.self.pass c.call.result (g.Q.Question.asks c.args.question.now) c.in-Ok.reply c.in-Ok.good
      c.loop.invariant.2 c.call.ensures c.in-Ok.ensures.answer,
  sym c.is_idle.ensures ∙ c.if-not-is_idle.true,
)

pub returns-in-Err-clause-refused : goal.returns-in-Err-clause-refused
returns-in-Err-clause-refused g c = let r = c.in-Err.ensures.refused in
    (r.0 ∙ c.call.ensures, r.1, refused_later c.args.self.now.pass c.loop.self.pass c.call-in-loop.new.self.pass c.loop.invariant.2 r.2)

pub loop-preserved : goal.loop-preserved
loop-preserved g c = (
  tt,
  search rules,
  not_kept c.args.self.now.pass c.loop.self.pass c.call-in-loop.new.self.pass c.call.result c.in-Ok.reply c.in-Ok.good
      c.loop.invariant.2 c.in-Ok.ensures.same c.in-Ok.ensures.answer
      (g.met.Q.Question.idle_is_not_kept (entry c.args.self.now.pass.lane c.call.result c.in-Ok.reply) (sym c.is_idle.ensures ∙ c.if-not-is_idle.false)),
)
