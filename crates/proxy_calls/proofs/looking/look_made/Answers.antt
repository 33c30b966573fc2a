use Rattle.core_contract.specs.Ruled.{CameAbout, answer_after}
use Rattle.std.proofs.Common.{◌≡◌, ℕ, Some, true, sym, subst}
use Rattle.exec_journal.specs.declared.call.Call.{Call}
use Rattle.exec_journal.specs.declared.call.Call.TheVariants as call
use Rattle.exec_journal.specs.declared.call.Wanted.TheVariants as wanted
use Rattle.core_contract.specs.Laws.{says_file}
use Rattle.proxy_calls.proofs.Entries.{legal_at, own_at}
use Rattle.proxy_calls.proofs.Lookings.{may_look_made, duty_there}
use Rattle.proxy_calls.proofs.Making.{look_found, look_none, look_told}
use Rattle.proxy_calls.proofs.looking.look_made.Goals as goal

pub returns-in-File-clause-told : goal.returns-in-File-clause-told
returns-in-File-clause-told g c =
    let p = c.args.caller.now.pass in
    let law = g.met.C.Rules in
    let a = c.in-Ok.ensures.answer in
    let may = may_look_made (g.C.Rules.discipline p.seat.me.0.basis) c.args.berth p.seat.me.0.mine c.args.attempt
    c.args.maker c.requires.owes c.requires.made in
    look_told g.C.Rules.discipline law.keeps c.args.berth p c.call.new.self.pass a.0
    c.requires.lane (wanted.Made c.args.maker.action c.args.maker.output) c.in-Ok.answer.0 may (a.1, a.2, a.3)
    (Some c.in-File.bytes) c.in-File.is

pub returns-in-File-clause-stays : goal.returns-in-File-clause-stays
returns-in-File-clause-stays g c =
    let p = c.args.caller.now.pass in
    let law = g.met.C.Rules in
    let a = c.in-Ok.ensures.answer in
    let may = may_look_made (g.C.Rules.discipline p.seat.me.0.basis) c.args.berth p.seat.me.0.mine c.args.attempt
    c.args.maker c.requires.owes c.requires.made in
    record {
      same = c.call.ensures.same;
      none = look_none g.C.Rules.discipline law.keeps c.args.berth p c.call.new.self.pass
          a.0 c.requires.lane (wanted.Made c.args.maker.action c.args.maker.output) c.in-Ok.answer.0 may
          (a.1, a.2, a.3);
    }

pub returns-in-Ok-clause-stays : goal.returns-in-Ok-clause-stays
returns-in-Ok-clause-stays g c =
    let p = c.args.caller.now.pass in
    let law = g.met.C.Rules in
    let a = c.in-Ok.ensures.answer in
    let may = may_look_made (g.C.Rules.discipline p.seat.me.0.basis) c.args.berth p.seat.me.0.mine c.args.attempt
    c.args.maker c.requires.owes c.requires.made in
    record {
      same = c.call.ensures.same;
      none = look_none g.C.Rules.discipline law.keeps c.args.berth p c.call.new.self.pass
          a.0 c.requires.lane (wanted.Made c.args.maker.action c.args.maker.output) c.in-Ok.answer.0 may
          (a.1, a.2, a.3);
    }

pub unreachable-requires : goal.unreachable-requires
unreachable-requires g c =
    let p = c.args.caller.now.pass in
    let q = p.seat.me.0.basis in
    let w = c.args.berth in
    let law = g.met.C.Rules in
    let rule = answer_after (g.C.Rules.discipline q) in
    let a = c.in-Ok.ensures.answer in
    let x = wanted.Made c.args.maker.action c.args.maker.output in
    let asks : Call = call.Look x in
    let may = may_look_made (g.C.Rules.discipline q) w p.seat.me.0.mine c.args.attempt c.args.maker c.requires.owes
    c.requires.made in
    let legal = legal_at p a.0 (λ x h. CameAbout (g.C.Rules.discipline x) h) a.5
    (λ m h s. law.came m.core h s.0) in
    let owes = c.requires.owes in
    let duty = duty_there p.lane w owes.0 owes.1 c.args.attempt a.0 p.seat.me.0.mine c.requires.lane.0
    (own_at p.lane p.seat.me.0 a.0 a.1 p.idle.3) owes.2 in
    let there = (law.keeps q).inputs_are_there a.0 w owes.0 owes.1 c.args.attempt c.args.maker.action
    c.args.maker.output legal duty c.requires.made in
    look_found g.C.Rules.discipline law.keeps w p c.call.new.self.pass a.0
    c.requires.lane x c.in-Ok.answer.0 may (a.1, a.2, a.3)
    (subst (λ (n : ℕ). says_file (rule a.0 n asks) ≡ true) (sym c.requires.lane.0) there) c.in-NoFile.is
