use Rattle.core_contract.specs.Discipline.{outputs_in}
use Rattle.core_contract.specs.Ruled.{answer_after}
use Rattle.std.proofs.Common.{◌≡◌, ◌<◌, ℕ, ℤ, ◌+◌, Option, Some, List, [], ◌∷◌, ◌++◌, length, refl, ap, sym, subst, ◌∙◌, arith, w32, SFits, rules as facts}
use Rattle.std.proofs.Math.Facts.{to_z-of_z}
use Rattle.seat_desk.specs.Passes.{basis, seen}
use Rattle.exec_journal.specs.declared.call.Wanted.TheVariants as wanted
use Rattle.exec_journal.specs.declared.call.Call.TheVariants as call
use Rattle.core_contract.specs.Duties.{Gathers, duty_of}
use Rattle.proxy_words.specs.Deeds.{Looked, looks_from, lacks}
use Rattle.proxy_words.specs.Told.{IsTold, AreTold}
use Rattle.proxy_calls.specs.Calls.{MayMake}
use Rattle.proxy_laws.proofs.Acting.{may_look_at}
use Rattle.proxy_laws.proofs.Filing.{output_told, looks_on}
use Rattle.proxy_lane.proofs.Siting.{looked_on, now_at_site, stays_here}
use Rattle.proxy_lane.proofs.gathering.ProxyLane+Bench+B+P+C+B+R.answered.Goals as goal

length_on : (fs : List (List ℕ)) (f : List ℕ) → length (fs ++ f ∷ []) ≡ length fs + 1
length_on [] f = refl
length_on (x ∷ fs) f = let y = length_on fs f in omega arith

pub look-requires-clause-lane : goal.look-requires-clause-lane
look-requires-clause-lane g c = (now_at_site g.C.Rules.discipline c.args.self.now c.loop-output.self
    c.loop-output.invariant.stays c.requires.gather.at_site).lane

pub look-requires-clause-may : goal.look-requires-clause-may
look-requires-clause-may g c =
    let fits : SFits w32 c.args.answer.now.number = search facts in
    let rules = g.C.Rules.discipline in
    let w = c.loop-output.self.site.berth in
    let p1 = c.loop-output.self.caller.pass in
    let x = c.args.answer.now in
    let a = x.attempt.action in
    let stays = c.loop-output.invariant.stays.stays in
    let good = c.requires.good in
    let duty = ap duty_of stays.none.1 ∙ (c.requires.gather.owes
    ∙ (λ i. Gathers x.line x.number x.attempt (good.0 i) (good.1 i))) in
    let outputs = c.as_slice-outputs.ensures ∙ (c.requires.gather.of_action.same_outputs
    ∙ ap (λ (q : g.row.C-Plan.Denot). outputs_in (rules q).plan a) (sym stays.same.2)) in
    let below = subst (λ (xs : List (List ℕ)). c.loop-output.output < length xs) outputs
    c.loop-output-test.true in
    subst (λ (n : ℤ). MayMake rules w p1 (call.Look (wanted.Answered x.line n c.loop-output.output)))
    (sym (to_z-of_z fits))
    (may_look_at (rules (basis p1)) w p1.seat.me.0.mine x.line x.number x.attempt c.loop-output.output duty below)

pub loop-output-init : goal.loop-output-init
loop-output-init g c = record {
  stays = stays_here c.args.self.now;
  hands = refl;
  files = ap length c.in_ok-files.ensures.items;
  told = subst (λ (fs : List (List ℕ)). AreTold (answer_after (g.C.Rules.discipline (basis c.args.self.now.caller.pass)))
      c.args.self.now.caller.pass.lane (seen c.args.self.now.caller.pass)
      (looks_from c.args.answer.now.line c.args.answer.now.number 0 fs)) (sym c.in_ok-files.ensures.items) tt;
}

pub loop-output-preserved : goal.loop-output-preserved
loop-output-preserved g c =
    let fits : SFits w32 c.args.answer.now.number = search facts in
    let p = c.args.self.now.caller.pass in
    let p1 = c.loop-output.self.caller.pass in
    let p2 = c.look.new.caller.pass in
    let rules = g.C.Rules.discipline in
    let rule = λ (q : g.row.C-Plan.Denot). answer_after (rules q) in
    let inv = c.loop-output.invariant in
    let out = c.loop-output.output in
    let l = c.args.answer.now.line in
    let n = c.args.answer.now.number in
    let items = c.loop-output.files.items in
    let bytes = c.in-Some.bytes in
    let x : Looked = record { wanted = wanted.Answered l n out; found = Some bytes } in
    let pushed = c.in_ok-push-in-Some.ensures.items in
    let one = subst (λ q. IsTold (rule q) p.lane (seen p2) x) inv.stays.stays.same.2
    (subst (λ (k : ℕ). IsTold (rule (basis p1)) k (seen p2) x) inv.stays.stays.same.1
    (subst (λ (o : Option (List ℕ)). IsTold (rule (basis p1)) p1.lane (seen p2)
    (record { wanted = wanted.Answered l n out; found = o })) c.in-Some.is
    (subst (λ (m : ℤ). IsTold (rule (basis p1)) p1.lane (seen p2)
    (record { wanted = wanted.Answered l m out; found = c.in_ok-bytes.field-0 }))
    (to_z-of_z fits) c.in_ok-bytes.ensures.told))) in
    record {
      stays = looked_on c.args.self.now c.loop-output.self _ inv.stays c.look.ensures.stays refl;
      hands = inv.hands;
      files = ap length pushed ∙ (length_on items bytes ∙ ap (λ (k : ℕ). k + 1) inv.files);
      told = subst (λ (fs : List (List ℕ)). AreTold (rule (basis p)) p.lane (seen p2)
          (looks_from l n 0 fs)) (sym pushed)
          (subst (λ (ls : List Looked). AreTold (rule (basis p)) p.lane (seen p2) ls)
          (sym (looks_on l n items bytes out inv.files))
          (output_told (rule (basis p)) p.lane (seen p1) (seen p2) c.look.ensures.stays.none.0 l n items out x
          inv.files inv.told one));
    }

pub returns-in_err-bytes-clause-stays : goal.returns-in_err-bytes-clause-stays
returns-in_err-bytes-clause-stays g c = looked_on c.args.self.now c.loop-output.self _
    c.loop-output.invariant.stays c.look.ensures.stays refl

pub returns-in_err-push-in-Some-clause-stays : goal.returns-in_err-push-in-Some-clause-stays
returns-in_err-push-in-Some-clause-stays g c = looked_on c.args.self.now c.loop-output.self _
    c.loop-output.invariant.stays c.look.ensures.stays refl

pub returns-in-None-clause-stays : goal.returns-in-None-clause-stays
returns-in-None-clause-stays g c = looked_on c.args.self.now c.loop-output.self _
    c.loop-output.invariant.stays c.look.ensures.stays refl

pub returns-in-None-clause-answered : goal.returns-in-None-clause-answered
returns-in-None-clause-answered g c =
    let fits : SFits w32 c.args.answer.now.number = search facts in
    let p = c.args.self.now.caller.pass in
    let p1 = c.loop-output.self.caller.pass in
    let p2 = c.look.new.caller.pass in
    let rules = g.C.Rules.discipline in
    let rule = λ (q : g.row.C-Plan.Denot). answer_after (rules q) in
    let inv = c.loop-output.invariant in
    let out = c.loop-output.output in
    let l = c.args.answer.now.line in
    let n = c.args.answer.now.number in
    let one = subst (λ q. IsTold (rule q) p.lane (seen p2) (lacks l n out)) inv.stays.stays.same.2
    (subst (λ (k : ℕ). IsTold (rule (basis p1)) k (seen p2) (lacks l n out)) inv.stays.stays.same.1
    (subst (λ (o : Option (List ℕ)). IsTold (rule (basis p1)) p1.lane (seen p2)
    (record { wanted = wanted.Answered l n out; found = o })) c.in-None.is
    (subst (λ (m : ℤ). IsTold (rule (basis p1)) p1.lane (seen p2)
    (record { wanted = wanted.Answered l m out; found = c.in_ok-bytes.field-0 }))
    (to_z-of_z fits) c.in_ok-bytes.ensures.told))) in (
      (search facts),
      (
        c.loop-output.files.items,
        inv.files,
        output_told (rule (basis p)) p.lane (seen p1) (seen p2)
            c.look.ensures.stays.none.0 l n c.loop-output.files.items out (lacks l n out) inv.files inv.told one,
      ),
    )

pub returns-in_err-files-clause-stays : goal.returns-in_err-files-clause-stays
returns-in_err-files-clause-stays g c = stays_here c.args.self.now

pub returns-clause-stays : goal.returns-clause-stays
returns-clause-stays g c = c.loop-output.invariant.stays
