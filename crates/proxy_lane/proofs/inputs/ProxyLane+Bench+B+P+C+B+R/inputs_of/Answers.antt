use Rattle.core_contract.specs.Discipline.{makers_in}
use Rattle.core_contract.specs.Ruled.{answer_after}
use Rattle.std.proofs.Common.{ℕ, ◌+◌, ◌<◌, length, List, [], ◌∷◌, ◌++◌, refl, sym, subst, ◌∙◌, take, arith}
use Rattle.std.specs.Prelude.{All}
use Rattle.std.proofs.lemmas.List.{take_all}
use Rattle.std.proofs.lemmas.List.Elements.{All-get_or}
use Rattle.seat_desk.specs.Passes.{basis, seen}
use Rattle.remote_messages.specs.declared.file.NamedFile.{NamedFile}
use Rattle.remote_messages.specs.declared.work.WorkInput.{WorkInput}
use Rattle.proxy_words.specs.Deeds.{AreInputs, look_at, looks_of}
use Rattle.proxy_words.specs.Told.{AreTold}
use Rattle.run_values.specs.Work.{IsMadeBy}
use Rattle.proxy_laws.proofs.Serving.{by_rules}
use Rattle.proxy_laws.proofs.Filing.{inputs_more, input_told, take_next}
use Rattle.proxy_lane.proofs.Siting.{due_on, here_on, stays_here}
use Rattle.proxy_lane.specs.Sites.{WereTold}
use Rattle.proxy_lane.proofs.inputs.ProxyLane+Bench+B+P+C+B+R.inputs_of.Goals as goal

pub loop-input-init : goal.loop-input-init
loop-input-init g c = record {
  stays = stays_here c.args.self.now;
  hands = refl;
  inputs = c.in_ok-files.ensures.items;
  told = tt;
}

pub loop-input-preserved : goal.loop-input-preserved
loop-input-preserved g c =
    let x0 = c.args.self.now in
    let x1 = c.loop-input.self in
    let x2 = c.content_of.new.self in
    let p = x0.caller.pass in
    let p1 = x1.caller.pass in
    let p2 = x2.caller.pass in
    let rules = g.C.Rules.discipline in
    let rule = λ (q : g.row.C-Plan.Denot). answer_after (rules q) in
    let inv = c.loop-input.invariant in
    let same = inv.stays.stays.same in
    let items = c.loop-input.files.items in
    let inputs = c.as_slice-inputs.result.now in
    let x = c.input-item.result in
    let xs = take c.loop-input.input-index inputs in
    let f : NamedFile = record { path = c.in_ok-path.path; content = c.in_ok-content.content } in
    let below : c.loop-input.input-index < length inputs = c.loop-input-test.true in
    let taken = take_next inputs c.loop-input.input-index x below c.input-item.is in
    let pushed = c.in_ok-push.ensures.items in
    let one = c.in_ok-content.ensures in
    let told_one = subst (λ (q : g.row.C-Plan.Denot). AreTold (rule q) p.lane (seen p2)
    (look_at x.origin f.content)) same.2
    (subst (λ (n : ℕ). AreTold (rule (basis p1)) n (seen p2) (look_at x.origin f.content)) same.1
    one.told) in
    let at : (P : List WorkInput → List NamedFile → Type 0) → P (xs ++ x ∷ []) (items ++ f ∷ [])
    → P (take (c.loop-input.input-index + 1) inputs) c.push.new.self.items =
    λ P y. subst (λ (ys : List WorkInput). P ys c.push.new.self.items) (sym taken)
    (subst (λ (fs : List NamedFile). P (xs ++ x ∷ []) fs) (sym pushed) y) in
    record {
      stays = here_on x0 x1 x2 inv.stays one.stays;
      hands = one.hands ∙ inv.hands;
      inputs = at (λ ys fs. AreInputs ys fs)
          (inputs_more xs items x f inv.inputs (c.in_ok-path.ensures ∙ c.as_str.ensures) one.from);
      told = at (λ ys fs. AreTold (rule (basis p)) p.lane (seen p2) (looks_of ys fs))
          (input_told (rule (basis p)) p.lane (seen p1) (seen p2) one.stays.stays.none.0 xs items x f
          inv.inputs inv.told told_one);
    }

pub content_of-requires-clause-due : goal.content_of-requires-clause-due
content_of-requires-clause-due g c = due_on g.C.Rules.discipline c.args.self.now c.loop-input.self
    c.args.request.now c.loop-input.invariant.stays c.requires

pub content_of-requires-clause-made : goal.content_of-requires-clause-made
content_of-requires-clause-made g c =
    let p = c.args.self.now.caller.pass in
    let x = c.input-item.result in
    let a = c.args.request.now.attempt.action in
    let inputs = c.as_slice-inputs.result.now in
    let Made : WorkInput → Type 0 = λ i. IsMadeBy (makers_in (g.C.Rules.discipline (basis p)).plan a) i.origin in
    by_rules (λ q. IsMadeBy (makers_in (g.C.Rules.discipline q).plan a) x.origin) p c.loop-input.self.caller.pass
    c.loop-input.invariant.stays.stays.same
    (subst Made (sym c.input-item.is)
    (All-get_or Made inputs c.loop-input.input-index x c.loop-input-test.true
    (subst (All Made) (sym c.as_slice-inputs.ensures) c.requires.of_action.made)))

pub returns-in_err-files-clause-stays : goal.returns-in_err-files-clause-stays
returns-in_err-files-clause-stays g c = stays_here c.args.self.now

pub returns-in_err-path-clause-stays : goal.returns-in_err-path-clause-stays
returns-in_err-path-clause-stays g c = c.loop-input.invariant.stays

pub returns-in_err-content-clause-stays : goal.returns-in_err-content-clause-stays
returns-in_err-content-clause-stays g c = here_on c.args.self.now c.loop-input.self c.content_of.new.self
    c.loop-input.invariant.stays c.content_of.ensures.stays

pub returns-in_err-push-clause-stays : goal.returns-in_err-push-clause-stays
returns-in_err-push-clause-stays g c = here_on c.args.self.now c.loop-input.self c.content_of.new.self
    c.loop-input.invariant.stays c.content_of.ensures.stays

pub returns-clause-stays : goal.returns-clause-stays
returns-clause-stays g c = c.loop-input.invariant.stays

pub returns-clause-inputs : goal.returns-clause-inputs
returns-clause-inputs g c =
    let inputs = c.as_slice-inputs.result.now in
    subst (λ (xs : List WorkInput). AreInputs xs c.loop-input.files.items)
    (take_all c.loop-input.input-index inputs (omega arith) ∙ c.as_slice-inputs.ensures) c.loop-input.invariant.inputs

pub returns-clause-told : goal.returns-clause-told
returns-clause-told g c =
    let inputs = c.as_slice-inputs.result.now in
    subst (λ (xs : List WorkInput). WereTold g.C.Rules.discipline c.args.self.now c.loop-input.self
    (looks_of xs c.loop-input.files.items))
    (take_all c.loop-input.input-index inputs (omega arith) ∙ c.as_slice-inputs.ensures) c.loop-input.invariant.told
