use Rattle.std.proofs.Common.{◌<◌, ◌≤◌, length, get_or, refl, arith}
use Rattle.std.proofs.lemmas.Result.{err_from_is_err_and}
use Rattle.spawn_strategies.specs.declared.types.Name.TheVariants as name
use Rattle.spawn_tasks.proofs.Worded.{AreAsMany, ended, ends, one_more}
use Rattle.spawn_tasks.proofs.wording.reword_all.Goals as goal

pub returns-in_err-reword : goal.returns-in_err-reword
returns-in_err-reword c =
    let p = err_from_is_err_and c.from_residual.result c.from_residual.ensures.1 in
    let ns = c.args.names.now in
    let xs = c.args.actions.now in
    let i = c.loop-number.number in
    let old = c.index-works-number.result in
    let many : AreAsMany ns xs c.args.works.now =
    record { named = c.requires.named; worked = c.requires.worked } in
    let below : i < length xs =
    let all = c.requires.worked in let less = c.loop-number-test.true in omega arith in
    rw (p.1, p.2)
    (ends ns xs c.args.works.now c.loop-number.works i many below (omega arith)
    (get_or ns i name.Worker) name.Worker c.index-actions-number.result
    (get_or c.loop-number.works i old) old
    refl c.index-actions-number.is refl c.loop-number.invariant i _ refl
    c.in_err-reword.ensures)

pub loop-number-preserved : goal.loop-number-preserved
loop-number-preserved c =
    let ns = c.args.names.now in
    let xs = c.args.actions.now in
    let i = c.loop-number.number in
    let old = c.index-works-number.result in
    let many : AreAsMany ns xs c.args.works.now =
    record { named = c.requires.named; worked = c.requires.worked } in
    let below : i < length xs =
    let all = c.requires.worked in let less = c.loop-number-test.true in omega arith in
    one_more ns xs c.args.works.now c.loop-number.works i many below (omega arith)
    (get_or ns i name.Worker) name.Worker c.index-actions-number.result
    (get_or c.loop-number.works i old) old
    refl c.index-actions-number.is refl c.loop-number.invariant
    c.reword.new.work c.in_ok-reword.ensures

pub returns : goal.returns
returns c =
    let ns = c.args.names.now in
    let xs = c.args.actions.now in
    let many : AreAsMany ns xs c.args.works.now =
    record { named = c.requires.named; worked = c.requires.worked } in
    let past : length xs ≤ c.loop-number.number =
    let all = c.requires.worked in let end = c.loop-number-test.false in omega arith in
    ended ns xs c.args.works.now c.loop-number.works c.loop-number.number many (omega arith) past
    c.loop-number.invariant
