use Rattle.std.proofs.Common.{rules, ◌∙◌, ap, sym, List, [], ◌∷◌, ◌++◌, ◌+◌, drop, subst}
use Rattle.std.specs.Global.{Vec}
use Rattle.std.proofs.lemmas.Result.{err_from_is_err_and}
use Rattle.job_runner.proofs.Looks.{Looked, looked_none, looked_found, looked_absent, looked_failed}
use Rattle.job_runner.proofs.Looks.{looked_cut, looked_all}
use Rattle.remote_messages.specs.declared.file.NamedFile.{NamedFile}
use Rattle.job_runner.proofs.collecting.collect.Goals as goal
use Rattle.job_runner.proofs.collecting.collect.Goals.{in-Found, in-Absent}

pub loop-output-init : goal.loop-output-init
loop-output-init g c =
    looked_none c.args.folder.now c.args.outputs.now c.new-files.result.items
    (g.S.Shop.told c.args.shop.now) c.new-files.ensures.items

pub returns-in_err-content : goal.returns-in_err-content
returns-in_err-content g c =
    let told = g.S.Shop.told in
    let p = err_from_is_err_and c.from_residual-in_err-content.result
    c.from_residual-in_err-content.ensures.1 in
    rw (p.1) (looked_cut c.args.folder.now c.args.outputs.now c.loop-output.files.items _
    (told c.args.shop.now) (told c.loop-output.shop) (told c.get_one.new.shop)
    c.loop-output.invariant
    c.in_err-content.ensures.none)

pub returns-in-Failed : goal.returns-in-Failed
returns-in-Failed g c =
    let told = g.S.Shop.told in
    let is = c.in-Failed.is in
    looked_failed c.args.folder.now c.args.outputs.now c.loop-output.output-index
    c.output-item.result
    c.as_str-in-loop-output.result.now (search rules) c.output-item.is
    c.as_str-in-loop-output.ensures
    (told c.args.shop.now) (told c.loop-output.shop) (told c.get_one.new.shop)
    c.loop-output.files.items c.loop-output.invariant (rw is at c.in_ok-content.ensures.made)

pub loop-output-preserved : goal.loop-output-preserved
loop-output-preserved g c =
    let told = g.S.Shop.told in
    let i = c.loop-output.invariant in
    let kept = c.in_ok-reserve.ensures.items in
    let path = c.in_ok-path.ensures ∙ c.as_str.ensures ∙ sym c.as_str-in-loop-output.ensures in
    elim c.match-branch-4.branch [
      | in-Found w ↦
          let is = w.in-Found.is in
          let grown = ap (λ (v : Vec NamedFile). v.items) w.files-is ∙ w.push_reserved.ensures.items
          ∙ ap (λ (fs : List NamedFile). fs ++ record {
            path = c.in_ok-path.path;
            content =
                w.in-Found.content;
          } ∷ []) kept in
          looked_found c.args.folder.now c.args.outputs.now c.loop-output.output-index
          c.output-item.result c.as_str-in-loop-output.result.now (search rules) c.output-item.is
          c.as_str-in-loop-output.ensures (told c.args.shop.now) (told c.loop-output.shop)
          (told c.get_one.new.shop) c.loop-output.files.items c.match-branch-4.files.items
          c.in_ok-path.path w.in-Found.content path grown i (rw is at c.in_ok-content.ensures.made)
      | in-Absent w ↦
          let is = w.in-Absent.is in
          let same = ap (λ (v : Vec NamedFile). v.items) w.files-is ∙ kept in
          subst (λ (fs : List NamedFile). Looked c.args.folder.now c.args.outputs.now fs
          (drop (c.loop-output.output-index + 1) c.args.outputs.now) (told c.args.shop.now)
          (told c.get_one.new.shop)) (sym same)
          (looked_absent c.args.folder.now c.args.outputs.now c.loop-output.output-index
          c.output-item.result c.as_str-in-loop-output.result.now (search rules) c.output-item.is
          c.as_str-in-loop-output.ensures (told c.args.shop.now) (told c.loop-output.shop)
          (told c.get_one.new.shop) c.loop-output.files.items i (rw is at
          c.in_ok-content.ensures.made))
    ]

pub returns : goal.returns
returns g c =
    let told = g.S.Shop.told in
    rw c.of.ensures (looked_all c.args.folder.now c.args.outputs.now c.loop-output.output-index
    c.loop-output.files.items (told c.args.shop.now) (told c.loop-output.shop)
    c.loop-output-test.false c.loop-output.invariant)
