use Rattle.std.proofs.Common.{◌≡◌, ℕ, ◌+◌, List, [], ◌∷◌, ◌++◌, drop, ap, sym, subst, ◌∙◌}
use Rattle.std.specs.Global.{Vec}
use Rattle.std.proofs.lemmas.Result.{err_from_is_err_and}
use Rattle.outside.specs.declared.floor.SourceFile.{SourceFile}
use Rattle.demo_worker.specs.Words.{input_in, inputs_of}
use Rattle.demo_worker.specs.Looks.{file_fault, contents_of}
use Rattle.demo_worker.proofs.Finding.{SoFar, path_here, no_path_here, none_from, left_is, more, fails, cut, contents_more}
use Rattle.demo_worker.proofs.looking.gather.Goals as goal
use Rattle.demo_worker.proofs.looking.gather.Goals.{in-Some+in_ok-content+in_ok-extend_from_slice, in_default}

pub returns-in_err-content : goal.returns-in_err-content
returns-in_err-content g c =
    let told = g.S.Shop.told in
    let words = c.args.words.now in
    let k = c.loop-word.word-index in
    let i = c.loop-word.invariant in
    let p = err_from_is_err_and c.from_residual.result c.from_residual.ensures.1 in
    let here = path_here input_in words k c.word-item.result c.in-Some.path.now
    c.loop-word-test.true c.word-item.is (ap input_in (sym c.as_str.ensures) ∙ sym c.in-Some.ensures) in
    rw (p.1, p.2) (fails file_fault (inputs_of words) i.0 (inputs_of (drop (k + 1) words))
    (told c.args.shop.now) (told c.loop-word.shop) (told c.look.new.shop) c.in-Some.path.now
    c.in_err-content.field-0.0 (left_is file_fault (inputs_of words) i.0 _ _ (told
    c.args.shop.now) (told c.loop-word.shop) here i.1) c.in_err-content.ensures)

pub returns-in_err-extend_from_slice : goal.returns-in_err-extend_from_slice
returns-in_err-extend_from_slice g c =
    let told = g.S.Shop.told in
    let words = c.args.words.now in
    let k = c.loop-word.word-index in
    let i = c.loop-word.invariant in
    let p = err_from_is_err_and c.from_residual-in_err-extend_from_slice.result
    c.from_residual-in_err-extend_from_slice.ensures.1 in
    let here = path_here input_in words k c.word-item.result c.in-Some.path.now
    c.loop-word-test.true c.word-item.is (ap input_in (sym c.as_str.ensures) ∙ sym c.in-Some.ensures) in
    let left = inputs_of (drop (k + 1) words) in
    rw (p.1, p.2) (cut file_fault (inputs_of words)
    (i.0 ++ record { path = c.in-Some.path.now; bytes = c.in_ok-content.content } ∷ []) left
    (told c.args.shop.now) (told c.look.new.shop)
    (more file_fault (inputs_of words) i.0 left (told c.args.shop.now) (told c.loop-word.shop) (told
    c.look.new.shop) c.in-Some.path.now c.in_ok-content.content (left_is file_fault (inputs_of
    words) i.0 _ _ (told c.args.shop.now) (told c.loop-word.shop) here i.1) c.in_ok-content.ensures))

pub loop-word-preserved : goal.loop-word-preserved
loop-word-preserved g c =
    let told = g.S.Shop.told in
    let words = c.args.words.now in
    let k = c.loop-word.word-index in
    let i = c.loop-word.invariant in
    let left = inputs_of (drop (k + 1) words) in
    elim c.match-input_in.branch [
      | in-Some+in_ok-content+in_ok-extend_from_slice w ↦
          let path = w.in-Some.path.now in
          let bytes = w.in_ok-content.content in
          let here = path_here input_in words k c.word-item.result path c.loop-word-test.true
          c.word-item.is (ap input_in (sym c.as_str.ensures) ∙ sym w.in-Some.ensures) in
          let so_far = more file_fault (inputs_of words) i.0 left (told c.args.shop.now) (told
          c.loop-word.shop) (told w.look.new.shop) path bytes (left_is file_fault (inputs_of words)
          i.0 _ _ (told c.args.shop.now) (told c.loop-word.shop) here i.1) w.in_ok-content.ensures in (
            i.0 ++ record { path = path; bytes = bytes } ∷ [],
            rw w.shop-is so_far,
            ap (λ (v : Vec ℕ). v.items) w.contents-is ∙ w.in_ok-extend_from_slice.ensures.items
                ∙ ap (λ (bs : List ℕ). c.loop-word.contents.items ++ bs) w.bytes.ensures
                ∙ ap (λ (bs : List ℕ). bs ++ bytes) i.2 ∙ sym (contents_more i.0 path bytes),
          )
      | in_default w ↦
          let here = no_path_here input_in words k c.word-item.result c.loop-word-test.true
          c.word-item.is (ap input_in (sym c.as_str.ensures) ∙ sym c.input_in.ensures
          ∙ none_from c.input_in.result w.in_default.not-Some) in (
            i.0,
            rw w.shop-is (left_is file_fault (inputs_of words) i.0 _ _ (told c.args.shop.now)
                (told c.loop-word.shop) here i.1),
            ap (λ (v : Vec ℕ). v.items) w.contents-is ∙ i.2,
          )
    ]
