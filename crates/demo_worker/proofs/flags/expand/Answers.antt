use Rattle.std.proofs.Common.{◌≡◌, ℕ, ◌+◌, List, [], ◌∷◌, ◌++◌, drop, map, ap, sym, subst, ◌∙◌}
use Rattle.std.specs.Prelude.{string_bytes}
use Rattle.std.specs.Global.{Vec}
use Rattle.std.proofs.Math.ListN.{drop_of_length-le}
use Rattle.std.proofs.lemmas.Result.{err_from_is_err_and}
use Rattle.outside.specs.declared.floor.SourceFile.{SourceFile}
use Rattle.demo_worker.specs.Words.{flag_file_in, flag_files_of}
use Rattle.demo_worker.specs.Looks.{text_fault}
use Rattle.demo_worker.specs.Once.{expanded}
use Rattle.demo_worker.proofs.Finding.{SoFar, found_none, drop_here, left_is, more, fails, cut}
use Rattle.demo_worker.proofs.Texts.{line_word, file_word, flag_here, no_flag_here, all_expanded}
use Rattle.demo_worker.proofs.flags.expand.Goals as goal
use Rattle.demo_worker.proofs.flags.expand.Goals.{in-Some+in_ok-lines-in-Some+in_ok-append-in-Some, in-None+in_ok-copy_of-in-None+in_ok-push-in-None}

pub loop-word-init : goal.loop-word-init
loop-word-init g c =
    let all = map string_bytes c.args.words.now in (
      [],
      found_none text_fault (flag_files_of all) (g.S.Shop.told c.args.shop.now),
      λ later. ap (λ (ws : List (List ℕ)). ws ++ expanded all later) c.new-expanded.ensures.items,
    )

pub returns-in_err-lines-in-Some : goal.returns-in_err-lines-in-Some
returns-in_err-lines-in-Some g c =
    let told = g.S.Shop.told in
    let words = c.args.words.now in
    let k = c.loop-word.word-index in
    let i = c.loop-word.invariant in
    let p = err_from_is_err_and c.from_residual.result c.from_residual.ensures.1 in
    let all = map string_bytes words in
    let left = map string_bytes (drop k words) in
    let rest = map string_bytes (drop (k + 1) words) in
    let w = string_bytes c.word-item.result in
    let is : left ≡ w ∷ rest = ap (map string_bytes) (drop_here words k c.word-item.result
    c.loop-word-test.true c.word-item.is) in
    let here = flag_here left rest w c.in-Some.path.now is (ap flag_file_in (sym
    c.as_str.ensures.value) ∙ sym c.in-Some.ensures) in
    rw (p.1, p.2) (fails text_fault (flag_files_of all) i.0 (flag_files_of rest) (told
    c.args.shop.now) (told c.loop-word.shop) (told c.lines_in.new.shop) c.in-Some.path.now
    c.in_err-lines-in-Some.field-0.0 (left_is text_fault (flag_files_of all) i.0 _ _ (told
    c.args.shop.now) (told c.loop-word.shop) here i.1) c.in_err-lines-in-Some.ensures)

pub returns-in_err-append-in-Some : goal.returns-in_err-append-in-Some
returns-in_err-append-in-Some g c =
    let told = g.S.Shop.told in
    let words = c.args.words.now in
    let k = c.loop-word.word-index in
    let i = c.loop-word.invariant in
    let p = err_from_is_err_and c.from_residual-in_err-append-in-Some.result
    c.from_residual-in_err-append-in-Some.ensures.1 in
    let all = map string_bytes words in
    let left = map string_bytes (drop k words) in
    let rest = map string_bytes (drop (k + 1) words) in
    let w = string_bytes c.word-item.result in
    let is : left ≡ w ∷ rest = ap (map string_bytes) (drop_here words k c.word-item.result
    c.loop-word-test.true c.word-item.is) in
    let here = flag_here left rest w c.in-Some.path.now is (ap flag_file_in (sym
    c.as_str.ensures.value) ∙ sym c.in-Some.ensures) in
    let h = c.in_ok-lines-in-Some.ensures in
    rw (p.1, p.2) (cut text_fault (flag_files_of all)
    (i.0 ++ record { path = c.in-Some.path.now; bytes = h.1.0 } ∷ []) (flag_files_of rest) (told
    c.args.shop.now) (told c.lines_in.new.shop) (more text_fault (flag_files_of all) i.0
    (flag_files_of rest) (told c.args.shop.now) (told c.loop-word.shop) (told
    c.lines_in.new.shop) c.in-Some.path.now h.1.0 (left_is text_fault (flag_files_of all) i.0 _ _
    (told c.args.shop.now) (told c.loop-word.shop) here i.1) (h.0, h.1.1, h.2)))

pub loop-word-preserved : goal.loop-word-preserved
loop-word-preserved g c =
    let told = g.S.Shop.told in
    let words = c.args.words.now in
    let k = c.loop-word.word-index in
    let i = c.loop-word.invariant in
    let all = map string_bytes words in
    let left = map string_bytes (drop k words) in
    let rest = map string_bytes (drop (k + 1) words) in
    let word = string_bytes c.word-item.result in
    let so_far = c.loop-word.expanded.items in
    let is : left ≡ word ∷ rest = ap (map string_bytes) (drop_here words k c.word-item.result
    c.loop-word-test.true c.word-item.is) in
    elim c.match-flag_file_in.branch [
      | in-Some+in_ok-lines-in-Some+in_ok-append-in-Some w ↦
          let path = w.in-Some.path.now in
          let says = ap flag_file_in (sym c.as_str.ensures.value) ∙ sym w.in-Some.ensures in
          let h = w.in_ok-lines-in-Some.ensures in
          let found = more text_fault (flag_files_of all) i.0 (flag_files_of rest) (told
          c.args.shop.now) (told c.loop-word.shop) (told w.lines_in.new.shop) path h.1.0
          (left_is text_fault (flag_files_of all) i.0 _ _ (told c.args.shop.now) (told
          c.loop-word.shop) (flag_here left rest word path is says) i.1) (h.0, h.1.1, h.2) in (
            i.0 ++ record { path = path; bytes = h.1.0 } ∷ [],
            rw w.shop-is found,
            λ later. ap (λ (ws : List (List ℕ)). ws ++ expanded rest later) (ap (λ (v : Vec (List ℕ)).
                v.items) w.expanded-is ∙ w.in_ok-append-in-Some.ensures.items)
                ∙ file_word all so_far w.in_ok-lines-in-Some.lines.items left rest word path h.1.0 i.0 is
                says h.1.2 i.2 later,
          )
      | in-None+in_ok-copy_of-in-None+in_ok-push-in-None w ↦
          let says = ap flag_file_in (sym c.as_str.ensures.value) ∙ sym w.in-None.ensures in
          let found = left_is text_fault (flag_files_of all) i.0 _ _ (told c.args.shop.now) (told
          c.loop-word.shop) (no_flag_here left rest word is says) i.1 in (
            i.0,
            rw w.shop-is found,
            λ later. ap (λ (ws : List (List ℕ)). ws ++ expanded rest later) (ap (λ (v : Vec (List ℕ)).
                v.items) w.expanded-is ∙ w.in_ok-push-in-None.ensures.items)
                ∙ line_word all so_far left rest word w.in_ok-copy_of-in-None.field-0 i.0 is says
                (w.in_ok-copy_of-in-None.ensures ∙ w.as_str-in-None.ensures.value) i.2 later,
          )
    ]

pub returns : goal.returns
returns g c =
    let told = g.S.Shop.told in
    let words = c.args.words.now in
    let k = c.loop-word.word-index in
    let i = c.loop-word.invariant in
    all_expanded (map string_bytes words) c.loop-word.expanded.items (map string_bytes (drop k
    words)) i.0 (told c.args.shop.now) (told c.loop-word.shop) (ap (map string_bytes)
    (drop_of_length-le words c.loop-word-test.false)) i.1 i.2
