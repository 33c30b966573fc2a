use Rattle.std.proofs.Common.{◌≡◌, List, ℕ, [], ◌∷◌, ◌++◌, ◌+◌, ◌<◌, ◌≤◌, length, take, get_or, refl, sym, ap, ◌∙◌, arith}
use Rattle.std.specs.Str.Lines.{lines}
use Rattle.std.proofs.lemmas.Iterator.Splits.{YieldsList-from_lines}
use Rattle.std.proofs.lemmas.Iterator.Consumers.{YieldsList-turn, YieldsList-end}
use Rattle.std.proofs.lemmas.List.{length_push, take_more, take_all}
use Rattle.demo_worker.proofs.flags.lines_of.Goals as goal

line_more : (ls copies grown : List (List ℕ)) (k : ℕ) (copy line : List ℕ) → copies ≡ take k ls
    → k < length ls → line ≡ get_or ls k line → copy ≡ line → grown ≡ copies ++ copy ∷ []
    → grown ≡ take (k + 1) ls
line_more ls copies grown k copy line so_far below is same grows = grows
    ∙ ap (λ (xs : List (List ℕ)). xs ++ copy ∷ []) so_far
    ∙ ap (λ (x : List ℕ). take k ls ++ x ∷ []) (same ∙ is)
    ∙ sym (take_more ls k line below)

pub loop-line-preserved : goal.loop-line-preserved
loop-line-preserved c =
    let turn = YieldsList-turn (YieldsList-from_lines c.args.text.now cc) c.loop-line.yielded _
    c.loop-line.yielded_by _ _ c.in-Some.line c.in-Some.is c.next.ensures.steps in (
      tt,
      tt,
      rw length_push (line_more (lines c.args.text.now) c.loop-line.copies.items
          c.push.new.self.items (length c.loop-line.yielded) c.in_ok-copy_of.field-0 c.in-Some.line.now
          c.loop-line.invariant.2 turn.0 turn.1 c.in_ok-copy_of.ensures c.in_ok-push.ensures.items),
    )

pub returns : goal.returns
returns c =
    let end = YieldsList-end (YieldsList-from_lines c.args.text.now cc) c.loop-line.yielded _
    c.loop-line.yielded_by _ _ c.in-None.is c.next.ensures.steps in
    c.loop-line.invariant.2
    ∙ take_all (length c.loop-line.yielded) (lines c.args.text.now) (omega (arith, end.1))
