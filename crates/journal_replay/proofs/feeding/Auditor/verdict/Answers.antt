use Rattle.std.proofs.Common.{◌≡◌, ◌<◌, ◌^◌, List, ℕ, length, ap, subst, sym, ◌∙◌, arith, ◌++◌, ◌∷◌, []}
use Rattle.journal_text.specs.Lines.{lines_of}
use Rattle.journal_replay.specs.Staged.{KnowsStage}
use Rattle.journal_replay.proofs.Pieces.{fewer_lines, is_none, is_some, known_all, known_last}
use Rattle.journal_replay.proofs.feeding.Auditor.verdict.Goals as goal

pub returns-then-is_empty : goal.returns-then-is_empty
returns-then-is_empty g c = λ skips bytes fed few.
    let a = c.args.self in
    let none : length a.begun.items ≡ 0 = ap length (sym c.as_slice-line.ensures.value) ∙ is_none _ _ c.is_empty.ensures c.if-is_empty.true in
    let knows = known_all skips g.C.Replayed.rules g.C.Replayed.stands a.stage a.number a.begun.items bytes fed none in
    let lines : length (lines_of bytes) < 2 ^ 63 = fewer_lines bytes few in
    c.verdict_on.ensures skips (lines_of bytes) knows lines

pub returns : goal.returns
returns g c = λ skips bytes fed few.
    let a = c.args.self in
    let fewer = fed.split.few in
    let fits : length fed.lines < 2 ^ 63 = omega arith in
    let next = c.in_ok-stage.ensures skips fed.lines fed.knows fed.number_is fits in
    let same = c.as_slice-line.ensures.value in
    let more = is_some _ _ c.is_empty.ensures c.if-is_empty.false in
    let some : 0 < length a.begun.items = subst (λ (l : List ℕ). 0 < length l) same more in
    let last = subst (λ (l : List ℕ). KnowsStage skips g.C.Replayed.rules g.C.Replayed.stands c.in_ok-stage.stage (fed.lines ++ l ∷ [])) same next in
    let knows = known_last skips g.C.Replayed.rules g.C.Replayed.stands a.stage c.in_ok-stage.stage a.number a.begun.items bytes fed some last in
    let lines : length (lines_of bytes) < 2 ^ 63 = fewer_lines bytes few in
    c.verdict_on-2.ensures skips (lines_of bytes) knows lines
