use Rattle.std.proofs.Common.{◌∙◌, ◌++◌, ap, sym, subst, length}
use Rattle.std.proofs.lemmas.List.Elements.{All-push}
use Rattle.std.specs.Prelude.{All}
use Rattle.byte_pieces.specs.Queues.{IsFull, bytes_of}
use Rattle.byte_pieces.proofs.Places.{more_pieces}
use Rattle.byte_pieces.proofs.pieces.pieces_of.Goals as goal

pub loop-rest-preserved : goal.loop-rest-preserved
loop-rest-preserved c = let inv = c.loop-rest.invariant in let same = c.in_ok-piece_of.ensures.bytes in let pushed = c.in_ok-push.ensures.items in (
  ap (λ f. bytes_of f ++ c.split_at.result.1.now) pushed
      ∙ more_pieces c.loop-rest.full.items c.in_ok-piece_of.field-0 c.split_at.result.0.now c.split_at.result.1.now c.loop-rest.rest.now c.args.bytes.now inv.0 c.split_at.ensures.by_index.0 same,
  subst (All IsFull) (sym pushed) (All-push IsFull c.loop-rest.full.items c.in_ok-piece_of.field-0 inv.1 (ap length same ∙ c.split_at.ensures.front_len)),
)
