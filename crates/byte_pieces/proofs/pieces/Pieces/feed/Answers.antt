use Rattle.std.proofs.Common.{◌≡◌, ◌+◌, ◌++◌, ◌<◌, ◌≤◌, ◌^◌, ◌∙◌, ap, sym, subst, length, arith, rules}
use Rattle.byte_pieces.specs.Queues.{HasRoom, Piece, bytes_of, filled}
use Rattle.byte_pieces.proofs.Places.{fed_pieces}
use Rattle.byte_pieces.proofs.pieces.Pieces.feed.Goals as goal

pub invariant_of-self-2 : goal.invariant_of-self-2
invariant_of-self-2 c =
    let s = c.self.inside in
    let sum : c.in_ok-total.total ≡ s.total + length c.args.bytes.now = search rules in
    let small : c.in_ok-total.total < 2 ^ 64 = search rules in
    let test = c.if-bytes-free.false in
    let less : c.free_in-free.result < length c.args.bytes.now = omega arith in
    (fed_pieces s.full.items c.put_behind.new.full.items c.in_ok-full.full.items s.last c.replace-before.result c.replace-before.new.dest s.total c.in_ok-total.total s.read c.free_in-free.result
    c.args.bytes.now c.split_at.result.0.now c.split_at.result.1.now c.args.self.now c.self.invariant c.self.view_is c.free_in-free.ensures less c.split_at.ensures.front c.split_at.ensures.back
    (ap (λ (v : Piece). v.items) c.replace-before.ensures.value ∙ c.in-Ok-extend_from_slice.ensures.items)
    (ap (λ (v : Piece). bytes_of c.in_ok-full.full.items ++ v.items) c.replace-before.ensures.after ∙ c.in_ok-full.ensures.bytes) c.in_ok-full.ensures.full
    (subst (λ (v : Piece). (length v.items ≤ 16384) × HasRoom v) (sym c.replace-before.ensures.after) c.in_ok-full.ensures.last)
    (c.put_behind.ensures ∙ ap (λ x. x ++ filled c.replace-before.result ++ c.in_ok-full.full.items) c.reserve.ensures.items) sum small).0

pub returns-clause-ok : goal.returns-clause-ok
returns-clause-ok c =
    let s = c.self.inside in
    let sum : c.in_ok-total.total ≡ s.total + length c.args.bytes.now = search rules in
    let small : c.in_ok-total.total < 2 ^ 64 = search rules in
    let test = c.if-bytes-free.false in
    let less : c.free_in-free.result < length c.args.bytes.now = omega arith in
    (fed_pieces s.full.items c.put_behind.new.full.items c.in_ok-full.full.items s.last c.replace-before.result c.replace-before.new.dest s.total c.in_ok-total.total s.read c.free_in-free.result
    c.args.bytes.now c.split_at.result.0.now c.split_at.result.1.now c.args.self.now c.self.invariant c.self.view_is c.free_in-free.ensures less c.split_at.ensures.front c.split_at.ensures.back
    (ap (λ (v : Piece). v.items) c.replace-before.ensures.value ∙ c.in-Ok-extend_from_slice.ensures.items)
    (ap (λ (v : Piece). bytes_of c.in_ok-full.full.items ++ v.items) c.replace-before.ensures.after ∙ c.in_ok-full.ensures.bytes) c.in_ok-full.ensures.full
    (subst (λ (v : Piece). (length v.items ≤ 16384) × HasRoom v) (sym c.replace-before.ensures.after) c.in_ok-full.ensures.last)
    (c.put_behind.ensures ∙ ap (λ x. x ++ filled c.replace-before.result ++ c.in_ok-full.full.items) c.reserve.ensures.items) sum small).1
