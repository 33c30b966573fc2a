use Rattle.std.proofs.Common.{◌≡◌, ℕ, ◌-◌, ◌∙◌, length, take, drop, min, ap, arith}
use Rattle.delimited_framing.proofs.Streams.{length_in_part, length_in_copy}
use Rattle.delimited_framing.proofs.frame.length_at.Goals as goal

pub returns-then-front-long : goal.returns-then-front-long
returns-then-front-long c =
    let long : c.min-long.result ≡ min (length c.args.held.now) 10 = c.min-long.ensures ∙ ap (λ (n : ℕ). min n 10) c.len.ensures in
    length_in_copy c.args.held.now c.as_slice.result.now c.read_varint.result
    (c.as_slice.ensures.value ∙ (c.in_ok-copied.ensures ∙ ap (λ (n : ℕ). take (n - 0) (drop 0 c.args.held.now)) long)) c.read_varint.ensures.read

pub returns : goal.returns
returns c =
    let long : c.min-long.result ≡ min (length c.args.held.now) 10 = c.min-long.ensures ∙ ap (λ (n : ℕ). min n 10) c.len.ensures in
    let test = c.if-front-long.false in
    length_in_part c.args.held.now c.part-front.result.now c.read_varint-2.result c.part-front.ensures (omega arith) c.read_varint-2.ensures.read
