use Rattle.std.proofs.Common.{subst}
use Rattle.delimited_framing.specs.declared.frame.Next.TheVariants as next
use Rattle.json_framing.specs.Cutter.{framing_of, held}
use Rattle.json_framing.specs.declared.cutter.Framing.{Framing}
use Rattle.message_service.proofs.Streams.{Gave, heard_frame, heard_none}
use Rattle.work_lanes.proofs.reading.next_request.Goals as goal

pub returns-in-Some-clause-next : goal.returns-in-Some-clause-next
returns-in-Some-clause-next g c =
    let h = held c.args.cutter.now in
    let h' = held c.next.new.self in
    let f = next.Frame c.in-Frame.frame in
    let gave : Gave (framing_of c.args.cutter.now) h f h' =
    rw (c.in-Frame.is) at (c.in_ok-frame.ensures.ok) in
    let reads = rw (c.deref.ensures.value) at (rw (c.in-Some.is) at
    (c.in_ok-request-in-Frame.ensures)) in
    λ fed heard x. heard_frame g.H.Answerer.framing g.H.Answerer.spells fed c.in-Frame.frame heard h h'
    c.in-Some.request (subst (λ (k : Framing). Gave k h f h') c.requires.framing gave) reads x

pub returns-in-Frame-clause-next : goal.returns-in-Frame-clause-next
returns-in-Frame-clause-next g c =
    let h = held c.args.cutter.now in
    let h' = held c.next.new.self in
    let f = next.Frame c.in-Frame.frame in
    let gave : Gave (framing_of c.args.cutter.now) h f h' =
    rw (c.in-Frame.is) at (c.in_ok-frame.ensures.ok) in
    let none = rw (c.deref.ensures.value) at (rw (c.in-None.is) at
    (c.in_ok-request-in-Frame.ensures)) in
    λ fed heard x. heard_none g.H.Answerer.framing g.H.Answerer.spells fed c.in-Frame.frame heard h h'
    (subst (λ (k : Framing). Gave k h f h') c.requires.framing gave) none x
